-- Small cases of the steps of T-03, computed by the checker from the step's definition: the least number that is out of range, who is asked about, what goes of the
-- waiting messages and what stays, who is declared dead, probed or asked to let in, who keeps a node from recovering, and what a full pool takes in. Assumes nothing.
use mathlib.Core.Path.{◌≡◌, refl}
use mathlib.Core.List.{List, [], ◌∷◌, ◌++◌}
use Prim.Native.Nat.{ℕ}
use lib.ListN.{replicate}
use Rattle.ring.specs.Distance.{signed_of, abs_dist_of, rises_to, nearer}
use Rattle.ring.specs.Distance.{fall_of}
use Rattle.marks.specs.Marks.{has, gather, tally, all_to, single, union, meet, add_of, remove_of, size_of, listed}
use Rattle.rules.specs.declared.Action.{Action}
use Rattle.rules.specs.declared.Action.TheVariants.{Join, NodeLeft, SuspectFaulty, ProbeTimeOut, DeclareDead, LSRepair, ResignNode, Recover}
use Rattle.rules.specs.declared.Status.{Status}
use Rattle.rules.specs.declared.Status.TheVariants.{Dead, Wait, Ok, Ready}
use Rattle.rules.specs.declared.Node.{Node}
use Rattle.rules.specs.declared.Message.{Message}
use Rattle.rules.specs.declared.Pool.{Pool}
use Rattle.rules.specs.Letters.{no_sides, lookup, join_reply, join_request, ls_probe, ls_probe_reply}
use Rattle.rules.specs.Nodes.{placed}
use Rattle.rules.specs.Numbers.{answer_number}
use Rattle.rules.specs.Pool.{laid}
use Rattle.rules.specs.Pick.{best}
use Rattle.rules.specs.Closest.{closest}
use Rattle.rules.specs.Leaf.{content_of, seen_from, leaf_with, overlaps, is_full, is_complete, is_empty}
use Rattle.rules.specs.Mail.{alike, all_different, first_from, first_equal, added, removed_at, sent_to, join_waits, without_probes, reply_waits}
use Rattle.rules.specs.Fits.{numbers_fit, id_fits, side_fits, leaf_fits, others_fit, node_fits, is_blank, slot_fits}
use Rattle.rules.specs.Fits.{word_fits, flag_fits, carried_fits, owner_fits, routing_fits, failed_fits, fields_fit, message_fits, farther_than, hops_fit}
use Rattle.rules.specs.Plans.{mailed}
use Rattle.plan.specs.Actions.{plan_join, is_neighbour}
use Rattle.plan.specs.Leave.{ends_to_probe, last_end}
use Rattle.plan.specs.Leave.{plan_node_left, plan_suspect_faulty, plan_probe_time_out, plan_declare_dead, plan_ls_repair, plan_resign_node, plan_recover}
use Rattle.table_type.specs.declared.Table.{Table}
use Rattle.table_type.specs.declared.Stepped.{Stepped}
use Rattle.start.specs.Start.{slot_ids, slots_to, start_node, start_nodes, start_fits, ids_rise, list_fits}
use Rattle.table_type.specs.Start.{start_of, table_of}
use Rattle.table_type.specs.Table.{node_at, with_node}
use Rattle.table.specs.Valid.{nodes_fit, messages_fit, pool_fits, valid_of}
use Rattle.table.specs.Settle.{carried_out, settle}
use Rattle.table.specs.Settled.{ready_set, ok_set}
use Rattle.step.specs.Step.{asked, act_of, is_sound, step_of}

-- 17, 18, 65 and 95 are ready
abbrev ring : Table
ring = table_of (start_of 8 1 (17 ∷ 18 ∷ 65 ∷ 95 ∷ []) 15)

abbrev none : Pool
none = laid []

abbrev number : Table → Pool → Action → ℕ
number t p a = answer_number (step_of t p 256 a).answer

-- ---- slot out of range

pub record Ranges : Type 0 where
  pub left : (number ring none (NodeLeft 4) ≡ 1) × (number ring none (NodeLeft 3) ≡ 0)
  pub suspects : (number ring none (SuspectFaulty 4 0) ≡ 1) × (number ring none (SuspectFaulty 0 4) ≡ 1) × (number ring none (SuspectFaulty 3 3) ≡ 5)
  pub times : (number ring none (ProbeTimeOut 4 0) ≡ 1) × (number ring none (ProbeTimeOut 0 4) ≡ 1) × (number ring none (ProbeTimeOut 3 3) ≡ 5)
  pub declares : (number ring none (DeclareDead 4 0) ≡ 1) × (number ring none (DeclareDead 0 4) ≡ 1) × (number ring none (DeclareDead 3 3) ≡ 5)
  pub repairs : (number ring none (LSRepair 4) ≡ 1) × (number ring none (LSRepair 3) ≡ 2)
  pub resigns : (number ring none (ResignNode 4 0) ≡ 1) × (number ring none (ResignNode 0 4) ≡ 1) × (number ring none (ResignNode 3 3) ≡ 2)
  pub recovers : (number ring none (Recover 4) ≡ 1) × (number ring none (Recover 3) ≡ 2)

-- ---- the waiting probes go, and nothing else does

-- 17 suspects 18, whose sides are 95 and 65: a lookup waits before its probe
abbrev suspected : Stepped
suspected = step_of ring (laid (placed (lookup 200) 2 ∷ [])) 256 (SuspectFaulty 0 1)

abbrev probe : ℕ → ℕ → Message
probe i j = placed (ls_probe i (record { left = (node_at ring i).left; right = (node_at ring i).right }) 0) j

-- probes of 17, with others before, between and behind
abbrev mixed : Pool
mixed =
    laid (placed (lookup 200) 2 ∷ probe 0 1 ∷ probe 1 0 ∷ placed (ls_probe 0 no_sides 0) 1 ∷ probe 0 2 ∷ placed (ls_probe_reply 0 no_sides 0) 1 ∷ [])

pub record Probed : Type 0 where
  pub sent : suspected.pool ≡ laid (placed (lookup 200) 2 ∷ probe 0 1 ∷ [])
  pub gone : (step_of suspected.table suspected.pool 256 (ProbeTimeOut 0 1)).pool ≡ laid (placed (lookup 200) 2 ∷ [])
  pub others : (step_of suspected.table mixed 256 (ProbeTimeOut 0 1)).pool
      ≡ laid (placed (lookup 200) 2 ∷ probe 1 0 ∷ probe 0 2 ∷ placed (ls_probe_reply 0 no_sides 0) 1 ∷ [])
  -- what a node that leaves has sent stays
  pub left : (number ring mixed (NodeLeft 0) ≡ 0) × ((step_of ring mixed 256 (NodeLeft 0)).pool ≡ mixed)
  -- a refused step leaves the probes
  pub refused : (step_of ring mixed 256 (ProbeTimeOut 0 1)).pool ≡ mixed

-- ---- one that is held for failed, and a leaf set that is short

-- by id, status, the sides and failed
abbrev bare : ℕ → Status → ℕ → ℕ → ℕ → Node
bare id s left right failed =
    record { id = id; status = s; left = left; right = right; probing = 0; failed = failed; routing = 15; lease = 0; grant = 0 }

-- 17 holds 18, on its left, for failed
abbrev doubted : Table
doubted = with_node ring 0 (bare 17 Ready 2 8 2)

-- 17 waits with 18 on its left and 95 on its right, of two each; the others are dead, but for those named
abbrev short : ℕ → Table
short ready = with_node (table_of (start_of 8 2 (17 ∷ 18 ∷ 65 ∷ 95 ∷ []) ready)) 0 (bare 17 Wait 2 8 0)

abbrev asks : ℕ → Message
asks j = placed (ls_probe 0 (record { left = 2; right = 8 }) 0) j

pub record Repaired : Type 0 where
  -- the second is declared dead, by the first, who has it failed and does not probe it
  pub declares : (number doubted none (DeclareDead 0 1) ≡ 0) × (number doubted none (DeclareDead 1 0) ≡ 5) × (number doubted none (ProbeTimeOut 0 1) ≡ 5)
  pub declared : (step_of doubted none 256 (DeclareDead 0 1)).table ≡ with_node ring 0 (bare 17 Wait 0 8 2)
  -- both ends are probed, whoever is up beside it; to recover is refused for one that is up, and then for both sides
  pub repairs : (number (short 2) none (LSRepair 0) ≡ 0) × (number (short 1) none (LSRepair 0) ≡ 0)
  pub probes : (step_of (short 2) none 256 (LSRepair 0)).pool ≡ laid (asks 1 ∷ asks 3 ∷ [])
  pub not-recovers : (number (short 2) none (Recover 0) ≡ 2) × (number (short 1) none (Recover 0) ≡ 4)

-- ---- one that waits, and those beside it

-- 18 waits with 65 on its left and nobody on its right; the others are dead, but for 95
abbrev waiter : Node
waiter = record { id = 18; status = Wait; left = 4; right = 0; probing = 0; failed = 0; routing = 2; lease = 0; grant = 0 }

abbrev beside : Status → Table
beside s =
    with_node (with_node (table_of (start_of 8 2 (17 ∷ 18 ∷ 65 ∷ 95 ∷ []) 8)) 1 waiter) 3
    (record { id = 95; status = s; left = 0; right = 0; probing = 0; failed = 0; routing = 8; lease = 8; grant = 8 })

-- a JoinRequest of 18 that carries this routing set waits for this slot
abbrev requests : ℕ → ℕ → List Message
requests routing d = placed (join_request 1 routing) d ∷ []

abbrev resigned : List Message → Pool
resigned ms = (step_of (beside Ready) (laid ms) 256 (ResignNode 1 3)).pool

abbrev resigned_node : Node
resigned_node = record { id = 18; status = Wait; left = 0; right = 0; probing = 0; failed = 0; routing = 2; lease = 0; grant = 0 }

pub record Alone : Type 0 where
  -- a node at all that is ok or ready
  pub recovers : (number (beside Dead) none (Recover 1) ≡ 0) × (number (beside Wait) none (Recover 1) ≡ 0)
  pub not-alone : (number (beside Ok) none (Recover 1) ≡ 2) × (number (beside Ready) none (Recover 1) ≡ 2)
  -- the ready node that is named
  pub resigns : (number (beside Ready) none (ResignNode 1 3) ≡ 0) × (number (beside Ready) none (ResignNode 1 0) ≡ 2)
  -- a JoinReply to the node itself
  pub reply-waits : number (beside Ready) (laid (placed (join_reply 0 3 no_sides) 1 ∷ [])) (ResignNode 1 3) ≡ 3
  pub reply-elsewhere : number (beside Ready) (laid (placed (join_reply 0 3 no_sides) 3 ∷ [])) (ResignNode 1 3) ≡ 0
  -- a JoinRequest of its own is no refusal; where the very same one waits, nothing is added
  pub same-request : (number (beside Ready) (laid (requests 0 3)) (ResignNode 1 3) ≡ 0) × (resigned (requests 0 3) ≡ laid (requests 0 3))
  pub other-requests : (resigned (requests 0 0) ≡ laid (requests 0 0 ++ requests 0 3)) × (resigned (requests 1 3) ≡ laid (requests 1 3 ++ requests 0 3))
  pub emptied : (step_of (beside Ready) (laid (requests 0 3)) 256 (ResignNode 1 3)).table ≡ with_node (beside Ready) 1 resigned_node

-- ---- a full pool, and one with a place left

-- these, and lookups up to that many
abbrev filled : List Message → ℕ → Pool
filled ms n = laid (ms ++ replicate n (placed (lookup 200) 2))

abbrev acted : Table → Pool → Action → Stepped
acted t p a = act_of t p (asked t p a)

abbrev acted_number : Table → Pool → Action → ℕ
acted_number t p a = answer_number (acted t p a).answer

pub record Full : Type 0 where
  -- the probe that waits already is not added, and its node is probed still
  pub probe-waits : (acted_number ring (filled (probe 0 1 ∷ []) 255) (SuspectFaulty 0 1) ≡ 0)
      × ((node_at (acted ring (filled (probe 0 1 ∷ []) 255) (SuspectFaulty 0 1)).table 0).probing ≡ 2)
  pub probe-more : acted_number ring (filled [] 256) (SuspectFaulty 0 1) ≡ 6
  pub two-probes : (acted_number (short 2) (filled [] 255) (LSRepair 0) ≡ 6) × (acted_number (short 2) (filled [] 254) (LSRepair 0) ≡ 0)
  pub time-out : acted_number suspected.table (filled (probe 0 1 ∷ []) 255) (ProbeTimeOut 0 1) ≡ 0

-- ---- one that has left, and a request of its own that waits still

abbrev gone : Stepped
gone = step_of ring (laid (placed (join_request 0 0) 2 ∷ [])) 256 (NodeLeft 0)

pub record Back : Type 0 where
  pub old-request : (number gone.table gone.pool (Join 0 1) ≡ 3) × (number gone.table none (Join 0 1) ≡ 0)

pub record LeaveCases : Type 0 where
  pub ranges : Ranges
  pub probed : Probed
  pub repaired : Repaired
  pub alone : Alone
  pub full : Full
  pub back : Back

pub leave-cases : LeaveCases
unfolding fall_of has gather tally all_to single union meet add_of remove_of size_of listed best closest content_of seen_from leaf_with overlaps
    is_full is_complete is_empty alike all_different first_from first_equal added removed_at sent_to numbers_fit id_fits side_fits leaf_fits others_fit
    node_fits is_blank slot_fits word_fits flag_fits carried_fits owner_fits routing_fits failed_fits fields_fit message_fits farther_than hops_fit
    nearer rises_to abs_dist_of signed_of mailed join_waits plan_join is_neighbour without_probes reply_waits ends_to_probe last_end plan_node_left
    plan_suspect_faulty plan_probe_time_out plan_declare_dead plan_ls_repair plan_resign_node plan_recover slot_ids slots_to start_node start_nodes
    start_fits ids_rise list_fits start_of nodes_fit messages_fit pool_fits valid_of carried_out settle ready_set ok_set is_sound step_of
leave-cases =
    record {
      ranges = record {
        left = (refl, refl);
        suspects = (refl, refl, refl);
        times = (refl, refl, refl);
        declares = (refl, refl, refl);
        repairs = (refl, refl);
        resigns = (refl, refl, refl);
        recovers = (refl, refl);
      };
      probed = record { sent = refl; gone = refl; others = refl; left = (refl, refl); refused = refl };
      repaired = record { declares = (refl, refl, refl); declared = refl; repairs = (refl, refl); probes = refl; not-recovers = (refl, refl) };
      alone = record {
        recovers = (refl, refl);
        not-alone = (refl, refl);
        resigns = (refl, refl);
        reply-waits = refl;
        reply-elsewhere = refl;
        same-request = (refl, refl);
        other-requests = (refl, refl);
        emptied = refl;
      };
      full = record { probe-waits = (refl, refl); probe-more = refl; two-probes = (refl, refl); time-out = refl };
      back = record { old-request = (refl, refl) };
    }
