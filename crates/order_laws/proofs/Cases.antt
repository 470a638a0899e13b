-- Small cases, computed by the checker: the same messages in two orders, and a Take of the same one; that the places are to be named accordingly, and
-- that the pools afterwards are in two orders too; and what is not the same: a message more or less often, one with other hops, and a count
-- that says another number of places. Assumes nothing.
use mathlib.Core.Path.{◌≡◌, refl}
use mathlib.Core.Bool.{true, false}
use mathlib.Core.List.{[], ◌∷◌}
use Prim.Native.Nat.{ℕ}
use native.Mathlib.Omega.{arith}
use lib.Dec.{eqb}
use Rattle.ring.specs.Distance.{signed_of, abs_dist_of, rises_to, nearer}
use Rattle.ring.specs.Distance.{fall_of, left_cover_of, right_cover_of, covers_key}
use Rattle.marks.specs.Marks.{has, gather, tally, all_to, single, union, add_of, size_of, listed}
use Rattle.rules.specs.declared.Action.TheVariants.{Take}
use Rattle.rules.specs.declared.Message.{Message}
use Rattle.rules.specs.declared.Pool.{Pool}
use Rattle.rules.specs.Closest.{closest}
use Rattle.rules.specs.Fits.{numbers_fit, id_fits, side_fits, leaf_fits, others_fit, node_fits, is_blank, slot_fits}
use Rattle.rules.specs.Fits.{word_fits, flag_fits, carried_fits, owner_fits, routing_fits, failed_fits, fields_fit, message_fits, farther_than, hops_fit}
use Rattle.rules.specs.Leaf.{content_of, seen_from, leaf_with, covers_of}
use Rattle.rules.specs.Letters.{no_sides, lookup, join_request, join_reply}
use Rattle.rules.specs.Mail.{alike, all_different, first_from, first_equal, added, removed_at, sent_to}
use Rattle.rules.specs.Nodes.{placed}
use Rattle.rules.specs.Numbers.{answer_number}
use Rattle.rules.specs.Pick.{best}
use Rattle.rules.specs.Plans.{mailed}
use Rattle.rules.specs.Pool.{laid}
use Rattle.take.specs.Take.{plan_take_join_request, plan_take}
use Rattle.table_type.specs.declared.Table.{Table}
use Rattle.start.specs.Start.{slot_ids, slots_to, start_node, start_nodes, start_fits, ids_rise, list_fits}
use Rattle.table_type.specs.Start.{start_of, table_of}
use Rattle.table.specs.Settle.{carried_out, settle}
use Rattle.table.specs.Settled.{dead_set}
use Rattle.step.specs.Step.{is_sound, step_of}
use Rattle.table.specs.Valid.{nodes_fit, messages_fit, pool_fits, valid_of}
use Rattle.order_laws.specs.Order.{passing, SameMail, behind, exchanged, again, SamePool, one-waits, SameAction, takes}
use Rattle.order_laws.proofs.Found.{same-exactly}

-- to unfold this is to unfold all that the tests and steps on small tables compute with
unfoldable opened : Unit {0}
unfolding fall_of left_cover_of right_cover_of covers_key has gather tally all_to single union add_of size_of listed closest content_of seen_from
    leaf_with covers_of alike all_different first_from first_equal added removed_at sent_to numbers_fit id_fits side_fits leaf_fits others_fit node_fits
    is_blank slot_fits word_fits flag_fits carried_fits owner_fits routing_fits failed_fits fields_fit message_fits farther_than hops_fit nearer rises_to
    abs_dist_of signed_of best mailed plan_take_join_request plan_take slot_ids slots_to start_node start_nodes start_fits ids_rise list_fits start_of
    nodes_fit messages_fit pool_fits valid_of carried_out settle dead_set is_sound step_of
opened = tt

-- ---- a Take of the same message

-- 0 is ready, and 2 is dead
abbrev alone : Table
alone = table_of (start_of 2 1 (0 ∷ 2 ∷ []) 1)

abbrev asks : Message
asks = placed (join_request 1 0) 0

abbrev key : ℕ → Message
key k = placed (lookup k) 0

abbrev reply : Message
reply = placed (join_reply 0 0 no_sides) 1

-- the same three messages in two orders
abbrev here : Pool
here = laid (asks ∷ key 0 ∷ key 1 ∷ [])

abbrev there : Pool
there = laid (key 1 ∷ asks ∷ key 0 ∷ [])

abbrev number : Pool → ℕ → ℕ
number p r = answer_number (step_of alone p 256 (Take r)).answer

pub record Orders : Type 0 where
  pub both-valid : (valid_of alone here ≡ true) × (valid_of alone there ≡ true)
  -- the JoinRequest is taken, wherever it waits, and the table is the same
  pub both-done : (number here 0 ≡ 0) × (number there 1 ≡ 0)
  pub same-table : (step_of alone here 256 (Take 0)).table ≡ (step_of alone there 256 (Take 1)).table
  -- the same three messages wait then, again in two orders
  pub here-after : (step_of alone here 256 (Take 0)).pool ≡ laid (key 0 ∷ key 1 ∷ reply ∷ [])
  pub there-after : (step_of alone there 256 (Take 1)).pool ≡ laid (key 1 ∷ key 0 ∷ reply ∷ [])
  -- at the same place another message waits: 5 from Take on a Lookup
  pub not-renamed : (number here 0 ≡ 0) × (number there 0 ≡ 5)
  -- at the count and past it none waits: 1 from both
  pub out_of_range : (number here 3 ≡ 1) × (number there 3 ≡ 1) × (number there 200 ≡ 1)

pub orders : Orders
unfolding opened
orders =
    record {
      both-valid = (refl, refl);
      both-done = (refl, refl);
      same-table = refl;
      here-after = refl;
      there-after = refl;
      not-renamed = (refl, refl);
      out_of_range = (refl, refl, refl);
    }

-- what the theorem asks for: the messages are the same, and so is the action
pub same_here : SamePool here there
same_here = record { counted = refl; mail = (same-exactly _ _).1 (again (behind exchanged) exchanged) }

pub same-take : SameAction here there (Take 0) (Take 1)
same-take = takes {r = 0} {s = 1} (one-waits (omega arith) (omega arith) refl)

-- ---- what is not the same

-- a message less often, and another more often
pub how-often : SameMail (asks ∷ asks ∷ key 0 ∷ []) (asks ∷ key 0 ∷ key 0 ∷ []) → ⊥
unfolding passing
how-often h = let e : ◌≡◌ {A = ℕ} 2 1 = h.tested (λ m. eqb m.kind 2) in omega arith

-- equal messages with other hops (T-07)
abbrev further : Message
further = record { kind = 1; dest = 0; word = 0; flag = 0; owner = 0; hops = 1; routing = 0; left = 0; right = 0; failed = 0 }

pub every-field : (alike (key 0) further ≡ true) × (SameMail (key 0 ∷ []) (further ∷ []) → ⊥)
unfolding passing opened
every-field = (refl, λ h. let e : ◌≡◌ {A = ℕ} 1 0 = h.tested (λ m. eqb m.hops 0) in omega arith)

-- two counts of no places at all: the one is valid, the other is not
abbrev short : ℕ → Pool
short n = record { count = n; places = [] }

pub count-told : (valid_of alone (short 0) ≡ true) × (valid_of alone (short 1) ≡ false) × (SamePool (short 0) (short 1) → ⊥)
unfolding opened
count-told = (refl, refl, λ h. omega (arith, h.counted))
