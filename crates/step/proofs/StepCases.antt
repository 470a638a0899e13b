-- Small cases of the step, computed by the checker from its definition: which refusal comes first, the least number that is out of range, a
-- request made twice, what a Take removes, what a full pool takes in, what lies past the count afterwards, and where
-- the answer says that the next hop came from. Assumes nothing.
use mathlib.Core.Path.{◌≡◌, refl}
use mathlib.Core.List.{List, [], ◌∷◌, map}
use Prim.Native.Nat.{ℕ}
use lib.ListN.{replicate}
use Rattle.ring.specs.Distance.{fall_of, signed_of, abs_dist_of, rises_to, nearer, left_cover_of, right_cover_of, covers_key}
use Rattle.marks.specs.Marks.{has, gather, tally, first_to, all_to, single, union, meet, without, add_of, remove_of, size_of, lowest_of, listed}
use Rattle.rules.specs.declared.Action.{Action}
use Rattle.rules.specs.declared.Action.TheVariants.{Lookup, Join, RequestLease, LeaseExpired, GrantExpired, Take, Deliver, Forward}
use Rattle.rules.specs.declared.Message.{Message}
use Rattle.rules.specs.declared.Node.{Node}
use Rattle.rules.specs.declared.Status.TheVariants.{Wait, Ready}
use Rattle.rules.specs.declared.Pool.{Pool}
use Rattle.rules.specs.Letters.{lookup, lookup_after, join_request, no_legal_route}
use Rattle.rules.specs.Nodes.{no_node, placed}
use Rattle.rules.specs.Numbers.{answer_number, via_number}
use Rattle.rules.specs.Pool.{waiting, lay, laid}
use Rattle.rules.specs.Pick.{best}
use Rattle.rules.specs.Closest.{closest}
use Rattle.rules.specs.Leaf.{content_of, seen_from, leaf_with, leaf_with_one, overlaps, is_complete, is_empty, covers_of}
use Rattle.rules.specs.Hop.{leaf_candidates, route_candidates, by_leaf, leaf_hop, route_hop, next_hop, via_of}
use Rattle.rules.specs.Mail.{alike, all_different, first_from, first_equal, added, removed_at, sent_to, waits, join_waits}
use Rattle.rules.specs.Fits.{numbers_fit, id_fits, side_fits, leaf_fits, others_fit, node_fits, is_blank, slot_fits}
use Rattle.rules.specs.Fits.{word_fits, flag_fits, carried_fits, owner_fits, routing_fits, failed_fits, fields_fit, message_fits, farther_than, hops_fit}
use Rattle.rules.specs.Plans.{mailed}
use Rattle.plan.specs.Actions.{plan_lookup, plan_join, lease_plan, plan_request_lease, is_neighbour, plan_lease_expired, plan_grant_expired}
use Rattle.take.specs.Take.{plan_deliver, plan_forward, plan_take_join_request, plan_take_join_reply, probes2, probes_of, probe_plan_of, plan_take_probe}
use Rattle.take.specs.Take.{status_after_reply, reply_plan_of, plan_take_probe_reply, plan_take_lease_request, broadcast_plan, plan_take_broadcast, plan_take}
use Rattle.table_type.specs.declared.Table.{Table}
use Rattle.table_type.specs.declared.Stepped.{Stepped}
use Rattle.start.specs.Start.{slot_ids, slots_to, start_node, start_nodes, start_fits, ids_rise, list_fits}
use Rattle.table_type.specs.Start.{start_of, table_of}
use Rattle.table.specs.Valid.{nodes_fit, messages_fit, pool_fits, valid_of}
use Rattle.table.specs.Settle.{carried_out, settle}
use Rattle.table.specs.Settled.{dead_set}
use Rattle.step.specs.Step.{asked, act_of, is_sound, step_of}

-- 17, 18, 65 and 95 are ready; or 18 alone
abbrev ring : Table
ring = table_of (start_of 8 1 (17 ∷ 18 ∷ 65 ∷ 95 ∷ []) 15)

abbrev alone : Table
alone = table_of (start_of 8 1 (17 ∷ 18 ∷ 65 ∷ 95 ∷ []) 2)

-- M below 2
abbrev narrow : Table
narrow = record { m = 1; l = 1; n = 4; nodes = ring.nodes }

abbrev none : Pool
none = laid []

abbrev number : Table → Pool → Action → ℕ
number t p a = answer_number (step_of t p 256 a).answer

-- ---- 10 before anything else, then 1, then the rest

pub record Ordered : Type 0 where
  pub list-first : answer_number (step_of ring none 255 (Lookup 4 0)).answer ≡ 10
  pub table-first : number narrow none (Lookup 4 0) ≡ 10
  pub range-first : number ring none (Join 0 4) ≡ 1
  pub status-then : number ring none (Join 0 1) ≡ 2

-- ---- slot, place or key out of range

-- a lookup of 17 for the node that has the key
abbrev lookup17 : Pool
lookup17 = laid (placed (lookup 17) 0 ∷ [])

pub record Ranges : Type 0 where
  pub lookup-slot : number ring none (Lookup 4 0) ≡ 1
  pub lookup-last : number ring none (Lookup 3 0) ≡ 0
  pub key-past : number ring none (Lookup 0 256) ≡ 1
  pub key-last : number ring none (Lookup 0 255) ≡ 0
  pub join_slot : number alone none (Join 4 1) ≡ 1
  pub join_last : number alone none (Join 3 1) ≡ 0
  pub request-slot : number ring none (RequestLease 4) ≡ 1
  pub request-last : number ring none (RequestLease 3) ≡ 2
  pub lease-slots : (number ring none (LeaseExpired 4 0) ≡ 1) × (number ring none (LeaseExpired 0 4) ≡ 1)
  pub lease-last : number ring none (LeaseExpired 3 3) ≡ 5
  pub grant-slots : (number ring none (GrantExpired 4 0) ≡ 1) × (number ring none (GrantExpired 0 4) ≡ 1)
  pub grant-last : number ring none (GrantExpired 3 3) ≡ 5
  pub place-past : number ring lookup17 (Take 1) ≡ 1
  pub place-last : number ring (laid (placed (no_legal_route 17) 0 ∷ [])) (Take 0) ≡ 5
  pub deliver-past : number ring lookup17 (Deliver 1) ≡ 1
  pub deliver-last : number ring lookup17 (Deliver 0) ≡ 0
  pub forward-past : number ring lookup17 (Forward 1) ≡ 1
  pub forward-last : number ring (laid (placed (lookup 65) 0 ∷ [])) (Forward 0) ≡ 0

-- ---- a request made twice

pub record Repeats : Type 0 where
  pub lookup-waits : number ring (laid (placed (lookup 200) 0 ∷ [])) (Lookup 0 200) ≡ 3
  pub lookup-elsewhere : number ring (laid (placed (lookup 200) 1 ∷ [])) (Lookup 0 200) ≡ 0
  pub join-waits : number alone (laid (placed (join_request 0 0) 3 ∷ [])) (Join 0 1) ≡ 3
  pub join-of-another : number alone (laid (placed (join_request 2 0) 3 ∷ [])) (Join 0 1) ≡ 0

-- ---- a lookup is delivered or forwarded, and not taken

pub record Pair : Type 0 where
  pub not_taken : number ring lookup17 (Take 0) ≡ 5
  pub not-forwarded : number ring lookup17 (Forward 0) ≡ 5
  pub not-delivered : number ring (laid (placed (lookup 65) 0 ∷ [])) (Deliver 0) ≡ 5
  -- 5 for another kind at a dead node, where a Lookup gets 2
  pub another-kind : (number alone (laid (placed (join_request 0 0) 3 ∷ [])) (Deliver 0) ≡ 5) × (number alone (laid (placed (lookup 17) 3 ∷ [])) (Deliver 0) ≡ 2)
  pub another-on : (number alone (laid (placed (join_request 0 0) 3 ∷ [])) (Forward 0) ≡ 5) × (number alone (laid (placed (lookup 17) 3 ∷ [])) (Forward 0) ≡ 2)

-- ---- what waits afterwards

-- the keys, and where they go
abbrev keys : Stepped → List ℕ
keys s = map (λ (m : Message). m.word) (waiting s.pool)

abbrev dests : Stepped → List ℕ
dests s = map (λ (m : Message). m.dest) (waiting s.pool)

-- three lookups, each for the node that has the key
abbrev three : Pool
three = laid (placed (lookup 17) 0 ∷ placed (lookup 18) 1 ∷ placed (lookup 65) 2 ∷ [])

-- two lie in the places, of which one waits
abbrev one : Pool
one = record { count = 1; places = lay (placed (lookup 17) 0 ∷ placed (lookup 18) 1 ∷ []) }

pub record Waits : Type 0 where
  -- it is that message which goes, at its destination, and the gap is closed
  pub middle : keys (step_of ring three 256 (Deliver 1)) ≡ 17 ∷ 65 ∷ []
  pub that-one : number ring (laid (placed (lookup 17) 0 ∷ placed (no_legal_route 17) 0 ∷ [])) (Deliver 1) ≡ 5
  pub destination : ((asked ring three (Take 2)).slot ≡ 2) × ((asked ring three (Deliver 2)).slot ≡ 2) × ((asked ring three (Forward 2)).slot ≡ 2)
  -- 65 is routed from 17 to 95; where an equal waits there, nothing is added
  pub routed : dests (step_of ring (laid (placed (lookup 65) 0 ∷ placed (lookup 18) 1 ∷ [])) 256 (Forward 0)) ≡ 1 ∷ 3 ∷ []
  pub equal : dests (step_of ring (laid (placed (lookup 65) 0 ∷ placed (lookup 65) 3 ∷ [])) 256 (Forward 0)) ≡ 3 ∷ []
  -- what is added goes to the end, and places past the count are blank
  pub added-last : (step_of ring one 256 (Lookup 2 65)).pool ≡ laid (placed (lookup 17) 0 ∷ placed (lookup 65) 2 ∷ [])
  pub taken-last : (step_of ring one 256 (Deliver 0)).pool ≡ laid []
  -- a refused step leaves all 256 places as they were
  pub refused-same : (step_of ring one 256 (Lookup 4 0)).pool ≡ one

-- ---- T-07: the hops of a Lookup

-- of 65 at 95, from which 18 and 17 are farther, after so many forwardings
abbrev after : ℕ → Message
after hops = placed (lookup_after hops 65) 3

abbrev left : List Message → List Message
left ms = waiting (step_of ring (laid ms) 256 (Forward 0)).pool

pub record Hops : Type 0 where
  -- one more at each forwarding, for each message its own
  pub forwarded : left (after 2 ∷ placed (lookup 18) 1 ∷ []) ≡ placed (lookup 18) 1 ∷ placed (lookup_after 3 65) 2 ∷ []
  pub forwarded-first : left (after 0 ∷ []) ≡ placed (lookup_after 1 65) 2 ∷ []
  -- the earlier message with its own number stays
  pub met : left (after 2 ∷ placed (lookup_after 1 65) 2 ∷ []) ≡ placed (lookup_after 1 65) 2 ∷ []
  pub met-larger : left (after 0 ∷ placed (lookup_after 3 65) 2 ∷ []) ≡ placed (lookup_after 3 65) 2 ∷ []
  -- a Lookup waits whatever its number; 10 for one hop too many
  pub waits-so : number ring (laid (after 2 ∷ [])) (Lookup 3 65) ≡ 3
  pub too_many : number ring (laid (after 3 ∷ [])) (Lookup 0 0) ≡ 10
  pub issued : (step_of ring none 256 (Lookup 3 65)).pool ≡ laid (after 0 ∷ [])

-- ---- T-01: where the next hop came from

-- by id, left and right, with every node but that of slot 3 in the routing set
abbrev ready : ℕ → ℕ → ℕ → Node
ready id left right =
    record { id = id; status = Ready; left = left; right = right; probing = 0; failed = 0; routing = 23; lease = 31; grant = 31 }

-- on ids 0, 40, 100, 110, 200, node 0 has 200 on its left and 40 on its right: by content and routing set. 110 is to join
abbrev wide : Table
wide =
    record {
      m = 8;
      l = 1;
      n = 5;
      nodes =
          ready 0 16 2 ∷ ready 40 4 1 ∷ ready 100 16 2
          ∷ record { id = 110; status = Wait; left = 0; right = 0; probing = 0; failed = 0; routing = 8; lease = 0; grant = 0 }
          ∷ ready 200 1 4 ∷ replicate 59 no_node;
    }

abbrev said_by : Table → List Message → Action → ℕ
said_by t ms a = via_number (step_of t (laid ms) 256 a).via

pub record Said : Type 0 where
  -- a Lookup of 65 goes from 17 to 95, which is in both its sets
  pub leaf : said_by ring (placed (lookup 65) 0 ∷ []) (Forward 0) ≡ 108
  -- told also where the routed message meets its equal
  pub met : said_by ring (placed (lookup 65) 0 ∷ placed (lookup 65) 3 ∷ []) (Forward 0) ≡ 108
  -- delivered, refused, and a step that routes nothing
  pub none-routed : (said_by ring (placed (lookup 17) 0 ∷ []) (Deliver 0) ≡ 0) × (said_by ring (placed (no_legal_route 17) 0 ∷ []) (Take 0) ≡ 0)
      × (said_by ring [] (Lookup 0 65) ≡ 0)
  -- a Lookup of 105 goes from 0 to 100, which is in the routing set alone
  pub routing : said_by wide (placed (lookup 105) 0 ∷ []) (Forward 0) ≡ 114
  pub routing-met : said_by wide (placed (lookup 105) 0 ∷ placed (lookup 105) 2 ∷ []) (Forward 0) ≡ 114
  -- a JoinRequest of 110 goes from 0 to 100 too; it goes from 40 to 100, its neighbour; 100 replies
  pub join : (said_by wide (placed (join_request 3 0) 0 ∷ []) (Take 0) ≡ 114) × (said_by wide (placed (join_request 3 0) 1 ∷ []) (Take 0) ≡ 108)
      × (said_by wide (placed (join_request 3 0) 2 ∷ []) (Take 0) ≡ 0)

-- ---- a full pool, and one with a place left

abbrev filled : ℕ → Pool
filled n = laid (placed (lookup 65) 0 ∷ replicate n (placed (lookup 17) 0))

abbrev acted : Pool → Action → ℕ
acted p a = answer_number (act_of ring p (asked ring p a)).answer

pub record Fills : Type 0 where
  pub one_more_lem : acted (filled 255) (Lookup 0 18) ≡ 6
  pub the_last : acted (filled 254) (Lookup 0 18) ≡ 0
  -- the message taken is away first
  pub one-for-one : acted (filled 255) (Forward 0) ≡ 0

pub record StepCases : Type 0 where
  pub ordered : Ordered
  pub ranges : Ranges
  pub repeats : Repeats
  pub pair : Pair
  pub waits-after : Waits
  pub hops : Hops
  pub said : Said
  pub fills : Fills

pub step-cases : StepCases
unfolding fall_of signed_of abs_dist_of rises_to nearer left_cover_of right_cover_of covers_key has gather tally first_to all_to single union meet
    without add_of remove_of size_of lowest_of listed best closest content_of seen_from leaf_with leaf_with_one overlaps is_complete is_empty covers_of
    leaf_candidates route_candidates by_leaf leaf_hop route_hop next_hop via_of alike all_different first_from first_equal added removed_at sent_to
    numbers_fit id_fits side_fits leaf_fits others_fit node_fits is_blank slot_fits word_fits flag_fits carried_fits owner_fits routing_fits failed_fits
    fields_fit message_fits farther_than hops_fit mailed waits join_waits plan_lookup plan_join plan_lease_expired plan_grant_expired lease_plan
    plan_request_lease is_neighbour plan_deliver plan_forward plan_take_join_request plan_take_join_reply probes2 probes_of probe_plan_of plan_take_probe
    status_after_reply reply_plan_of plan_take_probe_reply plan_take_lease_request broadcast_plan plan_take_broadcast plan_take slot_ids slots_to start_node
    start_nodes start_fits ids_rise list_fits start_of nodes_fit messages_fit pool_fits valid_of carried_out settle dead_set is_sound step_of
step-cases =
    record {
      ordered = record { list-first = refl; table-first = refl; range-first = refl; status-then = refl };
      ranges = record {
        lookup-slot = refl;
        lookup-last = refl;
        key-past = refl;
        key-last = refl;
        join_slot = refl;
        join_last = refl;
        request-slot = refl;
        request-last = refl;
        lease-slots = (refl, refl);
        lease-last = refl;
        grant-slots = (refl, refl);
        grant-last = refl;
        place-past = refl;
        place-last = refl;
        deliver-past = refl;
        deliver-last = refl;
        forward-past = refl;
        forward-last = refl;
      };
      repeats = record { lookup-waits = refl; lookup-elsewhere = refl; join-waits = refl; join-of-another = refl };
      pair = record { not_taken = refl; not-forwarded = refl; not-delivered = refl; another-kind = (refl, refl); another-on = (refl, refl) };
      waits-after = record {
        middle = refl;
        that-one = refl;
        destination = (refl, refl, refl);
        routed = refl;
        equal = refl;
        added-last = refl;
        taken-last = refl;
        refused-same = refl;
      };
      hops = record {
        forwarded = refl;
        forwarded-first = refl;
        met = refl;
        met-larger = refl;
        waits-so = refl;
        too_many = refl;
        issued = refl;
      };
      said = record {
        leaf = refl;
        met = refl;
        none-routed = (refl, refl, refl);
        routing = refl;
        routing-met = refl;
        join = (refl, refl, refl);
      };
      fills = record { one_more_lem = refl; the_last = refl; one-for-one = refl };
    }
