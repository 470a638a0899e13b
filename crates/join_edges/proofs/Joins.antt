-- Good things can happen: the join of 17 at 18, and of 65 and 95 after it, computed by the checker from the definition of the step. Then joins into small
-- estates (T-02), where L is 4 and no side can be full: into three, into two, and into one. Assumes nothing.
use Rattle.rules.specs.Shapes.{Answer}
use Rattle.std.specs.Prelude.{Ok, Err}
use mathlib.Core.Path.{◌≡◌, refl}
use mathlib.Core.Bool.{Bool, true}
use mathlib.Core.List.{List, [], ◌∷◌}
use Prim.Native.Nat.{ℕ}
use lib.Dec.{eqb}
use Rattle.ring.specs.Distance.{fall_of, signed_of, abs_dist_of, rises_to, nearer, left_cover_of, right_cover_of, covers_key}
use Rattle.marks.specs.Marks.{has, gather, tally, first_to, all_to, single, union, meet, without, add_of, remove_of, size_of, lowest_of, listed}
use Rattle.rules.specs.declared.Status.{Status}
use Rattle.rules.specs.declared.Status.TheVariants.{Dead, Ready}
use Rattle.rules.specs.declared.Action.{Action}
use Rattle.rules.specs.declared.Action.TheVariants.{Join, RequestLease, Take}
use Rattle.rules.specs.declared.Pool.{Pool}
use Rattle.rules.specs.Pool.{laid}
use Rattle.rules.specs.Pick.{best}
use Rattle.rules.specs.Closest.{closest}
use Rattle.rules.specs.Leaf.{content_of, seen_from, leaf_with, leaf_with_one, overlaps, is_full, is_complete, is_empty, covers_of}
use Rattle.rules.specs.Hop.{leaf_candidates, route_candidates, by_leaf, leaf_hop, route_hop, next_hop}
use Rattle.rules.specs.Mail.{alike, all_different, first_from, first_equal, added, removed_at, sent_to, waits, join_waits}
use Rattle.rules.specs.Fits.{numbers_fit, id_fits, side_fits, leaf_fits, others_fit, node_fits, is_blank, slot_fits}
use Rattle.rules.specs.Fits.{word_fits, flag_fits, carried_fits, owner_fits, routing_fits, failed_fits, fields_fit, message_fits, farther_than, hops_fit}
use Rattle.rules.specs.Plans.{mailed}
use Rattle.plan.specs.Actions.{plan_join, lease_plan, plan_request_lease, is_neighbour}
use Rattle.take.specs.Take.{plan_deliver, plan_forward, plan_take_join_request, plan_take_join_reply, probes2, probes_of, probe_plan_of, plan_take_probe}
use Rattle.take.specs.Take.{status_after_reply, reply_plan_of, plan_take_probe_reply, plan_take_lease_request, broadcast_plan, plan_take_broadcast, plan_take}
use Rattle.table_type.specs.declared.Table.{Table}
use Rattle.table_type.specs.declared.Stepped.{Stepped}
use Rattle.table_type.specs.Table.{node_at}
use Rattle.start.specs.Start.{slot_ids, slots_to, start_node, start_nodes, start_fits, ids_rise, list_fits}
use Rattle.table_type.specs.Start.{start_of, table_of}
use Rattle.table.specs.Valid.{nodes_fit, messages_fit, pool_fits, valid_of}
use Rattle.table.specs.Settle.{done_of, carried_out, settle}
use Rattle.table.specs.Settled.{ready_set, dead_set, settled_at, is_settled}
use Rattle.step.specs.Step.{is_sound, step_of}

-- actions one after the other, as long as each is done
abbrev after : Answer → Stepped → (Table → Pool → Stepped) → Stepped
after (Ok tt) s rest = rest s.table s.pool
after (Err why) s rest = s

abbrev run : List Action → Table → Pool → Stepped
run [] t p = done_of t p
run (a ∷ acts) t p = after (step_of t p 256 a).answer (step_of t p 256 a) (run acts)

abbrev statuses : Table → List Status
statuses t = (node_at t 0).status ∷ (node_at t 1).status ∷ (node_at t 2).status ∷ (node_at t 3).status ∷ []

-- 18 alone is ready
abbrev begun : Table
begun = table_of (start_of 8 1 (17 ∷ 18 ∷ 65 ∷ 95 ∷ []) 2)

-- the join of 17: its request, the reply, a probe, its reply (17 is ok), the lease asked for, granted and taken (17 is ready)
abbrev joins : List Action
joins = Join 0 1 ∷ Take 0 ∷ Take 0 ∷ Take 0 ∷ Take 0 ∷ RequestLease 0 ∷ Take 0 ∷ Take 0 ∷ []

-- then 65 and 95 likewise
abbrev all : List Action
all =
    Join 0 1 ∷ Take 0 ∷ Take 0 ∷ Take 0 ∷ Take 0 ∷ RequestLease 0 ∷ Take 0 ∷ Take 0 ∷ Join 2 1 ∷ Take 0 ∷ Take 0 ∷ Take 0
    ∷ Take 0 ∷ Take 0 ∷ Take 0 ∷ RequestLease 2 ∷ Take 0 ∷ Take 0 ∷ Take 0 ∷ Take 0 ∷ Join 3 1 ∷ Take 0 ∷ Take 0 ∷ Take 0
    ∷ Take 0 ∷ Take 0 ∷ Take 0 ∷ Take 0 ∷ RequestLease 3 ∷ Take 0 ∷ Take 0 ∷ Take 0 ∷ Take 0 ∷ []

-- where a run ends: the statuses, whether nothing waits, whether the table is settled
abbrev ends : Stepped → List Status × Bool × Bool
ends s = (statuses s.table, eqb s.pool.count 0, is_settled s.table)

-- ---- small estates, L = 4: the join, its request, the reply, a probe to each and a reply from each (ok), the lease asked for, granted and taken (ready)

-- the status of the node that joins, whether nothing waits, whether the table is settled
abbrev ends_at : ℕ → Stepped → Status × Bool × Bool
ends_at i s = ((node_at s.table i).status, eqb s.pool.count 0, is_settled s.table)

-- 95 joins 17, 18 and 65 at 65
abbrev three_and_one : List Action
three_and_one =
    Join 3 2 ∷ Take 0 ∷ Take 0 ∷ Take 0 ∷ Take 0 ∷ Take 0 ∷ Take 0 ∷ Take 0 ∷ Take 0 ∷ RequestLease 3 ∷ Take 0 ∷ Take 0 ∷ Take 0 ∷ Take 0 ∷ []

-- 65 joins 17 and 18 at 18
abbrev two_and_one : List Action
two_and_one = Join 2 1 ∷ Take 0 ∷ Take 0 ∷ Take 0 ∷ Take 0 ∷ Take 0 ∷ Take 0 ∷ RequestLease 2 ∷ Take 0 ∷ Take 0 ∷ Take 0 ∷ Take 0 ∷ []

-- 18 joins 17
abbrev one_and_one : List Action
one_and_one = Join 1 0 ∷ Take 0 ∷ Take 0 ∷ Take 0 ∷ Take 0 ∷ RequestLease 1 ∷ Take 0 ∷ Take 0 ∷ []

-- the first join, and all three; then the small estates
pub record Joined : Type 0 where
  pub one : ends (run joins begun (laid [])) ≡ (Ready ∷ Ready ∷ Dead ∷ Dead ∷ [], true, true)
  pub three : ends (run all begun (laid [])) ≡ (Ready ∷ Ready ∷ Ready ∷ Ready ∷ [], true, true)
  pub three_and_one_lem : ends_at 3 (run three_and_one (table_of (start_of 8 4 (17 ∷ 18 ∷ 65 ∷ 95 ∷ []) 7)) (laid [])) ≡ (Ready, true, true)
  pub two-and-one : ends_at 2 (run two_and_one (table_of (start_of 8 4 (17 ∷ 18 ∷ 65 ∷ []) 3)) (laid [])) ≡ (Ready, true, true)
  pub one-and-one : ends_at 1 (run one_and_one (table_of (start_of 8 4 (17 ∷ 18 ∷ []) 1)) (laid [])) ≡ (Ready, true, true)

pub joined : Joined
unfolding fall_of signed_of abs_dist_of rises_to nearer left_cover_of right_cover_of covers_key has gather tally first_to all_to single union meet
    without add_of remove_of size_of lowest_of listed best closest content_of seen_from leaf_with leaf_with_one overlaps is_full is_complete is_empty
    covers_of leaf_candidates route_candidates by_leaf leaf_hop route_hop next_hop alike all_different first_from first_equal added removed_at sent_to
    numbers_fit id_fits side_fits leaf_fits others_fit node_fits is_blank slot_fits word_fits flag_fits carried_fits owner_fits routing_fits failed_fits
    fields_fit message_fits farther_than hops_fit mailed waits join_waits plan_join lease_plan plan_request_lease is_neighbour plan_deliver plan_forward
    plan_take_join_request plan_take_join_reply probes2 probes_of probe_plan_of plan_take_probe status_after_reply reply_plan_of plan_take_probe_reply
    plan_take_lease_request broadcast_plan plan_take_broadcast plan_take slot_ids slots_to start_node start_nodes start_fits ids_rise list_fits start_of
    nodes_fit messages_fit pool_fits valid_of carried_out settle ready_set dead_set settled_at is_settled is_sound step_of
joined = record { one = refl; three = refl; three_and_one_lem = refl; two-and-one = refl; one-and-one = refl }
