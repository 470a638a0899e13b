-- How far the theorem reaches, computed by the checker from the definition of the step. From a start with ids 0 and 14 ready, 31 actions,
-- each of them done, lead to two ready nodes that cover one key: 1 and 2 join at once, and 9 after them. So the hypothesis on Join is
-- needed. The same from the table after the first 17 actions, where nobody is wait: those left join in turn, so what is not in the
-- clauses does not mend. And in turn three nodes join by a fourth, and all are ready. Assumes nothing.
use Rattle.std.specs.Prelude.{Ok}
use mathlib.Core.Path.{◌≡◌, refl}
use mathlib.Core.Bool.{Bool, true, false, ◌&&◌, not}
use mathlib.Core.List.{List, [], ◌∷◌}
use Prim.Native.Nat.{◌^◌, ◌<◌}
use native.Mathlib.Omega.{arith}
use lib.Dec.{eqb, ltb}
use borrow.Author.Tests.{ltb-true, not-true}
use Rattle.ring.specs.Distance.{fall_of, signed_of, abs_dist_of, rises_to, nearer, left_cover_of, right_cover_of, covers_key}
use Rattle.marks.specs.Marks.{has, gather, tally, first_to, all_to, single, union, meet, without, add_of, remove_of, size_of, lowest_of, listed}
use Rattle.rules.specs.declared.Action.{Action}
use Rattle.rules.specs.declared.Action.TheVariants.{Join, RequestLease, Take}
use Rattle.rules.specs.declared.Pool.{Pool}
use Rattle.rules.specs.Pool.{message_at, laid}
use Rattle.rules.specs.Pick.{best}
use Rattle.rules.specs.Closest.{closest}
use Rattle.rules.specs.Leaf.{content_of, seen_from, leaf_with, leaf_with_one, overlaps, is_full, is_complete, is_empty, covers_of}
use Rattle.rules.specs.Hop.{leaf_candidates, route_candidates, by_leaf, leaf_hop, route_hop, next_hop}
use Rattle.rules.specs.Mail.{alike, all_different, first_from, first_equal, added, removed_at, sent_to, waits, join_waits}
use Rattle.rules.specs.Fits.{numbers_fit, id_fits, side_fits, leaf_fits, others_fit, node_fits, is_blank, slot_fits}
use Rattle.rules.specs.Fits.{word_fits, flag_fits, carried_fits, owner_fits, routing_fits, failed_fits, fields_fit, message_fits, farther_than, hops_fit}
use Rattle.rules.specs.Plans.{mailed}
use Rattle.plan.specs.Actions.{plan_join, lease_plan, plan_request_lease, is_neighbour}
use Rattle.take.specs.Take.{plan_deliver, plan_forward, plan_take_join_request, plan_take_join_reply, probes2, probes_of, probe_plan_of, plan_take_probe}
use Rattle.take.specs.Take.{status_after_reply, reply_plan_of, plan_take_probe_reply, plan_take_lease_request, broadcast_plan, plan_take_broadcast, plan_take}
use Rattle.table_type.specs.declared.Table.{Table}
use Rattle.table_type.specs.declared.Stepped.{Stepped}
use Rattle.start.specs.Start.{slot_ids, slots_to, start_node, start_nodes, start_fits, ids_rise, list_fits}
use Rattle.table_type.specs.Start.{start_of, table_of}
use Rattle.table.specs.Settle.{done_of, carried_out, settle}
use Rattle.table.specs.Settled.{ready_set, dead_set}
use Rattle.step.specs.Step.{is_sound, step_of}
use Rattle.table_type.specs.Table.{node_at}
use Rattle.table.specs.Valid.{nodes_fit, messages_fit, pool_fits, valid_of}
use Rattle.table_laws.proofs.Nodes.{both}
use Rattle.lookup_laws.specs.Claims.{Ready}
use Rattle.lookup_laws.specs.Fates.{covers_at}
use Rattle.join_laws.specs.Clauses.{view_of}
use Rattle.join_laws.specs.Safe.{guards, one_of, members_of, known_of, joiner_of, introduces, is_fair, nobody_waits}
use Rattle.join_laws.proofs.Tests.{Ran, ran}

-- 0 and 14 are ready, 1, 2 and 9 dead
abbrev pub begun : Stepped
begun = done_of (table_of (start_of 4 1 (0 ∷ 1 ∷ 2 ∷ 9 ∷ 14 ∷ []) 17)) (laid [])

-- 1 joins by 0, then 2 by 0 while 1 is wait, until both are ok
abbrev pub at_once : List Action
at_once =
    Join 1 0 ∷ Take 0 ∷ Take 0 ∷ Join 2 0 ∷ Take 2 ∷ Take 2 ∷ Take 2 ∷ Take 0 ∷ Take 0 ∷ Take 2 ∷ Take 2 ∷ RequestLease 1 ∷ Take 1 ∷ Take 2
    ∷ Take 1 ∷ Take 0 ∷ Take 2 ∷ []

-- 1 becomes ready; then 9 joins by 14 and becomes ready
abbrev pub in_turn : List Action
in_turn =
    Take 0 ∷ Take 0 ∷ Join 3 4 ∷ Take 0 ∷ Take 0 ∷ Take 0 ∷ Take 0 ∷ Take 0 ∷ Take 0 ∷ RequestLease 3 ∷ Take 1 ∷ Take 0 ∷ Take 0
    ∷ Take 0 ∷ []

-- what is left half-way, and at the end
abbrev pub middle : Stepped
middle = (ran at_once begun).left

abbrev pub ended : Stepped
ended = (ran in_turn middle).left

-- every clause but the second holds
abbrev others_hold : Table → Pool → Bool
others_hold t p =
    all_to t.n (λ x.
    eqb (node_at t x).failed 0 && all_to t.n (λ y. one_of (view_of t) x y && (known_of (view_of t) x y && joiner_of (view_of t) x y)))
    && all_to p.count (λ q. is_fair (view_of t) (message_at p q))

-- half-way the table is valid and nobody is wait, and of the clauses the second alone is broken, by slots 1 and 2
abbrev shows_middle : Stepped → Bool
shows_middle s =
    (valid_of s.table s.pool && nobody_waits s.table) && (others_hold s.table s.pool && not (members_of (view_of s.table) 1 2))

-- at the end slots 1 and 3 are ready and cover key 6
abbrev shows_end : Table → Bool
shows_end t =
    (ltb 6 (2 ^ t.m) && ltb 3 t.n) && ((has (ready_set t) 1 && has (ready_set t) 3) && (covers_at t 1 6 && covers_at t 3 6))

-- every action is done; in the first list a Join is done while another is wait, and the rest joins in turn
abbrev shows : Ran → Ran → Bool
shows r q = ((r.done && not r.turns) && (q.done && q.turns)) && (shows_middle r.left && shows_end q.left.table)

-- ---- the same, told

pub record Middle (s : Stepped) : Type 0 where
  pub valid : valid_of s.table s.pool ≡ true
  pub nobody : nobody_waits s.table ≡ true
  pub others : others_hold s.table s.pool ≡ true
  pub broken : members_of (view_of s.table) 1 2 ≡ false

pub record TwoCover (t : Table) : Type 0 where
  pub key : 6 < 2 ^ t.m
  pub one-ready : Ready t 1
  pub other-ready : Ready t 3
  pub one_covers : covers_at t 1 6 ≡ true
  pub other-covers : covers_at t 3 6 ≡ true

pub record Shows (r q : Ran) : Type 0 where
  pub first_done : r.done ≡ true
  pub first-turns : r.turns ≡ false
  pub rest-done : q.done ≡ true
  pub rest-turns : q.turns ≡ true
  pub half-way : Middle r.left
  pub end : TwoCover q.left.table

middle-told : (s : Stepped) → shows_middle s ≡ true → Middle s
middle-told s e =
    let a = both (valid_of s.table s.pool && nobody_waits s.table) _ e in
    let b = both (valid_of s.table s.pool) (nobody_waits s.table) a.0 in
    let c = both (others_hold s.table s.pool) (not (members_of (view_of s.table) 1 2)) a.1 in
    record { valid = b.0; nobody = b.1; others = c.0; broken = not-true _ c.1 }

end-told : (t : Table) → shows_end t ≡ true → TwoCover t
end-told t e =
    let a = both (ltb 6 (2 ^ t.m) && ltb 3 t.n) _ e in
    let b = both (ltb 6 (2 ^ t.m)) (ltb 3 t.n) a.0 in
    let c = both (has (ready_set t) 1 && has (ready_set t) 3) _ a.1 in
    let d = both (has (ready_set t) 1) (has (ready_set t) 3) c.0 in
    let f = both (covers_at t 1 6) (covers_at t 3 6) c.1 in
    let low : 3 < t.n = ltb-true 3 t.n b.1 in
    record {
      key = ltb-true _ _ b.0;
      one-ready = (omega arith, d.0);
      other-ready = (low, d.1);
      one_covers = f.0;
      other-covers = f.1;
    }

pub told : (r q : Ran) → shows r q ≡ true → Shows r q
told r q e =
    let a = both ((r.done && not r.turns) && (q.done && q.turns)) _ e in
    let b = both (r.done && not r.turns) (q.done && q.turns) a.0 in
    let c = both q.done q.turns b.1 in
    let d = both (shows_middle r.left) (shows_end q.left.table) a.1 in
    let f = both r.done (not r.turns) b.0 in
    record {
      first_done = f.0;
      first-turns = not-true r.turns f.1;
      rest-done = c.0;
      rest-turns = c.1;
      half-way = middle-told r.left d.0;
      end = end-told q.left.table d.1;
    }

-- ---- good things can happen: 17, 65 and 95 join by 18 one after the other, and all are ready

abbrev pub alone : Stepped
alone = done_of (table_of (start_of 8 1 (17 ∷ 18 ∷ 65 ∷ 95 ∷ []) 2)) (laid [])

abbrev pub one_by_one : List Action
one_by_one =
    Join 0 1 ∷ Take 0 ∷ Take 0 ∷ Take 0 ∷ Take 0 ∷ RequestLease 0 ∷ Take 0 ∷ Take 0 ∷ Join 2 1 ∷ Take 0 ∷ Take 0 ∷ Take 0
    ∷ Take 0 ∷ Take 0 ∷ Take 0 ∷ RequestLease 2 ∷ Take 0 ∷ Take 0 ∷ Take 0 ∷ Take 0 ∷ Join 3 1 ∷ Take 0 ∷ Take 0 ∷ Take 0
    ∷ Take 0 ∷ Take 0 ∷ Take 0 ∷ Take 0 ∷ RequestLease 3 ∷ Take 0 ∷ Take 0 ∷ Take 0 ∷ Take 0 ∷ []

-- each is done, in turn, and at the end all four are ready
abbrev pub all_ready : Ran → Bool
all_ready r = (r.done && r.turns) && eqb (ready_set r.left.table) 15

-- ---- computed

pub computed : ((let r = ran at_once begun in shows r (ran in_turn r.left)) ≡ true) × (all_ready (ran one_by_one alone) ≡ true)
unfolding fall_of signed_of abs_dist_of rises_to nearer left_cover_of right_cover_of covers_key has gather tally first_to all_to single union meet
    without add_of remove_of size_of lowest_of listed best closest content_of seen_from leaf_with leaf_with_one overlaps is_full is_complete is_empty
    covers_of leaf_candidates route_candidates by_leaf leaf_hop route_hop next_hop alike all_different first_from first_equal added removed_at sent_to
    numbers_fit id_fits side_fits leaf_fits others_fit node_fits is_blank slot_fits word_fits flag_fits carried_fits owner_fits routing_fits failed_fits
    fields_fit message_fits farther_than hops_fit mailed waits join_waits plan_join lease_plan plan_request_lease is_neighbour plan_deliver plan_forward
    plan_take_join_request plan_take_join_reply probes2 probes_of probe_plan_of plan_take_probe status_after_reply reply_plan_of plan_take_probe_reply
    plan_take_lease_request broadcast_plan plan_take_broadcast plan_take slot_ids slots_to start_node start_nodes start_fits ids_rise list_fits start_of
    nodes_fit messages_fit pool_fits valid_of carried_out settle ready_set dead_set is_sound step_of nobody_waits guards introduces is_fair
computed = (refl, refl)

pub started : start_of 4 1 (0 ∷ 1 ∷ 2 ∷ 9 ∷ 14 ∷ []) 17 ≡ Ok begun.table
unfolding start_of start_fits list_fits ids_rise listed all_to has slot_ids
started = refl
