-- What does not hold where nodes leave, computed by the checker from the definition of the step. Only one joins, from a start; the probe of a living node times
-- out; and two ready nodes cover one key: so join in turn needs that no probe times out. A node leaves, and the others know a dead one: so what every step keeps
-- needs that no node leaves. Others of T-03's actions are done in turn. Then dead ends: a node that waits and that no repair takes, in an estate of three, with
-- L = 2 and with L = 1. And a JoinReply that outlives the node that asked for it, and is taken after its next Join. Assumes nothing.
use Rattle.std.specs.Prelude.{Ok}
use mathlib.Core.Path.{◌≡◌, refl, ap}
use mathlib.Core.Logic.{inl}
use mathlib.Core.Bool.{Bool, true, ◌&&◌, not}
use mathlib.Core.List.{List, [], ◌∷◌}
use Prim.Native.Nat.{ℕ, ◌^◌, ◌<◌}
use native.Mathlib.Omega.{arith}
use lib.Dec.{ltb}
use borrow.Author.Tests.{ltb-true, not-true}
use Rattle.ring.specs.Distance.{fall_of, signed_of, abs_dist_of, rises_to, nearer, left_cover_of, right_cover_of, covers_key}
use Rattle.marks.proofs.Bools.{opposed}
use Rattle.marks.specs.Marks.{has, gather, tally, first_to, all_to, single, union, meet, without, add_of, remove_of, size_of, lowest_of, listed}
use Rattle.rules.specs.declared.Action.{Action}
use Rattle.rules.specs.declared.Action.TheVariants.{Join, RequestLease, GrantExpired, Take}
use Rattle.rules.specs.declared.Action.TheVariants.{NodeLeft, SuspectFaulty, ProbeTimeOut, DeclareDead, LSRepair, ResignNode, Recover}
use Rattle.rules.specs.declared.Pool.{Pool}
use Rattle.rules.specs.declared.Status.{Status}
use Rattle.rules.specs.declared.Status.TheVariants.{Wait}
use Rattle.rules.specs.Numbers.{answer_number}
use Rattle.rules.specs.Pool.{message_at, laid}
use Rattle.rules.specs.Pick.{best}
use Rattle.rules.specs.Closest.{closest}
use Rattle.rules.specs.Leaf.{content_of, seen_from, leaf_with, leaf_with_one, overlaps, is_full, is_complete, is_empty, covers_of}
use Rattle.rules.specs.Hop.{leaf_candidates, route_candidates, by_leaf, leaf_hop, route_hop, next_hop}
use Rattle.rules.specs.Mail.{alike, all_different, first_from, first_equal, added, removed_at, sent_to, waits, join_waits, without_probes, reply_waits}
use Rattle.rules.specs.Fits.{numbers_fit, id_fits, side_fits, leaf_fits, others_fit, node_fits, is_blank, slot_fits}
use Rattle.rules.specs.Fits.{word_fits, flag_fits, carried_fits, owner_fits, routing_fits, failed_fits, fields_fit, message_fits, farther_than, hops_fit}
use Rattle.rules.specs.Plans.{is_dead, mailed}
use Rattle.plan.specs.Actions.{plan_join, lease_plan, plan_request_lease, is_neighbour, plan_grant_expired}
use Rattle.take.specs.Take.{plan_take_join_request, plan_take_join_reply, probes2, probes_of, probe_plan_of, plan_take_probe}
use Rattle.take.specs.Take.{status_after_reply, reply_plan_of, plan_take_probe_reply, plan_take_lease_request, broadcast_plan, plan_take_broadcast, plan_take}
use Rattle.plan.specs.Leave.{ends_to_probe, last_end}
use Rattle.plan.specs.Leave.{plan_node_left, plan_suspect_faulty, plan_probe_time_out, plan_declare_dead, plan_ls_repair, plan_resign_node, plan_recover}
use Rattle.table_type.specs.declared.Table.{Table}
use Rattle.table_type.specs.declared.Stepped.{Stepped}
use Rattle.start.specs.Start.{slot_ids, slots_to, start_node, start_nodes, start_fits, ids_rise, list_fits}
use Rattle.table_type.specs.Start.{start_of, table_of}
use Rattle.table_type.specs.Table.{node_at}
use Rattle.table.specs.Settle.{done_of, carried_out, settle}
use Rattle.table.specs.Settled.{ready_set, ok_set, dead_set}
use Rattle.step.specs.Step.{is_sound, step_of}
use Rattle.table.specs.Valid.{nodes_fit, messages_fit, pool_fits, valid_of}
use Rattle.table_laws.proofs.Nodes.{both}
use Rattle.lookup_laws.specs.Claims.{Ready}
use Rattle.lookup_laws.specs.Fates.{covers_at}
use Rattle.join_laws.specs.Claims.{NoneWaits}
use Rattle.join_laws.specs.Clauses.{Clauses}
use Rattle.join_laws.specs.Safe.{nobody_waits}
use Rattle.join_laws.proofs.Tests.{is_join, Ran, ran}

-- ---- two cover one key, though only one joins

-- 5 and 17 are ready, 18 dead
abbrev pub begun : Stepped
begun = done_of (table_of (start_of 5 2 (5 ∷ 17 ∷ 18 ∷ []) 3)) (laid [])

-- 18 is answered by 17 and probes both; its probe of 17 times out, 5 replies (18 is ok) and grants a lease (18 is ready)
abbrev pub rest : List Action
rest = Take 0 ∷ Take 0 ∷ ProbeTimeOut 2 1 ∷ Take 0 ∷ Take 0 ∷ RequestLease 2 ∷ Take 0 ∷ Take 0 ∷ []

abbrev pub one_joins : List Action
one_joins = Join 2 1 ∷ rest

-- at the end slots 1 and 2 are ready and cover key 17
abbrev shows_end : Table → Bool
shows_end t =
    (ltb 17 (2 ^ t.m) && ltb 2 t.n) && ((has (ready_set t) 1 && has (ready_set t) 2) && (covers_at t 1 17 && covers_at t 2 17))

pub record TwoCover (t : Table) : Type 0 where
  pub key : 17 < 2 ^ t.m
  pub one-ready : Ready t 1
  pub other-ready : Ready t 2
  pub one_covers : covers_at t 1 17 ≡ true
  pub other-covers : covers_at t 2 17 ≡ true

pub end-told : (t : Table) → shows_end t ≡ true → TwoCover t
end-told t e =
    let a = both (ltb 17 (2 ^ t.m) && ltb 2 t.n) _ e in
    let b = both (ltb 17 (2 ^ t.m)) (ltb 2 t.n) a.0 in
    let c = both (has (ready_set t) 1 && has (ready_set t) 2) _ a.1 in
    let d = both (has (ready_set t) 1) (has (ready_set t) 2) c.0 in
    let f = both (covers_at t 1 17) (covers_at t 2 17) c.1 in
    let low : 2 < t.n = ltb-true 2 t.n b.1 in
    record {
      key = ltb-true _ _ b.0;
      one-ready = (omega arith, d.0);
      other-ready = (low, d.1);
      one_covers = f.0;
      other-covers = f.1;
    }

-- nobody is wait before the Join; every action is done; and two cover
abbrev shows : Ran → Bool
shows r = (nobody_waits begun.table && r.done) && shows_end r.left.table

-- ---- dead ends

-- 5, 17 and 31 are ready
abbrev three : ℕ → Stepped
three l = done_of (table_of (start_of 5 l (5 ∷ 17 ∷ 31 ∷ []) 7)) (laid [])

-- 31 leaves, and 17 declares it dead
abbrev leaves : List Action
leaves = NodeLeft 2 ∷ SuspectFaulty 1 2 ∷ ProbeTimeOut 1 2 ∷ GrantExpired 1 2 ∷ DeclareDead 1 2 ∷ []

-- and then 17 resigns, by 5
abbrev resigns : List Action
resigns = NodeLeft 2 ∷ SuspectFaulty 1 2 ∷ ProbeTimeOut 1 2 ∷ GrantExpired 1 2 ∷ DeclareDead 1 2 ∷ ResignNode 1 0 ∷ []

-- the numbers of these actions, each on what is left
abbrev numbers : Stepped → List Action → List ℕ
numbers s [] = []
numbers s (a ∷ acts) = answer_number (step_of s.table s.pool 256 a).answer ∷ numbers s acts

-- whether every action was done, how many messages wait, the status of 17, and the numbers of these further actions
abbrev stuck : Ran → List Action → Bool × ℕ × Status × List ℕ
stuck r acts = (r.done, r.left.pool.count, (node_at r.left.table 1).status, numbers r.left acts)

-- ---- a node that is known leaves

-- 31 leaves
abbrev pub left : Ran
left = ran (NodeLeft 2 ∷ []) (three 2)

-- 17 is not dead and has 31 in its left side, and 31 is dead
abbrev pub knows_dead : Table → Bool
knows_dead t = (ltb 2 t.n && not (is_dead (node_at t 1).status)) && (has (node_at t 1).left 2 && is_dead (node_at t 2).status)

-- so clause 3 does not hold
pub dead-told : (t : Table) (p : Pool) → knows_dead t ≡ true → Clauses t p → ⊥
dead-told t p e c =
    let a = both (ltb 2 t.n && not (is_dead (node_at t 1).status)) _ e in
    let b = both (ltb 2 t.n) (not (is_dead (node_at t 1).status)) a.0 in
    let d = both (has (node_at t 1).left 2) (is_dead (node_at t 2).status) a.1 in
    let low : 2 < t.n = ltb-true 2 t.n b.0 in
    opposed d.1 (c.nodes.known 1 2 (omega arith, not-true _ b.1) (low, inl d.0)).0.1

-- ---- a stale JoinReply

-- 5 is ready, 17 dead
abbrev two : Stepped
two = done_of (table_of (start_of 5 1 (5 ∷ 17 ∷ []) 1)) (laid [])

-- 17 joins, leaves when it is answered, and joins again
abbrev joins_twice : List Action
joins_twice = Join 1 0 ∷ Take 0 ∷ NodeLeft 1 ∷ Join 1 0 ∷ Take 0 ∷ []

-- whether every action is done, the kind of the first message that waits, and the left side of 17
abbrev taken : Ran → Bool × ℕ × ℕ
taken r = (r.done, (message_at r.left.pool 0).kind, (node_at r.left.table 1).left)

-- ---- done in turn

abbrev all_in_turn : Ran → Bool
all_in_turn r = r.done && r.turns

-- ---- computed

pub record Leaving : Type 0 where
  pub two-cover : shows (ran one_joins begun) ≡ true
  pub known_dead : (left.done && knows_dead left.left.table) ≡ true
  -- 17 suspects 31, and in an estate of two it joins by 5 and resigns: each is done, in turn
  pub suspects : all_in_turn (ran (SuspectFaulty 1 2 ∷ []) (three 2)) ≡ true
  pub resigns-in-turn : all_in_turn (ran (Join 1 0 ∷ ResignNode 1 0 ∷ []) two) ≡ true
  -- L = 2: both sides of 17 are {5}, so its leaf set is complete; nothing waits
  pub few-nodes : stuck (ran leaves (three 2)) (LSRepair 1 ∷ ResignNode 1 0 ∷ Recover 1 ∷ []) ≡ (true, 0, Wait, 4 ∷ 4 ∷ 2 ∷ [])
  -- L = 1: the right side of 17 is empty, so it can resign; 5, the one ready node, still has it in its leaf set and refuses its request
  pub one-a-side : stuck (ran resigns (three 1)) (LSRepair 1 ∷ Recover 1 ∷ Take 0 ∷ []) ≡ (true, 1, Wait, 4 ∷ 2 ∷ 5 ∷ [])
  -- the reply to the first Join is taken after the second, whose request still waits
  pub stale-reply : taken (ran joins_twice two) ≡ (true, 2, 1)

pub leaving : Leaving
unfolding fall_of signed_of abs_dist_of rises_to nearer left_cover_of right_cover_of covers_key has gather tally first_to all_to single union meet
    without add_of remove_of size_of lowest_of listed best closest content_of seen_from leaf_with leaf_with_one overlaps is_full is_complete is_empty
    covers_of leaf_candidates route_candidates by_leaf leaf_hop route_hop next_hop alike all_different first_from first_equal added removed_at
    sent_to numbers_fit id_fits side_fits leaf_fits others_fit node_fits is_blank slot_fits word_fits flag_fits carried_fits owner_fits routing_fits
    failed_fits fields_fit message_fits farther_than hops_fit mailed waits join_waits plan_join lease_plan plan_request_lease is_neighbour plan_grant_expired
    plan_take_join_request plan_take_join_reply probes2 probes_of probe_plan_of plan_take_probe status_after_reply reply_plan_of plan_take_probe_reply
    plan_take_lease_request broadcast_plan plan_take_broadcast plan_take without_probes reply_waits ends_to_probe last_end plan_node_left
    plan_suspect_faulty plan_probe_time_out plan_declare_dead plan_ls_repair plan_resign_node plan_recover slot_ids slots_to start_node start_nodes
    start_fits ids_rise list_fits start_of nodes_fit messages_fit pool_fits valid_of carried_out settle ready_set ok_set dead_set is_sound step_of
    nobody_waits
leaving = record { two-cover = refl; known_dead = refl; suspects = refl; resigns-in-turn = refl; few-nodes = refl; one-a-side = refl; stale-reply = refl }

pub started : start_of 5 2 (5 ∷ 17 ∷ 18 ∷ []) 3 ≡ Ok begun.table
unfolding start_of start_fits list_fits ids_rise listed all_to has slot_ids
started = refl

-- ---- what follows

-- no Join of the list is done while some node is wait; whoever leaves, and whichever probe times out
abbrev pub JoinsPatient : Table → Pool → List Action → Type 0
JoinsPatient t p [] = Unit {0}
JoinsPatient t p (a ∷ acts) =
    ((i seed : ℕ) → a ≡ Join i seed → (step_of t p 256 a).answer ≡ Ok tt → NoneWaits t)
    × JoinsPatient (step_of t p 256 a).table (step_of t p 256 a).pool acts

abbrev nobody_joins : List Action → Bool
nobody_joins [] = true
nobody_joins (a ∷ acts) = not (is_join a) && nobody_joins acts

pub nobody-patient : (acts : List Action) (t : Table) (p : Pool) → nobody_joins acts ≡ true → JoinsPatient t p acts
nobody-patient [] t p e = tt
nobody-patient (a ∷ acts) t p e =
    let b = both (not (is_join a)) (nobody_joins acts) e in (
      λ i seed join done. absurd (opposed (ap is_join join) (not-true _ b.0)),
      nobody-patient acts (step_of t p 256 a).table (step_of t p 256 a).pool b.1,
    )
