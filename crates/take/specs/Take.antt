-- Take(place), by kind, in 01's order, with Deliver(place) and Forward(place) for a Lookup (T-05): message m at its destination i, whose node is v.
-- Each kind is refused with the lowest number that applies, or makes a plan.
-- 01's words stand above each kind; "several probes are sent in rising slot order" is Mail.sent. Definitions only. Assumes nothing.
use Rattle.rules.specs.Shapes.{Planned}
use Rattle.std.specs.Prelude.{Bool, cond, ◌&&◌, ◌||◌, not, ℕ, ◌+◌, eqb, Some, None, Ok, Err}
use Rattle.marks.specs.Marks.{has, union, meet, without, add_of, remove_of}
use Rattle.rules.specs.Names.{Slot, Marks, Ids, Key, Kind, Hops}
use Rattle.rules.specs.Pick.{id_at}
use Rattle.rules.specs.declared.Ring.{Ring}
use Rattle.rules.specs.declared.Sides.{Sides}
use Rattle.rules.specs.Leaf.{content_of, leaf_with, leaf_with_one, overlaps, is_complete, is_empty, left_neighbour, right_neighbour, covers_of}
use Rattle.rules.specs.declared.Status.{Status}
use Rattle.rules.specs.declared.Status.TheVariants as status
use Rattle.rules.specs.declared.Node.{Node}
use Rattle.rules.specs.declared.Message.{Message}
use Rattle.rules.specs.declared.Refusal.TheVariants as no
use Rattle.rules.specs.Nodes.{sides_of, carried_of}
use Rattle.rules.specs.Pool.{blank}
use Rattle.rules.specs.declared.Hop.{Hop}
use Rattle.rules.specs.declared.Hop.TheVariants.{To, NoRoute}
use Rattle.rules.specs.Hop.{next_hop, via_of}
use Rattle.rules.specs.declared.Plan.{Plan}
use Rattle.rules.specs.declared.Via.TheVariants as via
use Rattle.rules.specs.Letters.{lookup_after, join_request, join_reply, ls_probe, ls_probe_reply, no_legal_route, broadcast_l_set}
use Rattle.rules.specs.Plans.{is_dead, is_wait, is_ready, is_up, with_leases, quiet_plan, send_by, send_plan}
use Rattle.plan.specs.Actions.{is_beside, is_neighbour}

-- ---- 1 Lookup
-- 01: 2 unless ready. If i covers k, delivered: nothing is added. Else Lookup goes to the next hop, or NoLegalRoute(k) to i.
-- T-05: Split the taking of a Lookup in two: Deliver, only if the node covers the key, and Forward, only if it does not. Refusals: 5 from Take on a Lookup
-- and from either of the pair on another kind, both whatever the status; then 2 unless ready; then 5 from Deliver when not covered and from Forward when
-- covered. (5 from Take on a Lookup: in plan_take below.)

-- Lookup goes to the next hop, or NoLegalRoute(k) to i. Routing of lookups and of join requests pass this on: where the hop came from
abbrev pub forward_plan : Hop → Node → Message → Key → Slot → Plan
forward_plan (To h) v m k i = send_by (via_of i v h) v m h
forward_plan NoRoute v m k i = send_plan v (no_legal_route k) i

-- T-05: 5 on another kind; 2 unless ready; 5 when not covered. Delivered: nothing is added
unfoldable pub plan_deliver : Kind → Ring → Ids → Slot → Node → Key → Planned
plan_deliver kind g ids i v k = cond (not (eqb kind 1)) (Err no.Partner)
    (cond (not (is_ready v.status)) (Err no.Status)
    (cond (not (covers_of g ids i (sides_of v) k)) (Err no.Partner)
    (Ok (quiet_plan v))))

-- T-05: 5 on another kind; 2 unless ready; 5 when covered. T-07: one more at each forwarding
unfoldable pub plan_forward : Kind → Ring → Ids → Marks → Slot → Node → Key → Hops → Planned
plan_forward kind g ids dead i v k hops = cond (not (eqb kind 1)) (Err no.Partner)
    (cond (not (is_ready v.status)) (Err no.Status)
    (cond (covers_of g ids i (sides_of v) k) (Err no.Partner)
    (Ok (forward_plan (next_hop g ids dead i v k) v (lookup_after (hops + 1) k) k i))))

-- ---- 2 JoinRequest
-- From j. 2 unless ready; 5 if j is in i's content. If i covers j's id, a JoinReply to j with m's routing set and i's leaf set.
-- Else to the next hop with i's routing set joined in, or NoLegalRoute(id of j) to i.

unfoldable pub plan_take_join_request : Ring → Ids → Marks → Slot → Node → Slot → Marks → Planned
plan_take_join_request g ids dead i v j routing = cond (not (is_ready v.status)) (Err no.Status)
    (cond (has (content_of (sides_of v) i) j) (Err no.Partner)
    (cond (covers_of g ids i (sides_of v) (id_at ids j)) (Ok (send_plan v (join_reply routing i (sides_of v)) j))
    (Ok (forward_plan (next_hop g ids dead i v (id_at ids j)) v (join_request j (union routing v.routing)) (id_at ids j) i))))

-- ---- 3 JoinReply
-- 2 if dead; 4 if the leaf set is not empty; 5 if probing is not empty. Routing set gains m's routing set and the content of m's leaf set; that content
-- is added to the leaf set; probing = new content without i; failed = empty; LSProbe to each in probing, carrying the new leaf set and empty failed.

-- routing set gains m's routing set and the content of m's leaf set; that content is added to the leaf set (s); probing = new content without i; failed = empty
abbrev pub joined_node : Node → Slot → Marks → Marks → Sides → Node
joined_node v i routing content s =
    let probed = remove_of (content_of s i) i in
    let known = union v.routing (union routing content) in
    record { id = v.id; status = v.status; left = s.left; right = s.right; probing = probed; failed = 0; routing = known; lease = v.lease; grant = v.grant }

-- LSProbe to each in probing, carrying the new leaf set and empty failed
abbrev pub joined_plan : Node → Slot → Sides → Plan
joined_plan v i s = record { node = v; first = blank; to = None; each = ls_probe i s 0; all = v.probing; via = via.Unrouted }

abbrev pub join_reply_plan : Slot → Node → Marks → Marks → Sides → Plan
join_reply_plan i v routing content s = joined_plan (joined_node v i routing content s) i s

-- 2 if dead; 4 if the leaf set is not empty; 5 if probing is not empty
unfoldable pub plan_take_join_reply : Ring → Ids → Slot → Node → Message → Planned
plan_take_join_reply g ids i v m = cond (is_dead v.status) (Err no.Status)
    (cond (not (is_empty (sides_of v))) (Err no.LeafSet)
    (cond (not (eqb v.probing 0)) (Err no.Partner)
    (Ok (join_reply_plan i v m.routing (content_of (carried_of m) m.owner) (leaf_with g ids i (sides_of v) (content_of (carried_of m) m.owner))))))

-- ---- 4 LSProbe
-- From j. 2 if dead; 4 if wait with empty leaf set; 5 if j = i. F = failed without j. S = leaf set, with j added unless in it. P1 = the members of content(S)
-- that are also in m's failed. P2 = content of S after adding m's content without F, minus content(S). P = the union of P1 and P2, without members of
-- probing or F and without i (document 001 lets a node probe itself; we do not). Set failed F, leaf set S, routing set plus j, probing plus P. Send
-- LSProbeReply(S, F) to j, then LSProbe(S, F) to each of P.

-- F = failed without j
abbrev pub failed_without : Node → Slot → Marks
failed_without v j = remove_of v.failed j

-- P1 = the members of content(S) that are also in m's failed
abbrev pub probes1 : Slot → Sides → Message → Marks
probes1 i s m = meet (content_of s i) m.failed

-- P2 = content of S after adding m's content without F, minus content(S)
unfoldable pub probes2 : Ring → Ids → Slot → Sides → Marks → Message → Marks
probes2 g ids i s f m = without (content_of (leaf_with g ids i s (without (content_of (carried_of m) m.owner) f)) i) (content_of s i)

-- P = the union of P1 and P2, without members of probing or F and without i
unfoldable pub probes_of : Ring → Ids → Slot → Node → Sides → Marks → Message → Marks
probes_of g ids i v s f m = remove_of (without (union (probes1 i s m) (probes2 g ids i s f m)) (union v.probing f)) i

-- set failed F, leaf set S, routing set plus j; probing and the status are the kind's own
abbrev pub learnt_node : Node → Slot → Sides → Marks → Marks → Status → Node
learnt_node v j s f probing st =
    record { id = v.id; status = st; left = s.left; right = s.right; probing = probing; failed = f; routing = add_of v.routing j; lease = v.lease; grant = v.grant }

-- wait with empty leaf set
abbrev pub waits_empty : Node → Bool
waits_empty v = is_wait v.status && is_empty (sides_of v)

-- probing plus P. Send LSProbeReply(S, F) to j, then LSProbe(S, F) to each of P
abbrev pub probe_plan : Slot → Node → Slot → Sides → Marks → Marks → Plan
probe_plan i v j s f p =
    record { node = learnt_node v j s f (union v.probing p) v.status; first = ls_probe_reply i s f; to = Some j; each = ls_probe i s f; all = p; via = via.Unrouted }

-- S = leaf set, with j added unless in it
unfoldable pub probe_plan_of : Ring → Ids → Slot → Node → Message → Plan
probe_plan_of g ids i v m =
    let j = m.word in
    let f = failed_without v j in
    let s = leaf_with_one g ids i (sides_of v) j in
    probe_plan i v j s f (probes_of g ids i v s f m)

-- 2 if dead; 4 if wait with empty leaf set; 5 if j = i
unfoldable pub plan_take_probe : Ring → Ids → Slot → Node → Message → Planned
plan_take_probe g ids i v m = cond (is_dead v.status) (Err no.Status)
    (cond (waits_empty v) (Err no.LeafSet)
    (cond (eqb m.word i) (Err no.Partner)
    (Ok (probe_plan_of g ids i v m))))

-- ---- 5 LSProbeReply
-- As 4, but 5 also if j is not in probing, and no reply is sent. Probing becomes the union of probing and P, without members of the old failed and without
-- j. If i is wait, this is empty, and S overlaps or is complete, i becomes ok. (The end of this action is cut in our copy; this paragraph decides.)

-- probing becomes the union of probing and P, without members of the old failed and without j
abbrev pub still_probing : Node → Marks → Slot → Marks
still_probing v p j = remove_of (without (union v.probing p) v.failed) j

-- if i is wait, this is empty, and S overlaps or is complete, i becomes ok
unfoldable pub status_after_reply : Ring → Status → Sides → Marks → Status
status_after_reply g st s probing = cond (is_wait st && (eqb probing 0 && (overlaps s || is_complete g s))) status.Ok st

-- no reply is sent
abbrev pub reply_plan : Ring → Slot → Node → Slot → Sides → Marks → Marks → Marks → Plan
reply_plan g i v j s f p probing =
    record { node = learnt_node v j s f probing (status_after_reply g v.status s probing); first = blank; to = None; each = ls_probe i s f; all = p; via = via.Unrouted }

unfoldable pub reply_plan_of : Ring → Ids → Slot → Node → Message → Plan
reply_plan_of g ids i v m =
    let j = m.word in
    let f = failed_without v j in
    let s = leaf_with_one g ids i (sides_of v) j in
    let p = probes_of g ids i v s f m in
    reply_plan g i v j s f p (still_probing v p j)

-- as 4, but 5 also if j is not in probing
unfoldable pub plan_take_probe_reply : Ring → Ids → Slot → Node → Message → Planned
plan_take_probe_reply g ids i v m = cond (is_dead v.status) (Err no.Status)
    (cond (waits_empty v) (Err no.LeafSet)
    (cond (eqb m.word i || not (has v.probing m.word)) (Err no.Partner)
    (Ok (reply_plan_of g ids i v m))))

-- ---- 6 NoLegalRoute
-- 5 always: in plan_take below.

-- ---- 7 LeaseRequest
-- From j. 2 unless ok or ready; 4 if the leaf set is empty. If j is left or right neighbour, grant gains j. BroadcastLSet to j with i's leaf set, flag 1 if
-- j is such a neighbour, else 0.

-- if j is left or right neighbour, grant gains j. BroadcastLSet to j with i's leaf set, flag 1 if j is such a neighbour, else 0
abbrev pub grant_plan : Slot → Node → Slot → Bool → Plan
grant_plan i v j near = send_plan (with_leases v v.lease (cond near (add_of v.grant j) v.grant) v.status) (broadcast_l_set i (sides_of v) (cond near 1 0)) j

-- 2 unless ok or ready; 4 if the leaf set is empty
unfoldable pub plan_take_lease_request : Ring → Ids → Slot → Node → Slot → Planned
plan_take_lease_request g ids i v j = cond (not (is_up v.status)) (Err no.Status)
    (cond (is_empty (sides_of v)) (Err no.LeafSet)
    (Ok (grant_plan i v j (is_neighbour g ids i v j))))

-- ---- 8 BroadcastLSet
-- Owner j. 2 unless ok or ready; 4 if the leaf set is not complete; 5 if j = i. Add m's content without failed. If the flag is set and j is a new
-- neighbour, lease gains j. If both new neighbours are in lease and equal the old neighbours, i becomes ready.

-- the new neighbours equal the old neighbours, left to left and right to right
abbrev pub same_neighbours : Ring → Ids → Slot → Sides → Sides → Bool
same_neighbours g ids i s old = eqb (left_neighbour g ids i s) (left_neighbour g ids i old) && eqb (right_neighbour g ids i s) (right_neighbour g ids i old)

-- both new neighbours are in lease
abbrev pub both_leased : Ring → Ids → Slot → Sides → Marks → Bool
both_leased g ids i s lease = has lease (left_neighbour g ids i s) && has lease (right_neighbour g ids i s)

-- if the flag is set and j is a new neighbour, lease gains j: a neighbour in the new leaf set s
abbrev pub lease_after : Ring → Ids → Slot → Node → Sides → Slot → ℕ → Marks
lease_after g ids i v s j flag = cond (eqb flag 1 && is_beside g ids i s j) (add_of v.lease j) v.lease

-- if both new neighbours are in lease and equal the old neighbours, i becomes ready
abbrev pub status_after_lease : Ring → Ids → Slot → Node → Sides → Marks → Status
status_after_lease g ids i v s lease = cond (both_leased g ids i s lease && same_neighbours g ids i s (sides_of v)) status.Ready v.status

abbrev pub leased_node : Node → Sides → Marks → Status → Node
leased_node v s lease st =
    record { id = v.id; status = st; left = s.left; right = s.right; probing = v.probing; failed = v.failed; routing = v.routing; lease = lease; grant = v.grant }

-- add m's content without failed
unfoldable pub broadcast_plan : Ring → Ids → Slot → Node → Message → Plan
broadcast_plan g ids i v m =
    let s = leaf_with g ids i (sides_of v) (without (content_of (carried_of m) m.owner) v.failed) in
    let lease = lease_after g ids i v s m.owner m.flag in
    quiet_plan (leased_node v s lease (status_after_lease g ids i v s lease))

-- 2 unless ok or ready; 4 if the leaf set is not complete; 5 if j = i
unfoldable pub plan_take_broadcast : Ring → Ids → Slot → Node → Message → Planned
plan_take_broadcast g ids i v m = cond (not (is_up v.status)) (Err no.Status)
    (cond (not (is_complete g (sides_of v))) (Err no.LeafSet)
    (cond (eqb m.owner i) (Err no.Partner)
    (Ok (broadcast_plan g ids i v m))))

-- ---- by kind; 1: 5 from Take on a Lookup, whatever the status (T-05); 6: 5 always. A valid pool holds no other kind than the eight.

unfoldable pub plan_take : Kind → Ring → Ids → Marks → Slot → Node → Message → Planned
plan_take kind g ids dead i v m = cond (eqb kind 1) (Err no.Partner)
    (cond (eqb kind 2) (plan_take_join_request g ids dead i v m.word m.routing)
    (cond (eqb kind 3) (plan_take_join_reply g ids i v m)
    (cond (eqb kind 4) (plan_take_probe g ids i v m)
    (cond (eqb kind 5) (plan_take_probe_reply g ids i v m)
    (cond (eqb kind 6) (Err no.Partner)
    (cond (eqb kind 7) (plan_take_lease_request g ids i v m.word)
    (cond (eqb kind 8) (plan_take_broadcast g ids i v m)
    (Err no.Partner))))))))
