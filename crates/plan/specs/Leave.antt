-- T-03: controllers that go away: document 001's departures and repairs, in the request's order. Each is refused with the lowest number that applies, or makes
-- a plan for node i. Where the request says "as printed in 001", 001's lines stand above. Argument ranges (1) are judged in table's Step, the pool's size (6) in
-- its Settle. Definitions only. Assumes nothing.
use Rattle.rules.specs.Shapes.{Planned}
use Rattle.std.specs.Prelude.{Bool, cond, ◌&&◌, ◌||◌, not, eqb, ltb, None, Ok, Err}
use Rattle.marks.specs.Marks.{has, union, add_of, remove_of, single, size_of}
use Rattle.rules.specs.Names.{Slot, Marks, Ids}
use Rattle.rules.specs.declared.Ring.{Ring}
use Rattle.rules.specs.declared.Sides.{Sides}
use Rattle.rules.specs.Leaf.{content_of, leftmost, rightmost, is_complete}
use Rattle.rules.specs.declared.Status.{Status}
use Rattle.rules.specs.declared.Status.TheVariants as status
use Rattle.rules.specs.declared.Node.{Node}
use Rattle.rules.specs.declared.Refusal.TheVariants as no
use Rattle.rules.specs.Nodes.{sides_of}
use Rattle.rules.specs.Pool.{blank}
use Rattle.rules.specs.declared.Plan.{Plan}
use Rattle.rules.specs.declared.Via.TheVariants.{Unrouted}
use Rattle.rules.specs.Letters.{join_request, ls_probe}
use Rattle.rules.specs.Plans.{is_dead, is_wait, is_ready, is_up, with_probing, with_sides, quiet_plan, send_plan}
use Rattle.plan.specs.Actions.{is_neighbour}

-- ---- NodeLeft(i)
-- Any node not dead becomes dead with all sets empty; messages stay.

-- all sets empty, but for the routing set
abbrev pub emptied : Node → Status → Marks → Node
emptied v s routing = record { id = v.id; status = s; left = 0; right = 0; probing = 0; failed = 0; routing = routing; lease = 0; grant = 0 }

unfoldable pub plan_node_left : Node → Planned
plan_node_left v = cond (is_dead v.status) (Err no.Status)
    (Ok (quiet_plan (emptied v status.Dead 0)))

-- ---- SuspectFaulty(i, j)
-- i ok or ready, j another member of its content, neither probed nor failed; j is probed with i's leaf set and failed.

-- the nodes of a set are probed with i's leaf set and failed
abbrev pub probing_plan : Slot → Node → Marks → Plan
probing_plan i v set =
    record { node = with_probing v (union v.probing set); first = blank; to = None; each = ls_probe i (sides_of v) v.failed; all = set; via = Unrouted }

unfoldable pub plan_suspect_faulty : Slot → Node → Slot → Planned
plan_suspect_faulty i v j = cond (not (is_up v.status)) (Err no.Status)
    (cond (eqb i j || (not (has (content_of (sides_of v) i) j) || (has v.probing j || has v.failed j))) (Err no.Partner)
    (Ok (probing_plan i v (single j))))

-- ---- ProbeTimeOut(i, j)
-- i not dead, i and j differ, j probed; j leaves probing and lease and enters failed, the waiting LSProbes from i to j go, and unless j is granted it leaves the
-- leaf set, with i becoming wait if it was there.

-- j leaves probing and lease and enters failed
abbrev pub timed_out : Node → Slot → Node
timed_out v j =
    record {
      id = v.id;
      status = v.status;
      left = v.left;
      right = v.right;
      probing = remove_of v.probing j;
      failed = add_of v.failed j;
      routing = v.routing;
      lease = remove_of v.lease j;
      grant = v.grant;
    }

-- j leaves the leaf set, and i becomes wait
abbrev pub without_member : Node → Slot → Node
without_member v j = with_sides v (record { left = remove_of v.left j; right = remove_of v.right j }) status.Wait

-- unless j is granted it leaves the leaf set, with i becoming wait if it was there
abbrev pub after_time_out : Slot → Node → Slot → Node
after_time_out i v j = cond (not (has v.grant j) && has (content_of (sides_of v) i) j) (without_member (timed_out v j) j) (timed_out v j)

unfoldable pub plan_probe_time_out : Slot → Node → Slot → Planned
plan_probe_time_out i v j = cond (is_dead v.status) (Err no.Status)
    (cond (eqb i j || not (has v.probing j)) (Err no.Partner)
    (Ok (quiet_plan (after_time_out i v j))))

-- ---- DeclareDead(i, j)
-- 001: status[i] is ready or ok; j is in failed[i] and in the content of lset[i]; j = LeftNeighbor(lset[i]) => j is not in grant[i];
-- j = RightNeighbor(lset[i]) => j is not in grant[i]; lset' = RemoveFromLSet({j}, lset[i]); status' = wait.

unfoldable pub plan_declare_dead : Ring → Ids → Slot → Node → Slot → Planned
plan_declare_dead g ids i v j = cond (not (is_up v.status)) (Err no.Status)
    (cond (not (has v.failed j && has (content_of (sides_of v) i) j) || (is_neighbour g ids i v j && has v.grant j)) (Err no.Partner)
    (Ok (quiet_plan (without_member v j))))

-- ---- LSRepair(i)
-- 001: status[i] is wait; probing[i] is empty; lset[i] is not complete; neither side is empty; newprob is leftmost and rightmost if both sides have fewer than L,
-- leftmost if the left has fewer than L and the right L, else rightmost; probing' = probing and newprob; Probe(i, lset[i], failed[i], newprob).

-- a side is empty; both are
abbrev pub is_bare : Marks → Bool
is_bare side = eqb (size_of side) 0

abbrev pub lacks_side : Sides → Bool
lacks_side s = is_bare s.left || is_bare s.right

abbrev pub lacks_both : Sides → Bool
lacks_both s = is_bare s.left && is_bare s.right

-- newprob
unfoldable pub ends_to_probe : Ring → Ids → Slot → Sides → Marks
ends_to_probe g ids i s =
    let lm = single (leftmost g ids i s) in
    let rm = single (rightmost g ids i s) in
    cond (ltb (size_of s.left) g.l && ltb (size_of s.right) g.l) (union lm rm)
    (cond (ltb (size_of s.left) g.l && eqb (size_of s.right) g.l) lm rm)

unfoldable pub plan_ls_repair : Ring → Ids → Slot → Node → Planned
plan_ls_repair g ids i v = cond (not (is_wait v.status)) (Err no.Status)
    (cond (lacks_side (sides_of v) || is_complete g (sides_of v)) (Err no.LeafSet)
    (cond (not (eqb v.probing 0)) (Err no.Partner)
    (Ok (probing_plan i v (ends_to_probe g ids i (sides_of v))))))

-- ---- ResignNode(i, n)
-- 001: status[i] is wait; probing[i] is empty; a side is empty; no JoinReply to i waits; n is ready (the caller names it); rtable' = {i}; the leaf set, probing,
-- lease, grant and failed become empty; a JoinRequest of i with an empty routing set goes to n. i stays wait.

unfoldable pub plan_resign_node : Bool → Slot → Node → Slot → Node → Planned
plan_resign_node waiting i v n u = cond (not (is_wait v.status && is_ready u.status)) (Err no.Status)
    (cond waiting (Err no.Waits)
    (cond (not (lacks_side (sides_of v))) (Err no.LeafSet)
    (cond (not (eqb v.probing 0)) (Err no.Partner)
    (Ok (send_plan (emptied v v.status (single i)) (join_request i 0) n)))))

-- ---- Recover(i)
-- 001: status[i] is wait; probing[i] is empty; a side is empty; no node is ready or ok; not both sides are empty; pe is rightmost if the left is empty, else leftmost;
-- probing' = probing and pe; Probe(i, lset[i], failed[i], {pe}).

-- pe
unfoldable pub last_end : Ring → Ids → Slot → Sides → Slot
last_end g ids i s = cond (is_bare s.left) (rightmost g ids i s) (leftmost g ids i s)

-- some_up: a node at all is ready or ok
unfoldable pub plan_recover : Bool → Ring → Ids → Slot → Node → Planned
plan_recover some_up g ids i v = cond (not (is_wait v.status) || some_up) (Err no.Status)
    (cond (not (lacks_side (sides_of v)) || lacks_both (sides_of v)) (Err no.LeafSet)
    (cond (not (eqb v.probing 0)) (Err no.Partner)
    (Ok (probing_plan i v (single (last_end g ids i (sides_of v)))))))
