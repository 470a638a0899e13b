-- The departures and repairs of T-03, computed by the checker on six nodes: each refusal, the lowest where two apply, and what is done. But for ResignNode the node is
-- 10 in slot 0, with 40, 80, 120, 160 and 200 up the ring, in slots 1 to 5. Assumes nothing.
use Rattle.rules.specs.Shapes.{Planned}
use mathlib.Core.Path.{◌≡◌, refl}
use mathlib.Core.Bool.{Bool, true, false}
use mathlib.Core.List.{List, [], ◌∷◌}
use Prim.Native.Nat.{ℕ}
use Rattle.rules.specs.declared.Status.{Status}
use Rattle.rules.specs.declared.Status.TheVariants.{Dead, Wait, Ok, Ready}
use Rattle.rules.specs.declared.Node.{Node}
use Rattle.rules.specs.declared.Message.{Message}
use Rattle.rules.specs.Nodes.{placed}
use Rattle.rules.specs.Letters.{join_request, ls_probe}
use Rattle.plan.specs.Leave.{plan_node_left, plan_suspect_faulty, plan_probe_time_out, plan_declare_dead, plan_ls_repair, plan_resign_node, plan_recover}
use Rattle.rules.proofs.Small.{six, six_ids, node, sides}
use Rattle.plan.proofs.Small.{opened, number_of, at_each, made}

-- ---- NodeLeft(i): any node not dead becomes dead with all sets empty; messages stay.

abbrev leaves : Status → Planned
leaves s = plan_node_left (node 10 s 6 48 8 8 63 38 17)

pub record NodeLeftCases : Type 0 where
  pub two : at_each leaves ≡ 2 ∷ 0 ∷ 0 ∷ 0 ∷ []
  -- the routing set too
  pub done : (made (leaves Wait) ≡ (node 10 Dead 0 0 0 0 0 0 0, [])) × (made (leaves Ready) ≡ (node 10 Dead 0 0 0 0 0 0 0, []))

pub node-left-cases : NodeLeftCases
unfolding opened
node-left-cases = record { two = refl; done = (refl, refl) }

-- ---- SuspectFaulty(i, j): i ok or ready, j another member of its content, neither probed nor failed; j is probed with i's leaf set and failed.

-- by probing and failed
abbrev suspects : ℕ → ℕ → ℕ → Status → Planned
suspects probing failed j s = plan_suspect_faulty 0 (node 10 s 6 48 probing failed 63 38 17) j

abbrev suspected : ℕ → ℕ → Status → Node × List Message
suspected probing j s = (node 10 s 6 48 probing 4 63 38 17, placed (ls_probe 0 (sides 6 48) 4) j ∷ [])

pub record SuspectFaultyCases : Type 0 where
  pub two : at_each (suspects 8 4 1) ≡ 2 ∷ 2 ∷ 0 ∷ 0 ∷ []
  -- 2 before 5
  pub five-itself : at_each (suspects 8 4 0) ≡ 2 ∷ 2 ∷ 5 ∷ 5 ∷ []
  pub five-stranger : at_each (suspects 0 4 3) ≡ 2 ∷ 2 ∷ 5 ∷ 5 ∷ []
  pub five-probed : at_each (suspects 2 4 1) ≡ 2 ∷ 2 ∷ 5 ∷ 5 ∷ []
  pub five-failed : at_each (suspects 8 2 1) ≡ 2 ∷ 2 ∷ 5 ∷ 5 ∷ []
  -- a member of the left, and one of the right
  pub left : made (suspects 8 4 1 Ok) ≡ suspected 10 1 Ok
  pub right : made (suspects 8 4 5 Ready) ≡ suspected 40 5 Ready
  -- a granted one stays granted
  pub granted : made (suspects 8 4 4 Ready) ≡ suspected 24 4 Ready

pub suspect-faulty-cases : SuspectFaultyCases
unfolding opened
suspect-faulty-cases =
    record {
      two = refl;
      five-itself = refl;
      five-stranger = refl;
      five-probed = refl;
      five-failed = refl;
      left = refl;
      right = refl;
      granted = refl;
    }

-- ---- ProbeTimeOut(i, j): i not dead, i and j differ, j probed; j leaves probing and lease and enters failed, the waiting LSProbes from i to j go, and unless j is
-- granted it leaves the leaf set, with i becoming wait if it was there.

-- by the sides, probing, lease and grant
abbrev times_leased : ℕ → ℕ → ℕ → ℕ → ℕ → ℕ → Status → Planned
times_leased left right probing lease grant j s = plan_probe_time_out 0 (node 10 s left right probing 16 63 lease grant) j

abbrev times : ℕ → ℕ → ℕ → ℕ → ℕ → Status → Planned
times left right probing grant j s = times_leased left right probing 38 grant j s

pub record ProbeTimeOutCases : Type 0 where
  pub two : at_each (times 6 48 6 0 1) ≡ 2 ∷ 0 ∷ 0 ∷ 0 ∷ []
  -- 2 before 5
  pub five : at_each (times 6 48 4 0 1) ≡ 2 ∷ 5 ∷ 5 ∷ 5 ∷ []
  pub five-itself : at_each (times 6 48 1 0 0) ≡ 2 ∷ 5 ∷ 5 ∷ 5 ∷ []
  -- a member that is not granted leaves, and the node waits; a grant of another does not count
  pub member : made (times 6 48 6 0 1 Ready) ≡ (node 10 Wait 4 48 4 18 63 36 0, [])
  pub both-sides : made (times 6 34 2 4 1 Ok) ≡ (node 10 Wait 4 32 0 18 63 36 4, [])
  pub waits-on : made (times 6 48 32 0 5 Wait) ≡ (node 10 Wait 6 16 0 48 63 6 0, [])
  -- a granted member stays, and so does the status
  pub granted : made (times 6 48 6 2 1 Ready) ≡ (node 10 Ready 6 48 4 18 63 36 2, [])
  -- who is no member is failed, and the status stays
  pub stranger : made (times 6 48 8 0 3 Ready) ≡ (node 10 Ready 6 48 0 24 63 38 0, [])
  -- and no longer leased
  pub stranger-leased : made (times_leased 6 48 8 46 0 3 Ready) ≡ (node 10 Ready 6 48 0 24 63 38 0, [])

pub probe-time-out-cases : ProbeTimeOutCases
unfolding opened
probe-time-out-cases =
    record {
      two = refl;
      five = refl;
      five-itself = refl;
      member = refl;
      both-sides = refl;
      waits-on = refl;
      granted = refl;
      stranger = refl;
      stranger-leased = refl;
    }

-- ---- DeclareDead(i, j): ok or ready; j in failed and in the content; a neighbour only if it is not in grant. j leaves the leaf set; i becomes wait.

-- by the sides, failed and grant
abbrev declares : ℕ → ℕ → ℕ → ℕ → ℕ → Status → Planned
declares left right failed grant j s = plan_declare_dead (six 2) six_ids 0 (node 10 s left right 10 failed 63 38 grant) j

pub record DeclareDeadCases : Type 0 where
  pub two : at_each (declares 6 48 2 0 1) ≡ 2 ∷ 2 ∷ 0 ∷ 0 ∷ []
  -- 2 before 5
  pub five-not-failed : at_each (declares 6 48 4 0 1) ≡ 2 ∷ 2 ∷ 5 ∷ 5 ∷ []
  pub five-stranger : at_each (declares 6 48 8 0 3) ≡ 2 ∷ 2 ∷ 5 ∷ 5 ∷ []
  pub five-granted-left : at_each (declares 6 48 2 2 1) ≡ 2 ∷ 2 ∷ 5 ∷ 5 ∷ []
  pub five-granted-right : at_each (declares 6 48 32 32 5) ≡ 2 ∷ 2 ∷ 5 ∷ 5 ∷ []
  -- neighbours; failed, probing, routing and lease keep j
  pub left : made (declares 6 48 2 4 1 Ok) ≡ (node 10 Wait 4 48 10 2 63 38 4, [])
  pub right : made (declares 6 48 32 0 5 Ready) ≡ (node 10 Wait 6 16 10 32 63 38 0, [])
  pub both-sides : made (declares 6 34 6 0 1 Ready) ≡ (node 10 Wait 4 32 10 6 63 38 0, [])
  -- a granted member that is no neighbour
  pub granted : made (declares 6 48 4 4 2 Ready) ≡ (node 10 Wait 2 48 10 4 63 38 4, [])

pub declare-dead-cases : DeclareDeadCases
unfolding opened
declare-dead-cases =
    record {
      two = refl;
      five-not-failed = refl;
      five-stranger = refl;
      five-granted-left = refl;
      five-granted-right = refl;
      left = refl;
      right = refl;
      both-sides = refl;
      granted = refl;
    }

-- ---- LSRepair(i): wait, neither side empty, not complete, probing empty. Probes leftmost and rightmost, or that of the only short side.

-- by L, the sides and probing
abbrev repairs : ℕ → ℕ → ℕ → ℕ → Status → Planned
repairs l left right probing s = plan_ls_repair (six l) six_ids 0 (node 10 s left right probing 8 63 38 4)

abbrev asked : ℕ → ℕ → ℕ → Node
asked left right probing = node 10 Wait left right probing 8 63 38 4

abbrev asks : ℕ → ℕ → ℕ → Message
asks left right j = placed (ls_probe 0 (sides left right) 8) j

pub record LSRepairCases : Type 0 where
  pub two : at_each (repairs 2 2 48 0) ≡ 2 ∷ 0 ∷ 2 ∷ 2 ∷ []
  -- a side too empty, both full, or sides that overlap
  pub four-left : at_each (repairs 2 0 48 0) ≡ 2 ∷ 4 ∷ 2 ∷ 2 ∷ []
  pub four-right : at_each (repairs 2 6 0 0) ≡ 2 ∷ 4 ∷ 2 ∷ 2 ∷ []
  pub four-full : at_each (repairs 2 6 48 0) ≡ 2 ∷ 4 ∷ 2 ∷ 2 ∷ []
  pub four-overlap : at_each (repairs 3 6 36 0) ≡ 2 ∷ 4 ∷ 2 ∷ 2 ∷ []
  -- 2 before 4 before 5
  pub five : at_each (repairs 2 2 48 8) ≡ 2 ∷ 5 ∷ 2 ∷ 2 ∷ []
  pub four-first : at_each (repairs 2 6 48 8) ≡ 2 ∷ 4 ∷ 2 ∷ 2 ∷ []
  pub four-first-left : at_each (repairs 2 0 48 8) ≡ 2 ∷ 4 ∷ 2 ∷ 2 ∷ []
  pub four-first-right : at_each (repairs 2 6 0 8) ≡ 2 ∷ 4 ∷ 2 ∷ 2 ∷ []
  -- 80 is leftmost, 160 rightmost
  pub both : made (repairs 3 6 48 0 Wait) ≡ (asked 6 48 20, asks 6 48 2 ∷ asks 6 48 4 ∷ [])
  -- 200 is leftmost, 40 rightmost: in rising slot order
  pub rising : made (repairs 3 40 6 0 Wait) ≡ (asked 40 6 34, asks 40 6 1 ∷ asks 40 6 5 ∷ [])
  pub left-short : made (repairs 2 4 48 0 Wait) ≡ (asked 4 48 4, asks 4 48 2 ∷ [])
  pub right-short : made (repairs 2 6 16 0 Wait) ≡ (asked 6 16 16, asks 6 16 4 ∷ [])
  -- the far end of a short side with more than one: 80 of 40 and 80, 160 of 160 and 200
  pub left_end : made (repairs 3 6 56 0 Wait) ≡ (asked 6 56 4, asks 6 56 2 ∷ [])
  pub right_end : made (repairs 3 14 48 0 Wait) ≡ (asked 14 48 16, asks 14 48 4 ∷ [])

pub ls-repair-cases : LSRepairCases
unfolding opened
ls-repair-cases =
    record {
      two = refl;
      four-left = refl;
      four-right = refl;
      four-full = refl;
      four-overlap = refl;
      five = refl;
      four-first = refl;
      four-first-left = refl;
      four-first-right = refl;
      both = refl;
      rising = refl;
      left-short = refl;
      right-short = refl;
      left_end = refl;
      right_end = refl;
    }

-- ---- ResignNode(i, n): i wait and n ready; no JoinReply to i waits; a side empty; probing empty. All sets empty but the routing set, which is i; a JoinRequest to n.

-- 80 in slot 2 resigns at slot 4, by whether a JoinReply waits, the sides, probing, its status and the other's
abbrev resigns : Bool → ℕ → ℕ → ℕ → Status → Status → Planned
resigns waiting left right probing s other = plan_resign_node waiting 2 (node 80 s left right probing 8 13 1 2) 4 (node 160 other 1 4 8 8 7 5 5)

pub record ResignNodeCases : Type 0 where
  pub two : at_each (λ s. resigns false 0 2 0 s Ready) ≡ 2 ∷ 0 ∷ 2 ∷ 2 ∷ []
  pub two-by-named : at_each (resigns false 0 2 0 Wait) ≡ 2 ∷ 2 ∷ 2 ∷ 0 ∷ []
  pub three : at_each (λ s. resigns true 0 2 0 s Ready) ≡ 2 ∷ 3 ∷ 2 ∷ 2 ∷ []
  pub three-by-named : at_each (resigns true 0 2 0 Wait) ≡ 2 ∷ 2 ∷ 2 ∷ 3 ∷ []
  pub four : at_each (λ s. resigns false 8 2 0 s Ready) ≡ 2 ∷ 4 ∷ 2 ∷ 2 ∷ []
  pub not-four : (number_of (resigns false 8 0 0 Wait Ready) ≡ 0) × (number_of (resigns false 0 0 0 Wait Ready) ≡ 0)
  pub five : at_each (λ s. resigns false 0 2 16 s Ready) ≡ 2 ∷ 5 ∷ 2 ∷ 2 ∷ []
  -- 3 before 4 before 5
  pub three-first : number_of (resigns true 8 2 16 Wait Ready) ≡ 3
  pub four-first : number_of (resigns false 8 2 16 Wait Ready) ≡ 4
  -- the routing set is the node itself
  pub done : made (resigns false 0 2 0 Wait Ready) ≡ (node 80 Wait 0 0 0 0 4 0 0, placed (join_request 2 0) 4 ∷ [])

pub resign-node-cases : ResignNodeCases
unfolding opened
resign-node-cases =
    record {
      two = refl;
      two-by-named = refl;
      three = refl;
      three-by-named = refl;
      four = refl;
      not-four = (refl, refl);
      five = refl;
      three-first = refl;
      four-first = refl;
      done = refl;
    }

-- ---- Recover(i): wait, and no node at all ok or ready; exactly one side empty; probing empty. Probes the far end of the other side.

-- by whether some node is ok or ready, the sides and probing
abbrev recovers : Bool → ℕ → ℕ → ℕ → Status → Planned
recovers some_up left right probing s = plan_recover some_up (six 3) six_ids 0 (node 10 s left right probing 8 63 38 4)

pub record RecoverCases : Type 0 where
  pub two : at_each (recovers false 0 48 0) ≡ 2 ∷ 0 ∷ 2 ∷ 2 ∷ []
  pub two-by-another : at_each (recovers true 0 48 0) ≡ 2 ∷ 2 ∷ 2 ∷ 2 ∷ []
  pub four-empty : at_each (recovers false 0 0 0) ≡ 2 ∷ 4 ∷ 2 ∷ 2 ∷ []
  pub four-both : at_each (recovers false 6 48 0) ≡ 2 ∷ 4 ∷ 2 ∷ 2 ∷ []
  -- 2 before 4 before 5
  pub five : at_each (recovers false 0 48 8) ≡ 2 ∷ 5 ∷ 2 ∷ 2 ∷ []
  pub four-first : at_each (recovers false 6 48 8) ≡ 2 ∷ 4 ∷ 2 ∷ 2 ∷ []
  pub four-first-empty : at_each (recovers false 0 0 8) ≡ 2 ∷ 4 ∷ 2 ∷ 2 ∷ []
  pub two-first : at_each (recovers true 6 48 8) ≡ 2 ∷ 2 ∷ 2 ∷ 2 ∷ []
  -- 160 is rightmost, 80 leftmost
  pub left-empty : made (recovers false 0 48 0 Wait) ≡ (asked 0 48 16, asks 0 48 4 ∷ [])
  pub right-empty : made (recovers false 6 0 0 Wait) ≡ (asked 6 0 4, asks 6 0 2 ∷ [])

pub recover-cases : RecoverCases
unfolding opened
recover-cases =
    record {
      two = refl;
      two-by-another = refl;
      four-empty = refl;
      four-both = refl;
      five = refl;
      four-first = refl;
      four-first-empty = refl;
      two-first = refl;
      left-empty = refl;
      right-empty = refl;
    }
