-- The actions, in 01's order; Take is in Take. Each is refused with the lowest number that applies, or makes a plan for node i.
-- Argument ranges (1) are judged in table's Step, the pool's size (6) in its Settle. Definitions only. Assumes nothing.
use Rattle.rules.specs.Shapes.{Planned}
use Rattle.std.specs.Prelude.{Bool, cond, ◌&&◌, ◌||◌, not, eqb, Some, None, Ok, Err}
use Rattle.marks.specs.Marks.{has, remove_of, single, without, Found}
use Rattle.rules.specs.Names.{Slot, Marks, Ids, Key}
use Rattle.rules.specs.declared.Ring.{Ring}
use Rattle.rules.specs.declared.Sides.{Sides}
use Rattle.rules.specs.Leaf.{is_empty, left_neighbour, right_neighbour}
use Rattle.rules.specs.declared.Status.TheVariants as status
use Rattle.rules.specs.declared.Node.{Node}
use Rattle.rules.specs.declared.Refusal.TheVariants as no
use Rattle.rules.specs.Nodes.{sides_of}
use Rattle.rules.specs.declared.Plan.{Plan}
use Rattle.rules.specs.declared.Via.TheVariants.{Unrouted}
use Rattle.rules.specs.Letters.{lookup, join_request, lease_request}
use Rattle.rules.specs.Plans.{is_dead, is_ready, is_ok, is_up, with_status, with_leases, quiet_plan, send_plan}

-- Lookup(i, k). 3 if that Lookup waits. Adds it.
unfoldable pub plan_lookup : Bool → Slot → Key → Node → Planned
plan_lookup waiting i k v = cond waiting (Err no.Waits) (Ok (send_plan v (lookup k) i))

-- Join(i, seed). 2 unless i is dead and seed ready; 3 if a JoinRequest of i waits anywhere; 4 if i's leaf set is not empty.
-- Adds a JoinRequest (empty routing set) to seed; i becomes wait.
unfoldable pub plan_join : Bool → Slot → Node → Slot → Node → Planned
plan_join waiting i v seed u = cond (not (is_dead v.status && is_ready u.status)) (Err no.Status)
    (cond waiting (Err no.Waits)
    (cond (not (is_empty (sides_of v))) (Err no.LeafSet)
    (Ok (send_plan (with_status v status.Wait) (join_request i 0) seed))))

-- RequestLease(i). 2 unless ok; 4 if the leaf set is empty. Adds a LeaseRequest from i to the left neighbour, then the right, each only if not in lease.
abbrev pub unless_in : Marks → Slot → Found
unless_in set s = cond (has set s) None (Some s)

unfoldable pub lease_plan : Ring → Ids → Slot → Node → Plan
lease_plan g ids i v =
    let l = left_neighbour g ids i (sides_of v) in
    let r = right_neighbour g ids i (sides_of v) in
    record { node = v; first = lease_request i; to = unless_in v.lease l; each = lease_request i; all = without (single r) v.lease; via = Unrouted }

unfoldable pub plan_request_lease : Ring → Ids → Slot → Node → Planned
plan_request_lease g ids i v = cond (not (is_ok v.status)) (Err no.Status)
    (cond (is_empty (sides_of v)) (Err no.LeafSet)
    (Ok (lease_plan g ids i v)))

-- j is the left or the right neighbour of i in the leaf set s
abbrev pub is_beside : Ring → Ids → Slot → Sides → Slot → Bool
is_beside g ids i s j = eqb (left_neighbour g ids i s) j || eqb (right_neighbour g ids i s) j

-- j is the left or the right neighbour of i
unfoldable pub is_neighbour : Ring → Ids → Slot → Node → Slot → Bool
is_neighbour g ids i v j = is_beside g ids i (sides_of v) j

-- LeaseExpired(i, j). 2 unless ok or ready; 5 if i = j or j is not in lease. Removes j; a ready i with j as left or right neighbour becomes ok.
unfoldable pub plan_lease_expired : Ring → Ids → Slot → Node → Slot → Planned
plan_lease_expired g ids i v j = cond (not (is_up v.status)) (Err no.Status)
    (cond (eqb i j || not (has v.lease j)) (Err no.Partner)
    (Ok (quiet_plan (with_leases v (remove_of v.lease j) v.grant (cond (is_ready v.status && is_neighbour g ids i v j) status.Ok v.status)))))

-- GrantExpired(i, j). 2 as before; 5 if i = j, j is not in grant of i, or i is in lease of j. Removes j from grant.
unfoldable pub plan_grant_expired : Slot → Node → Slot → Node → Planned
plan_grant_expired i v j u = cond (not (is_up v.status)) (Err no.Status)
    (cond (eqb i j || (not (has v.grant j) || has u.lease i)) (Err no.Partner)
    (Ok (quiet_plan (with_leases v v.lease (remove_of v.grant j) v.status))))
