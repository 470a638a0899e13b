-- The plans of the actions other than Take, computed by the checker: each refusal, the lowest where two apply, and what is done. Assumes nothing.
use Rattle.rules.specs.Shapes.{Planned}
use mathlib.Core.Path.{◌≡◌, refl}
use mathlib.Core.Bool.{Bool, true, false}
use mathlib.Core.List.{List, [], ◌∷◌}
use Prim.Native.Nat.{ℕ}
use Rattle.rules.specs.declared.Status.{Status}
use Rattle.rules.specs.declared.Status.TheVariants.{Dead, Wait, Ok, Ready}
use Rattle.rules.specs.declared.Node.{Node}
use Rattle.rules.specs.declared.Message.{Message}
use Rattle.rules.specs.Nodes.{placed}
use Rattle.rules.specs.Letters.{lookup, join_request, lease_request}
use Rattle.plan.specs.Actions.{plan_lookup, plan_join, plan_request_lease, plan_lease_expired, plan_grant_expired}
use Rattle.rules.proofs.Small.{four, ids, node}
use Rattle.plan.proofs.Small.{opened, number_of, at_each, made}

-- ---- Lookup(i, k). 3 if that Lookup waits. Adds it.

abbrev looks : Status → Planned
looks s = plan_lookup false 1 80 (node 18 s 4 1 8 8 7 1 4)

pub record LookupCases : Type 0 where
  -- done at any status
  pub any-status : at_each looks ≡ 0 ∷ 0 ∷ 0 ∷ 0 ∷ []
  pub three : at_each (λ s. plan_lookup true 1 80 (node 18 s 4 1 8 8 7 1 4)) ≡ 3 ∷ 3 ∷ 3 ∷ 3 ∷ []
  pub adds : made (looks Dead) ≡ (node 18 Dead 4 1 8 8 7 1 4, placed (lookup 80) 1 ∷ [])

pub lookup-cases : LookupCases
unfolding opened
lookup-cases =
    record { any-status = refl; three = refl; adds = refl }

-- ---- Join(i, seed). 2 unless i is dead and seed ready; 3 if a JoinRequest of i waits anywhere; 4 if i's leaf set is not empty.
-- Adds a JoinRequest (empty routing set) to seed; i becomes wait.

-- slot 2 joins at slot 1, by whether its JoinRequest waits, its status and sides, and the seed's status
abbrev joins : Bool → Status → ℕ → ℕ → Status → Planned
joins waiting s left right seed = plan_join waiting 2 (node 65 s left right 8 8 13 1 2) 1 (node 18 seed 4 1 0 0 7 5 5)

pub record JoinCases : Type 0 where
  pub two : at_each (λ s. joins false s 0 0 Ready) ≡ 0 ∷ 2 ∷ 2 ∷ 2 ∷ []
  pub two-by-seed : at_each (joins false Dead 0 0) ≡ 2 ∷ 2 ∷ 2 ∷ 0 ∷ []
  -- 2 before 3 and 4
  pub three : at_each (λ s. joins true s 0 0 Ready) ≡ 3 ∷ 2 ∷ 2 ∷ 2 ∷ []
  pub three-by-seed : at_each (joins true Dead 0 0) ≡ 2 ∷ 2 ∷ 2 ∷ 3 ∷ []
  pub four-left : at_each (λ s. joins false s 8 0 Ready) ≡ 4 ∷ 2 ∷ 2 ∷ 2 ∷ []
  pub four-right : at_each (joins false Dead 0 2) ≡ 2 ∷ 2 ∷ 2 ∷ 4 ∷ []
  -- 3 before 4
  pub three-first : number_of (joins true Dead 8 2 Ready) ≡ 3
  pub done : made (joins false Dead 0 0 Ready) ≡ (node 65 Wait 0 0 8 8 13 1 2, placed (join_request 2 0) 1 ∷ [])

pub join-cases : JoinCases
unfolding opened
join-cases =
    record {
      two = refl;
      two-by-seed = refl;
      three = refl;
      three-by-seed = refl;
      four-left = refl;
      four-right = refl;
      three-first = refl;
      done = refl;
    }

-- ---- RequestLease(i). 2 unless ok; 4 if the leaf set is empty. Adds a LeaseRequest from i to the left neighbour, then the right, each only if not in lease.

-- node 18 in slot 1, with 65 on its left and 17 on its right
abbrev asks : ℕ → ℕ → ℕ → Status → Planned
asks left right lease s = plan_request_lease four ids 1 (node 18 s left right 8 8 7 lease 8)

abbrev asked : ℕ → ℕ → ℕ → Node
asked left right lease = node 18 Ok left right 8 8 7 lease 8

abbrev to : ℕ → Message
to s = placed (lease_request 1) s

pub record RequestCases : Type 0 where
  pub two : at_each (asks 4 1 0) ≡ 2 ∷ 2 ∷ 0 ∷ 2 ∷ []
  pub four : at_each (asks 0 0 0) ≡ 2 ∷ 2 ∷ 4 ∷ 2 ∷ []
  pub one-sided : at_each (asks 0 1 0) ≡ 2 ∷ 2 ∷ 0 ∷ 2 ∷ []
  -- to the left neighbour, then the right
  pub both : made (asks 4 1 8 Ok) ≡ (asked 4 1 8, to 2 ∷ to 0 ∷ [])
  pub left-in-lease : made (asks 4 1 4 Ok) ≡ (asked 4 1 4, to 0 ∷ [])
  pub right-in-lease : made (asks 4 1 1 Ok) ≡ (asked 4 1 1, to 2 ∷ [])
  pub both-in-lease : made (asks 4 1 5 Ok) ≡ (asked 4 1 5, [])
  -- the neighbour on an empty side is the node itself
  pub itself : made (asks 0 1 0 Ok) ≡ (asked 0 1 0, to 1 ∷ to 0 ∷ [])
  pub itself-in-lease : made (asks 4 0 2 Ok) ≡ (asked 4 0 2, to 2 ∷ [])
  -- one node on both sides is asked once
  pub once : made (asks 8 8 0 Ok) ≡ (asked 8 8 0, to 3 ∷ [])

pub request-cases : RequestCases
unfolding opened
request-cases =
    record {
      two = refl;
      four = refl;
      one-sided = refl;
      both = refl;
      left-in-lease = refl;
      right-in-lease = refl;
      both-in-lease = refl;
      itself = refl;
      itself-in-lease = refl;
      once = refl;
    }

-- ---- LeaseExpired(i, j). 2 unless ok or ready; 5 if i = j or j is not in lease. Removes j; a ready i with j as left or right neighbour becomes ok.

-- of slot 1, with 65 on its left and 17 on its right
abbrev expires : ℕ → ℕ → Status → Planned
expires lease j s = plan_lease_expired four ids 1 (node 18 s 4 1 8 8 7 lease 15) j

abbrev expired : ℕ → Status → Node × List Message
expired lease s = (node 18 s 4 1 8 8 7 lease 15, [])

pub record LeaseExpiredCases : Type 0 where
  pub two : at_each (expires 15 2) ≡ 2 ∷ 2 ∷ 0 ∷ 0 ∷ []
  -- 2 before 5
  pub five : at_each (expires 11 2) ≡ 2 ∷ 2 ∷ 5 ∷ 5 ∷ []
  pub five-of-itself : at_each (expires 15 1) ≡ 2 ∷ 2 ∷ 5 ∷ 5 ∷ []
  pub left : made (expires 15 2 Ready) ≡ expired 11 Ok
  pub right : made (expires 15 0 Ready) ≡ expired 14 Ok
  pub no-neighbour : made (expires 15 3 Ready) ≡ expired 7 Ready
  pub stays-ok : (made (expires 15 2 Ok) ≡ expired 11 Ok) × (made (expires 15 3 Ok) ≡ expired 7 Ok)

pub lease-expired-cases : LeaseExpiredCases
unfolding opened
lease-expired-cases =
    record { two = refl; five = refl; five-of-itself = refl; left = refl; right = refl; no-neighbour = refl; stays-ok = (refl, refl) }

-- ---- GrantExpired(i, j). 2 as before; 5 if i = j, j is not in grant of i, or i is in lease of j. Removes j from grant.

-- of slots 1 and j, by grant of slot 1, and by lease and status of j
abbrev lapses : ℕ → ℕ → ℕ → Status → Status → Planned
lapses grant j lease other s = plan_grant_expired 1 (node 18 s 4 1 8 8 7 13 grant) j (node 65 other 8 2 0 0 7 lease 15)

pub record GrantExpiredCases : Type 0 where
  pub two : at_each (lapses 15 2 13 Ready) ≡ 2 ∷ 2 ∷ 0 ∷ 0 ∷ []
  -- 2 before 5
  pub five : at_each (lapses 11 2 13 Ready) ≡ 2 ∷ 2 ∷ 5 ∷ 5 ∷ []
  pub five-in-lease : at_each (lapses 15 2 2 Ready) ≡ 2 ∷ 2 ∷ 5 ∷ 5 ∷ []
  pub five-of-itself : at_each (lapses 15 1 0 Ready) ≡ 2 ∷ 2 ∷ 5 ∷ 5 ∷ []
  -- whatever the status of j
  pub partner : at_each (λ s. lapses 15 2 2 s Ok) ≡ 5 ∷ 5 ∷ 5 ∷ 5 ∷ []
  pub partner-done : at_each (λ s. lapses 15 2 13 s Ok) ≡ 0 ∷ 0 ∷ 0 ∷ 0 ∷ []
  -- a ready node stays ready
  pub done : made (lapses 15 2 13 Ready Ready) ≡ (node 18 Ready 4 1 8 8 7 13 11, [])

pub grant-expired-cases : GrantExpiredCases
unfolding opened
grant-expired-cases =
    record { two = refl; five = refl; five-in-lease = refl; five-of-itself = refl; partner = refl; partner-done = refl; done = refl }
