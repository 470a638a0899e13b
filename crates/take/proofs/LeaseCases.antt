-- Take of kinds 7 and 8, computed by the checker on six nodes: each refusal, the lowest where two apply, and what is done. The node is 10 in slot 0, with
-- 40, 80, 120, 160 and 200 up the ring, in slots 1 to 5. Assumes nothing.
use Rattle.rules.specs.Shapes.{Planned}
use mathlib.Core.Path.{◌≡◌, refl}
use mathlib.Core.List.{List, [], ◌∷◌}
use Prim.Native.Nat.{ℕ}
use Rattle.rules.specs.declared.Status.{Status}
use Rattle.rules.specs.declared.Status.TheVariants.{Ok, Ready}
use Rattle.rules.specs.declared.Node.{Node}
use Rattle.rules.specs.declared.Message.{Message}
use Rattle.rules.specs.Nodes.{placed}
use Rattle.rules.specs.Letters.{broadcast_l_set}
use Rattle.take.specs.Take.{plan_take_lease_request, plan_take_broadcast}
use Rattle.rules.proofs.Small.{six, six_ids, node, sides}
use Rattle.take.proofs.Small.{opened}
use Rattle.plan.proofs.Small.{at_each, made}

-- ---- 7. From j. 2 unless ok or ready; 4 if the leaf set is empty. If j is left or right neighbour, grant gains j. BroadcastLSet to j with i's leaf set,
-- flag 1 if j is such a neighbour, else 0.

abbrev requested : ℕ → ℕ → ℕ → Status → Planned
requested left right j s = plan_take_lease_request (six 2) six_ids 0 (node 10 s left right 2 4 1 16 8) j

abbrev granted : ℕ → ℕ → ℕ → ℕ → ℕ → Node × List Message
granted left right grant flag j = (node 10 Ok left right 2 4 1 16 grant, placed (broadcast_l_set 0 (sides left right) flag) j ∷ [])

pub record LeaseRequestTaken : Type 0 where
  pub two : at_each (requested 6 48 1) ≡ 2 ∷ 2 ∷ 0 ∷ 0 ∷ []
  pub four : at_each (requested 0 0 1) ≡ 2 ∷ 2 ∷ 4 ∷ 4 ∷ []
  pub not-four : at_each (requested 0 48 1) ≡ 2 ∷ 2 ∷ 0 ∷ 0 ∷ []
  pub left : made (requested 6 48 1 Ok) ≡ granted 6 48 10 1 1
  pub right : made (requested 6 48 5 Ok) ≡ granted 6 48 40 1 5
  -- a member that is no neighbour, and a stranger
  pub member : made (requested 6 48 2 Ok) ≡ granted 6 48 8 0 2
  pub stranger : made (requested 6 48 3 Ok) ≡ granted 6 48 8 0 3
  -- the neighbour on an empty side is the node itself
  pub itself : made (requested 0 48 0 Ok) ≡ granted 0 48 9 1 0
  pub not_itself : made (requested 6 48 0 Ok) ≡ granted 6 48 8 0 0

pub lease-request-taken : LeaseRequestTaken
unfolding opened
lease-request-taken =
    record {
      two = refl;
      four = refl;
      not-four = refl;
      left = refl;
      right = refl;
      member = refl;
      stranger = refl;
      itself = refl;
      not_itself = refl;
    }

-- ---- 8. Owner j. 2 unless ok or ready; 4 if the leaf set is not complete; 5 if j = i. Add m's content without failed. If the flag is set and j is a new
-- neighbour, lease gains j. If both new neighbours are in lease and equal the old neighbours, i becomes ready.

-- L = 1: 10 with sides, failed and lease takes the broadcast of j with sides and flag
abbrev hears : ℕ → ℕ → ℕ → ℕ → ℕ → ℕ → ℕ → ℕ → Status → Planned
hears left right failed lease j l r flag s =
    plan_take_broadcast (six 1) six_ids 0 (node 10 s left right 8 failed 1 lease 4) (broadcast_l_set j (sides l r) flag)

abbrev heard : ℕ → ℕ → ℕ → ℕ → Status → Node × List Message
heard left right failed lease s = (node 10 s left right 8 failed 1 lease 4, [])

pub record BroadcastTaken : Type 0 where
  pub two : at_each (hears 4 16 0 0 1 0 0 0) ≡ 2 ∷ 2 ∷ 0 ∷ 0 ∷ []
  -- judged before adding; one side is not enough
  pub four : at_each (hears 0 0 0 0 1 4 16 0) ≡ 2 ∷ 2 ∷ 4 ∷ 4 ∷ []
  pub four-left : at_each (hears 0 16 0 0 1 4 16 0) ≡ 2 ∷ 2 ∷ 4 ∷ 4 ∷ []
  pub four-right : at_each (hears 4 0 0 0 1 4 16 0) ≡ 2 ∷ 2 ∷ 4 ∷ 4 ∷ []
  -- 2 before 4 before 5
  pub five : at_each (hears 4 16 0 0 0 4 16 0) ≡ 2 ∷ 2 ∷ 5 ∷ 5 ∷ []
  pub four-first : at_each (hears 4 0 0 0 0 4 16 0) ≡ 2 ∷ 2 ∷ 4 ∷ 4 ∷ []
  -- 200 becomes the right neighbour and is leased; 40 is failed, and left out; the right neighbour has just changed, so the node is not ready
  pub right-changed : made (hears 4 16 2 4 5 2 8 1 Ok) ≡ heard 4 32 2 36 Ok
  -- the same to the left
  pub left-changed : made (hears 4 16 32 16 1 8 32 1 Ok) ≡ heard 2 16 32 18 Ok
  -- the second lease comes with this message, and no neighbour changed
  pub becomes-ready : made (hears 4 16 0 4 4 0 0 1 Ok) ≡ heard 4 16 0 20 Ready
  pub becomes-ready-left : made (hears 4 16 0 16 2 0 0 1 Ok) ≡ heard 4 16 0 20 Ready
  -- without the flag no lease
  pub no_flag : made (hears 4 16 0 4 4 0 0 0 Ok) ≡ heard 4 16 0 4 Ok
  -- with both leases held before
  pub both-held : made (hears 4 16 0 20 4 0 0 0 Ok) ≡ heard 4 16 0 20 Ready
  -- one lease is not enough
  pub only-right : made (hears 4 16 0 0 4 0 0 1 Ok) ≡ heard 4 16 0 16 Ok
  pub only-left : made (hears 4 16 0 0 2 0 0 1 Ok) ≡ heard 4 16 0 4 Ok
  -- 80 was the left neighbour, and brings 40 in its place: no lease of 80
  pub no_longer : made (hears 4 16 0 16 2 2 0 1 Ok) ≡ heard 2 16 0 16 Ok
  -- 120 is no neighbour: no lease
  pub stranger : made (hears 4 16 0 4 3 0 0 1 Ok) ≡ heard 4 16 0 4 Ok
  -- 160 on the left and 80 on the right change places, and both are leased
  pub swapped : made (hears 16 4 0 20 2 16 0 1 Ok) ≡ heard 4 16 0 20 Ok
  -- a ready node stays ready
  pub stays-ready : made (hears 4 16 0 0 1 0 0 0 Ready) ≡ heard 2 16 0 0 Ready

pub broadcast-taken : BroadcastTaken
unfolding opened
broadcast-taken =
    record {
      two = refl;
      four = refl;
      four-left = refl;
      four-right = refl;
      five = refl;
      four-first = refl;
      right-changed = refl;
      left-changed = refl;
      becomes-ready = refl;
      becomes-ready-left = refl;
      no_flag = refl;
      both-held = refl;
      only-right = refl;
      only-left = refl;
      no_longer = refl;
      stranger = refl;
      swapped = refl;
      stays-ready = refl;
    }
