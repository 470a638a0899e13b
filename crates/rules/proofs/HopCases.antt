-- Next hops computed by the checker, beside those of Cases: who is a candidate in each branch, the tie, no legal route, and where the hop
-- came from. Assumes nothing.
use mathlib.Core.Path.{◌≡◌, refl}
use mathlib.Core.Bool.{true, false}
use mathlib.Core.List.{List, [], ◌∷◌}
use Prim.Native.Nat.{ℕ}
use Rattle.rules.specs.declared.Status.TheVariants.{Ready}
use Rattle.rules.specs.declared.Hop.{Hop}
use Rattle.rules.specs.declared.Hop.TheVariants.{To, NoRoute}
use Rattle.rules.specs.declared.Via.{Via}
use Rattle.rules.specs.declared.Via.TheVariants.{Leaf, Routing}
use Rattle.rules.specs.Hop.{leaf_candidates, route_candidates, by_leaf, next_hop, via_of}
use Rattle.rules.proofs.Small.{opened, four, ids, node}

-- on 01's worked ids: key 200 at 65, with 95 on its left and 18 on its right, and every node in its routing set; by the dead and by failed
abbrev hop_of200 : ℕ → ℕ → Hop
hop_of200 dead failed = next_hop four ids dead 2 (node 65 Ready 8 2 0 failed 15 0 0) 200

-- key 80 at 95, with 17 on its left and 65 on its right
abbrev hop_of80 : ℕ → ℕ → Hop
hop_of80 dead failed = next_hop four ids dead 3 (node 95 Ready 1 4 0 failed 15 0 0) 80

abbrev far_ids : List ℕ
far_ids = 0 ∷ 40 ∷ 100 ∷ 200 ∷ []

-- on ids 0, 40, 100, 200: key k at 0, with 200 on its left and 40 on its right, so by content and routing set
abbrev far_hop : ℕ → ℕ → Hop
far_hop routing k = next_hop four far_ids 0 0 (node 0 Ready 8 2 0 0 routing 0 0) k

pub record NextHops : Type 0 where
  -- leaf candidates: content without failed and dead
  pub leaf-candidates : leaf_candidates 2 2 (node 65 Ready 9 2 0 8 15 0 0) ≡ 5
  -- content and routing set, without failed and dead
  pub route-candidates : route_candidates 2 2 (node 65 Ready 8 2 0 8 3 0 0) ≡ 5
  -- the nearest leaf candidate: 18; without it, failed or dead, 95; without both none is nearer than 65, though the routing set has 17
  pub leaf : (hop_of200 0 0 ≡ To 1) × (hop_of200 0 2 ≡ To 3) × (hop_of200 2 0 ≡ To 3) × (hop_of200 2 8 ≡ NoRoute)
  -- 65 is at the same distance as 95, and the nearer; without it no other is
  pub tie : (hop_of80 0 0 ≡ To 2) × (hop_of80 0 4 ≡ NoRoute) × (hop_of80 4 0 ≡ NoRoute)
  -- by content and routing set: the nearest, not the first that is nearer
  pub nearest : far_hop 15 110 ≡ To 2
  -- content alone, where the routing set is empty
  pub content-too : far_hop 0 60 ≡ To 1
  -- none of the candidates is nearer than the node itself
  pub none-nearer : far_hop 15 10 ≡ NoRoute
  -- key 20 at 40, with 0 on its left and 100 on its right, by content and routing set: 0 is at the same distance, and the nearer
  pub tie-by-routing : (by_leaf four far_ids 1 (node 40 Ready 1 4 0 0 15 0 0) ≡ false)
      × (next_hop four far_ids 0 1 (node 40 Ready 1 4 0 0 15 0 0) 20 ≡ To 0)
  -- key 20 at 0, with 40 on its right: 40 is at the same distance, and not the nearer
  pub tie-kept : far_hop 15 20 ≡ NoRoute
  -- the branch: the ends may be the same Fall apart; with both sides empty they are the node itself
  pub alone : (by_leaf four ids 0 (node 17 Ready 0 0 0 0 15 0 0) ≡ true) × (next_hop four ids 0 0 (node 17 Ready 0 0 0 0 15 0 0) 80 ≡ NoRoute)

pub next-hops : NextHops
unfolding opened
next-hops =
    record {
      leaf-candidates = refl;
      route-candidates = refl;
      leaf = (refl, refl, refl, refl);
      tie = (refl, refl, refl);
      nearest = refl;
      content-too = refl;
      none-nearer = refl;
      tie-by-routing = (refl, refl);
      tie-kept = refl;
      alone = (refl, refl);
    }

-- T-01: at 0 in slot 0, with 200 on its left and 40 on its right
abbrev far_via : ℕ → ℕ → Via
far_via routing h = via_of 0 (node 0 Ready 8 2 0 0 routing 0 0) h

pub record Vias : Type 0 where
  -- in the leaf set alone, on either side
  pub leaf : (far_via 0 3 ≡ Leaf) × (far_via 0 1 ≡ Leaf)
  -- a node in both counts as leaf set
  pub both : (far_via 15 3 ≡ Leaf) × (far_via 15 1 ≡ Leaf)
  -- in the routing set alone
  pub routing : far_via 15 2 ≡ Routing
  -- as the next hop is found by content and routing set: 40 is in content, 100 is not
  pub by-routing : (by_leaf four far_ids 0 (node 0 Ready 8 2 0 0 15 0 0) ≡ false) × (far_hop 15 60 ≡ To 1) × (far_via 15 1 ≡ Leaf)
      × (far_hop 15 110 ≡ To 2) × (far_via 15 2 ≡ Routing)

pub vias : Vias
unfolding opened
vias = record { leaf = (refl, refl); both = (refl, refl); routing = refl; by-routing = (refl, refl, refl, refl, refl) }
