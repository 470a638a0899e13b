-- 01's worked values, P1 to P10, as one table proved of the definitions (`worked-hops`): the ring's values are those of Rattle.ring, and
-- the checker computes the leaf sets of the start and the hops. `lopsided-hops` has hops at leaf sets that no start leaves. Assumes
-- nothing.
use mathlib.Core.Path.{◌≡◌, refl}
use mathlib.Core.Bool.{true, false}
use mathlib.Core.List.{List, [], ◌∷◌}
use Prim.Native.Nat.{ℕ}
use Rattle.ring.specs.Distance.{fall_of, signed_of, abs_dist_of, rises_to, nearer, covers_key}
use Rattle.ring.proofs.Cases.{Worked, worked}
use Rattle.marks.specs.Marks.{has, gather, tally, union, meet, without, add_of}
use Rattle.rules.specs.declared.Status.TheVariants.{Ready}
use Rattle.rules.specs.declared.Ring.{Ring}
use Rattle.rules.specs.declared.Sides.{Sides}
use Rattle.rules.specs.declared.Node.{Node}
use Rattle.rules.specs.declared.Hop.{Hop}
use Rattle.rules.specs.declared.Hop.TheVariants.{To, NoRoute}
use Rattle.rules.specs.Letters.{no_sides}
use Rattle.rules.specs.Closest.{closest}
use Rattle.rules.specs.Pick.{id_at, best}
use Rattle.rules.specs.Leaf.{content_of, seen_from, left_neighbour, right_neighbour, leaf_with, overlaps, covers_of}
use Rattle.rules.specs.Hop.{leaf_candidates, route_candidates, by_leaf, leaf_hop, route_hop, next_hop}

-- a ready node, by id, left, right, failed and routing set
abbrev pub ready_node : ℕ → ℕ → ℕ → ℕ → ℕ → Node
ready_node id left right failed routing =
    record {
      id = id;
      status = Ready;
      left = left;
      right = right;
      probing = 0;
      failed = failed;
      routing = routing;
      lease = 15;
      grant = 15;
    }

-- M = 8, L = 1, four nodes; all four have marks 15
abbrev pub four : Ring
four = record { m = 8; l = 1; n = 4 }

-- ---- all four started ready

abbrev pub ids : List ℕ
ids = 17 ∷ 18 ∷ 65 ∷ 95 ∷ []

abbrev pub node17 : Node
node17 = ready_node 17 2 8 0 15

abbrev pub node18 : Node
node18 = ready_node 18 4 1 0 15

abbrev pub node65 : Node
node65 = ready_node 65 8 2 0 15

abbrev pub node95 : Node
node95 = ready_node 95 1 4 0 15

abbrev pub sides : ℕ → ℕ → Sides
sides left right = record { left = left; right = right }

pub record WorkedHops : Type 0 where
  -- P1 to P7, P8's tie, P10 and Fall at M = 32
  pub ring : Worked
  -- the start adds all four to each leaf set, and leaves one to a side
  pub leaves : (leaf_with four ids 0 no_sides 15 ≡ sides 2 8) × (leaf_with four ids 1 no_sides 15 ≡ sides 4 1)
      × (leaf_with four ids 2 no_sides 15 ≡ sides 8 2) × (leaf_with four ids 3 no_sides 15 ≡ sides 1 4)
  -- so P4 to P7 say what each of the four covers, and P10 what 17 covers alone
  pub covers : (k : ℕ)
      → (covers_of four ids 0 (sides 2 8) k ≡ covers_key 256 17 18 95 k)
      × (covers_of four ids 1 (sides 4 1) k ≡ covers_key 256 18 65 17 k)
      × (covers_of four ids 2 (sides 8 2) k ≡ covers_key 256 65 95 18 k)
      × (covers_of four ids 3 (sides 1 4) k ≡ covers_key 256 95 17 65 k)
      × (covers_of four ids 0 no_sides k ≡ covers_key 256 17 17 17 k)
  -- key 80 at 95 goes to 65, both at distance 15
  pub p8 : (next_hop four ids 0 3 node95 80 ≡ To 2) × (abs_dist_of 256 80 65 ≡ 15) × (abs_dist_of 256 80 95 ≡ 15)
  -- key 200 at 65 goes to 18
  pub p9 : next_hop four ids 0 2 node65 200 ≡ To 1
  -- the other hops of the listing: key 80 goes from 17 to 95, and key 200 from 18 to 17
  pub listing : (next_hop four ids 0 0 node17 80 ≡ To 3) × (next_hop four ids 0 1 node18 200 ≡ To 0)

covers-by : (i : ℕ) (s : Sides) (l r : ℕ) → left_neighbour four ids i s ≡ l → right_neighbour four ids i s ≡ r
    → (k : ℕ) → covers_of four ids i s k ≡ covers_key 256 (id_at ids i) (id_at ids l) (id_at ids r) k
unfolding covers_of
covers-by i s l r p q k = rw (p, q)

pub worked-hops : WorkedHops
unfolding next_hop leaf_hop route_hop by_leaf leaf_candidates route_candidates overlaps content_of seen_from leaf_with closest best
    union meet without add_of gather tally has fall_of signed_of abs_dist_of rises_to nearer
worked-hops =
    record {
      ring = worked;
      leaves = (refl, refl, refl, refl);
      covers =
          λ k. (
            covers-by 0 (sides 2 8) 1 3 refl refl k,
            covers-by 1 (sides 4 1) 2 0 refl refl k,
            covers-by 2 (sides 8 2) 3 1 refl refl k,
            covers-by 3 (sides 1 4) 0 2 refl refl k,
            covers-by 0 no_sides 0 0 refl refl k,
          );
      p8 = (refl, refl, refl);
      p9 = refl;
      listing = (refl, refl);
    }

-- ---- leaf sets that no start leaves, on ids 0, 40, 100, 200

abbrev pub far_ids : List ℕ
far_ids = 0 ∷ 40 ∷ 100 ∷ 200 ∷ []

-- the hop of key 110 from id 0 with left {200} and right {40}, some failed and some dead
abbrev pub hop_of110 : ℕ → ℕ → Hop
hop_of110 failed dead = next_hop four far_ids dead 0 (ready_node 0 8 2 failed 15) 110

pub record LopsidedHops : Type 0 where
  -- left reaches round past right, and they share no node: the routing set is looked at, and 100 is nearest
  pub route : (by_leaf four far_ids 0 (ready_node 0 8 2 0 15) ≡ false) × (hop_of110 0 0 ≡ To 2)
  -- with 100 failed, or dead, 40 is; with all others failed or dead there is no route
  pub kept_out : (hop_of110 4 0 ≡ To 1) × (hop_of110 0 4 ≡ To 1) × (hop_of110 10 4 ≡ NoRoute)
  -- with 40 on both sides they overlap: the leaf set alone is looked at
  pub overlap : (overlaps (sides 2 2) ≡ true) × (next_hop four far_ids 0 0 (ready_node 0 2 2 0 15) 110 ≡ To 1)
  -- with left empty its end is the node itself: the leaf set alone is looked at
  pub one-sided : (by_leaf four far_ids 1 (ready_node 40 0 1 0 15) ≡ true)
      × (next_hop four far_ids 0 1 (ready_node 40 0 1 0 15) 100 ≡ NoRoute)
      × (next_hop four far_ids 0 1 (ready_node 40 0 1 0 15) 10 ≡ To 0)

pub lopsided-hops : LopsidedHops
unfolding next_hop leaf_hop route_hop by_leaf leaf_candidates route_candidates overlaps content_of seen_from best
    union meet without add_of gather has fall_of signed_of abs_dist_of rises_to nearer
lopsided-hops =
    record {
      route = (refl, refl);
      kept_out = (refl, refl, refl);
      overlap = (refl, refl);
      one-sided = (refl, refl, refl);
    }
