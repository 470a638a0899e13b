-- Leaf sets computed by the checker: content, neighbours, ends, adding, overlap, complete, empty, cover. Assumes nothing.
use mathlib.Core.Path.{◌≡◌, refl}
use mathlib.Core.Bool.{true, false}
use mathlib.Core.List.{List, [], ◌∷◌}
use Prim.Native.Nat.{ℕ}
use Rattle.marks.specs.Marks.{gather}
use Rattle.rules.specs.declared.Ring.{Ring}
use Rattle.rules.specs.declared.Sides.{Sides}
use Rattle.rules.specs.Letters.{no_sides}
use Rattle.rules.specs.Leaf.{content_of, left_neighbour, right_neighbour, leftmost, rightmost, leaf_with, leaf_with_one}
use Rattle.rules.specs.Leaf.{overlaps, is_complete, is_empty, covers_of}
use Rattle.rules.specs.InnerSteps.{looked_at}
use Rattle.rules.proofs.Small.{opened, four, ids, six, six_ids, sides}

-- ids all round the ring; the owner is id 0 in slot 0
abbrev wide : Ring
wide = record { m = 8; l = 2; n = 7 }

abbrev wide_ids : List ℕ
wide_ids = 0 ∷ 10 ∷ 40 ∷ 120 ∷ 150 ∷ 200 ∷ 250 ∷ []

-- left neighbour, right neighbour, leftmost and rightmost of the owner
abbrev ends : ℕ → ℕ → List ℕ
ends left right =
    let s = sides left right in
    left_neighbour wide wide_ids 0 s ∷ right_neighbour wide wide_ids 0 s ∷ leftmost wide wide_ids 0 s ∷ rightmost wide wide_ids 0 s ∷ []

-- the leaf set of 10 in slot 0 of the six, with a set added, or one node
abbrev adds : ℕ → ℕ → ℕ → ℕ → Sides
adds l left right d = leaf_with (six l) six_ids 0 (sides left right) d

abbrev adds_one : ℕ → ℕ → ℕ → ℕ → Sides
adds_one l left right j = leaf_with_one (six l) six_ids 0 (sides left right) j

-- the slots looked at from slot i of n, up for the left side and down for the right
abbrev looks : ℕ → ℕ → ℕ → ℕ → List ℕ
looks set i n l = gather n (looked_at true set i n l) ∷ gather n (looked_at false set i n l) ∷ []

pub record LeafSets : Type 0 where
  -- content = left, right and i
  pub content : (content_of (sides 6 48) 0 ≡ 55) × (content_of (sides 2 2) 3 ≡ 10) × (content_of no_sides 5 ≡ 32)
  -- left neighbour: the member of left with least Fall(member, i): of 150 and 250 it is 150, though 250 is at less distance. Right neighbour: least
  -- Fall(i, member): of 10 and 120 it is 120. Leftmost and rightmost: the greatest such Fall: 250, though at less distance, and 10
  pub by-fall : ends 80 10 ≡ 4 ∷ 3 ∷ 6 ∷ 1 ∷ []
  pub by-fall-again : ends 68 34 ≡ 2 ∷ 5 ∷ 6 ∷ 1 ∷ []
  -- or i, whatever the other side holds
  pub left-empty : ends 0 34 ≡ 0 ∷ 5 ∷ 0 ∷ 1 ∷ []
  pub right-empty : ends 68 0 ≡ 2 ∷ 0 ∷ 6 ∷ 0 ∷ []
  -- adding a set D: each side becomes the at most L nearest, in its own direction, of that side joined with D, without i
  pub all-added : (adds 2 0 0 63 ≡ sides 6 48) × (adds 1 0 0 63 ≡ sides 2 32)
  -- 160 and 200 are nearer downwards, and the nearer of them upwards is 160
  pub own-direction : adds 1 0 0 48 ≡ sides 16 32
  -- one node stands on both sides
  pub both-sides : adds 2 0 0 2 ≡ sides 2 2
  -- 120 goes from the left for 40; nothing goes from the right; a farther one does not come
  pub nearer-comes : adds 2 12 24 2 ≡ sides 6 24
  pub farther-stays-away : adds 2 6 48 8 ≡ sides 6 48
  pub nothing-added : adds 2 2 16 0 ≡ sides 2 16
  pub owner-left-out : adds 2 2 16 1 ≡ sides 2 16
  -- outwards from the owner's slot, wrapping at the ends, until L members are found (T-04): of six slots two on each side, and one from the last
  pub looked-until : (looks 63 0 6 2 ≡ 6 ∷ 48 ∷ []) × (looks 63 5 6 1 ≡ 1 ∷ 16 ∷ [])
  -- past slots that are not in the set, and all round where members are few
  pub looked-past : (looks 8 0 6 1 ≡ 14 ∷ 56 ∷ []) × (looks 8 0 6 2 ≡ 62 ∷ 62 ∷ [])
  -- as few among 64 slots as among six
  pub looked-of-64 : looks 18446744073709551615 0 64 1 ≡ 2 ∷ 9223372036854775808 ∷ []
  -- with j added unless in it
  pub one-new : adds_one 2 4 16 1 ≡ sides 6 18
  pub one-in-left : adds_one 2 2 16 1 ≡ sides 2 16
  pub one-in-right : adds_one 2 4 2 1 ≡ sides 4 2
  pub one-itself : adds_one 2 4 16 0 ≡ sides 4 16
  -- overlap: the sides share a member
  pub overlap : (overlaps (sides 6 36) ≡ true) × (overlaps (sides 6 48) ≡ false) × (overlaps no_sides ≡ false)
  -- complete (T-02): both sides full, or the sides overlap
  pub complete : (is_complete (six 2) (sides 6 48) ≡ true) × (is_complete (six 1) (sides 2 32) ≡ true)
  pub incomplete : (is_complete (six 2) (sides 6 16) ≡ false) × (is_complete (six 2) (sides 2 48) ≡ false)
      × (is_complete (six 2) (sides 2 16) ≡ false) × (is_complete (six 1) no_sides ≡ false)
  pub complete-by-overlap : (is_complete (six 2) (sides 2 2) ≡ true) × (is_complete (six 4) (sides 6 36) ≡ true) × (is_complete (six 2) (sides 6 4) ≡ true)
  -- empty: both hold none
  pub empty : (is_empty no_sides ≡ true) × (is_empty (sides 2 0) ≡ false) × (is_empty (sides 0 2) ≡ false)
  -- by its neighbours, 40 and 200, and not by its ends, 80 and 160: 10 covers 234 to 255 and 0 to 25
  pub by-neighbours : (covers_of (six 2) six_ids 0 (sides 6 48) 25 ≡ true) × (covers_of (six 2) six_ids 0 (sides 6 48) 26 ≡ false)
      × (covers_of (six 2) six_ids 0 (sides 6 48) 234 ≡ true) × (covers_of (six 2) six_ids 0 (sides 6 48) 233 ≡ false)
  -- 17 with 65 on its left and none on its right: it covers 18 to 41
  pub right-none : (covers_of four ids 0 (sides 4 0) 41 ≡ true) × (covers_of four ids 0 (sides 4 0) 42 ≡ false)
      × (covers_of four ids 0 (sides 4 0) 18 ≡ true) × (covers_of four ids 0 (sides 4 0) 17 ≡ false)
  -- 17 with none on its left and 95 on its right: it covers 185 to 255 and 0 to 17
  pub left-none : (covers_of four ids 0 (sides 0 8) 185 ≡ true) × (covers_of four ids 0 (sides 0 8) 184 ≡ false)
      × (covers_of four ids 0 (sides 0 8) 17 ≡ true) × (covers_of four ids 0 (sides 0 8) 18 ≡ false)

pub leaf-sets : LeafSets
unfolding opened
leaf-sets =
    record {
      content = (refl, refl, refl);
      by-fall = refl;
      by-fall-again = refl;
      left-empty = refl;
      right-empty = refl;
      all-added = (refl, refl);
      own-direction = refl;
      both-sides = refl;
      nearer-comes = refl;
      farther-stays-away = refl;
      nothing-added = refl;
      owner-left-out = refl;
      looked-until = (refl, refl);
      looked-past = (refl, refl);
      looked-of-64 = refl;
      one-new = refl;
      one-in-left = refl;
      one-in-right = refl;
      one-itself = refl;
      overlap = (refl, refl, refl);
      complete = (refl, refl);
      incomplete = (refl, refl, refl, refl);
      complete-by-overlap = (refl, refl, refl);
      empty = (refl, refl, refl);
      by-neighbours = (refl, refl, refl, refl);
      right-none = (refl, refl, refl, refl);
      left-none = (refl, refl, refl, refl);
    }
