-- Leaf sets: content, neighbours, ends, adding, overlap, complete, empty, cover. Definitions only, each under 01's sentence; i is the owner's slot,
-- ids are the ids by slot. Their laws are in crate rules. Assumes nothing.
use Rattle.std.specs.Prelude.{Bool, cond, ◌&&◌, ◌||◌, not, ℕ, ◌^◌, eqb, Some, None}
use Rattle.ring.specs.Distance.{fall_of, covers_key}
use Rattle.marks.specs.Marks.{has, union, meet, add_of, single, size_of, Found}
use Rattle.rules.specs.Names.{Slot, Marks, Ids, Key}
use Rattle.rules.specs.declared.Way.{Way}
use Rattle.rules.specs.declared.Way.TheVariants.{Up, Down, FarUp, FarDown}
use Rattle.rules.specs.Pick.{id_at, best_of}
use Rattle.rules.specs.declared.Ring.{Ring}
use Rattle.rules.specs.declared.Sides.{Sides}
use Rattle.rules.specs.Closest.{closest}

abbrev pub or_owner : Found → Slot → Slot
or_owner (Some s) i = s
or_owner None i = i

-- content = left, right and i
unfoldable pub content_of : Sides → Slot → Marks
content_of s i = add_of (union s.left s.right) i

-- the best of some nodes as seen from i, or i if there are none
unfoldable pub seen_from : Way → Ring → Ids → Slot → Marks → Slot
seen_from w g ids i set = or_owner (best_of w (2 ^ g.m) (id_at ids i) ids set) i

-- left neighbour: the member of left with least Fall(member, i), or i if left is empty
abbrev pub left_neighbour : Ring → Ids → Slot → Sides → Slot
left_neighbour g ids i s = seen_from Up g ids i s.left

-- right neighbour: least Fall(i, member), or i
abbrev pub right_neighbour : Ring → Ids → Slot → Sides → Slot
right_neighbour g ids i s = seen_from Down g ids i s.right

-- leftmost and rightmost: the greatest such Fall, or i
abbrev pub leftmost : Ring → Ids → Slot → Sides → Slot
leftmost g ids i s = seen_from FarUp g ids i s.left

abbrev pub rightmost : Ring → Ids → Slot → Sides → Slot
rightmost g ids i s = seen_from FarDown g ids i s.right

-- the Fall from slot s down to i, and from i down to s
abbrev pub way_up : Ring → Ids → Slot → Slot → ℕ
way_up g ids i s = fall_of (2 ^ g.m) (id_at ids s) (id_at ids i)

abbrev pub way_down : Ring → Ids → Slot → Slot → ℕ
way_down g ids i s = fall_of (2 ^ g.m) (id_at ids i) (id_at ids s)

-- a side joined with D, without i
abbrev pub joined_with : Marks → Marks → Slot → Slot → Bool
joined_with side d i s = (has side s || has d s) && not (eqb s i)

-- adding a set D: each side becomes the at most L nearest, in its own direction, of that side joined with D, without i
unfoldable pub leaf_with : Ring → Ids → Slot → Sides → Marks → Sides
leaf_with g ids i s d =
    record { left = closest (way_up g ids i) g.n g.l (joined_with s.left d i); right = closest (way_down g ids i) g.n g.l (joined_with s.right d i) }

-- with j added unless in it
unfoldable pub leaf_with_one : Ring → Ids → Slot → Sides → Slot → Sides
leaf_with_one g ids i s j = cond (has (content_of s i) j) s (leaf_with g ids i s (single j))

-- overlap: the sides share a member
unfoldable pub overlaps : Sides → Bool
overlaps s = not (eqb (meet s.left s.right) 0)

-- both sides full: they hold exactly L
unfoldable pub is_full : Ring → Sides → Bool
is_full g s = eqb (size_of s.left) g.l && eqb (size_of s.right) g.l

-- T-02: complete means both sides full, or the sides overlap
unfoldable pub is_complete : Ring → Sides → Bool
is_complete g s = is_full g s || overlaps s

-- empty: both hold none
unfoldable pub is_empty : Sides → Bool
is_empty s = eqb s.left 0 && eqb s.right 0

-- node i covers k, by its two neighbours
unfoldable pub covers_of : Ring → Ids → Slot → Sides → Key → Bool
covers_of g ids i s k = covers_key (2 ^ g.m) (id_at ids i) (id_at ids (left_neighbour g ids i s)) (id_at ids (right_neighbour g ids i s)) k
