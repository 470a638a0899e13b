-- The slots as a ring of their own, as the walk outwards from an owner's slot sees them. Definitions only. Assumes nothing.
use Rattle.std.specs.Prelude.{Bool, cond, ◌&&◌, not, ℕ, eqb, ltb}
use Rattle.ring.specs.Distance.{fall_of}
use Rattle.marks.specs.Marks.{has}
use Rattle.rules.specs.Closest.{nearer_than}

-- steps up from i to s, or down
abbrev pub steps_of : Bool → ℕ → ℕ → ℕ → ℕ
steps_of up n i s = cond up (fall_of n s i) (fall_of n i s)

-- s is in the set, and is not i
abbrev pub other_than : ℕ → ℕ → ℕ → Bool
other_than set i s = has set s && not (eqb s i)

-- the slots that the walk looks at: those other than i before which fewer than l members stand (T-04: "stop after L members")
abbrev pub looked_at : Bool → ℕ → ℕ → ℕ → ℕ → ℕ → Bool
looked_at up set i n l s = not (eqb s i) && ltb (nearer_than (steps_of up n i) n (other_than set i) s) l
