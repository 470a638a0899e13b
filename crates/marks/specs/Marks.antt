-- A set of nodes is 64 marks, mark s for slot s: the number whose binary digit at s says whether s is in it.
-- The operations are defined by membership. Definitions only; their laws are in Laws. Assumes nothing.
use Rattle.std.specs.Prelude.{Bool, true, cond, ◌&&◌, ◌||◌, not, ℕ, zero, suc, ◌+◌, ◌/◌, ◌%◌, ◌^◌, eqb, leb, Option, Some, None}

-- slots 0 to n - 1
abbrev pub Slot : Type 0
Slot = ℕ

-- a set of nodes
abbrev pub Marks : Type 0
Marks = ℕ

-- a slot that was looked for
abbrev pub Found : Type 0
Found = Option Slot

-- slot s is in the set
unfoldable pub has : Marks → Slot → Bool
has x s = eqb (x / 2 ^ s % 2) 1

-- the set of the slots below n that pass a test
unfoldable pub gather : ℕ → (Slot → Bool) → Marks
gather zero f = 0
gather (suc n) f = gather n f + cond (f n) (2 ^ n) 0

-- how many slots below n pass a test
unfoldable pub tally : ℕ → (ℕ → Bool) → ℕ
tally zero f = 0
tally (suc n) f = tally n f + cond (f n) 1 0

-- T-06: the first of two that were found
abbrev pub or_else : Found → Found → Found
or_else (Some s) other = Some s
or_else None other = other

-- T-06: the least slot below n that passes a test
unfoldable pub first_to : ℕ → (ℕ → Bool) → Found
first_to zero f = None
first_to (suc n) f = or_else (first_to n f) (cond (f n) (Some n) None)

-- every slot below n passes a test
unfoldable pub all_to : ℕ → (ℕ → Bool) → Bool
all_to zero f = true
all_to (suc n) f = all_to n f && f n

unfoldable pub single : Slot → Marks
single s = gather 64 (λ t. eqb t s)

unfoldable pub union : Marks → Marks → Marks
union a b = gather 64 (λ s. has a s || has b s)

unfoldable pub meet : Marks → Marks → Marks
meet a b = gather 64 (λ s. has a s && has b s)

unfoldable pub without : Marks → Marks → Marks
without a b = gather 64 (λ s. has a s && not (has b s))

unfoldable pub add_of : Marks → Slot → Marks
add_of a s = gather 64 (λ t. has a t || eqb t s)

unfoldable pub remove_of : Marks → Slot → Marks
remove_of a s = gather 64 (λ t. has a t && not (eqb t s))

-- how many nodes are in the set
unfoldable pub size_of : Marks → ℕ
size_of a = tally 64 (has a)

-- the least node of the set
unfoldable pub lowest_of : Marks → Found
lowest_of a = first_to 64 (has a)

-- no mark is at n or above
unfoldable pub listed : ℕ → Marks → Bool
listed n a = all_to 64 (λ s. not (has a s && leb n s))
