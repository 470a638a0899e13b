-- The loops over places. A pool by value has 256 of them; of the messages that wait, what is left stands at its places; a search that passed the messages before
-- `at` ends as the definition says. Assumes nothing.
use Rattle.std.specs.Prelude.{Some, None}
use mathlib.Core.Path.{◌≡◌, refl, sym, ◌∙◌, ap}
use mathlib.Core.Bool.{Bool, true, false, ◌&&◌, ◌||◌}
use mathlib.Core.List.{List, [], ◌∷◌, ◌++◌}
use Prim.Native.Nat.{ℕ, ◌+◌, ◌<◌, ◌≤◌}
use native.Mathlib.Numerals.{add-one}
use native.Mathlib.Omega.{arith}
use borrow.Author.Count.{below_more}
use borrow.Author.Tests.{eq-eqb, ne_eqb}
use lib.Dec.{eqb}
use lib.ListN.{length, get_or, take}
use lib.Seq.{take-suc}
use Rattle.std.specs.List.{list_any}
use mir.Val.{Val}
use denote.Laws.{Is}
use Rattle.marks.specs.Marks.{all_to}
use Rattle.marks.proofs.Laws.{more, fails}
use Rattle.rules.specs.declared.Message.{Message}
use Rattle.rules.specs.declared.Pool.{Pool}
use Rattle.rules.specs.Pool.{blank}
use Rattle.rules.specs.Mail.{fields_of, same_to, alike, first_equal, removed_at, join_waits, reply_waits}
use Rattle.rules.specs.contracts.Pool as pool
use Rattle.pool_laws.specs.InnerSending.{left_count, place_of}
use Rattle.pool_laws.proofs.Equal.{first-equal-at, first-equal-none}
use Rattle.pool_laws.proofs.Laid.{left-low, place-low, rest-length, rest-at}

-- a pool by value has 256 places
pub places-length : (x : Pool) (vs : List Val) → Is pool.the_row x vs → length x.places ≡ 256
places-length x vs is = is.1.1.1.0.1.0.1

pub left-few : (r n gone : ℕ) → r ≡ left_count n gone → r ≤ n
left-few r n gone e = omega (arith, left-low n gone)

-- what was read at a place is the message there of what is left
module _ (xs : List Message) (gone n at place : ℕ) (d : n ≡ left_count (length xs) gone) (l : at < n) (f : place ≡ place_of gone at) where
  pub left-low-at : place < length xs
  left-low-at = rw f (place-low (length xs) gone at (rw (← d) l))

  pub left-read : get_or xs place blank ≡ get_or (removed_at xs gone) at blank
  left-read = rw f (sym (rest-at xs gone at (rw (← d) l)))

-- how many are left
pub left-counted : (xs : List Message) (gone n : ℕ) → n ≡ left_count (length xs) gone → length (removed_at xs gone) ≡ n
left-counted xs gone n d = rest-length xs gone ∙ sym d

-- the messages before one more place
pub taken_more : (xs : List Message) (at : ℕ) → at < length xs → take (at + 1) xs ≡ take at xs ++ (get_or xs at blank ∷ [])
taken_more xs at h = rw add-one (take-suc xs at blank h)

-- the first f fields of two rows are equal
pub record Same (f : ℕ) (a b : List ℕ) : Type 0 where
  pub so : same_to f a b ≡ true

pub none-same : (a b : List ℕ) → Same 0 a b
unfolding all_to
none-same a b = record { so = refl }

pub same_more : (f : ℕ) (a b : List ℕ) → Same f a b → get_or a f 0 ≡ get_or b f 0 → Same (f + 1) a b
same_more f a b h e = record { so = more f (λ i. eqb (get_or a i 0) (get_or b i 0)) h.so (eq-eqb _ _ e) }

same_not : (f : ℕ) (a b : List ℕ) → f < 9 → (get_or a f 0 ≡ get_or b f 0 → ⊥) → same_to 9 a b ≡ false
same_not f a b l d = fails 9 (λ i. eqb (get_or a i 0) (get_or b i 0)) f l (ne_eqb _ _ d)

-- none of the messages before `at` has the fields b
pub record Passed (b : List ℕ) (xs : List Message) (at : ℕ) : Type 0 where
  pub differ : (i : ℕ) → i < at → same_to 9 (fields_of (get_or xs i blank)) b ≡ false

pub none_passed : (b : List ℕ) (xs : List Message) → Passed b xs 0
none_passed b xs = record { differ = λ i h. absurd (omega arith) }

pub passed-more : (b : List ℕ) (xs : List Message) (at f : ℕ) (a : List ℕ) → a ≡ fields_of (get_or xs at blank) → f < 9
    → (get_or a f 0 ≡ get_or b f 0 → ⊥) → Passed b xs at → Passed b xs (at + 1)
passed-more b xs at f a e l d k =
    record { differ = below_more _ _ k.differ (ap (λ (r : List ℕ). same_to 9 r b) (sym e) ∙ same_not f a b l d) }

module _ (m : Message) (b : List ℕ) (xs : List Message) (e : b ≡ fields_of m) where
  there : (i : ℕ) → alike (get_or xs i blank) m ≡ same_to 9 (fields_of (get_or xs i blank)) b
  unfolding alike
  there i = ap (λ (r : List ℕ). same_to 9 (fields_of (get_or xs i blank)) r) (sym e)

  pub missed : (at : ℕ) → length xs ≤ at → Passed b xs at → first_equal xs m ≡ None
  missed at h k = first-equal-none xs m (λ t l. there t ∙ k.differ t (omega arith))

  pub met : (at f : ℕ) (a : List ℕ) → at < length xs → Passed b xs at → a ≡ fields_of (get_or xs at blank) → f ≡ 9 → Same f a b
      → first_equal xs m ≡ Some at
  met at f a h k q nine s =
      first-equal-at xs m at h
      (there at ∙ ap (λ (r : List ℕ). same_to 9 r b) (sym q) ∙ ap (λ (i : ℕ). same_to i a b) (sym nine) ∙ s.so)
      (λ i l. there i ∙ k.differ i l)

-- ---- whether a message waits that passes a test

pub join-some : (xs : List Message) (i : ℕ) → join_waits xs i ≡ list_any (λ x. eqb x.kind 2 && eqb x.word i) xs
unfolding join_waits
join-some [] i = refl
join-some (x ∷ xs) i = ap (λ (b : Bool). (eqb x.kind 2 && eqb x.word i) || b) (join-some xs i)

pub reply-some : (xs : List Message) (i : ℕ) → reply_waits xs i ≡ list_any (λ x. eqb x.kind 3 && eqb x.dest i) xs
unfolding reply_waits
reply-some [] i = refl
reply-some (x ∷ xs) i = ap (λ (b : Bool). (eqb x.kind 3 && eqb x.dest i) || b) (reply-some xs i)
