-- The laws of sets of nodes: the members of each set, how many there are, and the sets of slots below n. A set's law follows from
-- `has-gather`, and two sets are equal by `ext`. What Bits and Slots say of digits and tests is passed on, so that a user names this
-- file alone. Assumes nothing.
use Rattle.std.specs.Prelude.{Some, None}
use mathlib.Core.Path.{◌≡◌, refl, sym, ◌∙◌, ap}
use mathlib.Core.Logic.{◌⊎◌, inl, inr, ⊎_elim}
use mathlib.Core.Bool.{Bool, true, false, ◌&&◌, ◌||◌, not, or-false}
use Prim.Native.Nat.{ℕ, zero, suc, ◌+◌, ◌^◌, ◌<◌, ◌≤◌}
use native.Mathlib.Nat.{le_of_lt, lt_of_lt_of_le}
use native.Mathlib.Numerals.{add-one}
use native.Mathlib.Omega.{arith}
use borrow.Author.Tests.{eq-eqb, ne_eqb, eqb-true, lt-leb, leb-false, lt-ltb, ltb-true, not-true}
use lib.Dec.{eqb, leb, ltb}
use lib.Pow.{pow_mono}
use Rattle.marks.proofs.Bools.{opposed, bool_false, bool_same, and_left, and_right, or_cases, or_right, false-not, lt-or-le, eq-or-ne}
use Rattle.marks.specs.Marks.{has, gather, tally, first_to, single, union, meet, without, add_of, remove_of, Found}
use Rattle.marks.specs.Marks.{size_of, lowest_of, listed}
pub use Rattle.marks.proofs.Bits.{ext, has-zero, has-high, has-gather}
pub use Rattle.marks.proofs.Bits.{gather-below, gather-high, gather-same, gather-all, gather_none, gather-more}
pub use Rattle.marks.proofs.Slots.{tally-same, tally-mono, tally-none, tally-all, tally-le, tally-strict, tally-zero, tally-more}
pub use Rattle.marks.proofs.Slots.{tally-add, tally-or-one, tally-remove}
pub use Rattle.marks.proofs.Slots.{First, first_found, first-none, first-at, first-nothing, first-same}
pub use Rattle.marks.proofs.Slots.{NoneBelow, none_more, tally-some, some-tally}
pub use Rattle.marks.proofs.Slots.{each, all_of, more, fails, some-fails, all_same}

-- ---- the members of each set

pub has-single : (t s : ℕ) → s < 64 → has (single t) s ≡ eqb s t
unfolding single
has-single t s h = has-gather 64 (λ u. eqb u t) s h

pub has-union : (a b s : ℕ) → s < 64 → has (union a b) s ≡ (has a s || has b s)
unfolding union
has-union a b s h = has-gather 64 (λ t. has a t || has b t) s h

pub has_meet : (a b s : ℕ) → s < 64 → has (meet a b) s ≡ (has a s && has b s)
unfolding meet
has_meet a b s h = has-gather 64 (λ t. has a t && has b t) s h

pub has-without : (a b s : ℕ) → s < 64 → has (without a b) s ≡ (has a s && not (has b s))
unfolding without
has-without a b s h = has-gather 64 (λ t. has a t && not (has b t)) s h

pub has-add : (a t s : ℕ) → s < 64 → has (add_of a t) s ≡ (has a s || eqb s t)
unfolding add_of
has-add a t s h = has-gather 64 (λ u. has a u || eqb u t) s h

pub has-remove : (a t s : ℕ) → s < 64 → has (remove_of a t) s ≡ (has a s && not (eqb s t))
unfolding remove_of
has-remove a t s h = has-gather 64 (λ u. has a u && not (eqb u t)) s h

pub single-below : (t : ℕ) → single t < 2 ^ 64
unfolding single
single-below t = gather-below 64 (λ u. eqb u t)

pub union-below : (a b : ℕ) → union a b < 2 ^ 64
unfolding union
union-below a b = gather-below 64 (λ t. has a t || has b t)

pub meet_below : (a b : ℕ) → meet a b < 2 ^ 64
unfolding meet
meet_below a b = gather-below 64 (λ t. has a t && has b t)

pub without-below : (a b : ℕ) → without a b < 2 ^ 64
unfolding without
without-below a b = gather-below 64 (λ t. has a t && not (has b t))

pub add-below : (a t : ℕ) → add_of a t < 2 ^ 64
unfolding add_of
add-below a t = gather-below 64 (λ u. has a u || eqb u t)

pub remove-below : (a t : ℕ) → remove_of a t < 2 ^ 64
unfolding remove_of
remove-below a t = gather-below 64 (λ u. has a u && not (eqb u t))

-- a member of a set is one of the 64 slots
pub has_within : (a s : ℕ) → a < 2 ^ 64 → has a s ≡ true → s < 64
has_within a s h p = ⊎_elim (λ l. l) (λ l. absurd (opposed p (has-high 64 a s h l))) (lt-or-le s 64)

-- a set with no member is 0, one with a member is not, and one that is not 0 has a member
pub empty : (a : ℕ) → a < 2 ^ 64 → ((s : ℕ) → s < 64 → has a s ≡ false) → a ≡ 0
empty a h e = ext 64 a 0 h (omega arith) (λ s l. e s l ∙ sym (has-zero s))

pub empty-has : (a s : ℕ) → a ≡ 0 → has a s ≡ false
empty-has a s e = rw e (has-zero s)

pub member-pos : (a s : ℕ) → has a s ≡ true → 0 < a
member-pos zero s p = absurd (opposed p (has-zero s))
member-pos (suc a) s p = omega arith

pub member : (a : ℕ) → a < 2 ^ 64 → 0 < a → (s : ℕ) × (s < 64) × (has a s ≡ true)
member a h l = go (first_to 64 (has a)) refl
  where
    go : (r : Found) → first_to 64 (has a) ≡ r → (s : ℕ) × (s < 64) × (has a s ≡ true)
    go (Some s) e = let i = first_found 64 (has a) s e in (s, i.below, i.holds)
    go None e = let z : a ≡ 0 = empty a h (first-none 64 (has a) e) in absurd (omega arith)

-- ---- the least member

pub lowest-found : (a s : ℕ) → lowest_of a ≡ Some s → First 64 (has a) s
unfolding lowest_of
lowest-found a s e = first_found 64 (has a) s e

pub lowest-none : (a : ℕ) → a < 2 ^ 64 → lowest_of a ≡ None → a ≡ 0
unfolding lowest_of
lowest-none a h e = empty a h (first-none 64 (has a) e)

-- ---- how many members

pub size-gather : (n : ℕ) (f : ℕ → Bool) → n ≤ 64 → size_of (gather n f) ≡ tally n f
unfolding size_of
size-gather n f h =
    tally-more n 64 (has (gather n f)) h (λ s l k. gather-high n f s l) ∙ tally-same n (has (gather n f)) f (has-gather n f)

pub size_same : (a b : ℕ) → ((s : ℕ) → s < 64 → has a s ≡ has b s) → size_of a ≡ size_of b
unfolding size_of
size_same a b e = tally-same 64 (has a) (has b) e

-- a subset is no larger, and is smaller where it lacks a member
pub size_mono : (a b : ℕ) → ((s : ℕ) → s < 64 → has a s ≡ true → has b s ≡ true) → size_of a ≤ size_of b
unfolding size_of
size_mono a b e = tally-mono 64 (has a) (has b) e

pub size-strict : (a b t : ℕ) → ((s : ℕ) → s < 64 → has a s ≡ true → has b s ≡ true) → t < 64 → has a t ≡ false → has b t ≡ true
    → size_of a < size_of b
unfolding size_of
size-strict a b t e h p q = tally-strict 64 (has a) (has b) t e h p q

pub size-le : (a : ℕ) → size_of a ≤ 64
unfolding size_of
size-le a = tally-le 64 (has a)

pub size-zero : size_of 0 ≡ 0
unfolding size_of
size-zero = tally-none 64 (has 0) (λ s h. has-zero s)

pub size_none : (a s : ℕ) → size_of a ≡ 0 → s < 64 → has a s ≡ false
unfolding size_of
size_none a s e h = tally-zero 64 (has a) s e h

pub size-add : (a t : ℕ) → t < 64 → has a t ≡ false → size_of (add_of a t) ≡ size_of a + 1
unfolding size_of add_of
size-add a t h p = size-gather 64 (λ u. has a u || eqb u t) (omega arith) ∙ tally-add 64 (has a) t h p

pub size-add-le : (a t : ℕ) → size_of (add_of a t) ≤ size_of a + 1
unfolding size_of add_of
size-add-le a t = rw (size-gather 64 (λ u. has a u || eqb u t) (omega arith)) (tally-or-one 64 (has a) t)

pub size-remove : (a t : ℕ) → t < 64 → has a t ≡ true → size_of (remove_of a t) + 1 ≡ size_of a
unfolding size_of remove_of
size-remove a t h p =
    ap (λ (n : ℕ). n + 1) (size-gather 64 (λ u. has a u && not (eqb u t)) (omega arith)) ∙ tally-remove 64 (has a) t h p

-- ---- sets of slots below n

pub listed_has : (n a s : ℕ) → listed n a ≡ true → s < 64 → has a s ≡ true → s < n
unfolding listed
listed_has n a s e h p =
    let fail : (has a s && leb n s) ≡ false = not-true (has a s && leb n s) (each 64 (λ t. not (has a t && leb n t)) s e h) in
    leb-false n s (rw p at fail)

pub listed_of : (n a : ℕ) → ((s : ℕ) → s < 64 → has a s ≡ true → s < n) → listed n a ≡ true
unfolding listed
listed_of n a e = all_of 64 (λ s. not (has a s && leb n s)) (λ s h. go s h (has a s) refl)
  where
    go : (s : ℕ) → s < 64 → (b : Bool) → has a s ≡ b → not (b && leb n s) ≡ true
    go s h true p = false-not (lt-leb n s (e s h p))
    go s h false p = refl

pub listed-every : (n a : ℕ) → 64 ≤ n → listed n a ≡ true
listed-every n a h = listed_of n a (λ s l p. omega arith)

pub listed-zero : (n : ℕ) → listed n 0 ≡ true
listed-zero n = listed_of n 0 (λ s l p. absurd (opposed p (has-zero s)))

pub listed-gather : (n : ℕ) (f : ℕ → Bool) → listed n (gather n f) ≡ true
listed-gather n f =
    listed_of n (gather n f) (λ s l p. ⊎_elim (λ k. k) (λ k. absurd (opposed p (gather-high n f s k))) (lt-or-le s n))

-- they are the numbers below 2 ^ n
pub listed-lt : (n a : ℕ) → a < 2 ^ 64 → listed n a ≡ true → a < 2 ^ n
listed-lt n a h e = go (lt-or-le n 64)
  where
    go : (n < 64) ⊎ (64 ≤ n) → a < 2 ^ n
    go (inr l) = lt_of_lt_of_le h (pow_mono l)
    go (inl l) =
        let cut : a ≡ gather n (has a) =
        ext 64 a (gather n (has a)) h (lt_of_lt_of_le (gather-below n (has a)) (pow_mono (le_of_lt l)))
        (λ s k. same s k (lt-or-le s n)) in
        rw cut (gather-below n (has a))
      where
        same : (s : ℕ) → s < 64 → (s < n) ⊎ (n ≤ s) → has a s ≡ has (gather n (has a)) s
        same s k (inl m) = sym (has-gather n (has a) s m)
        same s k (inr m) =
            bool_false (has a s) (λ p. let o : s < n = listed_has n a s e k p in omega arith) ∙ sym (gather-high n (has a) s m)

pub lt-listed : (n a : ℕ) → a < 2 ^ n → listed n a ≡ true
lt-listed n a h = listed_of n a (λ s l p. ⊎_elim (λ k. k) (λ k. absurd (opposed p (has-high n a s h k))) (lt-or-le s n))

pub listed_below : (n a : ℕ) → a < 2 ^ 64 → listed n a ≡ ltb a (2 ^ n)
listed_below n a h =
    bool_same (listed n a) (ltb a (2 ^ n)) (λ e. lt-ltb a (2 ^ n) (listed-lt n a h e)) (λ e. lt-listed n a (ltb-true a (2 ^ n) e))

-- a part of a listed set is listed
pub listed-part : (n a b : ℕ) → listed n b ≡ true → ((s : ℕ) → s < 64 → has a s ≡ true → has b s ≡ true) → listed n a ≡ true
listed-part n a b e f = listed_of n a (λ s h p. listed_has n b s e h (f s h p))

pub listed-single : (n t : ℕ) → t < n → listed n (single t) ≡ true
listed-single n t h =
    listed_of n (single t) (λ s l p. let d : s ≡ t = eqb-true s t (sym (has-single t s l) ∙ p) in omega arith)

pub listed-union : (n a b : ℕ) → listed n a ≡ true → listed n b ≡ true → listed n (union a b) ≡ true
listed-union n a b d e =
    listed_of n (union a b) (λ s l p.
    ⊎_elim (listed_has n a s d l) (listed_has n b s e l) (or_cases (has a s) (has b s) (sym (has-union a b s l) ∙ p)))

pub listed-meet : (n a b : ℕ) → listed n a ≡ true → listed n (meet a b) ≡ true
listed-meet n a b e = listed-part n (meet a b) a e (λ s l p. and_left (has a s) (has b s) (sym (has_meet a b s l) ∙ p))

pub listed-meet-right : (n a b : ℕ) → listed n b ≡ true → listed n (meet a b) ≡ true
listed-meet-right n a b e = listed-part n (meet a b) b e (λ s l p. and_right (has a s) (has b s) (sym (has_meet a b s l) ∙ p))

pub listed-without : (n a b : ℕ) → listed n a ≡ true → listed n (without a b) ≡ true
listed-without n a b e =
    listed-part n (without a b) a e (λ s l p. and_left (has a s) (not (has b s)) (sym (has-without a b s l) ∙ p))

pub listed-add : (n a t : ℕ) → listed n a ≡ true → t < n → listed n (add_of a t) ≡ true
listed-add n a t e h =
    listed_of n (add_of a t) (λ s l p. go s l (or_cases (has a s) (eqb s t) (sym (has-add a t s l) ∙ p)))
  where
    go : (s : ℕ) → s < 64 → (has a s ≡ true) ⊎ (eqb s t ≡ true) → s < n
    go s l (inl p) = listed_has n a s e l p
    go s l (inr p) = let d : s ≡ t = eqb-true s t p in omega arith

pub listed-remove : (n a t : ℕ) → listed n a ≡ true → listed n (remove_of a t) ≡ true
listed-remove n a t e =
    listed-part n (remove_of a t) a e (λ s l p. and_left (has a s) (not (eqb s t)) (sym (has-remove a t s l) ∙ p))

-- ---- a set is gathered slot by slot: slot s is added where it passes the test, and passed over where it does not

module _ (f : ℕ → Bool) (s : ℕ) where
  took : s < 64 → f s ≡ true → add_of (gather s f) s ≡ gather (s + 1) f
  took h p =
      let k : s + 1 ≤ 64 = omega arith in
      ext 64 (add_of (gather s f) s) (gather (s + 1) f) (add-below (gather s f) s) (lt_of_lt_of_le (gather-below (s + 1) f) (pow_mono k))
      (λ t l. has-add (gather s f) s t l ∙ go t (lt-or-le t s) (eq-or-ne t s))
    where
      go : (t : ℕ) → (t < s) ⊎ (s ≤ t) → (t ≡ s) ⊎ (t ≡ s → ⊥) → (has (gather s f) t || eqb t s) ≡ has (gather (s + 1) f) t
      go t o (inl e) = or_right (has (gather s f) t) (eq-eqb t s e) ∙ sym (rw e (has-gather (s + 1) f s (omega arith) ∙ p))
      go t (inl l) (inr d) =
          rw (ne_eqb t s d, or-false) (has-gather s f t l ∙ sym (has-gather (s + 1) f t (omega arith)))
      go t (inr l) (inr d) =
          rw (ne_eqb t s d, or-false) (gather-high s f t l ∙ sym (gather-high (s + 1) f t (omega arith)))

  passed : f s ≡ false → gather s f ≡ gather (s + 1) f
  unfolding gather
  passed p = rw (add-one, p) (omega arith)

  -- one turn: out was gathered below s, and next is what the turn makes of it
  pub gather-next : (out next : ℕ) → s < 64 → out ≡ gather s f
      → ((f s ≡ true) × (next ≡ add_of out s)) ⊎ ((f s ≡ false) × (next ≡ out)) → next ≡ gather (s + 1) f
  gather-next out next h e (inl w) = w.1 ∙ (rw e (took h w.0))
  gather-next out next h e (inr w) = w.1 ∙ e ∙ passed w.0
