-- The machine's operations on 64 marks are the operations on sets: `|`, `&`, `& !`, `<<`, `>>`, the count of ones and the zeros below
-- the lowest one. Each is read mark by mark, and two sets with the same marks are equal. Assumes nothing.
use Rattle.std.specs.Prelude.{Some, None}
use mathlib.Core.Path.{◌≡◌, refl, sym, ◌∙◌, ap}
use mathlib.Core.Logic.{◌⊎◌, inl, inr}
use mathlib.Core.Bool.{Bool, true, false, cond, ◌&&◌, ◌||◌, not}
use Prim.Native.Nat.{ℕ, zero, suc, ◌+◌, ◌-◌, ◌*◌, ◌/◌, ◌%◌, ◌^◌, ◌<◌, ◌≤◌}
use native.Mathlib.Nat.{mod-eq_of_lt, mul-add-mod_self_right, div-lt_iff_lt-mul, div-eq_of_lt}
use native.Mathlib.Omega.{arith}
use borrow.Author.Tests.{eq-eqb, eqb-true, ne_eqb}
use lib.Bits.{bit_and, bit_or, bit_xor, and_shr, or_shr, xor_shr, and_mod, or_mod, xor_mod, and_mask, xor_add_and, and_lt, or_lt}
use lib.Count.{ones, ones_cat, count_trailing_zeros, under}
use lib.Dec.{eqb}
use lib.Pow.{ones_lt, ones_sub-lt, pow_pos, ones_split, high}
use Rattle.marks.proofs.Bools.{bool_same}
use Rattle.marks.specs.Marks.{has, gather, tally, single, union, meet, without, add_of, remove_of, size_of}
use Rattle.marks.specs.Marks.{lowest_of, listed}
use Rattle.marks.proofs.Bits.{bit, bit-lt, bit-zero, bit-suc, digit, half_lt, top}
use Rattle.marks.proofs.Laws.{ext, has-zero, gather-below, gather-same, gather-all, has-single, has-union, has_meet, has-without}
use Rattle.marks.proofs.Laws.{gather_none, gather-more, union-below, meet_below, without-below}
use Rattle.marks.proofs.Laws.{First, first-at, first-nothing, listed-lt, lt-listed}

-- ---- or, and, not

-- a law on two digits holds if it holds in its four cases
on-digits : (f : ℕ → ℕ → ℕ) (g : Bool → Bool → Bool) → eqb (f 0 0) 1 ≡ g false false → eqb (f 0 1) 1 ≡ g false true
    → eqb (f 1 0) 1 ≡ g true false → eqb (f 1 1) 1 ≡ g true true → (x y : ℕ) → x < 2 → y < 2 → eqb (f x y) 1 ≡ g (eqb x 1) (eqb y 1)
on-digits f g a b c d x y hx hy = go (digit x hx) (digit y hy)
  where
    go : (x ≡ 0) ⊎ (x ≡ 1) → (y ≡ 0) ⊎ (y ≡ 1) → eqb (f x y) 1 ≡ g (eqb x 1) (eqb y 1)
    go (inl p) (inl q) = rw (p, q) a
    go (inl p) (inr q) = rw (p, q) b
    go (inr p) (inl q) = rw (p, q) c
    go (inr p) (inr q) = rw (p, q) d

has-or : (a b s : ℕ) → has (bit_or a b) s ≡ (has a s || has b s)
unfolding has
has-or a b s =
    rw (or_shr, or_mod (a / 2 ^ s) (b / 2 ^ s) 1)
    (on-digits bit_or ◌||◌ refl refl refl refl (bit a s) (bit b s) (bit-lt a s) (bit-lt b s))

has-and : (a b s : ℕ) → has (bit_and a b) s ≡ (has a s && has b s)
unfolding has
has-and a b s =
    rw (and_shr, and_mod (a / 2 ^ s) (b / 2 ^ s) 1)
    (on-digits bit_and ◌&&◌ refl refl refl refl (bit a s) (bit b s) (bit-lt a s) (bit-lt b s))

-- the complement is the exclusive or with all marks
not-xor : (k b : ℕ) → b < 2 ^ k → 2 ^ k - 1 - b ≡ bit_xor b (2 ^ k - 1)
not-xor k b h =
    let m : bit_and b (2 ^ k - 1) ≡ b = and_mask b k ∙ mod-eq_of_lt h in
    omega (arith, m, xor_add_and b (2 ^ k - 1), pow_pos k)

all-marks : (k s : ℕ) → s < k → bit (2 ^ k - 1) s ≡ 1
all-marks k s h =
    let r = k - suc s in
    let e : k ≡ (r + 1) + s = omega arith in
    let m : (2 ^ k - 1) / 2 ^ s ≡ 2 ^ (r + 1) - 1 =
    ap (λ (n : ℕ). (2 ^ n - 1) / 2 ^ s) e ∙ ap (λ (n : ℕ). n / 2 ^ s) (ones_split (r + 1) s) ∙ high (2 ^ (r + 1) - 1) s (ones_lt s) in
    ap (λ (n : ℕ). n % 2) (m ∙ ones_split r 1) ∙ mul-add-mod_self_right (2 ^ r - 1) 2 1

has-not : (k b s : ℕ) → b < 2 ^ k → s < k → has (2 ^ k - 1 - b) s ≡ not (has b s)
unfolding has
has-not k b s hb hs =
    rw (not-xor k b hb, xor_shr, xor_mod (b / 2 ^ s) ((2 ^ k - 1) / 2 ^ s) 1, all-marks k s hs)
    (on-digits (λ x y. bit_xor x 1) (λ x y. not x) refl refl refl refl (bit b s) (bit b s) (bit-lt b s) (bit-lt b s))

pub or-union : (a b : ℕ) → a < 2 ^ 64 → b < 2 ^ 64 → bit_or a b ≡ union a b
or-union a b ha hb =
    ext 64 (bit_or a b) (union a b) (or_lt 64 a b ha hb) (union-below a b) (λ s h. has-or a b s ∙ sym (has-union a b s h))

pub and-meet : (a b : ℕ) → a < 2 ^ 64 → b < 2 ^ 64 → bit_and a b ≡ meet a b
and-meet a b ha hb =
    ext 64 (bit_and a b) (meet a b) (and_lt 64 a b ha hb) (meet_below a b) (λ s h. has-and a b s ∙ sym (has_meet a b s h))

pub and-without : (a b : ℕ) → a < 2 ^ 64 → b < 2 ^ 64 → bit_and a (2 ^ 64 - 1 - b) ≡ without a b
and-without a b ha hb =
    let n = 2 ^ 64 - 1 - b in
    ext 64 (bit_and a n) (without a b) (and_lt 64 a n ha (ones_sub-lt 64 b)) (without-below a b)
    (λ s h. has-and a n s ∙ ap (λ (x : Bool). has a s && x) (has-not 64 b s hb h) ∙ sym (has-without a b s h))

-- ---- one mark

pub one_single : (s : ℕ) → s < 64 → 2 ^ s ≡ single s
unfolding single gather
one_single s h =
    let none : gather s (λ t. eqb t s) ≡ 0 = gather_none s (λ t. eqb t s) (λ t l. ne_eqb t s (omega arith)) in
    let one : gather (suc s) (λ t. eqb t s) ≡ 2 ^ s = rw (none, eq-eqb s s refl) (omega arith) in
    sym (gather-more (suc s) 64 (λ t. eqb t s) h (λ t l k. ne_eqb t s (omega arith)) ∙ one)

pub none-single : (s : ℕ) → 64 ≤ s → 0 ≡ single s
unfolding single
none-single s h = sym (gather_none 64 (λ t. eqb t s) (λ t l. ne_eqb t s (omega arith)))

pub union-single : (a s : ℕ) → union a (single s) ≡ add_of a s
unfolding union add_of
union-single a s =
    gather-same 64 (λ t. has a t || has (single s) t) (λ t. has a t || eqb t s) (λ t h. ap (λ (x : Bool). has a t || x) (has-single s t h))

pub without-single : (a s : ℕ) → without a (single s) ≡ remove_of a s
unfolding without remove_of
without-single a s =
    gather-same 64 (λ t. has a t && not (has (single s) t)) (λ t. has a t && not (eqb t s))
    (λ t h. ap (λ (x : Bool). has a t && not x) (has-single s t h))

-- ---- how many

ones-gather : (n : ℕ) (f : ℕ → Bool) → ones (gather n f) ≡ tally n f
unfolding gather tally ones
ones-gather zero f = refl
ones-gather (suc n) f =
    ap ones (top (f n) n (gather n f)) ∙ ones_cat n (cond (f n) 1 0) (gather n f) (gather-below n f) ∙ go (f n) (ones-gather n f)
  where
    go : (b : Bool) → ones (gather n f) ≡ tally n f → ones (cond b 1 0) + ones (gather n f) ≡ tally n f + cond b 1 0
    go true e = omega arith
    go false e = omega arith

pub ones-size : (a : ℕ) → a < 2 ^ 64 → ones a ≡ size_of a
unfolding size_of
ones-size a h = ap ones (sym (gather-all 64 a h)) ∙ ones-gather 64 (has a)

-- ---- the least

trailing-first : (k a : ℕ) → 0 < a → a < 2 ^ k → First k (has a) (count_trailing_zeros k a)
unfolding count_trailing_zeros has
trailing-first zero a p h = absurd (omega arith)
trailing-first (suc k) a p h = go (a % 2) refl (λ q. trailing-first k (a / 2) q (half_lt k a h))
  where
    lower : (t n : ℕ) → a % 2 ≡ 0 → ((u : ℕ) → u < n → has (a / 2) u ≡ false) → t < suc n → has a t ≡ false
    lower zero n e f l = rw (bit-zero a, e)
    lower (suc t) n e f l = rw (bit-suc a t) (f t (omega arith))

    go : (d : ℕ) → a % 2 ≡ d → (0 < a / 2 → First k (has (a / 2)) (count_trailing_zeros k (a / 2)))
        → First (suc k) (has a) (under d (count_trailing_zeros k (a / 2)))
    go zero e rest =
        let i = rest (omega arith) in
        let n = count_trailing_zeros k (a / 2) in
        record { below = omega arith; holds = rw (bit-suc a n) i.holds; least = λ t l. lower t n e i.least l }
    go (suc d) e rest =
        record { below = omega arith; holds = rw (bit-zero a) (eq-eqb (a % 2) 1 (omega arith)); least = λ t l. absurd (omega arith) }

pub trailing-lowest : (a : ℕ) → 0 < a → a < 2 ^ 64 → Some (count_trailing_zeros 64 a) ≡ lowest_of a
unfolding lowest_of
trailing-lowest a p h =
    let i = trailing-first 64 a p h in
    sym (first-at 64 (has a) (count_trailing_zeros 64 a) i.below i.holds i.least)

pub zero-lowest : None ≡ lowest_of 0
unfolding lowest_of
zero-lowest = sym (first-nothing 64 (has 0) (λ s h. has-zero s))

-- ---- nothing is left when n digits are shifted out

pub shifted-listed : (a n : ℕ) → a < 2 ^ 64 → eqb (a / 2 ^ n) 0 ≡ listed n a
shifted-listed a n h =
    bool_same (eqb (a / 2 ^ n) 0) (listed n a) (λ e. lt-listed n a (small (eqb-true (a / 2 ^ n) 0 e)))
    (λ e. eq-eqb (a / 2 ^ n) 0 (div-eq_of_lt (listed-lt n a h e)))
  where
    small : a / 2 ^ n ≡ 0 → a < 2 ^ n
    small z =
        let l : a / 2 ^ n < 1 = omega arith in
        let m : a < 1 * 2 ^ n = (div-lt_iff_lt-mul (pow_pos n)).0 l in
        omega arith
