-- Binary digits: which marks a gathered number has, and that a number is its marks. `bit x s` is the digit at s, and a mark is
-- a digit that is 1. By induction on how many digits there are: `gather` puts one on top, and `ext` takes the lowest off.
-- Assumes nothing.
use mathlib.Core.Path.{◌≡◌, refl, sym, ◌∙◌, ap}
use mathlib.Core.Logic.{◌⊎◌, inl, inr}
use mathlib.Core.Bool.{Bool, true, false, cond}
use Prim.Native.Nat.{ℕ, zero, suc, ◌+◌, ◌-◌, ◌*◌, ◌/◌, ◌%◌, ◌^◌, ◌<◌, ◌≤◌}
use native.Mathlib.Nat.{pow-succ', mod-eq_of_lt, add-mul-mod_self_right, mod-lt, zero-lt-suc, div-div-eq-div-mul, div-eq_of_lt, div-one}
use native.Mathlib.Nat.{zero-div, add_comm, add-mul-div_right, mul_assoc, lt_of_lt_of_le, eq-or-lt_of_le, le_of_suc-le-suc, one-mul}
use native.Mathlib.Omega.{arith}
use lib.Pow.{pow_pos, pow-add, pow_mono, high}
use lib.Dec.{eqb}
use Rattle.marks.proofs.Bools.{lt-or-le}
use Rattle.marks.specs.Marks.{has, gather}

abbrev pub bit : ℕ → ℕ → ℕ
bit x s = x / 2 ^ s % 2

pub bit-lt : (x s : ℕ) → bit x s < 2
bit-lt x s = mod-lt (x / 2 ^ s) (zero-lt-suc 1)

pub bit-zero : (x : ℕ) → bit x 0 ≡ x % 2
bit-zero x = rw div-one

pub bit-suc : (x s : ℕ) → bit x (suc s) ≡ bit (x / 2) s
bit-suc x s = rw (pow-succ', ← div-div-eq-div-mul)

-- a number below 2, by its two values
pub digit : (x : ℕ) → x < 2 → (x ≡ 0) ⊎ (x ≡ 1)
digit zero h = inl refl
digit (suc zero) h = inr refl
digit (suc (suc x)) h = absurd (omega arith)

-- ---- a number is its marks

pub half_lt : (n x : ℕ) → x < 2 ^ suc n → x / 2 < 2 ^ n
half_lt n x h = omega arith

same_bits : (n a b : ℕ) → a < 2 ^ n → b < 2 ^ n → ((s : ℕ) → s < n → bit a s ≡ bit b s) → a ≡ b
same_bits zero a b ha hb f = omega arith
same_bits (suc n) a b ha hb f =
    let h : a / 2 ≡ b / 2 =
    same_bits n (a / 2) (b / 2) (half_lt n a ha) (half_lt n b hb) (λ s l. sym (bit-suc a s) ∙ f (suc s) (omega arith) ∙ bit-suc b s) in
    let l : a % 2 ≡ b % 2 = sym (bit-zero a) ∙ f 0 (omega arith) ∙ bit-zero b in
    omega arith

same-digit : (x y : ℕ) → x < 2 → y < 2 → eqb x 1 ≡ eqb y 1 → x ≡ y
same-digit x y hx hy e = go (digit x hx) (digit y hy)
  where
    go : (x ≡ 0) ⊎ (x ≡ 1) → (y ≡ 0) ⊎ (y ≡ 1) → x ≡ y
    go (inl p) (inl q) = cc
    go (inr p) (inr q) = cc
    go (inl p) (inr q) = cc
    go (inr p) (inl q) = cc

pub ext : (n a b : ℕ) → a < 2 ^ n → b < 2 ^ n → ((s : ℕ) → s < n → has a s ≡ has b s) → a ≡ b
unfolding has
ext n a b ha hb f = same_bits n a b ha hb (λ s l. same-digit (bit a s) (bit b s) (bit-lt a s) (bit-lt b s) (f s l))

pub has-zero : (s : ℕ) → has 0 s ≡ false
unfolding has
has-zero s = rw (zero-div (2 ^ s))

pub has-high : (n x s : ℕ) → x < 2 ^ n → n ≤ s → has x s ≡ false
unfolding has
has-high n x s h l = rw (div-eq_of_lt (lt_of_lt_of_le h (pow_mono l)))

-- ---- the marks of a gathered number

-- a digit on top of n digits, as a number
pub top : (b : Bool) (n g : ℕ) → g + cond b (2 ^ n) 0 ≡ cond b 1 0 * 2 ^ n + g
top true n g = add_comm g (2 ^ n) ∙ ap (λ (x : ℕ). x + g) (sym (one-mul (2 ^ n)))
top false n g = omega arith

top_lt : (b : Bool) → cond b 1 0 < 2
top_lt true = omega arith
top_lt false = omega arith

pub bit_below : (n d g s : ℕ) → s < n → bit (d * 2 ^ n + g) s ≡ bit g s
bit_below n d g s h =
    let r = n - suc s in
    let e : n ≡ r + 1 + s = omega arith in
    let p : d * 2 ^ n ≡ d * 2 ^ r * 2 * 2 ^ s =
    ap (λ (x : ℕ). d * 2 ^ x) e ∙ ap (λ (x : ℕ). d * x) (pow-add 2 (r + 1) s ∙ ap (λ (x : ℕ). x * 2 ^ s) (pow-add 2 r 1))
    ∙ sym (mul_assoc d (2 ^ r * 2) (2 ^ s)) ∙ ap (λ (x : ℕ). x * 2 ^ s) (sym (mul_assoc d (2 ^ r) 2)) in
    ap (λ (x : ℕ). (x + g) / 2 ^ s % 2) p ∙ ap (λ (x : ℕ). x / 2 ^ s % 2) (add_comm (d * 2 ^ r * 2 * 2 ^ s) g)
    ∙ ap (λ (x : ℕ). x % 2) (add-mul-div_right g (d * 2 ^ r * 2) (pow_pos s)) ∙ add-mul-mod_self_right (g / 2 ^ s) (d * 2 ^ r) 2

bit-top : (n d g : ℕ) → d < 2 → g < 2 ^ n → bit (d * 2 ^ n + g) n ≡ d
bit-top n d g hd hg = ap (λ (x : ℕ). x % 2) (high d n hg) ∙ mod-eq_of_lt hd

top-is : (b : Bool) → eqb (cond b 1 0) 1 ≡ b
top-is true = refl
top-is false = refl

pub gather-below : (n : ℕ) (f : ℕ → Bool) → gather n f < 2 ^ n
unfolding gather
gather-below zero f = omega arith
gather-below (suc n) f = go (f n) (gather-below n f)
  where
    go : (b : Bool) → gather n f < 2 ^ n → gather n f + cond b (2 ^ n) 0 < 2 ^ suc n
    go true h = omega arith
    go false h = omega arith

pub has-gather : (n : ℕ) (f : ℕ → Bool) (s : ℕ) → s < n → has (gather n f) s ≡ f s
unfolding gather has
has-gather zero f s h = absurd (omega arith)
has-gather (suc n) f s h = rw (top (f n) n (gather n f)) (go (has-gather n f s) (eq-or-lt_of_le (le_of_suc-le-suc h)))
  where
    go : (s < n → has (gather n f) s ≡ f s) → (s ≡ n) ⊎ (s < n) → has (cond (f n) 1 0 * 2 ^ n + gather n f) s ≡ f s
    go rest (inl e) = rw (e, bit-top n (cond (f n) 1 0) (gather n f) (top_lt (f n)) (gather-below n f)) (top-is (f n))
    go rest (inr l) = rw (bit_below n (cond (f n) 1 0) (gather n f) s l) (rest l)

pub gather-high : (n : ℕ) (f : ℕ → Bool) (s : ℕ) → n ≤ s → has (gather n f) s ≡ false
gather-high n f s l = has-high n (gather n f) s (gather-below n f) l

pub gather-same : (n : ℕ) (f g : ℕ → Bool) → ((s : ℕ) → s < n → f s ≡ g s) → gather n f ≡ gather n g
gather-same n f g e =
    ext n (gather n f) (gather n g) (gather-below n f) (gather-below n g)
    (λ s h. has-gather n f s h ∙ e s h ∙ sym (has-gather n g s h))

pub gather-all : (n x : ℕ) → x < 2 ^ n → gather n (has x) ≡ x
gather-all n x h = ext n (gather n (has x)) x (gather-below n (has x)) h (has-gather n (has x))

pub gather_none : (n : ℕ) (f : ℕ → Bool) → ((s : ℕ) → s < n → f s ≡ false) → gather n f ≡ 0
gather_none n f e =
    ext n (gather n f) 0 (gather-below n f) (pow_pos n) (λ s h. has-gather n f s h ∙ e s h ∙ sym (has-zero s))

-- slots that fail are not gathered
pub gather-more : (n m : ℕ) (f : ℕ → Bool) → n ≤ m → ((s : ℕ) → n ≤ s → s < m → f s ≡ false) → gather m f ≡ gather n f
gather-more n m f h e =
    ext m (gather m f) (gather n f) (gather-below m f) (lt_of_lt_of_le (gather-below n f) (pow_mono h))
    (λ s l. has-gather m f s l ∙ go s l (lt-or-le s n))
  where
    go : (s : ℕ) → s < m → (s < n) ⊎ (n ≤ s) → f s ≡ has (gather n f) s
    go s l (inl k) = sym (has-gather n f s k)
    go s l (inr k) = e s k l ∙ sym (gather-high n f s k)
