-- Falls on a ring of N ids. The idea: y + Fall(x, y) goes round to x, and of the numbers below N no other does. So ways add up
-- (`fall-sum`), and a fall is one of two sums that omega can read (`falls`). For even N (`Ring`; 2 ^ M is, from M = 1 on) AbsDist is
-- the smaller of the two falls. Assumes nothing.
use mathlib.Core.Path.{◌≡◌, sym, ◌∙◌, ap}
use mathlib.Core.Logic.{◌⊎◌, inl, inr, ⊎_elim}
use Prim.Native.Nat.{ℕ, zero, suc, ◌+◌, ◌-◌, ◌/◌, ◌%◌, ◌^◌, ◌<◌, ◌≤◌, min, pred}
use native.Mathlib.Nat.{add_assoc, add_comm, add-zero, lt_of_not-le}
use native.Mathlib.Nat.{add-mod-mod, mod-add-mod, add-mod_right, mod-eq_of_lt, mod-eq-sub-mod, mod-lt}
use native.Mathlib.Decide.{dec_le}
use native.Mathlib.Omega.{arith}
use lib.IntN.{pos, negsuc, nat_abs, sub_ℕ}
use lib.Pow.{pow_pos}
use borrow.Author.Tests.{lt-ltb, le-ltb}
use Rattle.ring.specs.Distance.{fall_of, wrapped, signed_of, abs_dist_of}

-- ---- an order and a remainder, each by two cases

pub le-or-lt : (a b : ℕ) → (a ≤ b) ⊎ (b < a)
le-or-lt a b = elim (dec_le a b) [ yes p ↦ inl p | no f ↦ inr (lt_of_not-le f) ]

-- the remainder m of an x of less than two rounds
abbrev pub Wraps : ℕ → ℕ → ℕ → Type 0
Wraps N x m = ((x < N) × (m ≡ x)) ⊎ ((N ≤ x) × (m + N ≡ x))

pub wraps : (N x : ℕ) → x < N + N → Wraps N x (x % N)
wraps N x h = ⊎_elim (λ p. inr (p, round p)) (λ p. inl (p, mod-eq_of_lt p)) (le-or-lt N x)
  where
    round : N ≤ x → x % N + N ≡ x
    round p =
        let m : x % N ≡ x - N = mod-eq-sub-mod p ∙ mod-eq_of_lt (omega arith) in
        omega arith

-- ---- the fall

-- the fall f from x to y
abbrev pub Falls : ℕ → ℕ → ℕ → ℕ → Type 0
Falls N x y f = ((y ≤ x) × (y + f ≡ x)) ⊎ ((x < y) × (y + f ≡ x + N))

-- the two ways between x and y: they make a round, or the ids are one
abbrev pub Rounds : ℕ → ℕ → ℕ → Type 0
Rounds N x y = ((x ≡ y) × (fall_of N x y ≡ 0) × (fall_of N y x ≡ 0)) ⊎ (fall_of N x y + fall_of N y x ≡ N)

module _ (N : ℕ) where
  pub fall-lt : (x y : ℕ) → x < N → fall_of N x y < N
  unfolding fall_of
  fall-lt x y hx = mod-lt _ (omega arith)

  -- rising by the fall, and by nothing else, leads from y to x
  pub fall-rise : (x y : ℕ) → x < N → y < N → (y + fall_of N x y) % N ≡ x
  unfolding fall_of
  fall-rise x y hx hy = rw add-mod-mod (ap (λ (n : ℕ). n % N) (omega arith) ∙ add-mod_right x N ∙ mod-eq_of_lt hx)

  pub fall-only : (x y f : ℕ) → f < N → y < N → (y + f) % N ≡ x → fall_of N x y ≡ f
  unfolding fall_of
  fall-only x y f hf hy p = rw (← p, mod-add-mod) (ap (λ (n : ℕ). n % N) (omega arith) ∙ add-mod_right f N ∙ mod-eq_of_lt hf)

  pub fall-self : (i : ℕ) → i < N → fall_of N i i ≡ 0
  fall-self i hi = fall-only i i 0 (omega arith) hi (rw add-zero (mod-eq_of_lt hi))

  pub fall-inj-left : (i x y : ℕ) → i < N → x < N → y < N → fall_of N x i ≡ fall_of N y i → x ≡ y
  fall-inj-left i x y hi hx hy e = cc (fall-rise x i hx hi, fall-rise y i hy hi)

  -- falling twice from i comes back
  fall-back : (i x : ℕ) → i < N → x < N → fall_of N i (fall_of N i x) ≡ x
  fall-back i x hi hx = fall-only i (fall_of N i x) x hx (fall-lt i x hi) (rw add_comm (fall-rise i x hi hx))

  pub fall-inj-right : (i x y : ℕ) → i < N → x < N → y < N → fall_of N i x ≡ fall_of N i y → x ≡ y
  fall-inj-right i x y hi hx hy e = cc (fall-back i x hi hx, fall-back i y hi hy)

  -- ways add up
  pub fall-sum : (x y z : ℕ) → x < N → y < N → z < N → fall_of N x z ≡ (fall_of N x y + fall_of N y z) % N
  fall-sum x y z hx hy hz =
      let e : z + (fall_of N x y + fall_of N y z) ≡ z + fall_of N y z + fall_of N x y = omega arith in
      fall-only x z _ (mod-lt _ (omega arith)) hz (rw (add-mod-mod, e, ← mod-add-mod, fall-rise y z hy hz) (fall-rise x y hx hy))

  -- ids seen from i: the way up from i to x stands for x
  pub fall-shift : (i x y : ℕ) → i < N → x < N → y < N → fall_of N x y ≡ fall_of N (fall_of N x i) (fall_of N y i)
  fall-shift i x y hi hx hy =
      sym (fall-only _ _ _ (fall-lt x y hx) (fall-lt y i hy) (rw add_comm (sym (fall-sum x y i hx hy hi))))

  pub fall-above : (i x t : ℕ) → i < N → x < N → fall_of N ((x + t) % N) i ≡ (fall_of N x i + t) % N
  fall-above i x t hi hx =
      fall-only _ i _ (mod-lt _ (omega arith)) hi
      (rw (add-mod-mod, ← add_assoc, ← mod-add-mod (i + fall_of N x i) N t, fall-rise x i hx hi))

  pub falls : (x y : ℕ) → x < N → y < N → Falls N x y (fall_of N x y)
  falls x y hx hy = go (rw (fall-rise x y hx hy) at (wraps N (y + fall_of N x y) (omega (arith, fall-lt x y hx))))
    where
      go : Wraps N (y + fall_of N x y) x → Falls N x y (fall_of N x y)
      go (inl p) = inl (omega arith)
      go (inr p) = inr (omega (arith, fall-lt x y hx))

  pub rounds : (x y : ℕ) → x < N → y < N → Rounds N x y
  rounds x y hx hy = go (falls x y hx hy) (falls y x hy hx)
    where
      go : Falls N x y (fall_of N x y) → Falls N y x (fall_of N y x) → Rounds N x y
      go (inl p) (inl q) = inl (omega arith)
      go (inl p) (inr q) = inr (omega arith)
      go (inr p) (inl q) = inr (omega arith)
      go (inr p) (inr q) = absurd (omega arith)

  pub rounds-apart : (x y : ℕ) → x < N → y < N → (x ≡ y → ⊥) → fall_of N x y + fall_of N y x ≡ N
  rounds-apart x y hx hy d = ⊎_elim (λ p. absurd (d p.0)) (λ p. p) (rounds x y hx hy)

  pub fall-pos : (x y : ℕ) → x < N → y < N → (x ≡ y → ⊥) → 0 < fall_of N x y
  fall-pos x y hx hy d = omega (arith, rounds-apart x y hx hy d, fall-lt y x hy)

-- ---- the size of the signed distance

-- N is even, and not 0
pub record Ring (N : ℕ) : Type 0 where
  pub half : ℕ
  pub twice : N ≡ suc half + suc half

-- every ring of 01
pub ring-at : (m : ℕ) → 1 ≤ m → Ring (2 ^ m)
ring-at zero h = absurd (omega arith)
ring-at (suc m) h = record { half = pred (2 ^ m); twice = omega (arith, pow_pos m) }

module _ (N : ℕ) (R : Ring N) where
  half_is : N / 2 ≡ suc R.half
  half_is = omega arith

  suc-is : N ≡ suc (R.half + suc R.half)
  suc-is = omega arith

  -- a difference d upwards, and one of suc d downwards
  size-up : (d : ℕ) → d < N → nat_abs (wrapped N (pos d)) ≡ min d (N - d)
  size-up d hd =
      let H = suc R.half in
      rw (half_is, suc-is)
      (⊎_elim (λ p. rw (le-ltb H d p) (omega arith))
      (λ p. rw (lt-ltb H d p, lt-ltb d (suc (R.half + H)) (omega (arith, suc-is))) (omega arith)) (le-or-lt d H))

  size-down : (d : ℕ) → suc d < N → nat_abs (wrapped N (negsuc d)) ≡ min (suc d) (N - suc d)
  size-down d hd =
      rw half_is
      (⊎_elim (λ p. rw (le-ltb R.half d p) (omega (arith, suc-is)))
      (λ p. rw (lt-ltb R.half d p, le-ltb N (suc d) (omega arith)) (omega (arith, suc-is))) (le-or-lt d R.half))

  -- AbsDist is the shorter way round
  pub abs_dist-is : (x y : ℕ) → x < N → y < N → abs_dist_of N x y ≡ min (fall_of N x y) (fall_of N y x)
  unfolding abs_dist_of signed_of
  abs_dist-is x y hx hy = go (falls N x y hx hy) (falls N y x hy hx)
    where
      go : Falls N x y (fall_of N x y) → Falls N y x (fall_of N y x) → nat_abs (wrapped N (sub_ℕ x y)) ≡ min (fall_of N x y) (fall_of N y x)
      go (inl p) (inl q) = rw (le-ltb x y p.0) (size-up (x - y) (omega arith) ∙ omega arith)
      go (inl p) (inr q) = rw (le-ltb x y p.0) (size-up (x - y) (omega arith) ∙ omega arith)
      go (inr p) (inl q) = rw (lt-ltb x y p.0) (size-down (y - suc x) (omega arith) ∙ omega arith)
      go (inr p) (inr q) = absurd (omega arith)
