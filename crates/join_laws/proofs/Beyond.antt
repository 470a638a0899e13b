-- Three laws of the ring. Beyond: an id that is reached on the way to another is no farther from it. Beside: a key that a node covers
-- stands between that node and one of its neighbours, so that of these two one is the first above the key and the other the first below
-- it, among all ids that the neighbours are as close as. Seen from the covering node, ids are the ways to it, and falls are differences.
-- Assumes nothing.
use mathlib.Core.Path.{◌≡◌, sym, ◌∙◌}
use mathlib.Core.Logic.{◌⊎◌, inl, inr, ⊎_elim}
use mathlib.Core.Bool.{true}
use Prim.Native.Nat.{ℕ, ◌+◌, ◌<◌, ◌≤◌}
use native.Mathlib.Omega.{arith}
use lib.Dec.{leb, ltb}
use borrow.Author.Tests.{leb-true, ltb-true}
use Rattle.ring.specs.Distance.{fall_of, covers_key}
use Rattle.ring.proofs.Falls.{Ring, Falls, falls, fall-lt, fall-pos, fall-shift, rounds-apart}
use Rattle.ring.proofs.Cover.{covers-closed}
use Rattle.marks.proofs.Bools.{or_cases}

-- ---- beyond

module _ (N a b c : ℕ) (ha : a < N) (hb : b < N) (hc : c < N) where
  -- b is on the way down from a to c
  pub beyond-up : fall_of N a b ≤ fall_of N a c → fall_of N b c ≤ fall_of N a c
  beyond-up h = go (fall_of N a b) (fall_of N a c) (fall_of N b c) h (falls N a b ha hb) (falls N a c ha hc) (falls N b c hb hc)
    where
      go : (x y z : ℕ) → x ≤ y → Falls N a b x → Falls N a c y → Falls N b c z → z ≤ y
      go x y z l (inl p) (inl q) (inl r) = omega arith
      go x y z l (inl p) (inl q) (inr r) = omega arith
      go x y z l (inl p) (inr q) (inl r) = omega arith
      go x y z l (inl p) (inr q) (inr r) = omega arith
      go x y z l (inr p) (inl q) (inl r) = omega arith
      go x y z l (inr p) (inl q) (inr r) = omega arith
      go x y z l (inr p) (inr q) (inl r) = omega arith
      go x y z l (inr p) (inr q) (inr r) = omega arith

  -- b is on the way up from a to c
  pub beyond-down : fall_of N b a ≤ fall_of N c a → fall_of N c b ≤ fall_of N c a
  beyond-down h = go (fall_of N b a) (fall_of N c a) (fall_of N c b) h (falls N b a hb ha) (falls N c a hc ha) (falls N c b hc hb)
    where
      go : (x y z : ℕ) → x ≤ y → Falls N b a x → Falls N c a y → Falls N c b z → z ≤ y
      go x y z l (inl p) (inl q) (inl r) = omega arith
      go x y z l (inl p) (inl q) (inr r) = omega arith
      go x y z l (inl p) (inr q) (inl r) = omega arith
      go x y z l (inl p) (inr q) (inr r) = omega arith
      go x y z l (inr p) (inl q) (inl r) = omega arith
      go x y z l (inr p) (inl q) (inr r) = omega arith
      go x y z l (inr p) (inr q) (inl r) = omega arith
      go x y z l (inr p) (inr q) (inr r) = omega arith

-- ---- beside

-- falls between ways, which are numbers below N
fall-straight : (N x y : ℕ) → x < N → y ≤ x → fall_of N x y + y ≡ x
fall-straight N x y hx h = ⊎_elim (λ p. omega arith) (λ p. absurd (omega arith)) (falls N x y hx (omega arith))

fall-round : (N x y : ℕ) → y < N → x < y → fall_of N x y + y ≡ x + N
fall-round N x y hy h = ⊎_elim (λ p. absurd (omega arith)) (λ p. omega arith) (falls N x y (omega arith) hy)

-- the first above the key and the first below it
abbrev pub First : ℕ → ℕ → ℕ → ℕ → ℕ → Type 0
First N k e a b = (fall_of N a k ≤ fall_of N e k) × (fall_of N k b ≤ fall_of N k e)

module _ (N : ℕ) (R : Ring N) (c l r k e : ℕ) (hc : c < N) (hl : l < N) (hr : r < N) (hk : k < N) (he : e < N) where
  seen : (x y : ℕ) → x < N → y < N → fall_of N x y ≡ fall_of N (fall_of N x c) (fall_of N y c)
  seen x y hx hy = fall-shift N c x y hc hx hy

  module _ (dk : k ≡ c → ⊥) (de : e ≡ c → ⊥) where
    -- the key is above c
    upper : fall_of N k c + fall_of N k c ≤ fall_of N l c → fall_of N l c ≤ fall_of N e c → First N k e l c
    upper h a =
        let pos = fall-pos N k c hk hc dk in
        let ll = fall-lt N l c hl in
        let ee = fall-lt N e c he in
        let kk = fall-lt N k c hk in (
          rw (seen l k hl hk, seen e k he hk)
              (omega (
                arith,
                fall-straight N (fall_of N l c) (fall_of N k c) ll (omega arith),
                fall-straight N (fall_of N e c) (fall_of N k c) ee (omega arith),
              )),
          rw (seen k e hk he) (omega (arith, fall-round N (fall_of N k c) (fall_of N e c) ee (omega arith))),
        )

    -- the key is below c
    lower : (r ≡ c → ⊥) → fall_of N c k + fall_of N c k < fall_of N c r → fall_of N c r ≤ fall_of N c e → First N k e c r
    lower dr h a =
        let k-round = rounds-apart N k c hk hc dk in
        let e-round = rounds-apart N e c he hc de in
        let r-round = rounds-apart N r c hr hc dr in
        let k-pos = fall-pos N c k hc hk (λ q. dk (sym q)) in
        let ee = fall-lt N e c he in
        let kk = fall-lt N k c hk in
        let rr = fall-lt N r c hr in (
          rw (seen e k he hk) (omega (arith, fall-round N (fall_of N e c) (fall_of N k c) kk (omega arith))),
          rw (seen k r hk hr, seen k e hk he)
              (omega (
                arith,
                fall-straight N (fall_of N k c) (fall_of N r c) kk (omega arith),
                fall-straight N (fall_of N k c) (fall_of N e c) kk (omega arith),
              )),
        )

    pub covered-beside : (r ≡ c → ⊥) → covers_key N c l r k ≡ true → fall_of N l c ≤ fall_of N e c → fall_of N c r ≤ fall_of N c e
        → First N k e l c ⊎ First N k e c r
    covered-beside dr cov a b =
        let pos = fall-pos N c r hc hr (λ q. dr (sym q)) in
        ⊎_elim (λ t. inl (upper (leb-true _ _ t) a)) (λ t. inr (lower dr (ltb-true _ _ t) b))
        (or_cases (leb (fall_of N k c + fall_of N k c) (fall_of N l c)) (ltb (fall_of N c k + fall_of N c k) (fall_of N c r))
        (sym (covers-closed N R c k hc hk l r hl hr pos) ∙ cov))
