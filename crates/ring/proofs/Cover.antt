-- What a node covers. With d = Fall(l, i), e = Fall(i, r), t = Fall(k, i), s = Fall(i, k): node i with neighbours l and r covers k
-- exactly if 2t ≤ d or 2s < e (`covers-closed`). Of any j other than i, i is nearer to k exactly if 2t ≤ Fall(j, i), for a k at most
-- half a round above i (`half_up`), or 2s < Fall(i, j), for a k at most half a round below (`half_down`). The rest follows from these
-- three. Assumes nothing.
use mathlib.Core.Path.{◌≡◌, refl, sym, ◌∙◌, ap}
use mathlib.Core.Logic.{◌⊎◌, inl, inr, ⊎_elim}
use mathlib.Core.Bool.{true, false, ◌||◌}
use Prim.Native.Nat.{ℕ, ◌+◌, ◌-◌, ◌/◌, ◌%◌, ◌<◌, ◌≤◌}
use mathlib.Mathlib.Data.Bool.Basic.{or-eq-false-eq-eq-false-and-eq-false}
use native.Mathlib.Nat.{add-zero, mod-add-mod, add-mod_right, mod-eq_of_lt, mod-lt}
use native.Mathlib.Omega.{arith}
use lib.Dec.{leb, ltb}
use borrow.Author.Tests.{lt-ltb, le-leb, lt-leb, ltb-true, leb-true, not-false}
use Rattle.ring.specs.Distance.{fall_of, nearer, left_cover_of, right_cover_of, covers_key}
use Rattle.ring.proofs.Falls.{Ring, Wraps, wraps, Rounds, rounds, rounds-apart, le-or-lt}
use Rattle.ring.proofs.Falls.{fall-lt, fall-rise, fall-only, fall-sum, fall-self, fall-pos}
use Rattle.ring.proofs.Order.{same_test, rank_at, rank_is, nearer-rank, nearer-flip}

-- ---- on plain numbers

-- For a key t above an id i, and another id, g above and h below i: f is the way up from that id to the key.
up_first : (N t g h f : ℕ) → Wraps N (t + h) f → g + h ≡ N → g < N → h < N → t + t ≤ N → ltb (rank_at N t) (rank_at N f) ≡ leb (t + t) g
up_first N t g h f (inl p) a b c u = same_test _ _ (omega (arith, ltb-true, le-leb)) (omega (arith, leb-true, lt-ltb))
up_first N t g h f (inr p) a b c u = same_test _ _ (omega (arith, ltb-true, le-leb)) (omega (arith, leb-true, lt-ltb))

down-first : (N t s h f : ℕ) → Wraps N (t + h) f → 0 < h → h < N → t + s ≡ N → 1 ≤ s → s + s ≤ N
    → ltb (rank_at N t) (rank_at N f) ≡ ltb (s + s) h
down-first N t s h f (inl p) a b c o u = same_test _ _ (omega (arith, ltb-true, lt-ltb)) (omega (arith, ltb-true, lt-ltb))
down-first N t s h f (inr p) a b c o u = same_test _ _ (omega (arith, ltb-true, lt-ltb)) (omega (arith, ltb-true, lt-ltb))

-- For the arc from (e - 1) div 2 below i to d div 2 above i, and a key t above and s below i: m is the way up from the key to its end.
arc-holds : (N d e t s m : ℕ) → Wraps N (d / 2 + s) m → ((t ≡ 0) × (s ≡ 0)) ⊎ (t + s ≡ N) → d < N → 0 < e
    → leb m (d / 2 + (e - 1) / 2) ≡ (leb (t + t) d || ltb (s + s) e)
arc-holds N d e t s m (inl p) (inl q) a b = rw (le-leb (t + t) d (omega arith)) (omega (arith, le-leb))
arc-holds N d e t s m (inl p) (inr q) a b =
    rw (lt-leb (t + t) d (omega arith)) (same_test _ _ (omega (arith, leb-true, lt-ltb)) (omega (arith, ltb-true, le-leb)))
arc-holds N d e t s m (inr p) (inl q) a b = absurd (omega arith)
arc-holds N d e t s m (inr p) (inr q) a b = rw (le-leb (t + t) d (omega arith)) (omega (arith, le-leb))

-- ---- on the ring

module _ (N : ℕ) (R : Ring N) (i k : ℕ) (hi : i < N) (hk : k < N) where
  key-round : 0 < fall_of N i k → fall_of N k i + fall_of N i k ≡ N
  key-round o = ⊎_elim (λ q. absurd (omega arith)) (λ q. q) (rounds N k i hk hi)

  -- a key within half a round of i
  module _ (j : ℕ) (hj : j < N) (apart : j ≡ i → ⊥) where
    to_j : Wraps N (fall_of N k i + fall_of N i j) (fall_of N k j)
    to_j = rw (← fall-sum N k i j hk hi hj) at (wraps N (fall_of N k i + fall_of N i j) (omega (arith, fall-lt N k i hk, fall-lt N i j hi)))

    pub half_up : fall_of N k i + fall_of N k i ≤ N → nearer N k i j ≡ leb (fall_of N k i + fall_of N k i) (fall_of N j i)
    half_up u =
        rw (nearer-rank, rank_is N R k i hk hi, rank_is N R k j hk hj)
        (up_first N _ _ _ _ to_j (rounds-apart N j i hj hi apart) (fall-lt N j i hj) (fall-lt N i j hi) u)

    pub half_down : 1 ≤ fall_of N i k → fall_of N i k + fall_of N i k ≤ N → nearer N k i j ≡ ltb (fall_of N i k + fall_of N i k) (fall_of N i j)
    half_down o u =
        rw (nearer-rank, rank_is N R k i hk hi, rank_is N R k j hk hj)
        (down-first N _ _ _ _ to_j (fall-pos N i j hi hj (λ e. apart (sym e))) (fall-lt N i j hi) (key-round o) o u)

  module _ (l r : ℕ) (hl : l < N) (hr : r < N) where
    -- the two ends of the arc, seen from i
    left_end : fall_of N (left_cover_of N i l) i ≡ fall_of N l i / 2
    unfolding left_cover_of
    left_end = fall-only N _ i (fall_of N l i / 2) (omega (arith, fall-lt N l i hl)) hi refl

    right_end : 0 < fall_of N i r → fall_of N i (right_cover_of N i r) ≡ (fall_of N i r - 1) / 2
    unfolding right_cover_of
    right_end h =
        fall-only N i _ _ (omega (arith, fall-lt N i r hi)) (mod-lt _ (omega arith))
        (rw mod-add-mod (ap (λ (n : ℕ). n % N) (omega arith) ∙ fall-rise N i r hi hr))

    left_in : left_cover_of N i l < N
    unfolding left_cover_of
    left_in = mod-lt _ (omega arith)

    right-in : right_cover_of N i r < N
    unfolding right_cover_of
    right-in = mod-lt _ (omega arith)

    pub covers-closed : 0 < fall_of N i r
        → covers_key N i l r k ≡ (leb (fall_of N k i + fall_of N k i) (fall_of N l i) || ltb (fall_of N i k + fall_of N i k) (fall_of N i r))
    unfolding covers_key
    covers-closed h =
        let d = fall_of N l i in
        let e = fall_of N i r in
        let fits : d / 2 + (e - 1) / 2 < N = omega (arith, fall-lt N l i hl, fall-lt N i r hi) in
        let ends = wraps N (d / 2 + fall_of N i k) (omega (arith, fall-lt N l i hl, fall-lt N i k hi)) in
        rw (
          fall-sum N (left_cover_of N i l) i k left_in hi hk,
          fall-sum N (left_cover_of N i l) i (right_cover_of N i r) left_in hi right-in,
          left_end,
          right_end h,
          mod-eq_of_lt fits,
        )
        (arc-holds N d e _ _ _ ends (⊎_elim (λ q. inl (q.1, q.2)) inr (rounds N k i hk hi)) (fall-lt N l i hl) h)

    right-pos : (r ≡ i → ⊥) → 0 < fall_of N i r
    right-pos dr = fall-pos N i r hi hr (λ e. dr (sym e))

    -- what is covered is nearer to i than to any j that stands no closer than both neighbours
    pub covered-nearer : (r ≡ i → ⊥) → covers_key N i l r k ≡ true
        → (j : ℕ) → j < N → (j ≡ i → ⊥) → fall_of N l i ≤ fall_of N j i → fall_of N i r ≤ fall_of N i j → nearer N k i j ≡ true
    covered-nearer dr c j hj apart a b = go (le-or-lt (fall_of N k i + fall_of N k i) (fall_of N l i)) (rounds N k i hk hi)
      where
        go : (fall_of N k i + fall_of N k i ≤ fall_of N l i) ⊎ (fall_of N l i < fall_of N k i + fall_of N k i)
            → Rounds N k i → nearer N k i j ≡ true
        go (inl p) q = rw (half_up j hj apart (omega (arith, fall-lt N l i hl))) (omega (arith, le-leb))
        go (inr p) (inl q) = absurd (omega arith)
        go (inr p) (inr q) =
            let w = ltb-true (fall_of N i k + fall_of N i k) (fall_of N i r) (rw (covers-closed (right-pos dr), lt-leb _ _ p) at c) in
            rw (half_down j hj apart (omega (arith, fall-lt N k i hk)) (omega (arith, fall-lt N i r hi))) (omega (arith, lt-ltb))

    -- the neighbour lemma: what is not covered is nearer to a neighbour
    pub uncovered-nearer : (l ≡ i → ⊥) → (r ≡ i → ⊥) → covers_key N i l r k ≡ false → (nearer N k l i ≡ true) ⊎ (nearer N k r i ≡ true)
    uncovered-nearer dl dr c = go (le-or-lt (fall_of N k i + fall_of N k i) N) (rounds N k i hk hi)
      where
        outside : (leb (fall_of N k i + fall_of N k i) (fall_of N l i) ≡ false) × (ltb (fall_of N i k + fall_of N i k) (fall_of N i r) ≡ false)
        outside = (or-eq-false-eq-eq-false-and-eq-false _ _).0 (rw (covers-closed (right-pos dr)) at c)

        go : (fall_of N k i + fall_of N k i ≤ N) ⊎ (N < fall_of N k i + fall_of N k i)
            → Rounds N k i → (nearer N k l i ≡ true) ⊎ (nearer N k r i ≡ true)
        go (inl p) q = inl (not-false _ (sym (nearer-flip N R k l i hk hl hi dl) ∙ half_up l hl dl p ∙ outside.0))
        go (inr p) (inl q) = absurd (omega arith)
        go (inr p) (inr q) =
            let s-pos : 1 ≤ fall_of N i k = omega (arith, fall-lt N k i hk) in
            inr (not-false _ (sym (nearer-flip N R k r i hk hr hi dr) ∙ half_down r hr dr s-pos (omega arith) ∙ outside.1))

-- a lone node covers every key
pub lone-covers : (N i k : ℕ) → i < N → k < N → covers_key N i i i k ≡ true
unfolding covers_key left_cover_of right_cover_of
lone-covers N i k hi hk =
    let e : (i + 1 + (N - 1)) % N ≡ i = ap (λ (n : ℕ). n % N) (omega arith) ∙ add-mod_right i N ∙ mod-eq_of_lt hi in
    let w : fall_of N i ((i + 1) % N) ≡ N - 1 = fall-only N i _ _ (omega arith) (mod-lt _ (omega arith)) (rw mod-add-mod e) in
    rw (fall-self N i hi, add-zero, mod-eq_of_lt hi, w) (omega (arith, le-leb, fall-lt N i k hi))
