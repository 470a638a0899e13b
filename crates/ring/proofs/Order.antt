-- Nearer to a key. The idea: it is the order of a number, the rank: twice the distance, and one more where k is not reached by rising
-- (`nearer-rank`). The rank is a plain function of one fall (`rank_is`), and no two ids have the same; so nearer is a strict total
-- order, and of two ids at one distance the one below the key comes first (`tie-below`). Assumes nothing.
use mathlib.Core.Path.{◌≡◌, refl, sym, ◌∙◌, ap}
use mathlib.Core.Logic.{◌⊎◌, inl, inr, ⊎_elim}
use mathlib.Core.Bool.{Bool, true, false, cond, ◌&&◌, ◌||◌, not}
use Prim.Native.Nat.{ℕ, ◌+◌, ◌-◌, ◌*◌, ◌%◌, ◌<◌, ◌≤◌, min}
use native.Mathlib.Omega.{arith}
use lib.Dec.{leb, ltb, eqb}
use borrow.Author.Tests.{lt-ltb, le-ltb, le-leb, lt-leb, eq-eqb, ne_eqb, ltb-true, eqb-true}
use Rattle.ring.specs.Distance.{fall_of, abs_dist_of, rises_to, nearer}
use Rattle.ring.proofs.Falls.{Ring, le-or-lt, fall-lt, fall-rise, fall-only, fall-inj-right, rounds, abs_dist-is}
use Rattle.ring.specs.InnerRank.{rank}

-- two tests of one meaning
pub same_test : (p q : Bool) → (p ≡ true → q ≡ true) → (q ≡ true → p ≡ true) → p ≡ q
same_test true true f g = refl
same_test true false f g = sym (f refl)
same_test false true f g = g refl
same_test false false f g = refl

-- ---- the order of 01 is the order of ranks

-- on plain distances d and e, with r and s for rising
ranked : (d e : ℕ) (r s : Bool) → ltb (2 * d + cond r 0 1) (2 * e + cond s 0 1) ≡ (ltb d e || (eqb d e && (r && not s)))
ranked d e r s = go (le-or-lt d e) (le-or-lt e d)
  where
    small : (b : Bool) → cond {A = ℕ} b 0 1 ≤ 1
    small true = omega arith
    small false = omega arith

    tied : d ≡ e → (r s : Bool) → ltb (2 * d + cond r 0 1) (2 * e + cond s 0 1) ≡ (r && not s)
    tied h true true = omega (arith, le-ltb)
    tied h true false = omega (arith, lt-ltb)
    tied h false true = omega (arith, le-ltb)
    tied h false false = omega (arith, le-ltb)

    go : (d ≤ e) ⊎ (e < d) → (e ≤ d) ⊎ (d < e) → ltb (2 * d + cond r 0 1) (2 * e + cond s 0 1) ≡ (ltb d e || (eqb d e && (r && not s)))
    go (inl p) (inl q) = rw (le-ltb d e q, eq-eqb d e (omega arith)) (tied (omega arith) r s)
    go (inl p) (inr q) = rw (lt-ltb d e q) (omega (arith, lt-ltb, small r))
    go (inr p) (inl q) = rw (le-ltb d e q, ne_eqb d e (omega arith)) (omega (arith, le-ltb, small s))
    go (inr p) (inr q) = absurd (omega arith)

pub nearer-rank : (N k a b : ℕ) → nearer N k a b ≡ ltb (rank N k a) (rank N k b)
unfolding nearer rank
nearer-rank N k a b = sym (ranked (abs_dist_of N k a) (abs_dist_of N k b) (rises_to N k a) (rises_to N k b))

pub nearer-transitive : (N k a b c : ℕ) → nearer N k a b ≡ true → nearer N k b c ≡ true → nearer N k a c ≡ true
nearer-transitive N k a b c p q = rw nearer-rank (omega (arith, lt-ltb, ltb-true, rw nearer-rank at p, rw nearer-rank at q))

pub nearer-irreflexive : (N k a : ℕ) → nearer N k a a ≡ true → ⊥
nearer-irreflexive N k a p = omega (arith, ltb-true, rw nearer-rank at p)

-- ---- the rank, by one fall

-- the rank of an id, f being the way up from it to the key
abbrev pub rank_at : ℕ → ℕ → ℕ
rank_at N f = min (2 * f) (2 * (N - f) + 1)

module _ (N : ℕ) (R : Ring N) where
  module _ (k a : ℕ) (hk : k < N) (ha : a < N) where
    -- what a program computes: rising is the shorter way, or as short
    pub rises-is : rises_to N k a ≡ leb (fall_of N k a) (fall_of N a k)
    unfolding rises_to
    rises-is =
        let f = fall_of N k a in
        let g = fall_of N a k in
        rw (abs_dist-is N R k a hk ha)
        (⊎_elim (λ p. rw (le-leb f g p) (omega (arith, eq-eqb))) (λ p. rw (lt-leb f g p) (omega (arith, ne_eqb))) (le-or-lt f g))

    -- which is so exactly where a stands its distance below k
    pub rises-below : rises_to N k a ≡ eqb ((a + abs_dist_of N k a) % N) k
    unfolding rises_to
    rises-below =
        let small : abs_dist_of N k a < N = omega (arith, abs_dist-is N R k a hk ha, fall-lt N k a hk) in
        same_test _ _ (λ e. eq-eqb _ _ (rw (eqb-true (fall_of N k a) (abs_dist_of N k a) e) at (fall-rise N k a hk ha)))
        (λ e. eq-eqb _ _ (fall-only N k a (abs_dist_of N k a) small ha (eqb-true _ k e)))

    pub rank-rising : fall_of N k a ≤ fall_of N a k → rank N k a ≡ 2 * fall_of N k a
    unfolding rank
    rank-rising h = rw (rises-is, le-leb _ _ h, abs_dist-is N R k a hk ha) (omega arith)

    pub rank-falling : fall_of N a k < fall_of N k a → rank N k a ≡ 2 * fall_of N a k + 1
    unfolding rank
    rank-falling h = rw (rises-is, lt-leb _ _ h, abs_dist-is N R k a hk ha) (omega arith)

    pub rank_is : rank N k a ≡ rank_at N (fall_of N k a)
    rank_is =
        ⊎_elim (λ p. omega (arith, rank-rising (omega arith)))
        (λ p. ⊎_elim (λ q. omega (arith, rank-rising q)) (λ q. omega (arith, rank-falling q)) (le-or-lt (fall_of N k a) (fall_of N a k)))
        (rounds N k a hk ha)

  -- two ids of one rank are one
  pub rank-inj : (k a b : ℕ) → k < N → a < N → b < N → rank N k a ≡ rank N k b → a ≡ b
  rank-inj k a b hk ha hb e =
      fall-inj-right N k a b hk ha hb (omega (arith, rank_is k a hk ha, rank_is k b hk hb, fall-lt N k a hk, fall-lt N k b hk))

  module _ (k a b : ℕ) (hk : k < N) (ha : a < N) (hb : b < N) (apart : a ≡ b → ⊥) where
    differ : rank N k a ≡ rank N k b → ⊥
    differ e = apart (rank-inj k a b hk ha hb e)

    pub nearer-flip : nearer N k b a ≡ not (nearer N k a b)
    nearer-flip =
        rw (nearer-rank N k a b, nearer-rank N k b a)
        (⊎_elim (λ p. rw (lt-ltb (rank N k a) (rank N k b) (omega (arith, differ))) (omega (arith, le-ltb)))
        (λ p. rw (le-ltb (rank N k a) (rank N k b) (omega arith)) (omega (arith, lt-ltb))) (le-or-lt (rank N k a) (rank N k b)))

    pub nearer-total : (nearer N k a b ≡ true) ⊎ (nearer N k b a ≡ true)
    nearer-total = go (nearer N k a b) refl
      where
        go : (t : Bool) → nearer N k a b ≡ t → (nearer N k a b ≡ true) ⊎ (nearer N k b a ≡ true)
        go true e = inl e
        go false e = inr (nearer-flip ∙ ap not e)

    -- at one distance, one of the two is reached by rising, and that one is nearer: the one that stands its distance below k
    module _ (tie : abs_dist_of N k a ≡ abs_dist_of N k b) where
      pub tie-one : rises_to N k b ≡ not (rises_to N k a)
      unfolding rank
      tie-one = go (rises_to N k a) (rises_to N k b) (rw tie at differ)
        where
          go : (r s : Bool) → (2 * abs_dist_of N k b + cond r 0 1 ≡ 2 * abs_dist_of N k b + cond s 0 1 → ⊥) → s ≡ not r
          go true true h = absurd (h refl)
          go true false h = refl
          go false true h = refl
          go false false h = absurd (h refl)

      pub tie-rises : nearer N k a b ≡ rises_to N k a
      unfolding rank
      tie-rises = rw (nearer-rank, tie, tie-one) (go (rises_to N k a))
        where
          go : (r : Bool) → ltb (2 * abs_dist_of N k b + cond r 0 1) (2 * abs_dist_of N k b + cond (not r) 0 1) ≡ r
          go true = omega (arith, lt-ltb)
          go false = omega (arith, le-ltb)

      pub tie-below : nearer N k a b ≡ eqb ((a + abs_dist_of N k a) % N) k
      tie-below = tie-rises ∙ rises-below k a hk ha
