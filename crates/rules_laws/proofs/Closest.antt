-- The at most l nearest slots that pass. The idea: a slot is selected if fewer than l passing slots are nearer, so every law compares two
-- counts of slots; a bound on the size takes the selected slot of greatest distance, and what is left out takes the passing slot of least
-- distance that is not selected (`Most`). Ties are no matter but for the size. Assumes nothing.
use mathlib.Core.Path.{◌≡◌, refl, sym, ◌∙◌, ap}
use mathlib.Core.Logic.{◌⊎◌, inl, inr, ⊎_elim}
use mathlib.Core.Bool.{Bool, true, false, ◌&&◌, ◌||◌, not}
use Prim.Native.Nat.{ℕ, zero, suc, ◌^◌, ◌<◌, ◌≤◌}
use native.Mathlib.Nat.{le_trans, lt_of_lt_of_le, eq-or-lt_of_le, le_of_suc-le-suc}
use native.Mathlib.Omega.{arith}
use borrow.Author.Tests.{lt-ltb, le-ltb, ltb-true, eq-eqb, not-true}
use lib.Dec.{ltb, eqb}
use lib.Pow.{pow_mono}
use Rattle.ring.proofs.Falls.{le-or-lt}
use Rattle.marks.proofs.Bools.{opposed, bool_cases, bool_same, bool-true, and_left, and_right, and_both, or_left, or_right}
use Rattle.marks.proofs.Bools.{false-not, lt-or-le}
use Rattle.marks.specs.Marks.{has, tally, size_of, listed}
use Rattle.marks.proofs.Laws.{ext, has-gather, gather-high, gather-same, gather-below, listed-gather, size-gather}
use Rattle.marks.proofs.Laws.{tally-same, tally-mono, tally-none, tally-strict, tally-or-one}
use Rattle.rules.specs.Closest.{closest, nearer_than}

-- ---- the members

module _ (f : ℕ → ℕ) (n l : ℕ) (ok : ℕ → Bool) where
  pub has-closest : (s : ℕ) → s < n → has (closest f n l ok) s ≡ (ok s && ltb (nearer_than f n ok s) l)
  unfolding closest
  has-closest s h = has-gather n (λ t. ok t && ltb (nearer_than f n ok t) l) s h

  pub closest-listed : listed n (closest f n l ok) ≡ true
  unfolding closest
  closest-listed = listed-gather n (λ t. ok t && ltb (nearer_than f n ok t) l)

  pub closest-below : closest f n l ok < 2 ^ n
  unfolding closest
  closest-below = gather-below n (λ t. ok t && ltb (nearer_than f n ok t) l)

  pub closest-below-64 : n ≤ 64 → closest f n l ok < 2 ^ 64
  closest-below-64 h = lt_of_lt_of_le closest-below (pow_mono h)

  -- a selected slot is below n, passes, and fewer than l are nearer; and such a slot is selected
  pub closest-in : (s : ℕ) → has (closest f n l ok) s ≡ true → s < n
  unfolding closest
  closest-in s p =
      ⊎_elim (λ h. h) (λ h. absurd (opposed p (gather-high n (λ t. ok t && ltb (nearer_than f n ok t) l) s h))) (lt-or-le s n)

  pub closest-passes : (s : ℕ) → has (closest f n l ok) s ≡ true → ok s ≡ true
  closest-passes s p = and_left (ok s) (ltb (nearer_than f n ok s) l) (sym (has-closest s (closest-in s p)) ∙ p)

  pub closest-few : (s : ℕ) → has (closest f n l ok) s ≡ true → nearer_than f n ok s < l
  closest-few s p =
      ltb-true (nearer_than f n ok s) l (and_right (ok s) (ltb (nearer_than f n ok s) l) (sym (has-closest s (closest-in s p)) ∙ p))

  pub closest-has : (s : ℕ) → s < n → ok s ≡ true → nearer_than f n ok s < l → has (closest f n l ok) s ≡ true
  closest-has s h p q = has-closest s h ∙ and_both p (lt-ltb (nearer_than f n ok s) l q)

  -- a passing slot that is not selected has l that are nearer
  pub closest-lacks : (s : ℕ) → s < n → ok s ≡ true → has (closest f n l ok) s ≡ false → l ≤ nearer_than f n ok s
  closest-lacks s h p q =
      ⊎_elim (λ a. absurd (opposed (closest-has s h p a) q)) (λ a. a) (lt-or-le (nearer_than f n ok s) l)

-- ---- what decides it: which slots pass, and the order of their distances

pub closest_same : (f g : ℕ → ℕ) (n l : ℕ) (ok pass : ℕ → Bool) → ((s : ℕ) → s < n → ok s ≡ pass s)
    → ((s t : ℕ) → s < n → t < n → ok s ≡ true → ok t ≡ true → ltb (f t) (f s) ≡ ltb (g t) (g s)) → closest f n l ok ≡ closest g n l pass
unfolding closest
closest_same f g n l ok pass e o = gather-same n _ _ (λ s h. go s h (ok s) refl (pass s) (sym (e s h)))
  where
    each : (s t : ℕ) → s < n → t < n → ok s ≡ true → (b : Bool) → ok t ≡ b → (b && ltb (f t) (f s)) ≡ (b && ltb (g t) (g s))
    each s t h k p true q = o s t h k p q
    each s t h k p false q = refl

    count : (s : ℕ) → s < n → ok s ≡ true → nearer_than f n ok s ≡ nearer_than g n pass s
    count s h p = tally-same n _ _ (λ t k. each s t h k p (ok t) refl ∙ ap (λ (b : Bool). b && ltb (g t) (g s)) (e t k))

    go : (s : ℕ) → s < n → (b : Bool) → ok s ≡ b → (c : Bool) → c ≡ ok s
        → (b && ltb (nearer_than f n ok s) l) ≡ (c && ltb (nearer_than g n pass s) l)
    go s h true p c q = rw (q, p) (ap (λ (m : ℕ). ltb m l) (count s h p))
    go s h false p c q = rw (q, p)

-- ---- the slot of greatest, or of least, distance

-- of the slots below n that pass, h stands in R to each
pub record Most (R : ℕ → ℕ → Type 0) (n : ℕ) (p : ℕ → Bool) (h : ℕ) : Type 0 where
  pub below : h < n
  pub holds : p h ≡ true
  pub tops : (s : ℕ) → s < n → p s ≡ true → R h s

last_or : {s n : ℕ} → s < suc n → (s ≡ n) ⊎ (s < n)
last_or h = eq-or-lt_of_le (le_of_suc-le-suc h)

module _ (R : ℕ → ℕ → Type 0) (total : (a b : ℕ) → R a b ⊎ R b a) (trans : (a b c : ℕ) → R a b → R b c → R a c) where
  most : (n : ℕ) (p : ℕ → Bool) → ((h : ℕ) × Most R n p h) ⊎ ((s : ℕ) → s < n → p s ≡ false)
  most zero p = inr (λ s h. absurd (omega arith))
  most (suc n) p = go (bool_cases (p n)) (most n p)
    where
      last : p n ≡ true → ((s : ℕ) → s < n → p s ≡ true → R n s) → (h : ℕ) × Most R (suc n) p h
      last q rest =
          let self : R n n = ⊎_elim (λ r. r) (λ r. r) (total n n) in
          (n, record { below = omega arith; holds = q; tops = λ s k v. ⊎_elim (λ d. rw d self) (λ a. rest s a v) (last_or k) })

      held : (h : ℕ) → Most R n p h → (p n ≡ true → R h n) → (h : ℕ) × Most R (suc n) p h
      held h m r = (
        h,
        record {
          below = omega (arith, m.below);
          holds = m.holds;
          tops = λ s k v. ⊎_elim (λ d. rw d (r (rw d at v))) (λ a. m.tops s a v) (last_or k);
        },
      )

      go : (p n ≡ true) ⊎ (p n ≡ false) → ((h : ℕ) × Most R n p h) ⊎ ((s : ℕ) → s < n → p s ≡ false)
          → ((h : ℕ) × Most R (suc n) p h) ⊎ ((s : ℕ) → s < suc n → p s ≡ false)
      go (inl q) (inr none) = inl (last q (λ s k v. absurd (opposed v (none s k))))
      go (inl q) (inl (h, m)) =
          inl (⊎_elim (λ r. held h m (λ v. r)) (λ r. last q (λ s k v. trans n h s r (m.tops s k v))) (total h n))
      go (inr q) (inl (h, m)) = inl (held h m (λ v. absurd (opposed v q)))
      go (inr q) (inr none) = inr (λ s k. ⊎_elim (λ d. rw d q) (none s) (last_or k))

le-either : (a b : ℕ) → (a ≤ b) ⊎ (b ≤ a)
le-either a b = ⊎_elim inl (λ h. inr (omega arith)) (le-or-lt a b)

pub farthest : (f : ℕ → ℕ) (n : ℕ) (p : ℕ → Bool)
    → ((h : ℕ) × Most (λ a b. f b ≤ f a) n p h) ⊎ ((s : ℕ) → s < n → p s ≡ false)
farthest f = most (λ a b. f b ≤ f a) (λ a b. le-either (f b) (f a)) (λ a b c p q. le_trans q p)

pub nearest : (f : ℕ → ℕ) (n : ℕ) (p : ℕ → Bool)
    → ((h : ℕ) × Most (λ a b. f a ≤ f b) n p h) ⊎ ((s : ℕ) → s < n → p s ≡ false)
nearest f = most (λ a b. f a ≤ f b) (λ a b. le-either (f a) (f b)) (λ a b c p q. le_trans p q)

-- ---- which are selected

module _ (f : ℕ → ℕ) (n l : ℕ) (ok : ℕ → Bool) where
  -- fewer are nearer than a nearer slot
  nearer-mono : (s t : ℕ) → f t ≤ f s → nearer_than f n ok t ≤ nearer_than f n ok s
  nearer-mono s t h =
      tally-mono n _ _ (λ u k p.
      and_both (and_left (ok u) (ltb (f u) (f t)) p)
      (lt-ltb (f u) (f s) (lt_of_lt_of_le (ltb-true (f u) (f t) (and_right (ok u) (ltb (f u) (f t)) p)) h)))

  -- with a selected slot each passing slot that is nearer is selected, or as near
  pub closest_keeps : (s t : ℕ) → has (closest f n l ok) s ≡ true → t < n → ok t ≡ true → f t ≤ f s → has (closest f n l ok) t ≡ true
  closest_keeps s t p h q e = closest-has f n l ok t h q (omega (arith, nearer-mono s t e, closest-few f n l ok s p))

  -- where at most l pass, all are selected
  pub closest-all : tally n ok ≤ l → (s : ℕ) → s < n → ok s ≡ true → has (closest f n l ok) s ≡ true
  closest-all m s h p =
      closest-has f n l ok s h p
      (lt_of_lt_of_le
      (tally-strict n _ ok s (λ t k q. and_left (ok t) (ltb (f t) (f s)) q) h (rw (p, le-ltb (f s) (f s) (omega arith))) p) m)

  -- the nearest is selected
  pub closest-least : 1 ≤ l → (s : ℕ) → s < n → ok s ≡ true → ((t : ℕ) → t < n → ok t ≡ true → f s ≤ f t)
      → has (closest f n l ok) s ≡ true
  closest-least m s h p e = closest-has f n l ok s h p (rw none m)
    where
      go : (t : ℕ) → t < n → (b : Bool) → ok t ≡ b → (b && ltb (f t) (f s)) ≡ false
      go t k true q = le-ltb (f t) (f s) (e t k q)
      go t k false q = refl

      none : nearer_than f n ok s ≡ 0
      none = tally-none n _ (λ t k. go t k (ok t) refl)

  -- where one passes, one is selected
  pub closest-some : 1 ≤ l → (s : ℕ) → s < n → ok s ≡ true → (t : ℕ) × Most (λ a b. f a ≤ f b) n ok t × (has (closest f n l ok) t ≡ true)
  closest-some m s h p = go (nearest f n ok)
    where
      go : ((t : ℕ) × Most (λ a b. f a ≤ f b) n ok t) ⊎ ((s : ℕ) → s < n → ok s ≡ false)
          → (t : ℕ) × Most (λ a b. f a ≤ f b) n ok t × (has (closest f n l ok) t ≡ true)
      go (inl (t, i)) = (t, i, closest-least m t i.below i.holds i.tops)
      go (inr none) = absurd (opposed p (none s h))

  -- at most l are selected: of the others selected each is nearer than the farthest
  pub closest-size : ((s t : ℕ) → s < n → t < n → ok s ≡ true → ok t ≡ true → f s ≡ f t → s ≡ t) → n ≤ 64 → size_of (closest f n l ok) ≤ l
  unfolding closest
  closest-size inj m = rw (size-gather n _ m) (go (farthest f n chosen))
    where
      chosen : ℕ → Bool
      chosen s = ok s && ltb (nearer_than f n ok s) l

      go : ((h : ℕ) × Most (λ a b. f b ≤ f a) n chosen h) ⊎ ((s : ℕ) → s < n → chosen s ≡ false) → tally n chosen ≤ l
      go (inr none) = rw (tally-none n chosen none) (omega arith)
      go (inl (h, i)) =
          omega (
            arith,
            tally-mono n chosen (λ t. (ok t && ltb (f t) (f h)) || eqb t h) nearer,
            tally-or-one n (λ t. ok t && ltb (f t) (f h)) h,
            ltb-true (nearer_than f n ok h) l (and_right (ok h) (ltb (nearer_than f n ok h) l) i.holds),
          )
        where
          passes : (t : ℕ) → chosen t ≡ true → ok t ≡ true
          passes t p = and_left (ok t) (ltb (nearer_than f n ok t) l) p

          one : (t : ℕ) → t < n → chosen t ≡ true → (f t ≡ f h) ⊎ (f t < f h) → ((ok t && ltb (f t) (f h)) || eqb t h) ≡ true
          one t k p (inl e) =
              or_right (ok t && ltb (f t) (f h)) (eq-eqb t h (inj t h k i.below (passes t p) (passes h i.holds) e))
          one t k p (inr a) = or_left (eqb t h) (and_both (passes t p) (lt-ltb (f t) (f h) a))

          nearer : (t : ℕ) → t < n → chosen t ≡ true → ((ok t && ltb (f t) (f h)) || eqb t h) ≡ true
          nearer t k p = one t k p (eq-or-lt_of_le (i.tops t k p))

-- ---- choosing again

-- a test between what is selected and what passes selects the same
pub closest-between : (f : ℕ → ℕ) (n l : ℕ) (ok pass : ℕ → Bool) → ((s : ℕ) → s < n → pass s ≡ true → ok s ≡ true)
    → ((s : ℕ) → s < n → has (closest f n l ok) s ≡ true → pass s ≡ true) → closest f n l pass ≡ closest f n l ok
closest-between f n l ok pass sub sup =
    ext n _ _ (closest-below f n l pass) (closest-below f n l ok)
    (λ s h. bool_same _ _ (λ p. into s h p (bool_cases (has (closest f n l ok) s))) (out s h))
  where
    fewer : (s : ℕ) → nearer_than f n pass s ≤ nearer_than f n ok s
    fewer s =
        tally-mono n _ _ (λ t k p.
        and_both (sub t k (and_left (pass t) (ltb (f t) (f s)) p)) (and_right (pass t) (ltb (f t) (f s)) p))

    out : (s : ℕ) → s < n → has (closest f n l ok) s ≡ true → has (closest f n l pass) s ≡ true
    out s h p = closest-has f n l pass s h (sup s h p) (omega (arith, fewer s, closest-few f n l ok s p))

    into : (s : ℕ) → s < n → has (closest f n l pass) s ≡ true
        → (has (closest f n l ok) s ≡ true) ⊎ (has (closest f n l ok) s ≡ false) → has (closest f n l ok) s ≡ true
    into s h p (inl q) = q
    into s h p (inr q) = absurd (none (nearest f n left))
      where
        left : ℕ → Bool
        left t = ok t && not (has (closest f n l ok) t)

        passes : ok s ≡ true
        passes = sub s h (closest-passes f n l pass s p)

        none : ((u : ℕ) × Most (λ a b. f a ≤ f b) n left u) ⊎ ((t : ℕ) → t < n → left t ≡ false) → ⊥
        none (inr e) = opposed (and_both passes (false-not q)) (e s h)
        none (inl (u, i)) =
            omega (
              arith,
              lacks,
              tally-mono n (λ t. ok t && ltb (f t) (f u)) (λ t. pass t && ltb (f t) (f s)) nearer,
              closest-few f n l pass s p,
            )
          where
            lacks : l ≤ nearer_than f n ok u
            lacks =
                closest-lacks f n l ok u i.below (and_left (ok u) (not (has (closest f n l ok) u)) i.holds)
                (not-true (has (closest f n l ok) u) (and_right (ok u) (not (has (closest f n l ok) u)) i.holds))

            chosen : (t : ℕ) → t < n → ok t ≡ true → f t < f u → has (closest f n l ok) t ≡ true
            chosen t k v a =
                bool-true (has (closest f n l ok) t) (λ e. omega (arith, i.tops t k (and_both v (false-not e))))

            nearer : (t : ℕ) → t < n → (ok t && ltb (f t) (f u)) ≡ true → (pass t && ltb (f t) (f s)) ≡ true
            nearer t k v =
                let a : f t < f u = ltb-true (f t) (f u) (and_right (ok t) (ltb (f t) (f u)) v) in
                let b : f u ≤ f s = i.tops s h (and_both passes (false-not q)) in
                and_both (sup t k (chosen t k (and_left (ok t) (ltb (f t) (f u)) v) a)) (lt-ltb (f t) (f s) (lt_of_lt_of_le a b))

pub closest-idem : (f : ℕ → ℕ) (n l : ℕ) (ok : ℕ → Bool) → closest f n l (has (closest f n l ok)) ≡ closest f n l ok
closest-idem f n l ok = closest-between f n l ok (has (closest f n l ok)) (λ s h p. closest-passes f n l ok s p) (λ s h p. p)
