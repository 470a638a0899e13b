-- Tests of the slots below n: how many pass (tally), the least that does (first_to), and that all do (all_to). Each law is by induction
-- on n, or from one that is: the last slot is taken off. Assumes nothing.
use Rattle.std.specs.Prelude.{Some, None}
use mathlib.Core.Path.{◌≡◌, refl, sym, ◌∙◌, ap, ap₂}
use mathlib.Core.Logic.{◌⊎◌, inl, inr, ⊎_elim}
use mathlib.Core.Bool.{Bool, true, false, cond, ◌&&◌, ◌||◌, not, or-false, and-true}
use Prim.Native.Nat.{ℕ, zero, suc, ◌+◌, ◌<◌, ◌≤◌}
use native.Mathlib.Nat.{add-le-add, eq-or-lt_of_le, le_of_suc-le-suc}
use native.Mathlib.Numerals.{add-one}
use native.Mathlib.Omega.{arith}
use borrow.Author.Tests.{eq-eqb, ne_eqb, eqb-true}
use lib.Dec.{eqb}
use Rattle.marks.proofs.Bools.{clash, opposed, bool_cases, bool_false, and_left, and_right, and_both, and_cases, and-fails-right}
use Rattle.marks.proofs.Bools.{or_cases, lt-or-le, eq-or-ne}
use Rattle.marks.specs.Marks.{tally, or_else, first_to, all_to, Found}

-- s < n + 1 is s = n or s < n
last_or : {s n : ℕ} → s < suc n → (s ≡ n) ⊎ (s < n)
last_or h = eq-or-lt_of_le (le_of_suc-le-suc h)

-- ---- how many

pub tally-same : (n : ℕ) (f g : ℕ → Bool) → ((s : ℕ) → s < n → f s ≡ g s) → tally n f ≡ tally n g
unfolding tally
tally-same zero f g e = refl
tally-same (suc n) f g e =
    ap₂ (λ (m : ℕ) (b : Bool). m + cond b 1 0) (tally-same n f g (λ s h. e s (omega arith))) (e n (omega arith))

one-le : (a b : Bool) → (a ≡ true → b ≡ true) → cond a 1 0 ≤ cond b 1 0
one-le true b f = rw (f refl) (omega arith)
one-le false b f = omega arith

pub tally-mono : (n : ℕ) (f g : ℕ → Bool) → ((s : ℕ) → s < n → f s ≡ true → g s ≡ true) → tally n f ≤ tally n g
unfolding tally
tally-mono zero f g e = omega arith
tally-mono (suc n) f g e = add-le-add (tally-mono n f g (λ s h. e s (omega arith))) (one-le (f n) (g n) (e n (omega arith)))

pub tally-none : (n : ℕ) (f : ℕ → Bool) → ((s : ℕ) → s < n → f s ≡ false) → tally n f ≡ 0
unfolding tally
tally-none zero f e = refl
tally-none (suc n) f e = rw (tally-none n f (λ s h. e s (omega arith)), e n (omega arith))

pub tally-all : (n : ℕ) (f : ℕ → Bool) → ((s : ℕ) → s < n → f s ≡ true) → tally n f ≡ n
unfolding tally
tally-all zero f e = refl
tally-all (suc n) f e = rw (tally-all n f (λ s h. e s (omega arith)), e n (omega arith)) (add-one n)

pub tally-le : (n : ℕ) (f : ℕ → Bool) → tally n f ≤ n
tally-le n f = omega (arith, tally-mono n f (λ s. true) (λ s h p. refl), tally-all n (λ s. true) (λ s h. refl))

-- what passes the one test passes the other, which one slot more passes
pub tally-strict : (n : ℕ) (f g : ℕ → Bool) (t : ℕ) → ((s : ℕ) → s < n → f s ≡ true → g s ≡ true) → t < n → f t ≡ false → g t ≡ true
    → tally n f < tally n g
unfolding tally
tally-strict zero f g t e h p q = absurd (omega arith)
tally-strict (suc n) f g t e h p q = go (λ l. tally-strict n f g t (λ s k. e s (omega arith)) l p q) (last_or h)
  where
    go : (t < n → tally n f < tally n g) → (t ≡ n) ⊎ (t < n) → tally n f + cond (f n) 1 0 < tally n g + cond (g n) 1 0
    go rest (inl d) =
        let a : f n ≡ false = rw d at p in
        let b : g n ≡ true = rw d at q in
        rw (a, b) (omega (arith, tally-mono n f g (λ s k. e s (omega arith))))
    go rest (inr l) = omega (arith, rest l, one-le (f n) (g n) (e n (omega arith)))

-- none passes where the count is 0
pub tally-zero : (n : ℕ) (f : ℕ → Bool) (s : ℕ) → tally n f ≡ 0 → s < n → f s ≡ false
tally-zero n f s e h =
    bool_false (f s) (λ p. omega (arith, tally-strict n (λ t. false) f s (λ t k q. absurd (clash (sym q))) h refl p))

-- slots that fail are not counted
pub tally-more : (n m : ℕ) (f : ℕ → Bool) → n ≤ m → ((s : ℕ) → n ≤ s → s < m → f s ≡ false) → tally m f ≡ tally n f
unfolding tally
tally-more n zero f h e = let d : n ≡ 0 = omega arith in rw d
tally-more n (suc m) f h e = go (λ l. tally-more n m f l (λ s a b. e s a (omega arith))) (lt-or-le m n)
  where
    go : (n ≤ m → tally m f ≡ tally n f) → (m < n) ⊎ (n ≤ m) → tally m f + cond (f m) 1 0 ≡ tally n f
    go rest (inl l) = let d : n ≡ suc m = omega arith in rw d
    go rest (inr l) = rw (rest l, e m l (omega arith)) (omega arith)

-- one slot more
pub tally-add : (n : ℕ) (f : ℕ → Bool) (t : ℕ) → t < n → f t ≡ false → tally n (λ s. f s || eqb s t) ≡ tally n f + 1
unfolding tally
tally-add zero f t h p = absurd (omega arith)
tally-add (suc n) f t h p = go (λ l. tally-add n f t l p) (last_or h)
  where
    go : (t < n → tally n (λ s. f s || eqb s t) ≡ tally n f + 1) → (t ≡ n) ⊎ (t < n)
        → tally n (λ s. f s || eqb s t) + cond (f n || eqb n t) 1 0 ≡ tally n f + cond (f n) 1 0 + 1
    go rest (inl d) =
        let a : f n ≡ false = rw d at p in
        let b : tally n (λ s. f s || eqb s t) ≡ tally n f =
        tally-same n (λ s. f s || eqb s t) f (λ s l. rw (ne_eqb s t (omega arith)) (or-false (f s))) in
        rw (b, a, eq-eqb n t (sym d)) (omega arith)
    go rest (inr l) = rw (rest l, ne_eqb n t (omega arith), or-false) (omega arith)

-- one slot at most
pub tally-or-one : (n : ℕ) (f : ℕ → Bool) (t : ℕ) → tally n (λ s. f s || eqb s t) ≤ tally n f + 1
tally-or-one n f t = go (lt-or-le t n) (bool_cases (f t))
  where
    same : ((s : ℕ) → s < n → s ≡ t → f s ≡ true) → tally n (λ s. f s || eqb s t) ≤ tally n f + 1
    same e =
        omega (
          arith,
          tally-mono n (λ s. f s || eqb s t) f
              (λ s h p. ⊎_elim (λ q. q) (λ q. e s h (eqb-true s t q)) (or_cases (f s) (eqb s t) p)),
        )

    go : (t < n) ⊎ (n ≤ t) → (f t ≡ true) ⊎ (f t ≡ false) → tally n (λ s. f s || eqb s t) ≤ tally n f + 1
    go (inl h) (inl p) = same (λ s l d. rw d p)
    go (inl h) (inr p) = omega (arith, tally-add n f t h p)
    go (inr h) (inl p) = same (λ s l d. rw d p)
    go (inr h) (inr p) = same (λ s l d. absurd (omega arith))

-- one slot less
pub tally-remove : (n : ℕ) (f : ℕ → Bool) (t : ℕ) → t < n → f t ≡ true → tally n (λ s. f s && not (eqb s t)) + 1 ≡ tally n f
tally-remove n f t h p =
    let left : ℕ → Bool = λ s. f s && not (eqb s t) in
    let gone : left t ≡ false = rw (eq-eqb t t refl) (and-fails-right (f t) refl) in
    sym (tally-add n left t h gone) ∙ tally-same n (λ s. left s || eqb s t) f (λ s l. back s (eq-or-ne s t))
  where
    back : (s : ℕ) → (s ≡ t) ⊎ (s ≡ t → ⊥) → (f s && not (eqb s t) || eqb s t) ≡ f s
    back s (inl d) = rw (d, p, eq-eqb t t refl)
    back s (inr d) = rw (ne_eqb s t d, or-false, and-true)

-- ---- the least

-- s is the least slot that passes the test f, and is below n
pub record First (n : ℕ) (f : ℕ → Bool) (s : ℕ) : Type 0 where
  pub below : s < n
  pub holds : f s ≡ true
  pub least : (t : ℕ) → t < s → f t ≡ false

no_place : {s : ℕ} → None ≡ Some s → ⊥
no_place e = let z : ◌≡◌ {A = ℕ} 0 1 = cc in omega arith

pub first-none : (n : ℕ) (f : ℕ → Bool) → first_to n f ≡ None → (s : ℕ) → s < n → f s ≡ false
unfolding first_to
first-none zero f e s h = absurd (omega arith)
first-none (suc n) f e s h = go (first_to n f) (λ q l. first-none n f q s l) (f n) refl e (last_or h)
  where
    go : (r : Found) → (r ≡ None → s < n → f s ≡ false) → (b : Bool) → f n ≡ b → or_else r (cond b (Some n) None) ≡ None
        → (s ≡ n) ⊎ (s < n) → f s ≡ false
    go (Some t) rest b q d o = absurd (no_place (sym d))
    go None rest true q d o = absurd (no_place (sym d))
    go None rest false q d (inl l) = rw l q
    go None rest false q d (inr l) = rest refl l

pub first_found : (n : ℕ) (f : ℕ → Bool) (s : ℕ) → first_to n f ≡ Some s → First n f s
unfolding first_to
first_found zero f s e = absurd (no_place e)
first_found (suc n) f s e = go (first_to n f) (first_found n f s) (first-none n f) (f n) refl e
  where
    go : (r : Found) → (r ≡ Some s → First n f s) → (r ≡ None → (t : ℕ) → t < n → f t ≡ false) → (b : Bool) → f n ≡ b
        → or_else r (cond b (Some n) None) ≡ Some s → First (suc n) f s
    go (Some t) rest none b q d = let i = rest d in record { below = omega arith; holds = i.holds; least = i.least }
    go None rest none true q d =
        let k : n ≡ s = cc in
        record { below = omega arith; holds = rw (← k) q; least = λ t l. none refl t (omega arith) }
    go None rest none false q d = absurd (no_place d)

pub first-nothing : (n : ℕ) (f : ℕ → Bool) → ((s : ℕ) → s < n → f s ≡ false) → first_to n f ≡ None
unfolding first_to
first-nothing zero f e = refl
first-nothing (suc n) f e = rw (first-nothing n f (λ s h. e s (omega arith)), e n (omega arith))

pub first-at : (n : ℕ) (f : ℕ → Bool) (s : ℕ) → s < n → f s ≡ true → ((t : ℕ) → t < s → f t ≡ false) → first_to n f ≡ Some s
first-at n f s h p e = go (first_to n f) refl
  where
    same : (t : ℕ) → First n f t → t ≡ s
    same t i = meets (lt-or-le t s) (lt-or-le s t)
      where
        meets : (t < s) ⊎ (s ≤ t) → (s < t) ⊎ (t ≤ s) → t ≡ s
        meets (inl l) o = absurd (opposed i.holds (e t l))
        meets (inr l) (inl k) = absurd (opposed p (i.least s k))
        meets (inr l) (inr k) = omega arith

    go : (r : Found) → first_to n f ≡ r → first_to n f ≡ Some s
    go (Some t) q = rw q (ap Some (same t (first_found n f t q)))
    go None q = absurd (opposed p (first-none n f q s h))

pub first-same : (n : ℕ) (f g : ℕ → Bool) → ((s : ℕ) → s < n → f s ≡ g s) → first_to n f ≡ first_to n g
unfolding first_to
first-same zero f g e = refl
first-same (suc n) f g e =
    ap₂ (λ (r : Found) (b : Bool). or_else r (cond b (Some n) None)) (first-same n f g (λ s h. e s (omega arith))) (e n (omega arith))

-- a walk that has found none yet
pub record NoneBelow (f : ℕ → Bool) (s : ℕ) : Type 0 where
  pub none : (i : ℕ) → i < s → f i ≡ false

pub none_more : (f : ℕ → Bool) (s : ℕ) → NoneBelow f s → f s ≡ false → NoneBelow f (s + 1)
none_more f s h e = record { none = λ i l. ⊎_elim (h.none i) (λ b. let same : i ≡ s = omega arith in rw same e) (lt-or-le i s) }

-- ---- how many, and whether there is one

pub tally-some : (n : ℕ) (f : ℕ → Bool) → 0 < tally n f → (s : ℕ) × (s < n) × (f s ≡ true)
tally-some n f h = go (first_to n f) refl
  where
    go : (r : Found) → first_to n f ≡ r → (s : ℕ) × (s < n) × (f s ≡ true)
    go (Some s) e = let i = first_found n f s e in (s, i.below, i.holds)
    go None e = absurd (omega (arith, tally-none n f (first-none n f e)))

pub some-tally : (n : ℕ) (f : ℕ → Bool) (s : ℕ) → s < n → f s ≡ true → 0 < tally n f
some-tally n f s h e = go (tally n f) refl
  where
    go : (k : ℕ) → tally n f ≡ k → 0 < k
    go zero z = absurd (opposed e (tally-zero n f s z h))
    go (suc k) z = omega arith

-- ---- all

pub each : (n : ℕ) (f : ℕ → Bool) (s : ℕ) → all_to n f ≡ true → s < n → f s ≡ true
unfolding all_to
each zero f s e h = absurd (omega arith)
each (suc n) f s e h = go (each n f s (and_left (all_to n f) (f n) e)) (last_or h)
  where
    go : (s < n → f s ≡ true) → (s ≡ n) ⊎ (s < n) → f s ≡ true
    go rest (inl d) = rw d (and_right (all_to n f) (f n) e)
    go rest (inr l) = rest l

pub all_of : (n : ℕ) (f : ℕ → Bool) → ((s : ℕ) → s < n → f s ≡ true) → all_to n f ≡ true
unfolding all_to
all_of zero f e = refl
all_of (suc n) f e = and_both (all_of n f (λ s h. e s (omega arith))) (e n (omega arith))

pub more : (n : ℕ) (f : ℕ → Bool) → all_to n f ≡ true → f n ≡ true → all_to (n + 1) f ≡ true
unfolding all_to
more n f p q = rw add-one (and_both p q)

pub fails : (n : ℕ) (f : ℕ → Bool) (s : ℕ) → s < n → f s ≡ false → all_to n f ≡ false
fails n f s h p = bool_false (all_to n f) (λ e. opposed (each n f s e h) p)

pub some-fails : (n : ℕ) (f : ℕ → Bool) → all_to n f ≡ false → (s : ℕ) × (s < n) × (f s ≡ false)
unfolding all_to
some-fails zero f e = absurd (clash e)
some-fails (suc n) f e = go (some-fails n f) (and_cases (all_to n f) (f n) e)
  where
    go : (all_to n f ≡ false → (s : ℕ) × (s < n) × (f s ≡ false)) → (all_to n f ≡ false) ⊎ (f n ≡ false)
        → (s : ℕ) × (s < suc n) × (f s ≡ false)
    go rest (inl p) = let i = rest p in (i.0, omega arith, i.2)
    go rest (inr p) = (n, omega arith, p)

pub all_same : (n : ℕ) (f g : ℕ → Bool) → ((s : ℕ) → s < n → f s ≡ g s) → all_to n f ≡ all_to n g
unfolding all_to
all_same zero f g e = refl
all_same (suc n) f g e = ap₂ ◌&&◌ (all_same n f g (λ s h. e s (omega arith))) (e n (omega arith))
