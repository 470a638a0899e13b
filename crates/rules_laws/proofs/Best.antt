-- What `best` finds. The idea: each way of coming first is the order of a number, the score (`ahead-score`), so the best slot is one that
-- passes and has the least score (`best-is`). By induction on how many slots were looked at: `Best` holds of what was found so far. Of the
-- slots of small score the best is the best of all, if that has a small score (`best-kept`). Assumes nothing.
use Rattle.std.specs.Prelude.{Some, None}
use mathlib.Core.Path.{◌≡◌, refl, sym, ◌∙◌, ap, subst}
use mathlib.Core.Logic.{◌⊎◌, inl, inr, ⊎_elim}
use mathlib.Core.Bool.{Bool, true, false, cond, ◌&&◌}
use mathlib.Core.List.{List}
use Prim.Native.Nat.{ℕ, zero, suc, ◌+◌, ◌-◌, ◌^◌, ◌<◌, ◌≤◌}
use native.Mathlib.Nat.{eq-or-lt_of_le, le_of_suc-le-suc}
use native.Mathlib.Numerals.{add-one}
use native.Mathlib.Omega.{arith}
use lib.Dec.{ltb}
use borrow.Author.Tests.{lt-ltb, ltb-true, ltb-false}
use Rattle.ring.specs.Distance.{fall_of}
use Rattle.ring.proofs.Falls.{fall-lt}
use Rattle.ring.proofs.Order.{nearer-rank}
use Rattle.ring.specs.InnerRank.{rank}
use Rattle.marks.specs.Marks.{has, Found}
use Rattle.marks.proofs.Bools.{opposed, bool_same, lt-or-le, eq-or-ne}
use Rattle.rules.specs.declared.Ring.{Ring}
use Rattle.rules.specs.declared.Way.{Way}
use Rattle.rules.specs.declared.Way.TheVariants.{Near, Up, Down, FarUp, FarDown}
use Rattle.rules.specs.Pick.{id_at, ahead_of, better_of, best, best_of}
use Rattle.rules.specs.InnerAsks.{Keyed, Listed, Below}

-- ---- scores

-- the number that is least where a way comes first
abbrev pub score_of : Way → ℕ → ℕ → ℕ → ℕ
score_of Near N k a = rank N k a
score_of Up N k a = fall_of N a k
score_of Down N k a = fall_of N k a
score_of FarUp N k a = N - fall_of N a k
score_of FarDown N k a = N - fall_of N k a

-- the greater of two numbers leaves less of N
less-left : (N x y : ℕ) → x < N → y < N → ltb y x ≡ ltb (N - x) (N - y)
less-left N x y hx hy =
    bool_same (ltb y x) (ltb (N - x) (N - y)) (λ e. lt-ltb (N - x) (N - y) (omega (arith, ltb-true y x e)))
    (λ e. lt-ltb y x (omega (arith, ltb-true (N - x) (N - y) e)))

pub ahead-score : (w : Way) (N k : ℕ) (ids : List ℕ) (s b : ℕ) → k < N → id_at ids s < N → id_at ids b < N
    → ahead_of w N k ids s b ≡ ltb (score_of w N k (id_at ids s)) (score_of w N k (id_at ids b))
ahead-score Near N k ids s b hk hs hb = nearer-rank N k (id_at ids s) (id_at ids b)
ahead-score Up N k ids s b hk hs hb = refl
ahead-score Down N k ids s b hk hs hb = refl
ahead-score FarUp N k ids s b hk hs hb = less-left N _ _ (fall-lt N (id_at ids s) k hs) (fall-lt N (id_at ids b) k hb)
ahead-score FarDown N k ids s b hk hs hb = less-left N _ _ (fall-lt N k (id_at ids s) hk) (fall-lt N k (id_at ids b) hk)

-- ---- turns of the search

-- a slot that passes was found, or none passes
abbrev pub Finds : (ℕ → Bool) → ℕ → Found → Type 0
Finds ok n (Some h) = (h < n) × (ok h ≡ true)
Finds ok n None = (t : ℕ) → t < n → ok t ≡ false

-- s < n + 1 is s = n or s < n
last_or : {s n : ℕ} → s < suc n → (s ≡ n) ⊎ (s < n)
last_or h = eq-or-lt_of_le (le_of_suc-le-suc h)

all-below : (ok : ℕ → Bool) (n : ℕ) → ((t : ℕ) → t < n → ok t ≡ false) → ok n ≡ false → (t : ℕ) → t < suc n → ok t ≡ false
all-below ok n rest last t h = go (last_or h)
  where
    go : (t ≡ n) ⊎ (t < n) → ok t ≡ false
    go (inl d) = rw d last
    go (inr l) = rest t l

module _ (ahead : ℕ → ℕ → Bool) (ok : ℕ → Bool) where
  pub best-took : (n : ℕ) → ok n ≡ true → best ahead ok (n + 1) ≡ better_of ahead (best ahead ok n) n
  unfolding best
  best-took n e = rw (add-one, e)

  pub best-left : (n : ℕ) → ok n ≡ false → best ahead ok (n + 1) ≡ best ahead ok n
  unfolding best
  best-left n e = rw (add-one, e)

  -- slots that fail are passed over
  pub best-skip : (b c : ℕ) → b ≤ c → ((s : ℕ) → b ≤ s → s < c → ok s ≡ false) → best ahead ok c ≡ best ahead ok b
  unfolding best
  best-skip b zero h e = let d : b ≡ 0 = omega arith in rw d
  best-skip b (suc c) h e = go (λ l. best-skip b c l (λ s p q. e s p (omega arith))) (lt-or-le c b)
    where
      go : (b ≤ c → best ahead ok c ≡ best ahead ok b) → (c < b) ⊎ (b ≤ c) → best ahead ok (suc c) ≡ best ahead ok b
      go rest (inl l) = let d : b ≡ suc c = omega arith in rw d
      go rest (inr l) = rw (e c l (omega arith)) (rest l)

  pub best_none : (n : ℕ) → ((s : ℕ) → s < n → ok s ≡ false) → best ahead ok n ≡ None
  unfolding best
  best_none n e = best-skip 0 n (omega arith) (λ s p q. e s q)

  -- without a score: what is found passes, and where nothing is found, none does
  pub best-finds : (n : ℕ) → Finds ok n (best ahead ok n)
  unfolding best
  best-finds zero = λ t h. absurd (omega arith)
  best-finds (suc n) = go (ok n) refl (best ahead ok n) (best-finds n)
    where
      other : ok n ≡ true → (b : ℕ) → Finds ok n (Some b) → (t : Bool) → Finds ok (suc n) (cond t (Some n) (Some b))
      other e b i true = (omega arith, e)
      other e b i false = (omega arith, i.1)

      go : (t : Bool) → ok n ≡ t → (g : Found) → Finds ok n g → Finds ok (suc n) (cond t (better_of ahead g n) g)
      go true e (Some b) i = other e b i (ahead n b)
      go true e None i = (omega arith, e)
      go false e (Some b) i = (omega arith, i.1)
      go false e None i = all-below ok n i e

  pub best-below : (n : ℕ) → Below (best ahead ok n) n
  best-below n = go (best ahead ok n) (best-finds n)
    where
      go : (g : Found) → Finds ok n g → Below g n
      go (Some b) i = i.0
      go None i = tt

  -- a node that is found is a slot
  pub best_low : (h : ℕ) → best ahead ok 64 ≡ Some h → h < 64
  best_low h e = subst (λ (f : Found). Below f 64) e (best-below 64)

  pub best-some : (n s : ℕ) → s < n → ok s ≡ true → (h : ℕ) × (best ahead ok n ≡ Some h)
  best-some n s l p = go (best ahead ok n) (best-finds n)
    where
      go : (g : Found) → Finds ok n g → (h : ℕ) × (g ≡ Some h)
      go (Some h) i = (h, refl)
      go None i = absurd (opposed p (i s l))

pub below-le : (g : Found) (n m : ℕ) → n ≤ m → Below g n → Below g m
below-le (Some b) n m l h = omega arith
below-le None n m l h = tt

-- tests that agree on the slots below n find the same
pub best-same : (ahead : ℕ → ℕ → Bool) (f g : ℕ → Bool) (n : ℕ) → ((s : ℕ) → s < n → f s ≡ g s) → best ahead f n ≡ best ahead g n
unfolding best
best-same ahead f g zero e = refl
best-same ahead f g (suc n) e = rw (e n (omega arith), best-same ahead f g n (λ s h. e s (omega arith)))

-- ---- what is found

-- h passes, and no slot below n that passes has a smaller score
pub record Leads (ok : ℕ → Bool) (f : ℕ → ℕ) (n h : ℕ) : Type 0 where
  pub below : h < n
  pub holds : ok h ≡ true
  pub least : (t : ℕ) → t < n → ok t ≡ true → f h ≤ f t

-- such a slot was found, or none passes
abbrev pub Best : (ℕ → Bool) → (ℕ → ℕ) → ℕ → Found → Type 0
Best ok f n (Some h) = Leads ok f n h
Best ok f n None = (t : ℕ) → t < n → ok t ≡ false

-- what was found, where it passes a second test
abbrev pub kept_of : (ℕ → Bool) → Found → Found
kept_of p (Some h) = cond (p h) (Some h) None
kept_of p None = None

-- the order is the order of scores, on the slots below n
abbrev pub Scored : (ℕ → ℕ → Bool) → (ℕ → ℕ) → ℕ → Type 0
Scored ahead f n = (s b : ℕ) → s < n → b < n → ahead s b ≡ ltb (f s) (f b)

-- one slot more, at which h leads still
still : (ok : ℕ → Bool) (f : ℕ → ℕ) (n h : ℕ) → h < suc n → ok h ≡ true → ((t : ℕ) → t < n → ok t ≡ true → f h ≤ f t)
    → (ok n ≡ true → f h ≤ f n) → Leads ok f (suc n) h
still ok f n h l p rest last = record { below = l; holds = p; least = λ t k q. go t q (last_or k) }
  where
    go : (t : ℕ) → ok t ≡ true → (t ≡ n) ⊎ (t < n) → f h ≤ f t
    go t q (inl d) = rw d (last (rw d at q))
    go t q (inr k) = rest t k q

module _ (ahead : ℕ → ℕ → Bool) (ok : ℕ → Bool) (f : ℕ → ℕ) where
  passed : (n : ℕ) (g : Found) → ok n ≡ false → Best ok f n g → Best ok f (suc n) g
  passed n (Some b) e i = still ok f n b (omega arith) i.holds i.least (λ q. absurd (opposed q e))
  passed n None e i = all-below ok n i e

  taken : (n : ℕ) (g : Found) → ok n ≡ true → ((b : ℕ) → b < n → ahead n b ≡ ltb (f n) (f b)) → Best ok f n g
      → Best ok f (suc n) (better_of ahead g n)
  taken n (Some b) e r i = rw (r b i.below) (go (ltb (f n) (f b)) refl)
    where
      go : (t : Bool) → ltb (f n) (f b) ≡ t → Best ok f (suc n) (cond t (Some n) (Some b))
      go true q = still ok f n n (omega arith) e (λ t k p. omega (arith, i.least t k p, ltb-true (f n) (f b) q)) (λ p. omega arith)
      go false q = still ok f n b (omega arith) i.holds i.least (λ p. ltb-false (f n) (f b) q)
  taken n None e r i = still ok f n n (omega arith) e (λ t k p. absurd (opposed p (i t k))) (λ p. omega arith)

  pub best-is : (n : ℕ) → Scored ahead f n → Best ok f n (best ahead ok n)
  unfolding best
  best-is zero r = λ t h. absurd (omega arith)
  best-is (suc n) r = go (ok n) refl (best-is n (λ s b h l. r s b (omega arith) (omega arith)))
    where
      go : (t : Bool) → ok n ≡ t → Best ok f n (best ahead ok n)
          → Best ok f (suc n) (cond t (better_of ahead (best ahead ok n) n) (best ahead ok n))
      go true e i = taken n (best ahead ok n) e (λ b h. r n b (omega arith) (omega arith)) i
      go false e i = passed n (best ahead ok n) e i

  pub best-leads : (n h : ℕ) → Scored ahead f n → best ahead ok n ≡ Some h → Leads ok f n h
  best-leads n h r e = rw e at (best-is n r)

  -- a slot that passes, of smaller score than every other
  pub best-unique : (n h : ℕ) → Scored ahead f n → h < n → ok h ≡ true
      → ((t : ℕ) → t < n → ok t ≡ true → (t ≡ h → ⊥) → f h < f t) → best ahead ok n ≡ Some h
  best-unique n h r l p first = go (best ahead ok n) (best-is n r)
    where
      go : (g : Found) → Best ok f n g → g ≡ Some h
      go (Some b) i = ⊎_elim (λ d. ap Some d) (λ d. absurd (omega (arith, i.least h l p, first b i.below i.holds d))) (eq-or-ne b h)
      go None i = absurd (opposed p (i h l))

  -- of those of score below c the best is the best of all, where its score is
  pub best-kept : (near : ℕ → Bool) (c n : ℕ) → Scored ahead f n → ((s : ℕ) → s < n → near s ≡ ltb (f s) c)
      → best ahead (λ s. ok s && near s) n ≡ kept_of near (best ahead ok n)
  unfolding best
  best-kept near c zero r q = refl
  best-kept near c (suc n) r q =
      go (ok n) (best ahead ok n) (best-below ahead ok n)
      (best-kept near c n (λ s b h l. r s b (omega arith) (omega arith)) (λ s h. q s (omega arith)))
    where
      inside : (s : ℕ) → s < suc n → near s ≡ true → f s < c
      inside s l e = ltb-true (f s) c (sym (q s l) ∙ e)

      outside : (s : ℕ) → s < suc n → near s ≡ false → c ≤ f s
      outside s l e = ltb-false (f s) c (sym (q s l) ∙ e)

      order : (b : ℕ) → b < n → ahead n b ≡ ltb (f n) (f b)
      order b h = r n b (omega arith) (omega arith)

      turn : (b : ℕ) → b < n → (x y a : Bool) → near n ≡ x → near b ≡ y → ahead n b ≡ a
          → cond x (better_of ahead (cond y (Some b) None) n) (cond y (Some b) None) ≡ kept_of near (cond a (Some n) (Some b))
      turn b h true true true e d o = simp (e, o)
      turn b h true true false e d o = simp (d, o)
      turn b h true false true e d o = simp e
      turn b h true false false e d o =
          absurd (omega (arith, inside n (omega arith) e, outside b (omega arith) d, ltb-false (f n) (f b) (sym (order b h) ∙ o)))
      turn b h false true true e d o =
          absurd (omega (arith, outside n (omega arith) e, inside b (omega arith) d, ltb-true (f n) (f b) (sym (order b h) ∙ o)))
      turn b h false true false e d o = simp d
      turn b h false false true e d o = simp e
      turn b h false false false e d o = simp d

      go : (t : Bool) (g : Found) → Below g n → best ahead (λ s. ok s && near s) n ≡ kept_of near g
          → cond (t && near n) (better_of ahead (best ahead (λ s. ok s && near s) n) n) (best ahead (λ s. ok s && near s) n)
          ≡ kept_of near (cond t (better_of ahead g n) g)
      go false g h e = e
      go true (Some b) h e = rw e (turn b h (near n) (near b) (ahead n b) refl refl refl)
      go true None h e = rw e

-- ---- the best node of a set

abbrev pub score_at : Way → ℕ → ℕ → List ℕ → ℕ → ℕ
score_at w N k ids s = score_of w N k (id_at ids s)

-- nearness is an order of scores whatever the ids are
pub near-scored : (N k : ℕ) (ids : List ℕ) (n : ℕ) → Scored (ahead_of Near N k ids) (score_at Near N k ids) n
near-scored N k ids n s b h l = nearer-rank N k (id_at ids s) (id_at ids b)

pub keyed-scored : {m k : ℕ} {ids : List ℕ} → Keyed m k ids → (w : Way) → Scored (ahead_of w (2 ^ m) k ids) (score_at w (2 ^ m) k ids) 64
keyed-scored {m} {k} {ids} a w s b h l = ahead-score w (2 ^ m) k ids s b a.key_in (a.ids-in s h) (a.ids-in b l)

pub best_of_lem : {m k : ℕ} {ids : List ℕ} → Keyed m k ids → (w : Way) (set : ℕ)
    → Best (has set) (λ s. score_of w (2 ^ m) k (id_at ids s)) 64 (best_of w (2 ^ m) k ids set)
best_of_lem {m} {k} {ids} a w set = best-is (ahead_of w (2 ^ m) k ids) (has set) (score_at w (2 ^ m) k ids) 64 (keyed-scored a w)

pub listed-keyed : {g : Ring} {ids : List ℕ} {k : ℕ} → Listed g ids → k < 2 ^ g.m → Keyed g.m k ids
listed-keyed a h = record { width = a.width; key_in = h; ids-in = a.ids-in }
