-- Laws of the copying loops: one element a turn where the list has 256, and nothing where not. And what the caller has once the core is done.
-- Assumes nothing.
use Prim.Native.Nat.{ℕ, ◌+◌, ◌<◌, ◌≤◌}
use mathlib.Core.Path.{◌≡◌, refl, sym, ◌∙◌, ap}
use mathlib.Core.Bool.{Bool, true, false, cond}
use mathlib.Core.Logic.{◌⊎◌, inl, inr}
use mathlib.Core.List.{List}
use native.Mathlib.Omega.{arith}
use lib.Dec.{eqb}
use borrow.Author.Count.{below_more}
use borrow.Author.Tests.{eqb-true, eq-eqb}
use lib.ListN.{length, get_or, set}
use lib.Seq.{get_or-set_same, get_or-set_other, ext_get_or}
use Rattle.rules.specs.declared.Message.{Message}
use Rattle.rules.specs.declared.Pool.{Pool}
use Rattle.table_type.specs.declared.Stepped.{Stepped}
use Rattle.face_lent.specs.declared.Reply.{Reply}
use Rattle.face_lent.specs.Lent.{pool_of, lent, places_of, given_of, reply_of, Handed}

-- how many places are copied, of a list of n
abbrev pub Either : ℕ → ℕ → Type 0
Either n k = ((k ≡ 256) × (n ≡ 256)) ⊎ ((k ≡ 0) × (eqb n 256 ≡ false))

by-test : (n k : ℕ) (t : Bool) → eqb n 256 ≡ t → k ≡ cond t 256 0 → Either n k
by-test n k true e h = inl (h, eqb-true n 256 e)
by-test n k false e h = inr (h, e)

pub either : (n k : ℕ) → k ≡ places_of n → Either n k
either n k h = by-test n k (eqb n 256) refl h

pub within : (n k i : ℕ) → Either n k → i < k → (i < n) × (i < 256)
within n k i (inl h) l = (omega (arith, h.0, h.1), omega (arith, h.0))
within n k i (inr h) l = absurd (omega (arith, h.0))

-- where no place is copied the list has not 256
pub none-copied : {A : Type 0} (n k : ℕ) (src rest : List A) → Either n k → k ≡ 0 → rest ≡ cond (eqb n 256) src rest
none-copied n k src rest (inl h) z = absurd (omega (arith, h.0))
none-copied n k src rest (inr h) z = sym (ap (λ (b : Bool). cond b src rest) h.1)

-- the first i of dst are those of src
pub record Copied {A : Type 0} (d : A) (src dst : List A) (i : ℕ) : Type 0 where
  pub same : (k : ℕ) → k < i → get_or dst k d ≡ get_or src k d

module _ {A : Type 0} (d : A) where
  pub copied_none : (src dst : List A) → Copied d src dst 0
  copied_none src dst = record { same = λ k l. absurd (omega arith) }

  pub copied_more : (src dst : List A) (i : ℕ) → i < length dst → Copied d src dst i → Copied d src (set dst i (get_or src i d)) (i + 1)
  copied_more src dst i l c = record {
    same = below_more (λ k. get_or (set dst i (get_or src i d)) k d ≡ get_or src k d) i
        (λ k h. get_or-set_other dst i k (get_or src i d) d (λ e. omega arith) ∙ c.same k h)
        (get_or-set_same dst i (get_or src i d) d l);
  }

  -- the loop is done: all is copied, or nothing was
  module _ (src dst rest : List A) (n k i : ℕ) where
    pub copied-done : Either n k → k ≤ i → i ≤ k → (n ≡ 256 → length src ≡ 256) → (n ≡ 256 → length dst ≡ 256) → Copied d src dst i → (i ≡ 0 → dst ≡ rest)
        → dst ≡ cond (eqb n 256) src rest
    copied-done (inl h) l m s t c z =
        ext_get_or d dst src (t h.1 ∙ sym (s h.1)) (λ j w. c.same j (omega (arith, h.0, t h.1)))
        ∙ sym (ap (λ (b : Bool). cond b src rest) (eq-eqb n 256 h.1))
    copied-done (inr h) l m s t c z = z (omega (arith, h.0)) ∙ sym (ap (λ (b : Bool). cond b src rest) h.1)

-- a pool with this count and these places
pub same_pool : (x : Pool) {n : ℕ} {zs : List Message} → x.count ≡ n → x.places ≡ zs → x ≡ pool_of n zs
same_pool x e f = rw (e, f)

-- what the caller has, where the core f was given the pool that its list holds
pub handed : (f : Pool → Stepped) (ys zs : List Message) (n : ℕ) (p : Pool) (g : Stepped) (r : Reply)
    → p ≡ lent ys n → g ≡ f p → zs ≡ given_of ys g.pool.places → r ≡ reply_of g → Handed (f (lent ys n)) ys zs r
handed f ys zs n p g r ep eg ez er =
    let e : g ≡ f (lent ys n) = eg ∙ ap f ep in
    (er ∙ ap reply_of e, ez ∙ ap (λ (x : Stepped). given_of ys x.pool.places) e)
