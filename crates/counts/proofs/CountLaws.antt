-- The laws of the counts: the number of a slot, how a count and a walk for the first message go together, what it means that counts agree with a
-- pool, and what each call comes to by that. Each follows from the laws of tests of slots (tally, first_to, all_to) of crate marks. Assumes nothing.
use mathlib.Core.Path.{◌≡◌, refl, sym, ◌∙◌, ap}
use mathlib.Core.Logic.{◌⊎◌, inl, inr}
use mathlib.Core.Bool.{Bool, true, false}
use mathlib.Core.List.{List, [], ◌∷◌}
use Prim.Native.Nat.{ℕ, zero, suc, ◌<◌}
use native.Mathlib.Nat.{eq-or-lt_of_le, le_of_suc-le-suc}
use native.Mathlib.Omega.{arith}
use borrow.Author.Tests.{eqb-true, eq-eqb}
use lib.Dec.{eqb}
use lib.ListN.{get_or, length, length-append, get_or-append}
use lib.Seq.{get_or_at}
use Rattle.marks.proofs.Bools.{clash}
use Rattle.marks.specs.Marks.{tally, first_to, Found}
use Rattle.marks.proofs.Laws.{tally-same, tally-none, tally-zero, first-none, first-nothing, first-same, each, all_of}
use Rattle.rules.specs.declared.Message.{Message}
use Rattle.rules.specs.declared.Pool.{Pool}
use Rattle.rules.specs.Mail.{is_found}
use Rattle.rules.specs.Pool.{message_at, waiting}
use Rattle.pool_laws.proofs.Laws.{waiting-at}
use Rattle.rules.specs.declared.Action.{Action}
use Rattle.rules.specs.declared.Refusal.TheVariants as no
use Rattle.step.specs.Step.{step_of}
use Rattle.std.specs.Prelude.{Err, Some, None}
use Rattle.file.specs.Write.{wrote_of, written_of}
use Rattle.face.specs.Asked.{rest_of}
use Rattle.counts.specs.declared.Counted.{Counted}
use Rattle.counts.specs.Counts.{after_by, refused_with, step_with, wrote_with, written_with, rest_with}
use Rattle.counts.specs.Counts.{is_for, count_for, numbers_to, counts_of, count_at, agree_of, first_for}

-- ---- one number for each slot

pub numbers-length : (n : ℕ) (f : ℕ → ℕ) → length (numbers_to n f) ≡ n
unfolding numbers_to
numbers-length zero f = refl
numbers-length (suc n) f = rw (length-append, numbers-length n f) (omega arith)

pub numbers-at : (n : ℕ) (f : ℕ → ℕ) (i : ℕ) → i < n → get_or (numbers_to n f) i 0 ≡ f i
unfolding numbers_to
numbers-at zero f i h = absurd (omega arith)
numbers-at (suc n) f i h = go (numbers-at n f i) (eq-or-lt_of_le (le_of_suc-le-suc h))
  where
    go : (i < n → get_or (numbers_to n f) i 0 ≡ f i) → (i ≡ n) ⊎ (i < n) → get_or (numbers_to (suc n) f) i 0 ≡ f i
    go rest (inl e) = rw e (get_or_at (numbers_to n f) (f n) [] 0 n (numbers-length n f))
    go rest (inr l) = get_or-append (numbers_to n f) (f n ∷ []) 0 i (omega (arith, numbers-length n f)) ∙ rest l

pub counts-at : (p : Pool) (i : ℕ) → i < 64 → get_or (counts_of p) i 0 ≡ count_for (waiting p) i
unfolding counts_of
counts-at p i h = numbers-at 64 (count_for (waiting p)) i h

-- ---- a count, and a walk for the first

module _ (xs : List Message) (i : ℕ) where
  pub count_none : count_for xs i ≡ 0 → first_for xs i ≡ None
  unfolding count_for first_for
  count_none e = first-nothing (length xs) (is_for xs i) (λ q h. tally-zero (length xs) (is_for xs i) q e h)

  -- the way back
  pub none-count : first_for xs i ≡ None → count_for xs i ≡ 0
  unfolding count_for first_for
  none-count e = tally-none (length xs) (is_for xs i) (first-none (length xs) (is_for xs i) e)

  pub count-some : 0 < count_for xs i → is_found (first_for xs i) ≡ true
  count-some h = go (first_for xs i) refl
    where
      go : (r : Found) → first_for xs i ≡ r → is_found r ≡ true
      go (Some q) e = refl
      go None e = absurd (omega (arith, none-count e))

  pub some-count : is_found (first_for xs i) ≡ true → 0 < count_for xs i
  some-count e = go (count_for xs i) refl
    where
      go : (n : ℕ) → count_for xs i ≡ n → 0 < n
      go zero q = let z : is_found None ≡ true = rw (count_none q) at e in absurd (clash (sym z))
      go (suc n) q = omega arith

-- ---- counts that agree

module _ (c : List ℕ) (p : Pool) where
  pub agree_at : agree_of c p ≡ true → (i : ℕ) → i < 64 → get_or c i 0 ≡ count_for (waiting p) i
  unfolding agree_of
  agree_at e i h = eqb-true _ _ (each 64 (λ j. eqb (count_at c j) (count_for (waiting p) j)) i e h)

  pub agree_of_lem : ((i : ℕ) → i < 64 → get_or c i 0 ≡ count_for (waiting p) i) → agree_of c p ≡ true
  unfolding agree_of
  agree_of_lem f = all_of 64 (λ j. eqb (count_at c j) (count_for (waiting p) j)) (λ i h. eq-eqb _ _ (f i h))

-- ---- where each place that is counted is there, a walk over what waits is one over the places

module _ (p : Pool) (i : ℕ) where
  abbrev here : ℕ → Bool
  here q = eqb (message_at p q).dest i

  same_here : (q : ℕ) → q < p.count → is_for (waiting p) i q ≡ here q
  same_here q h = ap (λ (m : Message). eqb m.dest i) (waiting-at p q h)

  pub waiting-count : length (waiting p) ≡ p.count → count_for (waiting p) i ≡ tally p.count (λ q. eqb (message_at p q).dest i)
  unfolding count_for
  waiting-count e = rw e (tally-same p.count (is_for (waiting p) i) here same_here)

  pub waiting-first : length (waiting p) ≡ p.count → first_for (waiting p) i ≡ first_to p.count (λ q. eqb (message_at p q).dest i)
  unfolding first_for
  waiting-first e = rw e (first-same p.count (is_for (waiting p) i) here same_here)

-- ---- a call, by whether the counts agree

module _ (x : Counted) (len : ℕ) (e : agree_of x.counts x.pool ≡ true) where
  pub step-agreed : (a : Action) → after_by x.counts (step_of x.table x.pool len a) ≡ step_with x len a
  unfolding step_with
  step-agreed a = rw e

  pub wrote-agreed : (buf : List ℕ) → wrote_of x.table x.pool len buf ≡ wrote_with x len buf
  unfolding wrote_with
  wrote-agreed buf = rw e

  pub written-agreed : (buf : List ℕ) → written_of x.table x.pool len buf ≡ written_with x len buf
  unfolding written_with
  written-agreed buf = rw e

  pub rest-agreed : rest_of x.table x.pool len ≡ rest_with x len
  unfolding rest_with
  rest-agreed = rw e

module _ (x : Counted) (len : ℕ) (e : agree_of x.counts x.pool ≡ false) where
  pub step-disagreed : (a : Action) → refused_with x no.Invalid ≡ step_with x len a
  unfolding step_with
  step-disagreed a = rw e

  pub wrote-disagreed : (buf : List ℕ) → Err no.Invalid ≡ wrote_with x len buf
  unfolding wrote_with
  wrote-disagreed buf = rw e

  pub written-disagreed : (buf : List ℕ) → buf ≡ written_with x len buf
  unfolding written_with
  written-disagreed buf = rw e

  pub rest-disagreed : Err no.Invalid ≡ rest_with x len
  unfolding rest_with
  rest-disagreed = rw e
