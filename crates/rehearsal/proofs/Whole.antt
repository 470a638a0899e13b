-- A whole rehearsal: what its verdict says of the claims, from any table, the first of them having any number j. Either all hold and are
-- accepted, or there is a first bad one, after k that hold, and its number j + k is said (`looked-through`). Both cannot be, nor can two be
-- first (`none-bad`, `one-first`), so each verdict is said exactly if its case holds. Assumes nothing.
use Rattle.rules.specs.Shapes.{Answer}
use mathlib.Core.Path.{◌≡◌, refl, sym, ◌∙◌, ap}
use mathlib.Core.List.{List, [], ◌∷◌}
use mathlib.Core.Logic.{◌⊎◌, inl, inr, ⊎_elim, ◌↔◌}
use Prim.Native.Nat.{ℕ, zero, suc, ◌+◌, ◌≤◌}
use native.Mathlib.Omega.{arith}
use lib.ListN.{length, take}
use lib.Seq.{take_all}
use Rattle.marks.proofs.Bools.{lt-or-le}
use Rattle.rules.specs.declared.Pool.{Pool}
use Rattle.table_type.specs.declared.Table.{Table}
use Rattle.face.proofs.Laid.{not_done}
use Rattle.face.specs.Calls.{loaded_of}
use Rattle.std.specs.Prelude.{Ok, Err}
use Rattle.rehearsal.specs.Rehearsal.{Claim, Verdict, verdict_from, verdict_of}
use Rattle.rehearsal.specs.Claims.{Loads, made, Agrees, Holds, AcceptedExactly, FirstBadAt, FirstBad, StartBad}
use Rattle.rehearsal.proofs.SameFiles.{agrees-exactly, agrees-not, agrees-or-not}

pub not-bad : {k : ℕ} → ◌≡◌ {A = Verdict} (Ok tt) (Err k) → ⊥
not-bad e = let z : ◌≡◌ {A = ℕ} 0 1 = cc in omega arith

bad-same : {j k : ℕ} → ◌≡◌ {A = Verdict} (Err j) (Err k) → j ≡ k
bad-same e = cc

-- ---- fewer claims

fewer-hold : (cs : List Claim) (t : Table) (p : Pool) (j k : ℕ) → j ≤ k → Holds t p (take k cs) → Holds t p (take j cs)
fewer-hold cs t p zero k l h = tt
fewer-hold [] t p (suc j) k l h = tt
fewer-hold (c ∷ cs) t p (suc j) zero l h = absurd (omega arith)
fewer-hold (c ∷ cs) t p (suc j) (suc k) l h = (h.0, fewer-hold cs (made t p c).table (made t p c).pool j k (omega arith) h.1)

module _ (cs : List Claim) (t : Table) (p : Pool) where
  any-hold : (k : ℕ) → Holds t p cs → Holds t p (take k cs)
  any-hold k h = fewer-hold cs t p k (k + length cs) (omega arith) (rw (take_all (k + length cs) cs (omega arith)) h)

  -- where all hold none is bad
  none-bad : (k : ℕ) → Holds t p cs → FirstBadAt t p cs k → ⊥
  none-bad k h f = f.bad (any-hold (suc k) h)

  -- none is bad before the first
  not-before : (j k : ℕ) → FirstBadAt t p cs j → FirstBadAt t p cs k → k ≤ j
  not-before j k f g = ⊎_elim (λ l. absurd (f.bad (fewer-hold cs t p (suc j) k l g.before))) (λ l. l) (lt-or-le j k)

  one-first : (j k : ℕ) → FirstBadAt t p cs j → FirstBadAt t p cs k → j ≡ k
  one-first j k f g = omega (arith, not-before j k f g, not-before k j g f)

-- ---- one claim, then all

module _ (j : ℕ) (t : Table) (p : Pool) (c : Claim) (cs : List Claim) where
  pub goes_on : Agrees t p c → verdict_from j t p (c ∷ cs) ≡ verdict_from (suc j) (made t p c).table (made t p c).pool cs
  unfolding verdict_from
  goes_on a = rw ((agrees-exactly t p c).1 a)

  pub ends_there : (Agrees t p c → ⊥) → verdict_from j t p (c ∷ cs) ≡ Err j
  unfolding verdict_from
  ends_there n = rw (agrees-not t p c n)

-- all hold and are accepted, or the number of the first bad one is said
abbrev Looked : ℕ → Table → Pool → List Claim → Type 0
Looked j t p cs =
    (Holds t p cs × (verdict_from j t p cs ≡ Ok tt)) ⊎ ((k : ℕ) × FirstBadAt t p cs k × (verdict_from j t p cs ≡ Err (j + k)))

looked-through : (cs : List Claim) (j : ℕ) (t : Table) (p : Pool) → Looked j t p cs
unfolding verdict_from
looked-through [] j t p = inl (tt, refl)
looked-through (c ∷ cs) j t p = go (agrees-or-not t p c) (looked-through cs (suc j) (made t p c).table (made t p c).pool)
  where
    go : Agrees t p c ⊎ (Agrees t p c → ⊥) → Looked (suc j) (made t p c).table (made t p c).pool cs → Looked j t p (c ∷ cs)
    go (inl a) (inl (h, e)) = inl ((a, h), goes_on j t p c cs a ∙ e)
    go (inl a) (inr (k, f, e)) =
        let later : FirstBadAt t p (c ∷ cs) (suc k) =
        record { listed = omega (arith, f.listed); before = (a, f.before); bad = λ h. f.bad h.1 }
        in
        inr (suc k, later, goes_on j t p c cs a ∙ e ∙ ap (λ (n : ℕ). Err n) (omega arith))
    go (inr n) rest =
        let here : FirstBadAt t p (c ∷ cs) zero = record { listed = omega arith; before = tt; bad = λ h. n h.0 } in
        inr (zero, here, ends_there j t p c cs n ∙ ap (λ (n : ℕ). Err n) (omega arith))

module _ (cs : List Claim) (j : ℕ) (t : Table) (p : Pool) where
  accepted-from : (verdict_from j t p cs ≡ Ok tt) ↔ Holds t p cs
  accepted-from = (λ v. go v (looked-through cs j t p), λ h. back h (looked-through cs j t p))
    where
      go : verdict_from j t p cs ≡ Ok tt → Looked j t p cs → Holds t p cs
      go v (inl (h, e)) = h
      go v (inr (k, f, e)) = absurd (not-bad (sym v ∙ e))

      back : Holds t p cs → Looked j t p cs → verdict_from j t p cs ≡ Ok tt
      back h (inl (all, e)) = e
      back h (inr (k, f, e)) = absurd (none-bad cs t p k h f)

  bad-from : (k : ℕ) → (verdict_from j t p cs ≡ Err (j + k)) ↔ FirstBadAt t p cs k
  bad-from k = (λ v. go v (looked-through cs j t p), λ f. back f (looked-through cs j t p))
    where
      go : verdict_from j t p cs ≡ Err (j + k) → Looked j t p cs → FirstBadAt t p cs k
      go v (inl (h, e)) = absurd (not-bad (sym e ∙ v))
      go v (inr (i, f, e)) = let same : i ≡ k = omega (arith, bad-same (sym e ∙ v)) in rw same at f

      back : FirstBadAt t p cs k → Looked j t p cs → verdict_from j t p cs ≡ Err (j + k)
      back f (inl (h, e)) = absurd (none-bad cs t p k h f)
      back f (inr (i, g, e)) = e ∙ ap (λ (n : ℕ). Err n) (omega (arith, one-first cs t p i k g f))

  -- the number 0 is not said of a claim
  not-zero : verdict_from (suc j) t p cs ≡ Err 0 → ⊥
  not-zero v = go (looked-through cs (suc j) t p)
    where
      go : Looked (suc j) t p cs → ⊥
      go (inl (h, e)) = not-bad (sym e ∙ v)
      go (inr (k, f, e)) = omega (arith, bad-same (sym e ∙ v))

-- ---- with the start

-- it loads and the claims are looked at, or it does not and 0 is said
abbrev pub Started : List ℕ → List Claim → Type 0
Started start cs =
    (Loads start × (verdict_of start cs ≡ verdict_from 1 (loaded_of start).table (loaded_of start).pool cs))
    ⊎ ((Loads start → ⊥) × (verdict_of start cs ≡ Err 0))

pub started : (start : List ℕ) (cs : List Claim) → Started start cs
unfolding verdict_of
started start cs = go (loaded_of start).answer refl
  where
    go : (w : Answer) → (loaded_of start).answer ≡ w → Started start cs
    go (Ok tt) e = inl (e, rw e)
    go (Err why) e = inr (not_done e, rw e)

pub accepted-exactly : AcceptedExactly
accepted-exactly start cs = go (started start cs)
  where
    go : Started start cs → (verdict_of start cs ≡ Ok tt) ↔ (Loads start × Holds (loaded_of start).table (loaded_of start).pool cs)
    go (inl (l, e)) =
        let x = accepted-from cs 1 (loaded_of start).table (loaded_of start).pool in
        (λ v. (l, x.0 (sym e ∙ v)), λ h. e ∙ x.1 h.1)
    go (inr (n, e)) = (λ v. absurd (not-bad (sym v ∙ e)), λ h. absurd (n h.0))

pub first-bad : FirstBad
first-bad start cs k = go (started start cs)
  where
    go : Started start cs
        → (verdict_of start cs ≡ Err (suc k)) ↔ (Loads start × FirstBadAt (loaded_of start).table (loaded_of start).pool cs k)
    go (inl (l, e)) =
        let x = bad-from cs 1 (loaded_of start).table (loaded_of start).pool k in
        let same : ◌≡◌ {A = Verdict} (Err (1 + k)) (Err (suc k)) = ap (λ (n : ℕ). Err n) (omega arith) in
        (λ v. (l, x.0 (sym e ∙ v ∙ sym same)), λ h. e ∙ x.1 h.1 ∙ same)
    go (inr (n, e)) = (λ v. absurd (omega (arith, bad-same (sym e ∙ v))), λ h. absurd (n h.0))

pub start-bad : StartBad
start-bad start cs = go (started start cs)
  where
    go : Started start cs → (verdict_of start cs ≡ Err 0) ↔ (Loads start → ⊥)
    go (inl (l, e)) = (λ v. absurd (not-zero cs 0 (loaded_of start).table (loaded_of start).pool (sym e ∙ v)), λ n. absurd (n l))
    go (inr (n, e)) = (λ v. n, λ m. e)
