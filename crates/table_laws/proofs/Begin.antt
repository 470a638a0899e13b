-- A start is valid and settled: the table that a done start leaves is valid, with no message waiting, and settled; and a start is done,
-- answers 8 or answers 10 exactly as Answers says. For all numbers; settled asks that A is a word of 64 marks. Assumes nothing.
use Rattle.std.specs.Prelude.{Result, Ok, Err}
use mathlib.Core.Path.{◌≡◌, refl, sym, ◌∙◌, ap}
use mathlib.Core.Logic.{◌⊎◌, inl, inr, ◌↔◌}
use mathlib.Core.List.{List, []}
use mathlib.Core.Bool.{true, false}
use Prim.Native.Nat.{ℕ, ◌^◌, ◌<◌}
use native.Mathlib.Omega.{arith}
use borrow.Author.Tests.{ne_eqb}
use lib.ListN.{length}
use Rattle.marks.proofs.Bools.{and_both, false-not, bool_cases, opposed}
use Rattle.marks.specs.Marks.{all_to}
use Rattle.marks.proofs.Laws.{all_of}
use Rattle.rules.specs.declared.Refusal.{Refusal}
use Rattle.rules.specs.declared.Refusal.TheVariants as no
use Rattle.rules.specs.Mail.{all_different}
use Rattle.rules.specs.Pool.{laid}
use Rattle.table_type.specs.declared.Table.{Table}
use Rattle.table.specs.Settled.{ready_set, is_settled}
use Rattle.start.specs.Start.{slot_ids, start_fits, list_fits}
use Rattle.table_type.specs.Start.{start_of, start_number, table_of}
use Rattle.table_type.proofs.Starts.{StartFits, ListFits, start_fits_lem, list-fits, start-header, start-invalid, start-done}
use Rattle.table.specs.Valid.{valid_of}
use Rattle.table_laws.proofs.Sound.{Sound, sound-valid}
use Rattle.table_laws.proofs.Started.{made, made-blank, made-listed, made-fits, made-ready, made-calm, made-settled}
use Rattle.table_laws.proofs.Legal.{Legal, fits-start, list-legal, legal-list}

-- ---- the three outcomes

data Outcome (m l : ℕ) (ids : List ℕ) (a : ℕ) : Type 0 where
  made-it : StartFits m l (length ids) → ListFits m (length ids) (slot_ids ids) a
      → start_of m l ids a ≡ Ok (made m l ids a) → Outcome m l ids a
  out_of_range : (StartFits m l (length ids) → ⊥) → start_of m l ids a ≡ Err no.Header → Outcome m l ids a
  not-legal : StartFits m l (length ids) → (Legal m ids a → ⊥) → start_of m l ids a ≡ Err no.Invalid → Outcome m l ids a

outcome : (m l : ℕ) (ids : List ℕ) (a : ℕ) → Outcome m l ids a
outcome m l ids a = go (bool_cases (start_fits m l (length ids))) (bool_cases (list_fits m (length ids) (slot_ids ids) a))
  where
    go : (start_fits m l (length ids) ≡ true) ⊎ (start_fits m l (length ids) ≡ false)
        → (list_fits m (length ids) (slot_ids ids) a ≡ true) ⊎ (list_fits m (length ids) (slot_ids ids) a ≡ false) → Outcome m l ids a
    go (inl p) (inl q) = made-it (start_fits_lem m l (length ids) p) (list-fits m (length ids) (slot_ids ids) a q) (start-done m l ids a p q)
    go (inl p) (inr q) =
        let f = start_fits_lem m l (length ids) p in
        not-legal f (λ g. opposed (legal-list m ids a f.n-high g) q) (start-invalid m l ids a p q)
    go (inr p) o = out_of_range (λ f. opposed (fits-start m l (length ids) f) p) (start-header m l ids a p)

-- 01's number of what a start answers
abbrev pub answered : ℕ → ℕ → List ℕ → ℕ → ℕ
answered m l ids a = start_number (start_of m l ids a)

numbered : (m l : ℕ) (ids : List ℕ) (a : ℕ) (r : Result Table Refusal) → start_of m l ids a ≡ r → answered m l ids a ≡ start_number r
numbered m l ids a r q = ap start_number q

-- ---- the table of a start that passes the tests

none_differ : all_different [] ≡ true
unfolding all_different all_to
none_differ = refl

module _ (m l : ℕ) (ids : List ℕ) (a : ℕ) (f : StartFits m l (length ids)) (e : ListFits m (length ids) (slot_ids ids) a) where
  made-sound : Sound (made m l ids a) (laid [])
  made-sound =
      record {
        numbers = record {
          m-low = f.m-low;
          m-high = f.m-high;
          l-low = f.l-low;
          l-high = f.l-high;
          n-low = f.n-low;
          n-high = f.n-high;
        };
        listed = made-listed m l ids a f e;
        node = made-fits m l ids a f e;
        blank = made-blank m l ids a f e;
        counted = omega arith;
        message = λ q h. absurd (omega arith);
        hops = λ q h. absurd (omega arith);
        different = none_differ;
      }

  all_settled : a < 2 ^ 64 → is_settled (made m l ids a) ≡ true
  unfolding is_settled
  all_settled h =
      and_both (false-not (ne_eqb (ready_set (made m l ids a)) 0 (λ z. e.some (sym (made-ready m l ids a f e h) ∙ z))))
      (and_both (all_of (length ids) _ (made-calm m l ids a f e)) (all_of (length ids) _ (made-settled m l ids a f e h)))

-- ---- the theorems

pub start-valid : (m l : ℕ) (ids : List ℕ) (a : ℕ) (t : Table) → start_of m l ids a ≡ Ok t → valid_of t (laid []) ≡ true
start-valid m l ids a t d = go (outcome m l ids a)
  where
    go : Outcome m l ids a → valid_of t (laid []) ≡ true
    go (made-it f e q) = rw (ap table_of (sym d ∙ q)) (sound-valid (made-sound m l ids a f e))
    go (out_of_range n q) = absurd (omega (arith, ap start_number d, numbered m l ids a _ q))
    go (not-legal f n q) = absurd (omega (arith, ap start_number d, numbered m l ids a _ q))

pub start-settled : (m l : ℕ) (ids : List ℕ) (a : ℕ) (t : Table) → a < 2 ^ 64 → start_of m l ids a ≡ Ok t → is_settled t ≡ true
start-settled m l ids a t h d = go (outcome m l ids a)
  where
    go : Outcome m l ids a → is_settled t ≡ true
    go (made-it f e q) = rw (ap table_of (sym d ∙ q)) (all_settled m l ids a f e h)
    go (out_of_range n q) = absurd (omega (arith, ap start_number d, numbered m l ids a _ q))
    go (not-legal f n q) = absurd (omega (arith, ap start_number d, numbered m l ids a _ q))

-- done exactly for numbers in range and a legal list; 8 for numbers out of range; 10 for numbers in range and a list that is not legal
pub record Answers (m l : ℕ) (ids : List ℕ) (a : ℕ) : Type 0 where
  pub done : answered m l ids a ≡ 0 ↔ (StartFits m l (length ids) × Legal m ids a)
  pub eight : answered m l ids a ≡ 8 ↔ (StartFits m l (length ids) → ⊥)
  pub ten : answered m l ids a ≡ 10 ↔ (StartFits m l (length ids) × (Legal m ids a → ⊥))

pub start-refuses : (m l : ℕ) (ids : List ℕ) (a : ℕ) → Answers m l ids a
start-refuses m l ids a = go (outcome m l ids a)
  where
    go : Outcome m l ids a → Answers m l ids a
    go (made-it f e q) =
        let z : answered m l ids a ≡ 0 = numbered m l ids a _ q in
        let g = list-legal m ids a f.n-high e in
        record {
          done = (λ _. (f, g), λ _. z);
          eight = (λ y. absurd (omega arith), λ n. absurd (n f));
          ten = (λ y. absurd (omega arith), λ w. absurd (w.1 g));
        }
    go (out_of_range n q) =
        let z : answered m l ids a ≡ 8 = numbered m l ids a _ q in
        record {
          done = (λ y. absurd (omega arith), λ w. absurd (n w.0));
          eight = (λ _. n, λ _. z);
          ten = (λ y. absurd (omega arith), λ w. absurd (n w.0));
        }
    go (not-legal f n q) =
        let z : answered m l ids a ≡ 10 = numbered m l ids a _ q in
        record {
          done = (λ y. absurd (omega arith), λ w. absurd (n w.1));
          eight = (λ y. absurd (omega arith), λ k. absurd (k f));
          ten = (λ _. (f, n), λ _. z);
        }
