-- What the table of numbers tells of a step: every step is answered with a number of its action (`step-numbers`), and what the table lacks is never answered.
-- Assumes nothing.
use Rattle.std.specs.Prelude.{Err}
use mathlib.Core.Path.{◌≡◌, refl, sym, ◌∙◌, ap}
use mathlib.Core.Logic.{◌⊎◌, inl, inr, ⊎_elim}
use mathlib.Core.Bool.{Bool, true, false, ◌&&◌, not}
use mathlib.Core.List.{List, [], ◌∷◌}
use Prim.Native.Nat.{ℕ, zero, suc, ◌≤◌}
use native.Mathlib.Omega.{arith}
use lib.Dec.{eqb}
use lib.ListN.{get_or}
use borrow.Author.Tests.{eqb-true, eqb-false, leb-true, not-true}
use Rattle.marks.proofs.Bools.{clash, and_left, and_right, or_right, or_cases}
use Rattle.rules.specs.declared.Pool.{Pool}
use Rattle.rules.specs.declared.Action.{Action}
use Rattle.rules.specs.declared.Action.TheVariants.{Take}
use Rattle.rules.specs.declared.Refusal.{Refusal}
use Rattle.rules.specs.declared.Refusal.TheVariants as no
use Rattle.rules.specs.Mail.{removed_at}
use Rattle.rules.specs.Numbers.{refusal_number, answer_number}
use Rattle.rules.specs.Pool.{message_at, waiting}
use Rattle.take.specs.Take.{plan_take}
use Rattle.table_type.specs.declared.Table.{Table}
use Rattle.table.specs.Settled.{dead_set}
use Rattle.table.specs.Settle.{refused_of, settle}
use Rattle.step.specs.Step.{taken_of, asked, is_sound, step_of}
use Rattle.table_type.specs.Table.{node_at, ids_of, ring_of}
use Rattle.table_laws.proofs.By.{RefusedFor, invalid, out_of_range, forbidden, full, by-step}
use Rattle.table_laws.proofs.Comes.{no-comes, go-comes}
use Rattle.table_laws.proofs.Numbers.{take_numbers, numbers_of, one_of, answers_of, Named, planned-named}

-- besides 10 for what is not valid and 1 for what is out of range, a step is refused with a number that its action names
pub data Refuses (t : Table) (p : Pool) (len : ℕ) (a : Action) (why : Refusal) : Type 0 where
  ten : is_sound t p len ≡ false → refusal_number why ≡ 10 → Refuses t p len a why
  one : refusal_number why ≡ 1 → Refuses t p len a why
  named : Named p a why → Refuses t p len a why

pub refuses : (t : Table) (p : Pool) (len : ℕ) (a : Action) (why : Refusal) → RefusedFor t p len a why → Refuses t p len a why
refuses t p len a why (invalid e) = ten e refl
refuses t p len a why (out_of_range s e) = one refl
refuses t p len a why (forbidden s e q) = named (no-comes (planned-named s a e) why q)
refuses t p len a why (full x s e q l) = named (go-comes (planned-named s a e) x q l)

pub named-low : (p : Pool) (a : Action) (why : Refusal) → Named p a why → refusal_number why ≤ 6
named-low p a why e = leb-true (refusal_number why) 6 (and_right (one_of (refusal_number why) (numbers_of p a)) _ e)

pub step-numbers : (t : Table) (p : Pool) (len : ℕ) (a : Action) → one_of (answer_number (step_of t p len a).answer) (answers_of p a) ≡ true
step-numbers t p len a =
    by-step (λ s. one_of (answer_number s.answer) (answers_of p a) ≡ true) t p len a (λ why r. refused why (refuses t p len a why r))
    (λ x d. refl)
  where
    refused : (why : Refusal) → Refuses t p len a why → one_of (refusal_number why) (answers_of p a) ≡ true
    refused why (ten s e) = rw e
    refused why (one e) = rw e
    refused why (named e) =
        let x = refusal_number why in
        or_right (eqb x 0) (or_right (eqb x 1) (or_right (eqb x 10) (and_left (one_of x (numbers_of p a)) _ e)))

-- ---- what the table lacks

abbrev all_of : {A : Type 0} → (A → Bool) → List A → Bool
all_of f [] = true
all_of f (x ∷ xs) = f x && all_of f xs

-- what holds of all holds of each
one_of_all : (f : ℕ → Bool) (x : ℕ) (xs : List ℕ) → one_of x xs ≡ true → all_of f xs ≡ true → f x ≡ true
one_of_all f x [] e all = absurd (clash (sym e))
one_of_all f x (y ∷ ys) e all =
    ⊎_elim (λ q. ap f (eqb-true x y q) ∙ and_left (f y) (all_of f ys) all)
    (λ q. one_of_all f x ys q (and_right (f y) (all_of f ys) all)) (or_cases (eqb x y) (one_of x ys) e)

row-of-all : (f : ℕ → Bool) (rows : List (List ℕ)) (k : ℕ) → all_of (all_of f) rows ≡ true → all_of f (get_or rows k []) ≡ true
row-of-all f [] k all = refl
row-of-all f (r ∷ rows) zero all = and_left (all_of f r) (all_of (all_of f) rows) all
row-of-all f (r ∷ rows) (suc k) all = row-of-all f rows k (and_right (all_of f r) (all_of (all_of f) rows) all)

abbrev other : ℕ → ℕ → Bool
other y x = not (eqb x y)

module _ (t : Table) (p : Pool) (len : ℕ) where
  -- no step answers 7, 8, 9 or 11
  pub step-number-low : (a : Action) → (answer_number (step_of t p len a).answer ≤ 6) ⊎ (answer_number (step_of t p len a).answer ≡ 10)
  step-number-low a =
      by-step (λ s. (answer_number s.answer ≤ 6) ⊎ (answer_number s.answer ≡ 10)) t p len a
      (λ why r. refused why (refuses t p len a why r)) (λ x d. inl (omega arith))
    where
      refused : (why : Refusal) → Refuses t p len a why → (refusal_number why ≤ 6) ⊎ (refusal_number why ≡ 10)
      refused why (ten s e) = inr e
      refused why (one e) = inl (omega arith)
      refused why (named e) = inl (named-low p a why e)

  module _ (place : ℕ) where
    not-answered : (y : ℕ) → all_of (other y) (answers_of p (Take place)) ≡ true
        → answer_number (step_of t p len (Take place)).answer ≡ y → ⊥
    not-answered y all =
        let x = answer_number (step_of t p len (Take place)).answer in
        eqb-false x y (not-true (eqb x y) (one_of_all (other y) x (answers_of p (Take place)) (step-numbers t p len (Take place)) all))

    -- Take is never refused with 3
    pub take-not-3 : answer_number (step_of t p len (Take place)).answer ≡ 3 → ⊥
    take-not-3 = not-answered 3 (row-of-all (other 3) take_numbers (message_at p place).kind refl)

    -- Take of a Lookup, JoinRequest, NoLegalRoute, LeaseRequest or BroadcastLSet is never refused with 6
    pub take-not-6 : one_of (message_at p place).kind (1 ∷ 2 ∷ 6 ∷ 7 ∷ 8 ∷ []) ≡ true
        → answer_number (step_of t p len (Take place)).answer ≡ 6 → ⊥
    take-not-6 h =
        not-answered 6
        (one_of_all (λ k. all_of (other 6) (get_or take_numbers k [])) (message_at p place).kind (1 ∷ 2 ∷ 6 ∷ 7 ∷ 8 ∷ []) h refl)

    -- 6. 5 always: the Take of a NoLegalRoute is never done
    pub take-kind-6 : is_sound t p len ≡ true → (asked t p (Take place)).range ≡ true → (message_at p place).kind ≡ 6
        → step_of t p len (Take place) ≡ refused_of t p no.Partner
    unfolding step_of settle plan_take
    take-kind-6 s r k =
        let m = message_at p place in
        let plan : taken_of t m ≡ Err no.Partner =
        ap (λ (kind : ℕ). plan_take kind (ring_of t) (ids_of t) (dead_set t) m.dest (node_at t m.dest) m) k in
        rw (s, r) (ap (settle t p (removed_at (waiting p) place) m.dest) plan)
