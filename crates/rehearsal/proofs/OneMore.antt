-- One claim handed over, and what follows at once: a checker that is not open stays as it is, so one that has ended stays so whatever is
-- handed over; one that has found k steps good, fewer than the most, finds one more good or ends there. Assumes nothing.
use mathlib.Core.Path.{◌≡◌, refl, sym, ◌∙◌, ap}
use mathlib.Core.Bool.{Bool, true, false}
use mathlib.Core.List.{List, [], ◌∷◌}
use mathlib.Core.Logic.{◌⊎◌, inl, inr, ⊎_elim, ◌↔◌}
use Prim.Native.Nat.{ℕ, suc, ◌<◌, ◌≤◌}
use native.Mathlib.Omega.{arith}
use borrow.Author.Tests.{lt-ltb, le-ltb}
use Rattle.marks.proofs.Bools.{lt-or-le}
use Rattle.rules.specs.declared.Action.{Action}
use Rattle.rules.specs.declared.Pool.{Pool}
use Rattle.table_type.specs.declared.Table.{Table}
use Rattle.step.specs.Step.{step_of}
use Rattle.rehearsal.specs.Rehearsal.{Verdict}
use Rattle.std.specs.Prelude.{Ok, Err}
use Rattle.rehearsal.specs.declared.Checker.{Checker}
use Rattle.rehearsal.specs.declared.Handed.{Handed}
use Rattle.rehearsal.specs.declared.Reply.TheVariants.{LookedAt, Over}
use Rattle.rehearsal.specs.Rehearsal.{Claim, most_steps, is_open, checked_of, handed_of, reply_number}
use Rattle.rehearsal.specs.Claims.{made, Agrees, handed_over, EndStays, Ended, OverAlways, OverKeeps}
use Rattle.rehearsal.proofs.SameFiles.{agrees-exactly, agrees-not}
use Rattle.rehearsal.proofs.Whole.{not-bad}

module _ (c : Checker) (a : Action) (file : List ℕ) where
  pub open-takes : is_open c.verdict c.steps ≡ true
      → handed_of c a file ≡ record { reply = LookedAt; checker = checked_of c (step_of c.table c.pool 256 a) file }
  unfolding handed_of
  open-takes e = rw e

  pub shut-stays : is_open c.verdict c.steps ≡ false → handed_of c a file ≡ record { reply = Over; checker = c }
  unfolding handed_of
  shut-stays e = rw e

pub ended-shut : (c : Checker) (k : ℕ) → c.verdict ≡ Err k → is_open c.verdict c.steps ≡ false
ended-shut c k e = rw e

pub over-keeps : OverKeeps
over-keeps c a file e = go (is_open c.verdict c.steps) refl
  where
    go : (b : Bool) → is_open c.verdict c.steps ≡ b → (handed_of c a file).checker ≡ c
    go true o =
        let taken : LookedAt ≡ Over = ap (λ (h : Handed). h.reply) (sym (open-takes c a file o)) ∙ e in
        let z : ◌≡◌ {A = ℕ} 0 1 = cc in
        absurd (omega arith)
    go false o = ap (λ (h : Handed). h.checker) (shut-stays c a file o)

pub over-always : OverAlways
over-always c a file = go c.verdict refl (lt-or-le c.steps most_steps)
  where
    over : is_open c.verdict c.steps ≡ false → reply_number (handed_of c a file).reply ≡ 12
    over e = ap (λ (h : Handed). reply_number h.reply) (shut-stays c a file e)

    go : (v : Verdict) → c.verdict ≡ v → (c.steps < most_steps) ⊎ (most_steps ≤ c.steps)
        → (reply_number (handed_of c a file).reply ≡ 12) ↔ (Ended c.verdict ⊎ (most_steps ≤ c.steps))
    go (Err k) e any = (λ n. inl (k, e), λ h. over (ended-shut c k e))
    go (Ok x) e (inr l) = (λ n. inr l, λ h. over (rw e (le-ltb c.steps most_steps l)))
    go (Ok x) e (inl l) =
        let zero : reply_number (handed_of c a file).reply ≡ 0 =
        ap (λ (h : Handed). reply_number h.reply) (open-takes c a file (rw e (lt-ltb c.steps most_steps l)))
        in (
          λ n. absurd (omega arith),
          ⊎_elim (λ b. absurd (not-bad (sym e ∙ b.1))) (λ m. absurd (omega arith)),
        )

pub end_stays : EndStays
end_stays c k [] e = refl
end_stays c k (x ∷ xs) e =
    let stays = shut-stays c x.action x.file (ended-shut c k e) in
    ap (λ (h : Handed). handed_over h.checker xs) stays ∙ end_stays c k xs e

-- ---- where all was good so far

-- the checker that has found k steps good, and the one that then met a bad one
abbrev pub good : ℕ → Table → Pool → Checker
good k t p = record { verdict = Ok tt; steps = k; table = t; pool = p }

abbrev pub bad : ℕ → Table → Pool → Checker
bad k t p = record { verdict = Err (suc k); steps = k; table = t; pool = p }

module _ (k : ℕ) (t : Table) (p : Pool) (x : Claim) where
  pub full-stays : most_steps ≤ k → handed_of (good k t p) x.action x.file ≡ record { reply = Over; checker = good k t p }
  full-stays l = shut-stays (good k t p) x.action x.file (le-ltb k most_steps l)

  taken : k < most_steps → (handed_of (good k t p) x.action x.file).checker ≡ checked_of (good k t p) (made t p x) x.file
  taken l = ap (λ (h : Handed). h.checker) (open-takes (good k t p) x.action x.file (lt-ltb k most_steps l))

  pub good-next : k < most_steps → Agrees t p x
      → (handed_of (good k t p) x.action x.file).checker ≡ good (suc k) (made t p x).table (made t p x).pool
  unfolding checked_of
  good-next l a = taken l ∙ rw ((agrees-exactly t p x).1 a)

  pub bad-next : k < most_steps → (Agrees t p x → ⊥) → (handed_of (good k t p) x.action x.file).checker ≡ bad k t p
  unfolding checked_of
  bad-next l n = taken l ∙ rw (agrees-not t p x n)
