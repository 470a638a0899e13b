-- The number answered to one more claim: 12 after an end or beyond the most steps, 0 before both. The idea: while all is good the checker
-- has counted every claim, up to the most steps; an end, after which it counts none, is told by its verdict. Assumes nothing.
use mathlib.Core.Path.{◌≡◌, refl, sym, ◌∙◌, ap}
use mathlib.Core.Bool.{true, false}
use mathlib.Core.List.{List}
use mathlib.Core.Logic.{◌⊎◌, inl, inr, ⊎_elim, ◌↔◌}
use Prim.Native.Nat.{ℕ, ◌<◌, ◌≤◌}
use native.Mathlib.Omega.{arith}
use borrow.Author.Tests.{lt-ltb, le-ltb}
use lib.ListN.{length, take, length-take}
use lib.Seq.{length-take-le}
use Rattle.marks.proofs.Bools.{lt-or-le}
use Rattle.rehearsal.specs.Rehearsal.{Verdict}
use Rattle.std.specs.Prelude.{Ok, Err}
use Rattle.rehearsal.specs.declared.Handed.{Handed}
use Rattle.rehearsal.specs.Rehearsal.{Claim, most_steps, is_open, reply_number}
use Rattle.rehearsal.specs.Claims.{checker_of, Ended, answered, OverExactly, LookedAtExactly}
use Rattle.rehearsal.proofs.Whole.{not-bad}
use Rattle.rehearsal.proofs.OneMore.{open-takes, shut-stays, ended-shut}
use Rattle.rehearsal.proofs.Singly.{Handing, handing}

-- a claim is not looked at, after an end or beyond the most steps; or it is, before both
abbrev Asked : List ℕ → List Claim → Claim → Type 0
Asked start cs x =
    ((Ended (checker_of start cs).verdict ⊎ (most_steps ≤ length cs)) × (answered start cs x ≡ 12))
    ⊎ (((checker_of start cs).verdict ≡ Ok tt) × (length cs < most_steps) × (answered start cs x ≡ 0))

module _ (start : List ℕ) (cs : List Claim) (x : Claim) where
  shut-over : is_open (checker_of start cs).verdict (checker_of start cs).steps ≡ false → answered start cs x ≡ 12
  shut-over e = ap (λ (h : Handed). reply_number h.reply) (shut-stays (checker_of start cs) x.action x.file e)

  open-taken : is_open (checker_of start cs).verdict (checker_of start cs).steps ≡ true → answered start cs x ≡ 0
  open-taken e = ap (λ (h : Handed). reply_number h.reply) (open-takes (checker_of start cs) x.action x.file e)

  counted : Handing start cs → (checker_of start cs).verdict ≡ Ok tt → (checker_of start cs).steps ≡ length (take most_steps cs)
  counted (inl (l, r)) v = r.steps v ∙ omega arith
  counted (inr (n, b)) v = absurd (not-bad (sym v ∙ b))

  asked : Asked start cs x
  asked = go (checker_of start cs).verdict refl (lt-or-le (length cs) most_steps)
    where
      go : (v : Verdict) → (checker_of start cs).verdict ≡ v → (length cs < most_steps) ⊎ (most_steps ≤ length cs) → Asked start cs x
      go (Err k) e any = inl (inl (k, e), shut-over (ended-shut (checker_of start cs) k e))
      go (Ok x) e (inl l) =
          let n : (checker_of start cs).steps < most_steps = omega (arith, counted (handing start cs) e, length-take most_steps cs) in
          inr (e, l, open-taken (rw e (lt-ltb (checker_of start cs).steps most_steps n)))
      go (Ok x) e (inr l) =
          let n : most_steps ≤ (checker_of start cs).steps = omega (arith, counted (handing start cs) e, length-take-le most_steps cs l) in
          inl (inr l, shut-over (rw e (le-ltb (checker_of start cs).steps most_steps n)))

pub over-exactly : OverExactly
over-exactly start cs x = go (asked start cs x)
  where
    go : Asked start cs x → (answered start cs x ≡ 12) ↔ (Ended (checker_of start cs).verdict ⊎ (most_steps ≤ length cs))
    go (inl (why, e)) = (λ a. why, λ h. e)
    go (inr (v, l, e)) = (
      λ a. absurd (omega arith),
      ⊎_elim (λ b. absurd (not-bad (sym v ∙ b.1))) (λ m. absurd (omega arith)),
    )

pub looked-at-exactly : LookedAtExactly
looked-at-exactly start cs x = go (asked start cs x)
  where
    go : Asked start cs x → (answered start cs x ≡ 0) ↔ (((checker_of start cs).verdict ≡ Ok tt) × (length cs < most_steps))
    go (inl (inl (k, b), e)) = (λ a. absurd (omega arith), λ h. absurd (not-bad (sym h.0 ∙ b)))
    go (inl (inr l, e)) = (λ a. absurd (omega arith), λ h. absurd (omega (arith, h.1)))
    go (inr (v, l, e)) = (λ a. (v, l), λ h. e)
