-- `asked` meets its contract: the action that was matched decides the definition's case (Asks). Assumes nothing.
use mathlib.Core.Bool.{true, false}
use mathlib.Core.Path.{◌≡◌, refl, sym, ◌∙◌}
use Prim.Native.Nat.{ℕ, ◌*◌, ◌%◌, ◌^◌, ◌≤◌}
use native.Mathlib.Nat.{one-mul}
use native.Mathlib.Omega.{arith}
use lib.Dec.{ltb, lit<}
use lib.Pow.{shl_exact}
use Rattle.marks.proofs.Bools.{clash}
use Rattle.step.specs.Step.{taken_of, delivered_of, forwarded_of}
use Rattle.table_plan.proofs.Asks.{requests-asks, acts-asks, takes-asks, times-asks, lookup-fresh, join-fresh}
use Rattle.table_plan.proofs.asked.Goals as goal

-- a one shifted by less than the width loses nothing
size : (m : ℕ) → m ≤ 32 → 1 * 2 ^ m % 2 ^ 64 ≡ 2 ^ m
size m h = shl_exact 1 m 64 (lit< tt) (omega arith) ∙ one-mul (2 ^ m)

pub returns-in-Lookup : goal.returns-in-Lookup
returns-in-Lookup c = rw (c.requests.ensures, c.in-Lookup.is, size _ c.requires)
    (requests-asks _ _ _ _ _ (λ m n. ltb _ (2 ^ m)) true _ _ (λ t p. refl) (λ _ t p x h. lookup-fresh t p x h _ _))

pub returns-in-Join : goal.returns-in-Join
returns-in-Join c = rw (c.requests-in-Join.ensures, c.in-Join.is)
    (requests-asks _ _ _ _ _ (λ m n. ltb _ n) true _ _ (λ t p. refl) (λ _ t p x h. join-fresh t p x h _ _))

pub returns-in-RequestLease : goal.returns-in-RequestLease
returns-in-RequestLease c = rw (c.acts.ensures, c.in-RequestLease.is) (acts-asks _ _ _ _ _ (λ m n. true) _ (λ t p. refl))

pub returns-in-LeaseExpired : goal.returns-in-LeaseExpired
returns-in-LeaseExpired c = rw (c.acts-in-LeaseExpired.ensures, c.in-LeaseExpired.is) (acts-asks _ _ _ _ _ (λ m n. ltb _ n) _ (λ t p. refl))

pub returns-in-GrantExpired : goal.returns-in-GrantExpired
returns-in-GrantExpired c = rw (c.acts-in-GrantExpired.ensures, c.in-GrantExpired.is) (acts-asks _ _ _ _ _ (λ m n. ltb _ n) _ (λ t p. refl))

pub returns-in-Take : goal.returns-in-Take
returns-in-Take c = rw (c.takes.ensures, c.in-Take.is) (takes-asks _ _ _ _ _ taken_of (λ t p. refl))

pub returns-in-Deliver : goal.returns-in-Deliver
returns-in-Deliver c = rw (c.takes-in-Deliver.ensures, c.in-Deliver.is) (takes-asks _ _ _ _ _ delivered_of (λ t p. refl))

pub returns-in-Forward : goal.returns-in-Forward
returns-in-Forward c = rw (c.takes-in-Forward.ensures, c.in-Forward.is) (takes-asks _ _ _ _ _ forwarded_of (λ t p. refl))

pub returns-in-NodeLeft : goal.returns-in-NodeLeft
returns-in-NodeLeft c = rw (c.acts-in-NodeLeft.ensures, c.in-NodeLeft.is) (acts-asks _ _ _ _ _ (λ m n. true) _ (λ t p. refl))

pub returns-in-SuspectFaulty : goal.returns-in-SuspectFaulty
returns-in-SuspectFaulty c = rw (c.acts-in-SuspectFaulty.ensures, c.in-SuspectFaulty.is) (acts-asks _ _ _ _ _ (λ m n. ltb _ n) _ (λ t p. refl))

pub returns-in-ProbeTimeOut : goal.returns-in-ProbeTimeOut
returns-in-ProbeTimeOut c = rw (c.times.ensures, c.in-ProbeTimeOut.is) (times-asks _ _ _ _ _)

pub returns-in-DeclareDead : goal.returns-in-DeclareDead
returns-in-DeclareDead c = rw (c.acts-in-DeclareDead.ensures, c.in-DeclareDead.is) (acts-asks _ _ _ _ _ (λ m n. ltb _ n) _ (λ t p. refl))

pub returns-in-LSRepair : goal.returns-in-LSRepair
returns-in-LSRepair c = rw (c.acts-in-LSRepair.ensures, c.in-LSRepair.is) (acts-asks _ _ _ _ _ (λ m n. true) _ (λ t p. refl))

pub returns-in-ResignNode : goal.returns-in-ResignNode
returns-in-ResignNode c = rw (c.requests-in-ResignNode.ensures, c.in-ResignNode.is)
    (requests-asks _ _ _ _ _ (λ m n. ltb _ n) false _ _ (λ t p. refl) (λ e. absurd (clash (sym e))))

pub returns-in-Recover : goal.returns-in-Recover
returns-in-Recover c = rw (c.acts-in-Recover.ensures, c.in-Recover.is) (acts-asks _ _ _ _ _ (λ m n. true) _ (λ t p. refl))
