-- What joins in turn bars, exactly: NodeLeft and ProbeTimeOut. With more of them the theorem would say less. Assumes nothing.
use mathlib.Core.Path.{◌≡◌, refl}
use mathlib.Core.Logic.{◌⊎◌, inl, inr}
use Prim.Native.Nat.{ℕ}
use Rattle.rules.specs.declared.Action.{Action}
use Rattle.rules.specs.declared.Action.TheVariants.{NodeLeft, ProbeTimeOut, Lookup, Join, RequestLease, LeaseExpired, GrantExpired}
use Rattle.rules.specs.declared.Action.TheVariants.{Take, Deliver, Forward, SuspectFaulty, DeclareDead, LSRepair, ResignNode, Recover}
use Rattle.join_laws.specs.Claims.{Barred, leaves, times-out}

pub barred-only : (a : Action) → Barred a → ((i : ℕ) × (a ≡ NodeLeft i)) ⊎ ((i : ℕ) × (j : ℕ) × (a ≡ ProbeTimeOut i j))
barred-only (NodeLeft i) leaves = inl (i, refl)
barred-only (ProbeTimeOut i j) times-out = inr (i, j, refl)
barred-only (Lookup _ _) never = elim never [ ]
barred-only (Join _ _) never = elim never [ ]
barred-only (RequestLease _) never = elim never [ ]
barred-only (LeaseExpired _ _) never = elim never [ ]
barred-only (GrantExpired _ _) never = elim never [ ]
barred-only (Take _) never = elim never [ ]
barred-only (Deliver _) never = elim never [ ]
barred-only (Forward _) never = elim never [ ]
barred-only (SuspectFaulty _ _) never = elim never [ ]
barred-only (DeclareDead _ _) never = elim never [ ]
barred-only (LSRepair _) never = elim never [ ]
barred-only (ResignNode _ _) never = elim never [ ]
barred-only (Recover _) never = elim never [ ]
