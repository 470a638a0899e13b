-- Which actions are meant, exactly: a Forward alone forwards at a slot (T-05), and a Forward or the Take of a message of kind 2 alone may route (T-01). With more of
-- them `GatewayHolds` and `RoutedOnly` would say less. Assumes nothing.
use mathlib.Core.Path.{◌≡◌, refl}
use mathlib.Core.Logic.{◌⊎◌, inl, inr}
use Prim.Native.Nat.{ℕ}
use Rattle.rules.specs.declared.Action.{Action}
use Rattle.rules.specs.declared.Action.TheVariants.{Take, Forward, Lookup, Join, RequestLease, LeaseExpired, GrantExpired}
use Rattle.rules.specs.declared.Action.TheVariants.{Deliver, NodeLeft, SuspectFaulty, ProbeTimeOut, DeclareDead, LSRepair, ResignNode, Recover}
use Rattle.rules.specs.declared.Pool.{Pool}
use Rattle.rules.specs.Pool.{message_at}
use Rattle.table_laws.specs.Claims.{MayRoute, forwards, takes-request}
use Rattle.lookup_laws.specs.Pair.{ForwardsAt, forwards-at}

pub forwards-only : (p : Pool) (d : ℕ) (a : Action) → ForwardsAt p d a → (place : ℕ) × (a ≡ Forward place) × ((message_at p place).dest ≡ d)
forwards-only p d (Forward place) (forwards-at e) = (place, refl, e)
forwards-only p d (Lookup _ _) never = elim never [ ]
forwards-only p d (Join _ _) never = elim never [ ]
forwards-only p d (RequestLease _) never = elim never [ ]
forwards-only p d (LeaseExpired _ _) never = elim never [ ]
forwards-only p d (GrantExpired _ _) never = elim never [ ]
forwards-only p d (Take _) never = elim never [ ]
forwards-only p d (Deliver _) never = elim never [ ]
forwards-only p d (NodeLeft _) never = elim never [ ]
forwards-only p d (SuspectFaulty _ _) never = elim never [ ]
forwards-only p d (ProbeTimeOut _ _) never = elim never [ ]
forwards-only p d (DeclareDead _ _) never = elim never [ ]
forwards-only p d (LSRepair _) never = elim never [ ]
forwards-only p d (ResignNode _ _) never = elim never [ ]
forwards-only p d (Recover _) never = elim never [ ]

pub routes-only : (p : Pool) (a : Action) → MayRoute p a
    → ((place : ℕ) × (a ≡ Forward place)) ⊎ ((place : ℕ) × (a ≡ Take place) × ((message_at p place).kind ≡ 2))
routes-only p (Forward place) forwards = inl (place, refl)
routes-only p (Take place) (takes-request e) = inr (place, refl, e)
routes-only p (Lookup _ _) never = elim never [ ]
routes-only p (Join _ _) never = elim never [ ]
routes-only p (RequestLease _) never = elim never [ ]
routes-only p (LeaseExpired _ _) never = elim never [ ]
routes-only p (GrantExpired _ _) never = elim never [ ]
routes-only p (Deliver _) never = elim never [ ]
routes-only p (NodeLeft _) never = elim never [ ]
routes-only p (SuspectFaulty _ _) never = elim never [ ]
routes-only p (ProbeTimeOut _ _) never = elim never [ ]
routes-only p (DeclareDead _ _) never = elim never [ ]
routes-only p (LSRepair _) never = elim never [ ]
routes-only p (ResignNode _ _) never = elim never [ ]
routes-only p (Recover _) never = elim never [ ]
