-- What every step keeps, and which steps say where a next hop came from. Only statements: the proofs are in the other files. Assumes nothing.
use Rattle.std.specs.Prelude.{◌≡◌, true, ℕ, Ok, Err}
use Rattle.rules.specs.declared.Pool.{Pool}
use Rattle.rules.specs.declared.Action.{Action}
use Rattle.rules.specs.declared.Action.TheVariants.{Take, Forward}
use Rattle.rules.specs.declared.Refusal.{Refusal}
use Rattle.rules.specs.declared.Via.TheVariants.{Unrouted}
use Rattle.rules.specs.Names.{Place}
use Rattle.rules.specs.Pool.{message_at}
use Rattle.table_type.specs.declared.Table.{Table}
use Rattle.table_type.specs.Table.{ids_of}
use Rattle.table.specs.Settle.{refused_of}
use Rattle.table.specs.Valid.{valid_of}
use Rattle.step.specs.Step.{step_of}

-- every done step takes a valid table and pool to a valid one
abbrev pub KeepsValid : Type 0
KeepsValid = (t : Table) (p : Pool) (len : ℕ) (a : Action) → (step_of t p len a).answer ≡ Ok tt → valid_of (step_of t p len a).table (step_of t p len a).pool ≡ true

-- ids, M, L and n never change
pub record SameRing (t u : Table) : Type 0 where
  pub m : u.m ≡ t.m
  pub l : u.l ≡ t.l
  pub n : u.n ≡ t.n
  pub ids : ids_of u ≡ ids_of t

abbrev pub KeepsRing : Type 0
KeepsRing = (t : Table) (p : Pool) (len : ℕ) (a : Action) → SameRing t (step_of t p len a).table

-- a refused step leaves table and messages unchanged
abbrev pub RefusalKeeps : Type 0
RefusalKeeps = (t : Table) (p : Pool) (len : ℕ) (a : Action) (why : Refusal) → (step_of t p len a).answer ≡ Err why → step_of t p len a ≡ refused_of t p why

-- T-01: routing of lookups and of join requests: a Forward, or the Take of a message of kind 2
pub data MayRoute (p : Pool) : Action → Type 0 where
  forwards : {place : Place} → MayRoute p (Forward place)
  takes-request : {place : Place} → (message_at p place).kind ≡ 2 → MayRoute p (Take place)

-- T-01: every other step says none
abbrev pub RoutedOnly : Type 0
RoutedOnly = (t : Table) (p : Pool) (len : ℕ) (a : Action) → (MayRoute p a → ⊥) → (step_of t p len a).via ≡ Unrouted
