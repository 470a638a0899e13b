-- Beside 01: the order of the pool is of no account. Only statements: the proofs are in the other files. Assumes nothing.
use Rattle.std.specs.Prelude.{◌≡◌, List, ◌↔◌, ℕ, Err}
use Rattle.rules.specs.declared.Action.{Action}
use Rattle.rules.specs.declared.Message.{Message}
use Rattle.rules.specs.declared.Pool.{Pool}
use Rattle.rules.specs.declared.Refusal.{Refusal}
use Rattle.table_type.specs.declared.Table.{Table}
use Rattle.step.specs.Step.{step_of}
use Rattle.table.specs.Valid.{valid_of}
use Rattle.order_laws.specs.Order.{SameMail, Rearranged, SamePool, SameAction, SameStep, steps_of, SameSteps, SameActions, Met}

-- every test is passed by as many exactly where one list is made of the other by exchanging neighbours
abbrev pub SameExactly : Type 0
SameExactly = (xs ys : List Message) → SameMail xs ys ↔ Rearranged xs ys

-- a table is valid with the one of two pools with the same messages exactly if it is with the other
abbrev pub ValidBoth : Type 0
ValidBoth = (t : Table) (p q : Pool) → SamePool p q → valid_of t p ≡ valid_of t q

-- a step on two pools with the same messages gives the same answer and table, and pools with the same messages (places named accordingly); for every
-- table, valid or not, every length of the lent list and every action
abbrev pub OrderNoAccount : Type 0
OrderNoAccount = (t : Table) (p q : Pool) (len : ℕ) (a b : Action) → SamePool p q → SameAction p q a b → SameStep (step_of t p len a) (step_of t q len b)

-- where it is refused both pools are as they were
abbrev pub BothLeft : Type 0
BothLeft =
    (t : Table) (p q : Pool) (len : ℕ) (a b : Action) (why : Refusal) → SamePool p q → SameAction p q a b → (step_of t p len a).answer ≡ Err why
    → ((step_of t p len a).pool ≡ p) × ((step_of t q len b).pool ≡ q)

-- for every action on p there is the same on q
abbrev pub ActionFound : Type 0
ActionFound = (p q : Pool) (a : Action) → SamePool p q → (b : Action) × SameAction p q a b

-- after any actions, named accordingly, the same answers and tables, and pools with the same messages
abbrev pub AlongActions : Type 0
AlongActions = (len : ℕ) (t : Table) (p q : Pool) (acts others : List Action) → SamePool p q → SameActions len t p q acts others
    → SameSteps (steps_of t p len acts) (steps_of t q len others)

-- and for any actions from p there are such from q
abbrev pub ActionsFound : Type 0
ActionsFound = (len : ℕ) (t : Table) (p q : Pool) (acts : List Action) → SamePool p q → (others : List Action) × SameActions len t p q acts others

-- two searches that go on from each pool in orders of their own come to the same tables and messages. With `λ r. r` for the one, that leaves each pool as
-- the step does, the other meets just what actions lead to
abbrev pub SearchesAgree : Type 0
SearchesAgree =
    (len : ℕ) (one other : Pool → Pool) (t : Table) (p : Pool) → ((r : Pool) → SamePool r (one r)) → ((r : Pool) → SamePool r (other r))
    → (u : Table) (r : Pool) → Met len one t p u r → (s : Pool) × Met len other t p u s × SamePool r s
