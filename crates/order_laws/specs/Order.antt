-- Beside 01: when two pools hold the same messages, when two actions on them name the same message, and when two steps come to the same. Definitions only.
-- Assumes nothing.
use Rattle.std.specs.Prelude.{◌≡◌, Bool, cond, List, [], ◌∷◌, ℕ, ◌+◌, ◌<◌, ◌≤◌}
use Rattle.rules.specs.Names.{Place}
use Rattle.rules.specs.declared.Action.{Action}
use Rattle.rules.specs.declared.Action.TheVariants.{Take, Deliver, Forward}
use Rattle.rules.specs.declared.Message.{Message}
use Rattle.rules.specs.declared.Pool.{Pool}
use Rattle.rules.specs.Pool.{message_at, waiting}
use Rattle.table_type.specs.declared.Stepped.{Stepped}
use Rattle.table_type.specs.declared.Table.{Table}
use Rattle.step.specs.Step.{step_of}

-- ---- the same messages

-- how many of these messages pass a test
unfoldable pub passing : (Message → Bool) → List Message → ℕ
passing f [] = 0
passing f (x ∷ xs) = cond (f x) 1 0 + passing f xs

-- the same messages, in any order: every test is passed by as many of the one list as of the other
pub record SameMail (xs ys : List Message) : Type 0 where
  pub tested : (f : Message → Bool) → passing f xs ≡ passing f ys

-- the same is made in steps: neighbours are exchanged, any number of times
pub data Rearranged : List Message → List Message → Type 0 where
  nothing : Rearranged [] []
  behind : {x : Message} {xs ys : List Message} → Rearranged xs ys → Rearranged (x ∷ xs) (x ∷ ys)
  exchanged : {x y : Message} {xs : List Message} → Rearranged (x ∷ y ∷ xs) (y ∷ x ∷ xs)
  again : {xs ys zs : List Message} → Rearranged xs ys → Rearranged ys zs → Rearranged xs zs

-- two pools with the same messages; places past the count are no part of it
pub record SamePool (p q : Pool) : Type 0 where
  pub counted : p.count ≡ q.count
  pub mail : SameMail (waiting p) (waiting q)

-- ---- the same action, its place named accordingly

-- at place r of p and place s of q the same message waits, every field the same, or none waits at either
pub data SamePlace (p q : Pool) (r s : Place) : Type 0 where
  one-waits : r < p.count → s < q.count → message_at p r ≡ message_at q s → SamePlace p q r s
  none-waits : p.count ≤ r → q.count ≤ s → SamePlace p q r s

-- the action names a place
pub data NamesPlace : Action → Type 0 where
  take-names : {place : Place} → NamesPlace (Take place)
  deliver-names : {place : Place} → NamesPlace (Deliver place)
  forward-names : {place : Place} → NamesPlace (Forward place)

-- of two actions, one on p and one on q, each asks for the same; where they name a place, the same message waits there
pub data SameAction (p q : Pool) : Action → Action → Type 0 where
  takes : {r s : Place} → SamePlace p q r s → SameAction p q (Take r) (Take s)
  delivers : {r s : Place} → SamePlace p q r s → SameAction p q (Deliver r) (Deliver s)
  forwards : {r s : Place} → SamePlace p q r s → SameAction p q (Forward r) (Forward s)
  other : {a : Action} → (NamesPlace a → ⊥) → SameAction p q a a

-- ---- the same steps

-- the same answer, the same word of where the next hop came from, the same table, and pools with the same messages
pub record SameStep (x y : Stepped) : Type 0 where
  pub answer : x.answer ≡ y.answer
  pub via : x.via ≡ y.via
  pub table : x.table ≡ y.table
  pub pool : SamePool x.pool y.pool

-- the steps of a list of actions, each on the table and the pool that the one before it left
unfoldable pub steps_of : Table → Pool → ℕ → List Action → List Stepped
steps_of t p len [] = []
steps_of t p len (a ∷ acts) = step_of t p len a ∷ steps_of (step_of t p len a).table (step_of t p len a).pool len acts

pub data SameSteps : List Stepped → List Stepped → Type 0 where
  no_steps : SameSteps [] []
  and-steps : {x y : Stepped} {xs ys : List Stepped} → SameStep x y → SameSteps xs ys → SameSteps (x ∷ xs) (y ∷ ys)

-- two lists of actions, from a table with p and with q: each action is the same as that of the other list, on the pools that those before it left
pub data SameActions (len : ℕ) : Table → Pool → Pool → List Action → List Action → Type 0 where
  no-actions : {t : Table} {p q : Pool} → SameActions len t p q [] []
  and-actions : {t : Table} {p q : Pool} {a b : Action} {acts others : List Action} → SameAction p q a b
      → SameActions len (step_of t p len a).table (step_of t p len a).pool (step_of t q len b).pool acts others
      → SameActions len t p q (a ∷ acts) (b ∷ others)

-- ---- a search

-- the tables and pools that a search comes to from a table and a pool, where it goes on from each pool in an order of its own, `held`
pub data Met (len : ℕ) (held : Pool → Pool) (t : Table) (p : Pool) : Table → Pool → Type 0 where
  begun : Met len held t p t (held p)
  stepped : {u : Table} {r : Pool} (a : Action) → Met len held t p u r
      → Met len held t p (step_of u r len a).table (held (step_of u r len a).pool)
