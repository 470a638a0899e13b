-- Beside 01: join in turn, and there is one holder. From every start, and from every valid table that satisfies the clauses, through every list of
-- actions of the real step: if no node leaves, no probe times out, and no Join is done while some node is wait, then after every action no two ready
-- nodes cover one key. Only statements: the proofs are named in Proved. Assumes nothing.
use Rattle.std.specs.Prelude.{◌≡◌, true, false, List, [], ◌∷◌, ◌↔◌, ℕ, ◌^◌, ◌<◌, Ok}
use Rattle.rules.specs.Names.{Slot, Marks, Ids, Key}
use Rattle.rules.specs.declared.Pool.{Pool}
use Rattle.rules.specs.declared.Action.{Action}
use Rattle.rules.specs.declared.Action.TheVariants.{Join, NodeLeft, ProbeTimeOut}
use Rattle.rules.specs.Plans.{is_wait, is_up}
use Rattle.rules.specs.Pool.{laid}
use Rattle.table_type.specs.declared.Table.{Table}
use Rattle.table_type.specs.Start.{start_of}
use Rattle.step.specs.Step.{step_of}
use Rattle.table_type.specs.Table.{node_at}
use Rattle.table.specs.Valid.{valid_of}
use Rattle.lookup_laws.specs.Claims.{Nearer, Ready}
use Rattle.lookup_laws.specs.Fates.{covers_at}
use Rattle.lookup_laws.specs.Joining.{AsClose, NotItsOwn, Flanked}
use Rattle.join_laws.specs.Clauses.{Clauses}
use Rattle.join_laws.specs.Safe.{nobody_waits, safe_to_join}

-- no node is wait
abbrev pub NoneWaits : Table → Type 0
NoneWaits t = (i : Slot) → i < t.n → is_wait (node_at t i).status ≡ false

-- the action is NodeLeft or ProbeTimeOut, of which nothing is said here
pub data Barred : Action → Type 0 where
  leaves : {i : Slot} → Barred (NodeLeft i)
  times-out : {i j : Slot} → Barred (ProbeTimeOut i j)

-- if the action is done, it is neither NodeLeft nor ProbeTimeOut; and if it is a Join, no node was wait. One that is refused changes nothing
abbrev pub InTurn : Table → Pool → Action → Type 0
InTurn t p a = ((step_of t p 256 a).answer ≡ Ok tt → Barred a → ⊥)
    × ((i seed : Slot) → a ≡ Join i seed → (step_of t p 256 a).answer ≡ Ok tt → NoneWaits t)

-- no NodeLeft and no ProbeTimeOut of the list is done, and no Join of it while some node is wait
abbrev pub Patient : Table → Pool → List Action → Type 0
Patient t p [] = Unit {0}
Patient t p (a ∷ acts) = InTurn t p a × Patient (step_of t p 256 a).table (step_of t p 256 a).pool acts

-- a property of table and pool holds before the list of actions, and after every action of it
abbrev pub Throughout : (Table → Pool → Type 0) → Table → Pool → List Action → Type 0
Throughout C t p [] = C t p
Throughout C t p (a ∷ acts) = C t p × Throughout C (step_of t p 256 a).table (step_of t p 256 a).pool acts

-- slot i is ok or ready
abbrev pub IsUp : Table → Slot → Type 0
IsUp t i = (i < t.n) × (is_up (node_at t i).status ≡ true)

-- what is promised of a table and its pool
pub record Held (t : Table) (p : Pool) : Type 0 where
  -- they are valid
  pub valid : valid_of t p ≡ true
  -- of every two different nodes that are ok or ready: each one's neighbours are at least as close, in their own directions, as the
  -- other, and it is its own neighbour on neither side
  pub up : (i j : Slot) → IsUp t i → IsUp t j → (i ≡ j → ⊥) → AsClose t i j × NotItsOwn t i
  -- T-08's condition, of the ready nodes
  pub flanked : Flanked t
  -- no two ready nodes cover one key
  pub one : (k : Key) (i j : Slot) → k < 2 ^ t.m → Ready t i → Ready t j → covers_at t i k ≡ true → covers_at t j k ≡ true → i ≡ j
  -- a ready node that covers a key is nearer to it than every other ready node
  pub nearest : (k : Key) (i j : Slot) → k < 2 ^ t.m → Ready t i → Ready t j → (j ≡ i → ⊥) → covers_at t i k ≡ true → Nearer t k i j

-- from every start
abbrev pub StartHeld : Type 0
StartHeld = (m l : ℕ) (ids : Ids) (a : Marks) (t : Table) (acts : List Action) → start_of m l ids a ≡ Ok t
    → Patient t (laid []) acts → Throughout Held t (laid []) acts

-- from every valid table that satisfies the clauses
abbrev pub ClausesHeld : Type 0
ClausesHeld = (t : Table) (p : Pool) (acts : List Action) → valid_of t p ≡ true → Clauses t p → Patient t p acts → Throughout Held t p acts

-- where the clauses hold after every action too
abbrev pub ClausesStay : Type 0
ClausesStay = (t : Table) (p : Pool) (acts : List Action) → valid_of t p ≡ true → Clauses t p → Patient t p acts → Throughout Clauses t p acts

-- every start satisfies them
abbrev pub StartClauses : Type 0
StartClauses = (m l : ℕ) (ids : Ids) (a : Marks) (t : Table) → start_of m l ids a ≡ Ok t → Clauses t (laid [])

-- A fitter asks before a node joins: safe_to_join passes exactly where nobody is wait and the clauses hold
abbrev pub SafeExactly : Type 0
SafeExactly = (t : Table) (p : Pool) → (safe_to_join t p ≡ true) ↔ (NoneWaits t × Clauses t p)

-- from every valid table that passes
abbrev pub SafeHeld : Type 0
SafeHeld = (t : Table) (p : Pool) (acts : List Action) → valid_of t p ≡ true → safe_to_join t p ≡ true → Patient t p acts → Throughout Held t p acts

-- and from a start, in turn, it passes exactly while nobody is wait
abbrev pub StartSafe : Type 0
StartSafe = (m l : ℕ) (ids : Ids) (a : Marks) (t : Table) (acts : List Action) → start_of m l ids a ≡ Ok t
    → Patient t (laid []) acts → Throughout (λ u p. safe_to_join u p ≡ nobody_waits u) t (laid []) acts
