-- Following a lookup as the only message, on a table with no other step: it is delivered or forwarded, by the real steps, until it is delivered or ends.
-- Definitions only. Assumes nothing.
use Rattle.rules.specs.Shapes.{Answer}
use Rattle.marks.specs.Marks.{Found}
use Rattle.std.specs.Prelude.{cond, List, [], ◌∷◌, ◌++◌, ℕ, zero, suc, eqb, Some, None, Ok, Err}
use Rattle.rules.specs.Names.{Slot}
use Rattle.rules.specs.declared.Message.{Message}
use Rattle.rules.specs.declared.Pool.{Pool}
use Rattle.rules.specs.declared.Action.TheVariants.{Deliver, Forward}
use Rattle.rules.specs.Numbers.{via_number}
use Rattle.rules.specs.Pool.{laid, message_at}
use Rattle.table_type.specs.declared.Table.{Table}
use Rattle.step.specs.Step.{step_of}

-- how a lookup ended: delivered at a slot, or not; and one letter for each routing, `l` or `r`
pub record Trip : Type 0 where
  pub end : Found
  pub letters : List ℕ

abbrev pub ended : Found → List ℕ → Trip
ended end letters = record { end = end; letters = letters }

-- what Forward of the only message says: refused, by a node that is not ready; a Lookup waits, forwarded; else no legal route
abbrev pub on_by : Answer → Pool → List ℕ → Trip → Trip
on_by (Err why) p letters rest = ended None letters
on_by (Ok tt) p letters rest = cond (eqb (message_at p 0).kind 1) rest (ended None letters)

-- what Deliver of it at slot i says: delivered there; else as Forward says
abbrev pub trip_by : Answer → Slot → List ℕ → Trip → Trip
trip_by (Ok tt) i letters rest = ended (Some i) letters
trip_by (Err why) i letters rest = rest

-- by at most so many slots; the letter of a routing is the one that its step says
unfoldable pub trip_of : ℕ → Table → Pool → List ℕ → Trip
trip_of zero t p letters = ended None letters
trip_of (suc slots) t p letters =
    let s = step_of t p 256 (Forward 0) in
    let rest = trip_of slots s.table s.pool (letters ++ (via_number s.via ∷ [])) in
    trip_by (step_of t p 256 (Deliver 0)).answer (message_at p 0).dest letters (on_by s.answer s.pool letters rest)

-- a lookup as the only message; 64 slots are enough, as it is forwarded at most n - 1 times
unfoldable pub follow_of : Table → Message → Trip
follow_of t m = trip_of 64 t (laid (m ∷ [])) []
