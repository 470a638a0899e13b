-- Proved, by name: each statement of InTurn. Assumes nothing.
use Rattle.join_laws.specs.Claims.{StartHeld, ClausesHeld, ClausesStay, StartClauses, SafeExactly, SafeHeld, StartSafe}
use Rattle.join_laws.proofs.Steps as steps
use Rattle.join_laws.proofs.Begun as begun
use Rattle.join_laws.proofs.Safely as safely

pub start-held : StartHeld
start-held = begun.start-held

pub clauses-held : ClausesHeld
clauses-held = steps.clauses-held

pub clauses-stay : ClausesStay
clauses-stay = steps.clauses-stay

pub start-clauses : StartClauses
start-clauses = begun.start-clauses

pub safe-exactly : SafeExactly
safe-exactly = safely.safe-exactly

pub safe-held : SafeHeld
safe-held = safely.safe-held

pub start-safe : StartSafe
start-safe = safely.start-safe
