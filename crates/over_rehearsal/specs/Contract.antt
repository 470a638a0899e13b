-- T-09: what each public function promises of its reply, one predicate each, named as the function: its `ensures` cites it, and Unique says that one
-- reply meets it. Definitions only. Assumes nothing.
use Rattle.std.specs.Prelude.{◌≡◌, List, ℕ}
use Rattle.rules.specs.declared.Action.{Action}
use Rattle.rehearsal.specs.declared.Checker.{Checker}
use Rattle.rehearsal.specs.declared.Handed.{Handed}
use Rattle.rehearsal.specs.declared.Reply.{Reply}
use Rattle.rehearsal.specs.Rehearsal.{begin_of, handed_of, reply_number}

abbrev pub Begin : List ℕ → Checker → Type 0
Begin file r = r ≡ begin_of file

abbrev pub Next : Checker → Action → List ℕ → Handed → Type 0
Next c a stated r = r ≡ handed_of c a stated

abbrev pub Number : Reply → ℕ → Type 0
Number r x = x ≡ reply_number r
