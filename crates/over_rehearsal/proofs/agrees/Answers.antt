-- `over_rehearsal::agrees` meets its contract. Assumes nothing.
use mathlib.Core.Path.{◌∙◌}
use Rattle.rehearsal.specs.Rehearsal.{agrees_with}
use Rattle.over_rehearsal.proofs.agrees.Goals as goal

pub gives-requires : goal.gives-requires
gives-requires c = c.requires c.in-Ok.is

pub returns-in-Ok : goal.returns-in-Ok
unfolding agrees_with
returns-in-Ok c = c.gives.ensures ∙ simp c.in-Ok.is

pub returns-in-Err : goal.returns-in-Err
unfolding agrees_with
returns-in-Err c = simp c.in-Err.is
