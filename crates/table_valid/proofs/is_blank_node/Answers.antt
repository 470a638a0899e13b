-- `table_valid::is_blank_node` meets its contract: equality goes field by field, and the status is dead exactly if its number is 0. Assumes nothing.
use mathlib.Core.Path.{◌≡◌, refl, ◌∙◌}
use denote.Enum.Bare.{sameb}
use lib.Dec.{eqb}
use Rattle.rules.specs.contracts.Status.{the_type}
use Rattle.rules.specs.declared.Status.{Status}
use Rattle.rules.specs.declared.Status.TheVariants.{Dead, Wait, Ok, Ready}
use Rattle.rules.specs.Fits.{is_blank}
use Rattle.rules.specs.Numbers.{status_number}
use Rattle.table_valid.proofs.is_blank_node.Goals as goal

dead : (st : Status) → sameb the_type st Dead ≡ eqb (status_number st) 0
dead Dead = refl
dead Wait = refl
dead Ok = refl
dead Ready = refl

pub returns : goal.returns
unfolding is_blank
returns c = c.eq.ensures ∙ rw (c.no_node.ensures, dead)
