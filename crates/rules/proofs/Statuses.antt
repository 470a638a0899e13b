-- The derived equality of statuses answers the tests of a status. Assumes nothing.
use mathlib.Core.Path.{◌≡◌, refl}
use denote.Enum.Bare.{sameb}
use Rattle.rules.specs.contracts.Status as kinds
use Rattle.rules.specs.declared.Status.{Status}
use Rattle.rules.specs.declared.Status.TheVariants.{Dead, Wait, Ok, Ready}
use Rattle.rules.specs.Plans.{is_dead, is_wait, is_ok, is_ready}

pub same_dead : (s : Status) → sameb kinds.the_type s Dead ≡ is_dead s
same_dead Dead = refl
same_dead Wait = refl
same_dead Ok = refl
same_dead Ready = refl

pub same_wait : (s : Status) → sameb kinds.the_type s Wait ≡ is_wait s
same_wait Dead = refl
same_wait Wait = refl
same_wait Ok = refl
same_wait Ready = refl

pub same_ok : (s : Status) → sameb kinds.the_type s Ok ≡ is_ok s
same_ok Dead = refl
same_ok Wait = refl
same_ok Ok = refl
same_ok Ready = refl

pub same_ready : (s : Status) → sameb kinds.the_type s Ready ≡ is_ready s
same_ready Dead = refl
same_ready Wait = refl
same_ready Ok = refl
same_ready Ready = refl

-- all four
pub ruleset statuses = (same_dead, same_wait, same_ok, same_ready)
