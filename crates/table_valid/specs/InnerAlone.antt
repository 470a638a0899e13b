-- Fields that are 0 together, as the rules of a message ask it of the kinds that lack them. Definitions only. Assumes nothing.
use Rattle.std.specs.Prelude.{Bool, ◌&&◌, eqb}
use Rattle.rules.specs.declared.Message.{Message}

-- no leaf set
abbrev pub carries_none : Message → Bool
carries_none m = eqb m.owner 0 && (eqb m.left 0 && eqb m.right 0)

-- nothing but the word
abbrev pub word_alone : Message → Bool
word_alone m = eqb m.flag 0 && (carries_none m && (eqb m.routing 0 && eqb m.failed 0))
