-- The word of its bytes is their sum, each for what it is worth at its place. Assumes nothing.
use mathlib.Core.Path.{sym, ◌∙◌}
use Rattle.words.proofs.Codec.{number-worth}
use Rattle.words.proofs.U32Word.from_bytes.Goals as goal

pub returns : goal.returns
returns c = c.from_le_bytes.ensures ∙ sym (number-worth 3 c.args.bytes.now c.requires)
