-- The bytes that the library gives are the word's. Assumes nothing.
use mathlib.Core.Path.{◌∙◌}
use Rattle.words.proofs.Codec.{bytes-low}
use Rattle.words.proofs.U32Word.to_bytes.Goals as goal

pub returns : goal.returns
returns c = c.copy_from_slice.ensures.after ∙ c.to_le_bytes.ensures ∙ bytes-low 4 c.args.self
