-- `face_c::tarpudhriv_settled` meets its contract: it is what was said of the file, as a word. Assumes nothing.
use mathlib.Core.Path.{ap, ◌∙◌}
use Rattle.face_c.specs.Words.{rest_word}
use Rattle.face_c.proofs.tarpudhriv_settled.Goals as goal

pub returns : goal.returns
returns c = c.rest_word.ensures ∙ ap rest_word c.settled_file.ensures
