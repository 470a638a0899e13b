-- `file_read::word` meets its contract: word i begins at 4 i. Assumes nothing.
use mathlib.Core.Path.{sym, ◌∙◌}
use Rattle.file_read.proofs.Laws.{header-word}
use Rattle.file_read.proofs.word.Goals as goal

pub returns : goal.returns
returns c = c.read.ensures ∙ sym (header-word c.args.bs.now c.args.i c.requires.0)
