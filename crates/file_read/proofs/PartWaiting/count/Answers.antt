-- `count` of a part meets its contract. Assumes nothing.
use mathlib.Core.Path.{sym}
use Rattle.file_read.proofs.Parts.{count-is}
use Rattle.file_read.proofs.PartWaiting.count.Goals as goal

pub returns : goal.returns
returns c = let p = c.args.self.now in sym (count-is p.count p.bytes.now)
