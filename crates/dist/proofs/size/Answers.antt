-- `dist::size` meets its contract: 1 shifted by at most 32 places stays below 2^64. Assumes nothing.
use Rattle.std.proofs.Common.{◌∙◌, one-mul, arith, lit<, shl_exact}
use Rattle.dist.proofs.size.Goals as goal

pub returns : goal.returns
returns c = shl_exact 1 c.args.m 64 (lit< tt) (omega arith) ∙ one-mul _
