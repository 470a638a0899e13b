-- `at` of a part meets its contract: its records lie one behind the other. Assumes nothing.
use mathlib.Core.Path.{sym, ◌∙◌}
use Prim.Native.Nat.{◌<◌}
use native.Mathlib.Omega.{arith}
use Rattle.file_read.proofs.Parts.{message-in, count-is}
use Rattle.file_read.proofs.PartWaiting.at.Goals as goal

pub read_message-requires : goal.read_message-requires
read_message-requires c = let p = c.args.self.now in
    omega (arith, c.requires.0, count-is p.count p.bytes.now, p.room)

pub returns : goal.returns
returns c = let p = c.args.self.now in
    let here : c.args.q < p.count = omega (arith, c.requires.0, count-is p.count p.bytes.now) in
    c.read_message.ensures ∙ sym (message-in p.count p.bytes.now c.args.q here)
