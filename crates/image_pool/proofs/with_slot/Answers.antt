-- `image_pool::with_slot` meets its contract: a message of another word is not alike, to whatever slot. Assumes nothing.
use mathlib.Core.Path.{sym}
use Rattle.marks.proofs.Bools.{bool_false}
use Rattle.rules.specs.Nodes.{placed}
use Rattle.pool_laws.proofs.Sending.{held-with-no}
use Rattle.image_pool.proofs.Search.{word_of}
use Rattle.image_pool.proofs.with_slot.Goals as goal

pub returns-then-read-m : goal.returns-then-read-m
returns-then-read-m c = let a = c.args in
    sym (held-with-no _ _ _ (bool_false _ (λ e. c.if-read-m.true (word_of a.part.now a.at _ c.read.ensures (placed a.m _) e))))
