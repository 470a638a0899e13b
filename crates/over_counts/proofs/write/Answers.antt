-- `over_counts::write` meets its contract: whether the counts agree decides the definition's case. Assumes nothing.
use mathlib.Core.Path.{sym, ◌∙◌}
use Rattle.counts.proofs.CountLaws.{wrote-agreed, wrote-disagreed, written-agreed, written-disagreed}
use Rattle.over_counts.proofs.write.Goals as goal

pub returns-then-not-agree : goal.returns-then-not-agree
returns-then-not-agree c = let a = c.args in
    let e = sym c.agree.ensures ∙ c.if-not-agree.true in
    (wrote-disagreed a.x a.len e _, written-disagreed a.x a.len e _)

pub returns : goal.returns
returns c = let a = c.args in
    let e = sym c.agree.ensures ∙ c.if-not-agree.false in
    (c.write.ensures.0 ∙ wrote-agreed a.x a.len e _, c.write.ensures.1 ∙ written-agreed a.x a.len e _)
