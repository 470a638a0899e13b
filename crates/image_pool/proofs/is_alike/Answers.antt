-- `image_pool::is_alike` meets its contract: a message of another word is not alike. Assumes nothing.
use mathlib.Core.Path.{sym, ◌∙◌}
use borrow.Author.Tests.{eqb-true}
use Rattle.marks.proofs.Bools.{bool_false}
use Rattle.image_pool.proofs.Search.{word_of}
use Rattle.image_pool.proofs.is_alike.Goals as goal

pub returns-else-read-m : goal.returns-else-read-m
returns-else-read-m c = let other = c.if-read-m.false in
    bool_false _ (λ e. other (eqb-true _ _ e))
    ∙ sym (bool_false _ (λ e. other (word_of c.args.part.now c.args.at _ c.read.ensures c.args.m e)))
