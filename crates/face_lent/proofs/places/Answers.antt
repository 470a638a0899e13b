-- `face_lent::places` meets its contract: its test is the definition's. Assumes nothing.
use borrow.Author.Tests.{eq-eqb, ne_eqb}
use Rattle.face_lent.proofs.places.Goals as goal

pub returns-then-len-eq256 : goal.returns-then-len-eq256
returns-then-len-eq256 c = simp (eq-eqb _ _ c.if-len-eq256.true)

pub returns-else-len-eq256 : goal.returns-else-len-eq256
returns-else-len-eq256 c = simp (ne_eqb _ _ c.if-len-eq256.false)
