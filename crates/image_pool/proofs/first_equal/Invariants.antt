-- `image_pool::first_equal` meets its contract. At a place of what is left: none before it equals m. Assumes nothing.
use Rattle.rules.specs.Mail.{removed_at}
use Rattle.image.specs.InnerRecords.{messages_in}
use Rattle.image_pool.proofs.Search.{Missed}
use Rattle.image_pool.proofs.first_equal.Given as goal

abbrev pub invariant-places : goal.invariant-places
invariant-places l = Missed l.m (removed_at (messages_in l.part.count l.part.bytes.now) l.gone) l.at
