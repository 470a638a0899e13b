-- `image_pool::append_all` meets its contract. The invariant: m for the slots of `rest` is still to be written (Sending). The measure: how many they are. Assumes nothing.
use Prim.Native.Nat.{◌+◌}
use mathlib.Core.List.{◌++◌}
use lib.ListN.{length}
use Rattle.marks.specs.Marks.{size_of}
use Rattle.pool_laws.specs.InnerSending.{copies}
use Rattle.image.specs.InnerRecords.{messages_in}
use Rattle.image_pool.proofs.Sends.{Sending}
use Rattle.image_pool.proofs.append_all.Given as goal

abbrev pub invariant-slots : goal.invariant-slots
invariant-slots l = Sending l.m (messages_in l.n l.initial.part ++ copies l.m l.set) (l.n + size_of l.set) (length l.initial.part) l.end l.rest l.part

abbrev pub decreases-slots : goal.decreases-slots
decreases-slots l = size_of l.rest
