-- `image_pool::send_all` meets its contract: what is written is m for each slot of the set to which no equal waits. Assumes nothing.
use mathlib.Core.Path.{sym, ◌∙◌, ap}
use mathlib.Core.List.{◌++◌}
use Prim.Native.Nat.{ℕ}
use Rattle.marks.specs.Marks.{without}
use Rattle.pool_laws.specs.InnerSending.{copies}
use Rattle.pool_laws.proofs.Sending.{sent_is}
use Rattle.image.specs.InnerRecords.{messages_in}
use Rattle.image_pool.proofs.Sends.{room-few, room-there, room-count}
use Rattle.image_pool.proofs.send_all.Goals as goal

pub invariant_of-held_slots : goal.invariant_of-held_slots
invariant_of-held_slots c = let r = room-count _ _ _ _ c.requires in record { few = r.0; room = r.1 }

pub append_all-requires : goal.append_all-requires
append_all-requires c = let r = c.requires in
    rw (c.less.ensures, c.held_slots-have.ensures) (room-few _ _ _ _ r, room-there _ _ _ _ r)

pub returns : goal.returns
returns c = let a = c.args in
    let xs = messages_in a.count a.part.now in
    c.append_all.ensures
    ∙ ap (λ (s : ℕ). xs ++ copies a.m s) (c.less.ensures ∙ ap (without a.set) c.held_slots-have.ensures)
    ∙ sym (sent_is a.m a.set xs)
