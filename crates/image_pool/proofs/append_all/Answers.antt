-- The answers. Assumes nothing.
use Rattle.std.specs.Prelude.{Some}
use mathlib.Core.Path.{◌≡◌, sym, ◌∙◌, ap}
use Prim.Native.Nat.{◌+◌, ◌<◌}
use native.Mathlib.Omega.{arith}
use mathlib.Core.List.{[], ◌∷◌, ◌++◌}
use Rattle.marks.specs.Marks.{size_of, lowest_of}
use Rattle.marks.proofs.Laws.{lowest-found}
use Rattle.rules.specs.declared.Message.{Message}
use Rattle.pool_laws.proofs.Gaps.{fewer}
use Rattle.image.specs.InnerRecords.{messages_in}
use Rattle.image_pool.proofs.Sends.{sending-low, sending-more, sending-end}
use Rattle.image_pool.proofs.append_all.Goals as goal

pub overflow_cast-s : goal.overflow_cast-s
overflow_cast-s c = let lowest : lowest_of c.slots.rest ≡ Some c.in-Some.s = sym c.in-Some.ensures in
    omega (arith, (lowest-found _ _ (lowest)).below)

pub append-requires : goal.append-requires
append-requires c = let lowest : lowest_of c.slots.rest ≡ Some c.in-Some.s = sym c.in-Some.ensures in
    let low : c.slots.end < c.args.n + size_of c.args.set = sending-low _ (lowest) c.slots.invariant in
    (omega (arith, low), omega (arith, low, c.slots.invariant.long))

pub slots-smaller : goal.slots-smaller
slots-smaller c = let lowest : lowest_of c.slots.rest ≡ Some c.in-Some.s = sym c.in-Some.ensures in
    rw c.removed-rest.ensures (omega (arith, fewer _ _ (lowest)))

pub slots-preserved : goal.slots-preserved
slots-preserved c = let lowest : lowest_of c.slots.rest ≡ Some c.in-Some.s = sym c.in-Some.ensures in
    let l = c.slots in
    rw c.removed-rest.ensures
    (sending-more _ (lowest) l.invariant _ c.append.auto.part
    (c.append.ensures ∙ ap (λ (z : Message). messages_in l.end l.part ++ (z ∷ [])) c.to_slot.ensures))

pub returns : goal.returns
returns c = sending-end _ (sym c.lowest.ensures ∙ c.in_default.is) c.slots.invariant
