-- `face_lent::give_back` meets its contract: a pool is copied to a list of 256 places, one place a turn; any other list is left as it is. Assumes nothing.
use Rattle.std.proofs.Common.{refl, ◌∙◌, arith}
use Rattle.rules.specs.Pool.{blank}
use lib.ListN.{length-set}
use Rattle.pool_laws.proofs.Places.{places-length}
use Rattle.face_lent.specs.Lent.{given_of}
use Rattle.face_lent.proofs.Laws.{either, within, copied_none, copied_more, copied-done}
use Rattle.face_lent.proofs.give_back.Goals as goal

pub loop-i-init : goal.loop-i-init
loop-i-init c = record { long = refl; copied = copied_none blank _ _; still = λ e. refl }

pub offset_bounds-x-i : goal.offset_bounds-x-i
offset_bounds-x-i c = omega (arith, within _ _ c.loop-i.i (either _ _ c.places-n.ensures) (omega arith))

pub bounds-x-i : goal.bounds-x-i
bounds-x-i c = (within _ _ c.loop-i.i (either _ _ c.places-n.ensures) (omega arith)).1

pub offset_bounds-pool-i : goal.offset_bounds-pool-i
offset_bounds-pool-i c = omega (arith, within _ _ c.loop-i.i (either _ _ c.places-n.ensures) (omega arith))

pub bounds-pool-i : goal.bounds-pool-i
bounds-pool-i c = omega (arith, (within _ _ c.loop-i.i (either _ _ c.places-n.ensures) (omega arith)).0, c.loop-i.invariant.long)

pub loop-i-preserved : goal.loop-i-preserved
loop-i-preserved c =
    let v = c.loop-i.invariant in
    let low = within _ _ c.loop-i.i (either _ _ c.places-n.ensures) (omega arith) in
    record {
      long = simp length-set v.long;
      copied = copied_more blank _ _ c.loop-i.i (omega (arith, v.long, low.0)) v.copied;
      still = λ e. absurd (omega (arith, e));
    }

pub returns : goal.returns
unfolding given_of
returns c =
    let v = c.loop-i.invariant in
    let full = places-length c.args.x _ c.well_formed.1.0 in
    copied-done blank c.args.x.places c.loop-i.pool c.args.pool.now _ _ c.loop-i.i (either _ _ c.places-n.ensures) (omega arith) (omega arith) (λ e. full)
    (λ e. v.long ∙ e) v.copied v.still
