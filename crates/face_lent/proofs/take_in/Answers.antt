-- `face_lent::take_in` meets its contract: a list of 256 places is copied in, one place a turn; for any other there are blank ones. Assumes nothing.
use Rattle.std.proofs.Common.{ap, ◌∙◌, ap, length, arith}
use Rattle.rules.specs.Pool.{blank}
use lib.ListN.{length-set, length-replicate}
use Rattle.face_lent.specs.Lent.{pool_of, blanks, taken_of}
use Rattle.face_lent.proofs.Laws.{either, within, copied_none, copied_more, copied-done, none-copied, same_pool}
use Rattle.face_lent.proofs.take_in.Goals as goal

pub returns-then-n-eq0 : goal.returns-then-n-eq0
unfolding taken_of
returns-then-n-eq0 c =
    c.blank_pool.ensures
    ∙ ap (pool_of c.args.count) (none-copied (length c.args.pool.now) _ c.args.pool.now blanks (either _ _ c.places-n.ensures) c.if-n-eq0.true)

pub loop-i-init : goal.loop-i-init
loop-i-init c =
    rw c.blank_pool-x.ensures
    (record { counted = omega arith; long = length-replicate 256 blank; copied = copied_none blank c.args.pool.now blanks })

pub offset_bounds-pool-i : goal.offset_bounds-pool-i
offset_bounds-pool-i c = omega (arith, within _ _ c.loop-i.i (either _ _ c.places-n.ensures) (omega arith))

pub bounds-pool-i : goal.bounds-pool-i
bounds-pool-i c = (within _ _ c.loop-i.i (either _ _ c.places-n.ensures) (omega arith)).0

pub offset_bounds-x-i : goal.offset_bounds-x-i
offset_bounds-x-i c = omega (arith, within _ _ c.loop-i.i (either _ _ c.places-n.ensures) (omega arith))

pub bounds-x-i : goal.bounds-x-i
bounds-x-i c = (within _ _ c.loop-i.i (either _ _ c.places-n.ensures) (omega arith)).1

pub loop-i-preserved : goal.loop-i-preserved
loop-i-preserved c =
    let v = c.loop-i.invariant in
    let low = within _ _ c.loop-i.i (either _ _ c.places-n.ensures) (omega arith) in
    record {
      counted = v.counted;
      long = simp length-set v.long;
      copied = copied_more blank _ _ c.loop-i.i (omega (arith, v.long, low.1)) v.copied;
    }

pub returns : goal.returns
unfolding taken_of
returns c =
    let v = c.loop-i.invariant in
    let some = either _ _ c.places-n.ensures in
    let all = copied-done blank c.args.pool.now c.loop-i.x.places blanks _ _ c.loop-i.i some (omega arith) (omega arith) (λ e. e) (λ e. v.long) v.copied
    (λ e. absurd (c.if-n-eq0.false (omega (arith, e)))) in
    same_pool c.loop-i.x v.counted all
