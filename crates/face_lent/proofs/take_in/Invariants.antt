-- `face_lent::take_in`: the first i places of the pool are those of the list. Assumes nothing.
use Rattle.std.proofs.Common.{◌≡◌, length}
use Rattle.rules.specs.Pool.{blank}
use Rattle.face_lent.proofs.Laws.{Copied}
use Rattle.face_lent.proofs.take_in.Given as goal

abbrev pub invariant-loop-i : goal.invariant-loop-i
invariant-loop-i l =
    record {
      counted : l.x.count ≡ l.count;
      long : length l.x.places ≡ 256;
      copied : Copied blank l.pool l.x.places l.i;
    }
