-- `face_lent::give_back`: the first i places of the list are those of the pool, and it is as long as before. Assumes nothing.
use Rattle.std.proofs.Common.{◌≡◌, length}
use Rattle.rules.specs.Pool.{blank}
use Rattle.face_lent.proofs.Laws.{Copied}
use Rattle.face_lent.proofs.give_back.Given as goal

abbrev pub invariant-loop-i : goal.invariant-loop-i
invariant-loop-i l =
    record {
      long : length l.pool ≡ length l.initial.pool;
      copied : Copied blank l.x.places l.pool l.i;
      still : l.i ≡ 0 → l.pool ≡ l.initial.pool;
    }
