-- A ring in which each node has its slot as its id: its ids rise, and are below 2^32. Assumes nothing.
use mathlib.Core.Path.{◌≡◌}
use mathlib.Core.List.{List}
use Prim.Native.Nat.{ℕ, suc, ◌<◌, ◌≤◌}
use native.Mathlib.Omega.{arith}
use Rattle.rules.specs.InnerAsks.{Listed}
use Rattle.rules.specs.Pick.{id_at}

pub slots-listed : (ids : List ℕ) (l n : ℕ) → ((s : ℕ) → s < 64 → id_at ids s ≡ s) → n ≤ 64 → Listed (record { m = 32; l = l; n = n }) ids
slots-listed ids l n e h =
    record {
      width = record { low = omega arith; high = omega arith };
      n-high = h;
      ids-in = λ s k. omega (arith, e s k);
      rises = λ s k. omega (arith, e s (omega arith), e (suc s) (omega arith));
    }
