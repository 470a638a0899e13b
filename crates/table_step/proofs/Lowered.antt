-- Validity with n and the count lowered: n above 64 and a count above 256 are refused, whatever they are. Assumes nothing.
use mathlib.Core.Path.{◌≡◌, sym, ◌∙◌}
use mathlib.Core.Bool.{false}
use Prim.Native.Nat.{ℕ, ◌<◌, ◌≤◌}
use native.Mathlib.Decide.{dec_lt}
use native.Mathlib.Omega.{arith}
use Rattle.std.proofs.Common.{min}
use Rattle.std.proofs.Math.Nat.{le-min, min-eq_left}
use Rattle.marks.proofs.Bools.{bool_false}
use Rattle.rules.specs.declared.Pool.{Pool}
use Rattle.table_type.specs.declared.Table.{Table}
use Rattle.table.specs.Valid.{valid_of}
use Rattle.table_laws.proofs.Sound.{sound}

abbrev pub lowered_table : Table → Table
lowered_table t = record { m = t.m; l = t.l; n = min t.n 65; nodes = t.nodes }

abbrev pub lowered_pool : Pool → Pool
lowered_pool p = record { count = min p.count 257; places = p.places }

module _ (t : Table) (p : Pool) where
  large-table : 65 ≤ t.n → valid_of t p ≡ false
  large-table h = bool_false (valid_of t p) (λ e. let k = (sound t p e).numbers.n-high in omega arith)

  large-pool : 257 ≤ p.count → valid_of t p ≡ false
  large-pool h = bool_false (valid_of t p) (λ e. let k = (sound t p e).counted in omega arith)

still-large : (n most : ℕ) → most ≤ n → most ≤ min n most
still-large n most h = le-min h (omega arith)

pub lowered-valid : (t : Table) (p : Pool) → valid_of (lowered_table t) (lowered_pool p) ≡ valid_of t p
lowered-valid t p = go (dec_lt t.n 65) (dec_lt p.count 257)
  where
    go : Dec (t.n < 65) → Dec (p.count < 257) → valid_of (lowered_table t) (lowered_pool p) ≡ valid_of t p
    go (yes h) (yes k) =
        let x : min t.n 65 ≡ t.n = min-eq_left (omega arith) in
        let y : min p.count 257 ≡ p.count = min-eq_left (omega arith) in
        rw (x, y)
    go (no h) k =
        let l : 65 ≤ t.n = omega arith in
        large-table (lowered_table t) (lowered_pool p) (still-large t.n 65 l) ∙ sym (large-table t p l)
    go (yes h) (no k) =
        let l : 257 ≤ p.count = omega arith in
        large-pool (lowered_table t) (lowered_pool p) (still-large p.count 257 l) ∙ sym (large-pool t p l)
