-- `table_type::below_size` meets its contract: 1 << m is 2^m. Assumes nothing.
use mathlib.Core.Path.{◌≡◌, ◌∙◌}
use Prim.Native.Nat.{ℕ, ◌*◌, ◌%◌, ◌^◌, ◌≤◌}
use native.Mathlib.Nat.{one-mul}
use native.Mathlib.Omega.{arith}
use lib.Dec.{lit<}
use lib.Pow.{shl_exact}
use Rattle.table_type.proofs.below_size.Goals as goal

shifted : (m : ℕ) → m ≤ 32 → (1 * 2 ^ m) % 2 ^ 64 ≡ 2 ^ m
shifted m h = shl_exact 1 m 64 (lit< tt) (omega arith) ∙ one-mul (2 ^ m)

pub returns : goal.returns
returns c = rw (shifted c.args.m c.requires)
