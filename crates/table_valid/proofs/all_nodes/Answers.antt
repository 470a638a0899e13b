-- `table_valid::all_nodes` meets its contract: 1 << n is 2^n, and one less is the number with n ones. Assumes nothing.
use mathlib.Core.Path.{◌≡◌, ◌∙◌}
use Prim.Native.Nat.{ℕ, ◌*◌, ◌%◌, ◌^◌, ◌<◌}
use native.Mathlib.Nat.{one-mul}
use native.Mathlib.Omega.{arith}
use lib.Dec.{lit<}
use lib.Pow.{shl_exact}
use Rattle.table_valid.proofs.Nodes.{all-number}
use Rattle.table_valid.proofs.all_nodes.Goals as goal

shifted : (n : ℕ) → n < 64 → (1 * 2 ^ n) % 2 ^ 64 ≡ 2 ^ n
shifted n h = shl_exact 1 n 64 (lit< tt) (omega arith) ∙ one-mul (2 ^ n)

pub returns-then-n-lt64 : goal.returns-then-n-lt64
returns-then-n-lt64 c = let n = c.args.n in rw (shifted n (omega arith)) (omega (arith, all-number n))

pub returns-else-n-lt64 : goal.returns-else-n-lt64
returns-else-n-lt64 c = let e : c.args.n ≡ 64 = omega arith in
    rw e (omega (arith, all-number 64))
