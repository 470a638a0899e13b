-- `leaf::along` meets its contract: of the two sums that a fall can be, each branch computes the one that holds. Assumes nothing.
use mathlib.Core.Path.{◌≡◌}
use mathlib.Core.Logic.{inl, inr}
use Prim.Native.Nat.{ℕ, ◌<◌}
use native.Mathlib.Omega.{arith}
use Rattle.ring.specs.Distance.{fall_of}
use Rattle.ring.proofs.Falls.{Falls, falls}
use Rattle.leaf.proofs.along.Goals as goal

fall-is : (n x y d : ℕ) → x < n → y < n → Falls n x y d → fall_of n x y ≡ d
fall-is n x y d hx hy e = go (falls n x y hx hy) e
  where
    go : Falls n x y (fall_of n x y) → Falls n x y d → fall_of n x y ≡ d
    go (inl p) (inl q) = omega arith
    go (inl p) (inr q) = absurd (omega arith)
    go (inr p) (inl q) = absurd (omega arith)
    go (inr p) (inr q) = omega arith

pub returns-then-i-d : goal.returns-then-i-d
returns-then-i-d c = (omega arith, rw c.if-up.true (fall-is _ _ _ _ (omega arith) (omega arith) (inl (omega arith))))

pub returns-else-i-d : goal.returns-else-i-d
returns-else-i-d c = (omega arith, rw c.if-up.true (fall-is _ _ _ _ (omega arith) (omega arith) (inr (omega arith))))

pub returns-then-d-i : goal.returns-then-d-i
returns-then-d-i c = (omega arith, rw c.if-up.false (fall-is _ _ _ _ (omega arith) (omega arith) (inl (omega arith))))

pub returns-else-d-i : goal.returns-else-d-i
returns-else-d-i c = (omega arith, rw c.if-up.false (fall-is _ _ _ _ (omega arith) (omega arith) (inr (omega arith))))
