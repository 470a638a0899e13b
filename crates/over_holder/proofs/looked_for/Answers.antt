-- `over_holder::looked_for` meets its contract: 1 shifted by M is 2^M, and a key below it has 32 bits. Assumes nothing.
use borrow.Author.Tests.{lt-ltb, le-ltb}
use mathlib.Core.Path.{◌≡◌, ◌∙◌}
use mathlib.Core.Bool.{Bool, true, false}
use Prim.Native.Nat.{ℕ, ◌*◌, ◌%◌, ◌^◌, ◌<◌, ◌≤◌}
use native.Mathlib.Nat.{one-mul}
use native.Mathlib.Omega.{arith}
use lib.Dec.{lit<}
use lib.Pow.{shl_exact, pow_mono}
use Rattle.table_type.specs.declared.Table.{Table}
use Rattle.std.specs.Prelude.{Err}
use Rattle.holder.specs.declared.Unheld.TheVariants.{OutOfRange, Unsettled}
use Rattle.holder.specs.Holder.{Holding, covered_by, held_at, holding_in}
use Rattle.over_holder.proofs.looked_for.Goals as goal

module _ (t : Table) (settled : Bool) (k : ℕ) (h : t.m ≤ 32) where
  -- a one shifted by less than the width loses nothing
  size : 1 * 2 ^ t.m % 2 ^ 64 ≡ 2 ^ t.m
  size = shl_exact 1 t.m 64 (lit< tt) (omega arith) ∙ one-mul (2 ^ t.m)

  outside : 1 * 2 ^ t.m % 2 ^ 64 ≤ k → Err OutOfRange ≡ holding_in t settled k
  outside l = rw (le-ltb k (2 ^ t.m) (rw size at l))

  module _ (l : k < 1 * 2 ^ t.m % 2 ^ 64) where
    inside : k < 2 ^ t.m
    inside = rw size at l

    narrow : k < 2 ^ 32
    narrow = omega (arith, inside, pow_mono h)

    looked : (r : Holding) → settled ≡ true → r ≡ held_at t (covered_by t k) → r ≡ holding_in t settled k
    looked r s e = e ∙ rw (s, lt-ltb k (2 ^ t.m) inside)

    not-settled : settled ≡ false → Err Unsettled ≡ holding_in t settled k
    not-settled s = rw (s, lt-ltb k (2 ^ t.m) inside)

pub returns-then-k-t : goal.returns-then-k-t
returns-then-k-t c = outside c.args.t c.args.settled c.args.k c.requires.width.high c.if-k-t.true

pub overflow_cast-k : goal.overflow_cast-k
overflow_cast-k c = record { fits = narrow c.args.t true c.args.k c.requires.width.high c.if-k-t.false }

pub held_at-requires : goal.held_at-requires
held_at-requires c = (c.requires, inside c.args.t true c.args.k c.requires.width.high c.if-k-t.false)

pub returns-then-settled : goal.returns-then-settled
returns-then-settled c = looked c.args.t c.args.settled c.args.k c.requires.width.high
    c.if-k-t.false _ c.if-settled.true c.held_at.ensures

pub returns-else-settled : goal.returns-else-settled
returns-else-settled c = not-settled c.args.t c.args.settled c.args.k c.requires.width.high
    c.if-k-t.false c.if-settled.false
