-- `face_file::begun` meets its contract: what does not fit 32 bits is at or above 2^32, as the definition tests it. Assumes nothing.
use borrow.Author.Tests.{lt-ltb, le-ltb}
use mathlib.Core.Path.{◌≡◌, ◌∙◌}
use mathlib.Core.List.{List, []}
use native.Mathlib.Omega.{arith}
use Prim.Native.Nat.{ℕ, ◌≤◌, ◌<◌}
use Rattle.rules.specs.declared.Pool.{Pool}
use Rattle.rules.specs.declared.Refusal.TheVariants as no
use Rattle.rules.specs.Pool.{laid}
use Rattle.table_type.specs.declared.Table.{Table}
use Rattle.table.specs.Settle.{refused_of}
use Rattle.table_type.specs.Start.{no_table}
use Rattle.face.specs.Asked.{start_step}
use Rattle.face.specs.Calls.{begun_of}
use Rattle.face_file.proofs.begun.Goals as goal

module _ (m l a : ℕ) (ids : List ℕ) (t : Table) (p : Pool) (e : t ≡ no_table) (f : p ≡ laid []) where
  m-wide : 4294967296 ≤ m → refused_of t p no.Header ≡ begun_of m l a ids
  unfolding begun_of
  m-wide h = rw (e, f, le-ltb m 4294967296 h)

  module _ (below : m < 4294967296) where
    l-wide : 4294967296 ≤ l → refused_of t p no.Header ≡ begun_of m l a ids
    unfolding begun_of
    l-wide h = rw (e, f, lt-ltb m 4294967296 below, le-ltb l 4294967296 h)

    narrow : l < 4294967296 → start_step t p 256 m l ids a ≡ begun_of m l a ids
    unfolding begun_of
    narrow h = rw (e, f, lt-ltb m 4294967296 below, lt-ltb l 4294967296 h)

pub returns-in_default : goal.returns-in_default
returns-in_default c =
    c.refused.ensures ∙ m-wide _ _ _ _ _ _ c.no_table-t.ensures c.no_messages-p.ensures (omega (arith, c.in_default.ensures))

pub returns-in_default-try_from : goal.returns-in_default-try_from
returns-in_default-try_from c =
    c.refused-in_default-try_from.ensures
    ∙ l-wide _ _ _ _ _ _ c.no_table-t.ensures c.no_messages-p.ensures c.in-Ok.ensures.0 (omega (arith, c.in_default-try_from.ensures))

pub returns : goal.returns
returns c =
    let first = c.in-Ok.ensures in
    let second = c.in-Ok-try_from.ensures in
    c.start.ensures ∙ rw (first.1, second.1) (narrow _ _ _ _ _ _ c.no_table-t.ensures c.no_messages-p.ensures first.0 second.0)
