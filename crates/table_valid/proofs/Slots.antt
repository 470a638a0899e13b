-- The slots of a table in turn. Ids rise, so a listed node's id is at least one above the id before it: `low_at` is the least that it may
-- be, 0 at slot 0. Where all slots fit, the ids are listed (`nodes-listed`). Assumes nothing.
use mathlib.Core.Path.{◌≡◌, refl}
use mathlib.Core.List.{List, []}
use mathlib.Core.Bool.{true, ◌&&◌, ◌||◌}
use Prim.Native.Nat.{ℕ, zero, suc, pred, ◌+◌, ◌^◌, ◌<◌, ◌≤◌}
use native.Mathlib.Numerals.{add-one}
use native.Mathlib.Omega.{arith}
use borrow.Author.Tests.{leb-true, le-leb, ltb-true, lt-ltb, le-ltb, ne_eqb}
use lib.Dec.{eqb, leb, ltb}
use Rattle.marks.specs.Marks.{all_to}
use Rattle.marks.proofs.Bools.{bool_same, and_both}
use Rattle.rules.specs.declared.Ring.{Ring}
use Rattle.rules.specs.declared.Pool.{Pool}
use Rattle.rules.specs.InnerAsks.{Listed}
use Rattle.rules.specs.Fits.{numbers_fit, id_fits, node_fits, is_blank, slot_fits}
use Rattle.rules.specs.Mail.{all_different}
use Rattle.rules.specs.Pick.{id_at}
use Rattle.table_type.specs.declared.Table.{Table}
use Rattle.table_type.specs.Table.{node_at, ids_of, ring_of}
use Rattle.table_type.proofs.IdLaws.{ids_at}
use Rattle.table.specs.Valid.{nodes_fit, messages_fit, pool_fits, valid_of}
use Rattle.table_laws.proofs.Sound.{sound}

unfoldable pub low_at : List ℕ → ℕ → ℕ
low_at ids zero = 0
low_at ids (suc s) = id_at ids s + 1

above : (x y : ℕ) → leb (x + 1) y ≡ ltb x y
above x y =
    bool_same (leb (x + 1) y) (ltb x y) (λ e. lt-ltb x y (omega (arith, leb-true (x + 1) y e)))
    (λ e. le-leb (x + 1) y (omega (arith, ltb-true x y e)))

low-rises : (ids : List ℕ) (s x : ℕ) → leb (low_at ids s) x ≡ (eqb s 0 || ltb (id_at ids (pred s)) x)
unfolding low_at
low-rises ids zero x = le-leb 0 x (omega arith)
low-rises ids (suc s) x = rw (ne_eqb (suc s) 0 (λ e. omega arith)) (above (id_at ids s) x)

module _ (t : Table) where
  pub low-next : (s : ℕ) → (node_at t s).id + 1 ≡ low_at (ids_of t) (s + 1)
  unfolding low_at
  low-next s = rw (add-one s) (rw (ids_at t.nodes s))

  pub slot-listed : (s : ℕ) → s < t.n
      → (ltb (node_at t s).id (2 ^ t.m) && leb (low_at (ids_of t) s) (node_at t s).id && node_fits (ring_of t) s (node_at t s))
      ≡ slot_fits (ring_of t) (ids_of t) s (node_at t s)
  unfolding slot_fits id_fits
  slot-listed s h = rw (lt-ltb s t.n h, low-rises (ids_of t) s (node_at t s).id, ids_at t.nodes s)

  pub slot-blank : (s : ℕ) → t.n ≤ s → is_blank (node_at t s) ≡ slot_fits (ring_of t) (ids_of t) s (node_at t s)
  unfolding slot_fits
  slot-blank s h = rw (le-ltb s t.n h)

-- the messages have no part in it: it is so where none waits
nobody : Pool
nobody = record { count = 0; places = [] }

none-fits : (g : Ring) (ids : List ℕ) → pool_fits g ids nobody ≡ true
unfolding pool_fits messages_fit all_to all_different nobody
none-fits g ids = refl

pub nodes-listed : (t : Table) → numbers_fit (ring_of t) ≡ true → nodes_fit t ≡ true → Listed (ring_of t) (ids_of t)
unfolding valid_of
nodes-listed t a b = (sound t nobody (and_both a (and_both b (none-fits (ring_of t) (ids_of t))))).listed
