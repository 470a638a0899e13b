-- How a load ends: refused with 7, 8, 9 or, for the list's length, 10, or as its records say; and how these end. Each return of `load` and
-- of `load_records` is one of these. Assumes nothing.
use mathlib.Core.Path.{◌≡◌}
use mathlib.Core.Bool.{true, false}
use mathlib.Core.List.{List}
use Prim.Native.Nat.{ℕ, ◌<◌, ◌≤◌}
use borrow.Author.Tests.{lt-ltb, le-ltb, eq-eqb, ne_eqb}
use lib.ListN.{length}
use Rattle.marks.proofs.Bools.{and_both, and-fails-left, and-fails-right}
use Rattle.rules.specs.declared.Pool.{Pool}
use Rattle.rules.specs.declared.Refusal.TheVariants as no
use Rattle.table_type.specs.declared.Table.{Table}
use Rattle.table.specs.Settle.{refused_of, done_of}
use Rattle.table.specs.Valid.{valid_of}
use Rattle.file.specs.Load.{header_fits, offsets_fit, statuses_fit, file_table, file_pool, load_of}
use Rattle.file_read.specs.InnerRecords.{Fitting, records_of}

module _ (bs : List ℕ) (t : Table) (p : Pool) where
  pub records-status : statuses_fit bs ≡ false → records_of bs t p ≡ refused_of t p no.Invalid
  unfolding records_of
  records-status e = rw (and-fails-left (valid_of (file_table bs) (file_pool bs)) e)

  pub records-invalid : valid_of (file_table bs) (file_pool bs) ≡ false → records_of bs t p ≡ refused_of t p no.Invalid
  unfolding records_of
  records-invalid e = rw (and-fails-right (statuses_fit bs) e)

  pub records-done : statuses_fit bs ≡ true → valid_of (file_table bs) (file_pool bs) ≡ true
      → records_of bs t p ≡ done_of (file_table bs) (file_pool bs)
  unfolding records_of
  records-done e v = rw (and_both e v)

module _ (bs : List ℕ) (t : Table) (p : Pool) (len : ℕ) where
  pub load-short : length bs < 32 → load_of bs t p len ≡ refused_of t p no.Short
  unfolding load_of
  load-short h = rw (lt-ltb (length bs) 32 h)

  module _ (h : 32 ≤ length bs) where
    pub load-header : header_fits bs ≡ false → load_of bs t p len ≡ refused_of t p no.Header
    unfolding load_of
    load-header e = rw (le-ltb (length bs) 32 h, e)

    pub load-offsets : header_fits bs ≡ true → offsets_fit bs ≡ false → load_of bs t p len ≡ refused_of t p no.Offsets
    unfolding load_of
    load-offsets e o = rw (le-ltb (length bs) 32 h, e, o)

    pub load-places : Fitting bs → (len ≡ 256 → ⊥) → load_of bs t p len ≡ refused_of t p no.Invalid
    unfolding load_of
    load-places f n = rw (le-ltb (length bs) 32 h, f.header, f.offsets, ne_eqb len 256 n)

    pub load_goes : Fitting bs → len ≡ 256 → load_of bs t p len ≡ records_of bs t p
    unfolding load_of records_of
    load_goes f n = rw (le-ltb (length bs) 32 h, f.header, f.offsets, eq-eqb len 256 n)
