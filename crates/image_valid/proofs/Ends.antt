-- How a test of a table file ends: the answer of a load is that of its header and offsets, then that of its records, whatever table and pool were there
-- before. Assumes nothing.
use Rattle.rules.specs.Shapes.{Answer}
use Rattle.std.specs.Prelude.{Ok, Err}
use mathlib.Core.Path.{◌≡◌, refl, sym, ◌∙◌, ap}
use mathlib.Core.Bool.{Bool, true, false, ◌&&◌}
use mathlib.Core.List.{List}
use Prim.Native.Nat.{ℕ, ◌<◌, ◌≤◌}
use lib.ListN.{length}
use Rattle.marks.proofs.Bools.{and-fails-left, and-fails-right}
use Rattle.rules.specs.declared.Ring.{Ring}
use Rattle.rules.specs.declared.Pool.{Pool}
use Rattle.rules.specs.declared.Refusal.TheVariants as no
use Rattle.rules.specs.Fits.{numbers_fit}
use Rattle.table_type.specs.declared.Table.{Table}
use Rattle.table_type.specs.declared.Stepped.{Stepped}
use Rattle.table_type.specs.Table.{ids_of, ring_of}
use Rattle.table.specs.Valid.{nodes_fit, pool_fits, valid_of}
use Rattle.file.specs.Load.{header_fits, offsets_fit, statuses_fit, file_table, file_pool, load_of}
use Rattle.file_read.specs.InnerRecords.{Fitting, records_of}
use Rattle.file_read.proofs.Ends.{load-short, load-header, load-offsets, load_goes}
use Rattle.image_valid.proofs.Records.{header-numbers}

abbrev answer_of : Stepped → Answer
answer_of x = x.answer

-- the last test of a load
abbrev pub records_fit : List ℕ → Bool
records_fit bs = statuses_fit bs && valid_of (file_table bs) (file_pool bs)

module _ (bs : List ℕ) where
  pub nodes-fail : nodes_fit (file_table bs) ≡ false → records_fit bs ≡ false
  unfolding valid_of
  nodes-fail e =
      and-fails-right (statuses_fit bs) (and-fails-right (numbers_fit (ring_of (file_table bs)))
      (and-fails-left (pool_fits (ring_of (file_table bs)) (ids_of (file_table bs)) (file_pool bs)) e))

  -- past these, the messages decide
  pub pool-decides : (g : Ring) (ids : List ℕ) (r : Bool) → header_fits bs ≡ true → statuses_fit bs ≡ true → nodes_fit (file_table bs) ≡ true
      → g ≡ ring_of (file_table bs) → ids ≡ ids_of (file_table bs) → r ≡ pool_fits g ids (file_pool bs) → r ≡ records_fit bs
  unfolding valid_of
  pool-decides g ids r h s n e i q = rw (q, e, i, s, header-numbers bs h, n)

  module _ (t : Table) (p : Pool) where
    pub answer-short : length bs < 32 → Err no.Short ≡ (load_of bs t p 256).answer
    answer-short h = sym (ap answer_of (load-short bs t p 256 h))

    pub answer-header : 32 ≤ length bs → header_fits bs ≡ false → Err no.Header ≡ (load_of bs t p 256).answer
    answer-header h e = sym (ap answer_of (load-header bs t p 256 h e))

    pub answer-offsets : 32 ≤ length bs → header_fits bs ≡ true → offsets_fit bs ≡ false → Err no.Offsets ≡ (load_of bs t p 256).answer
    answer-offsets h e o = sym (ap answer_of (load-offsets bs t p 256 h e o))

    records-done : records_fit bs ≡ true → (records_of bs t p).answer ≡ Ok tt
    unfolding records_of
    records-done e = rw e

    records-invalid : records_fit bs ≡ false → (records_of bs t p).answer ≡ Err no.Invalid
    unfolding records_of
    records-invalid e = rw e

    pub answer-done : 32 ≤ length bs → Fitting bs → records_fit bs ≡ true → (Ok tt) ≡ (load_of bs t p 256).answer
    answer-done h f e = sym (ap answer_of (load_goes bs t p 256 h f refl) ∙ records-done e)

    pub answer-invalid : 32 ≤ length bs → Fitting bs → records_fit bs ≡ false → Err no.Invalid ≡ (load_of bs t p 256).answer
    answer-invalid h f e = sym (ap answer_of (load_goes bs t p 256 h f refl) ∙ records-invalid e)
