-- A loaded table is valid, so a listing is no longer than this; and the bytes that `list` counts are the listing. Assumes nothing.
use Rattle.rules.specs.Shapes.{Answer}
use mathlib.Core.Path.{◌≡◌, refl}
use mathlib.Core.Bool.{Bool, true, false, cond}
use mathlib.Core.List.{List, [], ◌++◌}
use Prim.Native.Nat.{ℕ, ◌+◌, ◌*◌, ◌<◌, ◌≤◌}
use native.Mathlib.Omega.{arith}
use lib.Dec.{ltb}
use borrow.Author.Tests.{le-ltb}
use lib.ListN.{length, take, drop, length-append}
use lib.Seq.{take-append_seam}
use Rattle.rules.specs.declared.Pool.{Pool}
use Rattle.rules.specs.declared.Refusal.{Refusal}
use Rattle.rules.specs.declared.Refusal.TheVariants as no
use Rattle.rules.specs.Numbers.{refusal_number}
use Rattle.rules.specs.Pool.{laid}
use Rattle.table_type.specs.declared.Table.{Table}
use Rattle.table_type.specs.declared.Stepped.{Stepped}
use Rattle.table_type.specs.Start.{no_table}
use Rattle.table_laws.proofs.Sound.{sound}
use Rattle.file.specs.Load.{load_of}
use Rattle.std.specs.Prelude.{Ok, Err}
use Rattle.file.specs.Write.{count_of}
use Rattle.file.proofs.Exactly.{load-valid}
use Rattle.listing.specs.List.{room, list_of, listed_of}
use Rattle.listing.specs.Print.{printed, print_of, listing_of}
use Rattle.file_list.proofs.Text.{lines-short}
use Rattle.text.specs.Decimal.{decimal}
use Rattle.text.proofs.Digits.{decimal-word}
use Rattle.file_list.specs.InnerLoaded.{Loaded}

pub loaded : (bs : List ℕ) (t : Table) (p : Pool) (len : ℕ) → Loaded (load_of bs t p len)
loaded bs t p len = record { valid = load-valid bs t p len }

refusal-short : (why : Refusal) → length (decimal (refusal_number why)) ≤ 10
refusal-short why = decimal-word (refusal_number why) (small why)
  where
    small : (why : Refusal) → refusal_number why < 4294967296
    small no.OutOfRange = omega arith
    small no.Status = omega arith
    small no.Waits = omega arith
    small no.LeafSet = omega arith
    small no.Partner = omega arith
    small no.Full = omega arith
    small no.Short = omega arith
    small no.Header = omega arith
    small no.Offsets = omega arith
    small no.Invalid = omega arith
    small no.NoRoom = omega arith

pub print-short : (s : Stepped) → Loaded s → length (print_of s) ≤ 21 + 256 * 100
print-short s v = go s.answer refl
  where
    go : (a : Answer) → s.answer ≡ a → length (printed a s) ≤ 21 + 256 * 100
    go (Ok tt) e =
        omega (arith, (sound s.table s.pool (v.valid e)).counted, lines-short s.table s.pool (v.valid e) s.pool.count (omega arith))
    go (Err why) e = simp length-append (omega (arith, refusal-short why))

pub listing-short : (bs : List ℕ) → length (listing_of bs) ≤ 21 + 256 * 100
unfolding listing_of
listing-short bs = print-short (load_of bs no_table (laid []) 256) (loaded bs no_table (laid []) 256)

-- ---- what a caller prints

module _ (file out : List ℕ) where
  -- the count lies within the buffer
  pub list_inside : count_of (list_of file out) ≤ length (listed_of file out)
  unfolding list_of listed_of
  list_inside = go (ltb (length out) room)
    where
      go : (b : Bool) → count_of (cond b (Err no.NoRoom) (Ok (length (listing_of file))))
          ≤ length (cond b out (listing_of file ++ drop (length (listing_of file)) out))
      go true = omega arith
      go false = rw length-append (omega arith)

  -- where there is room, so many of its first bytes are the listing
  pub list_tells : room ≤ length out → take (count_of (list_of file out)) (listed_of file out) ≡ listing_of file
  unfolding list_of listed_of
  list_tells h = rw (le-ltb (length out) room h) (take-append_seam (listing_of file) _)
