-- How listing a file ends: with no room, or with the listing of what a load left, which is a loaded table's or a refusal's. Assumes
-- nothing.
use mathlib.Core.Path.{◌≡◌}
use mathlib.Core.List.{List, [], ◌∷◌, ◌++◌}
use Prim.Native.Nat.{ℕ, ◌<◌, ◌≤◌}
use native.Mathlib.Nat.{zero-add}
use borrow.Author.Tests.{lt-ltb, le-ltb}
use lib.ListN.{length}
use Rattle.rules.specs.declared.Pool.{Pool}
use Rattle.rules.specs.declared.Refusal.{Refusal}
use Rattle.rules.specs.declared.Refusal.TheVariants as no
use Rattle.rules.specs.Numbers.{refusal_number}
use Rattle.rules.specs.Pool.{laid, waiting}
use Rattle.table_type.specs.declared.Table.{Table}
use Rattle.table_type.specs.declared.Stepped.{Stepped}
use Rattle.table_type.specs.Start.{no_table}
use Rattle.std.specs.Prelude.{Ok, Err}
use Rattle.file.specs.Load.{load_of}
use Rattle.file.specs.Write.{Wrote}
use Rattle.text.specs.Decimal.{decimal}
use Rattle.listing.specs.Print.{headline, refused_word, lines_of, print_of, listing_of}
use Rattle.text.specs.InnerPrints.{Prints}
use Rattle.listing.specs.List.{room, list_of, listed_of}
use Rattle.file_list.proofs.Length.{loaded}
use Rattle.file_list.specs.InnerLoaded.{Loaded}

-- what a load left, by its answer
module _ {a b : List ℕ} {i : ℕ} (s : Stepped) where
  pub loaded-done : s.answer ≡ Ok tt → Prints a 0 (headline ++ lines_of s.table (waiting s.pool)) i b → Prints a 0 (print_of s) i b
  loaded-done e p = rw e p

  pub loaded-refused : (why : Refusal) → s.answer ≡ Err why
      → Prints a 0 (refused_word ++ (decimal (refusal_number why) ++ (10 ∷ []))) i b → Prints a 0 (print_of s) i b
  loaded-refused why e p = rw e p

pub loaded-by : {s : Stepped} (bs : List ℕ) (t : Table) (p : Pool) (len : ℕ) → s ≡ load_of bs t p len → Loaded s
loaded-by bs t p len e = rw e (loaded bs t p len)

-- what `list` promises
abbrev Lists : List ℕ → List ℕ → Wrote → List ℕ → Type 0
Lists file out r new = (r ≡ list_of file out) × (new ≡ listed_of file out)

module _ (file out : List ℕ) where
  pub lists-none : length out < room → Lists file out (Err no.NoRoom) out
  unfolding list_of listed_of
  lists-none h = let l = lt-ltb (length out) room h in (rw l, rw l)

  pub lists-done : room ≤ length out → {t : Table} {p : Pool} (s : Stepped) → t ≡ no_table → p ≡ laid [] → s ≡ load_of file t p 256
      → {n : ℕ} {new : List ℕ} → Prints out 0 (print_of s) n new → Lists file out (Ok n) new
  unfolding list_of listed_of listing_of
  lists-done h s e f g p =
      let l = le-ltb (length out) room h in
      let same : listing_of file ≡ print_of s = rw (g, e, f) in
      (rw (l, same, p.next-is, zero-add), rw (l, same, p.new_is, zero-add))
