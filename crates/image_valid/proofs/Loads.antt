-- Loading is the test and nothing else. Where `tested` says done, a load leaves the table and the messages of the file, they are valid, and the file is theirs
-- byte for byte; where it refuses, a load leaves what was there. Assumes nothing.
use Rattle.std.specs.Prelude.{Ok, Err}
use mathlib.Core.Path.{◌≡◌, sym, ap}
use mathlib.Core.Bool.{true}
use mathlib.Core.List.{List}
use Prim.Native.Nat.{ℕ}
use Rattle.words.proofs.Codec.{Bytes}
use Rattle.rules.specs.declared.Pool.{Pool}
use Rattle.rules.specs.declared.Refusal.{Refusal}
use Rattle.rules.specs.Numbers.{answer_number}
use Rattle.table_type.specs.declared.Table.{Table}
use Rattle.table.specs.Settle.{refused_of, done_of}
use Rattle.table.specs.Valid.{valid_of}
use Rattle.file.specs.Format.{file_of}
use Rattle.file.specs.Load.{file_table, file_pool, load_of}
use Rattle.file.proofs.Exactly.{load-makes, load-valid, load-leaves}
use Rattle.file.proofs.Theorems.{write-of-read}
use Rattle.image_valid.proofs.Unique.{Told}

module _ (file : List ℕ) where
  pub done-loads : Told file (Ok tt) → (t : Table) (p : Pool) → load_of file t p 256 ≡ done_of (file_table file) (file_pool file)
  done-loads h t p = load-makes file t p 256 (ap answer_number (sym (h t p)))

  pub refused-leaves : (why : Refusal) → Told file (Err why) → (t : Table) (p : Pool) → load_of file t p 256 ≡ refused_of t p why
  refused-leaves why h t p = load-leaves file t p 256 why (sym (h t p))

  pub done-valid : Told file (Ok tt) → valid_of (file_table file) (file_pool file) ≡ true
  done-valid h =
      let t = file_table file in
      let p = file_pool file in
      rw (done-loads h t p) at (load-valid file t p 256 (sym (h t p)))

  pub done-back : Bytes file → Told file (Ok tt) → file_of (file_table file) (file_pool file) ≡ file
  done-back b h =
      let t = file_table file in
      let p = file_pool file in
      write-of-read file t p 256 t p b (done-loads h t p)
