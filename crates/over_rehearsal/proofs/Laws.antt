-- Two runs of bytes that are compared by their equality are the same; and a buffer for the longest file holds the file of every valid table. Assumes
-- nothing.
use mathlib.Core.Path.{◌≡◌, refl, ap, sym, ◌∙◌}
use Rattle.std.specs.Bool.{Decides}
use Rattle.rules.specs.declared.Refusal.{Refusal}
use Rattle.rehearsal.proofs.SameFiles.{same-exactly}
use mathlib.Core.Bool.{Bool, true}
use mathlib.Core.List.{List}
use Prim.Native.Nat.{ℕ, suc, ◌+◌, ◌<◌, ◌≤◌}
use native.Mathlib.Numerals.{unary_clauses}
use native.Mathlib.Omega.{arith}
use borrow.Author.Tests.{ltb-true}
use lib.ListN.{length, take, length-append}
use lib.Seq.{take_at}
use Rattle.marks.proofs.Bools.{bool_same, opposed}
use Rattle.rules.specs.declared.Pool.{Pool}
use Rattle.table_type.specs.declared.Table.{Table}
use Rattle.table.specs.Valid.{valid_of}
use Rattle.table_laws.proofs.Sound.{sound, is-sound}
use Rattle.file.proofs.File.{file-long}
use Rattle.file.specs.Format.{total_of, file_of}
use Rattle.file.specs.Held.{Held}
use Rattle.file.proofs.Theorems.{total-most, counted, written}
use Rattle.file.specs.Write.{count_of, wrote_of, written_of}
use Rattle.rehearsal.specs.Rehearsal.{same, most_steps, is_open}
use Rattle.rehearsal.specs.Rehearsal.{Verdict}
use Rattle.std.specs.Prelude.{Ok, Err}

pub one_more_lem : (n : ℕ) → n + 1 ≡ suc n
one_more_lem n = simp unary_clauses

-- two runs of bytes are the same exactly where they are equal
pub same-is : (xs ys : List ℕ) (b : Bool) → Decides b (xs ≡ ys) → b ≡ same xs ys
same-is xs ys b d = bool_same b (same xs ys) (λ e. (same-exactly xs ys).1 (d.0 e)) (λ e. d.1 ((same-exactly xs ys).0 e))

-- ---- the file of a valid table

module _ (t : Table) (p : Pool) (buf : List ℕ) (k : Held t p) (v : valid_of t p ≡ true) (long : 18464 ≡ length buf) where
  room : total_of t.n p.count ≤ length buf
  room = omega (arith, total-most t p v)

  whole : wrote_of t p 256 buf ≡ Ok (total_of t.n p.count)
  whole = counted t p 256 buf (is-sound t p v) room

  -- it is not refused
  pub not-refused : (why : Refusal) → wrote_of t p 256 buf ≡ Err why → ⊥
  not-refused why e = let r : Err why ≡ Ok (total_of t.n p.count) = sym e ∙ whole in let z : ◌≡◌ {A = ℕ} 0 1 = cc in omega arith

  module _ (count : ℕ) (e : wrote_of t p 256 buf ≡ Ok count) where
    count-is : count ≡ total_of t.n p.count
    count-is = ap count_of (sym e ∙ whole)

    -- the bytes that are counted are there, and they are the file
    pub whole_long : count ≤ length (written_of t p 256 buf)
    whole_long =
        rw (count-is, written t p 256 buf (is-sound t p v) room, length-append, file-long t p (sound t p v) k) (omega arith)

    pub whole-file : take count (written_of t p 256 buf) ≡ file_of t p
    whole-file = rw (count-is, written t p 256 buf (is-sound t p v) room) (take_at (file_of t p) _ _ (file-long t p (sound t p v) k))

-- ---- a checker that is open

pub open-low : (v : Verdict) (steps : ℕ) → is_open v steps ≡ true → steps < most_steps
open-low (Ok x) steps e = ltb-true steps most_steps e
open-low (Err k) steps e = absurd (opposed e refl)
