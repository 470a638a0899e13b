-- How a write ends: refused for the list's length, for validity or for the room, or done. Each of `write`'s returns is one of
-- these. Assumes nothing.
use mathlib.Core.Path.{◌≡◌, ◌∙◌}
use mathlib.Core.Bool.{true, false}
use mathlib.Core.List.{List}
use Prim.Native.Nat.{ℕ, ◌<◌, ◌≤◌}
use native.Mathlib.Nat.{zero-add}
use borrow.Author.Tests.{lt-ltb, le-ltb, eq-eqb, ne_eqb}
use lib.Dec.{eqb}
use lib.ListN.{length}
use Rattle.marks.proofs.Bools.{and_both, and-fails-left, and-fails-right}
use Rattle.rules.specs.declared.Pool.{Pool}
use Rattle.rules.specs.declared.Refusal.TheVariants as no
use Rattle.table_type.specs.declared.Table.{Table}
use Rattle.step.specs.Step.{is_sound}
use Rattle.table.specs.Valid.{valid_of}
use Rattle.table_laws.proofs.Sound.{sound}
use Rattle.std.specs.Prelude.{Ok, Err}
use Rattle.file.specs.Format.{total_of, file_of}
use Rattle.file.specs.Write.{Wrote, wrote_of, written_of}
use Rattle.words.specs.InnerPut.{Put}

-- what a valid table tells of its counts
pub counts : (t : Table) (p : Pool) → valid_of t p ≡ true → (t.n ≤ 64) × (p.count ≤ 256)
counts t p v = let s = sound t p v in (s.numbers.n-high, s.counted)

-- what `write` promises
abbrev pub Ends : Table → Pool → ℕ → List ℕ → Wrote → List ℕ → Type 0
Ends t p len buf r new = (r ≡ wrote_of t p len buf) × (new ≡ written_of t p len buf)

module _ (t : Table) (p : Pool) (len : ℕ) (buf : List ℕ) where
  unsound : is_sound t p len ≡ false → Ends t p len buf (Err no.Invalid) buf
  unfolding wrote_of written_of
  unsound e = (rw e, rw e)

  pub ends-places : (len ≡ 256 → ⊥) → Ends t p len buf (Err no.Invalid) buf
  unfolding is_sound
  ends-places h = unsound (and-fails-left (valid_of t p) (ne_eqb len 256 h))

  pub ends-invalid : valid_of t p ≡ false → Ends t p len buf (Err no.Invalid) buf
  unfolding is_sound
  ends-invalid h = unsound (and-fails-right (eqb len 256) h)

  sound-is : len ≡ 256 → valid_of t p ≡ true → is_sound t p len ≡ true
  unfolding is_sound
  sound-is e v = and_both (eq-eqb len 256 e) v

  pub ends-room : len ≡ 256 → valid_of t p ≡ true → length buf < total_of t.n p.count → Ends t p len buf (Err no.NoRoom) buf
  unfolding wrote_of written_of
  ends-room e v h =
      let l = lt-ltb (length buf) (total_of t.n p.count) h in
      (rw (sound-is e v, l), rw (sound-is e v, l))

  pub ends-done : len ≡ 256 → valid_of t p ≡ true → total_of t.n p.count ≤ length buf → (next : ℕ) (new : List ℕ)
      → Put (total_of t.n p.count) buf 0 (file_of t p) next new → Ends t p len buf (Ok next) new
  unfolding wrote_of written_of
  ends-done e v h next new k =
      let l = le-ltb (length buf) (total_of t.n p.count) h in
      let n = k.next-is ∙ zero-add (total_of t.n p.count) in
      (rw (sound-is e v, l, n), rw (sound-is e v, l, k.new_is, zero-add))
