-- What is written is what was made: the bytes that a done call counts, read again, are the table and the pool of its load, its step or its start, exactly;
-- and a refusal leaves the buffer. The idea: the writer refuses what is not valid, so its answer tells validity, and a load, a step or a start that is done
-- leaves a pool that is laid out. Assumes nothing: Held is what the machine's types hold of every value.
use Rattle.rules.specs.Shapes.{Answer}
use mathlib.Core.Path.{◌≡◌, refl, sym, ◌∙◌, ap}
use mathlib.Core.Bool.{Bool, true, false, cond, ◌&&◌, not}
use mathlib.Core.List.{List, []}
use Prim.Native.Nat.{ℕ, ◌^◌, ◌≤◌}
use native.Mathlib.Omega.{arith}
use borrow.Author.Tests.{ltb-false}
use lib.Dec.{ltb}
use lib.ListN.{length, take}
use Rattle.marks.proofs.Bools.{and_left, and_right, bool_false, opposed, true-not}
use Rattle.rules.specs.declared.Action.{Action}
use Rattle.rules.specs.declared.Pool.{Pool}
use Rattle.rules.specs.declared.Refusal.{Refusal}
use Rattle.rules.specs.declared.Refusal.TheVariants as no
use Rattle.rules.specs.Pool.{waiting, laid}
use Rattle.table_type.specs.declared.Table.{Table}
use Rattle.table_type.specs.declared.Stepped.{Stepped}
use Rattle.table.specs.Settle.{refused_of, done_of}
use Rattle.table_type.specs.Start.{no_table}
use Rattle.step.specs.Step.{is_sound}
use Rattle.table.specs.Valid.{valid_of}
use Rattle.table_laws.proofs.Sound.{is-sound}
use Rattle.std.specs.Prelude.{Ok, Err}
use Rattle.file.proofs.Exactly.{no_room, write-exactly, write-leaves}
use Rattle.file.specs.Format.{total_of}
use Rattle.file.specs.Load.{load_of}
use Rattle.file.specs.Held.{Held}
use Rattle.file.proofs.Theorems.{counted, read-of-write}
use Rattle.file.specs.Write.{Wrote, said_number, count_of, wrote_of, written_of}
use Rattle.face.specs.Asked.{start_step}
use Rattle.face.proofs.Laid.{Neat, refused-neat, step-neat, load-neat, start-neat}
use Rattle.face.specs.Calls.{loaded_of, next_of, begun_of, wrote_by, left_by}
use Rattle.face_file.proofs.Unique.{Filed}

-- ---- what is written

module _ (s : Stepped) (out : List ℕ) where
  wrote-done : s.answer ≡ Ok tt → wrote_by s out ≡ wrote_of s.table s.pool 256 out
  unfolding wrote_by
  wrote-done e = rw e

  wrote-not : (why : Refusal) → s.answer ≡ Err why → wrote_by s out ≡ Err why
  unfolding wrote_by
  wrote-not why e = rw e

  left-done : s.answer ≡ Ok tt → left_by s out ≡ written_of s.table s.pool 256 out
  unfolding left_by
  left-done e = rw e

  left_not : (why : Refusal) → s.answer ≡ Err why → left_by s out ≡ out
  unfolding left_by
  left_not why e = rw e

-- one count stands in an answer
inj : {a b : ℕ} → ◌≡◌ {A = Wrote} (Ok a) (Ok b) → a ≡ b
inj e = ap (λ (x : Wrote). count_of x) e

-- a done write is of a valid table, and has room
module _ (t : Table) (p : Pool) (out : List ℕ) (count : ℕ) (e : wrote_of t p 256 out ≡ Ok count) where
  fits : (is_sound t p 256 && not (no_room t p out)) ≡ true
  fits = (write-exactly t p 256 out).done.0 (ap said_number e)

  valid : valid_of t p ≡ true
  unfolding is_sound
  valid = and_left (is_sound t p 256) (not (no_room t p out)) fits

  roomy : no_room t p out ≡ false
  roomy = bool_false (no_room t p out) (λ n. opposed (and_right (is_sound t p 256) (not (no_room t p out)) fits) (true-not n))

  room : total_of t.n p.count ≤ length out
  room = ltb-false (length out) (total_of t.n p.count) roomy

  same : count ≡ total_of t.n p.count
  same = inj (sym e ∙ counted t p 256 out (is-sound t p valid) room)

  back : Held t p → (t' : Table) (p' : Pool) → load_of (take count (written_of t p 256 out)) t' p' 256 ≡ done_of t (laid (waiting p))
  back k t' p' = rw same (read-of-write t p out t' p' k valid room)

-- ---- pools that are laid out

next-neat : (s : Stepped) (a : Action) → Neat (next_of s a)
unfolding next_of
next-neat s a = go s.answer refl
  where
    go : (w : Answer) → s.answer ≡ w → Neat (next_of s a)
    go (Ok tt) e = rw e (step-neat s.table s.pool 256 a)
    go (Err why) e = rw e (refused-neat s.table s.pool why)

begun-neat : (m l a : ℕ) (ids : List ℕ) → Neat (begun_of m l a ids)
unfolding begun_of
begun-neat m l a ids = go (ltb m (2 ^ 32) && ltb l (2 ^ 32))
  where
    go : (b : Bool) → Neat (cond b (start_step no_table (laid []) 256 m l ids a) (refused_of no_table (laid []) no.Header))
    go true = start-neat no_table (laid []) 256 m l ids a
    go false = refused-neat no_table (laid []) no.Header

-- no answer is a refusal too
not_both : {r : Wrote} {why : Refusal} {count : ℕ} → r ≡ Err why → r ≡ Ok count → ⊥
not_both e d = let z : ◌≡◌ {A = ℕ} 0 1 = cc in omega arith

-- ---- what is written is read again

module _ (out cs : List ℕ) (r : Wrote) where
  reads-back : (s : Stepped) → Neat s → Held s.table s.pool → Filed s out cs r → (count : ℕ) → r ≡ Ok count
      → loaded_of (take count cs) ≡ done_of s.table s.pool
  unfolding loaded_of
  reads-back s neat k h count e = go s.answer refl
    where
      go : (w : Answer) → s.answer ≡ w → load_of (take count cs) no_table (laid []) 256 ≡ done_of s.table s.pool
      go (Ok tt) q =
          let f : r ≡ wrote_of s.table s.pool 256 out = h.0 ∙ wrote-done s out q in
          let c : cs ≡ written_of s.table s.pool 256 out = h.1 ∙ left-done s out q in
          rw c (back s.table s.pool out count (sym f ∙ e) k no_table (laid []))
          ∙ ap (done_of s.table) (sym (neat q))
      go (Err why) q = absurd (not_both (h.0 ∙ wrote-not s out why q) e)

  pub reload-kept : (file : List ℕ) → let s = loaded_of file in Held s.table s.pool → Filed s out cs r → (count : ℕ) → r ≡ Ok count
      → loaded_of (take count cs) ≡ done_of s.table s.pool
  unfolding loaded_of
  reload-kept file = reads-back (loaded_of file) (load-neat no_table (laid []) 256 file)

  pub step-file-kept : (file : List ℕ) (a : Action) → let s = next_of (loaded_of file) a in Held s.table s.pool → Filed s out cs r → (count : ℕ) → r ≡ Ok count
      → loaded_of (take count cs) ≡ done_of s.table s.pool
  step-file-kept file a = reads-back (next_of (loaded_of file) a) (next-neat (loaded_of file) a)

  pub start-file-kept : (m l a : ℕ) (ids : List ℕ) → let s = begun_of m l a ids in Held s.table s.pool → Filed s out cs r → (count : ℕ) → r ≡ Ok count
      → loaded_of (take count cs) ≡ done_of s.table s.pool
  start-file-kept m l a ids = reads-back (begun_of m l a ids) (begun-neat m l a ids)

  -- a refusal of the load, the step, the start or the write leaves the buffer
  pub buffer-kept : (s : Stepped) (why : Refusal) → Filed s out cs r → r ≡ Err why → cs ≡ out
  buffer-kept s why h e = go s.answer refl
    where
      go : (w : Answer) → s.answer ≡ w → cs ≡ out
      go (Ok tt) q =
          let f : r ≡ wrote_of s.table s.pool 256 out = h.0 ∙ wrote-done s out q in
          h.1 ∙ left-done s out q ∙ write-leaves s.table s.pool 256 out why (sym f ∙ e)
      go (Err w) q = h.1 ∙ left_not s out w q
