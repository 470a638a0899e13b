-- The four theorems of the table file, on the definitions of Load and Write: a table that was written is read again (read-of-write), a
-- file that was read is written again (write-of-read), each number is answered exactly if its condition holds and no lower one does
-- (refuses-exactly), and what is not written or read stays as it is (leaves-the-rest). Assumes nothing: Held is what the machine's types
-- hold of every value.
use mathlib.Core.Path.{◌≡◌, refl, sym, ◌∙◌, ap, ap₂}
use mathlib.Core.Bool.{Bool, true, false, cond, ◌&&◌, not}
use mathlib.Core.List.{List, ◌++◌}
use Prim.Native.Nat.{ℕ, ◌≤◌}
use native.Mathlib.Omega.{arith}
use borrow.Author.Tests.{le-ltb, ltb-false}
use lib.Dec.{eqb}
use lib.ListN.{length, take, drop, length-append, length-drop}
use lib.Seq.{take_at, drop_at}
use Rattle.marks.proofs.Bools.{and_left, and_right}
use Rattle.rules.specs.declared.Pool.{Pool}
use Rattle.rules.specs.declared.Refusal.{Refusal}
use Rattle.rules.specs.Limits.{messages_high}
use Rattle.rules.specs.Numbers.{answer_number}
use Rattle.rules.specs.Pool.{waiting, laid}
use Rattle.table_type.specs.declared.Table.{Table}
use Rattle.table_type.specs.declared.Stepped.{Stepped}
use Rattle.table.specs.Settle.{refused_of, done_of}
use Rattle.step.specs.Step.{is_sound}
use Rattle.table.specs.Valid.{valid_of}
use Rattle.words.proofs.Codec.{Bytes}
use Rattle.file.specs.Format.{total_of, file_of}
use Rattle.file.specs.Load.{header_fits, offsets_fit, statuses_fit, file_table, file_pool, load_of}
use Rattle.std.specs.Prelude.{Ok, Err}
use Rattle.file.specs.Write.{wrote_of, written_of}
use Rattle.file.specs.Held.{Held}
use Rattle.table_laws.proofs.Sound.{sound, sound-valid, is-valid, is-sound}
use Rattle.file.proofs.Told.{laid-told}
use Rattle.file.proofs.File.{file-long, file-header-fits, file-offsets-fit, file-statuses, file-table}
use Rattle.file.proofs.File.{file-pool}
use Rattle.file.proofs.Back.{Header, header-told, file-total, file-back}
use Rattle.file.proofs.Exactly.{load_number, too_short, records_fit, no_room}
use Rattle.file.proofs.Exactly.{LoadExactly, WriteExactly, load-exactly, write-exactly, load-makes, load-leaves, write-leaves}

-- ---- read of write

pub load-of-file : (t : Table) (p : Pool) (t' : Table) (p' : Pool) → Held t p → valid_of t p ≡ true
    → load_of (file_of t p) t' p' 256 ≡ done_of t (laid (waiting p))
unfolding load_of
load-of-file t p t' p' k v =
    let s = sound t p v in
    let long : 32 ≤ length (file_of t p) = omega (arith, file-long t p s k) in
    rw (le-ltb (length (file_of t p)) 32 long, file-header-fits t p s k, file-offsets-fit t p s k, file-statuses t p s k)
    (rw (file-table t p s k, file-pool t p s k, sound-valid (laid-told s k.places)))

-- the longest file has 64 nodes and 256 messages
pub total-most : (t : Table) (p : Pool) → valid_of t p ≡ true → total_of t.n p.count ≤ 18464
total-most t p v = let s = sound t p v in omega (arith, s.numbers.n-high, s.counted)

-- what is counted and written when there is room
pub counted : (t : Table) (p : Pool) (len : ℕ) (buf : List ℕ) → is_sound t p len ≡ true → total_of t.n p.count ≤ length buf
    → wrote_of t p len buf ≡ Ok (total_of t.n p.count)
unfolding wrote_of
counted t p len buf s h = rw (s, le-ltb (length buf) (total_of t.n p.count) h)

pub written : (t : Table) (p : Pool) (len : ℕ) (buf : List ℕ) → is_sound t p len ≡ true → total_of t.n p.count ≤ length buf
    → written_of t p len buf ≡ file_of t p ++ drop (total_of t.n p.count) buf
unfolding written_of
written t p len buf s h = rw (s, le-ltb (length buf) (total_of t.n p.count) h)

pub read-of-write : (t : Table) (p : Pool) (buf : List ℕ) (t' : Table) (p' : Pool) → Held t p → valid_of t p ≡ true
    → total_of t.n p.count ≤ length buf
    → load_of (take (total_of t.n p.count) (written_of t p 256 buf)) t' p' 256 ≡ done_of t (laid (waiting p))
read-of-write t p buf t' p' k v h =
    let total = total_of t.n p.count in
    rw (written t p 256 buf (is-sound t p v) h)
    (rw (take_at (file_of t p) (drop total buf) total (file-long t p (sound t p v) k)) (load-of-file t p t' p' k v))

-- ---- write of read

-- what a done load tells
record Loaded (bs : List ℕ) (t : Table) (p : Pool) : Type 0 where
  header : Header bs
  statuses : statuses_fit bs ≡ true
  valid : valid_of (file_table bs) (file_pool bs) ≡ true
  table : file_table bs ≡ t
  pool : file_pool bs ≡ p

loaded : (bs : List ℕ) (t : Table) (p : Pool) (len : ℕ) (t' : Table) (p' : Pool) → load_of bs t p len ≡ done_of t' p' → Loaded bs t' p'
loaded bs t p len t' p' e =
    let zero : load_number bs t p len ≡ 0 = ap (λ (x : Stepped). answer_number x.answer) e in
    let b = header_fits bs in
    let c = offsets_fit bs in
    let d = records_fit bs len in
    let f = statuses_fit bs in
    let g = valid_of (file_table bs) (file_pool bs) in
    let bcd = and_right (not (too_short bs)) (b && (c && d)) ((load-exactly bs t p len).done.0 zero) in
    let cd = and_right b (c && d) bcd in
    let fg = and_right (eqb len messages_high) (f && g) (and_right c d cd) in
    let same : done_of (file_table bs) (file_pool bs) ≡ done_of t' p' = sym (load-makes bs t p len zero) ∙ e in
    record {
      header = header-told bs (and_left b (c && d) bcd) (and_left c d cd);
      statuses = and_left f g fg;
      valid = and_right f g fg;
      table = ap (λ (x : Stepped). x.table) same;
      pool = ap (λ (x : Stepped). x.pool) same;
    }

pub write-of-read : (bs : List ℕ) (t : Table) (p : Pool) (len : ℕ) (t' : Table) (p' : Pool) → Bytes bs → load_of bs t p len ≡ done_of t' p'
    → file_of t' p' ≡ bs
write-of-read bs t p len t' p' b e =
    let k = loaded bs t p len t' p' e in
    ap₂ file_of (sym k.table) (sym k.pool) ∙ file-back bs b k.header k.statuses

-- so a file that was read is written back into any buffer that is large enough, and the rest of the buffer stays
pub written-of-read : (bs : List ℕ) (t : Table) (p : Pool) (len : ℕ) (t' : Table) (p' : Pool) (buf : List ℕ) → Bytes bs
    → load_of bs t p len ≡ done_of t' p' → length bs ≤ length buf → written_of t' p' 256 buf ≡ bs ++ drop (length bs) buf
written-of-read bs t p len t' p' buf b e h =
    let k = loaded bs t p len t' p' e in
    let v : valid_of t' p' ≡ true = rw (k.table, k.pool) at k.valid in
    let total : total_of t'.n p'.count ≡ length bs = rw (k.table, k.pool) at (file-total bs k.header) in
    rw (written t' p' 256 buf (is-sound t' p' v) (omega arith), write-of-read bs t p len t' p' b e, total)

-- ---- refuses exactly

-- bs is the file that is read, or the buffer that is written
pub refuses-exactly : (t : Table) (p : Pool) (len : ℕ) (bs : List ℕ) → LoadExactly bs t p len × WriteExactly t p len bs
refuses-exactly t p len bs = (load-exactly bs t p len, write-exactly t p len bs)

-- ---- leaves the rest

pub record Rest (t : Table) (p : Pool) (len : ℕ) (bs : List ℕ) : Type 0 where
  pub load : (why : Refusal) → (load_of bs t p len).answer ≡ Err why → load_of bs t p len ≡ refused_of t p why
  pub write : (why : Refusal) → wrote_of t p len bs ≡ Err why → written_of t p len bs ≡ bs
  pub long : length (written_of t p len bs) ≡ length bs
  pub rest : drop (total_of t.n p.count) (written_of t p len bs) ≡ drop (total_of t.n p.count) bs

pub leaves-the-rest : (t : Table) (p : Pool) (len : ℕ) (bs : List ℕ) → Held t p → Rest t p len bs
unfolding written_of
leaves-the-rest t p len bs k =
    let two = go (is_sound t p len) refl (no_room t p bs) refl in
    record { load = load-leaves bs t p len; write = write-leaves t p len bs; long = two.0; rest = two.1 }
  where
    go : (s : Bool) → is_sound t p len ≡ s → (r : Bool) → no_room t p bs ≡ r
        → let x : List ℕ = cond (not s) bs (cond r bs (file_of t p ++ drop (total_of t.n p.count) bs)) in
        (length x ≡ length bs) × (drop (total_of t.n p.count) x ≡ drop (total_of t.n p.count) bs)
    go false e r q = (refl, refl)
    go true e true q = (refl, refl)
    go true e false q =
        let total = total_of t.n p.count in
        let v = sound t p (is-valid t p len e) in
        let long : length (file_of t p) ≡ total = file-long t p v k in
        let room : total ≤ length bs = ltb-false (length bs) total q in
        (rw (length-append, length-drop, long) (omega arith), drop_at (file_of t p) (drop total bs) total long)
