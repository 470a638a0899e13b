-- Writing a table file into a buffer. Definitions only. Assumes nothing.
use Rattle.std.specs.Prelude.{cond, not, List, ◌++◌, ℕ, ltb, length, drop, Result, Ok, Err}
use Rattle.rules.specs.declared.Pool.{Pool}
use Rattle.rules.specs.declared.Refusal.{Refusal}
use Rattle.rules.specs.declared.Refusal.TheVariants as no
use Rattle.rules.specs.Numbers.{refusal_number}
use Rattle.table_type.specs.declared.Table.{Table}
use Rattle.step.specs.Step.{is_sound}
use Rattle.file.specs.Format.{total_of, file_of}

-- what a write leaves beside the buffer: how many bytes were written, or the refusal
abbrev pub Wrote : Type 0
Wrote = Result ℕ Refusal

-- 01's number of an answer or a refusal: 0 where there is an answer
abbrev pub said_number : {A : Type 0} → Result A Refusal → ℕ
said_number (Ok x) = 0
said_number (Err why) = refusal_number why

-- how many bytes were written: none by a refusal
abbrev pub count_of : Wrote → ℕ
count_of (Ok count) = count
count_of (Err why) = 0

-- 10 for an invalid table or a list without 256 places, then 11 for a buffer that is too small
unfoldable pub wrote_of : Table → Pool → ℕ → List ℕ → Wrote
wrote_of t p len buf = cond (not (is_sound t p len)) (Err no.Invalid)
    (cond (ltb (length buf) (total_of t.n p.count)) (Err no.NoRoom)
    (Ok (total_of t.n p.count)))

-- a writer changes only the first total bytes; a refused write leaves the buffer unchanged
unfoldable pub written_of : Table → Pool → ℕ → List ℕ → List ℕ
written_of t p len buf = cond (not (is_sound t p len)) buf
    (cond (ltb (length buf) (total_of t.n p.count)) buf
    (file_of t p ++ drop (total_of t.n p.count) buf))
