-- Beside 01: table files and numbers in, a table file and a number out. Each call reads its file over no table and a pool of 256 places in which none waits, and
-- goes on where that was done. Definitions only. Assumes nothing.
use Rattle.rules.specs.Shapes.{Answer}
use Rattle.std.specs.Prelude.{cond, ◌&&◌, List, [], ℕ, ◌^◌, ltb, Result, Ok, Err}
use Rattle.rules.specs.Names.{Marks, Ids}
use Rattle.rules.specs.declared.Action.{Action}
use Rattle.rules.specs.declared.Pool.{Pool}
use Rattle.rules.specs.declared.Refusal.{Refusal}
use Rattle.rules.specs.declared.Refusal.TheVariants as no
use Rattle.rules.specs.declared.Via.{Via}
use Rattle.rules.specs.Pool.{laid}
use Rattle.table_type.specs.declared.Table.{Table}
use Rattle.table_type.specs.declared.Stepped.{Stepped}
use Rattle.table.specs.Settle.{refused_of}
use Rattle.table_type.specs.Start.{no_table}
use Rattle.step.specs.Step.{step_of}
use Rattle.file.specs.Load.{load_of}
use Rattle.file.specs.Write.{Wrote, wrote_of, written_of}
use Rattle.face.specs.Asked.{Rest, start_step, rest_of}
use Rattle.face.specs.declared.Moved.{Moved}

-- what the file holds, or its refusal
unfoldable pub loaded_of : List ℕ → Stepped
loaded_of bs = load_of bs no_table (laid []) 256

abbrev after : Answer → Table → Pool → Action → Stepped
after (Ok tt) t p a = step_of t p 256 a
after (Err why) t p a = refused_of t p why

-- the step, where what came before it was done
unfoldable pub next_of : Stepped → Action → Stepped
next_of s a = after s.answer s.table s.pool a

-- the start; M and L are wider than the table's numbers, so that 8 can be answered
unfoldable pub begun_of : ℕ → ℕ → Marks → Ids → Stepped
begun_of m l a ids = cond (ltb m (2 ^ 32) && ltb l (2 ^ 32)) (start_step no_table (laid []) 256 m l ids a) (refused_of no_table (laid []) no.Header)

abbrev wrote_after : Answer → Table → Pool → List ℕ → Wrote
wrote_after (Ok tt) t p out = wrote_of t p 256 out
wrote_after (Err why) t p out = Err why

abbrev left_after : Answer → Table → Pool → List ℕ → List ℕ
left_after (Ok tt) t p out = written_of t p 256 out
left_after (Err why) t p out = out

-- the answer and the number of bytes of a result that is written, where there is one
unfoldable pub wrote_by : Stepped → List ℕ → Wrote
wrote_by s out = wrote_after s.answer s.table s.pool out

-- what the buffer then holds: a refusal leaves it as it is
unfoldable pub left_by : Stepped → List ℕ → List ℕ
left_by s out = left_after s.answer s.table s.pool out

-- where the next hop came from is said where the file was written
abbrev pub moved_of : Wrote → Via → Result Moved Refusal
moved_of (Ok count) via = Ok (record { count = count; via = via })
moved_of (Err why) via = Err why

-- what a step says that is written
unfoldable pub moved_by : Stepped → List ℕ → Result Moved Refusal
moved_by s out = moved_of (wrote_by s out) s.via

abbrev rest_after : Answer → Table → Pool → Rest
rest_after (Ok tt) t p = rest_of t p 256
rest_after (Err why) t p = Err why

-- is the table settled, where there is one
unfoldable pub rest_by : Stepped → Rest
rest_by s = rest_after s.answer s.table s.pool
