-- The start and the question whether a table is settled, as a caller asks them: with a table, a pool and the number of places of the message
-- list. Definitions only. Assumes nothing.
use Rattle.std.specs.Prelude.{Bool, cond, [], ℕ, eqb, Result, Ok, Err}
use Rattle.rules.specs.Names.{Marks, Ids}
use Rattle.rules.specs.declared.Pool.{Pool}
use Rattle.rules.specs.declared.Refusal.{Refusal}
use Rattle.rules.specs.declared.Refusal.TheVariants as no
use Rattle.rules.specs.Limits.{messages_high}
use Rattle.rules.specs.Pool.{laid}
use Rattle.table_type.specs.declared.Table.{Table}
use Rattle.table_type.specs.declared.Stepped.{Stepped}
use Rattle.table.specs.Settle.{refused_of, done_of}
use Rattle.table.specs.Settled.{is_settled}
use Rattle.table_type.specs.Start.{start_of}
use Rattle.step.specs.Step.{is_sound}

-- no messages; a refusal leaves the caller's table and pool
abbrev pub began : Result Table Refusal → Table → Pool → Stepped
began (Ok u) t p = done_of u (laid [])
began (Err why) t p = refused_of t p why

-- 10 for a list without 256 places before anything else, then as the start says
unfoldable pub start_step : Table → Pool → ℕ → ℕ → ℕ → Ids → Marks → Stepped
start_step t p len m l ids a = cond (eqb len messages_high) (began (start_of m l ids a) t p) (refused_of t p no.Invalid)

-- whether a table is settled, or why that was not looked at
abbrev pub Rest : Type 0
Rest = Result Bool Refusal

-- 10 for a list without 256 places or an invalid table, else whether it is settled
unfoldable pub rest_of : Table → Pool → ℕ → Rest
rest_of t p len = cond (is_sound t p len) (Ok (is_settled t)) (Err no.Invalid)
