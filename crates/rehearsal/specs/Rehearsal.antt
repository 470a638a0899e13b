-- T-09: a contractor's rehearsal, and the checker to which it is handed over singly. Definitions only, each under the request's words.
-- Assumes nothing.
use Rattle.rules.specs.Shapes.{Answer}
use Rattle.std.specs.Prelude.{Bool, true, false, cond, ◌&&◌, List, [], ◌∷◌, ℕ, suc, eqb, ltb, Result, Ok, Err, ⊤}
use Rattle.rules.specs.declared.Action.{Action}
use Rattle.rules.specs.declared.Pool.{Pool}
use Rattle.table_type.specs.declared.Table.{Table}
use Rattle.table_type.specs.declared.Stepped.{Stepped}
use Rattle.step.specs.Step.{step_of}
use Rattle.file.specs.Format.{file_of}
use Rattle.face.specs.Calls.{loaded_of}
use Rattle.rehearsal.specs.declared.Checker.{Checker}
use Rattle.rehearsal.specs.declared.Reply.{Reply}
use Rattle.rehearsal.specs.declared.Reply.TheVariants.{LookedAt, Over}
use Rattle.rehearsal.specs.declared.Handed.{Handed}

-- actions, each with the table file they say results
pub record Claim : Type 0 where
  pub action : Action
  pub file : List ℕ

-- at most 1,000 steps
abbrev pub most_steps : ℕ
most_steps = 1000

-- precisely: as many bytes, and each the same
abbrev pub same : List ℕ → List ℕ → Bool
same [] [] = true
same [] (y ∷ ys) = false
same (x ∷ xs) [] = false
same (x ∷ xs) (y ∷ ys) = eqb x y && same xs ys

abbrev pub is_done : Answer → Bool
is_done (Ok tt) = true
is_done (Err why) = false

-- is done and gives precisely the stated file
unfoldable pub agrees_with : Stepped → List ℕ → Bool
agrees_with s file = is_done s.answer && same (file_of s.table s.pool) file

-- accepted so far, or the number of the first bad step, 0 for the start
abbrev pub Verdict : Type 0
Verdict = Result ⊤ ℕ

-- ---- a whole rehearsal

-- every action, made on the previous table; otherwise the number of the first bad step, where the first of these has number k
unfoldable pub verdict_from : ℕ → Table → Pool → List Claim → Verdict
verdict_from k t p [] = Ok tt
verdict_from k t p (c ∷ cs) =
    let s : Stepped = step_of t p 256 c.action in
    cond (agrees_with s c.file) (verdict_from (suc k) s.table s.pool cs) (Err k)

abbrev from_start : Answer → Table → Pool → List Claim → Verdict
from_start (Ok tt) t p cs = verdict_from 1 t p cs
from_start (Err why) t p cs = Err 0

-- accepted exactly if the start loads and every action is done and gives precisely the stated file; otherwise the number of the first bad step, from 1,
-- or 0 for the start. It is said of any number of steps; the checker looks at 1,000 at most
unfoldable pub verdict_of : List ℕ → List Claim → Verdict
verdict_of start cs = let s : Stepped = loaded_of start in from_start s.answer s.table s.pool cs

-- ---- handed over singly

abbrev pub start_verdict : Answer → Verdict
start_verdict (Ok tt) = Ok tt
start_verdict (Err why) = Err 0

-- the checker that has the start
unfoldable pub begin_of : List ℕ → Checker
begin_of file =
    let s : Stepped = loaded_of file in
    record { verdict = start_verdict s.answer; steps = 0; table = s.table; pool = s.pool }

-- a bad step ends the check; at most 1,000 steps
abbrev pub is_open : Verdict → ℕ → Bool
is_open (Ok x) steps = ltb steps most_steps
is_open (Err k) steps = false

-- the checker once a step was looked at: the table after it, or the number of the bad step beside the table before it
unfoldable pub checked_of : Checker → Stepped → List ℕ → Checker
checked_of c s file =
    cond (agrees_with s file) (record { verdict = Ok tt; steps = suc c.steps; table = s.table; pool = s.pool })
    (record { verdict = Err (suc c.steps); steps = c.steps; table = c.table; pool = c.pool })

-- 12 for a further step after an end or beyond 1,000; the checker's state is unchanged
unfoldable pub handed_of : Checker → Action → List ℕ → Handed
handed_of c a file = cond (is_open c.verdict c.steps)
    (record { reply = LookedAt; checker = checked_of c (step_of c.table c.pool 256 a) file })
    (record { reply = Over; checker = c })

abbrev pub reply_number : Reply → ℕ
reply_number LookedAt = 0
reply_number Over = 12
