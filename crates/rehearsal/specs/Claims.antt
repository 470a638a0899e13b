-- T-09: sentence by sentence. Only statements: the proofs are in Proved. Assumes nothing: Held is what the machine's types
-- hold of every value.
use Rattle.std.specs.Prelude.{◌≡◌, List, [], ◌∷◌, ◌⊎◌, ◌↔◌, ℕ, suc, ◌<◌, ◌≤◌, length, take, Ok}
use Rattle.rules.specs.declared.Action.{Action}
use Rattle.rules.specs.declared.Pool.{Pool}
use Rattle.table_type.specs.declared.Table.{Table}
use Rattle.table_type.specs.declared.Stepped.{Stepped}
use Rattle.table.specs.Settle.{done_of}
use Rattle.step.specs.Step.{step_of}
use Rattle.file.specs.Format.{file_of}
use Rattle.file.specs.Held.{Held}
use Rattle.face.specs.Calls.{loaded_of, next_of}
use Rattle.rehearsal.specs.Rehearsal.{Verdict}
use Rattle.std.specs.Prelude.{Ok, Err}
use Rattle.rehearsal.specs.declared.Checker.{Checker}
use Rattle.rehearsal.specs.declared.Reply.TheVariants.{Over}
use Rattle.rehearsal.specs.Rehearsal.{Claim, verdict_of, begin_of, handed_of, reply_number}

-- ---- a whole rehearsal

-- the start loads
abbrev pub Loads : List ℕ → Type 0
Loads start = (loaded_of start).answer ≡ Ok tt

-- the action of a claim, made on this table
abbrev pub made : Table → Pool → Claim → Stepped
made t p c = step_of t p 256 c.action

-- the action is done and gives precisely the stated file
abbrev pub Agrees : Table → Pool → Claim → Type 0
Agrees t p c = ((made t p c).answer ≡ Ok tt) × (file_of (made t p c).table (made t p c).pool ≡ c.file)

-- so does the action of every claim, each made on the previous table
abbrev pub Holds : Table → Pool → List Claim → Type 0
Holds t p [] = Unit {0}
Holds t p (c ∷ cs) = Agrees t p c × Holds (made t p c).table (made t p c).pool cs

-- a rehearsal is accepted exactly if the start loads and every action, made on the previous table, is done and gives precisely the
-- stated file; said of any number of steps, of which the checker looks at 1,000 at most
abbrev pub AcceptedExactly : Type 0
AcceptedExactly = (start : List ℕ) (cs : List Claim)
    → (verdict_of start cs ≡ Ok tt) ↔ (Loads start × Holds (loaded_of start).table (loaded_of start).pool cs)

-- the claim after the first k is the first bad one: there is one, those before it hold, and with it they do not
pub record FirstBadAt (t : Table) (p : Pool) (cs : List Claim) (k : ℕ) : Type 0 where
  pub listed : k < length cs
  pub before : Holds t p (take k cs)
  pub bad : Holds t p (take (suc k) cs) → ⊥

-- otherwise the number of the first bad step, from 1
abbrev pub FirstBad : Type 0
FirstBad = (start : List ℕ) (cs : List Claim) (k : ℕ)
    → (verdict_of start cs ≡ Err (suc k)) ↔ (Loads start × FirstBadAt (loaded_of start).table (loaded_of start).pool cs k)

-- or 0 for the start
abbrev pub StartBad : Type 0
StartBad = (start : List ℕ) (cs : List Claim) → (verdict_of start cs ≡ Err 0) ↔ (Loads start → ⊥)

-- ---- handed over singly

-- the checker after these claims, handed over in turn
abbrev pub handed_over : Checker → List Claim → Checker
handed_over c [] = c
handed_over c (x ∷ xs) = handed_over (handed_of c x.action x.file).checker xs

-- the checker that began with this start, after these claims
abbrev pub checker_of : List ℕ → List Claim → Checker
checker_of start cs = handed_over (begin_of start) cs

-- at most 1,000 steps, possibly none: the checker says of them what is said of the whole
abbrev pub SinglyWhole : Type 0
SinglyWhole = (start : List ℕ) (cs : List Claim) → length cs ≤ 1000 → (checker_of start cs).verdict ≡ verdict_of start cs

-- and of more what is said of the first 1,000
abbrev pub SinglyFirst : Type 0
SinglyFirst = (start : List ℕ) (cs : List Claim) → (checker_of start cs).verdict ≡ verdict_of start (take 1000 cs)

-- a bad step ends the check: whatever is handed over after it, its number stays what the checker says, and so does all else that it holds
abbrev pub EndStays : Type 0
EndStays = (c : Checker) (k : ℕ) (cs : List Claim) → c.verdict ≡ Err k → handed_over c cs ≡ c

-- the check has ended: some step, or the start, was bad
abbrev pub Ended : Verdict → Type 0
Ended v = (k : ℕ) × (v ≡ Err k)

-- the number answered to one more claim after these
abbrev pub answered : List ℕ → List Claim → Claim → ℕ
answered start cs x = reply_number (handed_of (checker_of start cs) x.action x.file).reply

-- 12 for a further step after an end or beyond 1,000
abbrev pub OverExactly : Type 0
OverExactly = (start : List ℕ) (cs : List Claim) (x : Claim)
    → (answered start cs x ≡ 12) ↔ (Ended (checker_of start cs).verdict ⊎ (1000 ≤ length cs))

-- 0 for every other
abbrev pub LookedAtExactly : Type 0
LookedAtExactly = (start : List ℕ) (cs : List Claim) (x : Claim)
    → (answered start cs x ≡ 0) ↔ (((checker_of start cs).verdict ≡ Ok tt) × (length cs < 1000))

-- so of every checker, whatever it holds and however it came about
abbrev pub OverAlways : Type 0
OverAlways = (c : Checker) (a : Action) (file : List ℕ)
    → (reply_number (handed_of c a file).reply ≡ 12) ↔ (Ended c.verdict ⊎ (1000 ≤ c.steps))

-- the checker's state is unchanged
abbrev pub OverKeeps : Type 0
OverKeeps = (c : Checker) (a : Action) (file : List ℕ) → (handed_of c a file).reply ≡ Over → (handed_of c a file).checker ≡ c

-- the file stated last; the start, where nothing was claimed
abbrev pub last_file : List ℕ → List Claim → List ℕ
last_file file [] = file
last_file file (c ∷ cs) = last_file c.file cs

-- the previous table: between two steps the checker holds one, which is precisely what the file stated last holds
abbrev pub LastTable : Type 0
LastTable = (start : List ℕ) (cs : List Claim) → length cs ≤ 1000
    → let c : Checker = checker_of start cs in
    c.verdict ≡ Ok tt → Held c.table c.pool → loaded_of (last_file start cs) ≡ done_of c.table c.pool

-- so the next action is made on the file stated last
abbrev pub OnLastFile : Type 0
OnLastFile = (start : List ℕ) (cs : List Claim) → length cs ≤ 1000
    → let c : Checker = checker_of start cs in
    c.verdict ≡ Ok tt → Held c.table c.pool
    → (a : Action) → step_of c.table c.pool 256 a ≡ next_of (loaded_of (last_file start cs)) a
