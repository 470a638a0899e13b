-- T-06: sentence by sentence, in plain equations. Only statements: the proofs are named in Proved. Assumes nothing.
use Rattle.std.specs.Prelude.{◌≡◌, true, false, List, [], ◌∷◌, ◌↔◌, ℕ, ◌<◌, ◌≤◌, eqb, get_or, Ok, Err, Some, None}
use Rattle.marks.specs.Marks.{has, tally}
use Rattle.rules.specs.Names.{Slot, Marks, Ids, Place}
use Rattle.rules.specs.declared.Action.{Action}
use Rattle.rules.specs.declared.Refusal.{Refusal}
use Rattle.rules.specs.Numbers.{answer_number}
use Rattle.rules.specs.Pool.{message_at}
use Rattle.table_type.specs.declared.Stepped.{Stepped}
use Rattle.step.specs.Step.{is_sound, step_of}
use Rattle.file.specs.Format.{file_of}
use Rattle.file.specs.Held.{Held}
use Rattle.file.specs.Load.{load_of}
use Rattle.file.specs.Write.{said_number, wrote_of, written_of}
use Rattle.face.specs.Asked.{start_step, rest_of}
use Rattle.counts.specs.declared.Counted.{Counted}
use Rattle.counts.specs.declared.After.{After}
use Rattle.counts.specs.Counts.{is_sound_counted, step_with, load_with, start_with, wrote_with, written_with, rest_with}
use Rattle.counts.specs.Counts.{has_of, first_of, polled_of}

-- ---- the counts

-- the count of node i is the number of waiting messages for it (in a pool that counts more than 256, never valid, places past the last read as blank)
abbrev pub TrueCounts : Counted → Type 0
TrueCounts x = (i : Slot) → i < 64 → get_or x.counts i 0 ≡ tally x.pool.count (λ q. eqb (message_at x.pool q).dest i)

-- a valid table with true counts, and a list of 256 places
pub record Good (x : Counted) (len : ℕ) : Type 0 where
  pub sound : is_sound x.table x.pool len ≡ true
  pub agrees : TrueCounts x

-- one of the three calls that leave a table: a step, a load or a start
pub data Call : Type 0 where
  step : ℕ → Action → Call
  load : List ℕ → ℕ → Call
  start : ℕ → ℕ → ℕ → Ids → Marks → Call

-- what it leaves, with counts
abbrev pub made : Counted → Call → After
made x (Call.step len a) = step_with x len a
made x (Call.load bs len) = load_with bs x len
made x (Call.start len m l ids a) = start_with x len m l ids a

-- what the step, the load and the start without counts leave
abbrev pub plain : Counted → Call → Stepped
plain x (Call.step len a) = step_of x.table x.pool len a
plain x (Call.load bs len) = load_of bs x.table x.pool len
plain x (Call.start len m l ids a) = start_step x.table x.pool len m l ids a

-- what is left after these calls, in turn
unfoldable pub after_calls : Counted → List Call → Counted
after_calls x [] = x
after_calls x (c ∷ cs) = after_calls (made x c).counted cs

-- "true after every step, load and start"
abbrev pub TrueAfter : Type 0
TrueAfter = (x : Counted) (c : Call) → (made x c).answer ≡ Ok tt → TrueCounts (made x c).counted

-- and the table is valid, with these counts and a list of 256 places
abbrev pub GoodAfter : Type 0
GoodAfter = (x : Counted) (c : Call) → (made x c).answer ≡ Ok tt → Good (made x c).counted 256

-- "Validity gains: the counts agree with the pool."
abbrev pub SoundExactly : Type 0
SoundExactly = (x : Counted) (len : ℕ) → (is_sound_counted x len ≡ true) ↔ Good x len

-- a refusal changes nothing
abbrev pub RefusedKeeps : Type 0
RefusedKeeps = (x : Counted) (c : Call) (why : Refusal) → (made x c).answer ≡ Err why → (made x c).counted ≡ x

-- true counts stay true, whatever is called and answered
abbrev pub StayTrue : Type 0
StayTrue = (x : Counted) (cs : List Call) → TrueCounts x → TrueCounts (after_calls x cs)

-- a call answers and leaves what the one without counts does, and says the same of the hop
pub record Same (x : Counted) (c : Call) : Type 0 where
  pub answer-is : (made x c).answer ≡ (plain x c).answer
  pub table_is : (made x c).counted.table ≡ (plain x c).table
  pub pool-is : (made x c).counted.pool ≡ (plain x c).pool
  pub via-is : (made x c).via ≡ (plain x c).via

-- a step on a table with true counts
abbrev pub StepAsPlain : Type 0
StepAsPlain = (x : Counted) (len : ℕ) (a : Action) → TrueCounts x → Same x (Call.step len a)

-- "10, before anything else as for any invalid table, for one handed in with counts that disagree with its pool"
abbrev pub StepInvalidExactly : Type 0
StepInvalidExactly = (x : Counted) (len : ℕ) (a : Action) → (answer_number (step_with x len a).answer ≡ 10) ↔ (Good x len → ⊥)

-- "The counts aren't stored in the file; loading works them out": a load, and a start, look at no counts
abbrev pub LoadAsPlain : Type 0
LoadAsPlain = (x : Counted) (bs : List ℕ) (len : ℕ) → Same x (Call.load bs len)

abbrev pub StartAsPlain : Type 0
StartAsPlain = (x : Counted) (len m l : ℕ) (ids : Ids) (a : Marks) → Same x (Call.start len m l ids a)

-- the file of a valid table with true counts loads back, and with the same counts
abbrev pub LoadsBack : Type 0
LoadsBack = (x y : Counted) → Held x.table x.pool → Good x 256
    → ((load_with (file_of x.table x.pool) y 256).answer ≡ Ok tt)
    × ((i : Slot) → i < 64 → get_or (load_with (file_of x.table x.pool) y 256).counted.counts i 0 ≡ get_or x.counts i 0)

-- writing, and asking whether the table is settled: 10 exactly as for a step, and else as without counts
abbrev pub WriteInvalidExactly : Type 0
WriteInvalidExactly = (x : Counted) (len : ℕ) (buf : List ℕ) → (said_number (wrote_with x len buf) ≡ 10) ↔ (Good x len → ⊥)

abbrev pub WriteAsPlain : Type 0
WriteAsPlain = (x : Counted) (len : ℕ) (buf : List ℕ) → TrueCounts x
    → (wrote_with x len buf ≡ wrote_of x.table x.pool len buf) × (written_with x len buf ≡ written_of x.table x.pool len buf)

abbrev pub WriteRefusedKeeps : Type 0
WriteRefusedKeeps = (x : Counted) (len : ℕ) (buf : List ℕ) (why : Refusal) → wrote_with x len buf ≡ Err why → written_with x len buf ≡ buf

abbrev pub RestInvalidExactly : Type 0
RestInvalidExactly = (x : Counted) (len : ℕ) → (said_number (rest_with x len) ≡ 10) ↔ (Good x len → ⊥)

abbrev pub RestAsPlain : Type 0
RestAsPlain = (x : Counted) (len : ℕ) → TrueCounts x → rest_with x len ≡ rest_of x.table x.pool len

-- ---- "Does node i have a message", "where is its first"

-- a message for node i waits at place q
pub record WaitsAt (x : Counted) (i : Slot) (q : Place) : Type 0 where
  pub below : q < x.pool.count
  pub meant : (message_at x.pool q).dest ≡ i

-- no message for node i waits at a place before q
abbrev pub NoneBefore : Counted → Slot → Place → Type 0
NoneBefore x i q = (r : Place) → r < q → WaitsAt x i r → ⊥

-- "10, before anything else"
abbrev pub AskedInvalidExactly : Type 0
AskedInvalidExactly = (x : Counted) (len : ℕ) (i : Slot)
    → ((said_number (has_of x len i) ≡ 10) ↔ (Good x len → ⊥)) × ((said_number (first_of x len i) ≡ 10) ↔ (Good x len → ⊥))
    × ((said_number (polled_of x len) ≡ 10) ↔ (Good x len → ⊥))

-- "1 for a slot out of range"
abbrev pub AskedOutOfRangeExactly : Type 0
AskedOutOfRangeExactly = (x : Counted) (len : ℕ) (i : Slot)
    → ((said_number (has_of x len i) ≡ 1) ↔ (Good x len × (x.table.n ≤ i))) × ((said_number (first_of x len i) ≡ 1) ↔ (Good x len × (x.table.n ≤ i)))

-- "Both equal what a full walk says, and the second says "none" where there is none."
abbrev pub HasExactly : Type 0
HasExactly = (x : Counted) (len : ℕ) (i : Slot) → (has_of x len i ≡ Ok true) ↔ (Good x len × (i < x.table.n) × ((q : Place) × WaitsAt x i q))

abbrev pub HasNotExactly : Type 0
HasNotExactly = (x : Counted) (len : ℕ) (i : Slot) → (has_of x len i ≡ Ok false) ↔ (Good x len × (i < x.table.n) × NoneBefore x i x.pool.count)

abbrev pub FirstExactly : Type 0
FirstExactly = (x : Counted) (len : ℕ) (i : Slot) (q : Place) → (first_of x len i ≡ Ok (Some q)) ↔ (Good x len × (i < x.table.n) × WaitsAt x i q × NoneBefore x i q)

abbrev pub FirstNoneExactly : Type 0
FirstNoneExactly = (x : Counted) (len : ℕ) (i : Slot) → (first_of x len i ≡ Ok None) ↔ (Good x len × (i < x.table.n) × NoneBefore x i x.pool.count)

-- asked at once for all nodes: exactly those that have a message
abbrev pub PolledExactly : Type 0
PolledExactly = (x : Counted) (len : ℕ) → Good x len
    → (set : Marks) × (polled_of x len ≡ Ok set) × ((i : Slot) → (has set i ≡ true) ↔ ((i < x.table.n) × ((q : Place) × WaitsAt x i q)))

-- "answered from the count": where the counts are true, node i has a message exactly if its count is not 0
abbrev pub CountTells : Type 0
CountTells = (x : Counted) → TrueCounts x → (i : Slot) → i < 64 → (0 < get_or x.counts i 0) ↔ ((q : Place) × WaitsAt x i q)
