-- T-06: how many messages wait for each node, kept beside the pool, and what a display asks of them. Definitions only, each under the
-- request's words. Assumes nothing.
use Rattle.rules.specs.Shapes.{Answer}
use Rattle.std.specs.Prelude.{Bool, cond, ◌&&◌, List, [], ◌∷◌, ◌++◌, ℕ, zero, suc, eqb, ltb, get_or, length, Result, Ok, Err, None}
use Rattle.marks.specs.Marks.{gather, tally, all_to, first_to, Found}
use Rattle.rules.specs.Names.{Slot, Marks, Ids, Place}
use Rattle.rules.specs.declared.Action.{Action}
use Rattle.rules.specs.declared.Message.{Message}
use Rattle.rules.specs.declared.Pool.{Pool}
use Rattle.rules.specs.declared.Refusal.{Refusal}
use Rattle.rules.specs.declared.Refusal.TheVariants as no
use Rattle.rules.specs.declared.Via.TheVariants.{Unrouted}
use Rattle.rules.specs.Pool.{blank, waiting}
use Rattle.table_type.specs.declared.Stepped.{Stepped}
use Rattle.step.specs.Step.{is_sound, step_of}
use Rattle.file.specs.Load.{load_of}
use Rattle.file.specs.Write.{Wrote, wrote_of, written_of}
use Rattle.face.specs.Asked.{Rest, start_step, rest_of}
use Rattle.counts.specs.declared.Counted.{Counted}
use Rattle.counts.specs.declared.After.{After}

-- ---- the counts

-- the message at place q, one of these, is for node i
abbrev pub is_for : List Message → Slot → Place → Bool
is_for xs i q = eqb (get_or xs q blank).dest i

-- how many of these messages are for node i
unfoldable pub count_for : List Message → Slot → ℕ
count_for xs i = tally (length xs) (is_for xs i)

-- n numbers, one for each slot
unfoldable pub numbers_to : ℕ → (Slot → ℕ) → List ℕ
numbers_to zero f = []
numbers_to (suc n) f = numbers_to n f ++ (f n ∷ [])

-- "a count of waiting messages for each destination"
unfoldable pub counts_of : Pool → List ℕ
counts_of p = numbers_to 64 (count_for (waiting p))

abbrev pub count_at : List ℕ → Slot → ℕ
count_at c i = get_or c i 0

-- "the counts agree with the pool"
unfoldable pub agree_of : List ℕ → Pool → Bool
agree_of c p = all_to 64 (λ i. eqb (count_at c i) (count_for (waiting p) i))

-- "Validity gains: the counts agree with the pool."
unfoldable pub is_sound_counted : Counted → ℕ → Bool
is_sound_counted x len = is_sound x.table x.pool len && agree_of x.counts x.pool

-- ---- the step, the load and the start

-- the counts are "true after every step, load and start"; a refusal changes nothing
abbrev pub counts_after : List ℕ → Answer → Pool → List ℕ
counts_after c (Ok tt) p = counts_of p
counts_after c (Err why) p = c

-- and where the next hop came from is passed on (T-01)
unfoldable pub after_by : List ℕ → Stepped → After
after_by c r = record { answer = r.answer; counted = record { table = r.table; pool = r.pool; counts = counts_after c r.answer r.pool }; via = r.via }

abbrev pub refused_with : Counted → Refusal → After
refused_with x why = record { answer = Err why; counted = x; via = Unrouted }

-- "10, before anything else as for any invalid table, for one handed in with counts that disagree with its pool"
unfoldable pub step_with : Counted → ℕ → Action → After
step_with x len a = cond (agree_of x.counts x.pool) (after_by x.counts (step_of x.table x.pool len a)) (refused_with x no.Invalid)

-- "The counts aren't stored in the file; loading works them out."
unfoldable pub load_with : List ℕ → Counted → ℕ → After
load_with bs x len = after_by x.counts (load_of bs x.table x.pool len)

unfoldable pub start_with : Counted → ℕ → ℕ → ℕ → Ids → Marks → After
start_with x len m l ids a = after_by x.counts (start_step x.table x.pool len m l ids a)

-- writing is refused for them too; the file has no counts
unfoldable pub wrote_with : Counted → ℕ → List ℕ → Wrote
wrote_with x len buf = cond (agree_of x.counts x.pool) (wrote_of x.table x.pool len buf) (Err no.Invalid)

unfoldable pub written_with : Counted → ℕ → List ℕ → List ℕ
written_with x len buf = cond (agree_of x.counts x.pool) (written_of x.table x.pool len buf) buf

-- and so is the question whether the table is settled
unfoldable pub rest_with : Counted → ℕ → Rest
rest_with x len = cond (agree_of x.counts x.pool) (rest_of x.table x.pool len) (Err no.Invalid)

-- ---- what a display asks

-- whether a node has a message, or why that was not looked at
abbrev pub Has : Type 0
Has = Result Bool Refusal

-- the place of its first message, if it has one, or why that was not looked at
abbrev pub First : Type 0
First = Result Found Refusal

-- the nodes that have a message, or why that was not looked at
abbrev pub Polled : Type 0
Polled = Result Marks Refusal

-- ""Does node i have a message" is then answered from the count": 10 before anything else, then 1 for a slot out of range
unfoldable pub has_of : Counted → ℕ → Slot → Has
has_of x len i = cond (is_sound_counted x len)
    (cond (ltb i x.table.n) (Ok (ltb 0 (count_at x.counts i))) (Err no.OutOfRange))
    (Err no.Invalid)

-- "where is its first": the first message for node i, as a walk finds it
unfoldable pub first_for : List Message → Slot → Found
first_for xs i = first_to (length xs) (is_for xs i)

-- it "does not look when the count is 0"; the numbers as above
unfoldable pub first_of : Counted → ℕ → Slot → First
first_of x len i = cond (is_sound_counted x len)
    (cond (ltb i x.table.n) (cond (eqb (count_at x.counts i) 0) (Ok None) (Ok (first_for (waiting x.pool) i))) (Err no.OutOfRange))
    (Err no.Invalid)

-- all nodes that have a message, asked at once
unfoldable pub polled_of : Counted → ℕ → Polled
polled_of x len = cond (is_sound_counted x len) (Ok (gather x.table.n (λ i. ltb 0 (count_at x.counts i)))) (Err no.Invalid)
