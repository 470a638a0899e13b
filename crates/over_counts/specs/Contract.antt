-- T-06: what each public function promises of its reply, one predicate each, named as the function: its `ensures` cites it, and Unique says that one
-- reply meets it. Definitions only. Assumes nothing.
use Rattle.std.specs.Prelude.{◌≡◌, Bool, List, ℕ, Result}
use Rattle.rules.specs.declared.Action.{Action}
use Rattle.rules.specs.declared.Pool.{Pool}
use Rattle.rules.specs.declared.Refusal.{Refusal}
use Rattle.file.specs.Write.{Wrote, said_number}
use Rattle.face.specs.Asked.{Rest}
use Rattle.counts.specs.declared.Counted.{Counted}
use Rattle.counts.specs.declared.After.{After}
use Rattle.counts.specs.Counts.{counts_of, agree_of, is_sound_counted, step_with, load_with, start_with, wrote_with, written_with, rest_with}
use Rattle.counts.specs.Counts.{Has, First, Polled, has_of, first_of, polled_of}

abbrev pub CountsOf : Pool → List ℕ → Type 0
CountsOf p r = r ≡ counts_of p

abbrev pub Agree : List ℕ → Pool → Bool → Type 0
Agree counts p r = r ≡ agree_of counts p

abbrev pub IsSound : Counted → ℕ → Bool → Type 0
IsSound x len r = r ≡ is_sound_counted x len

abbrev pub Step : Counted → ℕ → Action → After → Type 0
Step x len a r = r ≡ step_with x len a

abbrev pub Load : List ℕ → Counted → ℕ → After → Type 0
Load bs x len r = r ≡ load_with bs x len

abbrev pub Start : Counted → ℕ → ℕ → ℕ → List ℕ → ℕ → After → Type 0
Start x len m l ids a r = r ≡ start_with x len m l ids a

-- the reply, and what the buffer that held buf is left with
abbrev pub Write : Counted → ℕ → List ℕ → List ℕ → Wrote → Type 0
Write x len buf left r = (r ≡ wrote_with x len buf) × (left ≡ written_with x len buf)

abbrev pub Settled : Counted → ℕ → Rest → Type 0
Settled x len r = r ≡ rest_with x len

abbrev pub HasMessage : Counted → ℕ → ℕ → Has → Type 0
HasMessage x len i r = r ≡ has_of x len i

abbrev pub FirstMessage : Counted → ℕ → ℕ → First → Type 0
FirstMessage x len i r = r ≡ first_of x len i

abbrev pub Poll : Counted → ℕ → Polled → Type 0
Poll x len r = r ≡ polled_of x len

-- 01's numbers
abbrev pub Number : {A : Type 0} → Result A Refusal → ℕ → Type 0
Number r x = x ≡ said_number r
