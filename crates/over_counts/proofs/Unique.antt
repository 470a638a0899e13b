-- Each public function has one reply for every input: any two that its contract allows are equal. Assumes nothing.
use mathlib.Core.Path.{◌≡◌, sym, ◌∙◌}
use mathlib.Core.Bool.{Bool}
use mathlib.Core.List.{List}
use Prim.Native.Nat.{ℕ}
use Rattle.rules.specs.declared.Action.{Action}
use Rattle.rules.specs.declared.Pool.{Pool}
use Rattle.std.specs.Prelude.{Result}
use Rattle.rules.specs.declared.Refusal.{Refusal}
use Rattle.file.specs.Write.{Wrote}
use Rattle.face.specs.Asked.{Rest}
use Rattle.counts.specs.declared.Counted.{Counted}
use Rattle.counts.specs.declared.After.{After}
use Rattle.counts.specs.Counts.{Has, First, Polled}
use Rattle.over_counts.specs.Contract.{CountsOf, Agree, IsSound, Step, Load, Start, Write, Settled, HasMessage, FirstMessage, Poll}
use Rattle.over_counts.specs.Contract.{Number}

pub counts-of-unique : (p : Pool) (r r' : List ℕ) → CountsOf p r → CountsOf p r' → r ≡ r'
counts-of-unique p r r' h h' = h ∙ sym h'

pub agree-unique : (counts : List ℕ) (p : Pool) (r r' : Bool) → Agree counts p r → Agree counts p r' → r ≡ r'
agree-unique counts p r r' h h' = h ∙ sym h'

module _ (x : Counted) (len : ℕ) where
  pub is-sound-unique : (r r' : Bool) → IsSound x len r → IsSound x len r' → r ≡ r'
  is-sound-unique r r' h h' = h ∙ sym h'

  pub step-unique : (a : Action) (r r' : After) → Step x len a r → Step x len a r' → r ≡ r'
  step-unique a r r' h h' = h ∙ sym h'

  pub load-unique : (bs : List ℕ) (r r' : After) → Load bs x len r → Load bs x len r' → r ≡ r'
  load-unique bs r r' h h' = h ∙ sym h'

  pub start-unique : (m l : ℕ) (ids : List ℕ) (a : ℕ) (r r' : After) → Start x len m l ids a r → Start x len m l ids a r' → r ≡ r'
  start-unique m l ids a r r' h h' = h ∙ sym h'

  pub write-unique : (buf left left' : List ℕ) (r r' : Wrote) → Write x len buf left r → Write x len buf left' r' → (r ≡ r') × (left ≡ left')
  write-unique buf left left' r r' h h' = (h.0 ∙ sym h'.0, h.1 ∙ sym h'.1)

  pub settled-unique : (r r' : Rest) → Settled x len r → Settled x len r' → r ≡ r'
  settled-unique r r' h h' = h ∙ sym h'

  pub has-message-unique : (i : ℕ) (r r' : Has) → HasMessage x len i r → HasMessage x len i r' → r ≡ r'
  has-message-unique i r r' h h' = h ∙ sym h'

  pub first-message-unique : (i : ℕ) (r r' : First) → FirstMessage x len i r → FirstMessage x len i r' → r ≡ r'
  first-message-unique i r r' h h' = h ∙ sym h'

  pub poll-unique : (r r' : Polled) → Poll x len r → Poll x len r' → r ≡ r'
  poll-unique r r' h h' = h ∙ sym h'

pub number-unique : {A : Type 0} (r : Result A Refusal) (x x' : ℕ) → Number r x → Number r x' → x ≡ x'
number-unique r x x' h h' = h ∙ sym h'
