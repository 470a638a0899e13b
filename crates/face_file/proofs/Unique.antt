-- Each public function has one reply for every input, and leaves one content of the buffer lent to it: any two that its contract allows are
-- equal. Assumes nothing.
use mathlib.Core.Path.{◌≡◌, sym, ◌∙◌}
use mathlib.Core.List.{List}
use Prim.Native.Nat.{ℕ}
use Rattle.rules.specs.declared.Action.{Action}
use Rattle.table_type.specs.declared.Stepped.{Stepped}
use Rattle.std.specs.Prelude.{Result}
use Rattle.rules.specs.declared.Refusal.{Refusal}
use Rattle.file.specs.Write.{Wrote}
use Rattle.file.proofs.Replies.{both-same}
use Rattle.face.specs.Asked.{Rest}
use Rattle.face.specs.declared.Moved.{Moved}
use Rattle.face.specs.Calls.{loaded_of, next_of, begun_of, wrote_by, left_by, moved_by, rest_by}

-- what the caller has of a result: the answer with the number of bytes, and the buffer that held out holds cs
abbrev pub Filed : Stepped → List ℕ → List ℕ → Wrote → Type 0
Filed s out cs r = (r ≡ wrote_by s out) × (cs ≡ left_by s out)

pub loaded-unique : (file : List ℕ) (s s' : Stepped) → s ≡ loaded_of file → s' ≡ loaded_of file → s ≡ s'
loaded-unique file s s' h h' = h ∙ sym h'

module _ (out cs cs' : List ℕ) (r r' : Wrote) where
  pub reload-unique : (file : List ℕ) → Filed (loaded_of file) out cs r → Filed (loaded_of file) out cs' r' → (r ≡ r') × (cs ≡ cs')
  reload-unique file h h' = both-same h h'

  pub start-file-unique : (m l a : ℕ) (ids : List ℕ) → Filed (begun_of m l a ids) out cs r → Filed (begun_of m l a ids) out cs' r' → (r ≡ r') × (cs ≡ cs')
  start-file-unique m l a ids h h' = both-same h h'

-- what the caller has of a step: the same, and where the next hop came from
abbrev pub Stepping : Stepped → List ℕ → List ℕ → Result Moved Refusal → Type 0
Stepping s out cs r = (r ≡ moved_by s out) × (cs ≡ left_by s out)

pub step-file-unique : (out cs cs' : List ℕ) (r r' : Result Moved Refusal) (file : List ℕ) (a : Action) → Stepping (next_of (loaded_of file) a) out cs r
    → Stepping (next_of (loaded_of file) a) out cs' r' → (r ≡ r') × (cs ≡ cs')
step-file-unique out cs cs' r r' file a h h' = both-same h h'

pub settled-file-unique : (file : List ℕ) (r r' : Rest) → r ≡ rest_by (loaded_of file) → r' ≡ rest_by (loaded_of file) → r ≡ r'
settled-file-unique file r r' h h' = h ∙ sym h'
