-- Each call has one reply for every input, and leaves one content of the buffer lent to it: any two that its contract allows are equal. Assumes nothing.
use mathlib.Core.Path.{◌≡◌, sym, ◌∙◌}
use mathlib.Core.List.{List}
use Prim.Native.Nat.{ℕ}
use Rattle.file.proofs.Replies.{both-same}
use Rattle.face.specs.Calls.{loaded_of, begun_of, wrote_by, left_by, rest_by}
use Rattle.listing.specs.List.{list_of, listed_of}
use Rattle.std.specs.Prelude.{Option}
use Rattle.rules.specs.declared.Action.{Action}
use Rattle.face_c.specs.Words.{pack_of, rest_word, asked_of, step_word, via_word, step_left}

-- the reply is this word, and the buffer is left with this content
abbrev pub Replies : ℕ → List ℕ → ℕ → List ℕ → Type 0
Replies word left r bs = (r ≡ word) × (bs ≡ left)

pub action-of-unique : (k x y : ℕ) (q q' : Option Action) → q ≡ asked_of k x y → q' ≡ asked_of k x y → q ≡ q'
action-of-unique k x y q q' h h' = h ∙ sym h'

module _ (out bs bs' : List ℕ) (r r' : ℕ) where
  pub start-unique : (m l a : ℕ) (ids : List ℕ)
      → Replies (pack_of (wrote_by (begun_of m l a ids) out)) (left_by (begun_of m l a ids) out) r bs
      → Replies (pack_of (wrote_by (begun_of m l a ids) out)) (left_by (begun_of m l a ids) out) r' bs'
      → (r ≡ r') × (bs ≡ bs')
  start-unique m l a ids h h' = both-same h h'

  module _ (file : List ℕ) where
    pub load-unique : Replies (pack_of (wrote_by (loaded_of file) out)) (left_by (loaded_of file) out) r bs
        → Replies (pack_of (wrote_by (loaded_of file) out)) (left_by (loaded_of file) out) r' bs'
        → (r ≡ r') × (bs ≡ bs')
    load-unique h h' = both-same h h'

    pub step-unique : (q : Option Action) → Replies (step_word q file out) (step_left q file out) r bs
        → Replies (step_word q file out) (step_left q file out) r' bs'
        → (r ≡ r') × (bs ≡ bs')
    step-unique q h h' = both-same h h'

    pub step-via-unique : (q : Option Action) → Replies (via_word q file out) (step_left q file out) r bs
        → Replies (via_word q file out) (step_left q file out) r' bs'
        → (r ≡ r') × (bs ≡ bs')
    step-via-unique q h h' = both-same h h'

    pub list-unique : Replies (pack_of (list_of file out)) (listed_of file out) r bs
        → Replies (pack_of (list_of file out)) (listed_of file out) r' bs'
        → (r ≡ r') × (bs ≡ bs')
    list-unique h h' = both-same h h'

pub settled-unique : (file : List ℕ) (r r' : ℕ) → r ≡ rest_word (rest_by (loaded_of file)) → r' ≡ rest_word (rest_by (loaded_of file)) → r ≡ r'
settled-unique file r r' h h' = h ∙ sym h'
