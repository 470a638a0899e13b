-- Each public function has one reply for every input, and leaves one content of the list or buffer lent to it: any two that its contract allows are
-- equal. The same of the functions by value that these call, `table_step::step`, `file_read::load` and `file_write::write`. Assumes nothing.
use mathlib.Core.Path.{◌≡◌, sym, ◌∙◌}
use mathlib.Core.List.{List}
use Prim.Native.Nat.{ℕ}
use Rattle.rules.specs.declared.Action.{Action}
use Rattle.rules.specs.declared.Message.{Message}
use Rattle.rules.specs.declared.Pool.{Pool}
use Rattle.table_type.specs.declared.Stepped.{Stepped}
use Rattle.table_type.specs.declared.Table.{Table}
use Rattle.step.specs.Step.{step_of}
use Rattle.file.specs.Load.{load_of}
use Rattle.file.proofs.Replies.{both-same}
use Rattle.file.specs.Write.{Wrote, wrote_of, written_of}
use Rattle.face.specs.Asked.{Rest}
use Rattle.face_lent.specs.declared.Reply.{Reply}
use Rattle.face_lent.specs.Lent.{lent_step, lent_start, lent_load, lent_rest, Handed, Filed}

module _ (t : Table) (ys : List Message) (n : ℕ) where
  module _ (zs zs' : List Message) (r r' : Reply) where
    pub step-unique : (a : Action) → Handed (lent_step t ys n a) ys zs r → Handed (lent_step t ys n a) ys zs' r' → (r ≡ r') × (zs ≡ zs')
    step-unique a h h' = both-same h h'

    pub start-unique : (m l : ℕ) (ids : List ℕ) (a : ℕ) → Handed (lent_start t ys n m l ids a) ys zs r → Handed (lent_start t ys n m l ids a) ys zs' r'
        → (r ≡ r') × (zs ≡ zs')
    start-unique m l ids a h h' = both-same h h'

    pub load-unique : (bs : List ℕ) → Handed (lent_load bs t ys n) ys zs r → Handed (lent_load bs t ys n) ys zs' r' → (r ≡ r') × (zs ≡ zs')
    load-unique bs h h' = both-same h h'

  pub settled-unique : (r r' : Rest) → r ≡ lent_rest t ys n → r' ≡ lent_rest t ys n → r ≡ r'
  settled-unique r r' h h' = h ∙ sym h'

  pub write-unique : (bs cs cs' : List ℕ) (r r' : Wrote) → Filed t ys n bs cs r → Filed t ys n bs cs' r' → (r ≡ r') × (cs ≡ cs')
  write-unique bs cs cs' r r' h h' = both-same h h'

-- ---- by value

module _ (t : Table) (p : Pool) (len : ℕ) where
  pub step-value-unique : (a : Action) (r r' : Stepped) → r ≡ step_of t p len a → r' ≡ step_of t p len a → r ≡ r'
  step-value-unique a r r' h h' = h ∙ sym h'

  pub load-value-unique : (bs : List ℕ) (r r' : Stepped) → r ≡ load_of bs t p len → r' ≡ load_of bs t p len → r ≡ r'
  load-value-unique bs r r' h h' = h ∙ sym h'

  pub write-value-unique : (bs cs cs' : List ℕ) (r r' : Wrote) → (r ≡ wrote_of t p len bs) × (cs ≡ written_of t p len bs)
      → (r' ≡ wrote_of t p len bs) × (cs' ≡ written_of t p len bs) → (r ≡ r') × (cs ≡ cs')
  write-value-unique bs cs cs' r r' h h' = both-same h h'
