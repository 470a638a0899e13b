-- What a caller gets who lends its list of messages: the core's definitions, on the pool that the list holds. Definitions only. Assumes nothing.
use Rattle.std.specs.Prelude.{◌≡◌, cond, List, ℕ, eqb, length, replicate}
use Rattle.rules.specs.Names.{Marks, Ids}
use Rattle.rules.specs.declared.Action.{Action}
use Rattle.rules.specs.declared.Message.{Message}
use Rattle.rules.specs.declared.Pool.{Pool}
use Rattle.rules.specs.Limits.{messages_high}
use Rattle.rules.specs.Pool.{blank}
use Rattle.table_type.specs.declared.Stepped.{Stepped}
use Rattle.table_type.specs.declared.Table.{Table}
use Rattle.step.specs.Step.{step_of}
use Rattle.file.specs.Load.{load_of}
use Rattle.file.specs.Write.{Wrote, wrote_of, written_of}
use Rattle.face.specs.Asked.{Rest, start_step, rest_of}
use Rattle.face_lent.specs.declared.Reply.{Reply}

abbrev pub pool_of : ℕ → List Message → Pool
pool_of n zs = record { count = n; places = zs }

abbrev pub blanks : List Message
blanks = replicate messages_high blank

-- all of 256 places, or none
abbrev pub places_of : ℕ → ℕ
places_of len = cond (eqb len messages_high) messages_high 0

-- what is taken in of a list: its places where it has exactly 256, and blank ones where not
unfoldable pub taken_of : List Message → List Message
taken_of ys = cond (eqb (length ys) messages_high) ys blanks

-- what a list holds once it is given these places: a list without exactly 256 is left as it is
unfoldable pub given_of : List Message → List Message → List Message
given_of ys zs = cond (eqb (length ys) messages_high) zs ys

-- the pool that a list and its count hold
abbrev pub lent : List Message → ℕ → Pool
lent ys n = pool_of n (taken_of ys)

abbrev pub lent_step : Table → List Message → ℕ → Action → Stepped
lent_step t ys n a = step_of t (lent ys n) (length ys) a

abbrev pub lent_start : Table → List Message → ℕ → ℕ → ℕ → Ids → Marks → Stepped
lent_start t ys n m l ids a = start_step t (lent ys n) (length ys) m l ids a

abbrev pub lent_load : List ℕ → Table → List Message → ℕ → Stepped
lent_load bs t ys n = load_of bs t (lent ys n) (length ys)

abbrev pub lent_rest : Table → List Message → ℕ → Rest
lent_rest t ys n = rest_of t (lent ys n) (length ys)

abbrev pub reply_of : Stepped → Reply
reply_of g = record { answer = g.answer; table = g.table; count = g.pool.count; via = g.via }

-- what the caller has once the core has left g: the reply, and the list that held ys holds zs
abbrev pub Handed : Stepped → List Message → List Message → Reply → Type 0
Handed g ys zs r = (r ≡ reply_of g) × (zs ≡ given_of ys g.pool.places)

-- what the caller has of a write: the answer with the number of bytes, and the buffer that held bs holds cs
abbrev pub Filed : Table → List Message → ℕ → List ℕ → List ℕ → Wrote → Type 0
Filed t ys n bs cs r = (r ≡ wrote_of t (lent ys n) (length ys) bs) × (cs ≡ written_of t (lent ys n) (length ys) bs)
