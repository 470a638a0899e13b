-- What the functions ask, and what `asked` says. Definitions only. Assumes nothing.
use Rattle.std.specs.Prelude.{◌≡◌, Bool, true, false, cond, ◌&&◌, List, Some, None, ℕ, ◌<◌, ◌≤◌, ltb, Result, Ok, Err, is_ok}
use Rattle.rules.specs.declared.Action.{Action}
use Rattle.rules.specs.declared.Message.{Message}
use Rattle.rules.specs.declared.Plan.{Plan}
use Rattle.rules.specs.declared.Pool.{Pool}
use Rattle.rules.specs.declared.Refusal.TheVariants as no
use Rattle.rules.specs.Plans.{mailed}
use Rattle.rules.specs.Pool.{message_at}
use Rattle.pool_laws.specs.InnerSending.{left_of, news_of, first_new}
use Rattle.table_type.specs.declared.Table.{Table}
use Rattle.step.specs.Step.{Gone, all_stay, one-goes, probes-go, asked, planned_of}
use Rattle.table.specs.Valid.{valid_of}
use Rattle.table_plan.specs.declared.Asking.{Asking}
use Rattle.table_plan.specs.declared.Beyond.{Beyond}

-- an action in range on a valid table
pub record Called (t : Table) (p : Pool) (a : Action) : Type 0 where
  pub valid : valid_of t p ≡ true
  pub range : (asked t p a).range ≡ true

-- m is the message that goes, if one does
pub record Read (t : Table) (p : Pool) (a : Action) (m : Message) : Type 0 where
  pub is : (place : ℕ) → (asked t p a).gone ≡ one-goes place → message_at p place ≡ m

-- the place whose message goes; past every count where none does
abbrev pub gone_at : Gone → ℕ
gone_at (one-goes place) = place
gone_at all_stay = 256
gone_at (probes-go i j) = 256

-- one message goes; probes go
abbrev pub is_one : Gone → Bool
is_one (one-goes place) = true
is_one all_stay = false
is_one (probes-go i j) = false

abbrev pub are_probes : Gone → Bool
are_probes (one-goes place) = false
are_probes all_stay = false
are_probes (probes-go i j) = true

-- the slot whose node acts, where m is the message that goes, if one does
abbrev pub slot_with : Asking → Message → ℕ
slot_with r m = cond (ltb r.gone 256) m.dest r.slot

-- what is asked, where it is in range; else 1: slot, place or key out of range, beside what is asked all the same
abbrev pub in_range : Bool → Asking → Result Asking Beyond
in_range range r = cond range (Ok r) (Err (record { why = no.OutOfRange; asks = r }))

-- the four ways to ask
abbrev pub requests_of : ℕ → ℕ → Bool → Bool → Result Asking Beyond
requests_of n i more fresh = in_range (more && ltb i n) (record { gone = 256; slot = i; request = true; fresh = fresh; timed = None })

abbrev pub acts_of : ℕ → ℕ → Bool → Result Asking Beyond
acts_of n i more = in_range (more && ltb i n) (record { gone = 256; slot = i; request = false; fresh = false; timed = None })

abbrev pub times_of : ℕ → ℕ → ℕ → Result Asking Beyond
times_of n i j = in_range (ltb j n && ltb i n) (record { gone = 256; slot = i; request = false; fresh = false; timed = Some j })

abbrev pub takes_of : ℕ → ℕ → Result Asking Beyond
takes_of count place = in_range (ltb place count) (record { gone = place; slot = 64; request = false; fresh = false; timed = None })

-- what is told of an action, in range or not. Where 3 is not asked, nothing is repeated; where what is sent is said to be new, and a plan
-- is made, the first message of the plan is; where probes have timed out, those from the slot to the partner go, and nothing is sent. That
-- the partner is a slot is told in range alone
pub record Told (n : ℕ) (a : Action) (range : Bool) (r : Asking) : Type 0 where
  pub gone : (t : Table) (p : Pool) → r.gone ≡ gone_at (asked t p a).gone
  pub slot : (t : Table) (p : Pool) → is_one (asked t p a).gone ≡ false → r.slot ≡ (asked t p a).slot
  pub unasked : r.request ≡ false → (t : Table) (p : Pool) → false ≡ (asked t p a).repeated
  pub fresh : r.fresh ≡ true → (t : Table) (p : Pool) (x : Plan) → p.count ≤ 256 → planned_of (asked t p a) ≡ Ok x
      → first_new x ≡ news_of x (left_of p r.gone)
  pub stays : r.timed ≡ None → (t : Table) (p : Pool) → are_probes (asked t p a).gone ≡ false
  pub times : (j : ℕ) → r.timed ≡ Some j → (t : Table) (p : Pool) → (asked t p a).gone ≡ probes-go r.slot j
  pub partner-low : range ≡ true → (j : ℕ) → r.timed ≡ Some j → j < n
  pub quiet : (j : ℕ) → r.timed ≡ Some j → (t : Table) (p : Pool) (x : Plan) → planned_of (asked t p a) ≡ Ok x → (ys : List Message) → mailed x ys ≡ ys

-- what is told of a table with these numbers and so many messages: what is asked, exactly where the action is in range; else 1, beside what
-- is asked all the same
pub record Asks (m n count : ℕ) (a : Action) (r : Result Asking Beyond) : Type 0 where
  pub range : (t : Table) (p : Pool) → t.m ≡ m → t.n ≡ n → p.count ≡ count → is_ok r ≡ (asked t p a).range
  pub told : (x : Asking) → r ≡ Ok x → Told n a true x
  pub refused : (x : Beyond) → r ≡ Err x → x.why ≡ no.OutOfRange
  pub beyond : (x : Beyond) → r ≡ Err x → Told n a false x.asks
