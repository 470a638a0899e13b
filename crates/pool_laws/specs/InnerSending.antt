-- What a step leaves of the pool, and which of its plan's messages are new. "Once place `gone` is away": where gone is at or above the
-- count, none is away. Definitions only; their laws are in Laid, Sends and News. Assumes nothing.
use Rattle.std.specs.Prelude.{◌≡◌, Bool, true, cond, not, List, [], ◌∷◌, ◌++◌, ℕ, zero, suc, ◌+◌, ◌-◌, ◌≤◌, eqb, leb, ltb, Some, None}
use Rattle.marks.specs.Marks.{has, gather, add_of, without, size_of, Found}
use Rattle.rules.specs.declared.Message.{Message}
use Rattle.rules.specs.declared.Pool.{Pool}
use Rattle.rules.specs.declared.Plan.{Plan}
use Rattle.rules.specs.Nodes.{placed}
use Rattle.rules.specs.Pool.{waiting}
use Rattle.rules.specs.Mail.{alike, removed_at, waits}
use Rattle.pool_laws.specs.declared.New.{New}

-- ---- what is left

-- what is left of the waiting messages once place `gone` is away
abbrev pub left_of : Pool → ℕ → List Message
left_of p gone = removed_at (waiting p) gone

-- how many are left of n
unfoldable pub left_count : ℕ → ℕ → ℕ
left_count n gone = cond (ltb gone n) (n - 1) n

-- the place in the pool of the message at place `at` of what is left
unfoldable pub place_of : ℕ → ℕ → ℕ
place_of gone at = cond (ltb at gone) at (at + 1)

-- ---- the slots to which a message is sent

-- a slot is one of the 64 that marks stand for
abbrev pub slotted : Found → Bool
slotted (Some s) = ltb s 64
slotted None = true

-- the slots to which an equal of m waits
unfoldable pub held_of : Message → List Message → ℕ
held_of m xs = gather 64 (λ s. waits xs (placed m s))

-- the same, where q waits too
unfoldable pub held_with : Message → ℕ → Message → ℕ
held_with m set q = cond (alike q (placed m q.dest)) (add_of set q.dest) set

-- m for a slot, if there is one
abbrev pub copy_to : Message → Found → List Message
copy_to m (Some s) = placed m s ∷ []
copy_to m None = []

-- m for each slot below n of a set, in rising order
unfoldable pub copies_to : Message → ℕ → ℕ → List Message
copies_to m set zero = []
copies_to m set (suc n) = copies_to m set n ++ cond (has set n) (placed m n ∷ []) []

abbrev pub copies : Message → ℕ → List Message
copies m set = copies_to m set 64

-- ---- which messages of a plan are new, where ys is left

-- the slot to which m is new, if it goes to one: none where an equal is left
abbrev pub new_to : Message → Found → List Message → Found
new_to m (Some s) ys = cond (waits ys (placed m s)) None (Some s)
new_to m None ys = None

-- the first message of the plan, as a list: none if an equal is left
unfoldable pub new_one : Plan → List Message → List Message
new_one x ys = copy_to x.first (new_to x.first x.to ys)

-- the slots to which the plan's `each` is really new, once its new first message is there too
unfoldable pub new_all : Plan → List Message → ℕ
new_all x ys = without x.all (held_of x.each (ys ++ new_one x ys))

-- which of the plan's messages are new
abbrev pub news_of : Plan → List Message → New
news_of x ys = record { one = new_to x.first x.to ys; all = new_all x ys }

-- a plan sends something
abbrev pub sends_to : Found → ℕ → Bool
sends_to (Some s) all = true
sends_to None all = not (eqb all 0)

abbrev pub sends_of : Plan → Bool
sends_of x = sends_to x.to x.all

-- the first message is new, if there is one, and there is no other
abbrev pub first_new : Plan → New
first_new x = record { one = x.to; all = 0 }

-- ---- how many there are after the step

abbrev pub one_or_none : Found → ℕ
one_or_none (Some s) = 1
one_or_none None = 0

-- how many messages are new
abbrev pub new_count : New → ℕ
new_count w = one_or_none w.one + size_of w.all

-- the pool after the step holds at most 256: of n messages those left, and the new ones
abbrev pub room_of : ℕ → ℕ → New → Bool
room_of n gone w = leb (left_count n gone + new_count w) 256

-- what the laws of the pool after the plan ask: the new messages are told, they have room, and the first one's slot is one of the 64
pub record Roomy (p : Pool) (gone : ℕ) (x : Plan) (w : New) : Type 0 where
  pub counted : p.count ≤ 256
  pub to-slot : slotted x.to ≡ true
  pub told : w ≡ news_of x (left_of p gone)
  pub room : room_of p.count gone w ≡ true
