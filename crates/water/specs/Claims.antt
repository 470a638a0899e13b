-- T-13: sentence by sentence, in plain equations. Only statements: the proofs are named in Proved. Assumes nothing.
use Rattle.std.specs.Prelude.{◌≡◌, true, false, List, ◌∷◌, ◌++◌, map, ◌⊎◌, ◌↔◌, ℕ, ◌^◌, ◌<◌, ◌≤◌, length, get_or, Some, Ok, Err}
use Rattle.rules.specs.Names.{Marks, Key}
use Rattle.rules.specs.declared.Pool.{Pool}
use Rattle.table_type.specs.declared.Table.{Table}
use Rattle.table.specs.Settled.{is_settled}
use Rattle.step.specs.Step.{is_sound}
use Rattle.holder.specs.Claims.{Holds, Copies}
use Rattle.water.specs.declared.Record.{Record}
use Rattle.water.specs.declared.Held.{Held}
use Rattle.water.specs.declared.Store.{Store}
use Rattle.water.specs.declared.Why.{Why}
use Rattle.water.specs.Water.{none_held, held_of, empty_store, place_of, looked_up, total_of, sum_of, reply_number}
use Rattle.water.specs.History.{Call, placing, store_after, accepted_of, went_of, last_each}

-- a key, month 1 to 12, and rain, evapotranspiration and runoff, each 0 to 100,000
pub record AllInRange (t : Table) (r : Record) : Type 0 where
  pub key : r.key < 2 ^ t.m
  pub month-low : 1 ≤ r.month
  pub month-high : r.month ≤ 12
  pub rain : r.rain ≤ 100000
  pub evapotranspiration : r.evapotranspiration ≤ 100000
  pub runoff : r.runoff ≤ 100000

-- the same key and month
pub record Same (a b : Record) : Type 0 where
  pub key : a.key ≡ b.key
  pub month : a.month ≡ b.month

-- h is one of these
pub data In (h : Held) : List Held → Type 0 where
  here : {hs : List Held} → In h (h ∷ hs)
  there : {x : Held} {hs : List Held} → In h hs → In h (x ∷ hs)

-- ---- one record, on any table and any store

-- the number that is answered
abbrev pub answered : Table → Pool → ℕ → Store → Record → ℕ
answered t p len s r = reply_number (place_of t p len s r).reply

-- there is room: fewer than 512 are held, or one of the same key and month
abbrev pub Room : Store → Record → Type 0
Room s r = (length (held_of s) < 512) ⊎ ((h : Held) × In h (held_of s) × Same h.original r)

-- the refusals in their order, each exactly where those before it are not: 10 for a list without 256 places or an invalid table
abbrev pub InvalidExactly : Type 0
InvalidExactly = (t : Table) (p : Pool) (len : ℕ) (s : Store) (r : Record) → (answered t p len s r ≡ 10) ↔ (is_sound t p len ≡ false)

-- 14 number out of range
abbrev pub OutOfRangeExactly : Type 0
OutOfRangeExactly = (t : Table) (p : Pool) (len : ℕ) (s : Store) (r : Record)
    → (answered t p len s r ≡ 14) ↔ ((is_sound t p len ≡ true) × (AllInRange t r → ⊥))

-- 15 table not settled
abbrev pub UnsettledExactly : Type 0
UnsettledExactly = (t : Table) (p : Pool) (len : ℕ) (s : Store) (r : Record)
    → (answered t p len s r ≡ 15) ↔ ((is_sound t p len ≡ true) × AllInRange t r × (is_settled t ≡ false))

-- 16 no room for a new key and month
abbrev pub NoRoomExactly : Type 0
NoRoomExactly = (t : Table) (p : Pool) (len : ℕ) (s : Store) (r : Record)
    → (answered t p len s r ≡ 16) ↔ ((is_sound t p len ≡ true) × AllInRange t r × (is_settled t ≡ true) × (Room s r → ⊥))

-- accepted, with 0, in every other case
abbrev pub AcceptedExactly : Type 0
AcceptedExactly = (t : Table) (p : Pool) (len : ℕ) (s : Store) (r : Record)
    → (answered t p len s r ≡ 0) ↔ ((is_sound t p len ≡ true) × AllInRange t r × (is_settled t ≡ true) × Room s r)

-- a refusal changes nothing
abbrev pub RefusedKeeps : Type 0
RefusedKeeps = (t : Table) (p : Pool) (len : ℕ) (s : Store) (r : Record) (why : Why)
    → (place_of t p len s r).reply ≡ Err why → (place_of t p len s r).store ≡ s

-- an accepted record goes to the node that covers its key, and copies to that node's left and right neighbours
pub record Went (c : Call) : Type 0 where
  pub record_is : (went_of c).original ≡ c.original
  pub holds : Holds c.table c.original.key (went_of c).holder
  pub copies : Copies c.table (went_of c).holder (went_of c).copies

abbrev pub GoesToCover : Type 0
GoesToCover = (s : Store) (c : Call) → (placing s c).reply ≡ Ok tt → Went c

-- and is held so, in every store of 512 places
abbrev pub AcceptedHeld : Type 0
AcceptedHeld = (s : Store) (c : Call) → length s.places ≡ 512 → (placing s c).reply ≡ Ok tt → In (went_of c) (held_of (placing s c).store)

-- ---- records one after another, from an empty store, whatever is done to the ring between

-- h is the last of its key and month among these: none behind it is the same
pub record LastOf (h : Held) (hs : List Held) : Type 0 where
  pub before : List Held
  pub after : List Held
  pub is : hs ≡ before ++ (h ∷ after)
  pub none-later : (x : Held) → In x after → Same x.original h.original → ⊥

-- what is held is the last accepted record of each key and month, as it went: the same key and month again replaces the earlier one,
-- whose original and copies go, and nothing else moves a record already placed
abbrev pub HeldExactly : Type 0
HeldExactly = (cs : List Call) (h : Held) → In h (held_of (store_after empty_store cs)) ↔ LastOf h (accepted_of empty_store cs)

-- no two of these are of the same key and month
abbrev pub EachOnce : List Held → Type 0
EachOnce hs = (i j : ℕ) → i < j → j < length hs → Same (get_or hs i none_held).original (get_or hs j none_held).original → ⊥

abbrev pub OneEach : Type 0
OneEach = (cs : List Call) → EachOnce (held_of (store_after empty_store cs))

-- so what is held of a key and month is that one, or nothing
abbrev pub LooksUp : Type 0
LooksUp = (cs : List Call) (key : Key) (month : ℕ) (h : Held)
    → let s : Store = store_after empty_store cs in
    (looked_up s key month ≡ Some h) ↔ (In h (held_of s) × (h.original.key ≡ key) × (h.original.month ≡ month))

-- at most 512 records, and the count is how many
abbrev pub AtMost : Type 0
AtMost = (cs : List Call)
    → let s : Store = store_after empty_store cs in
    (s.count ≤ 512) × (s.count ≡ length (held_of s))

-- the sum of changes over held originals equals the sum over the last accepted record of each key and month
abbrev pub SumIsLast : Type 0
SumIsLast = (cs : List Call) → sum_of (store_after empty_store cs) ≡ total_of (last_each (accepted_of empty_store cs))

-- which last_each lists, each once
abbrev pub LastEachIs : Type 0
LastEachIs = (hs : List Held) → ((h : Held) → In h (last_each hs) ↔ LastOf h hs) × EachOnce (last_each hs)

-- copies never count: with any others the sum is the same
abbrev pub CopiesNever : Type 0
CopiesNever = (hs : List Held) (other : Held → Marks)
    → total_of (map (λ (h : Held). record { original = h.original; holder = h.holder; copies = other h }) hs) ≡ total_of hs
