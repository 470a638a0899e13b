-- T-13: what is said of who holds a key, for every table and every key. Only statements: the proofs are named in Proved. Assumes nothing.
use Rattle.std.specs.Prelude.{◌≡◌, true, false, ◌⊎◌, ◌↔◌, ℕ, ◌^◌, ◌<◌, ◌≤◌, Ok, Err}
use Rattle.marks.specs.Marks.{has, size_of}
use Rattle.rules.specs.Names.{Slot, Marks, Key}
use Rattle.rules.specs.declared.Pool.{Pool}
use Rattle.rules.specs.declared.Refusal.{Refusal}
use Rattle.rules.specs.declared.Refusal.TheVariants as no
use Rattle.table_type.specs.declared.Table.{Table}
use Rattle.table.specs.Settled.{ready_set, is_settled}
use Rattle.step.specs.Step.{is_sound}
use Rattle.lookup_laws.specs.Claims.{Ready, NearestReady}
use Rattle.lookup_laws.specs.Fates.{covers_at}
use Rattle.lookup_laws.specs.Joining.{left_at, right_at}
use Rattle.holder.specs.declared.Unheld.TheVariants.{NotAsked, OutOfRange, Unsettled}
use Rattle.holder.specs.Holder.{holding_of}

-- the node that covers its key: a ready node, the one nearest k, and no other ready node covers k
pub record Holds (t : Table) (k : Key) (h : Slot) : Type 0 where
  pub covers : covers_at t h k ≡ true
  pub nearest : NearestReady t k h
  pub only : (j : Slot) → Ready t j → covers_at t j k ≡ true → j ≡ h

-- a set of slots: that node's left and right neighbours, ready nodes too, and never the node itself; one copy if they coincide, none if
-- it is alone
pub record Copies (t : Table) (h : Slot) (c : Marks) : Type 0 where
  pub below : c < 2 ^ 64
  pub neighbours : (j : Slot) → j < 64 → (has c j ≡ true) ↔ (((j ≡ left_at t h) ⊎ (j ≡ right_at t h)) × (j ≡ h → ⊥))
  pub ready : (j : Slot) → j < 64 → has c j ≡ true → Ready t j
  pub alone : size_of (ready_set t) ≡ 1 → c ≡ 0
  pub two : size_of (ready_set t) ≡ 2 → (left_at t h ≡ right_at t h) × (size_of c ≡ 1)
  pub more : 3 ≤ size_of (ready_set t) → (left_at t h ≡ right_at t h → ⊥) × (size_of c ≡ 2)

-- In a settled table every key is held
abbrev pub EveryKeyHeld : Type 0
EveryKeyHeld = (t : Table) (p : Pool) (len : ℕ) (k : Key) → is_sound t p len ≡ true → k < 2 ^ t.m → is_settled t ≡ true
    → (h : Slot) × (c : Marks) × (holding_of t p len k ≡ Ok (record { slot = h; copies = c }))

-- by the node that covers it, with copies at its neighbours
abbrev pub HeldByCover : Type 0
HeldByCover = (t : Table) (p : Pool) (len : ℕ) (k : Key) (h : Slot) (c : Marks) → holding_of t p len k ≡ Ok (record { slot = h; copies = c }) → Holds t k h × Copies t h c

-- only a key of a valid and settled table is held
pub record SettledKey (t : Table) (p : Pool) (len : ℕ) (k : Key) : Type 0 where
  pub sound : is_sound t p len ≡ true
  pub key : k < 2 ^ t.m
  pub settled : is_settled t ≡ true

abbrev pub HeldOnly : Type 0
HeldOnly = (t : Table) (p : Pool) (len : ℕ) (k : Key) (h : Slot) (c : Marks) → holding_of t p len k ≡ Ok (record { slot = h; copies = c }) → SettledKey t p len k

-- 10 exactly for a list without 256 places or an invalid table
abbrev pub NotAskedExactly : Type 0
NotAskedExactly = (t : Table) (p : Pool) (len : ℕ) (k : Key) (why : Refusal)
    → (holding_of t p len k ≡ Err (NotAsked why)) ↔ ((why ≡ no.Invalid) × (is_sound t p len ≡ false))

-- else out of range exactly for a key that is not below 2^M
abbrev pub OutExactly : Type 0
OutExactly = (t : Table) (p : Pool) (len : ℕ) (k : Key) → (holding_of t p len k ≡ Err OutOfRange) ↔ ((is_sound t p len ≡ true) × (2 ^ t.m ≤ k))

-- else not settled exactly for a table that is not settled
abbrev pub UnsettledExactly : Type 0
UnsettledExactly = (t : Table) (p : Pool) (len : ℕ) (k : Key)
    → (holding_of t p len k ≡ Err Unsettled) ↔ ((is_sound t p len ≡ true) × (k < 2 ^ t.m) × (is_settled t ≡ false))
