-- An action in range on a valid table: its slots are below 64, its key is below 2^32, and the message that is taken obeys its kind, with few hops.
-- Assumes nothing.
use mathlib.Core.Path.{◌≡◌, subst}
use mathlib.Core.Bool.{true}
use Prim.Native.Nat.{ℕ, ◌^◌, ◌<◌, ◌≤◌}
use native.Mathlib.Nat.{lt_of_lt_of_le}
use native.Mathlib.Omega.{arith}
use lib.Dec.{ltb}
use lib.Pow.{pow_mono}
use borrow.Author.Tests.{ltb-true}
use Rattle.marks.proofs.Bools.{and_left}
use Rattle.rules.specs.declared.Action.{Action}
use Rattle.rules.specs.declared.Action.TheVariants.{Lookup}
use Rattle.rules.specs.declared.Message.{Message}
use Rattle.rules.specs.declared.Pool.{Pool}
use Rattle.rules.specs.Fits.{message_fits}
use Rattle.rules.specs.InnerAsks.{Listed}
use Rattle.rules.specs.Pool.{message_at}
use Rattle.table_type.specs.declared.Table.{Table}
use Rattle.table_type.specs.Table.{ids_of, ring_of}
use Rattle.step.specs.Step.{one-goes, asked}
use Rattle.table_laws.proofs.By.{goes, slot-in-range}
use Rattle.table_laws.proofs.Obeys.{obeys}
use Rattle.table_laws.proofs.Hops.{within_low}
use Rattle.table_laws.proofs.Sound.{Sound, sound}
use Rattle.table_plan.specs.InnerAsked.{Called, Read}

module _ {t : Table} {p : Pool} {a : Action} (c : Called t p a) where
  pub is-sound : Sound t p
  is-sound = sound t p c.valid

  pub is-listed : Listed (ring_of t) (ids_of t)
  is-listed = is-sound.listed

  pub counted : p.count ≤ 256
  counted = is-sound.counted

  pub low : (i : ℕ) → ltb i t.n ≡ true → i < 64
  low i e = lt_of_lt_of_le (ltb-true i t.n e) is-sound.numbers.n-high

  pub slot-low : (asked t p a).slot < 64
  slot-low = lt_of_lt_of_le (slot-in-range is-sound a c.range) is-sound.numbers.n-high

-- the key of a lookup
pub key-low : {t : Table} {p : Pool} {i k : ℕ} → Called t p (Lookup i k) → k < 2 ^ 32
key-low {t} {k = k} c =
    lt_of_lt_of_le (ltb-true k (2 ^ t.m) (and_left (ltb k (2 ^ t.m)) _ c.range)) (pow_mono (is-sound c).numbers.m-high)

-- the message that goes
pub gone-obeys : {t : Table} {p : Pool} {a : Action} {place : ℕ} {m : Message} → Called t p a → (asked t p a).gone ≡ one-goes place → message_at p place ≡ m
    → (m.dest < t.n) × (message_fits (ring_of t) m ≡ true) × (m.hops ≤ 64)
gone-obeys {t} {p} {a} {place} c g e =
    let s = is-sound c in
    let there = ltb-true place p.count (rw (goes t p place a g).0 at c.range) in
    let f = s.message place there in
    let few = within_low (ring_of t) (ids_of t) (message_at p place) (s.hops place there) in
    rw (← e) ((obeys (ring_of t) _ f).dest-in, f, omega (arith, few, s.numbers.n-high))

-- the same for the action that was matched
pub called_as : {t : Table} {p : Pool} {a b : Action} → Called t p a → a ≡ b → Called t p b
called_as {t} {p} c e = subst (Called t p) e c

pub slot_as : {t : Table} {p : Pool} {a b : Action} → Called t p a → a ≡ b → (asked t p b).slot < 64
slot_as c e = slot-low (called_as c e)

pub read_as : {t : Table} {p : Pool} {a b : Action} {m : Message} → Read t p a m → a ≡ b → Read t p b m
read_as {t} {p} {m = m} r e = subst (λ (b : Action). Read t p b m) e r

pub handed : {t : Table} {p : Pool} {a b : Action} {m : Message} {place : ℕ} → Called t p a → Read t p a m → a ≡ b → (asked t p b).gone ≡ one-goes place
    → (m.dest < t.n) × (message_fits (ring_of t) m ≡ true) × (m.hops ≤ 64)
handed {place = place} c r e g = gone-obeys (called_as c e) g ((read_as r e).is place g)
