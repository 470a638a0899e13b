-- The reply to one record, on any table and store. The idea: who holds its key is told in one of four ways, each exactly where the ring
-- says so (Holds of crate holder); with the range of the record and its seat that gives one of five cases, each with its reply (`judged`),
-- and no two of them are met at once. Assumes nothing.
use mathlib.Core.Path.{◌≡◌, refl, ap}
use mathlib.Core.Bool.{Bool, true, false}
use mathlib.Core.Logic.{◌⊎◌, inl, inr, ◌↔◌}
use Prim.Native.Nat.{ℕ, ◌<◌, ◌≤◌}
use native.Mathlib.Omega.{arith}
use borrow.Author.Tests.{ltb-true, ltb-false}
use lib.Dec.{ltb}
use Rattle.marks.proofs.Bools.{bool_cases, opposed}
use Rattle.rules.specs.declared.Pool.{Pool}
use Rattle.table_type.specs.declared.Table.{Table}
use Rattle.table.specs.Settled.{is_settled}
use Rattle.step.specs.Step.{is_sound}
use Rattle.std.specs.Prelude.{Ok, Err}
use Rattle.holder.specs.declared.Unheld.TheVariants as unheld
use Rattle.holder.specs.Holder.{Holding}
use Rattle.holder.specs.Holder.{holding_of}
use Rattle.holder.proofs.Proved as ring
use Rattle.water.specs.declared.Record.{Record}
use Rattle.water.specs.declared.Held.{Held}
use Rattle.water.specs.declared.Store.{Store}
use Rattle.water.specs.declared.Why.{Why}
use Rattle.water.specs.declared.Why.TheVariants.{Invalid, OutOfRange, Unsettled, NoRoom}
use Rattle.water.specs.Water.{Reply}
use Rattle.water.specs.declared.Placed.{Placed}
use Rattle.water.specs.Water.{most_records, in_range, held_of, seat_of, kept_at, refused_of, put_of, place_by, place_of, reply_number}
use Rattle.water.specs.History.{Call, placing, went_of}
use Rattle.water.specs.Claims.{AllInRange, Room, In, answered, Went, RefusedKeeps, GoesToCover, AcceptedHeld}
use Rattle.water.specs.Claims.{InvalidExactly, OutOfRangeExactly, UnsettledExactly, NoRoomExactly, AcceptedExactly}
use Rattle.water.proofs.Range.{all-in-range, range-told}
use Rattle.water.proofs.Seats.{seat-exactly, kept_in_lem}

abbrev called : Table → Pool → ℕ → Record → Call
called t p len r = record { table = t; pool = p; len = len; original = r }

-- the number that is answered
abbrev number : Store → Call → ℕ
number s c = answered c.table c.pool c.len s c.original

-- kept at its seat
abbrev pub kept_of : Store → Held → Placed
kept_of s h = record { reply = Ok tt; store = kept_at s (seat_of (held_of s) h.original) h }

-- what is asked of the table, the record and the store, as far as it is met
abbrev Sound : Call → Bool → Type 0
Sound c b = is_sound c.table c.pool c.len ≡ b

abbrev Ranged : Call → Type 0
Ranged c = AllInRange c.table c.original

abbrev Settled : Call → Bool → Type 0
Settled c b = is_settled c.table ≡ b

pub data Judged (s : Store) (c : Call) : Type 0 where
  invalid : Sound c false → placing s c ≡ refused_of s Invalid → Judged s c
  out : Sound c true → (Ranged c → ⊥) → placing s c ≡ refused_of s OutOfRange → Judged s c
  unsettled : Sound c true → Ranged c → Settled c false → placing s c ≡ refused_of s Unsettled → Judged s c
  full : Sound c true → Ranged c → Settled c true → (Room s c.original → ⊥) → placing s c ≡ refused_of s NoRoom → Judged s c
  kept : Sound c true → Ranged c → Settled c true → Room s c.original → Went c → placing s c ≡ kept_of s (went_of c) → Judged s c

numbered : {p q : Placed} → p ≡ q → reply_number p.reply ≡ reply_number q.reply
numbered e = ap (λ (p : Placed). reply_number p.reply) e

replied : {p q : Placed} → p ≡ q → p.reply ≡ q.reply
replied e = ap (λ (p : Placed). p.reply) e

stored : {p q : Placed} → p ≡ q → p.store ≡ q.store
stored e = ap (λ (p : Placed). p.store) e

-- not accepted and refused
not-both : {r : Reply} {why : Why} → r ≡ Ok tt → r ≡ Err why → ⊥
not-both e f = let z : ◌≡◌ {A = ℕ} 0 1 = cc in omega arith

-- neither of the two holds
neither : {A B : Type 0} → (A → ⊥) → (B → ⊥) → A ↔ B
neither f g = (λ a. absurd (f a), λ b. absurd (g b))

module _ (s : Store) (c : Call) where
  abbrev Told : Holding → Type 0
  Told w = holding_of c.table c.pool c.len c.original.key ≡ w

  went-by : (h k : ℕ) → Told (Ok (record { slot = h; copies = k })) → went_of c ≡ record { original = c.original; holder = h; copies = k }
  unfolding went_of
  went-by h k e = rw e

  goes_to : (h k : ℕ) → Told (Ok (record { slot = h; copies = k })) → Went c
  goes_to h k e =
      let at = ring.held-by-cover c.table c.pool c.len c.original.key h k e in
      record {
        record_is = rw (went-by h k e);
        holds = rw (went-by h k e) at.0;
        copies = rw (went-by h k e) at.1;
      }

  by-seat : (h k : ℕ) → Told (Ok (record { slot = h; copies = k })) → in_range c.original ≡ true → Judged s c
  unfolding place_of place_by put_of
  by-seat h k e i = go (bool_cases (ltb (seat_of (held_of s) c.original) most_records))
    where
      go : (ltb (seat_of (held_of s) c.original) most_records ≡ true) ⊎ (ltb (seat_of (held_of s) c.original) most_records ≡ false)
          → Judged s c
      go (inl l) =
          let a = ring.held-only c.table c.pool c.len c.original.key h k e in
          let room : Room s c.original =
          (seat-exactly s c.original).0 (ltb-true (seat_of (held_of s) c.original) most_records l)
          in
          kept a.sound (all-in-range c.table c.original a.key i) a.settled room (goes_to h k e) (rw (e, i, l, went-by h k e))
      go (inr l) =
          let a = ring.held-only c.table c.pool c.len c.original.key h k e in
          let f : most_records ≤ seat_of (held_of s) c.original = ltb-false (seat_of (held_of s) c.original) most_records l in
          full a.sound (all-in-range c.table c.original a.key i) a.settled
          (λ room. omega (arith, (seat-exactly s c.original).1 room)) (rw (e, i, l))

  pub judged : Judged s c
  unfolding place_of place_by
  judged = go (holding_of c.table c.pool c.len c.original.key) refl (bool_cases (in_range c.original))
    where
      go : (w : Holding) → Told w → (in_range c.original ≡ true) ⊎ (in_range c.original ≡ false) → Judged s c
      go (Err (unheld.NotAsked why)) e any = invalid ((ring.not-asked-exactly c.table c.pool c.len c.original.key why).0 e).1 (rw e)
      go (Err unheld.OutOfRange) e any =
          let a = (ring.out-exactly c.table c.pool c.len c.original.key).0 e in
          out a.0 (λ r. omega (arith, r.key, a.1)) (rw e)
      go (Err unheld.Unsettled) e (inl i) =
          let a = (ring.unsettled-exactly c.table c.pool c.len c.original.key).0 e in
          unsettled a.0 (all-in-range c.table c.original a.1 i) a.2 (rw (e, i))
      go (Err unheld.Unsettled) e (inr i) =
          let a = (ring.unsettled-exactly c.table c.pool c.len c.original.key).0 e in
          out a.0 (λ r. opposed (range-told c.table c.original r) i) (rw (e, i))
      go (Ok held) e (inl i) = by-seat held.slot held.copies e i
      go (Ok held) e (inr i) =
          let a = ring.held-only c.table c.pool c.len c.original.key held.slot held.copies e in
          out a.sound (λ r. opposed (range-told c.table c.original r) i) (rw (e, i))

-- ---- each answer, exactly in its case

invalid-at : {s : Store} {c : Call} → Judged s c → (number s c ≡ 10) ↔ Sound c false
invalid-at (invalid b e) = (λ n. b, λ a. numbered e)
invalid-at (out b f e) = neither (λ n. omega (arith, numbered e)) (opposed b)
invalid-at (unsettled b f g e) = neither (λ n. omega (arith, numbered e)) (opposed b)
invalid-at (full b f g h e) = neither (λ n. omega (arith, numbered e)) (opposed b)
invalid-at (kept b f g h w e) = neither (λ n. omega (arith, numbered e)) (opposed b)

pub invalid-exactly : InvalidExactly
invalid-exactly t p len s r = invalid-at (judged s (called t p len r))

out_at : {s : Store} {c : Call} → Judged s c → (number s c ≡ 14) ↔ (Sound c true × (Ranged c → ⊥))
out_at (invalid b e) = neither (λ n. omega (arith, numbered e)) (λ a. opposed a.0 b)
out_at (out b f e) = (λ n. (b, f), λ a. numbered e)
out_at (unsettled b f g e) = neither (λ n. omega (arith, numbered e)) (λ a. a.1 f)
out_at (full b f g h e) = neither (λ n. omega (arith, numbered e)) (λ a. a.1 f)
out_at (kept b f g h w e) = neither (λ n. omega (arith, numbered e)) (λ a. a.1 f)

pub out-of-range-exactly : OutOfRangeExactly
out-of-range-exactly t p len s r = out_at (judged s (called t p len r))

unsettled-at : {s : Store} {c : Call} → Judged s c → (number s c ≡ 15) ↔ (Sound c true × Ranged c × Settled c false)
unsettled-at (invalid b e) = neither (λ n. omega (arith, numbered e)) (λ a. opposed a.0 b)
unsettled-at (out b f e) = neither (λ n. omega (arith, numbered e)) (λ a. f a.1)
unsettled-at (unsettled b f g e) = (λ n. (b, f, g), λ a. numbered e)
unsettled-at (full b f g h e) = neither (λ n. omega (arith, numbered e)) (λ a. opposed g a.2)
unsettled-at (kept b f g h w e) = neither (λ n. omega (arith, numbered e)) (λ a. opposed g a.2)

pub unsettled-exactly : UnsettledExactly
unsettled-exactly t p len s r = unsettled-at (judged s (called t p len r))

full_at : {s : Store} {c : Call} → Judged s c
    → (number s c ≡ 16) ↔ (Sound c true × Ranged c × Settled c true × (Room s c.original → ⊥))
full_at (invalid b e) = neither (λ n. omega (arith, numbered e)) (λ a. opposed a.0 b)
full_at (out b f e) = neither (λ n. omega (arith, numbered e)) (λ a. f a.1)
full_at (unsettled b f g e) = neither (λ n. omega (arith, numbered e)) (λ a. opposed a.2 g)
full_at (full b f g h e) = (λ n. (b, f, g, h), λ a. numbered e)
full_at (kept b f g h w e) = neither (λ n. omega (arith, numbered e)) (λ a. a.3 h)

pub no-room-exactly : NoRoomExactly
no-room-exactly t p len s r = full_at (judged s (called t p len r))

accepted-at : {s : Store} {c : Call} → Judged s c
    → (number s c ≡ 0) ↔ (Sound c true × Ranged c × Settled c true × Room s c.original)
accepted-at (invalid b e) = neither (λ n. omega (arith, numbered e)) (λ a. opposed a.0 b)
accepted-at (out b f e) = neither (λ n. omega (arith, numbered e)) (λ a. f a.1)
accepted-at (unsettled b f g e) = neither (λ n. omega (arith, numbered e)) (λ a. opposed a.2 g)
accepted-at (full b f g h e) = neither (λ n. omega (arith, numbered e)) (λ a. h a.3)
accepted-at (kept b f g h w e) = (λ n. (b, f, g, h), λ a. numbered e)

pub accepted-exactly : AcceptedExactly
accepted-exactly t p len s r = accepted-at (judged s (called t p len r))

-- ---- the store, and where the record went

refused-at : {s : Store} {c : Call} {why : Why} → Judged s c → (placing s c).reply ≡ Err why → (placing s c).store ≡ s
refused-at (invalid b e) f = stored e
refused-at (out b g e) f = stored e
refused-at (unsettled b g h e) f = stored e
refused-at (full b g h i e) f = stored e
refused-at (kept b g h i w e) f = absurd (not-both (replied e) f)

pub refused-keeps : RefusedKeeps
refused-keeps t p len s r why = refused-at (judged s (called t p len r))

pub goes-to-cover : GoesToCover
goes-to-cover s c a = go (judged s c)
  where
    go : Judged s c → Went c
    go (invalid b e) = absurd (not-both a (replied e))
    go (out b f e) = absurd (not-both a (replied e))
    go (unsettled b f g e) = absurd (not-both a (replied e))
    go (full b f g h e) = absurd (not-both a (replied e))
    go (kept b f g h w e) = w

pub accepted-held : AcceptedHeld
accepted-held s c p a = go (judged s c)
  where
    go : Judged s c → In (went_of c) (held_of (placing s c).store)
    go (invalid b e) = absurd (not-both a (replied e))
    go (out b f e) = absurd (not-both a (replied e))
    go (unsettled b f g e) = absurd (not-both a (replied e))
    go (full b f g h e) = absurd (not-both a (replied e))
    go (kept b f g h w e) =
        let l : seat_of (held_of s) (went_of c).original < most_records = rw w.record_is ((seat-exactly s c.original).1 h) in
        rw e (kept_in_lem s (went_of c) p l)
