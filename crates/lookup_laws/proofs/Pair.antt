-- The pair is 01's taking of a Lookup, and a gateway that only delivers. The idea: with a sound table and a place in range all steps come to
-- `settle` of what is planned, so the steps agree where the plans do, and the plans differ in their tests alone; at a ready node one of the
-- two has a plan, which is done (Taking). Along a run a lookup leaves a node by Deliver or Forward only (Tracks). Assumes nothing.
use Rattle.rules.specs.Shapes.{Planned}
use Rattle.std.specs.Prelude.{Err}
use mathlib.Core.Path.{◌≡◌, refl, sym, ◌∙◌, ap, subst}
use mathlib.Core.Bool.{Bool, true, false}
use mathlib.Core.List.{[], ◌∷◌}
use mathlib.Core.Logic.{◌⊎◌, inl, inr}
use Prim.Native.Nat.{ℕ}
use lib.Dec.{eqb, ltb}
use borrow.Author.Tests.{eq-eqb, ne_eqb, eqb-true, lt-ltb, ltb-true}
use Rattle.marks.proofs.Bools.{and_left}
use Rattle.rules.specs.declared.Action.TheVariants.{Take, Deliver, Forward}
use Rattle.rules.specs.declared.Message.{Message}
use Rattle.rules.specs.declared.Pool.{Pool}
use Rattle.rules.specs.declared.Refusal.TheVariants as no
use Rattle.rules.specs.Pool.{message_at}
use Rattle.take.specs.Take.{plan_deliver, plan_forward, plan_take}
use Rattle.table_type.specs.declared.Stepped.{Stepped}
use Rattle.table_type.specs.declared.Table.{Table}
use Rattle.table.specs.Settle.{refused_of, settle}
use Rattle.step.specs.Step.{takes, taken_of, delivered_of, forwarded_of, remaining, act_of, is_sound, step_of}
use Rattle.table.specs.Valid.{valid_of}
use Rattle.table_laws.proofs.Sound.{sound, is-valid}
use Rattle.lookup_laws.specs.Claims.{Ready}
use Rattle.lookup_laws.specs.Fates.{covers_at, Tracked}
use Rattle.lookup_laws.specs.Journey.{stepped, LookupAt, Fate, stays, routed, met, delivered, unroutable, fate_of}
use Rattle.lookup_laws.specs.Pair.{plan_take_lookup, taken_before, take_of, OneDone, Judged, status_at, ReadyOne, AllAre, OthersTwo, TakeFive}
use Rattle.lookup_laws.specs.Pair.{AnotherKind, OtherKinds, Unjudged, ForwardsAt, forwards-at, NoForwardAt, end_by, end_of, pool_after, GatewayHolds}
use Rattle.lookup_laws.proofs.Routings.{step-valid}
use Rattle.lookup_laws.proofs.Stands.{lookup-at}
use Rattle.lookup_laws.proofs.Taking.{deliver-done, forward-done}
use Rattle.lookup_laws.proofs.Tracks.{dest-in, ready-is, tracked}

-- ---- steps on a message that is judged

module _ (t : Table) (p : Pool) (len place : ℕ) (j : Judged t p len place) where
  abbrev m : Message
  m = message_at p place

  -- what is planned settles
  abbrev settles : (Message → Planned) → Stepped
  settles plan = act_of t p (takes p place plan)

  deliver-is : step_of t p len (Deliver place) ≡ settles (delivered_of t)
  unfolding step_of
  deliver-is = rw (j.sound, lt-ltb place p.count j.waits)

  forward-is : step_of t p len (Forward place) ≡ settles (forwarded_of t)
  unfolding step_of
  forward-is = rw (j.sound, lt-ltb place p.count j.waits)

  take-is : step_of t p len (Take place) ≡ settles (taken_of t)
  unfolding step_of
  take-is = rw (j.sound, lt-ltb place p.count j.waits)

  before-is : take_of t p len place ≡ settles (taken_before t)
  unfolding take_of
  before-is = rw (j.sound, lt-ltb place p.count j.waits)

  -- two that plan the same leave the same, and a plan that is refused changes nothing
  alike : (f g : Message → Planned) → f m ≡ g m → settles f ≡ settles g
  alike f g e = ap (settle t p (remaining p (takes p place f).gone) m.dest) e

  refuses : (f : Message → Planned) → f m ≡ Err no.Partner → settles f ≡ refused_of t p no.Partner
  unfolding settle
  refuses f e = ap (settle t p (remaining p (takes p place f).gone) m.dest) e

  refuses-two : (f : Message → Planned) → f m ≡ Err no.Status → settles f ≡ refused_of t p no.Status
  unfolding settle
  refuses-two f e = ap (settle t p (remaining p (takes p place f).gone) m.dest) e

  -- ---- another kind

  module _ (k : m.kind ≡ 1 → ⊥) where
    other : eqb m.kind 1 ≡ false
    other = ne_eqb m.kind 1 k

    other-kind : AnotherKind t p len place
    unfolding plan_deliver plan_forward
    other-kind =
        record {
          deliver = deliver-is ∙ refuses (delivered_of t) (rw other);
          forward = forward-is ∙ refuses (forwarded_of t) (rw other);
          take = take-is ∙ alike (taken_of t) (taken_before t) (rw other) ∙ sym before-is;
        }

  -- ---- a Lookup

  module _ (k : m.kind ≡ 1) where
    one : eqb m.kind 1 ≡ true
    one = eq-eqb m.kind 1 k

    take-five : step_of t p len (Take place) ≡ refused_of t p no.Partner
    unfolding plan_take
    take-five = take-is ∙ refuses (taken_of t) (rw one)

    two-of-all : status_at t p place ≡ false → AllAre t p len place (refused_of t p no.Status)
    unfolding plan_deliver plan_forward plan_take_lookup
    two-of-all s =
        record {
          deliver = deliver-is ∙ refuses-two (delivered_of t) (rw (one, s));
          forward = forward-is ∙ refuses-two (forwarded_of t) (rw (one, s));
          take = before-is ∙ refuses-two (taken_before t) (rw (one, s));
        }

-- ---- at a ready node

module _ (t : Table) (p : Pool) (place : ℕ) (j : Judged t p 256 place) (k : (message_at p place).kind ≡ 1) (s : status_at t p place ≡ true) where
  v : valid_of t p ≡ true
  v = is-valid t p 256 j.sound

  abbrev d : ℕ
  d = (message_at p place).dest

  abbrev key : ℕ
  key = (message_at p place).word

  at : LookupAt p place key d
  at = lookup-at (sound t p v) place j.waits k

  is-ready : Ready t d
  is-ready = let h = dest-in t p place key d (sound t p v) at in (h, ready-is t d h ∙ s)

  one-done : OneDone t p 256 place (Deliver place) (Forward place) ⊎ OneDone t p 256 place (Forward place) (Deliver place)
  unfolding plan_deliver plan_forward plan_take_lookup
  one-done = go (covers_at t d key) refl
    where
      is : eqb (message_at p place).kind 1 ≡ true
      is = one t p 256 place j k

      go : (b : Bool) → covers_at t d key ≡ b
          → OneDone t p 256 place (Deliver place) (Forward place) ⊎ OneDone t p 256 place (Forward place) (Deliver place)
      go true c =
          inl (record {
            done = deliver-done t p place key d v at is-ready c;
            same = deliver-is t p 256 place j ∙ alike t p 256 place j (delivered_of t) (taken_before t) (rw (is, s, c)) ∙ sym (before-is t p 256 place j);
            refused = forward-is t p 256 place j ∙ refuses t p 256 place j (forwarded_of t) (rw (is, s, c));
          })
      go false c =
          inr (record {
            done = forward-done t p place key d v at is-ready c;
            same = forward-is t p 256 place j ∙ alike t p 256 place j (forwarded_of t) (taken_before t) (rw (is, s, c)) ∙ sym (before-is t p 256 place j);
            refused = deliver-is t p 256 place j ∙ refuses t p 256 place j (delivered_of t) (rw (is, s, c));
          })

-- ---- as stated

places : (t : Table) (p : Pool) (len : ℕ) → is_sound t p len ≡ true → len ≡ 256
unfolding is_sound
places t p len e = eqb-true len 256 (and_left (eqb len 256) (valid_of t p) e)

pub ready-one : ReadyOne
ready-one t p len place j k s = let e = places t p len j.sound in rw e (one-done t p place (rw e at j) k s)

pub others-two : OthersTwo
others-two t p len place j k s = two-of-all t p len place j k s

pub take-refused : TakeFive
take-refused t p len place j k = take-five t p len place j k

pub other-kinds : OtherKinds
other-kinds t p len place j k = other-kind t p len place j k

pub unjudged : Unjudged
unfolding step_of take_of
unjudged t p len place none = go (is_sound t p len) (ltb place p.count) refl refl
  where
    go : (b c : Bool) → is_sound t p len ≡ b → ltb place p.count ≡ c → AllAre t p len place (step_of t p len (Take place))
    go true true e f = absurd (none (record { sound = e; waits = ltb-true place p.count f }))
    go true false e f = record { deliver = rw (e, f); forward = rw (e, f); take = rw (e, f) }
    go false c e f = record { deliver = rw e; forward = rw e; take = rw e }

-- ---- the gateway

-- it waits still in the pool, or was delivered
abbrev Held : Pool → ℕ → ℕ → Message → Fate → Type 0
Held after k d m x = (x ≡ delivered) ⊎ ((r : ℕ) × (x ≡ stays r) × LookupAt after r k d × (message_at after r ≡ m))

pub gateway-holds : GatewayHolds
unfolding NoForwardAt end_of pool_after
gateway-holds t p q k d [] e l f = inr (q, refl, l, refl)
gateway-holds t p q k d (a ∷ acts) e l f =
    go (fate_of t p q a) (tracked t p q k d a e l)
    (λ r w. gateway-holds (stepped t p a).table (stepped t p a).pool r k d acts (step-valid t p a e) w f.1)
  where
    after : Pool
    after = pool_after (stepped t p a).table (stepped t p a).pool acts

    rest : ℕ → Fate
    rest r = end_of (stepped t p a).table (stepped t p a).pool acts r

    -- it would be a Forward at d
    not-forwarded : a ≡ Forward q → ⊥
    not-forwarded b = f.0 (subst (ForwardsAt p d) (sym b) (forwards-at (ap (λ (m : Message). m.dest) l.is)))

    go : (x : Fate) → Tracked t p q k d a x → ((r : ℕ) → LookupAt (stepped t p a).pool r k d → Held after k d (message_at (stepped t p a).pool r) (rest r))
        → Held after k d (message_at p q) (end_by x rest)
    go (stays r) w on = subst (λ (m : Message). Held after k d m (rest r)) w.same (on r w.now)
    go (routed h r) w on = absurd (not-forwarded w.took.act)
    go (met h r) w on = absurd (not-forwarded w.took.act)
    go delivered w on = inl refl
    go unroutable w on = absurd (not-forwarded w.took.act)
