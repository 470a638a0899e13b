-- What each reply says of the table and the key. The idea: the tests of Holder are followed once, in their order (`says`), and the reply
-- tells which; in a settled table a slot is found (Cover), so no key is turned away at the end. Assumes nothing.
use mathlib.Core.Path.{◌≡◌, refl, subst}
use mathlib.Core.Bool.{Bool, true, false, cond}
use Prim.Native.Nat.{ℕ, ◌^◌, ◌<◌, ◌≤◌}
use lib.Dec.{ltb}
use borrow.Author.Tests.{lt-ltb, le-ltb, ltb-true, ltb-false}
use Rattle.rules.specs.declared.Pool.{Pool}
use Rattle.rules.specs.declared.Refusal.TheVariants as no
use Rattle.table_type.specs.declared.Table.{Table}
use Rattle.table.specs.Settled.{is_settled}
use Rattle.step.specs.Step.{is_sound}
use Rattle.table_laws.proofs.Sound.{is-valid}
use Rattle.std.specs.Prelude.{Ok, Err, Some}
use Rattle.holder.specs.declared.Unheld.TheVariants.{NotAsked, OutOfRange, Unsettled}
use Rattle.holder.specs.Holder.{Holding}
use Rattle.holder.specs.Holder.{covered_by, copies_of, held_at, holding_of}
use Rattle.holder.specs.Claims.{SettledKey, EveryKeyHeld, HeldByCover, HeldOnly, NotAskedExactly, OutExactly, UnsettledExactly}
use Rattle.holder.proofs.Cover.{covered, covered-holds}
use Rattle.holder.proofs.Beside.{copies}

-- what a reply says
abbrev Says : Table → Pool → ℕ → ℕ → Holding → Type 0
Says t p len k (Err (NotAsked why)) = (why ≡ no.Invalid) × (is_sound t p len ≡ false)
Says t p len k (Err OutOfRange) = (is_sound t p len ≡ true) × (2 ^ t.m ≤ k)
Says t p len k (Err Unsettled) = (is_sound t p len ≡ true) × (k < 2 ^ t.m) × (is_settled t ≡ false)
Says t p len k (Ok held) = SettledKey t p len k × (covered_by t k ≡ Some held.slot) × (held.copies ≡ copies_of t held.slot)

module _ (t : Table) (p : Pool) (len k : ℕ) where
  found : SettledKey t p len k → (h : ℕ) × (covered_by t k ≡ Some h)
  found a = covered t p k (is-valid t p len a.sound) a.settled a.key

  says : Says t p len k (holding_of t p len k)
  unfolding holding_of
  says = go (is_sound t p len) refl (ltb k (2 ^ t.m)) refl (is_settled t) refl
    where
      go : (a : Bool) → is_sound t p len ≡ a → (b : Bool) → ltb k (2 ^ t.m) ≡ b → (c : Bool) → is_settled t ≡ c
          → Says t p len k (cond a (cond b (cond c (held_at t (covered_by t k)) (Err Unsettled)) (Err OutOfRange)) (Err (NotAsked no.Invalid)))
      go false e b f c g = (refl, e)
      go true e false f c g = (e, ltb-false k (2 ^ t.m) f)
      go true e true f false g = (e, ltb-true k (2 ^ t.m) f, g)
      go true e true f true g =
          let a : SettledKey t p len k = record { sound = e; key = ltb-true k (2 ^ t.m) f; settled = g } in
          let (h, d) = found a in
          rw d (a, d, refl)

  said : (x : Holding) → holding_of t p len k ≡ x → Says t p len k x
  said x e = subst (Says t p len k) e says

-- ---- the statements of Holds

pub every-key-held : EveryKeyHeld
unfolding holding_of
every-key-held t p len k e hk s =
    let (h, d) = found t p len k (record { sound = e; key = hk; settled = s }) in
    (h, copies_of t h, rw (e, lt-ltb k (2 ^ t.m) hk, s, d))

pub held-by-cover : HeldByCover
held-by-cover t p len k h c e =
    let (a, d, same) = said t p len k (Ok (record { slot = h; copies = c })) e in
    let v = is-valid t p len a.sound in
    let holds = covered-holds t p k v a.settled a.key h d in
    (holds, rw same (copies t p v a.settled h holds.nearest.ready))

pub held-only : HeldOnly
held-only t p len k h c e = (said t p len k (Ok (record { slot = h; copies = c })) e).0

pub not-asked-exactly : NotAskedExactly
unfolding holding_of
not-asked-exactly t p len k why = (said t p len k (Err (NotAsked why)), λ (same, e). rw (e, same))

pub out-exactly : OutExactly
unfolding holding_of
out-exactly t p len k = (said t p len k (Err OutOfRange), λ (e, high). rw (e, le-ltb k (2 ^ t.m) high))

pub unsettled-exactly : UnsettledExactly
unfolding holding_of
unsettled-exactly t p len k = (said t p len k (Err Unsettled), λ (e, hk, s). rw (e, lt-ltb k (2 ^ t.m) hk, s))
