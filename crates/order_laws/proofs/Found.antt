-- For every place of a pool there is one in another with the same messages where the same message waits: a test of equality, every field, is passed
-- in both equally often. So for every action there is the same; and lists with the same messages are made of each other by exchanging neighbours, and
-- the other way. Assumes nothing.
use mathlib.Core.Path.{◌≡◌, refl, sym, ◌∙◌, ap, ap₂}
use mathlib.Core.Logic.{◌⊎◌, inl, inr}
use mathlib.Core.Bool.{Bool, true, false, ◌&&◌}
use mathlib.Core.List.{List, [], ◌∷◌}
use Prim.Native.Nat.{ℕ, zero, suc, ◌+◌, ◌<◌, ◌≤◌}
use native.Mathlib.Omega.{arith}
use borrow.Author.Tests.{eq-eqb, eqb-true}
use lib.Dec.{eqb}
use lib.ListN.{get_or, length}
use Rattle.marks.proofs.Bools.{opposed, and_left, and_right, and_both, lt-or-le}
use Rattle.rules.specs.declared.Action.{Action}
use Rattle.rules.specs.declared.Action.TheVariants.{Lookup, Join, RequestLease, LeaseExpired, GrantExpired, Take, Deliver, Forward}
use Rattle.rules.specs.declared.Action.TheVariants.{NodeLeft, SuspectFaulty, ProbeTimeOut, DeclareDead, LSRepair, ResignNode, Recover}
use Rattle.rules.specs.declared.Message.{Message}
use Rattle.rules.specs.declared.Pool.{Pool}
use Rattle.rules.specs.Mail.{alike, removed_at}
use Rattle.rules.specs.Pool.{blank, waiting}
use Rattle.pool_laws.proofs.Laws.{alike_same, alike_refl, waiting-at, waiting-short}
use Rattle.order_laws.specs.Claims.{SameExactly, ActionFound}
use Rattle.order_laws.specs.Order.{passing, SameMail, Rearranged, nothing, behind, exchanged, again, SamePool}
use Rattle.order_laws.specs.Order.{SamePlace, one-waits, none-waits, NamesPlace, take-names, deliver-names, forward-names, takes, delivers, forwards, other}
use Rattle.order_laws.proofs.Passing.{one, passing-removed, passes, passing-place}
use Rattle.order_laws.proofs.Kept.{same_length, mail-self, mail-on, none-at}

-- ---- the very same message

abbrev same : Message → Message → Bool
same a b = alike a b && eqb a.hops b.hops

same_self : (a : Message) → same a a ≡ true
same_self a = and_both (alike_refl a) (eq-eqb a.hops a.hops refl)

-- a message of its fields, the sixth word apart
of_row : List ℕ → ℕ → Message
of_row r hops =
    record {
      kind = get_or r 1 0;
      dest = get_or r 0 0;
      word = get_or r 2 0;
      flag = get_or r 3 0;
      owner = get_or r 4 0;
      hops = hops;
      routing = get_or r 5 0;
      left = get_or r 6 0;
      right = get_or r 7 0;
      failed = get_or r 8 0;
    }

same-is : (a b : Message) → same a b ≡ true → a ≡ b
unfolding of_row
same-is a b e =
    ap₂ of_row (alike_same a b (and_left (alike a b) (eqb a.hops b.hops) e))
    (eqb-true a.hops b.hops (and_right (alike a b) (eqb a.hops b.hops) e))

-- ---- its place

pub message-found : {xs ys : List Message} → SameMail xs ys → (r : ℕ) → r < length xs → (s : ℕ) × (s < length ys) × (get_or xs r blank ≡ get_or ys s blank)
message-found {xs} {ys} h r l =
    let m = get_or xs r blank in
    let some : 0 < passing (same m) ys = omega (arith, passes (same m) xs r l (same_self m), h.tested (same m)) in
    let found = passing-place (same m) ys some in
    (found.0, found.1, same-is m (get_or ys found.0 blank) found.2)

module _ {p q : Pool} (k : SamePool p q) where
  place_found : (r : ℕ) → (s : ℕ) × SamePlace p q r s
  place_found r = go (lt-or-le r p.count) (lt-or-le r (length (waiting p)))
    where
      go : (r < p.count) ⊎ (p.count ≤ r) → (r < length (waiting p)) ⊎ (length (waiting p) ≤ r) → (s : ℕ) × SamePlace p q r s
      go (inl l) (inl h) =
          let found = message-found k.mail r h in
          let low : found.0 < q.count = omega (arith, found.1, waiting-short q) in
          (found.0, one-waits l low (sym (waiting-at p r l) ∙ found.2 ∙ waiting-at q found.0 low))
      go (inl l) (inr h) =
          let low : r < q.count = omega (arith, k.counted) in
          (r, one-waits l low (none-at p r l h ∙ sym (none-at q r low (omega (arith, same_length k.mail)))))
      go (inr l) h = (r, none-waits l (omega (arith, k.counted)))

-- an action that names a place is a Take, a Deliver or a Forward
abbrev named : Action → Bool
named (Lookup i k) = false
named (Join i seed) = false
named (RequestLease i) = false
named (LeaseExpired i j) = false
named (GrantExpired i j) = false
named (Take place) = true
named (Deliver place) = true
named (Forward place) = true
named (NodeLeft i) = false
named (SuspectFaulty i j) = false
named (ProbeTimeOut i j) = false
named (DeclareDead i j) = false
named (LSRepair i) = false
named (ResignNode i n) = false
named (Recover i) = false

names-named : (a : Action) → NamesPlace a → named a ≡ true
names-named (Take place) take-names = refl
names-named (Deliver place) deliver-names = refl
names-named (Forward place) forward-names = refl
names-named (Lookup _ _) named-place = elim named-place [ ]
names-named (Join _ _) named-place = elim named-place [ ]
names-named (RequestLease _) named-place = elim named-place [ ]
names-named (LeaseExpired _ _) named-place = elim named-place [ ]
names-named (GrantExpired _ _) named-place = elim named-place [ ]
names-named (NodeLeft _) named-place = elim named-place [ ]
names-named (SuspectFaulty _ _) named-place = elim named-place [ ]
names-named (ProbeTimeOut _ _) named-place = elim named-place [ ]
names-named (DeclareDead _ _) named-place = elim named-place [ ]
names-named (LSRepair _) named-place = elim named-place [ ]
names-named (ResignNode _ _) named-place = elim named-place [ ]
names-named (Recover _) named-place = elim named-place [ ]

placeless : (a : Action) → named a ≡ false → NamesPlace a → ⊥
placeless a e n = opposed (names-named a n) e

pub action-found : ActionFound
action-found p q (Lookup i k) s = (Lookup i k, other (placeless (Lookup i k) refl))
action-found p q (Join i seed) s = (Join i seed, other (placeless (Join i seed) refl))
action-found p q (RequestLease i) s = (RequestLease i, other (placeless (RequestLease i) refl))
action-found p q (LeaseExpired i j) s = (LeaseExpired i j, other (placeless (LeaseExpired i j) refl))
action-found p q (GrantExpired i j) s = (GrantExpired i j, other (placeless (GrantExpired i j) refl))
action-found p q (Take r) s = let found = place_found s r in (Take found.0, takes found.1)
action-found p q (Deliver r) s = let found = place_found s r in (Deliver found.0, delivers found.1)
action-found p q (Forward r) s = let found = place_found s r in (Forward found.0, forwards found.1)
action-found p q (NodeLeft i) s = (NodeLeft i, other (placeless (NodeLeft i) refl))
action-found p q (SuspectFaulty i j) s = (SuspectFaulty i j, other (placeless (SuspectFaulty i j) refl))
action-found p q (ProbeTimeOut i j) s = (ProbeTimeOut i j, other (placeless (ProbeTimeOut i j) refl))
action-found p q (DeclareDead i j) s = (DeclareDead i j, other (placeless (DeclareDead i j) refl))
action-found p q (LSRepair i) s = (LSRepair i, other (placeless (LSRepair i) refl))
action-found p q (ResignNode i n) s = (ResignNode i n, other (placeless (ResignNode i n) refl))
action-found p q (Recover i) s = (Recover i, other (placeless (Recover i) refl))

-- ---- exchanging neighbours

rearranged-same : {xs ys : List Message} → Rearranged xs ys → SameMail xs ys
unfolding passing
rearranged-same nothing = mail-self []
rearranged-same (behind {x = x} h) = record { tested = λ f. ap (λ (n : ℕ). one (f x) + n) ((rearranged-same h).tested f) }
rearranged-same (exchanged {x = x} {y = y} {xs = xs}) = record { tested = λ f. omega arith }
rearranged-same (again h k) = mail-on (rearranged-same h) (rearranged-same k)

rearranged-self : (xs : List Message) → Rearranged xs xs
rearranged-self [] = nothing
rearranged-self (x ∷ xs) = behind (rearranged-self xs)

-- a message taken to the front
to_front : (m : Message) (xs : List Message) (i : ℕ) → i < length xs → m ≡ get_or xs i blank → Rearranged (m ∷ removed_at xs i) xs
unfolding removed_at
to_front m [] i h e = absurd (omega arith)
to_front m (x ∷ xs) zero h e = rw e (rearranged-self (x ∷ xs))
to_front m (x ∷ xs) (suc i) h e = again exchanged (behind (to_front m xs i (omega arith) e))

none_left : (ys : List Message) → length ys ≡ 0 → Rearranged [] ys
none_left [] e = nothing
none_left (y ∷ ys) e = absurd (omega arith)

same-rearranged : (xs ys : List Message) → SameMail xs ys → Rearranged xs ys
unfolding passing
same-rearranged [] ys h = none_left ys (sym (same_length h))
same-rearranged (x ∷ xs) ys h = again (behind (same-rearranged xs (removed_at ys i) rest)) front
  where
    found : (s : ℕ) × (s < length ys) × (get_or (x ∷ xs) 0 blank ≡ get_or ys s blank)
    found = message-found h 0 (omega arith)

    i : ℕ
    i = found.0

    front : Rearranged (x ∷ removed_at ys i) ys
    front = to_front x ys i found.1 found.2

    rest : SameMail xs (removed_at ys i)
    rest = record { tested = λ f. less f }
      where
        less : (f : Message → Bool) → passing f xs ≡ passing f (removed_at ys i)
        less f =
            let d : one (f x) ≡ one (f (get_or ys i blank)) = ap (λ (m : Message). one (f m)) found.2 in
            omega (arith, d, h.tested f, passing-removed f ys i found.1)

pub same-exactly : SameExactly
same-exactly xs ys = (same-rearranged xs ys, rearranged-same)
