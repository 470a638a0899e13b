-- A step on two pools with the same messages. The same actions ask for the same of them (SameAsked), and what is planned is carried out alike; a table
-- is valid with the one exactly if it is with the other. Then any number of steps, the same actions found for any, and a search. Assumes nothing.
use Rattle.rules.specs.Shapes.{Planned}
use Rattle.std.specs.Prelude.{Ok, Err}
use mathlib.Core.Path.{◌≡◌, refl, sym, ◌∙◌, ap}
use mathlib.Core.Bool.{Bool, true, false, cond}
use mathlib.Core.List.{List, [], ◌∷◌}
use Prim.Native.Nat.{ℕ}
use borrow.Author.Tests.{lt-ltb, le-ltb}
use lib.Dec.{leb, ltb}
use Rattle.marks.proofs.Bools.{clash}
use Rattle.rules.specs.declared.Action.{Action}
use Rattle.rules.specs.declared.Action.TheVariants.{Lookup, Join, RequestLease, LeaseExpired, GrantExpired, Take, Deliver, Forward}
use Rattle.rules.specs.declared.Action.TheVariants.{NodeLeft, SuspectFaulty, ProbeTimeOut, DeclareDead, LSRepair, ResignNode, Recover}
use Rattle.rules.specs.declared.Message.{Message}
use Rattle.rules.specs.declared.Pool.{Pool}
use Rattle.rules.specs.declared.Refusal.{Refusal}
use Rattle.rules.specs.declared.Refusal.TheVariants as no
use Rattle.rules.specs.Letters.{lookup}
use Rattle.rules.specs.Nodes.{placed}
use Rattle.rules.specs.Plans.{mailed}
use Rattle.rules.specs.Pool.{laid}
use Rattle.table_type.specs.declared.Stepped.{Stepped}
use Rattle.table_type.specs.declared.Table.{Table}
use Rattle.table_type.specs.Table.{with_node}
use Rattle.table.specs.Settle.{refused_of, done_by, carried_out, settle}
use Rattle.step.specs.Step.{Asked, all_stay, takes, taken_of, delivered_of, forwarded_of, asked, remaining, planned_of, act_of, is_sound, step_of}
use Rattle.table_laws.proofs.Numbers.{taken-waits}
use Rattle.table_laws.proofs.Proved.{refusal-keeps}
use Rattle.table_laws.proofs.Sound.{Sound, sound, is-valid}
use Rattle.pool_laws.proofs.Laws.{waiting-at}
use Rattle.order_laws.specs.Order.{SameMail, SamePool, SamePlace, one-waits, none-waits, NamesPlace, take-names}
use Rattle.order_laws.specs.Order.{deliver-names, forward-names, SameAction, SameStep, steps_of, SameSteps, Met}
use Rattle.order_laws.specs.Order as order
use Rattle.order_laws.specs.Claims.{OrderNoAccount, BothLeft, AlongActions, ActionsFound, SearchesAgree}
use Rattle.order_laws.proofs.Found.{action-found}
use Rattle.order_laws.proofs.Kept.{pool-back, pool-on, same_length, waits-same, join-waits-same, reply-waits-same, sound-same}
use Rattle.order_laws.proofs.Kept.{kept-removed, kept-probes, kept-mailed, kept-laid}

-- ---- what is asked

-- in range of both or of neither; and where it is in range the same slot and plan, and the same messages left
pub record SameAsked (p q : Pool) (x y : Asked) : Type 0 where
  pub range : x.range ≡ y.range
  pub slot : x.range ≡ true → x.slot ≡ y.slot
  pub planned : x.range ≡ true → planned_of x ≡ planned_of y
  pub left : x.range ≡ true → SameMail (remaining p x.gone) (remaining q y.gone)

module _ (t : Table) {p q : Pool} (s : SamePool p q) where
  asks : (range : Bool) (i : ℕ) (there also : Bool) (plan : Bool → Planned) → there ≡ also
      → SameAsked p q (record { range = range; gone = all_stay; slot = i; repeated = there; plan = plan })
      (record { range = range; gone = all_stay; slot = i; repeated = also; plan = plan })
  asks range i there also plan e = record { range = refl; slot = λ r. refl; planned = λ r. ap plan e; left = λ r. s.mail }

  alone : (x : Asked) → x.gone ≡ all_stay → SameAsked p q x x
  alone x e = record { range = refl; slot = λ r. refl; planned = λ r. refl; left = λ r. rw e s.mail }

  module _ (v : Sound t p) (w : Sound t q) where
    taken : (r k : ℕ) (plan : Message → Planned) → SamePlace p q r k → SameAsked p q (takes p r plan) (takes q k plan)
    taken r k plan (one-waits i j e) =
        record {
          range = lt-ltb r p.count i ∙ sym (lt-ltb k q.count j);
          slot = λ d. ap (λ (m : Message). m.dest) e;
          planned = λ d. ap plan e;
          left = λ d. kept-removed s.mail r k (taken-waits v r i) (taken-waits w k j) (waiting-at p r i ∙ e ∙ sym (waiting-at q k j));
        }
    taken r k plan (none-waits i j) =
        record {
          range = le-ltb r p.count i ∙ sym (le-ltb k q.count j);
          slot = λ d. absurd (never d);
          planned = λ d. absurd (never d);
          left = λ d. absurd (never d);
        }
      where
        never : ltb r p.count ≡ true → ⊥
        never d = clash (sym d ∙ le-ltb r p.count i)

    asked-other : (a : Action) → (NamesPlace a → ⊥) → SameAsked p q (asked t p a) (asked t q a)
    asked-other (Lookup i k) e = asks _ i _ _ _ (waits-same s.mail (placed (lookup k) i))
    asked-other (Join i seed) e = asks _ i _ _ _ (join-waits-same s.mail i)
    asked-other (RequestLease i) e = alone _ refl
    asked-other (LeaseExpired i j) e = alone _ refl
    asked-other (GrantExpired i j) e = alone _ refl
    asked-other (Take place) e = absurd (e take-names)
    asked-other (Deliver place) e = absurd (e deliver-names)
    asked-other (Forward place) e = absurd (e forward-names)
    asked-other (NodeLeft i) e = alone _ refl
    asked-other (SuspectFaulty i j) e = alone _ refl
    asked-other (ProbeTimeOut i j) e = record { range = refl; slot = λ r. refl; planned = λ r. refl; left = λ r. kept-probes s.mail i j }
    asked-other (DeclareDead i j) e = alone _ refl
    asked-other (LSRepair i) e = alone _ refl
    asked-other (ResignNode i n) e = asks _ i _ _ _ (reply-waits-same s.mail i)
    asked-other (Recover i) e = alone _ refl

    asked-same : {a b : Action} → SameAction p q a b → SameAsked p q (asked t p a) (asked t q b)
    asked-same (order.takes {r = r} {s = k} h) = taken r k (taken_of t) h
    asked-same (order.delivers {r = r} {s = k} h) = taken r k (delivered_of t) h
    asked-same (order.forwards {r = r} {s = k} h) = taken r k (forwarded_of t) h
    asked-same (order.other {a = a} e) = asked-other a e

-- ---- what settles

module _ (t : Table) {p q : Pool} (s : SamePool p q) where
  refused-same : (why : Refusal) → SameStep (refused_of t p why) (refused_of t q why)
  refused-same why = record { answer = refl; via = refl; table = refl; pool = s }

  settled_same : {xs ys : List Message} → SameMail xs ys → (i : ℕ) (what : Planned) → SameStep (settle t p xs i what) (settle t q ys i what)
  unfolding settle carried_out
  settled_same h i (Err why) = refused-same why
  settled_same {xs} {ys} h i (Ok x) = go _ _ (ap (λ (n : ℕ). leb n 256) (same_length (kept-mailed h x)))
    where
      done : List Message → Stepped
      done zs = done_by x.via (with_node t i x.node) (laid zs)

      fits : (b : Bool) → SameStep (cond b (done (mailed x xs)) (refused_of t p no.Full)) (cond b (done (mailed x ys)) (refused_of t q no.Full))
      fits true = record { answer = refl; via = refl; table = refl; pool = kept-laid (kept-mailed h x) }
      fits false = refused-same no.Full

      go : (b c : Bool) → b ≡ c → SameStep (cond b (done (mailed x xs)) (refused_of t p no.Full)) (cond c (done (mailed x ys)) (refused_of t q no.Full))
      go b c e = rw (← e) (fits b)

-- ---- the step

pub step_same : OrderNoAccount
unfolding step_of
step_same t p q len a b s n = valid _ _ refl (sound-same s t len)
  where
    acted : (x y : Asked) → SameAsked p q x y → x.range ≡ true → SameStep (act_of t p x) (act_of t q y)
    acted x y k e = rw (← k.slot e, ← k.planned e) (settled_same t s (k.left e) x.slot (planned_of x))

    ranged : (x y : Asked) → SameAsked p q x y → (b : Bool) → x.range ≡ b
        → SameStep (cond b (act_of t p x) (refused_of t p no.OutOfRange)) (cond b (act_of t q y) (refused_of t q no.OutOfRange))
    ranged x y k true e = acted x y k e
    ranged x y k false e = refused-same t s no.OutOfRange

    both : (x y : Asked) → SameAsked p q x y
        → SameStep (cond x.range (act_of t p x) (refused_of t p no.OutOfRange)) (cond y.range (act_of t q y) (refused_of t q no.OutOfRange))
    both x y k = rw (← k.range) (ranged x y k x.range refl)

    judged : (c : Bool) → is_sound t p len ≡ c
        → SameStep (cond c (cond (asked t p a).range (act_of t p (asked t p a)) (refused_of t p no.OutOfRange)) (refused_of t p no.Invalid))
        (cond c (cond (asked t q b).range (act_of t q (asked t q b)) (refused_of t q no.OutOfRange)) (refused_of t q no.Invalid))
    judged true e =
        both (asked t p a) (asked t q b)
        (asked-same t s (sound t p (is-valid t p len e)) (sound t q (is-valid t q len (sym (sound-same s t len) ∙ e))) n)
    judged false e = refused-same t s no.Invalid

    valid : (c d : Bool) → is_sound t p len ≡ c → c ≡ d
        → SameStep (cond c (cond (asked t p a).range (act_of t p (asked t p a)) (refused_of t p no.OutOfRange)) (refused_of t p no.Invalid))
        (cond d (cond (asked t q b).range (act_of t q (asked t q b)) (refused_of t q no.OutOfRange)) (refused_of t q no.Invalid))
    valid c d e f = rw (← f) (judged c e)

-- ---- many steps

pub both_left : BothLeft
both_left t p q len a b why s n e = (
  ap (λ (x : Stepped). x.pool) (refusal-keeps t p len a why e),
  ap (λ (x : Stepped). x.pool) (refusal-keeps t q len b why (sym (step_same t p q len a b s n).answer ∙ e)),
)

pub along-actions : AlongActions
unfolding steps_of
along-actions len t p q acts others s order.no-actions = order.no_steps
along-actions len t p q (a ∷ acts) (b ∷ others) s (order.and-actions n rest) =
    let k = step_same t p q len a b s n in
    let u = (step_of t p len a).table in
    let o = (step_of t p len a).pool in
    let r = (step_of t q len b).pool in
    let more : SameSteps (steps_of u o len acts) (steps_of (step_of t q len b).table r len others) =
    rw (← k.table) (along-actions len u o r acts others k.pool rest) in
    order.and-steps k more

pub actions-found : ActionsFound
actions-found len t p q [] s = ([], order.no-actions)
actions-found len t p q (a ∷ acts) s =
    let b = action-found p q a s in
    let k = step_same t p q len a b.0 s b.1 in
    let rest = actions-found len (step_of t p len a).table (step_of t p len a).pool (step_of t q len b.0).pool acts k.pool in
    (b.0 ∷ rest.0, order.and-actions b.1 rest.1)

-- ---- a search

pub searches-agree : SearchesAgree
searches-agree len one other t p f g u r order.begun = (other p, order.begun, pool-on (pool-back (f p)) (g p))
searches-agree len one other t p f g u r (order.stepped {u = v} {r = o} a h) =
    let there = searches-agree len one other t p f g v o h in
    let b = action-found o there.0 a there.2 in
    let k = step_same v o there.0 len a b.0 there.2 b.1 in
    let after = (step_of v there.0 len b.0).pool in
    let met : Met len other t p (step_of v o len a).table (other after) = rw k.table (order.stepped b.0 there.1) in
    (other after, met, pool-on (pool-back (f (step_of v o len a).pool)) (pool-on k.pool (g after)))
