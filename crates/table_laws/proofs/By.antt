-- What a step comes to, in one place. Every action asks something of the node of a slot, or takes the message of a place (Form); and a step
-- is refused and changes nothing (RefusedFor), or is done with a plan (DoneWith). `by-step` is the one eliminator: what holds of every
-- refusal and of every plan carried out holds of every step. Assumes nothing.
use Rattle.rules.specs.Shapes.{Planned, Answer}
use Rattle.std.specs.Prelude.{Ok, Err}
use mathlib.Core.Path.{◌≡◌, refl}
use mathlib.Core.Bool.{Bool, true, false, cond}
use mathlib.Core.List.{List}
use Prim.Native.Nat.{ℕ, ◌<◌, ◌≤◌}
use native.Mathlib.Omega.{arith}
use lib.Dec.{eqb, ltb, leb}
use lib.ListN.{length}
use borrow.Author.Tests.{eqb-true, ltb-true, leb-true, leb-false}
use Rattle.marks.proofs.Bools.{and_left, and_right}
use Rattle.rules.specs.declared.Message.{Message}
use Rattle.rules.specs.declared.Pool.{Pool}
use Rattle.rules.specs.declared.Action.{Action}
use Rattle.rules.specs.declared.Action.TheVariants.{Lookup, Join, RequestLease, LeaseExpired, GrantExpired, Take, Deliver, Forward}
use Rattle.rules.specs.declared.Action.TheVariants.{NodeLeft, SuspectFaulty, ProbeTimeOut, DeclareDead, LSRepair, ResignNode, Recover}
use Rattle.rules.specs.declared.Refusal.{Refusal}
use Rattle.rules.specs.declared.Refusal.TheVariants as no
use Rattle.rules.specs.declared.Plan.{Plan}
use Rattle.plan.specs.Leave.{plan_probe_time_out}
use Rattle.rules.specs.Plans.{mailed}
use Rattle.rules.specs.Pool.{message_at, laid}
use Rattle.table_type.specs.declared.Table.{Table}
use Rattle.table_type.specs.declared.Stepped.{Stepped}
use Rattle.table_type.specs.Table.{node_at, with_node, ring_of}
use Rattle.table.specs.Settle.{refused_of, done_by, carried_out, settle}
use Rattle.step.specs.Step.{one-goes, times_out}
use Rattle.step.specs.Step.{Asked, is_slot, is_key, requests, takes, taken_of, delivered_of, forwarded_of, asked, remaining, planned_of, act_of, is_sound, step_of}
use Rattle.table.specs.Valid.{valid_of}
use Rattle.table_laws.proofs.Obeys.{obeys}
use Rattle.table_laws.proofs.Sound.{Sound, sound, is-valid}

-- ---- what an action asks

-- something of the node of a slot, or of the destination of the message at a place, or of a node whose probes have timed out
pub data Form (t : Table) (p : Pool) : Asked → Type 0 where
  by-slot : {i : ℕ} (more : Bool) {there : Bool} {plan : Bool → Planned} → Form t p (requests t i more there plan)
  by_place : {place : ℕ} (plan : Message → Planned) → Form t p (takes p place plan)
  by-probes : {i j : ℕ} (what : Planned) → Form t p (times_out t i j what)

pub form : (t : Table) (p : Pool) (a : Action) → Form t p (asked t p a)
form t p (Lookup i k) = by-slot (is_key t k)
form t p (Join i seed) = by-slot (is_slot t seed)
form t p (RequestLease i) = by-slot true
form t p (LeaseExpired i j) = by-slot (is_slot t j)
form t p (GrantExpired i j) = by-slot (is_slot t j)
form t p (Take place) = by_place (taken_of t)
form t p (Deliver place) = by_place (delivered_of t)
form t p (Forward place) = by_place (forwarded_of t)
form t p (NodeLeft i) = by-slot true
form t p (SuspectFaulty i j) = by-slot (is_slot t j)
form t p (ProbeTimeOut i j) = by-probes (plan_probe_time_out i (node_at t i) j)
form t p (DeclareDead i j) = by-slot (is_slot t j)
form t p (LSRepair i) = by-slot true
form t p (ResignNode i n) = by-slot (is_slot t n)
form t p (Recover i) = by-slot true

-- a message that goes waits, and the node of its destination acts
module _ (t : Table) (p : Pool) (place : ℕ) where
  form-goes : {x : Asked} → Form t p x → x.gone ≡ one-goes place → (x.range ≡ ltb place p.count) × (x.slot ≡ (message_at p place).dest)
  form-goes (by-slot more) e = absurd (let z : ◌≡◌ {A = ℕ} 0 1 = cc in omega arith)
  form-goes (by_place {place = q} plan) e = let d : q ≡ place = cc in rw d (refl, refl)
  form-goes (by-probes what) e = absurd (let z : ◌≡◌ {A = ℕ} 0 1 = cc in omega arith)

  pub goes : (a : Action) → (asked t p a).gone ≡ one-goes place
      → ((asked t p a).range ≡ ltb place p.count) × ((asked t p a).slot ≡ (message_at p place).dest)
  goes a e = form-goes (form t p a) e

module _ {t : Table} {p : Pool} (s : Sound t p) where
  -- in range, it is for a slot below n
  form-slot : {x : Asked} → Form t p x → x.range ≡ true → x.slot < t.n
  form-slot (by-slot {i = i} more) e = ltb-true i t.n (and_right more _ e)
  form-slot (by_place {place = place} plan) e =
      (obeys (ring_of t) (message_at p place) (s.message place (ltb-true place p.count e))).dest-in
  form-slot (by-probes {i = i} {j = j} what) e = ltb-true i t.n (and_right (is_slot t j) _ e)

  pub slot-in-range : (a : Action) → (asked t p a).range ≡ true → (asked t p a).slot < t.n
  slot-in-range a e = form-slot (form t p a) e

-- ---- what is planned

pub go_same : {x y : Plan} → ◌≡◌ {A = Planned} (Ok x) (Ok y) → y ≡ x
go_same e = cc

pub never-go : {why : Refusal} {y : Plan} → ◌≡◌ {A = Planned} (Err why) (Ok y) → ⊥
never-go e = let z : ◌≡◌ {A = ℕ} 0 1 = cc in omega arith

-- ---- what settles

pub by-settle : (C : Stepped → Type 0) (t : Table) (p : Pool) (ys : List Message) (i : ℕ) (what : Planned)
    → ((why : Refusal) → what ≡ Err why → C (refused_of t p why))
    → ((x : Plan) → what ≡ Ok x → 256 < length (mailed x ys) → C (refused_of t p no.Full))
    → ((x : Plan) → what ≡ Ok x → length (mailed x ys) ≤ 256 → C (done_by x.via (with_node t i x.node) (laid (mailed x ys))))
    → C (settle t p ys i what)
unfolding settle carried_out
by-settle C t p ys i (Err why) refused full done = refused why refl
by-settle C t p ys i (Ok x) refused full done = go (leb (length (mailed x ys)) 256) refl
  where
    go : (b : Bool) → leb (length (mailed x ys)) 256 ≡ b
        → C (cond b (done_by x.via (with_node t i x.node) (laid (mailed x ys))) (refused_of t p no.Full))
    go true e = done x refl (leb-true _ 256 e)
    go false e = full x refl (leb-false _ 256 e)

-- ---- what a step comes to

-- why it is refused
pub data RefusedFor (t : Table) (p : Pool) (len : ℕ) (a : Action) : Refusal → Type 0 where
  invalid : is_sound t p len ≡ false → RefusedFor t p len a no.Invalid
  out_of_range : Sound t p → (asked t p a).range ≡ false → RefusedFor t p len a no.OutOfRange
  forbidden : {why : Refusal} → Sound t p → (asked t p a).range ≡ true → planned_of (asked t p a) ≡ Err why → RefusedFor t p len a why
  full : (x : Plan) → Sound t p → (asked t p a).range ≡ true → planned_of (asked t p a) ≡ Ok x
      → 256 < length (mailed x (remaining p (asked t p a).gone)) → RefusedFor t p len a no.Full

-- by which plan it is done
pub record DoneWith (t : Table) (p : Pool) (len : ℕ) (a : Action) (x : Plan) : Type 0 where
  pub places : len ≡ 256
  pub sound : Sound t p
  pub in-range : (asked t p a).range ≡ true
  pub slot-in : (asked t p a).slot < t.n
  pub plan : planned_of (asked t p a) ≡ Ok x
  pub room : length (mailed x (remaining p (asked t p a).gone)) ≤ 256

-- what the plan leaves
abbrev pub leaves_of : Table → Pool → Action → Plan → Stepped
leaves_of t p a x = done_by x.via (with_node t (asked t p a).slot x.node) (laid (mailed x (remaining p (asked t p a).gone)))

sound-parts : (t : Table) (p : Pool) (len : ℕ) → is_sound t p len ≡ true → (len ≡ 256) × Sound t p
unfolding is_sound
sound-parts t p len e =
    (eqb-true len 256 (and_left (eqb len 256) (valid_of t p) e), sound t p (is-valid t p len e))

pub by-step : (C : Stepped → Type 0) (t : Table) (p : Pool) (len : ℕ) (a : Action)
    → ((why : Refusal) → RefusedFor t p len a why → C (refused_of t p why))
    → ((x : Plan) → DoneWith t p len a x → C (leaves_of t p a x))
    → C (step_of t p len a)
unfolding step_of
by-step C t p len a refused done = valid (is_sound t p len) refl
  where
    ranged : (len ≡ 256) × Sound t p → (b : Bool) → (asked t p a).range ≡ b
        → C (cond b (act_of t p (asked t p a)) (refused_of t p no.OutOfRange))
    ranged s true e =
        by-settle C t p (remaining p (asked t p a).gone) (asked t p a).slot (planned_of (asked t p a))
        (λ why q. refused why (forbidden s.1 e q))
        (λ x q l. refused no.Full (full x s.1 e q l))
        (λ x q l. done x (record {
          places = s.0;
          sound = s.1;
          in-range = e;
          slot-in = slot-in-range s.1 a e;
          plan = q;
          room = l;
        }))
    ranged s false e = refused no.OutOfRange (out_of_range s.1 e)

    valid : (b : Bool) → is_sound t p len ≡ b
        → C (cond b (cond (asked t p a).range (act_of t p (asked t p a)) (refused_of t p no.OutOfRange)) (refused_of t p no.Invalid))
    valid true e = ranged (sound-parts t p len e) (asked t p a).range refl
    valid false e = refused no.Invalid (invalid e)

-- ---- the same, told by the answer

module _ (t : Table) (p : Pool) (len : ℕ) (a : Action) where
  pub step-refused : (why : Refusal) → (step_of t p len a).answer ≡ Err why
      → RefusedFor t p len a why × (step_of t p len a ≡ refused_of t p why)
  step-refused why =
      by-step (λ s. s.answer ≡ Err why → RefusedFor t p len a why × (s ≡ refused_of t p why)) t p len a
      (λ y r e. let d : y ≡ why = cc in rw (← d) (r, refl)) (λ x d e. absurd (never e))
    where
      never : ◌≡◌ {A = Answer} (Ok tt) (Err why) → ⊥
      never e = let z : ◌≡◌ {A = ℕ} 0 1 = cc in omega arith

  pub step-done : (step_of t p len a).answer ≡ Ok tt → (x : Plan) × DoneWith t p len a x × (step_of t p len a ≡ leaves_of t p a x)
  step-done =
      by-step (λ s. s.answer ≡ Ok tt → (x : Plan) × DoneWith t p len a x × (s ≡ leaves_of t p a x)) t p len a
      (λ why r e. absurd (never why e)) (λ x d e. (x, d, refl))
    where
      never : (why : Refusal) → ◌≡◌ {A = Answer} (Err why) (Ok tt) → ⊥
      never why e = let z : ◌≡◌ {A = ℕ} 0 1 = cc in omega arith
