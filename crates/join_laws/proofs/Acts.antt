-- Every plan is good: one law for each action, and for Take one for each kind. Assumes nothing.
use Rattle.rules.specs.Shapes.{Planned}
use Rattle.std.specs.Prelude.{Ok, Err}
use mathlib.Core.Path.{◌≡◌, refl, ap}
use mathlib.Core.Logic.{inl, inr}
use mathlib.Core.Bool.{Bool, true, false}
use Prim.Native.Nat.{ℕ, ◌<◌}
use native.Mathlib.Omega.{arith}
use lib.Dec.{ltb}
use borrow.Author.Tests.{ltb-true}
use Rattle.marks.proofs.Bools.{and_left}
use Rattle.rules.specs.declared.Status.TheVariants as status
use Rattle.rules.specs.declared.Node.{Node}
use Rattle.rules.specs.declared.Message.{Message}
use Rattle.rules.specs.declared.Pool.{Pool}
use Rattle.rules.specs.declared.Refusal.{Refusal}
use Rattle.rules.specs.declared.Plan.{Plan}
use Rattle.rules.specs.declared.Action.{Action}
use Rattle.rules.specs.declared.Action.TheVariants.{Lookup, Join, RequestLease, LeaseExpired, GrantExpired, Take, Deliver, Forward}
use Rattle.rules.specs.declared.Action.TheVariants.{NodeLeft, SuspectFaulty, ProbeTimeOut, DeclareDead, LSRepair, ResignNode, Recover}
use Rattle.rules.specs.Mail.{waits, join_waits, reply_waits}
use Rattle.plan.specs.Actions.{plan_join}
use Rattle.rules.specs.Fits.{has_leaf}
use Rattle.rules.specs.Letters.{lookup, join_request}
use Rattle.rules.specs.Nodes.{placed}
use Rattle.rules.specs.Plans.{is_wait, with_status}
use Rattle.rules.specs.Pool.{waiting, message_at}
use Rattle.take.specs.Take.{plan_take}
use Rattle.table_type.specs.declared.Table.{Table}
use Rattle.table.specs.Settled.{dead_set, some_up}
use Rattle.step.specs.Step.{asked, planned_of}
use Rattle.table_type.specs.Table.{node_at, ring_of}
use Rattle.table_laws.proofs.Nodes.{node-rules}
use Rattle.table_laws.proofs.Obeys.{Obeys, obeys}
use Rattle.table_laws.proofs.Sound.{Sound}
use Rattle.table_laws.proofs.By.{slot-in-range}
use Rattle.table_laws.proofs.Comes.{Comes, says-no, goes, go-comes, by-take}
use Rattle.join_laws.specs.Clauses.{View, view_of, Calm, Fair, Clauses}
use Rattle.join_laws.proofs.Good.{Fitting, Good, sends-one}
use Rattle.join_laws.specs.Claims.{NoneWaits, Barred, leaves, times-out}
use Rattle.join_laws.proofs.Lasting.{ready_up, lookup-good, request-lease-good, lease-expired-good, grant-expired-good}
use Rattle.join_laws.proofs.Lasting.{deliver-good, forward-lookup-good, take-lease-request-good}
use Rattle.join_laws.proofs.Request.{take-join-request-good}
use Rattle.join_laws.proofs.Reply.{take-join-reply-good}
use Rattle.join_laws.proofs.Probe.{take-probe-good, take-probe-reply-good}
use Rattle.join_laws.proofs.Broadcast.{take-broadcast-good}
use Rattle.join_laws.proofs.Departs.{suspect-faulty-good, declare-dead-good, repair-good, resign-good, recover-good}
use Rattle.join_laws.proofs.Moves.{join-passes, join-calm}
use Rattle.join_laws.proofs.Written.{put_at, put_written, up-alive, passes-fair}
use Rattle.join_laws.proofs.Told.{told-join}

-- ---- Join

module _ (t : View) (i : ℕ) (c : Calm t) (h : i < t.ring.n) (none : (s : ℕ) → s < t.ring.n → is_wait (t.at s).status ≡ false) where
  join-good : (waiting : Bool) (seed : ℕ) → seed < t.ring.n → (x : Plan) → plan_join waiting i (t.at i) seed (t.at seed) ≡ Ok x
      → Good t i x
  join-good waiting seed hs x e =
      let (ready, empty, same) = told-join waiting i (t.at i) seed (t.at seed) x e in
      let w = with_status (t.at i) status.Wait in
      let r = put_written t.at i w in
      rw same
      (record {
        calm = join-calm t.ring t.ids t.at (put_at t.at i w) i r none empty c;
        stays = passes-fair (join-passes t.ring t.ids t.at (put_at t.at i w) i r none empty);
        sends = sends-one w (join_request i 0) seed
            (record {
              request = λ q. inl (h, ap (λ (z : Node). is_wait z.status) r.here);
              reply = λ q. absurd (omega arith);
              probe = λ q. absurd (omega arith);
              answer = λ q. absurd (omega arith);
              broadcast = λ q. absurd (omega arith);
            });
        stands = inr (seed, (hs, up-alive (t.at seed).status (ready_up (t.at seed).status ready)));
      })

-- ---- Take, by kind

comes : {P : Plan → Type 0} (what : Planned) → ((x : Plan) → what ≡ Ok x → P x) → Comes (λ (why : Refusal). Unit {0}) P what
comes (Err why) f = says-no tt
comes (Ok x) f = goes (f x refl)

take-good : (t : View) (dead : ℕ) (m : Message) → Calm t → Fitting t → Obeys t.ring m → Fair t m → (x : Plan)
    → plan_take m.kind t.ring t.ids dead m.dest (t.at m.dest) m ≡ Ok x → Good t m.dest x
take-good t dead m c f o fair x e =
    let i = m.dest in
    let h = o.dest-in in
    go-comes (by-take m.kind t.ring t.ids dead i (t.at i) m o.kind-low o.kind-high
    (λ k. tt)
    (λ k. comes _ (take-join-request-good t i c f h dead m.word m.routing (fair.request k)))
    (λ k. comes _ (take-join-reply-good t i m c f h (fair.reply k)))
    (λ k. comes _ (take-probe-good t i c f h m (fair.probe k)))
    (λ k. comes _ (take-probe-reply-good t i c f h m (fair.answer k)))
    (λ k. tt)
    (λ k. comes _ (take-lease-request-good t i c h f m.word))
    (λ k. comes _ (take-broadcast-good t i c f h m (o.owner-in (ap has_leaf k)) (fair.broadcast k)))) x e

-- ---- by action

pub fitting : {t : Table} {p : Pool} → Sound t p → Fitting (view_of t)
fitting {t} s = record { listed = s.listed; one = s.numbers.l-low; rules = λ i h. node-rules (ring_of t) i (node_at t i) (s.node i h) }

module _ {t : Table} {p : Pool} (s : Sound t p) (c : Clauses t p) where
  pub planned-good : (a : Action) → (asked t p a).range ≡ true → (Barred a → ⊥) → ((i seed : ℕ) → a ≡ Join i seed → NoneWaits t)
      → (x : Plan)
      → planned_of (asked t p a) ≡ Ok x → Good (view_of t) (asked t p a).slot x
  planned-good (Lookup i k) e stay none =
      lookup-good (view_of t) i c.nodes (slot-in-range s (Lookup i k) e) (waits (waiting p) (placed (lookup k) i)) k
  planned-good (Join i seed) e stay none =
      join-good (view_of t) i c.nodes (slot-in-range s (Join i seed) e) (none i seed refl) (join_waits (waiting p) i) seed
      (ltb-true seed t.n (and_left (ltb seed t.n) _ e))
  planned-good (RequestLease i) e stay none = request-lease-good (view_of t) i c.nodes (slot-in-range s (RequestLease i) e)
  planned-good (LeaseExpired i j) e stay none = lease-expired-good (view_of t) i c.nodes (slot-in-range s (LeaseExpired i j) e) j
  planned-good (GrantExpired i j) e stay none = grant-expired-good (view_of t) i c.nodes (slot-in-range s (GrantExpired i j) e) j j
  planned-good (Take place) e stay none =
      let h = ltb-true place p.count e in
      let m = message_at p place in
      take-good (view_of t) (dead_set t) m c.nodes (fitting s) (obeys (ring_of t) m (s.message place h)) (c.mail place h)
  planned-good (Deliver place) e stay none =
      let m = message_at p place in
      deliver-good (view_of t) m.dest c.nodes (slot-in-range s (Deliver place) e) m.kind m.word
  planned-good (Forward place) e stay none =
      let m = message_at p place in
      forward-lookup-good (view_of t) m.dest c.nodes (slot-in-range s (Forward place) e) m.kind (dead_set t) m.word m.hops
  planned-good (NodeLeft i) e stay none = absurd (stay leaves)
  planned-good (SuspectFaulty i j) e stay none = suspect-faulty-good (view_of t) i c.nodes (fitting s) (slot-in-range s (SuspectFaulty i j) e) j
  planned-good (ProbeTimeOut i j) e stay none = absurd (stay times-out)
  planned-good (DeclareDead i j) e stay none = declare-dead-good (view_of t) i c.nodes (fitting s) (slot-in-range s (DeclareDead i j) e) j
  planned-good (LSRepair i) e stay none = repair-good (view_of t) i c.nodes (fitting s) (slot-in-range s (LSRepair i) e)
  planned-good (ResignNode i n) e stay none =
      resign-good (view_of t) i c.nodes (fitting s) (slot-in-range s (ResignNode i n) e) (reply_waits (waiting p) i) n
      (ltb-true n t.n (and_left (ltb n t.n) _ e))
  planned-good (Recover i) e stay none = recover-good (view_of t) i c.nodes (fitting s) (slot-in-range s (Recover i) e) (some_up t)
