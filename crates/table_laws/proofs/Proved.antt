-- What every step keeps, proved. A done step writes one node by a fine plan, so the ids stay and the node obeys its rules; what waits
-- afterwards is what waited, less the message taken, and what the plan added where no equal waits. And a step that routes nothing says so. Assumes nothing.
use mathlib.Core.Path.{◌≡◌, refl, ap}
use mathlib.Core.Logic.{◌⊎◌, inl, inr}
use mathlib.Core.Bool.{true}
use mathlib.Core.List.{List}
use Prim.Native.Nat.{ℕ, ◌^◌, ◌<◌, ◌≤◌}
use native.Mathlib.Omega.{arith}
use lib.ListN.{length}
use lib.Seq.{set_out, get_or-set_same, get_or-set_other, map-set_same}
use borrow.Author.Tests.{ltb-true}
use Rattle.marks.proofs.Bools.{and_left, lt-or-le, eq-or-ne}
use Rattle.rules.specs.declared.Node.{Node}
use Rattle.rules.specs.declared.Message.{Message}
use Rattle.rules.specs.declared.Pool.{Pool}
use Rattle.rules.specs.declared.Plan.{Plan}
use Rattle.rules.specs.declared.Action.{Action}
use Rattle.rules.specs.declared.Action.TheVariants.{Lookup, Join, RequestLease, LeaseExpired, GrantExpired, Take, Deliver, Forward}
use Rattle.rules.specs.declared.Action.TheVariants.{NodeLeft, SuspectFaulty, ProbeTimeOut, DeclareDead, LSRepair, ResignNode, Recover}
use Rattle.rules.specs.declared.Via.TheVariants.{Unrouted}
use Rattle.rules.specs.Mail.{waits, join_waits, without_probes, reply_waits, removed_at}
use Rattle.rules.specs.Fits.{has_key, node_fits}
use Rattle.rules.specs.Letters.{lookup}
use Rattle.rules.specs.Nodes.{no_node, placed}
use Rattle.rules.specs.Plans.{mailed}
use Rattle.rules.specs.Pool.{message_at, waiting}
use Rattle.table_type.specs.declared.Table.{Table}
use Rattle.table.specs.Settled.{dead_set, some_up}
use Rattle.step.specs.Step.{Gone, all_stay, one-goes, probes-go, asked, remaining, planned_of}
use Rattle.table_type.specs.Table.{node_at, with_node, id_of, ids_of, ring_of}
use Rattle.pool_laws.proofs.Laws.{All, all-at, all-index, all-removed, all-mailed, waiting-at, waiting-short, laid-at, waiting-laid}
use Rattle.pool_laws.proofs.Laws.{Fine, Apart, apart-different, apart-removed, apart-mailed}
use Rattle.pool_laws.proofs.Probes.{all_left, apart-left}
use Rattle.table_laws.proofs.Nodes.{NodeRules, node-rules}
use Rattle.table_laws.proofs.Obeys.{obeys}
use Rattle.table_laws.proofs.Sound.{Sound, sound-valid}
use Rattle.table_laws.specs.Claims.{KeepsValid, SameRing, KeepsRing, RefusalKeeps, RoutedOnly}
use Rattle.table_laws.proofs.By.{DoneWith, leaves_of, slot-in-range, by-step, step-refused, step-done}
use Rattle.table_laws.proofs.Comes.{go-comes}
use Rattle.table_laws.proofs.Plans.{Fits, FinePlan, FinePlanned, fine-fits}
use Rattle.table_laws.proofs.Plans.{fine-lookup, fine-join, fine-request-lease, fine-lease-expired, fine-grant-expired}
use Rattle.table_laws.proofs.Leaves.{fine-node-left, fine-suspect-faulty, fine-probe-time-out, fine-declare-dead}
use Rattle.table_laws.proofs.Leaves.{fine-ls-repair, fine-resign-node, fine-recover}
use Rattle.table_laws.proofs.Takes.{fine-deliver, fine-forward, fine-take}
use Rattle.table_laws.proofs.Routed.{planned-silent}
use Rattle.table_laws.proofs.Hops.{Within, planned-within}

-- ---- every plan is fine

module _ {t : Table} {p : Pool} (s : Sound t p) where
  listed-rules : (i : ℕ) → i < t.n → NodeRules (ring_of t) i (node_at t i)
  listed-rules i h = node-rules (ring_of t) i (node_at t i) (s.node i h)

  pub planned-fine : (a : Action) → (asked t p a).range ≡ true
      → FinePlanned (ring_of t) (asked t p a).slot (node_at t (asked t p a).slot) (planned_of (asked t p a))
  planned-fine (Lookup i k) e =
      let h = slot-in-range s (Lookup i k) e in
      fine-lookup h (listed-rules i h) (waits (waiting p) (placed (lookup k) i)) k (ltb-true k (2 ^ t.m) (and_left _ _ e))
  planned-fine (Join i seed) e =
      let h = slot-in-range s (Join i seed) e in
      fine-join h (listed-rules i h) (join_waits (waiting p) i) seed (node_at t seed) (ltb-true seed t.n (and_left _ _ e))
  planned-fine (RequestLease i) e =
      let h = slot-in-range s (RequestLease i) e in
      fine-request-lease h (listed-rules i h) (ids_of t)
  planned-fine (LeaseExpired i j) e =
      let h = slot-in-range s (LeaseExpired i j) e in
      fine-lease-expired h (listed-rules i h) (ids_of t) j
  planned-fine (GrantExpired i j) e =
      let h = slot-in-range s (GrantExpired i j) e in
      fine-grant-expired h (listed-rules i h) j (node_at t j)
  planned-fine (Take place) e =
      let o = obeys (ring_of t) (message_at p place) (s.message place (ltb-true place p.count e)) in
      fine-take s.listed o.dest-in (listed-rules (message_at p place).dest o.dest-in) (dead_set t) o
  planned-fine (Deliver place) e =
      let m = message_at p place in
      let o = obeys (ring_of t) m (s.message place (ltb-true place p.count e)) in
      fine-deliver s.listed o.dest-in (listed-rules m.dest o.dest-in) m.kind m.word
  planned-fine (Forward place) e =
      let m = message_at p place in
      let o = obeys (ring_of t) m (s.message place (ltb-true place p.count e)) in
      fine-forward s.listed o.dest-in (listed-rules m.dest o.dest-in) m.kind (dead_set t) m.word m.hops (λ k. o.key_in (ap has_key k))
  planned-fine (NodeLeft i) e = let h = slot-in-range s (NodeLeft i) e in fine-node-left s.listed h (listed-rules i h)
  planned-fine (SuspectFaulty i j) e =
      let h = slot-in-range s (SuspectFaulty i j) e in
      fine-suspect-faulty s.listed h (listed-rules i h) j (ltb-true j t.n (and_left _ _ e))
  planned-fine (ProbeTimeOut i j) e =
      let h = slot-in-range s (ProbeTimeOut i j) e in
      fine-probe-time-out s.listed h (listed-rules i h) j (ltb-true j t.n (and_left _ _ e))
  planned-fine (DeclareDead i j) e =
      let h = slot-in-range s (DeclareDead i j) e in
      fine-declare-dead s.listed h (listed-rules i h) j
  planned-fine (LSRepair i) e = let h = slot-in-range s (LSRepair i) e in fine-ls-repair s.listed h (listed-rules i h)
  planned-fine (ResignNode i n) e =
      let h = slot-in-range s (ResignNode i n) e in
      fine-resign-node s.listed h (listed-rules i h) (reply_waits (waiting p) i) n (node_at t n) (ltb-true n t.n (and_left _ _ e))
  planned-fine (Recover i) e = let h = slot-in-range s (Recover i) e in fine-recover s.listed h (listed-rules i h) (some_up t)

pub done-fine : {t : Table} {p : Pool} {len : ℕ} {a : Action} {x : Plan} → DoneWith t p len a x
    → FinePlan (ring_of t) (asked t p a).slot (node_at t (asked t p a).slot) x
done-fine {a = a} {x = x} d = go-comes (planned-fine d.sound a d.in-range) x d.plan

pub done-within : {t : Table} {p : Pool} {len : ℕ} {a : Action} {x : Plan} → DoneWith t p len a x → Fine (Within (ring_of t) (ids_of t)) x
done-within {a = a} {x = x} d = go-comes (planned-within d.sound a d.in-range) x d.plan

-- ---- one node written

-- what stands at a slot afterwards: what was written there, or what stood
pub written : (C : Node → Type 0) (t : Table) (i : ℕ) (v : Node) (s : ℕ) → (s ≡ i → C v) → C (node_at t s) → C (node_at (with_node t i v) s)
written C t i v s new old = go (eq-or-ne s i) (lt-or-le i (length t.nodes))
  where
    go : (s ≡ i) ⊎ (s ≡ i → ⊥) → (i < length t.nodes) ⊎ (length t.nodes ≤ i) → C (node_at (with_node t i v) s)
    go (inr d) any = rw (get_or-set_other t.nodes i s v no_node d) old
    go (inl e) (inl l) = rw (e, get_or-set_same t.nodes i v no_node l) (new e)
    go (inl e) (inr l) = rw (set_out t.nodes i v l) old

pub written-ids : (t : Table) (i : ℕ) (v : Node) → v.id ≡ (node_at t i).id → ids_of (with_node t i v) ≡ ids_of t
written-ids t i v e = map-set_same id_of t.nodes i v no_node e

-- ---- the messages that wait when additions begin

by_left : (C : List Message → Type 0) (p : Pool) (gone : Gone) → C (waiting p) → ((place : ℕ) → C (removed_at (waiting p) place))
    → ((i j : ℕ) → C (without_probes (waiting p) i j)) → C (remaining p gone)
by_left C p all_stay all less left = all
by_left C p (one-goes place) all less left = less place
by_left C p (probes-go i j) all less left = left i j

module _ {t : Table} {p : Pool} (s : Sound t p) (a : Action) where
  pub waiting-fit : All (Fits (ring_of t)) (waiting p)
  waiting-fit =
      all-index (waiting p)
      (λ q l. let k : q < p.count = omega (arith, waiting-short p) in rw (waiting-at p q k) (s.message q k))

  pub waiting-within : All (Within (ring_of t) (ids_of t)) (waiting p)
  waiting-within =
      all-index (waiting p)
      (λ q l. let k : q < p.count = omega (arith, waiting-short p) in rw (waiting-at p q k) (s.hops q k))

  left-all : {C : Message → Type 0} → All C (waiting p) → All C (remaining p (asked t p a).gone)
  left-all {C} h = by_left (All C) p (asked t p a).gone h (λ place. all-removed place h) (λ i j. all_left i j h)

  left-apart : Apart (remaining p (asked t p a).gone)
  left-apart =
      let apart : Apart (waiting p) = (apart-different (waiting p)).1 s.different in
      by_left Apart p (asked t p a).gone apart (λ place. apart-removed place apart) (λ i j. apart-left i j apart)

-- ---- a done step

module _ {t : Table} {p : Pool} {len : ℕ} {a : Action} {x : Plan} (d : DoneWith t p len a x) where
  pub done-sound : Sound (leaves_of t p a x).table (leaves_of t p a x).pool
  done-sound =
      let s = d.sound in
      let fine = done-fine d in
      let i = (asked t p a).slot in
      let zs = mailed x (remaining p (asked t p a).gone) in
      let fit : All (Fits (ring_of t)) zs = all-mailed fine.mail (left-all s a (waiting-fit s a)) in
      let within : All (Within (ring_of t) (ids_of t)) zs = all-mailed (done-within d) (left-all s a (waiting-within s a)) in
      let apart : Apart zs = apart-mailed x (left-apart s a) in
      record {
        numbers = s.numbers;
        listed = rw (written-ids t i x.node fine.same_id) s.listed;
        node = λ q h. written (λ v. node_fits (ring_of t) q v ≡ true) t i x.node q (λ e. rw e (fine-fits fine)) (s.node q h);
        blank = λ q l h. written (λ v. v ≡ no_node) t i x.node q (λ e. absurd (omega (arith, d.slot-in))) (s.blank q l h);
        counted = d.room;
        message = λ q l. rw (laid-at zs q l) (all-at fit q l);
        hops = λ q l. rw (written-ids t i x.node fine.same_id, laid-at zs q l) (all-at within q l);
        different = rw (waiting-laid zs) ((apart-different zs).0 apart);
      }

  pub done-ring : SameRing t (leaves_of t p a x).table
  done-ring = record { m = refl; l = refl; n = refl; ids = written-ids t (asked t p a).slot x.node (done-fine d).same_id }

-- ---- what Keeps states

pub keeps-valid : KeepsValid
keeps-valid t p len a e = let r = step-done t p len a e in rw r.2 (sound-valid (done-sound r.1))

pub keeps-ring : KeepsRing
keeps-ring t p len a =
    by-step (λ s. SameRing t s.table) t p len a (λ why r. record { m = refl; l = refl; n = refl; ids = refl }) (λ x d. done-ring d)

pub refusal-keeps : RefusalKeeps
refusal-keeps t p len a why e = (step-refused t p len a why e).1

pub routed-only : RoutedOnly
routed-only t p len a n =
    by-step (λ s. s.via ≡ Unrouted) t p len a (λ why r. refl) (λ x d. go-comes (planned-silent d.sound a d.in-range n) x d.plan)
