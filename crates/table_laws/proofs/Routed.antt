-- A step says where the next hop came from only where it routed: it is a Forward, or the Take of a JoinRequest (T-01). Every other plan says none, which is followed along
-- the chain of tests of each action and kind. Assumes nothing.
use mathlib.Core.Path.{◌≡◌, refl}
use mathlib.Core.Bool.{true}
use Prim.Native.Nat.{ℕ, ◌<◌}
use borrow.Author.Tests.{ltb-true}
use Rattle.rules.specs.declared.Pool.{Pool}
use Rattle.rules.specs.declared.Plan.{Plan}
use Rattle.rules.specs.declared.Refusal.{Refusal}
use Rattle.rules.specs.declared.Action.{Action}
use Rattle.rules.specs.declared.Action.TheVariants.{Lookup, Join, RequestLease, LeaseExpired, GrantExpired, Take, Deliver, Forward}
use Rattle.rules.specs.declared.Action.TheVariants.{NodeLeft, SuspectFaulty, ProbeTimeOut, DeclareDead, LSRepair, ResignNode, Recover}
use Rattle.rules.specs.declared.Via.TheVariants.{Unrouted}
use Rattle.plan.specs.Actions.{lease_plan}
use Rattle.rules.specs.Pool.{message_at}
use Rattle.take.specs.Take.{probe_plan_of, reply_plan_of, broadcast_plan}
use Rattle.table_type.specs.declared.Table.{Table}
use Rattle.table_type.specs.Table.{node_at, ids_of, ring_of}
use Rattle.table_laws.specs.Claims.{MayRoute, forwards, takes-request}
use Rattle.table.specs.Settled.{dead_set, some_up}
use Rattle.step.specs.Step.{taken_of, asked, planned_of}
use Rattle.table_laws.proofs.Obeys.{obeys}
use Rattle.table_laws.proofs.Sound.{Sound}
use Rattle.table_laws.proofs.Comes.{Comes, by-lookup, by-join, by-request-lease, by-lease-expired, by-grant-expired}
use Rattle.table_laws.proofs.Comes.{by-node-left, by-suspect-faulty, by-probe-time-out, by-declare-dead, by-ls-repair, by-resign-node, by-recover}
use Rattle.table_laws.proofs.Comes.{by-deliver, by-take-join-reply, by-take-probe, by-take-probe-reply}
use Rattle.table_laws.proofs.Comes.{by-take-lease-request, by-take-broadcast, by-take}

-- whatever is refused, and a plan that says none
abbrev Any : Refusal → Type 0
Any why = Unit {0}

abbrev Silent : Plan → Type 0
Silent x = x.via ≡ Unrouted

module _ {t : Table} {p : Pool} (s : Sound t p) where
  taken-silent : (place : ℕ) → place < p.count → ((message_at p place).kind ≡ 2 → ⊥) → Comes Any Silent (taken_of t (message_at p place))
  unfolding probe_plan_of reply_plan_of broadcast_plan
  taken-silent place h not2 =
      let m = message_at p place in
      let o = obeys (ring_of t) m (s.message place h) in
      let g = ring_of t in
      let ids = ids_of t in
      let i = m.dest in
      let v = node_at t i in
      by-take m.kind g ids (dead_set t) i v m o.kind-low o.kind-high
      (λ _. tt)
      (λ e. absurd (not2 e))
      (λ _. by-take-join-reply g ids i v m tt tt tt refl)
      (λ _. by-take-probe g ids i v m tt tt tt refl)
      (λ _. by-take-probe-reply g ids i v m tt tt tt refl)
      (λ _. tt)
      (λ _. by-take-lease-request g ids i v m.word tt tt (λ near. refl))
      (λ _. by-take-broadcast g ids i v m tt tt tt refl)

  pub planned-silent : (a : Action) → (asked t p a).range ≡ true → (MayRoute p a → ⊥) → Comes Any Silent (planned_of (asked t p a))
  unfolding lease_plan
  planned-silent (Lookup i k) e n = by-lookup _ i k (node_at t i) tt refl
  planned-silent (Join i seed) e n = by-join _ i (node_at t i) seed (node_at t seed) tt tt tt refl
  planned-silent (RequestLease i) e n = by-request-lease (ring_of t) (ids_of t) i (node_at t i) tt tt refl
  planned-silent (LeaseExpired i j) e n = by-lease-expired (ring_of t) (ids_of t) i (node_at t i) j tt tt refl
  planned-silent (GrantExpired i j) e n = by-grant-expired i (node_at t i) j (node_at t j) tt tt refl
  planned-silent (Take place) e n = taken-silent place (ltb-true place p.count e) (λ k. n (takes-request k))
  planned-silent (Deliver place) e n =
      let m = message_at p place in
      by-deliver m.kind (ring_of t) (ids_of t) m.dest (node_at t m.dest) m.word (λ _. tt) tt refl
  planned-silent (Forward place) e n = absurd (n forwards)
  planned-silent (NodeLeft i) e n = by-node-left (node_at t i) tt refl
  planned-silent (SuspectFaulty i j) e n = by-suspect-faulty i (node_at t i) j tt tt (λ _. refl)
  planned-silent (ProbeTimeOut i j) e n = by-probe-time-out i (node_at t i) j tt tt (λ _. refl)
  planned-silent (DeclareDead i j) e n = by-declare-dead (ring_of t) (ids_of t) i (node_at t i) j tt tt refl
  planned-silent (LSRepair i) e n = by-ls-repair (ring_of t) (ids_of t) i (node_at t i) tt tt tt (λ _. refl)
  planned-silent (ResignNode i m) e n = by-resign-node _ i (node_at t i) m (node_at t m) tt tt tt tt refl
  planned-silent (Recover i) e n = by-recover (some_up t) (ring_of t) (ids_of t) i (node_at t i) tt tt tt (λ _. refl)
