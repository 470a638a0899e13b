-- Every step keeps T-07's bound, departures included. A forward goes to a node nearer the key (Hops of crate rules), and the old destination joins those that are
-- farther, so that the bound grows by one at least, as the number does. No other plan sends a message with hops, which is followed along the chain of
-- tests of each action and kind. Assumes nothing.
use mathlib.Core.Path.{◌≡◌, refl}
use mathlib.Core.Bool.{Bool, true, false}
use mathlib.Core.List.{List}
use Prim.Native.Nat.{ℕ, ◌+◌, ◌^◌, ◌<◌, ◌≤◌}
use native.Mathlib.Omega.{arith}
use lib.Dec.{eqb, leb}
use borrow.Author.Tests.{ltb-true, le-leb, leb-true, eq-eqb, eqb-true, ne_eqb}
use Rattle.ring.specs.Distance.{nearer}
use Rattle.ring.proofs.Order.{nearer-transitive, nearer-irreflexive}
use Rattle.marks.proofs.Bools.{bool_false}
use Rattle.marks.proofs.Laws.{tally-strict, tally-le}
use Rattle.rules.specs.declared.Ring.{Ring}
use Rattle.rules.specs.declared.Message.{Message}
use Rattle.rules.specs.declared.Pool.{Pool}
use Rattle.rules.specs.declared.Plan.{Plan}
use Rattle.rules.specs.declared.Refusal.{Refusal}
use Rattle.rules.specs.declared.Action.{Action}
use Rattle.rules.specs.declared.Action.TheVariants.{Lookup, Join, RequestLease, LeaseExpired, GrantExpired, Take, Deliver, Forward}
use Rattle.rules.specs.declared.Action.TheVariants.{NodeLeft, SuspectFaulty, ProbeTimeOut, DeclareDead, LSRepair, ResignNode, Recover}
use Rattle.plan.specs.Actions.{lease_plan}
use Rattle.rules.specs.Fits.{zero_unless, farther_than, hops_fit}
use Rattle.rules.specs.Letters.{lookup_after}
use Rattle.rules.specs.Nodes.{placed}
use Rattle.rules.specs.Pick.{id_at}
use Rattle.rules.specs.Pool.{blank, message_at}
use Rattle.take.specs.Take.{probe_plan_of, reply_plan_of, broadcast_plan}
use Rattle.rules_laws.proofs.Hops.{hop-to}
use Rattle.pool_laws.proofs.Laws.{Fine}
use Rattle.table_type.specs.declared.Table.{Table}
use Rattle.table_type.specs.Table.{node_at, ids_of, ring_of}
use Rattle.table.specs.Settled.{dead_set, some_up}
use Rattle.step.specs.Step.{taken_of, asked, planned_of}
use Rattle.table_laws.proofs.Obeys.{obeys}
use Rattle.table_laws.proofs.Sound.{Sound}
use Rattle.table_laws.proofs.Plans.{none-sent, one-to}
use Rattle.table_laws.proofs.Comes.{Comes, by-lookup, by-join, by-request-lease, by-lease-expired, by-grant-expired}
use Rattle.table_laws.proofs.Comes.{by-node-left, by-suspect-faulty, by-probe-time-out, by-declare-dead, by-ls-repair, by-resign-node, by-recover}
use Rattle.table_laws.proofs.Comes.{by-deliver, by-forward, by-take-join-request, by-take-join-reply, by-take-probe, by-take-probe-reply}
use Rattle.table_laws.proofs.Comes.{by-take-lease-request, by-take-broadcast, by-take}

-- a message's hops are within the bound
abbrev pub Within : Ring → List ℕ → Message → Type 0
Within g ids m = hops_fit g ids m ≡ true

-- ---- the bound

-- from a nearer node more are farther
pub farther-grows : (g : Ring) (ids : List ℕ) (k i h : ℕ) → i < g.n → nearer (2 ^ g.m) k (id_at ids h) (id_at ids i) ≡ true
    → farther_than g ids k i < farther_than g ids k h
unfolding farther_than
farther-grows g ids k i h l e =
    tally-strict g.n (λ s. nearer (2 ^ g.m) k (id_at ids i) (id_at ids s)) (λ s. nearer (2 ^ g.m) k (id_at ids h) (id_at ids s)) i
    (λ s _ p. nearer-transitive (2 ^ g.m) k (id_at ids h) (id_at ids i) (id_at ids s) e p) l
    (bool_false _ (nearer-irreflexive (2 ^ g.m) k (id_at ids i))) e

module _ (g : Ring) (ids : List ℕ) where
  -- no hops
  pub still : (m : Message) → m.hops ≡ 0 → Within g ids m
  unfolding hops_fit
  still m e = go (eqb m.kind 1)
    where
      go : (b : Bool) → zero_unless b (leb m.hops (farther_than g ids m.word m.dest)) m.hops ≡ true
      go true = le-leb m.hops _ (omega (arith, e))
      go false = eq-eqb m.hops 0 e

  -- a Lookup's
  pub lookup-within : (hops k s : ℕ) → hops ≤ farther_than g ids k s → Within g ids (placed (lookup_after hops k) s)
  unfolding hops_fit
  lookup-within hops k s l = le-leb hops _ l

  pub within-lookup : (m : Message) → Within g ids m → m.kind ≡ 1 → m.hops ≤ farther_than g ids m.word m.dest
  unfolding hops_fit
  within-lookup m w e = leb-true m.hops _ (rw (eq-eqb m.kind 1 e) at w)

  -- none on another kind
  pub no-hops : (m : Message) → Within g ids m → (m.kind ≡ 1 → ⊥) → m.hops ≡ 0
  unfolding hops_fit
  no-hops m w e = eqb-true m.hops 0 (rw (ne_eqb m.kind 1 e) at w)

  pub within_low : (m : Message) → Within g ids m → m.hops ≤ g.n
  unfolding hops_fit farther_than
  within_low m w = go (eqb m.kind 1) w
    where
      go : (b : Bool) → zero_unless b (leb m.hops (farther_than g ids m.word m.dest)) m.hops ≡ true → m.hops ≤ g.n
      go true e =
          omega (
            arith,
            leb-true m.hops (farther_than g ids m.word m.dest) e,
            tally-le g.n (λ s. nearer (2 ^ g.m) m.word (id_at ids m.dest) (id_at ids s)),
          )
      go false e = omega (arith, eqb-true m.hops 0 e)

  -- a plan whose messages have none
  still-plan : {x : Plan} → x.first.hops ≡ 0 → x.each.hops ≡ 0 → Fine (Within g ids) x
  still-plan {x} one each =
      record { one = λ s _. still (placed x.first s) one; rest = λ s _ _. still (placed x.each s) each }

-- ---- the plans

-- whatever is refused
abbrev Any : Refusal → Type 0
Any why = Unit {0}

module _ {t : Table} {p : Pool} (s : Sound t p) where
  abbrev g : Ring
  g = ring_of t

  abbrev ids : List ℕ
  ids = ids_of t

  abbrev Kept : Plan → Type 0
  Kept x = Fine (Within g ids) x

  still_kept : {x : Plan} → x.first.hops ≡ 0 → x.each.hops ≡ 0 → Kept x
  still_kept a b = still-plan g ids a b

  taken-within : (place : ℕ) → place < p.count → Comes Any Kept (taken_of t (message_at p place))
  unfolding probe_plan_of reply_plan_of broadcast_plan
  taken-within place h =
      let m = message_at p place in
      let o = obeys g m (s.message place h) in
      let i = m.dest in
      let v = node_at t i in
      by-take m.kind g ids (dead_set t) i v m o.kind-low o.kind-high
      (λ _. tt)
      (λ _. by-take-join-request g ids (dead_set t) i v m.word m.routing tt tt (still_kept refl refl) (λ _ _. still_kept refl refl)
      (λ _. still_kept refl refl))
      (λ _. by-take-join-reply g ids i v m tt tt tt (still_kept refl refl))
      (λ _. by-take-probe g ids i v m tt tt tt (still_kept refl refl))
      (λ _. by-take-probe-reply g ids i v m tt tt tt (still_kept refl refl))
      (λ _. tt)
      (λ _. by-take-lease-request g ids i v m.word tt tt (λ near. still_kept refl refl))
      (λ _. by-take-broadcast g ids i v m tt tt tt (still_kept refl refl))

  -- the one that sends a message with hops
  forward-within : (place : ℕ) → place < p.count → Comes Any Kept (planned_of (asked t p (Forward place)))
  forward-within place l =
      let m = message_at p place in
      let o = obeys g m (s.message place l) in
      let i = m.dest in
      let v = node_at t i in
      by-forward m.kind g ids (dead_set t) i v m.word m.hops (λ _. tt) tt (λ is h e.
      let near = (hop-to g ids (dead_set t) i v m.word h e).closer in
      let low = within-lookup g ids m (s.hops place l) is in
      let grown = farther-grows g ids m.word i h o.dest-in near in
      record {
        one = λ q. one-to (Within g ids) (lookup_after (m.hops + 1) m.word) h q (lookup-within g ids (m.hops + 1) m.word h (omega arith));
        rest = λ q _. none-sent (Within g ids) blank q;
      }) (λ _ _. still_kept refl refl)

  pub planned-within : (a : Action) → (asked t p a).range ≡ true → Comes Any Kept (planned_of (asked t p a))
  unfolding lease_plan
  planned-within (Lookup i k) e = by-lookup _ i k (node_at t i) tt (still_kept refl refl)
  planned-within (Join i seed) e = by-join _ i (node_at t i) seed (node_at t seed) tt tt tt (still_kept refl refl)
  planned-within (RequestLease i) e = by-request-lease g ids i (node_at t i) tt tt (still_kept refl refl)
  planned-within (LeaseExpired i j) e = by-lease-expired g ids i (node_at t i) j tt tt (still_kept refl refl)
  planned-within (GrantExpired i j) e = by-grant-expired i (node_at t i) j (node_at t j) tt tt (still_kept refl refl)
  planned-within (Take place) e = taken-within place (ltb-true place p.count e)
  planned-within (Deliver place) e =
      let m = message_at p place in
      by-deliver m.kind g ids m.dest (node_at t m.dest) m.word (λ _. tt) tt (still_kept refl refl)
  planned-within (Forward place) e = forward-within place (ltb-true place p.count e)
  planned-within (NodeLeft i) e = by-node-left (node_at t i) tt (still_kept refl refl)
  planned-within (SuspectFaulty i j) e = by-suspect-faulty i (node_at t i) j tt tt (λ _. still_kept refl refl)
  planned-within (ProbeTimeOut i j) e = by-probe-time-out i (node_at t i) j tt tt (λ _. still_kept refl refl)
  planned-within (DeclareDead i j) e = by-declare-dead g ids i (node_at t i) j tt tt (still_kept refl refl)
  planned-within (LSRepair i) e = by-ls-repair g ids i (node_at t i) tt tt tt (λ _. still_kept refl refl)
  planned-within (ResignNode i m) e = by-resign-node _ i (node_at t i) m (node_at t m) tt tt tt tt (still_kept refl refl)
  planned-within (Recover i) e = by-recover (some_up t) g ids i (node_at t i) tt tt tt (λ _. still_kept refl refl)
