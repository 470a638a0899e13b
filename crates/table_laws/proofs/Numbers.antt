-- The numbers with which each action can be refused: one table (numbers_of), and one theorem that every step's answer is in it
-- (`step-numbers`). 6 is missing where none is added, or one was removed and at most one is added; 3 is missing from Take and from Deliver and Forward; 7, 8, 9 and 11
-- are missing everywhere. Assumes nothing.
use mathlib.Core.Path.{◌≡◌, refl, ap}
use mathlib.Core.Logic.{◌⊎◌, inl, inr}
use mathlib.Core.Bool.{Bool, true, false, ◌&&◌, ◌||◌}
use mathlib.Core.List.{List, [], ◌∷◌}
use Prim.Native.Nat.{ℕ, ◌+◌, ◌<◌, ◌≤◌}
use native.Mathlib.Omega.{arith}
use lib.Dec.{eqb, leb}
use lib.ListN.{get_or, length, length-take, get_or-eq_default}
use borrow.Author.Tests.{ltb-true}
use Rattle.marks.proofs.Bools.{lt-or-le}
use Rattle.rules.specs.declared.Node.{Node}
use Rattle.rules.specs.declared.Message.{Message}
use Rattle.rules.specs.declared.Pool.{Pool}
use Rattle.rules.specs.declared.Action.{Action}
use Rattle.rules.specs.declared.Action.TheVariants.{Lookup, Join, RequestLease, LeaseExpired, GrantExpired, Take, Deliver, Forward}
use Rattle.rules.specs.declared.Action.TheVariants.{NodeLeft, SuspectFaulty, ProbeTimeOut, DeclareDead, LSRepair, ResignNode, Recover}
use Rattle.rules.specs.declared.Refusal.{Refusal}
use Rattle.rules.specs.declared.Refusal.TheVariants as no
use Rattle.rules.specs.declared.Plan.{Plan}
use Rattle.rules.specs.Mail.{without_probes, removed_at}
use Rattle.rules.specs.Nodes.{placed}
use Rattle.rules.specs.Numbers.{refusal_number}
use Rattle.rules.specs.declared.Via.{Via}
use Rattle.rules.specs.Plans.{quiet_plan, send_by, mailed}
use Rattle.rules.specs.Pool.{blank, message_at, waiting}
use Rattle.take.specs.Take.{broadcast_plan}
use Rattle.table_type.specs.declared.Table.{Table}
use Rattle.table.specs.Settled.{dead_set, some_up}
use Rattle.step.specs.Step.{taken_of, delivered_of, forwarded_of, asked, remaining, planned_of}
use Rattle.table_type.specs.Table.{node_at, ids_of, ring_of}
use Rattle.pool_laws.proofs.Laws.{waiting-short, removed-length, mailed-quiet, mailed-send, added-length}
use Rattle.pool_laws.proofs.Probes.{left-short}
use Rattle.table_laws.proofs.Obeys.{obeys}
use Rattle.table_laws.proofs.Sound.{Sound}
use Rattle.table_laws.proofs.Comes.{Comes, by-lookup, by-join, by-request-lease, by-lease-expired, by-grant-expired}
use Rattle.table_laws.proofs.Comes.{by-node-left, by-suspect-faulty, by-probe-time-out, by-declare-dead, by-ls-repair, by-resign-node, by-recover}
use Rattle.table_laws.proofs.Comes.{by-deliver, by-forward, by-take-join-request, by-take-join-reply, by-take-probe, by-take-probe-reply}
use Rattle.table_laws.proofs.Comes.{by-take-lease-request, by-take-broadcast, by-take}

-- ---- the table

-- Take by kind: none; 1 Lookup; 2 JoinRequest; 3 JoinReply; 4 LSProbe; 5 LSProbeReply; 6 NoLegalRoute; 7 LeaseRequest; 8 BroadcastLSet
abbrev pub take_numbers : List (List ℕ)
take_numbers =
    []
    ∷ (5 ∷ [])
    ∷ (2 ∷ 5 ∷ [])
    ∷ (2 ∷ 4 ∷ 5 ∷ 6 ∷ [])
    ∷ (2 ∷ 4 ∷ 5 ∷ 6 ∷ [])
    ∷ (2 ∷ 4 ∷ 5 ∷ 6 ∷ [])
    ∷ (5 ∷ [])
    ∷ (2 ∷ 4 ∷ [])
    ∷ (2 ∷ 4 ∷ 5 ∷ [])
    ∷ []

-- Deliver and Forward: of a Lookup, or of another kind
abbrev pub pair_numbers : Bool → List ℕ
pair_numbers true = 2 ∷ 5 ∷ []
pair_numbers false = 5 ∷ []

-- the numbers with which an action can be refused, besides 1 and 10
abbrev pub numbers_of : Pool → Action → List ℕ
numbers_of p (Lookup i k) = 3 ∷ 6 ∷ []
numbers_of p (Join i seed) = 2 ∷ 3 ∷ 4 ∷ 6 ∷ []
numbers_of p (RequestLease i) = 2 ∷ 4 ∷ 6 ∷ []
numbers_of p (LeaseExpired i j) = 2 ∷ 5 ∷ []
numbers_of p (GrantExpired i j) = 2 ∷ 5 ∷ []
numbers_of p (Take place) = get_or take_numbers (message_at p place).kind []
numbers_of p (Deliver place) = pair_numbers (eqb (message_at p place).kind 1)
numbers_of p (Forward place) = pair_numbers (eqb (message_at p place).kind 1)
numbers_of p (NodeLeft i) = 2 ∷ []
numbers_of p (SuspectFaulty i j) = 2 ∷ 5 ∷ 6 ∷ []
numbers_of p (ProbeTimeOut i j) = 2 ∷ 5 ∷ []
numbers_of p (DeclareDead i j) = 2 ∷ 5 ∷ []
numbers_of p (LSRepair i) = 2 ∷ 4 ∷ 5 ∷ 6 ∷ []
numbers_of p (ResignNode i n) = 2 ∷ 3 ∷ 4 ∷ 5 ∷ 6 ∷ []
numbers_of p (Recover i) = 2 ∷ 4 ∷ 5 ∷ 6 ∷ []

abbrev pub one_of : ℕ → List ℕ → Bool
one_of x [] = false
one_of x (y ∷ ys) = eqb x y || one_of x ys

-- 0, 1, 10, and the action's numbers
abbrev pub answers_of : Pool → Action → List ℕ
answers_of p a = 0 ∷ 1 ∷ 10 ∷ numbers_of p a

-- ---- every answer is in it

-- the message that is taken waits
pub taken-waits : {t : Table} {p : Pool} → Sound t p → (place : ℕ) → place < p.count → place < length (waiting p)
taken-waits {t} {p} s place h = go (lt-or-le place (length p.places))
  where
    kind : 1 ≤ (message_at p place).kind
    kind = (obeys (ring_of t) (message_at p place) (s.message place h)).kind-low

    go : (place < length p.places) ⊎ (length p.places ≤ place) → place < length (waiting p)
    go (inl l) = omega (arith, length-take p.count p.places)
    go (inr l) = absurd (omega (arith, kind, ap (λ (m : Message). m.kind) (get_or-eq_default p.places blank l)))

-- a refusal is named, by a number up to 6; and a plan has room, or its action names 6
abbrev pub Named : Pool → Action → Refusal → Type 0
Named p a why = (one_of (refusal_number why) (numbers_of p a) && leb (refusal_number why) 6) ≡ true

abbrev Roomy : Table → Pool → Action → Plan → Type 0
Roomy t p a x = 256 < length (mailed x (remaining p (asked t p a).gone)) → Named p a no.Full

module _ {t : Table} {p : Pool} (s : Sound t p) where
  quiet-room : (v : Node) → 256 < length (mailed (quiet_plan v) (waiting p)) → ⊥
  quiet-room v h = omega (arith, rw (mailed-quiet v (waiting p)) at h, waiting-short p, s.counted)

  left-room : (i j : ℕ) (v : Node) → 256 < length (mailed (quiet_plan v) (without_probes (waiting p) i j)) → ⊥
  left-room i j v h =
      omega (arith, rw (mailed-quiet v (without_probes (waiting p) i j)) at h, left-short i j (waiting p), waiting-short p, s.counted)

  module _ (place : ℕ) (h : place < p.count) where
    abbrev rest : List Message
    rest = removed_at (waiting p) place

    rest-room : length rest + 1 ≤ 256
    rest-room =
        let l : place < length (waiting p) = taken-waits s place h in
        omega (arith, removed-length (waiting p) place l, waiting-short p, s.counted)

    take-quiet : (v : Node) → 256 < length (mailed (quiet_plan v) rest) → ⊥
    take-quiet v l = omega (arith, rw (mailed-quiet v rest) at l, rest-room)

    take-broadcast : (m : Message) → 256 < length (mailed (broadcast_plan (ring_of t) (ids_of t) m.dest (node_at t m.dest) m) rest) → ⊥
    unfolding broadcast_plan
    take-broadcast m l = take-quiet _ l

    take-send : (via : Via) (v : Node) (m : Message) (d : ℕ) → 256 < length (mailed (send_by via v m d) rest) → ⊥
    take-send via v m d l = omega (arith, rw (mailed-send via v m d rest) at l, (added-length rest (placed m d)).1, rest-room)

    taken-named : Comes (Named p (Take place)) (Roomy t p (Take place)) (taken_of t (message_at p place))
    taken-named =
        let m = message_at p place in
        let o = obeys (ring_of t) m (s.message place h) in
        let g = ring_of t in
        let ids = ids_of t in
        let dead = dead_set t in
        let i = m.dest in
        let v = node_at t i in
        by-take m.kind g ids dead i v m o.kind-low o.kind-high
        (λ e. rw e)
        (λ e. by-take-join-request g ids dead i v m.word m.routing (rw e) (rw e) (λ l. absurd (take-send _ _ _ _ l))
        (λ d _ l. absurd (take-send _ _ _ _ l)) (λ _ l. absurd (take-send _ _ _ _ l)))
        (λ e. by-take-join-reply g ids i v m (rw e) (rw e) (rw e) (λ _. rw e))
        (λ e. by-take-probe g ids i v m (rw e) (rw e) (rw e) (λ _. rw e))
        (λ e. by-take-probe-reply g ids i v m (rw e) (rw e) (rw e) (λ _. rw e))
        (λ e. rw e)
        (λ e. by-take-lease-request g ids i v m.word (rw e) (rw e) (λ near l. absurd (take-send _ _ _ _ l)))
        (λ e. by-take-broadcast g ids i v m (rw e) (rw e) (rw e) (λ l. absurd (take-broadcast m l)))

    -- 2 and 5 of a Lookup, 5 of another kind
    pair-two : (message_at p place).kind ≡ 1 → (one_of 2 (pair_numbers (eqb (message_at p place).kind 1)) && true) ≡ true
    pair-two e = rw e

    pair-five : (b : Bool) → (one_of 5 (pair_numbers b) && true) ≡ true
    pair-five true = refl
    pair-five false = refl

    delivered-named : Comes (Named p (Deliver place)) (Roomy t p (Deliver place)) (delivered_of t (message_at p place))
    delivered-named =
        let m = message_at p place in
        by-deliver m.kind (ring_of t) (ids_of t) m.dest (node_at t m.dest) m.word pair-two (pair-five (eqb m.kind 1)) (λ l. absurd (take-quiet _ l))

    forwarded-named : Comes (Named p (Forward place)) (Roomy t p (Forward place)) (forwarded_of t (message_at p place))
    forwarded-named =
        let m = message_at p place in
        by-forward m.kind (ring_of t) (ids_of t) (dead_set t) m.dest (node_at t m.dest) m.word m.hops pair-two (pair-five (eqb m.kind 1))
        (λ _ d _ l. absurd (take-send _ _ _ _ l)) (λ _ _ l. absurd (take-send _ _ _ _ l))

  pub planned-named : (a : Action) → (asked t p a).range ≡ true → Comes (Named p a) (Roomy t p a) (planned_of (asked t p a))
  planned-named (Lookup i k) e = by-lookup _ i k (node_at t i) refl (λ _. refl)
  planned-named (Join i seed) e = by-join _ i (node_at t i) seed (node_at t seed) refl refl refl (λ _. refl)
  planned-named (RequestLease i) e = by-request-lease (ring_of t) (ids_of t) i (node_at t i) refl refl (λ _. refl)
  planned-named (LeaseExpired i j) e = by-lease-expired (ring_of t) (ids_of t) i (node_at t i) j refl refl (λ l. absurd (quiet-room _ l))
  planned-named (GrantExpired i j) e = by-grant-expired i (node_at t i) j (node_at t j) refl refl (λ l. absurd (quiet-room _ l))
  planned-named (Take place) e = taken-named place (ltb-true place p.count e)
  planned-named (Deliver place) e = delivered-named place (ltb-true place p.count e)
  planned-named (Forward place) e = forwarded-named place (ltb-true place p.count e)
  planned-named (NodeLeft i) e = by-node-left (node_at t i) refl (λ l. absurd (quiet-room _ l))
  planned-named (SuspectFaulty i j) e = by-suspect-faulty i (node_at t i) j refl refl (λ _ _. refl)
  planned-named (ProbeTimeOut i j) e = by-probe-time-out i (node_at t i) j refl refl (λ _ l. absurd (left-room i j _ l))
  planned-named (DeclareDead i j) e = by-declare-dead (ring_of t) (ids_of t) i (node_at t i) j refl refl (λ l. absurd (quiet-room _ l))
  planned-named (LSRepair i) e = by-ls-repair (ring_of t) (ids_of t) i (node_at t i) refl refl refl (λ _ _. refl)
  planned-named (ResignNode i n) e = by-resign-node _ i (node_at t i) n (node_at t n) refl refl refl refl (λ _. refl)
  planned-named (Recover i) e = by-recover (some_up t) (ring_of t) (ids_of t) i (node_at t i) refl refl refl (λ _ _. refl)
