-- The step: what each action asks, and from it what every step answers and leaves, for every table, pool, list length and action.
-- Definitions only. Assumes nothing.
use Rattle.rules.specs.Shapes.{Planned}
use Rattle.std.specs.Prelude.{Bool, true, false, cond, ◌&&◌, List, ℕ, ◌^◌, eqb, ltb}
use Rattle.rules.specs.Names.{Slot, Key, Place}
use Rattle.rules.specs.declared.Action.{Action}
use Rattle.rules.specs.declared.Action.TheVariants.{Lookup, Join, RequestLease, LeaseExpired, GrantExpired, Take, Deliver, Forward}
use Rattle.rules.specs.declared.Action.TheVariants.{NodeLeft, SuspectFaulty, ProbeTimeOut, DeclareDead, LSRepair, ResignNode, Recover}
use Rattle.rules.specs.declared.Message.{Message}
use Rattle.rules.specs.declared.Pool.{Pool}
use Rattle.rules.specs.declared.Refusal.TheVariants as no
use Rattle.rules.specs.Mail.{waits, join_waits, without_probes, reply_waits, removed_at}
use Rattle.plan.specs.Actions.{plan_lookup, plan_join, plan_request_lease, plan_lease_expired, plan_grant_expired}
use Rattle.plan.specs.Leave.{plan_node_left, plan_suspect_faulty, plan_probe_time_out, plan_declare_dead, plan_ls_repair, plan_resign_node, plan_recover}
use Rattle.rules.specs.Letters.{lookup}
use Rattle.rules.specs.Limits.{messages_high}
use Rattle.rules.specs.Nodes.{placed}
use Rattle.rules.specs.Pool.{waiting, message_at}
use Rattle.take.specs.Take.{plan_take, plan_deliver, plan_forward}
use Rattle.table_type.specs.declared.Stepped.{Stepped}
use Rattle.table_type.specs.declared.Table.{Table}
use Rattle.table_type.specs.Table.{node_at, ids_of, ring_of}
use Rattle.table.specs.Settle.{refused_of, settle}
use Rattle.table.specs.Settled.{dead_set, some_up}
use Rattle.table.specs.Valid.{valid_of}

-- what goes of the waiting messages: all stay, that at a place goes, or the LSProbes from i to j go
pub data Gone : Type 0 where
  all_stay : Gone
  one-goes : Place → Gone
  -- T-03
  probes-go : Slot → Slot → Gone

-- what an action asks: its slots, place and key are in range; what goes of the waiting messages; the slot whose node acts; the same request already
-- waits; and what is planned, told whether it does
pub record Asked : Type 0 where
  pub range : Bool
  pub gone : Gone
  pub slot : Slot
  pub repeated : Bool
  pub plan : Bool → Planned

-- ---- the four ways to ask

abbrev pub is_slot : Table → Slot → Bool
is_slot t i = ltb i t.n

abbrev pub is_key : Table → Key → Bool
is_key t k = ltb k (2 ^ t.m)

-- of the node of slot i, where 3 is asked; `more` says whether the other numbers are in range
abbrev pub requests : Table → Slot → Bool → Bool → (Bool → Planned) → Asked
requests t i more there plan = record { range = more && is_slot t i; gone = all_stay; slot = i; repeated = there; plan = plan }

-- of the node of slot i, where it is not
abbrev pub acts : Table → Slot → Bool → Planned → Asked
acts t i more what = requests t i more false (λ there. what)

-- T-03: of the node of slot i, whose probes of j have timed out
abbrev pub times_out : Table → Slot → Slot → Planned → Asked
times_out t i j what = record { range = is_slot t j && is_slot t i; gone = probes-go i j; slot = i; repeated = false; plan = λ there. what }

-- of the destination of the message that waits at a place
abbrev pub takes : Pool → Place → (Message → Planned) → Asked
takes p place plan =
    record { range = ltb place p.count; gone = one-goes place; slot = (message_at p place).dest; repeated = false; plan = λ there. plan (message_at p place) }

-- what Take plans for message m, at its destination i
abbrev pub taken_of : Table → Message → Planned
taken_of t m = plan_take m.kind (ring_of t) (ids_of t) (dead_set t) m.dest (node_at t m.dest) m

-- T-05: what Deliver plans for it, only if the node covers the key
abbrev pub delivered_of : Table → Message → Planned
delivered_of t m = plan_deliver m.kind (ring_of t) (ids_of t) m.dest (node_at t m.dest) m.word

-- T-05: what Forward plans for it, only if it does not
abbrev pub forwarded_of : Table → Message → Planned
forwarded_of t m = plan_forward m.kind (ring_of t) (ids_of t) (dead_set t) m.dest (node_at t m.dest) m.word m.hops

-- ---- what each action asks

abbrev pub asked : Table → Pool → Action → Asked
asked t p (Lookup i k) = requests t i (is_key t k) (waits (waiting p) (placed (lookup k) i)) (λ there. plan_lookup there i k (node_at t i))
asked t p (Join i seed) = requests t i (is_slot t seed) (join_waits (waiting p) i) (λ there. plan_join there i (node_at t i) seed (node_at t seed))
asked t p (RequestLease i) = acts t i true (plan_request_lease (ring_of t) (ids_of t) i (node_at t i))
asked t p (LeaseExpired i j) = acts t i (is_slot t j) (plan_lease_expired (ring_of t) (ids_of t) i (node_at t i) j)
asked t p (GrantExpired i j) = acts t i (is_slot t j) (plan_grant_expired i (node_at t i) j (node_at t j))
asked t p (Take place) = takes p place (taken_of t)
-- T-05
asked t p (Deliver place) = takes p place (delivered_of t)
asked t p (Forward place) = takes p place (forwarded_of t)
-- T-03
asked t p (NodeLeft i) = acts t i true (plan_node_left (node_at t i))
asked t p (SuspectFaulty i j) = acts t i (is_slot t j) (plan_suspect_faulty i (node_at t i) j)
asked t p (ProbeTimeOut i j) = times_out t i j (plan_probe_time_out i (node_at t i) j)
asked t p (DeclareDead i j) = acts t i (is_slot t j) (plan_declare_dead (ring_of t) (ids_of t) i (node_at t i) j)
asked t p (LSRepair i) = acts t i true (plan_ls_repair (ring_of t) (ids_of t) i (node_at t i))
asked t p (ResignNode i n) = requests t i (is_slot t n) (reply_waits (waiting p) i) (λ there. plan_resign_node there i (node_at t i) n (node_at t n))
asked t p (Recover i) = acts t i true (plan_recover (some_up t) (ring_of t) (ids_of t) i (node_at t i))

-- ---- the step

-- when done, what goes is removed first, then additions follow
abbrev pub remaining : Pool → Gone → List Message
remaining p all_stay = waiting p
remaining p (one-goes place) = removed_at (waiting p) place
-- T-03
remaining p (probes-go i j) = without_probes (waiting p) i j

abbrev pub planned_of : Asked → Planned
planned_of x = x.plan x.repeated

abbrev pub act_of : Table → Pool → Asked → Stepped
act_of t p x = settle t p (remaining p x.gone) x.slot (planned_of x)

-- a message list with exactly 256 places, and a valid table
unfoldable pub is_sound : Table → Pool → ℕ → Bool
is_sound t p len = eqb len messages_high && valid_of t p

-- 10 before anything else; then 1: slot, place or key out of range; then what the action asks
unfoldable pub step_of : Table → Pool → ℕ → Action → Stepped
step_of t p len a = cond (is_sound t p len)
    (cond (asked t p a).range (act_of t p (asked t p a)) (refused_of t p no.OutOfRange))
    (refused_of t p no.Invalid)
