-- `planned` meets its contract: what each plan asks follows from the call, as the action that was matched has it. Assumes nothing.
use mathlib.Core.Path.{refl, ap}
use native.Mathlib.Omega.{arith}
use Rattle.std.proofs.Common.{rules}
use Rattle.marks.proofs.Bools.{and_left}
use Rattle.rules.specs.Fits.{has_key}
use Rattle.table_laws.proofs.Obeys.{obeys}
use Rattle.table_plan.proofs.Called.{is-listed, low, slot_as, key-low, called_as, handed}
use Rattle.table_plan.proofs.planned.Goals as goal

pub overflow_cast-k : goal.overflow_cast-k
overflow_cast-k c = record { fits = key-low (called_as c.requires.1 c.in-Lookup.is) }

pub node_at-requires : goal.node_at-requires
node_at-requires c = slot_as c.requires.1 c.in-Lookup.is

pub overflow_cast-i : goal.overflow_cast-i
overflow_cast-i c = omega (arith, slot_as c.requires.1 c.in-Join.is)

pub node_at-requires-in-Join : goal.node_at-requires-in-Join
node_at-requires-in-Join c = slot_as c.requires.1 c.in-Join.is

pub node_at-requires-in-Join-2 : goal.node_at-requires-in-Join-2
node_at-requires-in-Join-2 c = let k = called_as c.requires.1 c.in-Join.is in low k _ (and_left _ _ k.range)

pub roster-requires : goal.roster-requires
roster-requires c = is-listed c.requires.1

pub roster-requires-in-LeaseExpired : goal.roster-requires-in-LeaseExpired
roster-requires-in-LeaseExpired c = is-listed c.requires.1

pub node_at-requires-in-GrantExpired : goal.node_at-requires-in-GrantExpired
node_at-requires-in-GrantExpired c = slot_as c.requires.1 c.in-GrantExpired.is

pub node_at-requires-in-GrantExpired-2 : goal.node_at-requires-in-GrantExpired-2
node_at-requires-in-GrantExpired-2 c = let k = called_as c.requires.1 c.in-GrantExpired.is in low k _ (and_left _ _ k.range)

pub roster-requires-in-Take : goal.roster-requires-in-Take
roster-requires-in-Take c = is-listed c.requires.1

pub node_at-requires-in-Take : goal.node_at-requires-in-Take
node_at-requires-in-Take c = omega (arith, (handed c.requires.1 c.requires.2 c.in-Take.is refl).0, (is-listed c.requires.1).n-high)

pub plan_take-requires : goal.plan_take-requires
plan_take-requires c = let h = handed c.requires.1 c.requires.2 c.in-Take.is refl in search (rules, h)

pub roster-requires-in-Deliver : goal.roster-requires-in-Deliver
roster-requires-in-Deliver c = is-listed c.requires.1

pub node_at-requires-in-Deliver : goal.node_at-requires-in-Deliver
node_at-requires-in-Deliver c = omega (arith, (handed c.requires.1 c.requires.2 c.in-Deliver.is refl).0, (is-listed c.requires.1).n-high)

pub plan_deliver-requires : goal.plan_deliver-requires
plan_deliver-requires c =
    let h = handed c.requires.1 c.requires.2 c.in-Deliver.is refl in
    (omega (arith, h.0, (is-listed c.requires.1).n-high), λ k. rw c.roster-in-Deliver.ensures.ring ((obeys _ _ h.1).key_in (ap has_key k)))

pub roster-requires-in-Forward : goal.roster-requires-in-Forward
roster-requires-in-Forward c = is-listed c.requires.1

pub node_at-requires-in-Forward : goal.node_at-requires-in-Forward
node_at-requires-in-Forward c = omega (arith, (handed c.requires.1 c.requires.2 c.in-Forward.is refl).0, (is-listed c.requires.1).n-high)

pub plan_forward-requires : goal.plan_forward-requires
plan_forward-requires c =
    let h = handed c.requires.1 c.requires.2 c.in-Forward.is refl in
    (omega (arith, h.0, (is-listed c.requires.1).n-high), λ k. rw c.roster-in-Forward.ensures.ring ((obeys _ _ h.1).key_in (ap has_key k)), h.2)

pub node_at-requires-in-NodeLeft : goal.node_at-requires-in-NodeLeft
node_at-requires-in-NodeLeft c = slot_as c.requires.1 c.in-NodeLeft.is

pub node_at-requires-in-SuspectFaulty : goal.node_at-requires-in-SuspectFaulty
node_at-requires-in-SuspectFaulty c = slot_as c.requires.1 c.in-SuspectFaulty.is

pub plan_suspect_faulty-requires : goal.plan_suspect_faulty-requires
plan_suspect_faulty-requires c = slot_as c.requires.1 c.in-SuspectFaulty.is

pub node_at-requires-in-ProbeTimeOut : goal.node_at-requires-in-ProbeTimeOut
node_at-requires-in-ProbeTimeOut c = slot_as c.requires.1 c.in-ProbeTimeOut.is

pub roster-requires-in-DeclareDead : goal.roster-requires-in-DeclareDead
roster-requires-in-DeclareDead c = is-listed c.requires.1

pub roster-requires-in-LSRepair : goal.roster-requires-in-LSRepair
roster-requires-in-LSRepair c = is-listed c.requires.1

pub node_at-requires-in-ResignNode : goal.node_at-requires-in-ResignNode
node_at-requires-in-ResignNode c = slot_as c.requires.1 c.in-ResignNode.is

pub node_at-requires-in-ResignNode-2 : goal.node_at-requires-in-ResignNode-2
node_at-requires-in-ResignNode-2 c = let k = called_as c.requires.1 c.in-ResignNode.is in low k _ (and_left _ _ k.range)

pub plan_resign_node-requires : goal.plan_resign_node-requires
plan_resign_node-requires c = slot_as c.requires.1 c.in-ResignNode.is

pub some_up-requires : goal.some_up-requires
some_up-requires c = (is-listed c.requires.1).n-high

pub roster-requires-in-Recover : goal.roster-requires-in-Recover
roster-requires-in-Recover c = is-listed c.requires.1
