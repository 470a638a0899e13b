-- What plans are made of: tests of a status, a node with some fields changed, and the messages that a plan adds. Assumes nothing.
use Rattle.marks.specs.Marks.{Found}
use Rattle.std.specs.Prelude.{Bool, true, false, List, Some, None}
use Rattle.rules.specs.Names.{Slot, Marks}
use Rattle.rules.specs.declared.Status.{Status}
use Rattle.rules.specs.Numbers.{by_status}
use Rattle.rules.specs.declared.Node.{Node}
use Rattle.rules.specs.declared.Sides.{Sides}
use Rattle.rules.specs.declared.Message.{Message}
use Rattle.rules.specs.Nodes.{placed}
use Rattle.rules.specs.Pool.{blank}
use Rattle.rules.specs.Mail.{added, sent}
use Rattle.rules.specs.declared.Plan.{Plan}
use Rattle.rules.specs.declared.Via.{Via}
use Rattle.rules.specs.declared.Via.TheVariants.{Unrouted}

-- ---- statuses

abbrev pub is_dead : Status → Bool
is_dead s = by_status true false false false s

abbrev pub is_wait : Status → Bool
is_wait s = by_status false true false false s

abbrev pub is_ok : Status → Bool
is_ok s = by_status false false true false s

abbrev pub is_ready : Status → Bool
is_ready s = by_status false false false true s

-- ok or ready
abbrev pub is_up : Status → Bool
is_up s = by_status false false true true s

-- ---- a node with some fields changed

abbrev pub with_status : Node → Status → Node
with_status v s =
    record { id = v.id; status = s; left = v.left; right = v.right; probing = v.probing; failed = v.failed; routing = v.routing; lease = v.lease; grant = v.grant }

abbrev pub with_leases : Node → Marks → Marks → Status → Node
with_leases v lease grant s =
    record { id = v.id; status = s; left = v.left; right = v.right; probing = v.probing; failed = v.failed; routing = v.routing; lease = lease; grant = grant }

-- T-03: with other nodes probed
abbrev pub with_probing : Node → Marks → Node
with_probing v probing =
    record { id = v.id; status = v.status; left = v.left; right = v.right; probing = probing; failed = v.failed; routing = v.routing; lease = v.lease; grant = v.grant }

-- T-03: with another leaf set
abbrev pub with_sides : Node → Sides → Status → Node
with_sides v s st =
    record { id = v.id; status = st; left = s.left; right = s.right; probing = v.probing; failed = v.failed; routing = v.routing; lease = v.lease; grant = v.grant }

-- ---- plans

-- the node, and nothing added
abbrev pub quiet_plan : Node → Plan
quiet_plan v = record { node = v; first = blank; to = None; each = blank; all = 0; via = Unrouted }

-- T-01: the node, and one message to one slot, said to go there by `via`
abbrev pub send_by : Via → Node → Message → Slot → Plan
send_by via v m s = record { node = v; first = m; to = Some s; each = blank; all = 0; via = via }

-- the same, where nothing is routed
abbrev pub send_plan : Node → Message → Slot → Plan
send_plan v m s = send_by Unrouted v m s

-- a message to a slot, if there is one
abbrev pub added_to : Found → Message → List Message → List Message
added_to (Some s) m ys = added ys (placed m s)
added_to None m ys = ys

-- what waits after the plan, where ys waited before it
unfoldable pub mailed : Plan → List Message → List Message
mailed x ys = sent x.each x.all (added_to x.to x.first ys)
