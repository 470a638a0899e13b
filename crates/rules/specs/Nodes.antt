-- Nodes and messages as they stand in slots. Assumes nothing.
use Rattle.rules.specs.Names.{Slot}
use Rattle.rules.specs.declared.Status.TheVariants as status
use Rattle.rules.specs.declared.Node.{Node}
use Rattle.rules.specs.declared.Sides.{Sides}
use Rattle.rules.specs.declared.Message.{Message}

-- the node of a slot that is not listed
abbrev pub no_node : Node
no_node = record { id = 0; status = status.Dead; left = 0; right = 0; probing = 0; failed = 0; routing = 0; lease = 0; grant = 0 }

abbrev pub sides_of : Node → Sides
sides_of v = record { left = v.left; right = v.right }

abbrev pub carried_of : Message → Sides
carried_of m = record { left = m.left; right = m.right }

-- the same message for another destination
abbrev pub placed : Message → Slot → Message
placed m s = record
    { kind = m.kind; dest = s; word = m.word; flag = m.flag; owner = m.owner; hops = m.hops; routing = m.routing; left = m.left; right = m.right; failed = m.failed }
