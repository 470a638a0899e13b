-- What every action shares: it is refused and changes nothing, or it leaves a node and adds messages, and says where the next hop came from. Assumes nothing.
use Rattle.rules.specs.Shapes.{Planned}
use Rattle.std.specs.Prelude.{cond, List, leb, length, Ok, Err}
use Rattle.rules.specs.Names.{Slot}
use Rattle.rules.specs.declared.Message.{Message}
use Rattle.rules.specs.declared.Pool.{Pool}
use Rattle.rules.specs.declared.Refusal.{Refusal}
use Rattle.rules.specs.declared.Refusal.TheVariants as no
use Rattle.rules.specs.declared.Plan.{Plan}
use Rattle.rules.specs.declared.Via.{Via}
use Rattle.rules.specs.declared.Via.TheVariants.{Unrouted}
use Rattle.rules.specs.Limits.{messages_high}
use Rattle.rules.specs.Pool.{laid}
use Rattle.rules.specs.Plans.{mailed}
use Rattle.table_type.specs.declared.Table.{Table}
use Rattle.table_type.specs.declared.Stepped.{Stepped}
use Rattle.table_type.specs.Table.{with_node}

abbrev pub refused_of : Table → Pool → Refusal → Stepped
refused_of t p why = record { answer = Err why; table = t; pool = p; via = Unrouted }

-- T-01: done, and where the next hop came from
abbrev pub done_by : Via → Table → Pool → Stepped
done_by via t p = record { answer = Ok tt; table = t; pool = p; via = via }

-- done, and nothing was routed
abbrev pub done_of : Table → Pool → Stepped
done_of t p = done_by Unrouted t p

-- 6 if the pool after the step would exceed 256; else node i and the pool are those of the plan, and the answer says what the plan does of the hop
unfoldable pub carried_out : Table → Pool → List Message → Slot → Plan → Stepped
carried_out t p ys i x = cond (leb (length (mailed x ys)) messages_high) (done_by x.via (with_node t i x.node) (laid (mailed x ys))) (refused_of t p no.Full)

-- the table t, the pool p that a refusal leaves, the messages ys that wait when additions begin, the node's slot, and what is planned
unfoldable pub settle : Table → Pool → List Message → Slot → Planned → Stepped
settle t p ys i (Err why) = refused_of t p why
settle t p ys i (Ok x) = carried_out t p ys i x
