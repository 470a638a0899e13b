-- Answers for the computed cases, in the small rings of rules. Definitions only. Assumes nothing.
use Rattle.rules.specs.Shapes.{Planned}
use Rattle.std.specs.Prelude.{Ok, Err}
use mathlib.Core.List.{List, [], ◌∷◌}
use Prim.Native.Nat.{ℕ}
use Rattle.rules.specs.declared.Status.{Status}
use Rattle.rules.specs.declared.Status.TheVariants as is
use Rattle.rules.specs.declared.Node.{Node}
use Rattle.rules.specs.declared.Message.{Message}
use Rattle.rules.specs.declared.Via.{Via}
use Rattle.rules.specs.declared.Via.TheVariants.{Unrouted}
use Rattle.rules.specs.Numbers.{refusal_number}
use Rattle.rules.specs.Nodes.{no_node}
use Rattle.rules.specs.Plans.{mailed}
use Rattle.plan.specs.Actions.{plan_lookup, plan_join, lease_plan, plan_request_lease, is_neighbour, plan_lease_expired, plan_grant_expired}
use Rattle.plan.specs.Leave.{plan_node_left, plan_suspect_faulty, plan_probe_time_out, plan_declare_dead, ends_to_probe, plan_ls_repair}
use Rattle.plan.specs.Leave.{plan_resign_node, last_end, plan_recover}
use Rattle.rules.proofs.Small.{opened as opened_rules}

-- to unfold this is to unfold all that these plans compute with
unfoldable pub opened : Unit {0}
unfolding opened_rules plan_lookup plan_join lease_plan plan_request_lease is_neighbour plan_lease_expired plan_grant_expired plan_node_left
    plan_suspect_faulty plan_probe_time_out plan_declare_dead ends_to_probe plan_ls_repair plan_resign_node last_end plan_recover
opened = tt

-- the number of a plan: 0 where it is made
abbrev pub number_of : Planned → ℕ
number_of (Err why) = refusal_number why
number_of (Ok x) = 0

-- the numbers at each status: dead, wait, ok, ready
abbrev pub at_each : (Status → Planned) → List ℕ
at_each f = number_of (f is.Dead) ∷ number_of (f is.Wait) ∷ number_of (f is.Ok) ∷ number_of (f is.Ready) ∷ []

-- what a plan leaves of its node, and what it adds where nothing waits, in order
abbrev pub made : Planned → Node × List Message
made (Err why) = (no_node, [])
made (Ok x) = (x.node, mailed x [])

-- where a plan says that the next hop came from
abbrev pub said_by : Planned → Via
said_by (Err why) = Unrouted
said_by (Ok x) = x.via
