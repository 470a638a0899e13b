-- What the computed cases open. Assumes nothing.
use Rattle.take.specs.Take.{plan_deliver, plan_forward, plan_take_join_request, plan_take_join_reply, probes2, probes_of, probe_plan_of, plan_take_probe}
use Rattle.take.specs.Take.{status_after_reply, reply_plan_of, plan_take_probe_reply, plan_take_lease_request, broadcast_plan, plan_take_broadcast, plan_take}
use Rattle.plan.proofs.Small.{opened as opened_plans}

-- to unfold this is to unfold all that the taking of a message computes with
unfoldable pub opened : Unit {0}
unfolding opened_plans plan_deliver plan_forward plan_take_join_request plan_take_join_reply probes2 probes_of probe_plan_of plan_take_probe
    status_after_reply reply_plan_of plan_take_probe_reply plan_take_lease_request broadcast_plan plan_take_broadcast plan_take
opened = tt
