-- The answers. Assumes nothing.
use native.Mathlib.Omega.{arith}
use Rattle.rules.specs.Nodes.{no_node}
use Rattle.start.specs.Start.{start_node}
use Rattle.table_type.proofs.Starts.{start-nodes-long, start-node-at, start-node-past}
use Rattle.table_type.proofs.Laws.{fill-begin, fill_more, fill_end}
use Rattle.table_type.proofs.start_nodes.Goals as goal

pub loop-s-init : goal.loop-s-init
loop-s-init c = let a = c.args in
    fill-begin no_node (start_node a.r.now.ring a.r.now.ids a.a) c.no_node-none.result c.no_node-none.ensures

pub loop-s-preserved : goal.loop-s-preserved
loop-s-preserved c = let a = c.args in
    rw c.start_node.ensures (fill_more no_node (start_node a.r.now.ring a.r.now.ids a.a) c.loop-s.s c.loop-s.nodes (omega arith) c.loop-s.invariant)

pub returns : goal.returns
returns c = let a = c.args in
    fill_end no_node (start_node a.r.now.ring a.r.now.ids a.a) c.loop-s.s c.loop-s.nodes _ c.loop-s.invariant
    (start-nodes-long a.r.now.ring a.r.now.ids a.a) (λ i h. start-node-at a.r.now.ring a.r.now.ids a.a i (omega arith) (omega arith))
    (λ i h k. start-node-past a.r.now.ring a.r.now.ids a.a i (omega arith) k)
