-- The answers. Assumes nothing.
use mathlib.Core.Path.{◌≡◌, refl, sym, ◌∙◌}
use mathlib.Core.List.{List}
use Prim.Native.Nat.{ℕ}
use native.Mathlib.Omega.{arith}
use Rattle.marks.specs.Marks.{all_to}
use Rattle.marks.proofs.Laws.{more}
use Rattle.rules.specs.declared.Node.{Node}
use Rattle.rules.specs.declared.Ring.{Ring}
use Rattle.table_type.specs.declared.Table.{Table}
use Rattle.table_type.specs.Table.{ids_of, ring_of}
use Rattle.table.specs.Settled.{ready_set, settled_at}
use Rattle.table_settled.proofs.Laws.{calm_in, calm-ready, calm-dead, calm-other, settled-none, settled-not, settled-all}
use Rattle.table_settled.proofs.is_settled_table.Goals as goal
use Rattle.table_settled.proofs.is_settled_table.Goals.{in-Ready, in-Dead, in_default}

-- what was asked once, before the loop, is of the table
asked : (g : Ring) (ids : List ℕ) (ready i : ℕ) (v : Node) (t : Table) → g ≡ ring_of t → ids ≡ ids_of t → ready ≡ ready_set t
    → settled_at g ids ready i v ≡ settled_at (ring_of t) (ids_of t) (ready_set t) i v
asked g ids ready i v t p q e = rw (p, q, e)

pub returns-then-ready-eq0 : goal.returns-then-ready-eq0
returns-then-ready-eq0 c = sym (settled-none c.args.t (sym c.ready_set-ready.ensures ∙ c.if-ready-eq0.true))

pub loop-i-init : goal.loop-i-init
unfolding all_to
loop-i-init c = refl

pub returns-then-not-calm : goal.returns-then-not-calm
returns-then-not-calm c = let t = c.args.t in
    let turn : calm_in t c.loop-i.i ≡ c.match-v.calm =
    elim c.match-v.branch [
      | in-Ready w ↦ calm-ready _ _ w.in-Ready.is
          ∙ sym (w.calm-is ∙ w.settled_at-calm.ensures ∙ asked _ _ _ _ _ t c.roster-r.ensures.ring c.roster-r.ensures.ids c.ready_set-ready.ensures)
      | in-Dead w ↦ calm-dead _ _ w.in-Dead.is ∙ sym w.calm-is
      | in_default w ↦ calm-other _ _ w.in_default.not-Ready w.in_default.not-Dead ∙ sym w.calm-is
    ] in
    sym (settled-not t c.loop-i.i (omega arith) (turn ∙ c.if-not-calm.true))

pub loop-i-preserved : goal.loop-i-preserved
loop-i-preserved c = let t = c.args.t in
    let turn : calm_in t c.loop-i.i ≡ c.match-v.calm =
    elim c.match-v.branch [
      | in-Ready w ↦ calm-ready _ _ w.in-Ready.is
          ∙ sym (w.calm-is ∙ w.settled_at-calm.ensures ∙ asked _ _ _ _ _ t c.roster-r.ensures.ring c.roster-r.ensures.ids c.ready_set-ready.ensures)
      | in-Dead w ↦ calm-dead _ _ w.in-Dead.is ∙ sym w.calm-is
      | in_default w ↦ calm-other _ _ w.in_default.not-Ready w.in_default.not-Dead ∙ sym w.calm-is
    ] in
    more c.loop-i.i (calm_in t) c.loop-i.invariant (turn ∙ c.if-not-calm.false)

pub returns : goal.returns
returns c = sym (settled-all c.args.t c.loop-i.i (λ z. c.if-ready-eq0.false (c.ready_set-ready.ensures ∙ z)) (omega arith) c.loop-i.invariant)
