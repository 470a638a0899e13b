-- `over_holder::covered_by` meets its contract: each turn tells of its slot, with the roster of the table. Assumes nothing.
use mathlib.Core.Path.{◌≡◌, sym, ◌∙◌}
use mathlib.Core.Bool.{Bool, ◌&&◌}
use mathlib.Core.List.{List}
use Prim.Native.Nat.{ℕ}
use native.Mathlib.Omega.{arith}
use Rattle.marks.proofs.Laws.{first-at, first-nothing, none_more}
use Rattle.rules.specs.declared.Ring.{Ring}
use Rattle.rules.specs.Leaf.{covers_of}
use Rattle.rules.specs.Nodes.{sides_of}
use Rattle.rules.specs.Plans.{is_ready}
use Rattle.table_type.specs.declared.Table.{Table}
use Rattle.table_type.specs.Table.{node_at, ids_of, ring_of}
use Rattle.holder.specs.Holder.{ready_covers, covered_by}
use Rattle.over_holder.proofs.covered_by.Goals as goal

told : (t : Table) (k s : ℕ) (g : Ring) (ids : List ℕ) (r : Bool) → g ≡ ring_of t → ids ≡ ids_of t
    → r ≡ (is_ready (node_at t s).status && covers_of g ids s (sides_of (node_at t s)) k) → ready_covers t k s ≡ r
told t k s g ids r p q e = sym (e ∙ rw (p, q))

pub loop-s-init : goal.loop-s-init
loop-s-init c = record { none = λ i l. absurd (omega arith) }

pub offset_bounds-t-s : goal.offset_bounds-t-s
offset_bounds-t-s c = omega (arith, c.requires.0.n-high)

pub bounds-t-s : goal.bounds-t-s
bounds-t-s c = omega (arith, c.requires.0.n-high)

pub covers_at-requires : goal.covers_at-requires
covers_at-requires c = (omega (arith, c.requires.0.n-high), rw c.roster-r.ensures.ring c.requires.1)

pub returns-then-covers_at : goal.returns-then-covers_at
unfolding covered_by
returns-then-covers_at c =
    let turn = told c.args.t c.args.k c.loop-s.s _ _ _ c.roster-r.ensures.ring c.roster-r.ensures.ids c.covers_at.ensures in
    sym (first-at c.args.t.n (ready_covers c.args.t _) c.loop-s.s (omega arith) (turn ∙ c.if-covers_at.true) c.loop-s.invariant.none)

pub loop-s-preserved : goal.loop-s-preserved
loop-s-preserved c =
    let turn = told c.args.t c.args.k c.loop-s.s _ _ _ c.roster-r.ensures.ring c.roster-r.ensures.ids c.covers_at.ensures in
    none_more _ c.loop-s.s c.loop-s.invariant (turn ∙ c.if-covers_at.false)

pub returns : goal.returns
unfolding covered_by
returns c = sym (first-nothing c.args.t.n (ready_covers c.args.t _) (λ i h. c.loop-s.invariant.none i (omega arith)))
