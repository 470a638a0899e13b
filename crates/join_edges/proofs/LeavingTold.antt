-- What the computed cases of Leaving show: where a node leaves the clauses are not kept, and without the hypothesis that bars departures the promise is not.
-- Assumes nothing.
use Rattle.std.specs.Prelude.{Ok}
use mathlib.Core.Path.{◌≡◌, refl}
use mathlib.Core.Bool.{◌&&◌}
use mathlib.Core.List.{List, [], ◌∷◌}
use Prim.Native.Nat.{ℕ}
use native.Mathlib.Omega.{arith}
use Rattle.rules.specs.declared.Action.{Action}
use Rattle.rules.specs.Pool.{laid}
use Rattle.table_type.specs.declared.Table.{Table}
use Rattle.table_type.specs.Start.{start_of}
use Rattle.table_laws.proofs.Nodes.{both}
use Rattle.join_laws.specs.Claims.{Throughout, Held}
use Rattle.join_laws.specs.Clauses.{Clauses}
use Rattle.join_laws.specs.Safe.{nobody_waits}
use Rattle.join_laws.proofs.Tests.{ran, none_told, at_last}
use Rattle.join_edges.proofs.Leaving.{begun, rest, one_joins, end-told, left, knows_dead, dead-told, leaving, started, JoinsPatient, nobody-patient}

-- where a node leaves the clauses are not kept
pub left-broken : Clauses left.left.table left.left.pool → ⊥
left-broken = dead-told left.left.table left.left.pool (both left.done (knows_dead left.left.table) leaving.known_dead).1

-- without the hypothesis that bars them the promise is not kept
abbrev pub AnyLeaves : Type 0
AnyLeaves =
    (m l : ℕ) (ids : List ℕ) (a : ℕ) (t : Table) (acts : List Action) → start_of m l ids a ≡ Ok t
    → JoinsPatient t (laid []) acts → Throughout Held t (laid []) acts

pub joins-and-leaves : AnyLeaves → ⊥
joins-and-leaves any =
    let shown = both (nobody_waits begun.table && (ran one_joins begun).done) _ leaving.two-cover in
    let before = (both (nobody_waits begun.table) (ran one_joins begun).done shown.0).0 in
    let c = end-told (ran one_joins begun).left.table shown.1 in
    let patient : JoinsPatient begun.table begun.pool one_joins =
    (λ i seed join done. none_told begun.table before, nobody-patient rest _ _ refl) in
    let h = any 5 2 (5 ∷ 17 ∷ 18 ∷ []) 3 begun.table one_joins started patient in
    let same : ◌≡◌ {A = ℕ} 1 2 =
    (at_last Held one_joins begun h).one 17 1 2 c.key c.one-ready c.other-ready c.one_covers c.other-covers in
    omega arith
