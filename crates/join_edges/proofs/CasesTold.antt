-- What the computed joins of Cases show: two that join at once end with two holders of one key, so the promise of joins in turn is not kept of any joins, and is
-- lost before the end; joins one after the other end with all ready. Assumes nothing.
use Rattle.std.specs.Prelude.{Ok}
use mathlib.Core.Path.{◌≡◌}
use mathlib.Core.Bool.{true}
use mathlib.Core.List.{List, [], ◌∷◌, ◌++◌}
use Prim.Native.Nat.{ℕ}
use native.Mathlib.Omega.{arith}
use Rattle.marks.proofs.Bools.{opposed}
use Rattle.rules.specs.declared.Action.{Action}
use Rattle.rules.specs.Pool.{laid}
use Rattle.table_type.specs.declared.Table.{Table}
use Rattle.table_type.specs.Start.{start_of}
use Rattle.join_laws.specs.Clauses.{Clauses}
use Rattle.join_laws.specs.Claims.{Patient, Throughout, Held}
use Rattle.join_laws.proofs.Proved.{clauses-held}
use Rattle.join_laws.proofs.Tests.{ran, turns-told, turns-of, after_first, at_last}
use Rattle.join_edges.proofs.Cases.{Shows, begun, at_once, in_turn, middle, told, alone, one_by_one, all_ready, computed, started}

pub two_at_once : Shows (ran at_once begun) (ran in_turn middle)
two_at_once = told (ran at_once begun) (ran in_turn middle) computed.0

pub one_by_one_lem : all_ready (ran one_by_one alone) ≡ true
one_by_one_lem = computed.1

-- ---- what follows

-- a Join is done while another is wait
pub not-in-turn : Patient begun.table begun.pool at_once → ⊥
not-in-turn h = opposed (turns-of at_once begun h) two_at_once.first-turns

-- the promise is not kept to the end
at-end : Throughout Held middle.table middle.pool in_turn → ⊥
at-end h =
    let c = two_at_once.end in
    let same : ◌≡◌ {A = ℕ} 1 3 =
    (at_last Held in_turn middle h).one 6 1 3 c.key c.one-ready c.other-ready c.one_covers c.other-covers in
    omega arith

-- without the hypothesis on Join the promise is not kept
abbrev pub AnyJoins : Type 0
AnyJoins =
    (m l : ℕ) (ids : List ℕ) (a : ℕ) (t : Table) (acts : List Action) → start_of m l ids a ≡ Ok t → Throughout Held t (laid []) acts

pub joins-at-once : AnyJoins → ⊥
joins-at-once any = at-end (after_first Held at_once in_turn begun (any 4 1 (0 ∷ 1 ∷ 2 ∷ 9 ∷ 14 ∷ []) 17 begun.table (at_once ++ in_turn) started))

-- and half-way, with nobody wait, the clauses are broken already: the rest joins in turn
pub middle-broken : Clauses middle.table middle.pool → ⊥
middle-broken c =
    at-end (clauses-held middle.table middle.pool in_turn two_at_once.half-way.valid c
    (turns-told in_turn middle two_at_once.rest-turns))
