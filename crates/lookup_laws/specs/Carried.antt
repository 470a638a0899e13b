-- T-07: what the hop number that a Lookup carries says of its journey. Only definitions and statements: the proofs are named in Proved. Assumes nothing.
use Rattle.marks.specs.Marks.{Found}
use Rattle.std.specs.Prelude.{◌≡◌, true, List, [], ◌∷◌, ◌+◌, ◌-◌, ◌≤◌, Some, None, Ok}
use Rattle.rules.specs.Names.{Slot, Key, Place}
use Rattle.rules.specs.declared.Pool.{Pool}
use Rattle.rules.specs.declared.Action.{Action}
use Rattle.rules.specs.declared.Action.TheVariants.{Lookup}
use Rattle.table_type.specs.declared.Table.{Table}
use Rattle.table.specs.Valid.{valid_of}
use Rattle.lookup_laws.specs.Journey.{stepped, hops_at, LookupAt, Fate, stays, routed, met, delivered, unroutable, fate_of, routings}
use Rattle.lookup_laws.specs.Pair.{pool_after}

abbrev pub waiting_by : Fate → (Place → Found) → Found
waiting_by (stays q) rest = rest q
waiting_by (routed h q) rest = rest q
waiting_by (met h r) rest = None
waiting_by delivered rest = None
waiting_by unroutable rest = None

-- where the lookup at place q waits after these actions; nowhere, if it was delivered, became NoLegalRoute or met its equal
unfoldable pub place_after : Table → Pool → List Action → Place → Found
place_after t p [] q = Some q
place_after t p (a ∷ acts) q = waiting_by (fate_of t p q a) (place_after (stepped t p a).table (stepped t p a).pool acts)

-- along any actions its number grows by the routings made, where it met no equal
abbrev pub CountsRoutings : Type 0
CountsRoutings =
    (t : Table) (p : Pool) (q : Place) (k : Key) (d : Slot) (acts : List Action) (r : Place) → valid_of t p ≡ true → LookupAt p q k d → place_after t p acts q ≡ Some r
    → hops_at (pool_after t p acts) r ≡ hops_at p q + routings t p acts q

-- a Lookup is issued with 0, behind all that waited
abbrev pub IssuedAtNone : Type 0
IssuedAtNone = (t : Table) (p : Pool) (i : Slot) (k : Key) → (stepped t p (Lookup i k)).answer ≡ Ok tt
    → LookupAt (stepped t p (Lookup i k)).pool p.count k i × (hops_at (stepped t p (Lookup i k)).pool p.count ≡ 0)

-- so the number is that of the routings made since issue, where it met no equal
abbrev pub SinceIssue : Type 0
SinceIssue =
    (t : Table) (p : Pool) (i : Slot) (k : Key) (acts : List Action) (r : Place) → (stepped t p (Lookup i k)).answer ≡ Ok tt
    → place_after (stepped t p (Lookup i k)).table (stepped t p (Lookup i k)).pool acts p.count ≡ Some r
    → hops_at (pool_after (stepped t p (Lookup i k)).table (stepped t p (Lookup i k)).pool acts) r
    ≡ routings (stepped t p (Lookup i k)).table (stepped t p (Lookup i k)).pool acts p.count

-- and at most n - 1
abbrev pub FewCarried : Type 0
FewCarried = (t : Table) (p : Pool) (q : Place) (k : Key) (d : Slot) → valid_of t p ≡ true → LookupAt p q k d → hops_at p q ≤ t.n - 1
