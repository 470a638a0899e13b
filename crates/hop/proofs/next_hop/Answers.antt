-- `hop::next_hop` meets its contract: both branches are one search over the candidates of the branch taken (next_hop-nearest). Assumes
-- nothing.
use Rattle.marks.specs.Marks.{Found}
use mathlib.Core.Path.{◌≡◌, sym, ◌∙◌}
use mathlib.Core.Bool.{true, false, cond}
use mathlib.Core.List.{List}
use Prim.Native.Nat.{ℕ, ◌^◌, ◌<◌, ◌≤◌}
use native.Mathlib.Omega.{arith}
use borrow.Author.Tests.{lt-ltb, le-ltb}
use Rattle.ring.specs.Distance.{nearer}
use Rattle.ring.proofs.Order.{nearer-rank}
use Rattle.ring.specs.InnerRank.{rank}
use Rattle.rules.specs.declared.Node.{Node}
use Rattle.rules.specs.declared.Ring.{Ring}
use Rattle.rules.specs.declared.Way.TheVariants.{Near}
use Rattle.rules.specs.Hop.{by_leaf, leaf_candidates, route_candidates, next_hop, to_nearer}
use Rattle.rules.specs.Pick.{best_of}
use Rattle.rules_laws.proofs.Best.{best_low}
use Rattle.rules_laws.proofs.Hops.{candidates_of, next_hop-nearest}
use Rattle.hop.proofs.next_hop.Goals as goal

-- the ranks x of a and y of b compare them
closer : (N k a b x y : ℕ) → x ≡ rank N k a → y ≡ rank N k b → x < y → nearer N k a b ≡ true
closer N k a b x y p q h = nearer-rank N k a b ∙ rw (← p, ← q) (lt-ltb x y h)

no-closer : (N k a b x y : ℕ) → x ≡ rank N k a → y ≡ rank N k b → y ≤ x → nearer N k a b ≡ false
no-closer N k a b x y p q h = nearer-rank N k a b ∙ rw (← p, ← q) (le-ltb x y h)

-- the next hop is what the search finds among the candidates, where it is nearer
hop-is : (g : Ring) (ids : List ℕ) (dead i : ℕ) (v : Node) (k set : ℕ) (f : Found)
    → set ≡ cond (by_leaf g ids i v) (leaf_candidates dead i v) (route_candidates dead i v) → f ≡ best_of Near (2 ^ g.m) k ids set
    → next_hop g ids dead i v k ≡ to_nearer g ids i k f
unfolding candidates_of
hop-is g ids dead i v k set f p q = rw (next_hop-nearest, q, p)

pub returns-in_default : goal.returns-in_default
returns-in_default c = rw (hop-is _ _ _ _ _ _ _ _ c.candidates-set.ensures c.best.ensures, c.in_default.is)

pub offset_bounds-r-h : goal.offset_bounds-r-h
offset_bounds-r-h c = omega (arith, best_low _ _ _ (sym c.best.ensures ∙ c.in-Some.is))

pub bounds-r-h : goal.bounds-r-h
bounds-r-h c = best_low _ _ _ (sym c.best.ensures ∙ c.in-Some.is)

pub returns-then-there-here : goal.returns-then-there-here
returns-then-there-here c = let e = closer _ _ _ _ _ _ c.rank-there.ensures c.rank-here.ensures (omega arith) in
    rw (hop-is _ _ _ _ _ _ _ _ c.candidates-set.ensures c.best.ensures, c.in-Some.is, e)

pub returns-else-there-here : goal.returns-else-there-here
returns-else-there-here c = let e = no-closer _ _ _ _ _ _ c.rank-there.ensures c.rank-here.ensures (omega arith) in
    rw (hop-is _ _ _ _ _ _ _ _ c.candidates-set.ensures c.best.ensures, c.in-Some.is, e)
