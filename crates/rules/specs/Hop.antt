-- The next hop for a key k at node i, and where it came from (T-01). Definitions only, each under 01's or 02's sentence; dead is the set of the dead nodes.
-- Their laws are in crate rules. Assumes nothing.
use Rattle.std.specs.Prelude.{Bool, cond, ◌&&◌, ◌||◌, ◌^◌, leb, Some, None}
use Rattle.ring.specs.Distance.{fall_of, nearer}
use Rattle.marks.specs.Marks.{has, union, without, Found}
use Rattle.rules.specs.Names.{Slot, Marks, Ids, Key}
use Rattle.rules.specs.declared.Way.TheVariants.{Near}
use Rattle.rules.specs.Pick.{id_at, ahead_of, best, best_of}
use Rattle.rules.specs.declared.Ring.{Ring}
use Rattle.rules.specs.declared.Node.{Node}
use Rattle.rules.specs.Nodes.{sides_of}
use Rattle.rules.specs.Leaf.{content_of, overlaps, leftmost, rightmost}
use Rattle.rules.specs.declared.Hop.{Hop}
use Rattle.rules.specs.declared.Hop.TheVariants.{To, NoRoute}
use Rattle.rules.specs.declared.Via.{Via}
use Rattle.rules.specs.declared.Via.TheVariants as via

-- some nodes without failed and dead
abbrev pub legal_of : Marks → Node → Marks → Marks
legal_of dead v set = without (without set v.failed) dead

-- leaf candidates: content without failed and dead
unfoldable pub leaf_candidates : Marks → Slot → Node → Marks
leaf_candidates dead i v = legal_of dead v (content_of (sides_of v) i)

-- content and routing set, without failed and dead
unfoldable pub route_candidates : Marks → Slot → Node → Marks
route_candidates dead i v = legal_of dead v (union (content_of (sides_of v) i) v.routing)

-- the sides overlap, or Fall(leftmost, i) ≤ Fall(leftmost, rightmost)
unfoldable pub by_leaf : Ring → Ids → Slot → Node → Bool
by_leaf g ids i v =
    let s = sides_of v in
    let l = id_at ids (leftmost g ids i s) in
    overlaps s || leb (fall_of (2 ^ g.m) l (id_at ids i)) (fall_of (2 ^ g.m) l (id_at ids (rightmost g ids i s)))

-- s is nearer to k than i
abbrev pub nearer_than_owner : Ring → Ids → Slot → Key → Slot → Bool
nearer_than_owner g ids i k s = nearer (2 ^ g.m) k (id_at ids s) (id_at ids i)

-- a node that was found, where it is nearer than i
abbrev pub to_nearer : Ring → Ids → Slot → Key → Found → Hop
to_nearer g ids i k (Some h) = cond (nearer_than_owner g ids i k h) (To h) NoRoute
to_nearer g ids i k None = NoRoute

abbrev pub to_found : Found → Hop
to_found (Some h) = To h
to_found None = NoRoute

-- the nearest leaf candidate; no legal route where none is nearer than i
unfoldable pub leaf_hop : Ring → Ids → Marks → Slot → Node → Key → Hop
leaf_hop g ids dead i v k = to_nearer g ids i k (best_of Near (2 ^ g.m) k ids (leaf_candidates dead i v))

-- the nearest among content and routing set, without failed and dead, of those nearer than i; no legal route where there is none
unfoldable pub route_hop : Ring → Ids → Marks → Slot → Node → Key → Hop
route_hop g ids dead i v k = to_found (best (ahead_of Near (2 ^ g.m) k ids) (λ s. has (route_candidates dead i v) s && nearer_than_owner g ids i k s) 64)

-- if the sides overlap, or Fall(leftmost, i) ≤ Fall(leftmost, rightmost): by the leaf set; otherwise by content and routing set
unfoldable pub next_hop : Ring → Ids → Marks → Slot → Node → Key → Hop
next_hop g ids dead i v k = cond (by_leaf g ids i v) (leaf_hop g ids dead i v k) (route_hop g ids dead i v k)

-- T-01: the next hop h is to say whether it came from the leaf set or the routing set; a node in both counts as leaf set
unfoldable pub via_of : Slot → Node → Slot → Via
via_of i v h = cond (has (content_of (sides_of v) i) h) via.Leaf via.Routing
