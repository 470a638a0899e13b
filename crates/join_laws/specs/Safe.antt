-- Beside 01: the clauses as a test of a table and its pool, and what a fitter asks before a node joins: they hold, and nobody is wait. Definitions
-- only, each the test of a definition of Clauses: Safely proves that it passes exactly where that holds. Assumes nothing.
use Rattle.std.specs.Prelude.{Bool, ◌&&◌, ◌||◌, not, ℕ, eqb, leb, ltb}
use Rattle.marks.specs.Marks.{has, all_to}
use Rattle.rules.specs.Names.{Slot, Marks, Ids}
use Rattle.rules.specs.declared.Ring.{Ring}
use Rattle.rules.specs.declared.Sides.{Sides}
use Rattle.rules.specs.declared.Message.{Message}
use Rattle.rules.specs.declared.Pool.{Pool}
use Rattle.rules.specs.Leaf.{content_of, is_empty, way_up, way_down}
use Rattle.rules.specs.Nodes.{sides_of, carried_of}
use Rattle.rules.specs.Plans.{is_dead, is_wait, is_up}
use Rattle.rules.specs.Pool.{message_at}
use Rattle.table_type.specs.declared.Table.{Table}
use Rattle.table_type.specs.Table.{node_at}
use Rattle.join_laws.specs.Clauses.{View, view_of}

-- b where a
abbrev pub implies : Bool → Bool → Bool
implies a b = not a || b

-- some slot below n passes a test
abbrev pub some_to : ℕ → (Slot → Bool) → Bool
some_to n f = not (all_to n (λ s. not (f s)))

-- ---- words

abbrev pub empties : View → Slot → Bool
empties t i = is_empty (sides_of (t.at i))

-- i is listed and wait, or its leaf set is not empty
abbrev pub joins : View → Slot → Bool
joins t i = (ltb i t.ring.n && is_wait (t.at i).status) || not (empties t i)

abbrev pub within : (Slot → ℕ) → ℕ → Marks → Slot → Bool
within f n set y = some_to n (λ u. has set u && leb (f u) (f y))

unfoldable pub guards : Ring → Ids → Slot → Sides → Slot → Bool
guards g ids x s y = within (way_up g ids x) g.n s.left y && within (way_down g ids x) g.n s.right y

abbrev pub guards_in : View → Slot → Slot → Bool
guards_in t x y = guards t.ring t.ids x (sides_of (t.at x)) y

abbrev pub carries : Message → Slot → Bool
carries m y = has (content_of (carried_of m) m.owner) y

-- ---- clauses 1 to 4

-- 1, 2, 3 and 4 of two slots
abbrev pub one_of : View → Slot → Slot → Bool
one_of t i j = implies (is_wait (t.at i).status && is_wait (t.at j).status) (eqb i j)

abbrev pub members_of : View → Slot → Slot → Bool
members_of t x e = implies (is_up (t.at x).status || (is_wait (t.at x).status && not (empties t x)))
    (implies (is_up (t.at e).status && not (eqb e x)) (guards_in t x e))

abbrev pub known_of : View → Slot → Slot → Bool
known_of t x y = implies (not (is_dead (t.at x).status) && (has (t.at x).left y || has (t.at x).right y))
    (not (is_dead (t.at y).status) && guards_in t x y)

abbrev pub joiner_of : View → Slot → Slot → Bool
joiner_of t i e = implies ((is_wait (t.at i).status && not (empties t i)) && is_up (t.at e).status) (has (t.at i).probing e || guards_in t e i)

abbrev pub pair_of : View → Slot → Slot → Bool
pair_of t x y = (one_of t x y && members_of t x y) && (known_of t x y && joiner_of t x y)

unfoldable pub is_calm : View → Bool
is_calm t = all_to t.ring.n (λ x. eqb (t.at x).failed 0 && all_to t.ring.n (λ y. pair_of t x y))

-- ---- clauses 5 to 9

abbrev pub blank_in : View → Slot → Bool
blank_in t i = (ltb i t.ring.n && is_wait (t.at i).status) && empties t i

abbrev pub introduces_to : View → Slot → Message → Slot → Bool
introduces_to t i m e = implies (carries m e) (is_up (t.at e).status)
    && implies (is_up (t.at e).status)
    (some_to t.ring.n (λ u. carries m u && leb (way_up t.ring t.ids i u) (way_up t.ring t.ids i e))
    && some_to t.ring.n (λ u. carries m u && leb (way_down t.ring t.ids i u) (way_down t.ring t.ids i e)))

unfoldable pub introduces : View → Slot → Message → Bool
introduces t i m = all_to t.ring.n (introduces_to t i m)

abbrev pub lives : View → Slot → Bool
lives t i = ltb i t.ring.n && not (is_dead (t.at i).status)

unfoldable pub is_fair : View → Message → Bool
is_fair t m = (implies (eqb m.kind 2) (joins t m.word)
    && implies (eqb m.kind 3) (joins t m.dest && implies (blank_in t m.dest) (introduces t m.dest m)))
    && (implies (eqb m.kind 4) (lives t m.word)
    && (implies (eqb m.kind 5) (lives t m.word && guards_in t m.word m.dest)
    && implies (eqb m.kind 8) (all_to t.ring.n (λ y. implies (carries m y) (not (is_dead (t.at y).status))))))

-- ---- of a table and its pool

unfoldable pub clauses_hold : Table → Pool → Bool
clauses_hold t p = is_calm (view_of t) && all_to p.count (λ q. is_fair (view_of t) (message_at p q))

-- nobody is wait
unfoldable pub nobody_waits : Table → Bool
nobody_waits t = all_to t.n (λ i. not (is_wait (node_at t i).status))

-- nobody is wait, and the clauses hold
unfoldable pub safe_to_join : Table → Pool → Bool
safe_to_join t p = nobody_waits t && clauses_hold t p
