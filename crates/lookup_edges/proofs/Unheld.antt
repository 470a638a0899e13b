-- How far one holder reaches (Joining), computed on small tables: there may be keys that nobody covers, and each of the two hypotheses is needed.
-- Of the second, "on either side", the law of the ring uses the right side alone. Assumes nothing.
use mathlib.Core.Path.{◌≡◌, refl, sym, ◌∙◌}
use mathlib.Core.Bool.{Bool, true, false, ◌&&◌, ◌||◌, not}
use mathlib.Core.List.{[], ◌∷◌}
use Prim.Native.Nat.{ℕ, ◌^◌, ◌<◌}
use native.Mathlib.Omega.{arith}
use lib.Dec.{leb, eqb}
use borrow.Author.Tests.{ne_eqb, eqb-false, leb-true, not-true}
use Rattle.marks.proofs.Laws.{each}
use Rattle.marks.specs.Marks.{all_to, size_of}
use Rattle.rules.specs.declared.Status.TheVariants as status
use Rattle.rules.specs.Leaf.{way_up, way_down}
use Rattle.rules.specs.Plans.{is_ready}
use Rattle.rules.specs.Pool.{laid}
use Rattle.table_type.specs.declared.Table.{Table}
use Rattle.table.specs.Settled.{ready_set, is_settled}
use Rattle.table_type.specs.Table.{node_at, ids_of, ring_of}
use Rattle.table.specs.Valid.{valid_of}
use Rattle.table_laws.proofs.Nodes.{both}
use Rattle.lookup_laws.specs.Claims.{Ready}
use Rattle.lookup_laws.specs.Fates.{covers_at}
use Rattle.lookup_laws.specs.Joining.{left_at, right_at, AsClose, NotItsOwn}
use Rattle.lookup_edges.proofs.Limits.{opened, node, table, each_ready}
use Rattle.lookup_laws.proofs.Tracks.{ready-is}

-- ---- tests for a table at hand

each-ready : (t : Table) (f : ℕ → Bool) → each_ready t f ≡ true → (i : ℕ) → Ready t i → f i ≡ true
each-ready t f e i r =
    rw (sym (ready-is t i r.0) ∙ r.1) at (each t.n (λ s. not (is_ready (node_at t s).status) || f s) i e r.0)

abbrev as_close : Table → ℕ → ℕ → Bool
as_close t i j =
    leb (way_up (ring_of t) (ids_of t) i (left_at t i)) (way_up (ring_of t) (ids_of t) i j)
    && leb (way_down (ring_of t) (ids_of t) i (right_at t i)) (way_down (ring_of t) (ids_of t) i j)

-- every two different ready nodes: the first hypothesis
unfoldable pub all_close : Table → Bool
all_close t = each_ready t (λ i. each_ready t (λ j. eqb i j || as_close t i j))

-- none is its own neighbour: the second, where there are two or more
unfoldable pub none_its_own : Table → Bool
none_its_own t = each_ready t (λ i. not (eqb (left_at t i) i) && not (eqb (right_at t i) i))

pub close-told : (t : Table) → all_close t ≡ true → (i j : ℕ) → Ready t i → Ready t j → (i ≡ j → ⊥) → AsClose t i j
unfolding all_close
close-told t e i j r u d =
    let row = each-ready t (λ s. each_ready t (λ q. eqb s q || as_close t s q)) e i r in
    let test : as_close t i j ≡ true = rw (ne_eqb i j d) at (each-ready t (λ q. eqb i q || as_close t i q) row j u) in
    let two = both _ _ test in
    record { left = leb-true _ _ two.0; right = leb-true _ _ two.1 }

pub own-told : (t : Table) → none_its_own t ≡ true → (i : ℕ) → Ready t i → NotItsOwn t i
unfolding none_its_own
own-told t e i r =
    let two = both _ _ (each-ready t (λ s. not (eqb (left_at t s) s) && not (eqb (right_at t s) s)) e i r) in
    record { left = eqb-false _ _ (not-true _ two.0); right = eqb-false _ _ (not-true _ two.1) }

-- ---- nobody covers key 1: id 1 is joining between two ready nodes, and knows of 0 alone

unfoldable pub gap : Table
gap = table 2 1 (node 0 status.Ready 2 4 0 ∷ node 1 status.Wait 1 0 0 ∷ node 2 status.Ready 1 2 0 ∷ [])

pub gap-computes :
    (valid_of gap (laid []) ≡ true) × (all_close gap ≡ true) × (none_its_own gap ≡ true)
    × (size_of (ready_set gap) ≡ 2) × (is_settled gap ≡ false) × (all_to gap.n (λ i. not (covers_at gap i 1)) ≡ true)
    × (1 < 2 ^ gap.m)
unfolding gap all_close none_its_own opened
gap-computes = (refl, refl, refl, refl, refl, refl, omega arith)

-- ---- none its own neighbour: two ready nodes that know of nobody both cover key 1

unfoldable pub strangers : Table
strangers = table 2 1 (node 0 status.Ready 0 0 0 ∷ node 2 status.Ready 0 0 0 ∷ [])

pub strangers-share :
    (valid_of strangers (laid []) ≡ true) × (all_close strangers ≡ true) × (none_its_own strangers ≡ false)
    × Ready strangers 0 × Ready strangers 1 × (covers_at strangers 0 1 ≡ true) × (covers_at strangers 1 1 ≡ true)
unfolding strangers all_close none_its_own opened
strangers-share = (refl, refl, refl, (omega arith, refl), (omega arith, refl), refl, refl)

-- ---- neighbours as close: ids 0 and 1 know of 4 alone, which is dead, and both cover key 2

unfoldable pub distant : Table
distant = table 3 1 (node 0 status.Ready 4 4 0 ∷ node 1 status.Ready 4 4 0 ∷ node 4 status.Dead 0 0 0 ∷ [])

pub distant-share :
    (valid_of distant (laid []) ≡ true) × (all_close distant ≡ false) × (none_its_own distant ≡ true)
    × Ready distant 0 × Ready distant 1 × (covers_at distant 0 2 ≡ true) × (covers_at distant 1 2 ≡ true)
unfolding distant all_close none_its_own opened
distant-share = (refl, refl, refl, (omega arith, refl), (omega arith, refl), refl, refl)
