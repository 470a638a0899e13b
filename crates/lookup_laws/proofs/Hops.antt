-- In a settled table a ready node that does not cover a key has a next hop for it, and the hop is ready and nearer. The idea: a neighbour
-- is ready, unfailed and nearer, hence a candidate of either branch; and what is not dead is ready. Assumes nothing.
use mathlib.Core.Path.{◌≡◌, refl, sym, ◌∙◌, ap}
use mathlib.Core.Logic.{⊎_elim}
use mathlib.Core.Bool.{true, false, ◌||◌}
use Prim.Native.Nat.{ℕ, ◌^◌, ◌<◌}
use lib.Dec.{eqb}
use Rattle.ring.proofs.Order.{nearer-irreflexive}
use Rattle.marks.proofs.Bools.{opposed, bool_false, and_both, or_left, or_right, or_cases}
use Rattle.marks.specs.Marks.{has}
use Rattle.marks.proofs.Laws.{has-gather, has_meet, has-zero}
use Rattle.rules.specs.declared.Way.TheVariants.{Up, Down}
use Rattle.rules.specs.declared.Status.{Status}
use Rattle.rules.specs.declared.Status.TheVariants as status
use Rattle.rules.specs.declared.Hop.TheVariants.{To}
use Rattle.rules.specs.declared.Pool.{Pool}
use Rattle.rules.specs.Leaf.{content_of, seen_from}
use Rattle.rules.specs.Nodes.{sides_of}
use Rattle.rules.specs.Pick.{id_at}
use Rattle.rules.specs.Plans.{is_dead, is_ready}
use Rattle.rules_laws.proofs.Hops.{content-candidate, hop-some, hop-to}
use Rattle.rules_laws.proofs.Leaf.{has-content, seen-in}
use Rattle.table_type.specs.declared.Table.{Table}
use Rattle.table_type.specs.Table.{node_at, ids_of, ring_of}
use Rattle.table.specs.Settled.{ready_set, dead_set, is_settled}
use Rattle.table_laws.proofs.Sound.{Sound}
use Rattle.lookup_laws.specs.Claims.{Nearer, Ready}
use Rattle.lookup_laws.specs.Fates.{covers_at, hop_at}
use Rattle.lookup_laws.proofs.Tracks.{ready-is}
use Rattle.lookup_laws.proofs.Routings.{hop-nearer}
use Rattle.lookup_laws.proofs.Joined.{ready-low}
use Rattle.lookup_laws.proofs.Holder.{dead-or-ready, settled_at_lem, next_of, next-ready, not_covered}

dead-is : (t : Table) (i : ℕ) → i < t.n → has (dead_set t) i ≡ is_dead (node_at t i).status
unfolding dead_set
dead-is t i h = has-gather t.n (λ s. is_dead (node_at t s).status) i h

ready-alive : (s : Status) → is_ready s ≡ true → is_dead s ≡ false
ready-alive status.Dead e = sym e
ready-alive status.Wait e = refl
ready-alive status.Ok e = refl
ready-alive status.Ready e = refl

module _ {t : Table} {p : Pool} (v : Sound t p) (s : is_settled t ≡ true) (k : ℕ) (hk : k < 2 ^ t.m) where
  alive : (i : ℕ) → Ready t i → has (dead_set t) i ≡ false
  alive i r = dead-is t i r.0 ∙ ready-alive (node_at t i).status (sym (ready-is t i r.0) ∙ r.1)

  -- what is not dead is ready
  awake : (i : ℕ) → i < t.n → has (dead_set t) i ≡ false → Ready t i
  awake i l f = (
    l,
    ready-is t i l
        ∙ ⊎_elim (λ e. absurd (opposed e (sym (dead-is t i l) ∙ f))) (λ e. e)
        (or_cases (is_dead (node_at t i).status) (is_ready (node_at t i).status) (dead-or-ready t s i l)),
  )

  module _ (d : ℕ) (r : Ready t d) where
    -- no ready node is in its failed
    trusted : (i : ℕ) → Ready t i → has (node_at t d).failed i ≡ false
    trusted i u =
        bool_false (has (node_at t d).failed i) (λ e.
        opposed (has_meet (node_at t d).failed (ready_set t) i (ready-low v i u) ∙ and_both e u.1)
        (ap (λ (x : ℕ). has x i) (settled_at_lem t s d r).trusts ∙ has-zero i))

    -- a neighbour other than the node itself is in its leaf set
    on-left : (next_of Up t d ≡ d → ⊥) → has (node_at t d).left (next_of Up t d) ≡ true
    on-left apart =
        rw (settled_at_lem t s d r).left at
        (⊎_elim {C = has (node_at t d).left (seen_from Up (ring_of t) (ids_of t) d (node_at t d).left) ≡ true}
        (λ e. absurd (apart (sym (settled_at_lem t s d r).left ∙ e.1))) (λ e. e.holds)
        (seen-in v.listed d (ready-low v d r) (node_at t d).left Up))

    on-right : (next_of Down t d ≡ d → ⊥) → has (node_at t d).right (next_of Down t d) ≡ true
    on-right apart =
        rw (settled_at_lem t s d r).right at
        (⊎_elim {C = has (node_at t d).right (seen_from Down (ring_of t) (ids_of t) d (node_at t d).right) ≡ true}
        (λ e. absurd (apart (sym (settled_at_lem t s d r).right ∙ e.1))) (λ e. e.holds)
        (seen-in v.listed d (ready-low v d r) (node_at t d).right Down))

    -- so a nearer one is a candidate of either branch
    by-neighbour : (i : ℕ) → Ready t i → Nearer t k i d → (has (node_at t d).left i || has (node_at t d).right i) ≡ true
        → (h : ℕ) × (hop_at t d k ≡ To h)
    by-neighbour i u near e =
        let low = ready-low v i u in
        let content : has (content_of (sides_of (node_at t d)) d) i ≡ true =
        has-content (sides_of (node_at t d)) d i low ∙ or_left (eqb i d) e in
        hop-some (ring_of t) (ids_of t) (dead_set t) d (node_at t d) k i low
        (content-candidate (ring_of t) (ids_of t) (dead_set t) d (node_at t d) i low content (trusted i u) (alive i u)) near

    not-self : (i : ℕ) → Nearer t k i d → i ≡ d → ⊥
    not-self i near e = nearer-irreflexive (2 ^ t.m) k (id_at (ids_of t) d) (rw e at near)

    pub hop-there : covers_at t d k ≡ false → (h : ℕ) × (hop_at t d k ≡ To h)
    hop-there c =
        ⊎_elim (λ near. by-neighbour (next_of Up t d) (next-ready v d r Up) near
        (or_left (has (node_at t d).right (next_of Up t d)) (on-left (not-self (next_of Up t d) near))))
        (λ near. by-neighbour (next_of Down t d) (next-ready v d r Down) near
        (or_right (has (node_at t d).left (next_of Down t d)) (on-right (not-self (next_of Down t d) near))))
        (not_covered v s k hk d r c)

    pub hop-ready : (h : ℕ) → hop_at t d k ≡ To h → Ready t h × Nearer t k h d
    hop-ready h e =
        let to = hop-to (ring_of t) (ids_of t) (dead_set t) d (node_at t d) k h e in
        let near = hop-nearer v k d h r.0 e in
        (awake h near.0 to.legal.alive, near.1)
