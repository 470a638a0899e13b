-- Every start satisfies the clauses: nobody is wait, nothing waits, and the sides of a node of A are those of A joined to an empty leaf
-- set, so it guards against every other node of A. Assumes nothing.
use mathlib.Core.Path.{◌≡◌, sym, ◌∙◌, ap, subst}
use mathlib.Core.Logic.{⊎_elim}
use mathlib.Core.Bool.{true, false}
use mathlib.Core.List.{List, []}
use Prim.Native.Nat.{ℕ, ◌<◌, ◌≤◌}
use native.Mathlib.Omega.{arith}
use lib.ListN.{length}
use Rattle.marks.proofs.Bools.{clash, opposed, bool_cases}
use Rattle.marks.specs.Marks.{has}
use Rattle.marks.proofs.Laws.{has-zero}
use Rattle.rules.specs.declared.Ring.{Ring}
use Rattle.rules.specs.declared.Node.{Node}
use Rattle.rules.specs.Leaf.{leaf_with}
use Rattle.rules.specs.Letters.{no_sides}
use Rattle.rules.specs.Nodes.{sides_of}
use Rattle.rules.specs.Pick.{id_at}
use Rattle.rules.specs.Plans.{is_dead, is_wait, is_up}
use Rattle.rules.specs.Pool.{laid}
use Rattle.rules_laws.proofs.Leaf.{left-from, right-from}
use Rattle.table_type.specs.declared.Table.{Table}
use Rattle.start.specs.Start.{slot_ids, ready_node, dead_node, start_node}
use Rattle.table_type.specs.Start.{start_number, table_of}
use Rattle.table_type.proofs.Starts.{StartFits, ListFits, list-fits, start-node-at, start-done}
use Rattle.table_type.specs.Table.{node_at, ring_of}
use Rattle.table_laws.proofs.Begin.{start-refuses, start-valid}
use Rattle.table_laws.proofs.Legal.{fits-start, legal-list}
use Rattle.table_laws.proofs.Started.{node_in_lem, node-out, made, made-ids}
use Rattle.join_laws.specs.Clauses.{Up, Waits, Alive, Guards, GuardsAt, Beside, Calm, Clauses}
use Rattle.join_laws.proofs.Guarding.{guards-new}
use Rattle.join_laws.specs.Claims.{StartHeld, StartClauses}
use Rattle.join_laws.proofs.Written.{seen}
use Rattle.join_laws.proofs.Steps.{clauses-held}

-- ---- nodes as a start makes them

module _ (g : Ring) (ids : List ℕ) (a : ℕ) (one : 1 ≤ g.l) (at : ℕ → Node) (same : (s : ℕ) → s < g.n → at s ≡ start_node g ids a s) where
  ready_at : (s : ℕ) → s < g.n → has a s ≡ true → at s ≡ ready_node (id_at ids s) (leaf_with g ids s no_sides a) a
  ready_at s h p = same s h ∙ node_in_lem g ids a s p

  dead-at : (s : ℕ) → s < g.n → has a s ≡ false → at s ≡ dead_node (id_at ids s) s
  dead-at s h p = same s h ∙ node-out g ids a s p

  alive-of : (s : ℕ) → Alive (seen g ids at) s → has a s ≡ true
  alive-of s (h, e) =
      ⊎_elim (λ p. p) (λ p. absurd (clash (sym (ap (λ (v : Node). is_dead v.status) (dead-at s h p)) ∙ e))) (bool_cases (has a s))

  of-alive : (s : ℕ) → s < g.n → has a s ≡ true → Alive (seen g ids at) s
  of-alive s h p = (h, ap (λ (v : Node). is_dead v.status) (ready_at s h p))

  up_of : (s : ℕ) → Up (seen g ids at) s → has a s ≡ true
  up_of s (h, e) =
      ⊎_elim (λ p. p) (λ p. absurd (clash (sym e ∙ ap (λ (v : Node). is_up v.status) (dead-at s h p)))) (bool_cases (has a s))

  none-waits : (s : ℕ) → Waits (seen g ids at) s → ⊥
  none-waits s (h, e) =
      ⊎_elim (λ p. clash (sym e ∙ ap (λ (v : Node). is_wait v.status) (ready_at s h p)))
      (λ p. clash (sym e ∙ ap (λ (v : Node). is_wait v.status) (dead-at s h p))) (bool_cases (has a s))

  guards-a : (x y : ℕ) → x < g.n → has a x ≡ true → y < g.n → has a y ≡ true → (y ≡ x → ⊥) → GuardsAt (seen g ids at) x y
  guards-a x y hx p hy q d =
      subst (λ (v : Node). Guards g ids x (sides_of v) y) (sym (ready_at x hx p)) (guards-new g ids one x no_sides a y hy q d)

  known-a : (x y : ℕ) → x < g.n → has a x ≡ true → Beside (seen g ids at) (leaf_with g ids x no_sides a) y
      → (has a y ≡ true) × (y ≡ x → ⊥)
  known-a x y hx p (hy, b) =
      ⊎_elim
      (λ e. let k = left-from g ids x no_sides a y e in (⊎_elim (λ z. absurd (opposed z (has-zero y))) (λ z. z) k.from, k.other))
      (λ e. let k = right-from g ids x no_sides a y e in (⊎_elim (λ z. absurd (opposed z (has-zero y))) (λ z. z) k.from, k.other)) b

  start-calm : Calm (seen g ids at)
  start-calm =
      record {
        one = λ i j p q. absurd (none-waits i p);
        members = λ x e m u d.
            ⊎_elim (λ p. guards-a x e p.0 (up_of x p) u.0 (up_of e u) d) (λ p. absurd (none-waits x p.0)) m;
        known = λ x y l b.
            let p = alive-of x l in
            let k = known-a x y l.0 p
            (subst (λ (v : Node). Beside (seen g ids at) (sides_of v) y) (ready_at x l.0 p) b) in
            (of-alive y b.0 k.0, guards-a x y l.0 p b.0 k.0 k.1);
        trusting = λ i h.
            ⊎_elim (λ p. ap (λ (v : Node). v.failed) (ready_at i h p)) (λ p. ap (λ (v : Node). v.failed) (dead-at i h p))
            (bool_cases (has a i));
        joiner = λ i e p f u. absurd (none-waits i p);
      }

-- ---- the table of a start

module _ (m l : ℕ) (ids : List ℕ) (a : ℕ) (f : StartFits m l (length ids)) (e : ListFits m (length ids) (slot_ids ids) a) where
  made-clauses : Clauses (made m l ids a) (laid [])
  made-clauses =
      let g = ring_of (made m l ids a) in
      record {
        nodes = subst (λ (z : List ℕ). Calm (seen g z (node_at (made m l ids a)))) (sym (made-ids m l ids a f e))
            (start-calm g (slot_ids ids) a f.l-low (node_at (made m l ids a))
            (λ s h. start-node-at g (slot_ids ids) a s h (omega (arith, f.n-high))));
        mail = λ q h. absurd (omega arith);
      }

pub start-clauses : StartClauses
start-clauses m l ids a t d =
    let (f, legal) = (start-refuses m l ids a).done.0 (ap start_number d) in
    let fits = legal-list m ids a f.n-high legal in
    let same = start-done m l ids a (fits-start m l (length ids) f) fits in
    subst (λ (u : Table). Clauses u (laid [])) (ap table_of (sym same ∙ d))
    (made-clauses m l ids a f (list-fits m (length ids) (slot_ids ids) a fits))

pub start-held : StartHeld
start-held m l ids a t acts d patient = clauses-held t (laid []) acts (start-valid m l ids a t d) (start-clauses m l ids a t d) patient
