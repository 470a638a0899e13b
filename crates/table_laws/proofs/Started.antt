-- What a done start leaves: the ids stand in their slots, the ready nodes are A, each listed node obeys its rule, and each ready one is
-- settled. Ids that pass the tests are listed, so the laws of adding to a leaf set give the rest. Assumes nothing.
use mathlib.Core.Path.{◌≡◌, sym, ◌∙◌, ap}
use mathlib.Core.Logic.{⊎_elim}
use mathlib.Core.List.{List}
use mathlib.Core.Bool.{true, false, ◌||◌, not}
use Prim.Native.Nat.{ℕ, ◌^◌, ◌<◌, ◌≤◌}
use native.Mathlib.Omega.{arith}
use borrow.Author.Tests.{eq-eqb}
use lib.ListN.{length, length-map}
use lib.Seq.{ext_get_or}
use Rattle.marks.proofs.Bools.{and_both, false-not, lt-or-le, bool_cases}
use Rattle.marks.specs.Marks.{has, meet, listed}
use Rattle.marks.proofs.Laws.{has-zero, has_meet, meet_below, empty, gather-same, gather-all, size-zero}
use Rattle.marks.proofs.Laws.{listed-zero, listed-single, listed-lt}
use Rattle.rules.specs.declared.Node.{Node}
use Rattle.rules.specs.declared.Ring.{Ring}
use Rattle.rules.specs.InnerAsks.{Listed}
use Rattle.rules.specs.Fits.{others_fit, node_fits}
use Rattle.rules.specs.Leaf.{leaf_with}
use Rattle.rules.specs.Nodes.{no_node}
use Rattle.rules.specs.Pick.{id_at}
use Rattle.rules.specs.Plans.{is_dead, is_ready}
use Rattle.rules_laws.proofs.Leaf.{Fit, fits-leaf, leaf-fits, neighbour-of-added-left, neighbour-of-added-right}
use Rattle.table_type.specs.declared.Table.{Table}
use Rattle.table_type.proofs.IdLaws.{ids_at}
use Rattle.table.specs.Settled.{ready_set, settled_at}
use Rattle.rules.specs.Letters.{no_sides}
use Rattle.start.specs.Start.{slot_ids, ready_node, dead_node, start_node}
use Rattle.table_type.specs.Start.{start_table}
use Rattle.table_type.proofs.Starts.{StartFits, ListFits, slot-ids-long, slot-ids-past, start-listed}
use Rattle.table_type.proofs.Starts.{start-nodes-long, start-node-at, start-node-past}
use Rattle.table_type.specs.Table.{node_at, id_of, ids_of, ring_of}

-- ---- one node of a start

module _ (g : Ring) (ids : List ℕ) (a s : ℕ) where
  pub node_in_lem : has a s ≡ true → start_node g ids a s ≡ ready_node (id_at ids s) (leaf_with g ids s no_sides a) a
  unfolding start_node
  node_in_lem p = rw p

  pub node-out : has a s ≡ false → start_node g ids a s ≡ dead_node (id_at ids s) s
  unfolding start_node
  node-out p = rw p

  node-id : (start_node g ids a s).id ≡ id_at ids s
  node-id = ⊎_elim (λ p. ap id_of (node_in_lem p)) (λ p. ap id_of (node-out p)) (bool_cases (has a s))

  node-ready : is_ready (start_node g ids a s).status ≡ has a s
  node-ready = ⊎_elim (λ p. rw (node_in_lem p, p)) (λ p. rw (node-out p, p)) (bool_cases (has a s))

  node-calm : (is_dead (start_node g ids a s).status || is_ready (start_node g ids a s).status) ≡ true
  node-calm = ⊎_elim (λ p. rw (node_in_lem p)) (λ p. rw (node-out p)) (bool_cases (has a s))

none-fits : (g : Ring) (i : ℕ) → Fit g i 0
none-fits g i = record { marks = listed-zero g.n; few = rw size-zero (omega arith); other = has-zero i }

others-none : (g : Ring) (i : ℕ) → others_fit g i 0 ≡ true
unfolding others_fit
others-none g i = and_both (listed-zero g.n) (false-not (has-zero i))

meet-none : (a : ℕ) → meet 0 a ≡ 0
meet-none a = empty (meet 0 a) (meet_below 0 a) (λ s h. has_meet 0 a s h ∙ (rw (has-zero s)))

module _ {g : Ring} {ids : List ℕ} (v : Listed g ids) (a : ℕ) (e : listed g.n a ≡ true) (s : ℕ) (h : s < g.n) where
  node-fits : node_fits g s (start_node g ids a s) ≡ true
  unfolding node_fits
  node-fits = ⊎_elim ready dead (bool_cases (has a s))
    where
      ready : has a s ≡ true → node_fits g s (start_node g ids a s) ≡ true
      ready p =
          rw (node_in_lem g ids a s p)
          (and_both (leaf-fits v s h no_sides a) (and_both (others-none g s) (and_both (others-none g s) (and_both e (and_both e e)))))

      dead : has a s ≡ false → node_fits g s (start_node g ids a s) ≡ true
      dead p =
          rw (node-out g ids a s p)
          (and_both (fits-leaf (none-fits g s) (none-fits g s)) (and_both (others-none g s) (and_both (others-none g s)
          (and_both (listed-single g.n s h) (and_both (listed-zero g.n) (listed-zero g.n))))))

  -- both neighbours of a ready node are the next of A, and its failed is empty
  node-settled : 1 ≤ g.l → (not (is_ready (start_node g ids a s).status) || settled_at g ids a s (start_node g ids a s)) ≡ true
  unfolding settled_at
  node-settled one = ⊎_elim ready dead (bool_cases (has a s))
    where
      ready : has a s ≡ true → (not (is_ready (start_node g ids a s).status) || settled_at g ids a s (start_node g ids a s)) ≡ true
      ready p =
          rw (node_in_lem g ids a s p)
          (and_both (eq-eqb _ _ (neighbour-of-added-left v one s h a e))
          (and_both (eq-eqb _ _ (neighbour-of-added-right v one s h a e)) (eq-eqb _ _ (meet-none a))))

      dead : has a s ≡ false → (not (is_ready (start_node g ids a s).status) || settled_at g ids a s (start_node g ids a s)) ≡ true
      dead p = rw (node-out g ids a s p)

-- ---- the table of a start

abbrev pub made : ℕ → ℕ → List ℕ → ℕ → Table
made m l ids a = start_table m l (length ids) (slot_ids ids) a

module _ (m l : ℕ) (ids : List ℕ) (a : ℕ) (f : StartFits m l (length ids)) (e : ListFits m (length ids) (slot_ids ids) a) where
  abbrev ring : Ring
  ring = ring_of (made m l ids a)

  slots-listed : Listed ring (slot_ids ids)
  slots-listed = start-listed m l ids f e.rise

  node_made : (s : ℕ) → s < length ids → node_at (made m l ids a) s ≡ start_node ring (slot_ids ids) a s
  node_made s h = start-node-at ring (slot_ids ids) a s h (omega (arith, f.n-high))

  pub made-blank : (s : ℕ) → length ids ≤ s → s < 64 → node_at (made m l ids a) s ≡ no_node
  made-blank s h k = start-node-past ring (slot_ids ids) a s h k

  pub made-ids : ids_of (made m l ids a) ≡ slot_ids ids
  made-ids =
      ext_get_or 0 (ids_of (made m l ids a)) (slot_ids ids) (long ∙ sym (slot-ids-long ids)) (λ s h.
      ids_at (made m l ids a).nodes s ∙ ⊎_elim (λ k. ap id_of (node_made s k) ∙ node-id ring (slot_ids ids) a s)
      (λ k. let low : s < 64 = omega (arith, long) in ap id_of (made-blank s k low) ∙ sym (slot-ids-past ids s k low))
      (lt-or-le s (length ids)))
    where
      long : length (ids_of (made m l ids a)) ≡ 64
      long = length-map (made m l ids a).nodes id_of ∙ start-nodes-long ring (slot_ids ids) a

  pub made-listed : Listed ring (ids_of (made m l ids a))
  made-listed = rw made-ids slots-listed

  pub made-fits : (s : ℕ) → s < length ids → node_fits ring s (node_at (made m l ids a) s) ≡ true
  made-fits s h = rw (node_made s h) (node-fits slots-listed a e.marks s h)

  -- the ready nodes are A
  pub made-ready : a < 2 ^ 64 → ready_set (made m l ids a) ≡ a
  unfolding ready_set
  made-ready h =
      gather-same (length ids) _ (has a) (λ s k. ap (λ (v : Node). is_ready v.status) (node_made s k) ∙ node-ready ring (slot_ids ids) a s)
      ∙ gather-all (length ids) a (listed-lt (length ids) a h e.marks)

  pub made-calm : (s : ℕ) → s < length ids
      → (is_dead (node_at (made m l ids a) s).status || is_ready (node_at (made m l ids a) s).status) ≡ true
  made-calm s h = rw (node_made s h) (node-calm ring (slot_ids ids) a s)

  pub made-settled : a < 2 ^ 64 → (s : ℕ) → s < length ids
      → (not (is_ready (node_at (made m l ids a) s).status)
      || settled_at ring (ids_of (made m l ids a)) (ready_set (made m l ids a)) s (node_at (made m l ids a) s))
      ≡ true
  made-settled k s h = rw (made-ids, made-ready k, node_made s h) (node-settled slots-listed a e.marks s h f.l-low)
