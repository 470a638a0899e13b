-- The start by slots, run: 01's worked ids, all ready or two of them, and what is asked of the ids and of A. A set is the sum of its marks. Assumes nothing.
use mathlib.Core.Path.{◌≡◌, refl}
use mathlib.Core.Bool.{true, false}
use mathlib.Core.List.{[], ◌∷◌}
use Prim.Native.Nat.{ℕ}
use lib.ListN.{get_or, length}
use Rattle.ring.specs.Distance.{fall_of}
use Rattle.marks.specs.Marks.{has, gather, tally, all_to, single, listed}
use Rattle.rules.specs.declared.Ring.{Ring}
use Rattle.rules.specs.declared.Status.TheVariants.{Dead, Ready}
use Rattle.rules.specs.declared.Node.{Node}
use Rattle.rules.specs.Closest.{closest}
use Rattle.rules.specs.Leaf.{leaf_with}
use Rattle.rules.specs.Nodes.{no_node}
use Rattle.rules.proofs.Small.{ids, node}
use Rattle.start.specs.Start.{slot_ids, slots_to, start_node, start_nodes, start_fits, ids_rise, list_fits}

abbrev ring : ℕ → ℕ → Ring
ring m l = record { m = m; l = l; n = 4 }

-- what stands at a slot, by M, L and A
abbrev at : ℕ → ℕ → ℕ → ℕ → Node
at m l a s = get_or (start_nodes (ring m l) (slot_ids ids) a) s no_node

pub record Nodes : Type 0 where
  -- members of A have leaf set A added, routing set, lease and grant A
  pub all-ready : (at 8 1 15 0 ≡ node 17 Ready 2 8 0 0 15 15 15) × (at 8 1 15 3 ≡ node 95 Ready 1 4 0 0 15 15 15)
  pub two_ready : (at 7 2 10 1 ≡ node 18 Ready 8 8 0 0 10 10 10) × (at 7 2 10 3 ≡ node 95 Ready 2 2 0 0 10 10 10)
  -- others routing set {self}, the rest empty
  pub others : (at 7 2 10 0 ≡ node 17 Dead 0 0 0 0 1 0 0) × (at 7 2 10 2 ≡ node 65 Dead 0 0 0 0 4 0 0)
  -- slots at n and above are blank
  pub blanks : (at 8 1 15 4 ≡ no_node) × (length (start_nodes (ring 8 1) (slot_ids ids) 15) ≡ 64)

pub nodes : Nodes
unfolding fall_of has gather tally all_to single closest leaf_with slot_ids slots_to start_node start_nodes
nodes = record { all-ready = (refl, refl); two_ready = (refl, refl); others = (refl, refl); blanks = (refl, refl) }

pub record Asks : Type 0 where
  -- M from 2 to 32, L from 1 to 8, n from 1 to 64
  pub m : (start_fits 1 1 4 ≡ false) × (start_fits 2 1 4 ≡ true) × (start_fits 32 1 4 ≡ true) × (start_fits 33 1 4 ≡ false)
  pub l : (start_fits 8 0 4 ≡ false) × (start_fits 8 8 4 ≡ true) × (start_fits 8 9 4 ≡ false)
  pub n : (start_fits 8 1 0 ≡ false) × (start_fits 8 1 64 ≡ true) × (start_fits 8 1 65 ≡ false)
  -- ids are below 2^M and strictly rising by slot
  pub rising : (ids_rise 8 2 (17 ∷ 18 ∷ []) ≡ true) × (ids_rise 8 2 (18 ∷ 17 ∷ []) ≡ false) × (ids_rise 8 2 (17 ∷ 17 ∷ []) ≡ false)
  pub below : (ids_rise 8 2 (17 ∷ 255 ∷ []) ≡ true) × (ids_rise 8 2 (17 ∷ 256 ∷ []) ≡ false)
  -- A is not empty, with no mark at n or above
  pub chosen : (list_fits 8 4 ids 8 ≡ true) × (list_fits 8 4 ids 0 ≡ false) × (list_fits 8 4 ids 17 ≡ false)

pub asks : Asks
unfolding has all_to listed start_fits ids_rise list_fits
asks =
    record {
      m = (refl, refl, refl, refl);
      l = (refl, refl, refl);
      n = (refl, refl, refl);
      rising = (refl, refl, refl);
      below = (refl, refl);
      chosen = (refl, refl, refl);
    }
