-- The definition of the start, run: 01's worked ids, a start with dead nodes, and one start for each refusal, by the numbers of 01. Assumes nothing.
use mathlib.Core.Path.{◌≡◌, refl}
use mathlib.Core.List.{List, [], ◌∷◌}
use Prim.Native.Nat.{ℕ}
use lib.ListN.{length, replicate}
use Rattle.ring.specs.Distance.{fall_of}
use Rattle.marks.specs.Marks.{has, gather, tally, all_to, single, listed}
use Rattle.rules.specs.declared.Status.{Status}
use Rattle.rules.specs.declared.Status.TheVariants.{Dead, Ready}
use Rattle.rules.specs.declared.Node.{Node}
use Rattle.rules.specs.Closest.{closest}
use Rattle.rules.specs.Leaf.{leaf_with}
use Rattle.rules.specs.Nodes.{no_node}
use Rattle.table_type.specs.declared.Table.{Table}
use Rattle.table_type.specs.Table.{node_at, with_node, ids_of, ring_of}
use Rattle.start.specs.Start.{slot_ids, slots_to, start_node, start_nodes, start_fits, ids_rise, list_fits}
use Rattle.table_type.specs.Start.{start_of, start_number, table_of}

abbrev worked : List ℕ
worked = 17 ∷ 18 ∷ 65 ∷ 95 ∷ []

-- the number of a start's answer
abbrev answered : ℕ → ℕ → List ℕ → ℕ → ℕ
answered m l ids a = start_number (start_of m l ids a)

-- a node: id, status, left, right, probing, failed, routing set, lease, grant
abbrev node : ℕ → Status → ℕ → ℕ → ℕ → ℕ → ℕ → ℕ → ℕ → Node
node id s left right probing failed routing lease grant =
    record {
      id = id;
      status = s;
      left = left;
      right = right;
      probing = probing;
      failed = failed;
      routing = routing;
      lease = lease;
      grant = grant;
    }

-- M, L and n of a table
abbrev numbers_of : Table → List ℕ
numbers_of t = t.m ∷ t.l ∷ t.n ∷ []

-- M = 8, L = 1, all four started ready
abbrev four : Table
four = table_of (start_of 8 1 worked 15)

-- M = 7, L = 2, with 18 and 95 ready
abbrev two : Table
two = table_of (start_of 7 2 worked 10)

-- status ready in A, else dead; members of A have leaf set A added, routing set, lease and grant A; others routing set {self}, the rest empty
pub record Started : Type 0 where
  pub done : answered 8 1 worked 15 ≡ 0
  pub numbers : numbers_of four ≡ 8 ∷ 1 ∷ 4 ∷ []
  pub node17 : node_at four 0 ≡ node 17 Ready 2 8 0 0 15 15 15
  pub node18 : node_at four 1 ≡ node 18 Ready 4 1 0 0 15 15 15
  pub node65 : node_at four 2 ≡ node 65 Ready 8 2 0 0 15 15 15
  pub node95 : node_at four 3 ≡ node 95 Ready 1 4 0 0 15 15 15
  -- slots at n and above are blank
  pub blank : (node_at four 4 ≡ no_node) × (length four.nodes ≡ 64)
  pub two-numbers : numbers_of two ≡ 7 ∷ 2 ∷ 4 ∷ []
  pub dead17 : node_at two 0 ≡ node 17 Dead 0 0 0 0 1 0 0
  pub ready18 : node_at two 1 ≡ node 18 Ready 8 8 0 0 10 10 10
  pub dead65 : node_at two 2 ≡ node 65 Dead 0 0 0 0 4 0 0
  pub ready95 : node_at two 3 ≡ node 95 Ready 2 2 0 0 10 10 10

pub started : Started
unfolding fall_of has gather tally all_to single listed closest leaf_with slot_ids slots_to start_node start_nodes start_fits ids_rise list_fits start_of
started =
    record {
      done = refl;
      numbers = refl;
      node17 = refl;
      node18 = refl;
      node65 = refl;
      node95 = refl;
      blank = (refl, refl);
      two-numbers = refl;
      dead17 = refl;
      ready18 = refl;
      dead65 = refl;
      ready95 = refl;
    }

pub record Refused : Type 0 where
  -- 8: M, L or the number of ids out of range
  pub m : (answered 1 1 (0 ∷ 1 ∷ []) 3 ≡ 8) × (answered 33 1 worked 15 ≡ 8) × (answered 2 1 (0 ∷ 1 ∷ []) 3 ≡ 0) × (answered 32 1 worked 15 ≡ 0)
  pub l : (answered 8 0 worked 15 ≡ 8) × (answered 8 9 worked 15 ≡ 8) × (answered 8 8 worked 15 ≡ 0)
  pub n : (answered 8 1 [] 15 ≡ 8) × (answered 8 1 (replicate 65 0) 15 ≡ 8)
  -- 10: ids are below 2^M and strictly rising
  pub falling : answered 8 1 (18 ∷ 17 ∷ []) 3 ≡ 10
  pub repeated : answered 8 1 (17 ∷ 17 ∷ []) 3 ≡ 10
  pub high : (answered 8 1 (17 ∷ 256 ∷ []) 3 ≡ 10) × (answered 8 1 (17 ∷ 255 ∷ []) 3 ≡ 0)
  -- A empty, or with a node that is not listed
  pub none : answered 8 1 worked 0 ≡ 10
  pub unlisted : answered 8 1 worked 17 ≡ 10
  -- 8 before 10
  pub lower : (answered 33 1 (18 ∷ 17 ∷ []) 0 ≡ 8) × (answered 8 9 (18 ∷ 17 ∷ []) 0 ≡ 8)

pub refused : Refused
unfolding start_of start_fits list_fits ids_rise listed all_to has slot_ids
refused =
    record {
      m = (refl, refl, refl, refl);
      l = (refl, refl, refl);
      n = (refl, refl);
      falling = refl;
      repeated = refl;
      high = (refl, refl);
      none = refl;
      unlisted = refl;
      lower = (refl, refl);
    }

-- ---- what stands at a slot

abbrev changed : Table
changed = with_node (record { m = 8; l = 1; n = 2; nodes = node 17 Ready 2 2 0 0 3 3 3 ∷ node 18 Dead 0 0 0 0 2 0 0 ∷ [] }) 1 (node 19 Ready 1 1 0 0 3 3 3)

pub record Slots : Type 0 where
  pub numbers : numbers_of changed ≡ 8 ∷ 1 ∷ 2 ∷ []
  pub nodes : changed.nodes ≡ node 17 Ready 2 2 0 0 3 3 3 ∷ node 19 Ready 1 1 0 0 3 3 3 ∷ []
  pub at : (node_at changed 1 ≡ node 19 Ready 1 1 0 0 3 3 3) × (node_at changed 2 ≡ no_node)
  pub ids : ids_of changed ≡ 17 ∷ 19 ∷ []
  pub ring : ring_of changed ≡ record { m = 8; l = 1; n = 2 }

pub slots : Slots
slots = record { numbers = refl; nodes = refl; at = (refl, refl); ids = refl; ring = refl }
