-- Start, slot by slot. Status ready in A, else dead; members of A have leaf set A added, routing set, lease and grant A; others routing set {self}, the rest empty.
-- The table of it is in crate table_type. Definitions only. Assumes nothing.
use Rattle.std.specs.Prelude.{Bool, cond, ◌&&◌, ◌||◌, not, List, [], ◌∷◌, ◌++◌, ℕ, zero, suc, pred, ◌^◌, eqb, leb, ltb, take, replicate}
use Rattle.marks.specs.Marks.{has, all_to, single, listed}
use Rattle.rules.specs.Names.{Slot, Marks, Id, Ids}
use Rattle.rules.specs.Pick.{id_at}
use Rattle.rules.specs.declared.Ring.{Ring}
use Rattle.rules.specs.declared.Sides.{Sides}
use Rattle.rules.specs.Leaf.{leaf_with}
use Rattle.rules.specs.declared.Status.TheVariants as status
use Rattle.rules.specs.declared.Node.{Node}
use Rattle.rules.specs.Limits.{m_low, m_high, l_low, l_high, nodes_high}
use Rattle.rules.specs.Letters.{no_sides}
use Rattle.rules.specs.Nodes.{no_node}

-- the ids in their slots, and 0 in the slots past them
unfoldable pub slot_ids : Ids → Ids
slot_ids ids = take 64 (ids ++ replicate 64 0)

-- the list of what stands in the first n slots
unfoldable pub slots_to : {A : Type 0} → ℕ → (Slot → A) → List A
slots_to zero f = []
slots_to (suc n) f = slots_to n f ++ (f n ∷ [])

-- a ready node with the leaf set s
abbrev pub ready_node : Id → Sides → Marks → Node
ready_node id s a = record { id = id; status = status.Ready; left = s.left; right = s.right; probing = 0; failed = 0; routing = a; lease = a; grant = a }

abbrev pub dead_node : Id → Slot → Node
dead_node id s = record { id = id; status = status.Dead; left = 0; right = 0; probing = 0; failed = 0; routing = single s; lease = 0; grant = 0 }

unfoldable pub start_node : Ring → Ids → Marks → Slot → Node
start_node g ids a s = cond (has a s) (ready_node (id_at ids s) (leaf_with g ids s no_sides a) a) (dead_node (id_at ids s) s)

unfoldable pub start_nodes : Ring → Ids → Marks → List Node
start_nodes g ids a = slots_to 64 (λ s. cond (ltb s g.n) (start_node g ids a s) no_node)

-- M from 2 to 32, L from 1 to 8, n from 1 to 64 nodes
unfoldable pub start_fits : ℕ → ℕ → ℕ → Bool
start_fits m l n = leb m_low m && (leb m m_high && (leb l_low l && (leb l l_high && (leb 1 n && leb n nodes_high))))

-- ids are below 2^M and strictly rising by slot
abbrev pub id_rises : ℕ → Ids → Slot → Bool
id_rises m ids s = ltb (id_at ids s) (2 ^ m) && (eqb s 0 || ltb (id_at ids (pred s)) (id_at ids s))

unfoldable pub ids_rise : ℕ → ℕ → Ids → Bool
ids_rise m n ids = all_to n (id_rises m ids)

-- and A is not empty, with no mark at n or above
unfoldable pub list_fits : ℕ → ℕ → Ids → Marks → Bool
list_fits m n ids a = ids_rise m n ids && (not (eqb a 0) && listed n a)
