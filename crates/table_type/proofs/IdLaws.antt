-- The ids of a table's nodes, read slot by slot. Assumes nothing.
use mathlib.Core.Path.{◌≡◌, refl}
use mathlib.Core.List.{List, [], ◌∷◌, map}
use Prim.Native.Nat.{ℕ, zero, suc}
use lib.ListN.{get_or}
use Rattle.rules.specs.declared.Node.{Node}
use Rattle.rules.specs.Nodes.{no_node}
use Rattle.table_type.specs.Table.{id_of}

pub ids_at : (vs : List Node) (s : ℕ) → get_or (map id_of vs) s 0 ≡ (get_or vs s no_node).id
ids_at [] s = refl
ids_at (v ∷ vs) zero = refl
ids_at (v ∷ vs) (suc s) = ids_at vs s
