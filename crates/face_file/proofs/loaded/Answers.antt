-- `face_file::loaded` meets its contract: the file is read over no table and no messages. Assumes nothing.
use mathlib.Core.Path.{◌≡◌, ◌∙◌}
use mathlib.Core.List.{List, []}
use Prim.Native.Nat.{ℕ}
use Rattle.rules.specs.declared.Pool.{Pool}
use Rattle.rules.specs.Pool.{laid}
use Rattle.table_type.specs.declared.Table.{Table}
use Rattle.table_type.specs.Start.{no_table}
use Rattle.file.specs.Load.{load_of}
use Rattle.face.specs.Calls.{loaded_of}
use Rattle.face_file.proofs.loaded.Goals as goal

over_nothing : (bs : List ℕ) (t : Table) (p : Pool) → t ≡ no_table → p ≡ laid [] → load_of bs t p 256 ≡ loaded_of bs
unfolding loaded_of
over_nothing bs t p e f = rw (e, f)

pub returns : goal.returns
returns c = c.load.ensures ∙ over_nothing _ _ _ c.no_table.ensures c.no_messages.ensures
