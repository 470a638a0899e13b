-- The parts of a table file that are written one after the other. Definitions only. Assumes nothing.
use Rattle.std.specs.Prelude.{List, map, ℕ, take}
use Rattle.rules.specs.declared.Pool.{Pool}
use Rattle.rules.specs.Pool.{waiting}
use Rattle.table_type.specs.declared.Table.{Table}
use Rattle.words.specs.Bytes.{encode_all}
use Rattle.file.specs.Format.{node_widths, message_widths, node_row, message_row}

abbrev pub node_bytes : Table → List ℕ
node_bytes t = encode_all node_widths (map node_row (take t.n t.nodes))

abbrev pub message_bytes : Pool → List ℕ
message_bytes p = encode_all message_widths (map message_row (waiting p))
