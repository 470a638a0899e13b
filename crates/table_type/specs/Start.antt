-- Start. From M, L, ids and a nonempty set A: the nodes of crate start in their slots; no messages. Definitions only. Assumes nothing.
use Rattle.std.specs.Prelude.{cond, ℕ, length, replicate, Result, Ok, Err}
use Rattle.rules.specs.Names.{Marks, Ids}
use Rattle.table_type.specs.declared.Table.{Table}
use Rattle.rules.specs.declared.Refusal.{Refusal}
use Rattle.rules.specs.declared.Refusal.TheVariants as no
use Rattle.rules.specs.Nodes.{no_node}
use Rattle.rules.specs.Numbers.{answer_number}
use Rattle.rules.specs.Shapes.{Answer}
use Rattle.start.specs.Start.{slot_ids, start_nodes, start_fits, list_fits}

-- the table of no node
abbrev pub no_table : Table
no_table = record { m = 0; l = 0; n = 0; nodes = replicate 64 no_node }

abbrev pub start_table : ℕ → ℕ → ℕ → Ids → Marks → Table
start_table m l n ids a = record { m = m; l = l; n = n; nodes = start_nodes (record { m = m; l = l; n = n }) ids a }

-- 8 for M, L or the number of ids out of range, then 10 for the list or A
unfoldable pub start_of : ℕ → ℕ → Ids → Marks → Result Table Refusal
start_of m l ids a = cond (start_fits m l (length ids))
    (cond (list_fits m (length ids) (slot_ids ids) a) (Ok (start_table m l (length ids) (slot_ids ids) a)) (Err no.Invalid))
    (Err no.Header)

-- what a start answers: done where it made a table, else why it did not
abbrev pub start_answer : Result Table Refusal → Answer
start_answer (Ok t) = Ok tt
start_answer (Err why) = Err why

-- 01's number of a start: that of its answer
abbrev pub start_number : Result Table Refusal → ℕ
start_number r = answer_number (start_answer r)

-- the table that was made; of no node where none was
abbrev pub table_of : Result Table Refusal → Table
table_of (Ok t) = t
table_of (Err why) = no_table
