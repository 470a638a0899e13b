-- Reading a table file. Definitions only, each under 01's words. Assumes nothing.
use Rattle.std.specs.Prelude.{Bool, cond, ◌&&◌, not, List, ◌++◌, map, ℕ, ◌+◌, ◌-◌, ◌*◌, eqb, leb, ltb, length, drop, get_or, replicate}
use Rattle.marks.specs.Marks.{all_to}
use Rattle.rules.specs.declared.Pool.{Pool}
use Rattle.rules.specs.declared.Refusal.TheVariants as no
use Rattle.rules.specs.Limits.{m_low, m_high, l_low, l_high, nodes_high, messages_high}
use Rattle.rules.specs.Fits.{between}
use Rattle.rules.specs.Nodes.{no_node}
use Rattle.rules.specs.Pool.{laid}
use Rattle.table_type.specs.declared.Table.{Table}
use Rattle.table_type.specs.declared.Stepped.{Stepped}
use Rattle.table.specs.Settle.{refused_of, done_of}
use Rattle.table.specs.Valid.{valid_of}
use Rattle.words.specs.Bytes.{decode, decode_all}
use Rattle.file.specs.Format.{header_widths, node_widths, message_widths, nodes_at, messages_at, total_of, node_from, message_from}

-- a word of the header, from 0
abbrev pub header_word : List ℕ → ℕ → ℕ
header_word bs i = get_or (decode header_widths bs) i 0

abbrev pub file_m : List ℕ → ℕ
file_m bs = header_word bs 0

abbrev pub file_l : List ℕ → ℕ
file_l bs = header_word bs 1

abbrev pub file_n : List ℕ → ℕ
file_n bs = header_word bs 2

abbrev pub file_count : List ℕ → ℕ
file_count bs = header_word bs 3

-- 8: M, L, n or message count out of range, or last header word not 0
unfoldable pub header_fits : List ℕ → Bool
header_fits bs = between m_low (file_m bs) m_high
    && (between l_low (file_l bs) l_high && (between 1 (file_n bs) nodes_high && (leb (file_count bs) messages_high && eqb (header_word bs 7) 0)))

-- 9: an offset, the total or the real length disagrees with the counts
unfoldable pub offsets_fit : List ℕ → Bool
offsets_fit bs = eqb (header_word bs 4) nodes_at && (eqb (header_word bs 5) (messages_at (file_n bs))
    && (eqb (header_word bs 6) (total_of (file_n bs) (file_count bs)) && eqb (length bs) (total_of (file_n bs) (file_count bs))))

-- the rows of the nodes
abbrev pub node_rows : List ℕ → List (List ℕ)
node_rows bs = decode_all node_widths 64 (file_n bs) (drop nodes_at bs)

-- every status is one of 0 to 3
unfoldable pub statuses_fit : List ℕ → Bool
statuses_fit bs = all_to (file_n bs) (λ s. leb (get_or (decode node_widths (drop (nodes_at + 64 * s) bs)) 1 0) 3)

unfoldable pub file_table : List ℕ → Table
file_table bs = record { m = file_m bs; l = file_l bs; n = file_n bs; nodes = map node_from (node_rows bs) ++ replicate (64 - file_n bs) no_node }

-- the messages of the part of the file that begins at the message offset
unfoldable pub part_pool : ℕ → List ℕ → Pool
part_pool count part = laid (map message_from (decode_all message_widths 56 count part))

unfoldable pub file_pool : List ℕ → Pool
file_pool bs = part_pool (file_count bs) (drop (messages_at (file_n bs)) bs)

-- 7, 8, 9, then the list's length, then the records; a refusal leaves the table t and the pool p as they are
unfoldable pub load_of : List ℕ → Table → Pool → ℕ → Stepped
load_of bs t p len = cond (ltb (length bs) 32) (refused_of t p no.Short)
    (cond (not (header_fits bs)) (refused_of t p no.Header)
    (cond (not (offsets_fit bs)) (refused_of t p no.Offsets)
    (cond (not (eqb len messages_high)) (refused_of t p no.Invalid)
    (cond (statuses_fit bs && valid_of (file_table bs) (file_pool bs)) (done_of (file_table bs) (file_pool bs))
    (refused_of t p no.Invalid)))))
