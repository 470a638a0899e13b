-- The listing: its bytes, from the bytes of a table file. Definitions only. Assumes nothing.
use Rattle.rules.specs.Shapes.{Answer}
use Rattle.marks.specs.Marks.{Found}
use Rattle.std.specs.Prelude.{cond, List, [], ◌∷◌, ◌++◌, ℕ, eqb, length, Some, None, Ok, Err}
use Rattle.rules.specs.declared.Message.{Message}
use Rattle.rules.specs.Numbers.{refusal_number}
use Rattle.rules.specs.Pool.{laid, waiting}
use Rattle.table_type.specs.declared.Table.{Table}
use Rattle.table_type.specs.declared.Stepped.{Stepped}
use Rattle.table_type.specs.Start.{no_table}
use Rattle.table_type.specs.Table.{node_at}
use Rattle.file.specs.Load.{load_of}
use Rattle.text.specs.Decimal.{decimal}
use Rattle.listing.specs.Trip.{Trip, follow_of}

abbrev pub space : ℕ
space = 32

abbrev pub newline : ℕ
newline = 10

-- `key from to hops via`
abbrev pub headline : List ℕ
headline = 107 ∷ 101 ∷ 121 ∷ 32 ∷ 102 ∷ 114 ∷ 111 ∷ 109 ∷ 32 ∷ 116 ∷ 111 ∷ 32 ∷ 104 ∷ 111 ∷ 112 ∷ 115 ∷ 32 ∷ 118 ∷ 105 ∷ 97 ∷ 10 ∷ []

-- `refused `
abbrev pub refused_word : List ℕ
refused_word = 114 ∷ 101 ∷ 102 ∷ 117 ∷ 115 ∷ 101 ∷ 100 ∷ 32 ∷ []

-- id that delivers it, or `-`
abbrev pub end_text : Table → Found → List ℕ
end_text t (Some e) = decimal (node_at t e).id
end_text t None = 45 ∷ []

-- T-01: a last column `via`, one letter for each routing, or `-` when hops is 0
abbrev pub via_text : List ℕ → List ℕ
via_text [] = 45 ∷ []
via_text (x ∷ xs) = x ∷ xs

-- routings made, and their letters
abbrev pub hops_text : List ℕ → List ℕ
hops_text letters = decimal (length letters) ++ (space ∷ (via_text letters ++ (newline ∷ [])))

-- key; id where it waits; id that delivers it, or `-`; routings made; their letters
abbrev pub line_with : Table → Message → Trip → List ℕ
line_with t m trip = decimal m.word ++ (space ∷ (decimal (node_at t m.dest).id ++ (space ∷ (end_text t trip.end ++ (space ∷ hops_text trip.letters)))))

unfoldable pub line_of : Table → Message → List ℕ
line_of t m = line_with t m (follow_of t m)

-- each waiting lookup, in pool order
unfoldable pub lines_of : Table → List Message → List ℕ
lines_of t [] = []
lines_of t (m ∷ ms) = let rest = lines_of t ms in cond (eqb m.kind 1) (line_of t m ++ rest) rest

-- a refused file prints one line only
abbrev pub printed : Answer → Stepped → List ℕ
printed (Ok tt) s = headline ++ lines_of s.table (waiting s.pool)
printed (Err why) s = refused_word ++ (decimal (refusal_number why) ++ (newline ∷ []))

abbrev pub print_of : Stepped → List ℕ
print_of s = printed s.answer s

unfoldable pub listing_of : List ℕ → List ℕ
listing_of bs = print_of (load_of bs no_table (laid []) 256)
