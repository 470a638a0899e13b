-- The table file: header, node record, message record. Definitions only, each under 01's words. Assumes nothing.
use Rattle.std.specs.Prelude.{cond, List, [], ◌∷◌, ◌++◌, map, ℕ, ◌+◌, ◌*◌, eqb, take, get_or}
use Rattle.rules.specs.declared.Status.{Status}
use Rattle.rules.specs.declared.Status.TheVariants.{Dead, Wait, Ok, Ready}
use Rattle.rules.specs.declared.Node.{Node}
use Rattle.rules.specs.declared.Message.{Message}
use Rattle.rules.specs.declared.Pool.{Pool}
use Rattle.rules.specs.Numbers.{status_number}
use Rattle.rules.specs.Pool.{waiting}
use Rattle.table_type.specs.declared.Table.{Table}
use Rattle.words.specs.Bytes.{encode, encode_all}

-- header, eight 32-bit words
abbrev pub header_widths : List ℕ
header_widths = 4 ∷ 4 ∷ 4 ∷ 4 ∷ 4 ∷ 4 ∷ 4 ∷ 4 ∷ []

-- node, 64 bytes: id, status (32 bits each), then left, right, probing, failed, routing, lease, grant (64 bits each)
abbrev pub node_widths : List ℕ
node_widths = 4 ∷ 4 ∷ 8 ∷ 8 ∷ 8 ∷ 8 ∷ 8 ∷ 8 ∷ 8 ∷ []

-- message, 56 bytes: kind, destination, node or key, flag, owner, hops (T-07) (32 bits each), then routing, left, right, failed (64 bits each)
abbrev pub message_widths : List ℕ
message_widths = 4 ∷ 4 ∷ 4 ∷ 4 ∷ 4 ∷ 4 ∷ 8 ∷ 8 ∷ 8 ∷ 8 ∷ []

-- offset of nodes (32), offset of messages (32 + 64n), total (32 + 64n + 56m)
abbrev pub nodes_at : ℕ
nodes_at = 32

abbrev pub messages_at : ℕ → ℕ
messages_at n = 32 + 64 * n

abbrev pub total_of : ℕ → ℕ → ℕ
total_of n count = 32 + 64 * n + 56 * count

-- M, L, n, message count m, offset of nodes, offset of messages, total, 0
abbrev pub header_row : ℕ → ℕ → ℕ → ℕ → List ℕ
header_row m l n count = m ∷ l ∷ n ∷ count ∷ nodes_at ∷ messages_at n ∷ total_of n count ∷ 0 ∷ []

abbrev pub node_row : Node → List ℕ
node_row v = v.id ∷ status_number v.status ∷ v.left ∷ v.right ∷ v.probing ∷ v.failed ∷ v.routing ∷ v.lease ∷ v.grant ∷ []

abbrev pub message_row : Message → List ℕ
message_row m = m.kind ∷ m.dest ∷ m.word ∷ m.flag ∷ m.owner ∷ m.hops ∷ m.routing ∷ m.left ∷ m.right ∷ m.failed ∷ []

-- the file of a table and the messages that wait
unfoldable pub file_of : Table → Pool → List ℕ
file_of t p = encode header_widths (header_row t.m t.l t.n p.count)
    ++ (encode_all node_widths (map node_row (take t.n t.nodes)) ++ encode_all message_widths (map message_row (waiting p)))

-- ---- what a row says

-- the status of a number from 0 to 3
abbrev pub status_of : ℕ → Status
status_of x = cond (eqb x 1) Wait (cond (eqb x 2) Ok (cond (eqb x 3) Ready Dead))

-- a number of a row, from 0
abbrev pub at : List ℕ → ℕ → ℕ
at r i = get_or r i 0

abbrev pub node_from : List ℕ → Node
node_from r =
    record { id = at r 0; status = status_of (at r 1); left = at r 2; right = at r 3; probing = at r 4; failed = at r 5; routing = at r 6; lease = at r 7; grant = at r 8 }

abbrev pub message_from : List ℕ → Message
message_from r =
    record { kind = at r 0; dest = at r 1; word = at r 2; flag = at r 3; owner = at r 4; hops = at r 5; routing = at r 6; left = at r 7; right = at r 8; failed = at r 9 }
