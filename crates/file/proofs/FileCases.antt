-- The table file computed by the checker: the bytes of a small table, written out; files that load, and one for each refusal; writes. Assumes nothing.
use mathlib.Core.Path.{◌≡◌, refl}
use mathlib.Core.List.{List, [], ◌∷◌, ◌++◌}
use Prim.Native.Nat.{ℕ}
use lib.ListN.{take, replicate}
use Rattle.ring.specs.Distance.{fall_of, signed_of, abs_dist_of, rises_to, nearer}
use Rattle.marks.specs.Marks.{has, tally, all_to, size_of, listed}
use Rattle.rules.specs.declared.Status.{Status}
use Rattle.rules.specs.declared.Status.TheVariants.{Dead, Wait, Ok, Ready}
use Rattle.rules.specs.declared.Node.{Node}
use Rattle.rules.specs.declared.Message.{Message}
use Rattle.rules.specs.declared.Pool.{Pool}
use Rattle.rules.specs.declared.Refusal.TheVariants as no
use Rattle.rules.specs.Fits.{numbers_fit, id_fits, side_fits, leaf_fits, others_fit, node_fits, is_blank, slot_fits}
use Rattle.rules.specs.Fits.{word_fits, flag_fits, carried_fits, owner_fits, routing_fits, failed_fits, fields_fit, message_fits, farther_than, hops_fit}
use Rattle.rules.specs.Mail.{alike, all_different}
use Rattle.rules.specs.Nodes.{no_node}
use Rattle.rules.specs.Numbers.{answer_number}
use Rattle.rules.specs.Pool.{laid}
use Rattle.table_type.specs.declared.Table.{Table}
use Rattle.table.specs.Settle.{refused_of, done_of}
use Rattle.step.specs.Step.{is_sound}
use Rattle.table.specs.Valid.{nodes_fit, messages_fit, pool_fits, valid_of}
use Rattle.words.specs.Bytes.{bytes_of, number_of, encode, decode, encode_all, decode_all}
use Rattle.file.specs.Format.{file_of}
use Rattle.file.specs.Load.{header_fits, offsets_fit, statuses_fit, file_table, part_pool, file_pool, load_of}
use Rattle.file.specs.Write.{said_number, count_of, wrote_of, written_of}

-- to unfold this is to unfold all that reading and writing compute with
unfoldable opened : Unit {0}
unfolding has tally all_to size_of listed numbers_fit id_fits side_fits leaf_fits others_fit node_fits is_blank slot_fits word_fits flag_fits
    carried_fits owner_fits routing_fits failed_fits fields_fit message_fits farther_than hops_fit nearer rises_to abs_dist_of signed_of fall_of alike
    all_different is_sound nodes_fit messages_fit pool_fits valid_of bytes_of number_of encode decode encode_all decode_all file_of header_fits
    offsets_fit statuses_fit file_table part_pool file_pool load_of wrote_of written_of
opened = tt

-- a node: id, status, left, right, probing, failed, routing set, lease, grant
abbrev node : ℕ → Status → ℕ → ℕ → ℕ → ℕ → ℕ → ℕ → ℕ → Node
node id s left right probing failed routing lease grant =
    record {
      id = id;
      status = s;
      left = left;
      right = right;
      probing = probing;
      failed = failed;
      routing = routing;
      lease = lease;
      grant = grant;
    }

-- kind, destination, node or key, flag, owner, hops, routing, left, right, failed
abbrev message : ℕ → ℕ → ℕ → ℕ → ℕ → ℕ → ℕ → ℕ → ℕ → ℕ → Message
message kind dest word flag owner hops routing left right failed =
    record {
      kind = kind;
      dest = dest;
      word = word;
      flag = flag;
      owner = owner;
      hops = hops;
      routing = routing;
      left = left;
      right = right;
      failed = failed;
    }

-- ---- the layout: a table of two nodes, the second all 0, and a message, with other numbers in every field

abbrev laid_out : Table
laid_out =
    record { m = 8; l = 3; n = 2; nodes = node 67305985 Ok 5 6 7 8 9 10 1301839424133073931 ∷ node 0 Dead 0 0 0 0 0 0 0 ∷ node 1 Ready 1 1 1 1 1 1 1 ∷ [] }

abbrev sent : Pool
sent = record { count = 1; places = message 1 2 134678021 4 29 30 31 2025241152513840661 32 33 ∷ message 1 1 1 1 1 1 1 1 1 1 ∷ [] }

-- header, eight 32-bit words: M, L, n, message count m, offset of nodes (32), offset of messages (32 + 64n), total (32 + 64n + 56m), 0
abbrev header_bytes : List ℕ
header_bytes =
    8 ∷ 0 ∷ 0 ∷ 0 ∷ 3 ∷ 0 ∷ 0 ∷ 0 ∷ 2 ∷ 0 ∷ 0 ∷ 0 ∷ 1 ∷ 0 ∷ 0 ∷ 0 ∷ 32 ∷ 0 ∷ 0 ∷ 0 ∷ 160 ∷ 0 ∷ 0 ∷ 0 ∷ 216 ∷ 0 ∷ 0 ∷ 0 ∷ 0 ∷ 0 ∷ 0 ∷ 0 ∷ []

-- node, 64 bytes: id, status (32 bits each), then left, right, probing, failed, routing, lease, grant (64 bits each)
abbrev node_bytes : List ℕ
node_bytes =
    1 ∷ 2 ∷ 3 ∷ 4 ∷ 2 ∷ 0 ∷ 0 ∷ 0 ∷ 5 ∷ 0 ∷ 0 ∷ 0 ∷ 0 ∷ 0 ∷ 0 ∷ 0 ∷ 6 ∷ 0 ∷ 0 ∷ 0 ∷ 0 ∷ 0 ∷ 0 ∷ 0 ∷ 7 ∷ 0 ∷ 0 ∷ 0 ∷ 0 ∷ 0 ∷ 0 ∷ 0
    ∷ 8 ∷ 0 ∷ 0 ∷ 0 ∷ 0 ∷ 0 ∷ 0 ∷ 0 ∷ 9 ∷ 0 ∷ 0 ∷ 0 ∷ 0 ∷ 0 ∷ 0 ∷ 0 ∷ 10 ∷ 0 ∷ 0 ∷ 0 ∷ 0 ∷ 0 ∷ 0 ∷ 0
    ∷ 11 ∷ 12 ∷ 13 ∷ 14 ∷ 15 ∷ 16 ∷ 17 ∷ 18 ∷ []

-- message, 56 bytes: kind, destination, node or key, flag, owner, hops (T-07) (32 bits each), then routing, left, right, failed (64 bits each)
abbrev message_bytes : List ℕ
message_bytes =
    1 ∷ 0 ∷ 0 ∷ 0 ∷ 2 ∷ 0 ∷ 0 ∷ 0 ∷ 5 ∷ 6 ∷ 7 ∷ 8 ∷ 4 ∷ 0 ∷ 0 ∷ 0 ∷ 29 ∷ 0 ∷ 0 ∷ 0 ∷ 30 ∷ 0 ∷ 0 ∷ 0
    ∷ 31 ∷ 0 ∷ 0 ∷ 0 ∷ 0 ∷ 0 ∷ 0 ∷ 0 ∷ 21 ∷ 22 ∷ 23 ∷ 24 ∷ 25 ∷ 26 ∷ 27 ∷ 28 ∷ 32 ∷ 0 ∷ 0 ∷ 0 ∷ 0 ∷ 0 ∷ 0 ∷ 0
    ∷ 33 ∷ 0 ∷ 0 ∷ 0 ∷ 0 ∷ 0 ∷ 0 ∷ 0 ∷ []

-- header, the nodes below n, the messages below the count
pub layout : file_of laid_out sent ≡ header_bytes ++ (node_bytes ++ (replicate 64 0 ++ message_bytes))
unfolding opened
layout = refl

-- the same bytes read
pub layout-read : ((file_table (header_bytes ++ (node_bytes ++ (replicate 64 0 ++ message_bytes)))).nodes
    ≡ node 67305985 Ok 5 6 7 8 9 10 1301839424133073931 ∷ replicate 63 no_node)
    × (file_pool (header_bytes ++ (node_bytes ++ (replicate 64 0 ++ message_bytes))) ≡ laid (message 1 2 134678021 4 29 30 31 2025241152513840661 32 33 ∷ []))
unfolding opened
layout-read = (refl, refl)

-- ---- loads

-- a word of 32 and one of 64 bits, for a number below 256
abbrev w32 : ℕ → List ℕ → List ℕ
w32 x rest = x ∷ 0 ∷ 0 ∷ 0 ∷ rest

abbrev w64 : ℕ → List ℕ → List ℕ
w64 x rest = x ∷ 0 ∷ 0 ∷ 0 ∷ 0 ∷ 0 ∷ 0 ∷ 0 ∷ rest

-- M, L, n, message count, the two offsets, the total, the last word
abbrev header : ℕ → ℕ → ℕ → ℕ → ℕ → ℕ → ℕ → ℕ → List ℕ → List ℕ
header m l n count a b c z rest = w32 m (w32 l (w32 n (w32 count (w32 a (w32 b (w32 c (w32 z rest)))))))

-- 17 in slot 0, by status, with 18 on both sides
abbrev first : ℕ → List ℕ → List ℕ
first s rest = w32 17 (w32 s (w64 2 (w64 2 (w64 0 (w64 0 (w64 3 (w64 1 (w64 3 rest))))))))

-- slot 1 by id, waiting, with 17 on its right, probing and failed
abbrev second : ℕ → List ℕ → List ℕ
second id rest = w32 id (w32 1 (w64 0 (w64 1 (w64 1 (w64 1 (w64 2 (w64 0 (w64 0 rest))))))))

-- the LSProbe of slot 1 to slot 0, with 17 on its right and both failed, by its hops
abbrev probe : ℕ → List ℕ → List ℕ
probe z rest = w32 4 (w32 0 (w32 1 (w32 0 (w32 1 (w32 z (w64 0 (w64 0 (w64 1 (w64 3 rest)))))))))

-- the Lookup of 80 for slot 1, from whose key 17 is farther than 18, by its hops
abbrev looking : ℕ → List ℕ → List ℕ
looking hops rest = w32 1 (w32 1 (w32 80 (w32 0 (w32 0 (w32 hops (w64 0 (w64 0 (w64 0 (w64 0 rest)))))))))

abbrev lookup_file : ℕ → List ℕ
lookup_file hops = header 8 1 2 1 32 160 216 0 (first 3 (second 18 (looking hops [])))

abbrev body : List ℕ
body = first 3 (second 18 (probe 0 []))

abbrev file : List ℕ
file = header 8 1 2 1 32 160 216 0 body

abbrev table : Table
table = record { m = 8; l = 1; n = 2; nodes = node 17 Ready 2 2 0 0 3 1 3 ∷ node 18 Wait 0 1 1 1 2 0 0 ∷ replicate 62 no_node }

abbrev pool : Pool
pool = laid (message 4 0 1 0 1 0 0 0 1 3 ∷ [])

-- what stood before
abbrev before : Table
before = record { m = 2; l = 1; n = 1; nodes = node 1 Dead 0 0 0 0 1 0 0 ∷ replicate 63 no_node }

abbrev number : List ℕ → ℕ → ℕ
number bs len = answer_number (load_of bs before (laid []) len).answer

pub record Loads : Type 0 where
  pub done : load_of file before (laid []) 256 ≡ done_of table pool
  -- the table and the pool as they were
  pub unchanged : load_of (replicate 31 0) before pool 256 ≡ refused_of before pool no.Short
  -- 7: file shorter than 32 bytes
  pub seven : (number [] 256 ≡ 7) × (number (take 31 file) 255 ≡ 7) × (number (header 8 1 2 1 32 160 216 0 []) 256 ≡ 9)
  -- 8: M, L, n or message count out of range, or last header word not 0
  pub m : (number (header 1 1 2 1 32 160 216 0 body) 256 ≡ 8) × (number (header 33 1 2 1 32 160 216 0 body) 256 ≡ 8)
  pub l : (number (header 8 0 2 1 32 160 216 0 body) 256 ≡ 8) × (number (header 8 9 2 1 32 160 216 0 body) 256 ≡ 8)
  pub n : (number (header 8 1 0 1 32 160 216 0 body) 256 ≡ 8) × (number (header 8 1 65 1 32 160 216 0 body) 256 ≡ 8)
  -- 257 in two bytes
  pub count : number (w32 8 (w32 1 (w32 2 (1 ∷ 1 ∷ 0 ∷ 0 ∷ w32 32 (w32 160 (w32 216 (w32 0 body))))))) 256 ≡ 8
  pub last : number (header 8 1 2 1 32 160 216 1 body) 256 ≡ 8
  -- the greatest numbers are in range: 9 by the length
  pub greatest : number (w32 32 (w32 8 (w32 64 (0 ∷ 1 ∷ 0 ∷ 0 ∷ w32 32 (w32 160 (w32 216 (w32 0 body))))))) 256 ≡ 9
  -- so are more nodes than there are ids
  pub crowded : number (header 2 1 5 0 32 160 216 0 []) 256 ≡ 9
  -- 9: an offset, the total or the real length disagrees with the counts
  pub offsets : (number (header 8 1 2 1 33 160 216 0 body) 256 ≡ 9) × (number (header 8 1 2 1 32 161 216 0 body) 256 ≡ 9)
  pub total : number (header 8 1 2 1 32 160 217 0 body) 256 ≡ 9
  pub long : (number (file ++ (0 ∷ [])) 256 ≡ 9) × (number (take 215 file) 256 ≡ 9)
  -- 10: the list, a status, a record
  pub list : (number file 255 ≡ 10) × (number file 257 ≡ 10)
  pub status : number (header 8 1 2 1 32 160 216 0 (first 4 (second 18 (probe 0 [])))) 256 ≡ 10
  pub node-record : number (header 8 1 2 1 32 160 216 0 (first 3 (second 17 (probe 0 [])))) 256 ≡ 10
  pub message-record : number (header 8 1 2 1 32 160 216 0 (first 3 (second 18 (probe 1 [])))) 256 ≡ 10
  -- T-07: the sixth word holds the hops: 0, the bound exactly met, and one more
  pub hops : (number (lookup_file 0) 256 ≡ 0) × (load_of (lookup_file 1) before (laid []) 256 ≡ done_of table (laid (message 1 1 80 0 0 1 0 0 0 0 ∷ [])))
      × (number (lookup_file 2) 256 ≡ 10)
  -- 8 before 9; 9 before the list, and before the records
  pub eight-first : number (header 33 1 2 1 33 160 216 0 body) 255 ≡ 8
  pub nine-first : (number (header 8 1 2 1 33 160 216 0 body) 255 ≡ 9)
      × (number (header 8 1 2 1 33 160 216 0 (first 4 (second 17 (probe 1 [])))) 256 ≡ 9)

pub loads : Loads
unfolding opened
loads =
    record {
      done = refl;
      unchanged = refl;
      seven = (refl, refl, refl);
      m = (refl, refl);
      l = (refl, refl);
      n = (refl, refl);
      count = refl;
      last = refl;
      greatest = refl;
      crowded = refl;
      offsets = (refl, refl);
      total = refl;
      long = (refl, refl);
      list = (refl, refl);
      status = refl;
      node-record = refl;
      message-record = refl;
      hops = (refl, refl, refl);
      eight-first = refl;
      nine-first = (refl, refl);
    }

-- ---- writes

-- the answer and the count of a write into so many bytes
abbrev wrote : Pool → ℕ → ℕ → ℕ × ℕ
wrote p len bytes = (said_number (wrote_of table p len (replicate bytes 7)), count_of (wrote_of table p len (replicate bytes 7)))

-- a message that is not valid
abbrev bad : Pool
bad = laid (message 9 0 0 0 0 0 0 0 0 0 ∷ [])

pub record Writes : Type 0 where
  pub done : (wrote pool 256 216 ≡ (0, 216)) × (wrote pool 256 220 ≡ (0, 216))
  -- 11: write buffer too small; nothing is written
  pub eleven : wrote pool 256 215 ≡ (11, 0)
  -- 10 before 11
  pub ten : (wrote pool 255 216 ≡ (10, 0)) × (wrote bad 256 216 ≡ (10, 0)) × (wrote bad 256 0 ≡ (10, 0)) × (wrote pool 257 0 ≡ (10, 0))
  -- only the first total bytes change
  pub written : written_of table pool 256 (replicate 220 7) ≡ file ++ replicate 4 7
  -- after every refusal the buffer is unchanged
  pub small : written_of table pool 256 (replicate 3 7) ≡ replicate 3 7
  pub invalid : written_of table bad 256 (replicate 216 7) ≡ replicate 216 7

pub writes : Writes
unfolding opened
writes =
    record { done = (refl, refl); eleven = refl; ten = (refl, refl, refl, refl); written = refl; small = refl; invalid = refl }
