-- The parts of a table file: the header, the nodes, the messages, how long each is and where it begins. Then what is read of a file that
-- was written: its header, its nodes (file-table) and its messages (file-pool), and that it passes every test. Assumes nothing.
use mathlib.Core.Path.{◌≡◌, refl, sym, ◌∙◌, ap}
use mathlib.Core.Bool.{true}
use mathlib.Core.List.{List, [], ◌++◌, map, append-nil}
use Prim.Native.Nat.{ℕ, ◌+◌, ◌*◌, ◌<◌, ◌≤◌}
use native.Mathlib.Omega.{arith}
use borrow.Author.Tests.{le-leb, eq-eqb}
use lib.Dec.{leb}
use lib.ListN.{length, get_or, take, drop, length-append, length-map}
use lib.Seq.{length-take-le, get_or-take, drop_at, drop-drop}
use Rattle.marks.proofs.Bools.{and_both}
use Rattle.marks.proofs.Laws.{all_of}
use Rattle.rules.specs.declared.Pool.{Pool}
use Rattle.rules.specs.Numbers.{status_number}
use Rattle.rules.specs.Nodes.{no_node}
use Rattle.rules.specs.Pool.{blank, message_at, waiting, laid}
use Rattle.table_type.specs.declared.Table.{Table}
use Rattle.table_type.specs.Table.{node_at}
use Rattle.table_laws.proofs.Sound.{Sound}
use Rattle.words.specs.Bytes.{encode, encode_all, decode, decode_all}
use Rattle.words.proofs.Codec.{Fit, bytes_in, encode-length, decode-encode, encode-all-length, decode-all-at, decode-encode-all}
use Rattle.file.specs.Format.{header_widths, node_widths, message_widths, nodes_at, messages_at, total_of, header_row, node_row, message_row}
use Rattle.file.specs.Format.{node_from, message_from, file_of}
use Rattle.file.specs.Load.{file_n, header_fits, offsets_fit, node_rows, statuses_fit, file_table, part_pool, file_pool}
use Rattle.file.proofs.Rows.{status-low, node-fit, message-fit, node-back, message-back, map_back, map_at}
use Rattle.file.specs.Held.{Held}
use Rattle.file.proofs.Told.{slots-told}
use Rattle.file.specs.InnerParts.{node_bytes, message_bytes}

-- the parts of a file
abbrev pub header_bytes : Table → Pool → List ℕ
header_bytes t p = encode header_widths (header_row t.m t.l t.n p.count)

-- ---- rows one after the other

module _ {A : Type 0} (f : A → List ℕ) (d : A) (ws : List ℕ) (size n : ℕ) (xs : List A) (z : bytes_in ws ≡ size) (l : n ≤ length xs) where
  rows_long : length (map f (take n xs)) ≡ n
  rows_long = length-map (take n xs) f ∙ length-take-le n xs l

  rows_at : (i : ℕ) → i < n → get_or (map f (take n xs)) i [] ≡ f (get_or xs i d)
  rows_at i h = map_at f d [] (take n xs) i (rw (length-take-le n xs l) h) ∙ ap f (get_or-take n xs i d h)

  rows-length : ((x : A) → length (f x) ≡ length ws) → length (encode_all ws (map f (take n xs))) ≡ size * n
  rows-length e =
      encode-all-length ws (map f (take n xs)) (λ i h. rw (rows_at i (rw rows_long at h)) (e (get_or xs i d))) ∙ rw (rows_long, z)

  rows-read : (rest : List ℕ) → ((i : ℕ) → Fit ws (f (get_or xs i d)))
      → decode_all ws size n (encode_all ws (map f (take n xs)) ++ rest) ≡ map f (take n xs)
  rows-read rest k = decode-encode-all ws size n (map f (take n xs)) rest z rows_long (λ i h. rw (rows_at i h) (k i))

-- ---- how long they are, and where they begin

header-length : (t : Table) (p : Pool) → length (header_bytes t p) ≡ 32
header-length t p = encode-length header_widths (header_row t.m t.l t.n p.count) refl

nodes-length : (t : Table) → t.n ≤ length t.nodes → length (node_bytes t) ≡ 64 * t.n
nodes-length t h = rows-length node_row no_node node_widths 64 t.n t.nodes refl h (λ v. refl)

messages-length : (p : Pool) → p.count ≤ length p.places → length (message_bytes p) ≡ 56 * p.count
messages-length p h = rows-length message_row blank message_widths 56 p.count p.places refl h (λ m. refl)

module _ (t : Table) (p : Pool) (hn : t.n ≤ length t.nodes) (hc : p.count ≤ length p.places) where
  pub file-length : length (file_of t p) ≡ total_of t.n p.count
  unfolding file_of
  file-length = rw (length-append, length-append, header-length t p, nodes-length t hn, messages-length p hc) (omega arith)

  pub file-nodes : drop 32 (file_of t p) ≡ node_bytes t ++ message_bytes p
  unfolding file_of
  file-nodes = drop_at (header_bytes t p) (node_bytes t ++ message_bytes p) 32 (header-length t p)

  pub file-messages : drop (messages_at t.n) (file_of t p) ≡ message_bytes p
  file-messages =
      sym (drop-drop (64 * t.n) 32 (file_of t p)) ∙ rw file-nodes (drop_at (node_bytes t) (message_bytes p) (64 * t.n) (nodes-length t hn))

-- ---- what is read of a file that was written

-- row s of the nodes, where a reader finds it
pub node-row-at : (bs : List ℕ) (s : ℕ) → s < file_n bs → get_or (node_rows bs) s [] ≡ decode node_widths (drop (nodes_at + 64 * s) bs)
node-row-at bs s h = decode-all-at node_widths 64 (file_n bs) s (drop nodes_at bs) h ∙ ap (decode node_widths) (drop-drop (64 * s) nodes_at bs)

module _ (t : Table) (p : Pool) (v : Sound t p) (k : Held t p) where
  held-n : t.n ≤ length t.nodes
  held-n = omega (arith, v.numbers.n-high, k.slots)

  held-count : p.count ≤ length p.places
  held-count = omega (arith, v.counted, k.places)

  pub file-long : length (file_of t p) ≡ total_of t.n p.count
  file-long = file-length t p held-n held-count

  pub file-header : decode header_widths (file_of t p) ≡ header_row t.m t.l t.n p.count
  unfolding file_of
  file-header =
      decode-encode header_widths (header_row t.m t.l t.n p.count) (node_bytes t ++ message_bytes p)
      (omega (arith, v.numbers, v.counted))

  pub file-node-rows : node_rows (file_of t p) ≡ map node_row (take t.n t.nodes)
  file-node-rows =
      rw (file-header, file-nodes t p held-n held-count)
      (rows-read node_row no_node node_widths 64 t.n t.nodes refl held-n (message_bytes p) (λ s. node-fit (node_at t s) (k.nodes s)))

  pub file-table : file_table (file_of t p) ≡ t
  unfolding file_table
  file-table =
      let back : map node_from (map node_row (take t.n t.nodes)) ≡ take t.n t.nodes =
      map_back node_from node_row no_node (take t.n t.nodes) (λ i h. node-back _) in
      rw (file-node-rows, file-header, back, slots-told v k.slots)

  file-message-rows : decode_all message_widths 56 p.count (message_bytes p) ≡ map message_row (waiting p)
  file-message-rows =
      ap (decode_all message_widths 56 p.count) (sym (append-nil (message_bytes p)))
      ∙ rows-read message_row blank message_widths 56 p.count p.places refl held-count []
      (λ q. message-fit (message_at p q) (k.messages q))

  pub file-pool : file_pool (file_of t p) ≡ laid (waiting p)
  unfolding file_pool part_pool
  file-pool =
      let back : map message_from (map message_row (waiting p)) ≡ waiting p =
      map_back message_from message_row blank (waiting p) (λ i h. message-back _) in
      rw (file-header, file-messages t p held-n held-count, file-message-rows, back)

  pub file-statuses : statuses_fit (file_of t p) ≡ true
  unfolding statuses_fit
  file-statuses = rw file-header (all_of t.n (λ s. leb (get_or (decode node_widths (drop (nodes_at + 64 * s) (file_of t p))) 1 0) 3) one)
    where
      row : (s : ℕ) → s < t.n → decode node_widths (drop (nodes_at + 64 * s) (file_of t p)) ≡ node_row (node_at t s)
      row s h =
          sym (node-row-at (file_of t p) s (rw file-header h)) ∙ ap (λ (rs : List (List ℕ)). get_or rs s []) file-node-rows
          ∙ rows_at node_row no_node node_widths 64 t.n t.nodes refl held-n s h

      one : (s : ℕ) → s < t.n → leb (get_or (decode node_widths (drop (nodes_at + 64 * s) (file_of t p))) 1 0) 3 ≡ true
      one s h = rw (row s h) (le-leb (status_number (node_at t s).status) 3 (status-low (node_at t s).status))

  pub file-header-fits : header_fits (file_of t p) ≡ true
  unfolding header_fits
  file-header-fits =
      let g = v.numbers in
      rw file-header
      (and_both (and_both (le-leb 2 t.m g.m-low) (le-leb t.m 32 g.m-high))
      (and_both (and_both (le-leb 1 t.l g.l-low) (le-leb t.l 8 g.l-high))
      (and_both (and_both (le-leb 1 t.n g.n-low) (le-leb t.n 64 g.n-high))
      (and_both (le-leb p.count 256 v.counted) (eq-eqb 0 0 refl)))))

  pub file-offsets-fit : offsets_fit (file_of t p) ≡ true
  unfolding offsets_fit
  file-offsets-fit =
      let total = total_of t.n p.count in
      rw file-header
      (and_both (eq-eqb nodes_at nodes_at refl)
      (and_both (eq-eqb (messages_at t.n) (messages_at t.n) refl)
      (and_both (eq-eqb total total refl) (eq-eqb (length (file_of t p)) total file-long))))
