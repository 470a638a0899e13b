-- What is written of a file that was read: its header, its nodes and its messages are the bytes that were read, and so is the whole
-- (file-back). Assumes nothing.
use mathlib.Core.Path.{◌≡◌, refl, sym, ◌∙◌, ap₂}
use mathlib.Core.Bool.{true, ◌&&◌}
use mathlib.Core.List.{List, [], ◌++◌, map}
use Prim.Native.Nat.{ℕ, ◌+◌, ◌-◌, ◌*◌, ◌<◌}
use native.Mathlib.Omega.{arith}
use borrow.Author.Tests.{leb-true, eqb-true}
use lib.Dec.{eqb, leb}
use lib.ListN.{length, get_or, take, drop, replicate, length-map, length-drop, take-append-drop}
use lib.Seq.{take_all, take_at, drop-drop, take-append_seam}
use Rattle.marks.proofs.Bools.{and_left, and_right}
use Rattle.marks.proofs.Laws.{each}
use Rattle.rules.specs.Limits.{m_low, m_high, l_low, l_high, nodes_high, messages_high}
use Rattle.rules.specs.Fits.{between}
use Rattle.rules.specs.Nodes.{no_node}
use Rattle.words.specs.Bytes.{encode, encode_all, decode, decode_all}
use Rattle.words.proofs.Codec.{Bytes, bytes_drop, decode-length, encode-decode, decode-all-length, decode-all-at, encode-decode-all}
use Rattle.file.specs.Format.{header_widths, node_widths, message_widths, nodes_at, messages_at, total_of, header_row, node_row, message_row}
use Rattle.file.specs.Format.{node_from, message_from, file_of}
use Rattle.file.specs.Load.{header_word, file_m, file_l, file_n, file_count, header_fits, offsets_fit, node_rows, statuses_fit, file_table}
use Rattle.file.specs.Load.{part_pool, file_pool}
use Rattle.file.proofs.Rows.{header-row-back, node-row-back, message-row-back, map_back}
use Rattle.file.proofs.File.{node-row-at}

-- the rows of the messages
abbrev pub message_rows : List ℕ → List (List ℕ)
message_rows bs = decode_all message_widths 56 (file_count bs) (drop (messages_at (file_n bs)) bs)

-- what the tests of a header tell
pub record Header (bs : List ℕ) : Type 0 where
  pub last : header_word bs 7 ≡ 0
  pub nodes : header_word bs 4 ≡ nodes_at
  pub messages : header_word bs 5 ≡ messages_at (file_n bs)
  pub total : header_word bs 6 ≡ total_of (file_n bs) (file_count bs)
  pub long : length bs ≡ total_of (file_n bs) (file_count bs)

pub header-told : (bs : List ℕ) → header_fits bs ≡ true → offsets_fit bs ≡ true → Header bs
unfolding header_fits offsets_fit
header-told bs h o =
    let a = between m_low (file_m bs) m_high in
    let b = between l_low (file_l bs) l_high in
    let c = between 1 (file_n bs) nodes_high in
    let d = leb (file_count bs) messages_high in
    let e = eqb (header_word bs 7) 0 in
    let x = eqb (header_word bs 4) nodes_at in
    let y = eqb (header_word bs 5) (messages_at (file_n bs)) in
    let z = eqb (header_word bs 6) (total_of (file_n bs) (file_count bs)) in
    let w = eqb (length bs) (total_of (file_n bs) (file_count bs)) in
    let yzw = and_right x (y && (z && w)) o in
    let zw = and_right y (z && w) yzw in
    record {
      last = eqb-true _ _ (and_right d e (and_right c (d && e) (and_right b (c && (d && e)) (and_right a (b && (c && (d && e))) h))));
      nodes = eqb-true _ _ (and_left x (y && (z && w)) o);
      messages = eqb-true _ _ (and_left y (z && w) yzw);
      total = eqb-true _ _ (and_left z w zw);
      long = eqb-true _ _ (and_right z w zw);
    }

count-back : (bs : List ℕ) → length (map message_from (message_rows bs)) ≡ file_count bs
count-back bs =
    length-map (message_rows bs) message_from ∙ decode-all-length message_widths 56 (file_count bs) (drop (messages_at (file_n bs)) bs)

-- the counts of what is read give the length that was read
pub file-total : (bs : List ℕ) → Header bs → total_of (file_table bs).n (file_pool bs).count ≡ length bs
unfolding file_table file_pool part_pool
file-total bs k = rw (count-back bs) (sym k.long)

module _ (bs : List ℕ) (b : Bytes bs) (k : Header bs) where
  header-back : encode header_widths (header_row (file_m bs) (file_l bs) (file_n bs) (file_count bs)) ≡ take 32 bs
  header-back =
      let r = decode header_widths bs in
      let row : header_row (file_m bs) (file_l bs) (file_n bs) (file_count bs) ≡ r =
      rw (k.nodes, k.messages, k.total, k.last) at (header-row-back r (decode-length header_widths bs)) in
      rw row (encode-decode header_widths bs b (omega (arith, k.long)))

  nodes-back : statuses_fit bs ≡ true
      → encode_all node_widths (map node_row (take (file_n bs) (map node_from (node_rows bs) ++ replicate (64 - file_n bs) no_node)))
      ≡ take (64 * file_n bs) (drop nodes_at bs)
  unfolding statuses_fit
  nodes-back e =
      let rows = node_rows bs in
      let long : length (map node_from rows) ≡ file_n bs =
      length-map rows node_from ∙ decode-all-length node_widths 64 (file_n bs) (drop nodes_at bs) in
      rw (take_at (map node_from rows) (replicate (64 - file_n bs) no_node) (file_n bs) long)
      (rw (map_back node_row node_from [] rows (λ i h. one i (rw decode-all-length at h)))
      (encode-decode-all node_widths 64 (file_n bs) (drop nodes_at bs) refl (bytes_drop nodes_at bs b)
      (rw length-drop (omega (arith, k.long)))))
    where
      one : (i : ℕ) → i < file_n bs → node_row (node_from (get_or (node_rows bs) i [])) ≡ get_or (node_rows bs) i []
      one i h =
          rw (node-row-at bs i h)
          (node-row-back (decode node_widths (drop (nodes_at + 64 * i) bs)) (decode-length node_widths (drop (nodes_at + 64 * i) bs))
          (leb-true _ 3 (each (file_n bs) (λ s. leb (get_or (decode node_widths (drop (nodes_at + 64 * s) bs)) 1 0) 3) i e h)))

  messages-back : encode_all message_widths (map message_row (map message_from (message_rows bs))) ≡ drop (messages_at (file_n bs)) bs
  messages-back =
      let n = file_count bs in
      let part = drop (messages_at (file_n bs)) bs in
      let long : length part ≡ 56 * n = rw length-drop (omega (arith, k.long)) in
      rw (map_back message_row message_from [] (message_rows bs) (λ i h. one i (rw decode-all-length at h)))
      (encode-decode-all message_widths 56 n part refl (bytes_drop (messages_at (file_n bs)) bs b) (omega arith)
      ∙ take_all (56 * n) part (omega arith))
    where
      one : (i : ℕ) → i < file_count bs → message_row (message_from (get_or (message_rows bs) i [])) ≡ get_or (message_rows bs) i []
      one i h =
          let part = drop (messages_at (file_n bs)) bs in
          message-row-back (get_or (message_rows bs) i [])
          (rw (decode-all-at message_widths 56 (file_count bs) i part h) (decode-length message_widths (drop (56 * i) part)))

  join : take 32 bs ++ (take (64 * file_n bs) (drop nodes_at bs) ++ drop (messages_at (file_n bs)) bs) ≡ bs
  join =
      rw (← (drop-drop (64 * file_n bs) 32 bs), take-append-drop (64 * file_n bs) (drop 32 bs)) (take-append-drop 32 bs)

  pub file-back : statuses_fit bs ≡ true → file_of (file_table bs) (file_pool bs) ≡ bs
  unfolding file_of file_table file_pool part_pool
  file-back e =
      rw (take-append_seam (map message_from (message_rows bs)), count-back bs)
      (ap₂ ◌++◌ header-back (ap₂ ◌++◌ (nodes-back e) messages-back) ∙ join)
