-- The messages of a part where they lie: the message of a place is that of its own bytes. Assumes nothing.
use mathlib.Core.Path.{◌≡◌, ◌∙◌, ap}
use mathlib.Core.List.{List, [], map}
use Prim.Native.Nat.{ℕ, ◌-◌, ◌*◌, ◌<◌, ◌≤◌}
use native.Mathlib.Omega.{arith}
use lib.ListN.{length, drop, replicate, length-append, length-replicate, get_or-append}
use Rattle.words.specs.Bytes.{decode, decode_all}
use Rattle.words.proofs.Codec.{decode-all-length, decode-all-at}
use Rattle.rules.specs.Pool.{blank, message_at}
use Rattle.file.specs.Format.{message_widths, message_from}
use Rattle.file.specs.Load.{part_pool}
use Rattle.file.proofs.Rows.{map_at}
use Rattle.file_read.proofs.Laws.{rows_long}

module _ (count : ℕ) (part : List ℕ) where
  pub message-in : (q : ℕ) → q < count → message_at (part_pool count part) q ≡ message_from (decode message_widths (drop (56 * q) part))
  unfolding part_pool
  message-in q h =
      let rows = decode_all message_widths 56 count part in
      let long = rows_long message_from message_widths 56 count part in
      get_or-append (map message_from rows) (replicate (256 - length (map message_from rows)) blank) blank q (omega arith)
      ∙ map_at message_from [] blank rows q (omega (arith, decode-all-length message_widths 56 count part))
      ∙ ap message_from (decode-all-at message_widths 56 count q part h)

  pub count-is : (part_pool count part).count ≡ count
  unfolding part_pool
  count-is = rows_long message_from message_widths 56 count part

  pub places-are : count ≤ 256 → length (part_pool count part).places ≡ 256
  unfolding part_pool
  places-are h =
      let long = rows_long message_from message_widths 56 count part in
      rw (length-append, length-replicate) (omega arith)
