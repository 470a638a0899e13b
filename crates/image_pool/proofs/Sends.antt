-- Messages to the slots of a set, written one after the other: what is written, with what is still to write, is what was asked for (Sending); and the room that
-- sending needs. Assumes nothing.
use Rattle.std.specs.Prelude.{Some, None}
use mathlib.Core.Path.{◌≡◌, sym, ◌∙◌, ap}
use mathlib.Core.List.{List, [], ◌∷◌, ◌++◌, append-nil}
use Prim.Native.Nat.{ℕ, ◌+◌, ◌*◌, ◌<◌, ◌≤◌}
use native.Mathlib.Omega.{arith}
use lib.ListN.{length, get_or, take, drop, length-append}
use lib.Seq.{append_snoc, take_all}
use Rattle.marks.specs.Marks.{size_of, without, remove_of, lowest_of}
use Rattle.rules.specs.declared.Message.{Message}
use Rattle.rules.specs.Nodes.{placed}
use Rattle.rules.specs.Pool.{blank}
use Rattle.rules.specs.Mail.{sent}
use Rattle.pool_laws.specs.InnerSending.{held_of, held_with, copies}
use Rattle.pool_laws.proofs.Gaps.{fewer}
use Rattle.pool_laws.proofs.Places.{taken_more}
use Rattle.pool_laws.proofs.Sending.{held-nil, held-last, sent_is, copies-more, copies-end, copies_length}
use Rattle.words.specs.Bytes.{decode}
use Rattle.file.specs.Format.{message_widths, message_from}
use Rattle.image.specs.InnerRecords.{messages_in}
use Rattle.image.proofs.Messages.{messages-length, message-at}
use Rattle.image_pool.specs.InnerTurns.{Room}

-- ---- the slots to which an equal waits

-- the set is that of the messages before `at`
pub record Seen (m : Message) (xs : List Message) (at set : ℕ) : Type 0 where
  pub is : set ≡ held_of m (take at xs)

pub seen_none : (m : Message) (xs : List Message) → Seen m xs 0 0
seen_none m xs = record { is = sym (held-nil m) }

pub seen_more : (m : Message) (count : ℕ) (bs : List ℕ) (at set next : ℕ) (q : Message) → at < count
    → q ≡ message_from (decode message_widths (drop (56 * at) bs)) → next ≡ held_with m set q → Seen m (messages_in count bs) at set
    → Seen m (messages_in count bs) (at + 1) next
seen_more m count bs at set next q h e f k =
    let xs = messages_in count bs in
    let x = get_or xs at blank in
    let read : q ≡ x = e ∙ sym (message-at count bs at h) in
    record {
      is =
          f
          ∙ ap (λ (s : ℕ). held_with m s q) k.is
          ∙ ap (held_with m (held_of m (take at xs))) read
          ∙ sym (ap (held_of m) (taken_more xs at (omega (arith, messages-length count bs))) ∙ held-last m (take at xs) x);
    }

pub seen_all : (m : Message) (count : ℕ) (bs : List ℕ) (at set : ℕ) → count ≤ at → Seen m (messages_in count bs) at set
    → set ≡ held_of m (messages_in count bs)
seen_all m count bs at set h k = k.is ∙ ap (held_of m) (take_all at (messages_in count bs) (omega (arith, messages-length count bs)))

-- ---- the slots, one after the other

module _ (m : Message) where
  -- m for the slots of `rest` is still to be written behind the `end` messages of the part, of which `most` have room
  pub record Sending (goal : List Message) (most size end rest : ℕ) (part : List ℕ) : Type 0 where
    pub sum : end + size_of rest ≡ most
    pub long : length part ≡ size
    pub whole : goal ≡ messages_in end part ++ copies m rest

  module _ {goal : List Message} {most size end rest s : ℕ} {part : List ℕ} (e : lowest_of rest ≡ Some s) (k : Sending goal most size end rest part) where
    pub sending-low : end < most
    sending-low = omega (arith, k.sum, fewer rest s e)

    pub sending-more : (new : List ℕ) → length new ≡ length part → messages_in (end + 1) new ≡ messages_in end part ++ (placed m s ∷ [])
        → Sending goal most size (end + 1) (remove_of rest s) new
    sending-more new l q =
        record {
          sum = omega (arith, k.sum, fewer rest s e);
          long = l ∙ k.long;
          whole =
              k.whole
              ∙ ap (λ (ys : List Message). messages_in end part ++ ys) (copies-more m rest s e)
              ∙ sym (append_snoc (messages_in end part) (placed m s) (copies m (remove_of rest s)))
              ∙ ap (λ (ys : List Message). ys ++ copies m (remove_of rest s)) (sym q);
        }

  pub sending-end : {goal : List Message} {most size end rest : ℕ} {part : List ℕ} → lowest_of rest ≡ None → Sending goal most size end rest part
      → messages_in end part ≡ goal
  sending-end {end = end} {rest = rest} {part = part} e k =
      sym (k.whole ∙ ap (λ (ys : List Message). messages_in end part ++ ys) (copies-end m rest e) ∙ append-nil (messages_in end part))

  -- ---- where no equal waits

  module _ (count set : ℕ) (bs : List ℕ) (r : Room 256 (sent m set (messages_in count bs)) bs) where
    abbrev fresh : ℕ
    fresh = without set (held_of m (messages_in count bs))

    counted : length (sent m set (messages_in count bs)) ≡ count + size_of fresh
    counted =
        ap length (sent_is m set (messages_in count bs))
        ∙ length-append (messages_in count bs) (copies m fresh)
        ∙ (let a = messages-length count bs in let b = copies_length m fresh in omega arith)

    pub room-few : count + size_of fresh ≤ 256
    room-few = omega (arith, counted, r.few)

    pub room-there : 56 * (count + size_of fresh) ≤ length bs
    room-there = omega (arith, counted, r.room)

    pub room-count : (count ≤ 256) × (56 * count ≤ length bs)
    room-count = (omega (arith, room-few), omega (arith, room-there))
