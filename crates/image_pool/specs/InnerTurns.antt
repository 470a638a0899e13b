-- What one turn of a pass over the records leaves, and the room that sending asks for. Definitions only. Assumes nothing.
use Rattle.std.specs.Prelude.{◌≡◌, List, [], ◌∷◌, ◌++◌, ℕ, ◌+◌, ◌*◌, ◌≤◌, length, drop}
use Rattle.rules.specs.declared.Message.{Message}
use Rattle.rules.specs.Mail.{without_probes}
use Rattle.words.specs.Bytes.{decode}
use Rattle.file.specs.Format.{message_widths, message_from}
use Rattle.image.specs.InnerRecords.{messages_in}

-- of the record at place `at` the message stays behind the `kept` first ones, unless it is an LSProbe from i to j; the records behind it are as before
pub record Keeps (i j at kept : ℕ) (old : List ℕ) (more : ℕ) (new : List ℕ) : Type 0 where
  pub few : more ≤ kept + 1
  pub long : length new ≡ length old
  pub stay : messages_in more new ≡ messages_in kept old ++ without_probes (message_from (decode message_widths (drop (56 * at) old)) ∷ []) i j
  pub past : drop (56 * (at + 1)) new ≡ drop (56 * (at + 1)) old

-- there is room in the part for these messages, and they are no more than `most`
pub record Room (most : ℕ) (xs : List Message) (part : List ℕ) : Type 0 where
  pub few : length xs ≤ most
  pub room : 56 * length xs ≤ length part
