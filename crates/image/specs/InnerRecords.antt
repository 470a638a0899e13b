-- A lent part of bytes as records of one size, and as the messages that wait in it. The size is a number, so that what moves whole records serves every form
-- of them. Definitions only. Assumes nothing.
use Rattle.std.specs.Prelude.{List, [], ◌∷◌, ◌++◌, map, ℕ, zero, suc, take, drop}
use Rattle.rules.specs.declared.Message.{Message}
use Rattle.words.specs.Bytes.{decode}
use Rattle.file.specs.Format.{message_widths, message_from}

-- the first n records of a part, each of size bytes
unfoldable pub records_in : ℕ → ℕ → List ℕ → List (List ℕ)
records_in size zero part = []
records_in size (suc n) part = take size part ∷ records_in size n (drop size part)

-- the records but for that at place p
abbrev pub closed_up : List (List ℕ) → ℕ → List (List ℕ)
closed_up rs p = take p rs ++ drop (suc p) rs

-- the message of a record
abbrev pub message_of : List ℕ → Message
message_of r = message_from (decode message_widths r)

-- the messages of the first n records of 56 bytes
unfoldable pub messages_in : ℕ → List ℕ → List Message
messages_in n part = map message_of (records_in 56 n part)
