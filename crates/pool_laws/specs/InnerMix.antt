-- A number made of a message's fields, and its bucket. Any function of the fields would do: all that is used of it is that equal messages
-- have one bucket. Assumes nothing.
use Rattle.std.specs.Prelude.{List, ℕ, ◌*◌, ◌%◌, ◌^◌, get_or}
use Rattle.std.specs.Int.Bits.{bit_xor}
use Rattle.rules.specs.declared.Message.{Message}
use Rattle.rules.specs.Mail.{fields_of}

-- a number moved up by k of 64 digits
abbrev pub up : ℕ → ℕ → ℕ
up x k = x * 2 ^ k % 2 ^ 64

-- the key or the node, the kind, the destination and the owner, each at digits of its own, and the four sets. The flag is left out: two messages that differ in
-- it alone share a bucket, and are told apart there
abbrev pub mix_row : List ℕ → ℕ
mix_row r =
    bit_xor
    (bit_xor
    (bit_xor
    (bit_xor (bit_xor (bit_xor (bit_xor (get_or r 2 0) (up (get_or r 1 0) 32)) (up (get_or r 0 0) 36)) (up (get_or r 4 0) 43)) (get_or r 5 0))
    (get_or r 6 0))
    (get_or r 7 0))
    (get_or r 8 0)

unfoldable pub mix_of : Message → ℕ
mix_of m = mix_row (fields_of m)

-- the bucket of a message
abbrev pub bucket_of : Message → ℕ
bucket_of m = mix_of m % 509
