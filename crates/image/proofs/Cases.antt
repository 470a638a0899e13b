-- Records and messages computed by the checker: three records of two bytes, one of them taken out; and the messages of two records, each with another number in
-- every field. Assumes nothing.
use mathlib.Core.Path.{◌≡◌, refl}
use mathlib.Core.List.{List, [], ◌∷◌, ◌++◌}
use Prim.Native.Nat.{ℕ}
use Rattle.rules.specs.declared.Message.{Message}
use Rattle.words.specs.Bytes.{number_of, decode}
use Rattle.image.specs.InnerRecords.{records_in, closed_up, messages_in}

-- what lies behind the records is no part of them
pub records : records_in 2 3 (1 ∷ 2 ∷ 3 ∷ 4 ∷ 5 ∷ 6 ∷ 7 ∷ []) ≡ (1 ∷ 2 ∷ []) ∷ (3 ∷ 4 ∷ []) ∷ (5 ∷ 6 ∷ []) ∷ []
unfolding records_in
records = refl

pub closed : closed_up (records_in 2 3 (1 ∷ 2 ∷ 3 ∷ 4 ∷ 5 ∷ 6 ∷ [])) 1 ≡ (1 ∷ 2 ∷ []) ∷ (5 ∷ 6 ∷ []) ∷ []
unfolding records_in
closed = refl

-- kind, destination, node or key, flag, owner, hops, routing, left, right, failed
abbrev message : ℕ → ℕ → ℕ → ℕ → ℕ → ℕ → ℕ → ℕ → ℕ → ℕ → Message
message kind dest word flag owner hops routing left right failed =
    record { kind = kind; dest = dest; word = word; flag = flag; owner = owner; hops = hops; routing = routing; left = left; right = right; failed = failed }

abbrev four : ℕ → List ℕ
four x = x ∷ 1 ∷ 0 ∷ 0 ∷ []

abbrev eight : ℕ → List ℕ
eight x = x ∷ 0 ∷ 1 ∷ 0 ∷ 0 ∷ 0 ∷ 0 ∷ 0 ∷ []

-- a record: of each word the lowest byte, with a 1 in the second; of each set too, with a 1 in the third
abbrev bytes : ℕ → ℕ → ℕ → ℕ → ℕ → ℕ → ℕ → ℕ → ℕ → ℕ → List ℕ
bytes a b c d e f g h i j =
    four a ++ (four b ++ (four c ++ (four d ++ (four e ++ (four f ++ (eight g ++ (eight h ++ (eight i ++ eight j))))))))

pub messages : messages_in 2 (bytes 1 2 3 4 5 6 7 8 9 10 ++ (bytes 11 12 13 14 15 16 17 18 19 20 ++ (1 ∷ 1 ∷ [])))
    ≡ message 257 258 259 260 261 262 65543 65544 65545 65546 ∷ message 267 268 269 270 271 272 65553 65554 65555 65556 ∷ []
unfolding messages_in records_in decode number_of
messages = refl
