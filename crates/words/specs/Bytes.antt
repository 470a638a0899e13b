-- Little-endian numbers, and records as rows of numbers of given widths in bytes. Definitions only; their laws are in Codec. Assumes nothing.
use Rattle.std.specs.Prelude.{List, [], ◌∷◌, ◌++◌, ℕ, zero, suc, ◌+◌, ◌*◌, ◌/◌, ◌%◌, take, drop}

-- the w bytes of a number, lowest first
unfoldable pub bytes_of : ℕ → ℕ → List ℕ
bytes_of zero x = []
bytes_of (suc w) x = x % 256 ∷ bytes_of w (x / 256)

-- the number of some bytes, lowest first
unfoldable pub number_of : List ℕ → ℕ
number_of [] = 0
number_of (b ∷ bs) = b + 256 * number_of bs

-- a record of the widths ws as bytes
unfoldable pub encode : List ℕ → List ℕ → List ℕ
encode [] xs = []
encode (w ∷ ws) [] = []
encode (w ∷ ws) (x ∷ xs) = bytes_of w x ++ encode ws xs

-- the record of the widths ws that some bytes begin with
unfoldable pub decode : List ℕ → List ℕ → List ℕ
decode [] bs = []
decode (w ∷ ws) bs = number_of (take w bs) ∷ decode ws (drop w bs)

-- records one after the other
unfoldable pub encode_all : List ℕ → List (List ℕ) → List ℕ
encode_all ws [] = []
encode_all ws (r ∷ rs) = encode ws r ++ encode_all ws rs

-- the first n records of the widths ws, each of size bytes
unfoldable pub decode_all : List ℕ → ℕ → ℕ → List ℕ → List (List ℕ)
decode_all ws size zero bs = []
decode_all ws size (suc n) bs = decode ws bs ∷ decode_all ws size n (drop size bs)
