-- A number in decimal digits, as bytes of text. Definitions only. Assumes nothing.
use Rattle.std.specs.Prelude.{cond, List, [], ◌∷◌, ◌++◌, ℕ, zero, suc, ◌+◌, ◌/◌, ◌%◌, ltb}

-- the digits of a number, the highest first, of which there are at most so many
unfoldable pub decimal_to : ℕ → ℕ → List ℕ
decimal_to zero x = []
decimal_to (suc more) x = let rest = decimal_to more (x / 10) in cond (ltb x 10) ((48 + x) ∷ []) (rest ++ ((48 + x % 10) ∷ []))

-- the digits of any number: it has no more than itself and one
unfoldable pub decimal : ℕ → List ℕ
decimal x = decimal_to (suc x) x
