-- Numbers in digits, computed by the checker: the least, the largest of one digit and the least of two, the largest of 32 bits, and two to the 128.
-- Assumes nothing.
use mathlib.Core.Path.{◌≡◌, refl}
use mathlib.Core.List.{[], ◌∷◌}
use Rattle.text.specs.Decimal.{decimal_to, decimal}

-- to unfold this is to unfold what the digits are computed with
opened : Unit {0}
unfolding decimal decimal_to
opened = tt

zero_is : decimal 0 ≡ 48 ∷ []
unfolding opened
zero_is = refl

nine-is : decimal 9 ≡ 57 ∷ []
unfolding opened
nine-is = refl

ten-is : decimal 10 ≡ 49 ∷ 48 ∷ []
unfolding opened
ten-is = refl

-- `4294967295`
word-is : decimal 4294967295 ≡ 52 ∷ 50 ∷ 57 ∷ 52 ∷ 57 ∷ 54 ∷ 55 ∷ 50 ∷ 57 ∷ 53 ∷ []
unfolding opened
word-is = refl

-- all 39 digits of two to the 128
wide_is : decimal 340282366920938463463374607431768211456
    ≡ 51 ∷ 52 ∷ 48 ∷ 50 ∷ 56 ∷ 50 ∷ 51 ∷ 54 ∷ 54 ∷ 57 ∷ 50 ∷ 48 ∷ 57 ∷ 51 ∷ 56 ∷ 52 ∷ 54 ∷ 51 ∷
    52 ∷ 54 ∷ 51 ∷ 51 ∷ 55 ∷ 52 ∷ 54 ∷ 48 ∷ 55 ∷ 52 ∷ 51 ∷ 49 ∷ 55 ∷ 54 ∷ 56 ∷ 50 ∷ 49 ∷ 49 ∷ 52 ∷ 53 ∷ 54 ∷ []
unfolding opened
wide_is = refl
