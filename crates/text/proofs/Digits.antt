-- How the digits of a number follow from one another, and how many there are: a number below ten to the n has at most n. By induction on the
-- digits allowed, of which more change nothing. Assumes nothing.
use mathlib.Core.Path.{◌≡◌, refl, sym, ◌∙◌}
use mathlib.Core.Bool.{Bool, true, false}
use mathlib.Core.List.{[], ◌∷◌, ◌++◌}
use Prim.Native.Nat.{ℕ, zero, suc, ◌+◌, ◌*◌, ◌/◌, ◌%◌, ◌^◌, ◌<◌, ◌≤◌}
use native.Mathlib.Omega.{arith}
use native.Mathlib.Nat.{pow-suc}
use lib.Dec.{ltb}
use lib.ListN.{length, length-append}
use borrow.Author.Tests.{lt-ltb, le-ltb, ltb-true, ltb-false}
use Rattle.text.specs.Decimal.{decimal_to, decimal}

digit : (n x : ℕ) → x < 10 → decimal_to (suc n) x ≡ (48 + x) ∷ []
unfolding decimal_to
digit n x h = rw (lt-ltb x 10 h)

digits : (n x : ℕ) → 10 ≤ x → decimal_to (suc n) x ≡ decimal_to n (x / 10) ++ ((48 + x % 10) ∷ [])
unfolding decimal_to
digits n x h = rw (le-ltb x 10 h)

-- as many as are enough
enough : (n k x : ℕ) → x < n → x < k → decimal_to n x ≡ decimal_to k x
enough zero k x h l = absurd (omega arith)
enough (suc n) zero x h l = absurd (omega arith)
enough (suc n) (suc k) x h l = go (ltb x 10) refl (enough n k (x / 10))
  where
    go : (b : Bool) → ltb x 10 ≡ b → (x / 10 < n → x / 10 < k → decimal_to n (x / 10) ≡ decimal_to k (x / 10))
        → decimal_to (suc n) x ≡ decimal_to (suc k) x
    go true e rest = let l = ltb-true x 10 e in digit n x l ∙ sym (digit k x l)
    go false e rest =
        let m = ltb-false x 10 e in
        digits n x m ∙ rw (rest (omega arith) (omega arith)) (sym (digits k x m))

-- one digit
pub decimal-one : (x : ℕ) → x < 10 → decimal x ≡ (48 + x) ∷ []
unfolding decimal
decimal-one x h = digit x x h

-- the digits of its tenth, and its last
pub decimal-more : (x : ℕ) → 10 ≤ x → decimal x ≡ decimal (x / 10) ++ ((48 + x % 10) ∷ [])
unfolding decimal
decimal-more x h = digits x x h ∙ rw (enough x (suc (x / 10)) (x / 10) (omega arith) (omega arith))

pub decimal-longer : (x : ℕ) → 10 ≤ x → length (decimal x) ≡ length (decimal (x / 10)) + 1
decimal-longer x h = rw (decimal-more x h, length-append)

few : (n k x : ℕ) → x < 10 ^ suc n → length (decimal_to k x) ≤ suc n
unfolding decimal_to
few n zero x h = omega arith
few zero (suc k) x h = rw (digit k x (omega arith)) (omega arith)
few (suc n) (suc k) x h = go (ltb x 10) refl (few n k (x / 10))
  where
    go : (b : Bool) → ltb x 10 ≡ b → (x / 10 < 10 ^ suc n → length (decimal_to k (x / 10)) ≤ suc n)
        → length (decimal_to (suc k) x) ≤ suc (suc n)
    go true e rest = rw (digit k x (ltb-true x 10 e)) (omega arith)
    go false e rest =
        let l : x < 10 ^ suc n * 10 = rw (pow-suc 10 (suc n)) at h in
        rw (digits k x (ltb-false x 10 e), length-append) (omega (arith, rest (omega (arith, l))))

-- a number below ten to the n has at most n digits
pub decimal-few : (n x : ℕ) → x < 10 ^ suc n → length (decimal x) ≤ suc n
unfolding decimal
decimal-few n x h = few n (suc x) x h

-- a word has at most ten
pub decimal-word : (x : ℕ) → x < 4294967296 → length (decimal x) ≤ 10
decimal-word x h = decimal-few 9 x (omega arith)
