-- Texts that follow one another are one text (then), as the digits of a number are. Assumes nothing.
use mathlib.Core.Path.{◌≡◌}
use mathlib.Core.List.{List, [], ◌∷◌, ◌++◌}
use Prim.Native.Nat.{ℕ, ◌+◌, ◌/◌, ◌%◌, ◌<◌, ◌≤◌}
use lib.ListN.{length, length-append}
use Rattle.words.proofs.Puts.{follow, put-length}
use Rattle.text.specs.Decimal.{decimal}
use Rattle.text.specs.InnerPrints.{Prints}
use Rattle.text.proofs.Digits.{decimal-one, decimal-more}

pub then : {a b c : List ℕ} {at i j : ℕ} {vs ws : List ℕ} → Prints a at vs i b → Prints b i ws j c → Prints a at (vs ++ ws) j c
then p q = rw length-append (follow p q)

-- where a text ends, and that the buffer is as long as before
pub text-end : {a b : List ℕ} {at i : ℕ} {vs : List ℕ} → Prints a at vs i b → (i ≡ at + length vs) × (length b ≡ length a)
text-end p = (p.next-is, put-length p)

-- ---- digits

pub one-digit : (x : ℕ) → x < 10 → length (decimal x) ≡ 1
one-digit x h = rw (decimal-one x h)

pub last-digit : {l new : List ℕ} {at next : ℕ} (x : ℕ) → x < 10 → Prints l at ((48 + x) ∷ []) next new → Prints l at (decimal x) next new
last-digit x h p = rw (decimal-one x h) p

pub more-digits : {a b c : List ℕ} {at i j : ℕ} (x : ℕ) → 10 ≤ x → Prints a at (decimal (x / 10)) i b
    → Prints b i ((48 + x % 10) ∷ []) j c → Prints a at (decimal x) j c
more-digits x h p q = rw (decimal-more x h) (then p q)
