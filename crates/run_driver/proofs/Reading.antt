-- The ids of a start, word by word. Assumes nothing.
use mathlib.Core.Path.{◌≡◌, refl, ◌∙◌, ap}
use mathlib.Core.List.{List, [], ◌∷◌, ◌++◌}
use Prim.Native.Nat.{ℕ, zero, suc, ◌+◌, ◌*◌, ◌<◌}
use native.Mathlib.Numerals.{add-one}
use native.Mathlib.Omega.{arith}
use lib.ListN.{length, take, drop, set, replicate, length-set}
use lib.Seq.{take-suc, take-set-le, drop-drop, get_or-set_same}
use Rattle.words.specs.Bytes.{number_of, decode}
use Rattle.run_driver.specs.Requests.{ids_in}

words_more : (n : ℕ) (bs : List ℕ) → decode (replicate (suc n) 4) bs ≡ decode (replicate n 4) bs ++ (number_of (take 4 (drop (4 * n) bs)) ∷ [])
unfolding decode
words_more zero bs = refl
words_more (suc n) bs =
    let more : 4 * suc n ≡ 4 + 4 * n = omega arith in
    ap (λ (l : List ℕ). number_of (take 4 bs) ∷ l) (words_more n (drop 4 bs)) ∙ rw (more, drop-drop)

-- no id is read yet
pub ids-none : (ids rest : List ℕ) → take 0 ids ≡ ids_in 0 rest
unfolding ids_in decode
ids-none ids rest = refl

-- one id more
pub ids_more : (ids rest : List ℕ) (i x : ℕ) → i < length ids → take i ids ≡ ids_in i rest → x ≡ number_of (take 4 (drop (24 + 4 * i) rest))
    → take (i + 1) (set ids i x) ≡ ids_in (i + 1) rest
unfolding ids_in
ids_more ids rest i x h e w =
    rw (add-one, words_more i (drop 24 rest), drop-drop, ← e, ← w)
    (take-suc (set ids i x) i 0 (rw length-set h) ∙ rw (take-set-le i ids i x (omega arith), get_or-set_same ids i x 0 h))
