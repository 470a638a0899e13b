-- A list laid out as a pool: what waits in it, what is left of it once a place is away. Assumes nothing.
use mathlib.Core.Path.{◌≡◌, ◌∙◌, ap}
use mathlib.Core.Bool.{Bool, true, false, cond}
use mathlib.Core.Logic.{◌⊎◌, inl, inr}
use mathlib.Core.List.{List, ◌++◌, append-nil}
use Prim.Native.Nat.{ℕ, suc, ◌+◌, ◌-◌, ◌<◌, ◌≤◌}
use native.Mathlib.Nat.{le_of_lt}
use native.Mathlib.Omega.{arith}
use borrow.Author.Tests.{lt-ltb, le-ltb}
use lib.Dec.{ltb}
use lib.ListN.{get_or, take, drop, length, length-append, length-take, length-drop, drop_of_length-le, get_or-append}
use lib.Seq.{take-append_seam, take_all, length-take-le, get_or-take, get_or-drop, get_or-append-add}
use Rattle.marks.proofs.Bools.{lt-or-le}
use Rattle.rules.specs.declared.Message.{Message}
use Rattle.rules.specs.declared.Pool.{Pool}
use Rattle.rules.specs.Pool.{blank, message_at, waiting, laid}
use Rattle.rules.specs.Mail.{removed_at}
use Rattle.pool_laws.specs.InnerSending.{left_of, left_count, place_of}

-- ---- what waits

pub waiting-laid : (ys : List Message) → waiting (laid ys) ≡ ys
waiting-laid ys = take-append_seam ys _

pub waiting-short : (p : Pool) → length (waiting p) ≤ p.count
waiting-short p = omega (arith, length-take p.count p.places)

pub waiting-length : (p : Pool) → p.count ≤ 256 → length p.places ≡ 256 → length (waiting p) ≡ p.count
waiting-length p h l = length-take-le p.count p.places (omega arith)

pub waiting-at : (p : Pool) (i : ℕ) → i < p.count → get_or (waiting p) i blank ≡ message_at p i
waiting-at p i h = get_or-take p.count p.places i blank h

pub laid-at : (ys : List Message) (i : ℕ) → i < length ys → message_at (laid ys) i ≡ get_or ys i blank
laid-at ys i h = get_or-append ys _ blank i h

-- ---- one message less

module _ (xs : List Message) (i : ℕ) (h : i < length xs) where
  head-length : length (take i xs) ≡ i
  head-length = length-take-le i xs (le_of_lt h)

  pub removed-length : length (removed_at xs i) ≡ length xs - 1
  unfolding removed_at
  removed-length = rw (length-append, head-length, length-drop) (omega arith)

  pub removed-low : (j : ℕ) → j < i → get_or (removed_at xs i) j blank ≡ get_or xs j blank
  unfolding removed_at
  removed-low j l = get_or-append (take i xs) (drop (suc i) xs) blank j (omega (arith, head-length)) ∙ get_or-take i xs j blank l

  pub removed-high : (j : ℕ) → i ≤ j → get_or (removed_at xs i) j blank ≡ get_or xs (j + 1) blank
  unfolding removed_at
  removed-high j l =
      let e : j ≡ length (take i xs) + (j - i) = omega (arith, head-length) in
      let q : suc i + (j - i) ≡ j + 1 = omega arith in
      ap (λ (n : ℕ). get_or (take i xs ++ drop (suc i) xs) n blank) e ∙ get_or-append-add (take i xs) (drop (suc i) xs) (j - i) blank
      ∙ get_or-drop (suc i) xs (j - i) blank ∙ ap (λ (n : ℕ). get_or xs n blank) q

pub removed-short : (xs : List Message) (i : ℕ) → length (removed_at xs i) ≤ length xs
unfolding removed_at
removed-short xs i = rw (length-append, length-take, length-drop) (omega arith)

-- where no message stands there, none is away
pub removed-none : (xs : List Message) (i : ℕ) → length xs ≤ i → removed_at xs i ≡ xs
unfolding removed_at
removed-none xs i h = rw (take_all i xs h, drop_of_length-le xs {i = suc i} (omega arith)) (append-nil xs)

-- ---- what is left of a pool

pub left-low : (n gone : ℕ) → left_count n gone ≤ n
unfolding left_count
left-low n gone = go (ltb gone n)
  where
    go : (b : Bool) → cond b (n - 1) n ≤ n
    go true = omega arith
    go false = omega arith

pub place-low : (n gone at : ℕ) → at < left_count n gone → place_of gone at < n
unfolding left_count place_of
place-low n gone at l = go (lt-or-le gone n) (lt-or-le at gone)
  where
    go : (gone < n) ⊎ (n ≤ gone) → (at < gone) ⊎ (gone ≤ at) → place_of gone at < n
    go h (inl k) = rw (lt-ltb at gone k) (omega (arith, left-low n gone))
    go (inl h) (inr k) = let d : at < n - 1 = rw (lt-ltb gone n h) at l in rw (le-ltb at gone k) (omega arith)
    go (inr h) (inr k) = let d : at < n = rw (le-ltb gone n h) at l in absurd (omega arith)

-- what is left of a list, where it stands
module _ (xs : List Message) (gone : ℕ) where
  pub rest-length : length (removed_at xs gone) ≡ left_count (length xs) gone
  unfolding left_count
  rest-length = go (lt-or-le gone (length xs))
    where
      go : (gone < length xs) ⊎ (length xs ≤ gone) → length (removed_at xs gone) ≡ left_count (length xs) gone
      go (inl h) = rw (lt-ltb gone (length xs) h) (removed-length xs gone h)
      go (inr h) = rw (le-ltb gone (length xs) h) (ap (λ (l : List Message). length l) (removed-none xs gone h))

  pub rest-at : (at : ℕ) → at < left_count (length xs) gone → get_or (removed_at xs gone) at blank ≡ get_or xs (place_of gone at) blank
  unfolding left_count place_of
  rest-at at l = go (lt-or-le gone (length xs)) (lt-or-le at gone)
    where
      go : (gone < length xs) ⊎ (length xs ≤ gone) → (at < gone) ⊎ (gone ≤ at)
          → get_or (removed_at xs gone) at blank ≡ get_or xs (place_of gone at) blank
      go (inl h) (inl k) = rw (lt-ltb at gone k) (removed-low xs gone h at k)
      go (inl h) (inr k) = rw (le-ltb at gone k) (removed-high xs gone h at k)
      go (inr h) k =
          let n : at < length xs = rw (le-ltb gone (length xs) h) at l in
          rw (lt-ltb at gone (omega arith)) (ap (λ (ys : List Message). get_or ys at blank) (removed-none xs gone h))

module _ (p : Pool) (gone : ℕ) (e : length (waiting p) ≡ p.count) where
  pub left-length : length (left_of p gone) ≡ left_count p.count gone
  left-length = rest-length (waiting p) gone ∙ ap (λ (n : ℕ). left_count n gone) e

  -- what is left of a pool stands at its places
  pub left_at : (at : ℕ) → at < left_count p.count gone → get_or (left_of p gone) at blank ≡ message_at p (place_of gone at)
  left_at at l = rest-at (waiting p) gone at (rw e l) ∙ waiting-at p (place_of gone at) (place-low p.count gone at l)
