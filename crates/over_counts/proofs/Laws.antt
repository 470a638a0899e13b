-- The walk over the waiting messages: once the first `at` of them are looked at, the count of each slot is how many of these are for it. Assumes nothing.
use mathlib.Core.Path.{◌≡◌, sym, ◌∙◌, ap}
use mathlib.Core.Bool.{cond}
use mathlib.Core.Logic.{⊎_elim}
use mathlib.Core.List.{List}
use Prim.Native.Nat.{ℕ, ◌+◌, ◌<◌, ◌≤◌}
use native.Mathlib.Numerals.{add-one}
use native.Mathlib.Omega.{arith}
use borrow.Author.Tests.{eq-eqb, ne_eqb, lt-ltb, le-ltb}
use lib.Dec.{eqb}
use lib.ListN.{length, length-set, length-replicate, get_or, get_or-replicate, set, replicate}
use lib.Seq.{length-take-le, take_all, get_or-take, get_or-set_same, get_or-set_other, ext_get_or}
use Rattle.marks.specs.Marks.{tally}
use Rattle.marks.proofs.Laws.{tally-le}
use Rattle.marks.proofs.Bools.{lt-or-le, eq-or-ne}
use Rattle.rules.specs.declared.Message.{Message}
use Rattle.rules.specs.declared.Pool.{Pool}
use Rattle.rules.specs.Pool.{blank, message_at, waiting}
use Rattle.counts.specs.Counts.{is_for, count_for, numbers_to, count_at}
use Rattle.counts.proofs.CountLaws.{numbers-length, numbers-at}
use Rattle.over_counts.specs.InnerWalk.{waiting_in, one_more}

-- ---- how many wait

module _ (p : Pool) (long : length p.places ≡ 256) where
  few : p.count < 256 → waiting_in p.count ≡ p.count
  unfolding waiting_in
  few h = rw (lt-ltb p.count 256 h)

  many : 256 ≤ p.count → waiting_in p.count ≡ 256
  unfolding waiting_in
  many h = rw (le-ltb p.count 256 h)

  all : 256 ≤ p.count → waiting p ≡ p.places
  all h = take_all p.count p.places (omega arith)

  pub waits_in : waiting_in p.count ≡ length (waiting p)
  waits_in =
      ⊎_elim (λ h. few h ∙ sym (length-take-le p.count p.places (omega arith))) (λ h. many h ∙ sym (ap length (all h) ∙ long))
      (lt-or-le p.count 256)

  pub waits-low : waiting_in p.count ≤ 256
  waits-low = ⊎_elim (λ h. omega (arith, few h)) (λ h. omega (arith, many h)) (lt-or-le p.count 256)

  -- the message at a place that waits
  pub waits-at : (at : ℕ) → at < waiting_in p.count → get_or (waiting p) at blank ≡ message_at p at
  waits-at at h =
      ⊎_elim (λ l. get_or-take p.count p.places at blank (omega (arith, few l)))
      (λ l. ap (λ (xs : List Message). get_or xs at blank) (all l)) (lt-or-le p.count 256)

-- ---- the counts

pub record Tallied (xs : List Message) (at : ℕ) (c : List ℕ) : Type 0 where
  pub long : length c ≡ 64
  pub told : (i : ℕ) → i < 64 → count_at c i ≡ tally at (is_for xs i)

module _ (xs : List Message) where
  pub tallied-none : Tallied xs 0 (replicate 64 0)
  unfolding tally
  tallied-none = let z : ℕ = 0 in record { long = length-replicate 64 z; told = λ i h. get_or-replicate 64 i z z h }

  -- a count is at most the number of messages passed
  pub tallied-low : (at : ℕ) (c : List ℕ) → Tallied xs at c → (i : ℕ) → i < 64 → count_at c i ≤ at
  tallied-low at c k i h = omega (arith, k.told i h, tally-le at (is_for xs i))

  module _ (at : ℕ) (c : List ℕ) (m : Message) (e : m ≡ get_or xs at blank) (k : Tallied xs at c) where
    next : (i : ℕ) → tally (at + 1) (is_for xs i) ≡ tally at (is_for xs i) + cond (eqb m.dest i) 1 0
    unfolding tally
    next i = rw (add-one) (ap (λ (x : Message). tally at (is_for xs i) + cond (eqb x.dest i) 1 0) (sym e))

    hit : (i : ℕ) → i ≡ m.dest → tally (at + 1) (is_for xs i) ≡ tally at (is_for xs i) + 1
    hit i d = next i ∙ rw (eq-eqb m.dest i (sym d))

    missed : (i : ℕ) → (i ≡ m.dest → ⊥) → tally (at + 1) (is_for xs i) ≡ tally at (is_for xs i)
    missed i d = next i ∙ rw (ne_eqb m.dest i (λ z. d (sym z))) (omega arith)

    counted-one : m.dest < 64 → (i : ℕ) → i < 64 → count_at (set c m.dest (count_at c m.dest + 1)) i ≡ tally (at + 1) (is_for xs i)
    counted-one l i h = ⊎_elim here there (eq-or-ne i m.dest)
      where
        there : (i ≡ m.dest → ⊥) → count_at (set c m.dest (count_at c m.dest + 1)) i ≡ tally (at + 1) (is_for xs i)
        there d = get_or-set_other c m.dest i _ 0 d ∙ k.told i h ∙ sym (missed i d)

        here : i ≡ m.dest → count_at (set c m.dest (count_at c m.dest + 1)) i ≡ tally (at + 1) (is_for xs i)
        here d = rw (← d) (get_or-set_same c i _ 0 (omega (arith, k.long)) ∙ ap (λ (n : ℕ). n + 1) (k.told i h)) ∙ sym (hit i d)

    pub tallied-more : Tallied xs (at + 1) (one_more c m.dest)
    unfolding one_more
    tallied-more =
        ⊎_elim
        (λ l. rw (lt-ltb m.dest 64 l) record { long = length-set c m.dest _ ∙ k.long; told = counted-one l })
        (λ l. rw (le-ltb m.dest 64 l) record { long = k.long; told = λ i h. k.told i h ∙ sym (missed i (λ z. omega arith)) })
        (lt-or-le m.dest 64)

  pub tallied-end : (c : List ℕ) → Tallied xs (length xs) c → c ≡ numbers_to 64 (count_for xs)
  unfolding count_for
  tallied-end c k =
      ext_get_or 0 c (numbers_to 64 (count_for xs)) (k.long ∙ sym (numbers-length 64 (count_for xs)))
      (λ i h. let l : i < 64 = omega (arith, k.long) in k.told i l ∙ sym (numbers-at 64 (count_for xs) i l))
