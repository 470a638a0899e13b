-- What a display is answered. The idea: in a valid table with true counts the count of a node and a walk for its first message tell the same
-- (`count-found`), so that first_of says what a walk says (`first-walked`). Its tests are followed once, in their order (`says`), and the reply tells
-- which; whether there is a message is the same reply without its place (`has-is`). Assumes nothing.
use mathlib.Core.Path.{◌≡◌, refl, sym, ◌∙◌, ap, subst}
use mathlib.Core.Logic.{◌⊎◌, inl, inr, ◌↔◌}
use mathlib.Core.Bool.{Bool, true, false, cond}
use Prim.Native.Nat.{ℕ, zero, suc, ◌<◌, ◌≤◌}
use native.Mathlib.Omega.{arith}
use borrow.Author.Tests.{eqb-true, eq-eqb, ne_eqb, lt-ltb, ltb-true, ltb-false}
use lib.Dec.{eqb, ltb}
use Rattle.marks.proofs.Bools.{bool_false, bool_same, opposed, lt-or-le}
use Rattle.marks.specs.Marks.{has, gather, tally, first_to, Found}
use Rattle.marks.proofs.Laws.{first_found, first-none, first-at, first-nothing, has-gather, gather-high, tally-some, some-tally}
use Rattle.rules.specs.declared.Refusal.TheVariants as no
use Rattle.rules.specs.Mail.{is_found}
use Rattle.rules.specs.Numbers.{refusal_number}
use Rattle.rules.specs.Pool.{message_at, waiting}
use Rattle.table_laws.proofs.Sound.{sound, is-valid}
use Rattle.counts.specs.declared.Counted.{Counted}
use Rattle.counts.specs.Counts.{count_at, count_for, is_sound_counted, first_for, has_of, first_of, polled_of}
use Rattle.counts.specs.Counts.{Has, First}
use Rattle.file.specs.Write.{said_number}
use Rattle.std.specs.Prelude.{Ok, Err, Some, None}
use Rattle.counts.proofs.ByCase.{first-invalid, first_out, polled-invalid}
use Rattle.counts.proofs.CountLaws.{agree_at, count_none, count-some, some-count, waiting-first}
use Rattle.counts.specs.Claims.{Good, WaitsAt, NoneBefore, AskedInvalidExactly, AskedOutOfRangeExactly, HasExactly, HasNotExactly}
use Rattle.counts.specs.Claims.{FirstExactly, FirstNoneExactly, PolledExactly, CountTells}
use Rattle.counts.proofs.Truth.{sound-counted, good-agree, sound-exactly}

-- ---- a valid table with true counts

module _ (x : Counted) (len : ℕ) where
  counted-good : is_sound_counted x len ≡ true → Good x len
  counted-good = (sound-exactly x len).0

  good-counted : Good x len → is_sound_counted x len ≡ true
  good-counted = (sound-exactly x len).1

  not-counted : (Good x len → ⊥) → is_sound_counted x len ≡ false
  not-counted bad = bool_false (is_sound_counted x len) (λ e. bad (counted-good e))

  not_good : is_sound_counted x len ≡ false → Good x len → ⊥
  not_good e g = opposed (good-counted g) e

-- ---- the walk for node i

module _ (x : Counted) (i : ℕ) where
  abbrev here : ℕ → Bool
  here q = eqb (message_at x.pool q).dest i

  abbrev found : Found
  found = first_for (waiting x.pool) i

  here-waits : (q : ℕ) → q < x.pool.count → here q ≡ true → WaitsAt x i q
  here-waits q h e = record { below = h; meant = eqb-true _ i e }

  waits-here : (q : ℕ) → WaitsAt x i q → here q ≡ true
  waits-here q w = eq-eqb _ i w.meant

  none_here : (q r : ℕ) → q ≤ x.pool.count → NoneBefore x i q → r < q → here r ≡ false
  none_here q r h none l = ne_eqb _ i (λ e. none r l (record { below = omega arith; meant = e }))

  here-none : (q : ℕ) → ((r : ℕ) → r < q → here r ≡ false) → NoneBefore x i q
  here-none q f r l w = opposed (waits-here r w) (f r l)

  module _ (len : ℕ) (g : Good x len) where
    walk : found ≡ first_to x.pool.count here
    walk = waiting-first x.pool i (sound-counted x len g.sound)

    found_at : (q : ℕ) → found ≡ Some q → WaitsAt x i q × NoneBefore x i q
    found_at q e =
        let f = first_found x.pool.count here q (sym walk ∙ e) in
        (here-waits q f.below f.holds, here-none q f.least)

    found_none : found ≡ None → NoneBefore x i x.pool.count
    found_none e = here-none x.pool.count (first-none x.pool.count here (sym walk ∙ e))

    at-found : (q : ℕ) → WaitsAt x i q → NoneBefore x i q → found ≡ Some q
    at-found q w none =
        walk ∙ first-at x.pool.count here q w.below (waits-here q w) (λ r l. none_here q r (omega (arith, w.below)) none l)

    none_found : NoneBefore x i x.pool.count → found ≡ None
    none_found none = walk ∙ first-nothing x.pool.count here (λ r l. none_here x.pool.count r (omega arith) none l)

    found-waits : is_found found ≡ true → (q : ℕ) × WaitsAt x i q
    found-waits = go found refl
      where
        go : (r : Found) → found ≡ r → is_found r ≡ true → (q : ℕ) × WaitsAt x i q
        go (Some q) e h = (q, (found_at q e).0)
        go None e h = absurd (opposed h refl)

    waits-found : (q : ℕ) → WaitsAt x i q → is_found found ≡ true
    waits-found q w = go found refl
      where
        go : (r : Found) → found ≡ r → is_found r ≡ true
        go (Some r) e = refl
        go None e = absurd (found_none e q w.below w)

    -- ---- its count and the walk tell the same

    module _ (h : i < x.table.n) where
      counted_is : count_at x.counts i ≡ count_for (waiting x.pool) i
      counted_is =
          let s = sound x.table x.pool (is-valid x.table x.pool len g.sound) in
          agree_at x.counts x.pool (good-agree x len g) i (omega (arith, s.numbers.n-high))

      count-found : ltb 0 (count_at x.counts i) ≡ is_found found
      count-found =
          bool_same (ltb 0 (count_at x.counts i)) (is_found found)
          (λ e. count-some (waiting x.pool) i (omega (arith, counted_is, ltb-true 0 (count_at x.counts i) e)))
          (λ e. lt-ltb 0 (count_at x.counts i) (omega (arith, counted_is, some-count (waiting x.pool) i e)))

      count-said : cond {A = First} (eqb (count_at x.counts i) 0) (Ok None) (Ok found) ≡ Ok found
      count-said = go (count_at x.counts i) refl
        where
          go : (n : ℕ) → count_at x.counts i ≡ n → cond {A = First} (eqb n 0) (Ok None) (Ok found) ≡ Ok found
          go zero e = ap (λ (r : Found). Ok r) (sym (count_none (waiting x.pool) i (sym counted_is ∙ e)))
          go (suc n) e = rw (ne_eqb (suc n) 0 (λ z. omega arith))

-- ---- what a reply says

abbrev Says : Counted → ℕ → ℕ → First → Type 0
Says x len i (Ok (Some q)) = Good x len × (i < x.table.n) × WaitsAt x i q × NoneBefore x i q
Says x len i (Ok None) = Good x len × (i < x.table.n) × NoneBefore x i x.pool.count
Says x len i (Err why) = ((why ≡ no.Invalid) × (Good x len → ⊥)) ⊎ ((why ≡ no.OutOfRange) × Good x len × (x.table.n ≤ i))

module _ (x : Counted) (len i : ℕ) where
  first-bad : (Good x len → ⊥) → first_of x len i ≡ Err no.Invalid
  first-bad bad = sym (first-invalid x len (not-counted x len bad) i)

  first_past : Good x len → x.table.n ≤ i → first_of x len i ≡ Err no.OutOfRange
  first_past g h = sym (first_out x len (good-counted x len g) i h)

  first-asked : Good x len → i < x.table.n → first_of x len i ≡ Ok (found x i)
  unfolding first_of
  first-asked g h = rw (good-counted x len g, lt-ltb i x.table.n h) (count-said x i len g h)

  -- what a walk says, by the same tests
  abbrev walked : First
  walked =
      cond (is_sound_counted x len) (cond (ltb i x.table.n) (Ok (found x i)) (Err no.OutOfRange)) (Err no.Invalid)

  first-walked : first_of x len i ≡ walked
  unfolding first_of
  first-walked = go (is_sound_counted x len) refl (ltb i x.table.n) refl
    where
      go : (a : Bool) → is_sound_counted x len ≡ a → (b : Bool) → ltb i x.table.n ≡ b
          → cond a
          (cond b (cond (eqb (count_at x.counts i) 0) (Ok None) (Ok (found x i))) (Err no.OutOfRange))
          (Err no.Invalid)
          ≡ cond a (cond b (Ok (found x i)) (Err no.OutOfRange)) (Err no.Invalid)
      go false e b f = refl
      go true e false f = refl
      go true e true f = count-said x i len (counted-good x len e) (ltb-true i x.table.n f)

  says : Says x len i (first_of x len i)
  says = rw first-walked (go (is_sound_counted x len) refl (ltb i x.table.n) refl (found x i) refl)
    where
      go : (a : Bool) → is_sound_counted x len ≡ a → (b : Bool) → ltb i x.table.n ≡ b → (r : Found) → found x i ≡ r
          → Says x len i (cond a (cond b (Ok r) (Err no.OutOfRange)) (Err no.Invalid))
      go false e b f r d = inl (refl, not_good x len e)
      go true e false f r d = inr (refl, counted-good x len e, ltb-false i x.table.n f)
      go true e true f (Some q) d =
          let g = counted-good x len e in
          let (w, none) = found_at x i len g q d in
          (g, ltb-true i x.table.n f, w, none)
      go true e true f None d = let g = counted-good x len e in (g, ltb-true i x.table.n f, found_none x i len g d)

  said : (r : First) → first_of x len i ≡ r → Says x len i r
  said r e = subst (Says x len i) e says

-- ---- where is the first

pub first-exactly : FirstExactly
first-exactly x len i q = (said x len i (Ok (Some q)), λ (g, h, w, none). first-asked x len i g h ∙ ap (λ (r : Found). Ok r) (at-found x i len g q w none))

pub first-none-exactly : FirstNoneExactly
first-none-exactly x len i = (said x len i (Ok None), λ (g, h, none). first-asked x len i g h ∙ ap (λ (r : Found). Ok r) (none_found x i len g none))

-- ---- is there one

abbrev has_by : First → Has
has_by (Ok r) = Ok (is_found r)
has_by (Err why) = Err why

has-is : (x : Counted) (len i : ℕ) → has_of x len i ≡ has_by (first_of x len i)
unfolding has_of
has-is x len i = rw (first-walked x len i) (go (is_sound_counted x len) refl (ltb i x.table.n) refl)
  where
    go : (a : Bool) → is_sound_counted x len ≡ a → (b : Bool) → ltb i x.table.n ≡ b
        → cond a
        (cond b (Ok (ltb 0 (count_at x.counts i))) (Err no.OutOfRange))
        (Err no.Invalid)
        ≡ has_by (cond a (cond b (Ok (found x i)) (Err no.OutOfRange)) (Err no.Invalid))
    go false e b f = refl
    go true e false f = refl
    go true e true f = rw (count-found x i len (counted-good x len e) (ltb-true i x.table.n f))

pub has-exactly : HasExactly
has-exactly x len i = (λ e. tells (first_of x len i) (says x len i) (sym (has-is x len i) ∙ e), λ (g, h, (q, w)). told g h q w)
  where
    tells : (r : First) → Says x len i r → has_by r ≡ Ok true → Good x len × (i < x.table.n) × ((q : ℕ) × WaitsAt x i q)
    tells (Ok (Some q)) s e = (s.0, s.1, (q, s.2))
    tells (Ok None) s e = absurd (let z : ◌≡◌ {A = ℕ} 0 1 = cc in omega arith)
    tells (Err why) s e = absurd (let z : ◌≡◌ {A = ℕ} 0 1 = cc in omega arith)

    yes : (r : Found) → is_found r ≡ true → has_by (Ok r) ≡ Ok true
    yes r e = rw e

    told : Good x len → i < x.table.n → (q : ℕ) → WaitsAt x i q → has_of x len i ≡ Ok true
    told g h q w = has-is x len i ∙ ap has_by (first-asked x len i g h) ∙ yes (found x i) (waits-found x i len g q w)

pub has-not-exactly : HasNotExactly
has-not-exactly x len i =
    (λ e. tells (first_of x len i) (says x len i) (sym (has-is x len i) ∙ e), λ s. has-is x len i ∙ ap has_by ((first-none-exactly x len i).1 s))
  where
    tells : (r : First) → Says x len i r → has_by r ≡ Ok false → Good x len × (i < x.table.n) × NoneBefore x i x.pool.count
    tells (Ok (Some q)) s e = absurd (let z : ◌≡◌ {A = ℕ} 0 1 = cc in omega arith)
    tells (Ok None) s e = s
    tells (Err why) s e = absurd (let z : ◌≡◌ {A = ℕ} 0 1 = cc in omega arith)

-- ---- the numbers

module _ (x : Counted) (len i : ℕ) where
  has-number : said_number (has_of x len i) ≡ said_number (first_of x len i)
  has-number = ap said_number (has-is x len i) ∙ go (first_of x len i)
    where
      go : (r : First) → said_number (has_by r) ≡ said_number r
      go (Ok r) = refl
      go (Err why) = refl

  first-ten : (said_number (first_of x len i) ≡ 10) ↔ (Good x len → ⊥)
  first-ten = (go (first_of x len i) (says x len i), λ bad. ap said_number (first-bad x len i bad))
    where
      go : (r : First) → Says x len i r → said_number r ≡ 10 → Good x len → ⊥
      go (Ok r) s e = absurd (omega arith)
      go (Err why) (inl s) e = s.1
      go (Err why) (inr s) e = absurd (omega (arith, ap refusal_number s.0))

  first_one : (said_number (first_of x len i) ≡ 1) ↔ (Good x len × (x.table.n ≤ i))
  first_one = (go (first_of x len i) (says x len i), λ (g, h). ap said_number (first_past x len i g h))
    where
      go : (r : First) → Says x len i r → said_number r ≡ 1 → Good x len × (x.table.n ≤ i)
      go (Ok r) s e = absurd (omega arith)
      go (Err why) (inl s) e = absurd (omega (arith, ap refusal_number s.0))
      go (Err why) (inr s) e = (s.1, s.2)

  polled-ten : (said_number (polled_of x len) ≡ 10) ↔ (Good x len → ⊥)
  unfolding polled_of
  polled-ten = (go (is_sound_counted x len) refl, λ bad. ap said_number (sym (polled-invalid x len (not-counted x len bad))))
    where
      go : (b : Bool) → is_sound_counted x len ≡ b
          → said_number (cond b (Ok (gather x.table.n (λ j. ltb 0 (count_at x.counts j)))) (Err no.Invalid)) ≡ 10
          → Good x len → ⊥
      go true e h = absurd (omega arith)
      go false e h = not_good x len e

pub asked-invalid-exactly : AskedInvalidExactly
asked-invalid-exactly x len i = (rw (has-number x len i) (first-ten x len i), first-ten x len i, polled-ten x len i)

pub asked-out-of-range-exactly : AskedOutOfRangeExactly
asked-out-of-range-exactly x len i = (rw (has-number x len i) (first_one x len i), first_one x len i)

-- ---- all nodes at once

pub polled-exactly : PolledExactly
unfolding polled_of
polled-exactly x len g = (gather x.table.n asks, rw (good-counted x len g), λ i. (tells i, λ (h, (q, w)). told i h q w))
  where
    asks : ℕ → Bool
    asks i = ltb 0 (count_at x.counts i)

    tells : (i : ℕ) → has (gather x.table.n asks) i ≡ true → (i < x.table.n) × ((q : ℕ) × WaitsAt x i q)
    tells i e = go (lt-or-le i x.table.n)
      where
        go : (i < x.table.n) ⊎ (x.table.n ≤ i) → (i < x.table.n) × ((q : ℕ) × WaitsAt x i q)
        go (inl h) = (h, found-waits x i len g (sym (count-found x i len g h) ∙ sym (has-gather x.table.n asks i h) ∙ e))
        go (inr h) = absurd (opposed e (gather-high x.table.n asks i h))

    told : (i : ℕ) → i < x.table.n → (q : ℕ) → WaitsAt x i q → has (gather x.table.n asks) i ≡ true
    told i h q w = has-gather x.table.n asks i h ∙ count-found x i len g h ∙ waits-found x i len g q w

-- ---- the count tells

pub count-tells : CountTells
count-tells x agrees i l = rw (agrees i l) (tells, λ (q, w). some-tally x.pool.count (here x i) q w.below (waits-here x i q w))
  where
    tells : 0 < tally x.pool.count (here x i) → (q : ℕ) × WaitsAt x i q
    tells h = let (q, below, e) = tally-some x.pool.count (here x i) h in (q, here-waits x i q below e)
