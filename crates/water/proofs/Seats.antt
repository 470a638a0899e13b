-- The seat of a record, and what keeping one there does to what is held: it is put in place of the one alike it, or behind the last
-- (`kept-held`). The idea: in a store that has 512 places and counts no more (`Good`) the first `count` places are held. Assumes nothing.
use mathlib.Core.Path.{◌≡◌, refl, sym, ◌∙◌, ap}
use mathlib.Core.Bool.{Bool, true, false, cond}
use mathlib.Core.List.{List, [], ◌∷◌}
use mathlib.Core.Logic.{◌⊎◌, inl, inr, ⊎_elim, ◌↔◌}
use Prim.Native.Nat.{ℕ, zero, suc, ◌<◌, ◌≤◌}
use native.Mathlib.Omega.{arith}
use borrow.Author.Tests.{ltb-true, ltb-false, leb-true, leb-false}
use lib.Dec.{leb, ltb, leb-suc-zero, leb-suc-suc}
use lib.ListN.{length, take, set, length-take, length-set, length-replicate}
use lib.Seq.{length-take-le}
use Rattle.marks.proofs.Bools.{bool_cases, or_cases, or-fails-left, or-fails-right, opposed}
use Rattle.water.specs.declared.Record.{Record}
use Rattle.water.specs.declared.Held.{Held}
use Rattle.water.specs.declared.Store.{Store}
use Rattle.water.specs.Water.{alike, most_records, count_of, held_of, none_held, empty_store, seat_of, kept_at}
use Rattle.water.specs.History.{any_alike}
use Rattle.water.specs.Claims.{Room, In, here, there}
use Rattle.water.proofs.AlikeLaws.{any-one, one-any}
use Rattle.water.proofs.Lists.{Apart, placed_in, apart-placed}

-- ---- where a record's seat is

seat-found : (hs : List Held) (r : Record) → any_alike hs r ≡ true → seat_of hs r < length hs
unfolding any_alike seat_of
seat-found [] r e = absurd (opposed e refl)
seat-found (h ∷ hs) r e = go (bool_cases (alike h.original r)) (seat-found hs r)
  where
    go : (alike h.original r ≡ true) ⊎ (alike h.original r ≡ false) → (any_alike hs r ≡ true → seat_of hs r < length hs)
        → seat_of (h ∷ hs) r < suc (length hs)
    go (inl a) i = rw a (omega arith)
    go (inr a) i =
        let l : seat_of hs r < length hs =
        i (⊎_elim (λ b. absurd (opposed b a)) (λ b. b) (or_cases (alike h.original r) (any_alike hs r) e))
        in
        rw a (omega arith)

seat-none : (hs : List Held) (r : Record) → any_alike hs r ≡ false → seat_of hs r ≡ length hs
unfolding any_alike seat_of
seat-none [] r e = refl
seat-none (h ∷ hs) r e =
    rw (or-fails-left (alike h.original r) (any_alike hs r) e)
    (ap suc (seat-none hs r (or-fails-right (alike h.original r) (any_alike hs r) e)))

pub count_most : (n : ℕ) → count_of n ≤ most_records
count_most n = ⊎_elim (λ e. rw e (omega (arith, ltb-true n most_records e))) (λ e. rw e (omega arith)) (bool_cases (ltb n most_records))

held-most : (s : Store) → length (held_of s) ≤ most_records
unfolding held_of
held-most s = omega (arith, length-take (count_of s.count) s.places, count_most s.count)

-- a record has a seat exactly if there is room for it
pub seat-exactly : (s : Store) (r : Record) → (seat_of (held_of s) r < most_records) ↔ Room s r
seat-exactly s r = go (bool_cases (any_alike (held_of s) r))
  where
    go : (any_alike (held_of s) r ≡ true) ⊎ (any_alike (held_of s) r ≡ false) → (seat_of (held_of s) r < most_records) ↔ Room s r
    go (inl e) = (λ l. inr (any-one (held_of s) r e), λ h. omega (arith, seat-found (held_of s) r e, held-most s))
    go (inr e) =
        let n : seat_of (held_of s) r ≡ length (held_of s) = seat-none (held_of s) r e in
        (λ l. inl (omega arith), ⊎_elim (λ l. omega arith) (λ a. absurd (opposed (one-any (held_of s) r a.0 a.1 a.2) e)))

-- ---- keeping one there

-- the first n of these, with h at place i, and one more where i is behind them
abbrev kept_in : ℕ → List Held → ℕ → Held → List Held
kept_in n l i h = take (cond (leb n i) (suc n) n) (set l i h)

suc-out : (b : Bool) (m n : ℕ) → cond b (suc m) (suc n) ≡ suc (cond b m n)
suc-out true m n = refl
suc-out false m n = refl

kept-later : (n i : ℕ) (x : Held) (xs : List Held) (h : Held) → kept_in (suc n) (x ∷ xs) (suc i) h ≡ x ∷ kept_in n xs i h
kept-later n i x xs h = rw (leb-suc-suc n i, suc-out (leb n i) (suc n) n)

kept-placed : (n : ℕ) (l : List Held) (h : Held) → n ≤ length l → seat_of (take n l) h.original < length l
    → kept_in n l (seat_of (take n l) h.original) h ≡ placed_in (take n l) h
unfolding seat_of placed_in
kept-placed zero [] h m i = absurd (omega arith)
kept-placed zero (x ∷ xs) h m i = refl
kept-placed (suc n) [] h m i = absurd (omega arith)
kept-placed (suc n) (x ∷ xs) h m i = go (bool_cases (alike x.original h.original)) (kept-placed n xs h (omega arith))
  where
    go : (alike x.original h.original ≡ true) ⊎ (alike x.original h.original ≡ false)
        → (seat_of (take n xs) h.original < length xs → kept_in n xs (seat_of (take n xs) h.original) h ≡ placed_in (take n xs) h)
        → kept_in (suc n) (x ∷ xs) (seat_of (x ∷ take n xs) h.original) h ≡ placed_in (x ∷ take n xs) h
    go (inl a) k = rw (a, leb-suc-zero n)
    go (inr a) k =
        let l : suc (seat_of (take n xs) h.original) < suc (length xs) = rw a at i in
        rw a
        (kept-later n (seat_of (take n xs) h.original) x xs h
        ∙ ap {B = List Held} (λ ys. x ∷ ys) (k (omega arith)))

-- it is there, in any store of 512 places
set-in : (n : ℕ) (l : List Held) (i : ℕ) (h : Held) → i < n → i < length l → In h (take n (set l i h))
set-in zero l i h m k = absurd (omega arith)
set-in (suc n) [] i h m k = absurd (omega arith)
set-in (suc n) (x ∷ xs) zero h m k = here
set-in (suc n) (x ∷ xs) (suc i) h m k = there (set-in n xs i h (omega arith) (omega arith))

seat-most : (hs : List Held) (r : Record) → seat_of hs r ≤ length hs
seat-most hs r =
    ⊎_elim (λ e. omega (arith, seat-found hs r e)) (λ e. omega (arith, seat-none hs r e)) (bool_cases (any_alike hs r))

-- a place below 512 and not behind the last is counted
counted-in : (n i : ℕ) → i < most_records → i ≤ n → i < count_of (cond (leb n i) (suc n) n)
counted-in n i l m =
    ⊎_elim (λ e. rw e (counted (suc n) (omega arith))) (λ e. rw e (counted n (omega (arith, leb-false n i e)))) (bool_cases (leb n i))
  where
    counted : (k : ℕ) → i < k → i < count_of k
    counted k h = ⊎_elim (λ e. rw e h) (λ e. rw e l) (bool_cases (ltb k most_records))

count_under : (n : ℕ) → count_of n ≤ n
count_under n = ⊎_elim (λ e. rw e (omega arith)) (λ e. rw e (omega (arith, ltb-false n most_records e))) (bool_cases (ltb n most_records))

module _ (s : Store) (h : Held) (p : length s.places ≡ most_records) (l : seat_of (held_of s) h.original < most_records) where
  seat-counted : seat_of (held_of s) h.original ≤ s.count
  unfolding held_of
  seat-counted =
      omega (arith, seat-most (held_of s) h.original, length-take (count_of s.count) s.places, count_under s.count)

  pub kept_in_lem : In h (held_of (kept_at s (seat_of (held_of s) h.original) h))
  unfolding kept_at held_of
  kept_in_lem =
      set-in (count_of (kept_at s (seat_of (held_of s) h.original) h).count) s.places (seat_of (held_of s) h.original) h
      (counted-in s.count (seat_of (held_of s) h.original) l seat-counted) (omega (arith, p))

-- ---- the stores that are met

pub record Good (s : Store) : Type 0 where
  pub places : length s.places ≡ most_records
  pub count : s.count ≤ most_records
  pub apart : Apart (held_of s)

pub empty-good : Good empty_store
unfolding empty_store held_of
empty-good = record { places = length-replicate most_records none_held; count = omega arith; apart = tt }

pub empty-held : held_of empty_store ≡ []
unfolding empty_store held_of
empty-held = refl

count-all : (n : ℕ) → n ≤ most_records → count_of n ≡ n
count-all n l = ⊎_elim (λ e. rw e) (λ e. rw e (omega (arith, ltb-false n most_records e))) (bool_cases (ltb n most_records))

held-counted : (s : Store) → s.count ≤ most_records → held_of s ≡ take s.count s.places
unfolding held_of
held-counted s l = rw (count-all s.count l)

pub good-count : (s : Store) → Good s → s.count ≡ length (held_of s)
good-count s g = rw (held-counted s g.count) (sym (length-take-le s.count s.places (omega (arith, g.places, g.count))))

module _ (s : Store) (h : Held) (g : Good s) (l : seat_of (held_of s) h.original < most_records) where
  kept-count : (kept_at s (seat_of (held_of s) h.original) h).count ≤ most_records
  unfolding kept_at
  kept-count =
      ⊎_elim (λ e. rw e (omega (arith, leb-true s.count (seat_of (held_of s) h.original) e))) (λ e. rw e g.count)
      (bool_cases (leb s.count (seat_of (held_of s) h.original)))

  pub kept-held : held_of (kept_at s (seat_of (held_of s) h.original) h) ≡ placed_in (held_of s) h
  unfolding kept_at
  kept-held =
      let e : held_of s ≡ take s.count s.places = held-counted s g.count in
      let m : seat_of (take s.count s.places) h.original < most_records = rw e at l in
      held-counted (kept_at s (seat_of (held_of s) h.original) h) kept-count
      ∙ rw e (kept-placed s.count s.places h (omega (arith, g.places, g.count)) (omega (arith, g.places)))

  pub kept-good : Good (kept_at s (seat_of (held_of s) h.original) h)
  unfolding kept_at
  kept-good =
      record {
        places = length-set s.places (seat_of (held_of s) h.original) h ∙ g.places;
        count = kept-count;
        apart = rw kept-held (apart-placed (held_of s) h g.apart);
      }
