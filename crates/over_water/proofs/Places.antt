-- The loops over places. A store by value has 512 of them, so what is held has its count; a turn looks at the next held record. Assumes
-- nothing.
use mathlib.Core.Path.{◌≡◌, refl, sym, ◌∙◌, ap}
use mathlib.Core.Bool.{true, false}
use mathlib.Core.Logic.{◌⊎◌, inl, inr}
use mathlib.Core.List.{List, [], ◌∷◌, ◌++◌}
use Prim.Native.Nat.{ℕ, suc, ◌+◌, ◌*◌, ◌^◌, ◌<◌, ◌≤◌}
use native.Mathlib.Numerals.{add-one}
use native.Mathlib.Omega.{arith}
use lib.IntN.{ℤ, pos, nat_abs, ◌+ℤ◌, +ℤ_assoc, +ℤ_idl, +ℤ_idr}
use lib.ListN.{length, get_or, take, drop, drop_of_length-le}
use lib.Seq.{length-take-le, get_or-take, take-suc, drop-cons, take-length}
use mir.Syntax.{w64}
use mir.Val.{Val, SFits}
use denote.Laws.{Is}
use Rattle.marks.proofs.Bools.{bool_cases}
use Rattle.water.specs.declared.Record.{Record}
use Rattle.water.specs.declared.Held.{Held}
use Rattle.water.specs.declared.Store.{Store}
use Rattle.std.specs.Prelude.{Some, None}
use Rattle.water.specs.Water.{found_in, alike, none_held, count_of, held_of, seat_of, change_of, total_of}
use Rattle.water.proofs.Seats.{count_most}
use Rattle.over_water.proofs.Signed.{size-sum, fits}
use Rattle.water.specs.contracts.Store as store

-- a store by value has 512 places
pub record Full (s : Store) : Type 0 where
  pub places : length s.places ≡ 512

pub full : (s : Store) (vs : List Val) → Is store.the_row s vs → Full s
full s vs is = record { places = is.1.1.1.0.1.0.1 }

module _ (s : Store) (f : Full s) where
  pub held-length : length (held_of s) ≡ count_of s.count
  unfolding held_of
  held-length = length-take-le (count_of s.count) s.places (rw f.places (count_most s.count))

  module _ (i : ℕ) (l : i < count_of s.count) where
    pub held-at : get_or (held_of s) i none_held ≡ get_or s.places i none_held
    unfolding held_of
    held-at = get_or-take (count_of s.count) s.places i none_held l

    pub next-held : drop i (held_of s) ≡ get_or s.places i none_held ∷ drop (i + 1) (held_of s)
    next-held = rw (add-one, ← held-at) (drop-cons (held_of s) i none_held (rw held-length l))

    pub more-held : take (i + 1) (held_of s) ≡ take i (held_of s) ++ (get_or s.places i none_held ∷ [])
    more-held = rw (add-one, ← held-at) (take-suc (held_of s) i none_held (rw held-length l))

-- none of the first i is alike, so the seat is behind them
pub record Passed (hs : List Held) (r : Record) (i : ℕ) : Type 0 where
  pub seat : seat_of hs r ≡ i + seat_of (drop i hs) r

pub none_passed : (hs : List Held) (r : Record) → Passed hs r 0
none_passed hs r = record { seat = omega arith }

module _ (s : Store) (f : Full s) (r : Record) (i : ℕ) (p : Passed (held_of s) r i) where
  pub passed-all : i ≡ count_of s.count → i ≡ seat_of (held_of s) r
  unfolding seat_of
  passed-all e =
      let end : drop i (held_of s) ≡ [] = drop_of_length-le (held_of s) {i = i} (omega (arith, held-length s f)) in
      sym (p.seat ∙ rw end (omega arith))

  module _ (l : i < count_of s.count) where
    pub found : alike (get_or s.places i none_held).original r ≡ true → i ≡ seat_of (held_of s) r
    unfolding seat_of
    found e = sym (p.seat ∙ rw (next-held s f i l, e) (omega arith))

    pub passed-more : alike (get_or s.places i none_held).original r ≡ false → Passed (held_of s) r (i + 1)
    unfolding seat_of
    passed-more e = record { seat = p.seat ∙ rw (next-held s f i l, e) (omega arith) }

-- what is held of its key and month is at its seat, where that is not behind the last
pub look-found : (hs : List Held) (r : Record) → seat_of hs r < length hs → found_in hs r ≡ Some (get_or hs (seat_of hs r) none_held)
unfolding seat_of found_in
look-found [] r l = absurd (omega arith)
look-found (h ∷ hs) r l = go (bool_cases (alike h.original r)) (look-found hs r)
  where
    go : (alike h.original r ≡ true) ⊎ (alike h.original r ≡ false)
        → (seat_of hs r < length hs → found_in hs r ≡ Some (get_or hs (seat_of hs r) none_held))
        → found_in (h ∷ hs) r ≡ Some (get_or (h ∷ hs) (seat_of (h ∷ hs) r) none_held)
    go (inl e) k = rw e
    go (inr e) k = let m : suc (seat_of hs r) < suc (length hs) = rw e at l in rw e (k (omega arith))

pub look_none : (hs : List Held) (r : Record) → length hs ≤ seat_of hs r → found_in hs r ≡ None
unfolding seat_of found_in
look_none [] r l = refl
look_none (h ∷ hs) r l = go (bool_cases (alike h.original r)) (look_none hs r)
  where
    go : (alike h.original r ≡ true) ⊎ (alike h.original r ≡ false) → (length hs ≤ seat_of hs r → found_in hs r ≡ None)
        → found_in (h ∷ hs) r ≡ None
    go (inl e) k = let m : suc (length hs) ≤ 0 = rw e at l in absurd (omega arith)
    go (inr e) k = let m : suc (length hs) ≤ suc (seat_of hs r) = rw e at l in rw e (k (omega arith))

-- the sum over one more
pub total-more : (hs : List Held) (h : Held) → total_of (hs ++ (h ∷ [])) ≡ total_of hs +ℤ change_of h.original
unfolding total_of
total-more [] h = +ℤ_idr (change_of h.original) ∙ sym (+ℤ_idl (change_of h.original))
total-more (x ∷ hs) h =
    ap (λ (z : ℤ). change_of x.original +ℤ z) (total-more hs h)
    ∙ sym (+ℤ_assoc (change_of x.original) (total_of hs) (change_of h.original))

-- the sum of the first i changes, each of them at most 2^34 in size
pub record Summed (hs : List Held) (i : ℕ) (z : ℤ) : Type 0 where
  pub is : z ≡ total_of (take i hs)
  pub small : nat_abs z ≤ i * 2 ^ 34

pub none-summed : (hs : List Held) → Summed hs 0 (pos 0)
unfolding total_of
none-summed hs = record { is = refl; small = omega arith }

module _ (s : Store) (f : Full s) (i : ℕ) (z d : ℤ) (p : Summed (held_of s) i z) (l : i < count_of s.count)
    (e : d ≡ change_of (get_or s.places i none_held).original) (h : nat_abs d ≤ 2 ^ 34) where
  pub sum-small : nat_abs (z +ℤ d) ≤ (i + 1) * 2 ^ 34
  sum-small = omega (arith, size-sum z d, p.small)

  pub sum_fits : SFits w64 (z +ℤ d)
  sum_fits = fits (z +ℤ d) (omega (arith, sum-small, count_most s.count))

  pub summed-more : Summed (held_of s) (i + 1) (z +ℤ d)
  summed-more =
      record {
        is = rw (p.is, e) (sym (ap total_of (more-held s f i l) ∙ total-more (take i (held_of s)) (get_or s.places i none_held)));
        small = sum-small;
      }

pub summed-all : (s : Store) (f : Full s) (i : ℕ) (z : ℤ) → Summed (held_of s) i z → i ≡ count_of s.count → z ≡ total_of (held_of s)
summed-all s f i z p e = p.is ∙ ap total_of (rw (e ∙ sym (held-length s f)) (take-length (held_of s)))
