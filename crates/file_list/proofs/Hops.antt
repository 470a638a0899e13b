-- A lookup on its way, by the rules alone: where it is and how often it was routed, with what is left of its trip (Underway). One hop keeps
-- that, and when the way ends the trip is that of the steps. Assumes nothing.
use Rattle.marks.specs.Marks.{Found}
use Rattle.std.specs.Prelude.{Some, None}
use mathlib.Core.Path.{◌≡◌, refl, sym, ◌∙◌, ap}
use mathlib.Core.List.{List}
use Prim.Native.Nat.{ℕ, ◌+◌, ◌-◌, ◌^◌, ◌<◌, ◌≤◌}
use native.Mathlib.Omega.{arith}
use native.Mathlib.Numerals.{add-one}
use lib.ListN.{length, take, set, length-set}
use lib.Seq.{take-suc-set}
use Rattle.rules.specs.declared.Message.{Message}
use Rattle.rules.specs.declared.Node.{Node}
use Rattle.rules.specs.declared.Ring.{Ring}
use Rattle.rules.specs.InnerAsks.{Below}
use Rattle.table_type.specs.declared.Table.{Table}
use Rattle.table_type.specs.Table.{ring_of, ids_of}
use Rattle.file_list.specs.declared.Turn.TheVariants.{Delivers, Stops, Goes}
use Rattle.listing.specs.Trip.{Trip, ended, follow_of}
use Rattle.listing.specs.Print.{line_of}
use Rattle.file_list.proofs.Following.{Lone, lettered, follow_to, turn, turn-none, follow-is, follow-few, follow-below}
use Rattle.file_list.specs.InnerFollow.{turn_of, turn_at, letter_at}
use Rattle.file_list.proofs.Following.{lone-listed, lone-slot, lone-key, lone-goes}
use Rattle.file_list.proofs.Line.{line-is}
use Rattle.file_list.specs.InnerLine.{line_in}

-- what is known of a table once is known at each hop
pub same_turn : {g h : Ring} {ids js : List ℕ} {dead gone : ℕ} (i : ℕ) (v : Node) (k : ℕ) → g ≡ h → ids ≡ js → dead ≡ gone
    → turn_of g ids dead i v k ≡ turn_of h js gone i v k
same_turn i v k p q r = rw (p, q, r)

pub record Underway (t : Table) (m : Message) (i hops : ℕ) (letters : List ℕ) (end : Found) : Type 0 where
  pub few : hops ≤ 64
  pub long : length letters ≡ 64
  pub slot : i < t.n
  pub none_yet : end ≡ None
  pub rest : follow_to (64 - hops) t m.word i (take hops letters) ≡ follow_of t m

module _ {t : Table} {m : Message} (l : Lone t m) where
  pub sets-out : (letters : List ℕ) → length letters ≡ 64 → Underway t m m.dest 0 letters None
  sets-out letters e = record { few = omega arith; long = e; slot = lone-slot l; none_yet = refl; rest = sym (follow-is l) }

  -- one letter is stored behind those before it
  stored : (t : Table) (i h hops : ℕ) (letters : List ℕ) → hops < length letters
      → lettered t i h (take hops letters) ≡ take (hops + 1) (set letters hops (letter_at t i h))
  stored t i h hops letters b = rw add-one (sym (take-suc-set letters hops (letter_at t i h) b))

  pub goes_on : {i hops h : ℕ} {letters : List ℕ} {end : Found} → Underway t m i hops letters end → hops < 64 → turn_at t m.word i ≡ Goes h
      → Underway t m h (hops + 1) (set letters hops (letter_at t i h)) end
  goes_on {i} {hops} {h} {letters} u b e =
      record {
        few = omega arith;
        long = rw length-set u.long;
        slot = lone-goes l m.word i h u.slot e;
        none_yet = u.none_yet;
        rest =
            ap (follow_to (64 - (hops + 1)) t m.word h) (sym (stored t i h hops letters (omega (arith, u.long))))
            ∙ sym (turn t m.word i hops (take hops letters) b ∙ rw e) ∙ u.rest;
      }

  pub inside : {i hops : ℕ} {letters : List ℕ} {end : Found} → Underway t m i hops letters end → i < 64
  inside u = omega (arith, u.slot, (lone-listed l).n-high)

  -- what the turn there asks
  pub asked : {g : Ring} {i hops : ℕ} {letters : List ℕ} {end : Found} → g ≡ ring_of t → Underway t m i hops letters end
      → (i < 64) × (m.word < 2 ^ g.m)
  asked p u = rw p (inside u, lone-key l)

  -- how it can end
  pub trip-ends : {trip : Trip} → trip ≡ follow_of t m → Below trip.end 64 × (length trip.letters < 64)
  trip-ends e = rw e (go (follow_of t m).end (follow-below l), omega (arith, follow-few l, (lone-listed l).n-high))
    where
      go : (x : Found) → Below x t.n → Below x 64
      go (Some s) h = omega (arith, (lone-listed l).n-high)
      go None h = tt

module _ {t : Table} {m : Message} {i hops : ℕ} {letters : List ℕ} {end : Found} (u : Underway t m i hops letters end) where
  pub delivered : hops < 64 → turn_at t m.word i ≡ Delivers → ended (Some i) (take hops letters) ≡ follow_of t m
  delivered b e = sym (turn t m.word i hops (take hops letters) b ∙ rw e) ∙ u.rest

  pub stopped : hops < 64 → turn_at t m.word i ≡ Stops → ended end (take hops letters) ≡ follow_of t m
  stopped b e = rw u.none_yet (sym (turn t m.word i hops (take hops letters) b ∙ rw e) ∙ u.rest)

  pub unended : 64 ≤ hops → ended end (take hops letters) ≡ follow_of t m
  unended b = rw u.none_yet (sym (turn-none t m.word i hops (take hops letters) b) ∙ u.rest)

-- its line
pub line-told : (t : Table) (m : Message) {ids : List ℕ} {trip : Trip} → ids ≡ ids_of t → trip ≡ follow_of t m
    → line_in ids m trip.end trip.letters ≡ line_of t m
line-told t m p e = rw (p, e) (line-is t m)
