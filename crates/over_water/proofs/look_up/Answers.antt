-- `over_water::look_up` meets its contract: what is held of a key and month is at its seat, where that is not behind the last. Assumes nothing.
use mathlib.Core.Path.{◌≡◌, sym, ◌∙◌, ap}
use Prim.Native.Nat.{ℕ, ◌<◌, ◌≤◌}
use native.Mathlib.Omega.{arith}
use lib.ListN.{get_or}
use Rattle.water.specs.declared.Record.{Record}
use Rattle.water.specs.declared.Held.{Held}
use Rattle.std.specs.Prelude.{Some, None}
use Rattle.water.specs.declared.Store.{Store}
use Rattle.water.specs.Water.{none_held, count_of, held_of, seat_of, found_in}
use Rattle.over_water.proofs.Places.{Full, full, held-length, held-at, look-found, look_none}
use Rattle.over_water.proofs.look_up.Goals as goal

module _ (s : Store) (f : Full s) (r : Record) (i n : ℕ) (e : i ≡ seat_of (held_of s) r) (q : n ≡ count_of s.count) where
  there : i < n → Some (get_or s.places i none_held) ≡ found_in (held_of s) r
  there l =
      ap (λ (h : Held). Some h) (sym (held-at s f i (omega arith)) ∙ ap (λ (j : ℕ). get_or (held_of s) j none_held) e)
      ∙ sym (look-found (held_of s) r (omega (arith, held-length s f)))

  not_there : n ≤ i → None ≡ found_in (held_of s) r
  not_there l = sym (look_none (held_of s) r (omega (arith, held-length s f)))

pub returns-then-i-held_count : goal.returns-then-i-held_count
returns-then-i-held_count c = there c.args.s (full c.args.s _ c.well_formed.0) _ c.seat-i.result c.held_count.result c.seat-i.ensures
    c.held_count.ensures.value c.if-i-held_count.true

pub returns-else-i-held_count : goal.returns-else-i-held_count
returns-else-i-held_count c = not_there c.args.s (full c.args.s _ c.well_formed.0) _ c.seat-i.result c.held_count.result c.seat-i.ensures
    c.held_count.ensures.value c.if-i-held_count.false
