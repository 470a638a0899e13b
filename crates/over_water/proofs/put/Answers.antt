-- `over_water::put` meets its contract: there is room exactly if the seat is one of the 512 places. Assumes nothing.
use borrow.Author.Tests.{lt-ltb, le-ltb}
use mathlib.Core.Path.{◌≡◌, ◌∙◌}
use Prim.Native.Nat.{ℕ, ◌<◌, ◌≤◌}
use Rattle.water.specs.declared.Record.{Record}
use Rattle.water.specs.declared.Store.{Store}
use Rattle.std.specs.Prelude.{Ok}
use Rattle.water.specs.declared.Why.TheVariants.{NoRoom}
use Rattle.water.specs.Water.{held_of, seat_of, kept_at, refused_of, put_of}
use Rattle.over_water.proofs.put.Goals as goal

module _ (s : Store) (r : Record) (holder copies i : ℕ) (e : i ≡ seat_of (held_of s) r) where
  no_room_lem : 512 ≤ i → refused_of s NoRoom ≡ put_of s r holder copies
  unfolding put_of
  no_room_lem h = rw (← e, le-ltb i 512 h)

  room : (u : Store) → i < 512 → u ≡ kept_at s i (record { original = r; holder = holder; copies = copies })
      → record { reply = Ok tt; store = u } ≡ put_of s r holder copies
  unfolding put_of
  room u h is = rw (← e, lt-ltb i 512 h, is)

pub returns-then-i-ge512 : goal.returns-then-i-ge512
returns-then-i-ge512 c = c.refused.ensures ∙ no_room_lem c.args.s c.args.r _ _ c.seat-i.result c.seat-i.ensures c.if-i-ge512.true

pub returns : goal.returns
returns c = room c.args.s c.args.r c.args.by.slot c.args.by.copies c.seat-i.result c.seat-i.ensures
    c.kept.result c.if-i-ge512.false c.kept.ensures
