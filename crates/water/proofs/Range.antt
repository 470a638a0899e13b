-- The range of a record: the test passes exactly for the numbers that the request names. Assumes nothing.
use mathlib.Core.Path.{◌≡◌}
use mathlib.Core.Bool.{Bool, true, ◌&&◌}
use Prim.Native.Nat.{◌^◌, ◌<◌}
use borrow.Author.Tests.{leb-true, le-leb}
use lib.Dec.{leb}
use Rattle.marks.proofs.Bools.{and_left, and_right, and_both}
use Rattle.table_type.specs.declared.Table.{Table}
use Rattle.water.specs.declared.Record.{Record}
use Rattle.water.specs.Water.{most_tenths, in_range}
use Rattle.water.specs.Claims.{AllInRange}

module _ (t : Table) (r : Record) where
  -- the tests behind each of the first
  abbrev behind-three : Bool
  behind-three = leb r.evapotranspiration most_tenths && leb r.runoff most_tenths

  abbrev behind-two : Bool
  behind-two = leb r.rain most_tenths && behind-three

  abbrev behind-one : Bool
  behind-one = leb r.month 12 && behind-two

  pub all-in-range : r.key < 2 ^ t.m → in_range r ≡ true → AllInRange t r
  all-in-range k e =
      let a = and_right (leb 1 r.month) behind-one e in
      let b = and_right (leb r.month 12) behind-two a in
      let c = and_right (leb r.rain most_tenths) behind-three b in
      record {
        key = k;
        month-low = leb-true 1 r.month (and_left (leb 1 r.month) behind-one e);
        month-high = leb-true r.month 12 (and_left (leb r.month 12) behind-two a);
        rain = leb-true r.rain most_tenths (and_left (leb r.rain most_tenths) behind-three b);
        evapotranspiration =
            leb-true r.evapotranspiration most_tenths (and_left (leb r.evapotranspiration most_tenths) (leb r.runoff most_tenths) c);
        runoff = leb-true r.runoff most_tenths (and_right (leb r.evapotranspiration most_tenths) (leb r.runoff most_tenths) c);
      }

  pub range-told : AllInRange t r → in_range r ≡ true
  range-told a =
      and_both (le-leb 1 r.month a.month-low)
      (and_both (le-leb r.month 12 a.month-high)
      (and_both (le-leb r.rain most_tenths a.rain)
      (and_both (le-leb r.evapotranspiration most_tenths a.evapotranspiration) (le-leb r.runoff most_tenths a.runoff))))
