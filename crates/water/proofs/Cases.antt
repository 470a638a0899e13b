-- A few records computed from the definitions: one of key 200 in July, one of key 17 in July, then one of key 200 in July again, which
-- goes to another node. Each reply's number by name. Assumes nothing.
use mathlib.Core.Path.{◌≡◌, refl}
use mathlib.Core.Bool.{true, false}
use mathlib.Core.List.{[], ◌∷◌, ◌++◌}
use Prim.Native.Nat.{ℕ}
use lib.IntN.{pos, negsuc}
use lib.ListN.{replicate}
use Rattle.rules.specs.declared.Refusal.TheVariants as no
use Rattle.std.specs.Prelude.{Some, None, Ok, Err}
use Rattle.holder.specs.declared.Unheld.TheVariants.{NotAsked, OutOfRange, Unsettled}
use Rattle.water.specs.declared.Record.{Record}
use Rattle.water.specs.declared.Held.{Held}
use Rattle.water.specs.declared.Store.{Store}
use Rattle.water.specs.declared.Why.TheVariants as why
use Rattle.water.specs.Water.{in_range, change_of, none_held, held_of, empty_store, seat_of, kept_at, put_of, place_by, found_in, looked_up, total_of, reply_number}
use Rattle.water.specs.History.{any_alike, last_each}

-- in July at this key, rain, and 400 and 100 tenths of a millimetre of evapotranspiration and runoff
abbrev july : ℕ → ℕ → Record
july key rain = record { key = key; month = 7; rain = rain; evapotranspiration = 400; runoff = 100 }

abbrev first : Held
first = record { original = july 200 900; holder = 3; copies = 6 }

abbrev other : Held
other = record { original = july 17 0; holder = 0; copies = 10 }

abbrev again : Held
again = record { original = july 200 501; holder = 1; copies = 5 }

-- the first two are held, of three places
abbrev two : Store
two = record { count = 2; places = first ∷ other ∷ none_held ∷ [] }

-- all 512 places hold one
abbrev full : Store
full = record { count = 512; places = replicate 512 other }

-- all but the last
abbrev nearly_full : Store
nearly_full = record { count = 511; places = replicate 511 other ++ (none_held ∷ []) }

pub record Cases : Type 0 where
  pub gain : change_of (july 200 900) ≡ pos 400
  -- 0 - 400 - 100
  pub loss : change_of (july 17 0) ≡ negsuc 499
  -- month 1 to 12, and each amount 0 to 100,000
  pub month-none : in_range (record { key = 200; month = 0; rain = 0; evapotranspiration = 0; runoff = 0 }) ≡ false
  pub month-after : in_range (record { key = 200; month = 13; rain = 0; evapotranspiration = 0; runoff = 0 }) ≡ false
  pub month-first : in_range (record { key = 200; month = 1; rain = 0; evapotranspiration = 0; runoff = 0 }) ≡ true
  pub month-last : in_range (record { key = 200; month = 12; rain = 100000; evapotranspiration = 100000; runoff = 100000 }) ≡ true
  pub rain-over : in_range (record { key = 200; month = 12; rain = 100001; evapotranspiration = 0; runoff = 0 }) ≡ false
  pub evapotranspiration-over : in_range (record { key = 200; month = 12; rain = 0; evapotranspiration = 100001; runoff = 0 }) ≡ false
  pub runoff-over : in_range (record { key = 200; month = 12; rain = 0; evapotranspiration = 0; runoff = 100001 }) ≡ false
  -- nothing is held at first
  pub none-at-first : held_of empty_store ≡ []
  -- the first goes, the later one of its key and month stays
  pub last : last_each (first ∷ other ∷ again ∷ []) ≡ other ∷ again ∷ []
  pub last-total : total_of (last_each (first ∷ other ∷ again ∷ [])) ≡ negsuc 498
  -- at the first one's place
  pub seat : seat_of (first ∷ other ∷ []) again.original ≡ 0
  pub replaced : held_of (kept_at two 0 again) ≡ again ∷ other ∷ []
  pub replaced-total : total_of (held_of (kept_at two 0 again)) ≡ negsuc 498
  -- the month before is another, behind the last
  pub another : seat_of (first ∷ other ∷ []) (record { key = 200; month = 6; rain = 0; evapotranspiration = 0; runoff = 0 }) ≡ 2
  pub placed : (place_by (Ok (record { slot = 1; copies = 5 })) two again.original).store ≡ kept_at two 0 again
  -- what is held of a key and month; at no place where there is none
  pub found : looked_up two 17 7 ≡ Some other
  pub not_found : looked_up two 17 8 ≡ None
  -- a refusal changes nothing
  pub refused-stays : (place_by (Err Unsettled) two again.original).store ≡ two
  -- 10, and a key out of range
  pub invalid : reply_number (place_by (Err (NotAsked no.Invalid)) two again.original).reply ≡ 10
  pub key-out : reply_number (place_by (Err OutOfRange) two again.original).reply ≡ 14
  pub not-settled : reply_number (place_by (Err Unsettled) two again.original).reply ≡ 15
  -- 14 comes before 15
  pub not-in-range : reply_number (place_by (Err Unsettled) two (july 200 100001)).reply ≡ 14
  pub not-in-range-held : reply_number (place_by (Ok (record { slot = 1; copies = 5 })) full (july 200 100001)).reply ≡ 14
  -- a full store takes a record of a key and month that it holds, and no other
  pub no_room_lem : reply_number (place_by (Ok (record { slot = 1; copies = 5 })) full again.original).reply ≡ 16
  pub room : reply_number (place_by (Ok (record { slot = 1; copies = 5 })) full (july 17 3)).reply ≡ 0
  -- and one with 511 takes another
  pub last-place : reply_number (place_by (Ok (record { slot = 1; copies = 5 })) nearly_full again.original).reply ≡ 0
  -- the numbers
  pub accepted-is-0 : reply_number (Ok tt) ≡ 0
  pub invalid-is-10 : reply_number (Err why.Invalid) ≡ 10
  pub out-of-range-is-14 : reply_number (Err why.OutOfRange) ≡ 14
  pub unsettled-is-15 : reply_number (Err why.Unsettled) ≡ 15
  pub no-room-is-16 : reply_number (Err why.NoRoom) ≡ 16

pub cases : Cases
unfolding change_of held_of empty_store seat_of kept_at put_of place_by found_in total_of any_alike last_each
cases =
    record {
      gain = refl;
      loss = refl;
      month-none = refl;
      month-after = refl;
      month-first = refl;
      month-last = refl;
      rain-over = refl;
      evapotranspiration-over = refl;
      runoff-over = refl;
      none-at-first = refl;
      last = refl;
      last-total = refl;
      seat = refl;
      replaced = refl;
      replaced-total = refl;
      another = refl;
      placed = refl;
      found = refl;
      not_found = refl;
      refused-stays = refl;
      invalid = refl;
      key-out = refl;
      not-settled = refl;
      not-in-range = refl;
      not-in-range-held = refl;
      no_room_lem = refl;
      room = refl;
      last-place = refl;
      accepted-is-0 = refl;
      invalid-is-10 = refl;
      out-of-range-is-14 = refl;
      unsettled-is-15 = refl;
      no-room-is-16 = refl;
    }
