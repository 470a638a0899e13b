-- T-13: water records on top of the ring, which is seen through what it publishes of who holds a key (Holder of crate
-- holder). Definitions only, each under the request's words. Assumes nothing.
use Rattle.std.specs.Prelude.{Bool, cond, ◌&&◌, List, [], ◌∷◌, ℕ, suc, eqb, leb, ltb, ℤ, pos, ◌+ℤ◌, ◌-ℤ◌, take, set, replicate}
use Rattle.std.specs.Prelude.{Option, Some, None, Result, Ok, Err, ⊤}
use Rattle.rules.specs.Names.{Slot, Marks, Key}
use Rattle.rules.specs.declared.Pool.{Pool}
use Rattle.table_type.specs.declared.Table.{Table}
use Rattle.holder.specs.declared.Unheld.TheVariants as unheld
use Rattle.holder.specs.Holder.{Holding, holding_of}
use Rattle.water.specs.declared.Record.{Record}
use Rattle.water.specs.declared.Held.{Held}
use Rattle.water.specs.declared.Store.{Store}
use Rattle.water.specs.declared.Why.{Why}
use Rattle.water.specs.declared.Why.TheVariants.{Invalid, OutOfRange, Unsettled, NoRoom}
use Rattle.water.specs.declared.Placed.{Placed}

-- at most 512 records, copies not counted
abbrev pub most_records : ℕ
most_records = 512

-- in tenths of a millimetre, each 0 to 100,000
abbrev pub most_tenths : ℕ
most_tenths = 100000

-- month 1 to 12, and rain, evapotranspiration and runoff; the key is looked at by the table's M
abbrev pub in_range : Record → Bool
in_range r = leb 1 r.month
    && (leb r.month 12 && (leb r.rain most_tenths && (leb r.evapotranspiration most_tenths && leb r.runoff most_tenths)))

-- its change of stored water is rain - evapotranspiration - runoff, signed
unfoldable pub change_of : Record → ℤ
change_of r = pos r.rain -ℤ pos r.evapotranspiration -ℤ pos r.runoff

-- the same key and month
abbrev pub alike : Record → Record → Bool
alike a b = eqb a.key b.key && eqb a.month b.month

-- ---- the store: the first `count` of 512 places hold the originals, each with the slots of its copies

abbrev pub count_of : ℕ → ℕ
count_of n = cond (ltb n most_records) n most_records

unfoldable pub held_of : Store → List Held
held_of s = take (count_of s.count) s.places

-- no record, at a place that holds none
abbrev pub no_record : Record
no_record = record { key = 0; month = 0; rain = 0; evapotranspiration = 0; runoff = 0 }

abbrev pub none_held : Held
none_held = record { original = no_record; holder = 0; copies = 0 }

unfoldable pub empty_store : Store
empty_store = record { count = 0; places = replicate most_records none_held }

-- its seat: the place of the held record of the same key and month, or the one behind the last
unfoldable pub seat_of : List Held → Record → ℕ
seat_of [] r = 0
seat_of (h ∷ hs) r = cond (alike h.original r) 0 (suc (seat_of hs r))

-- the same key and month again replaces the earlier one, whose original and copies go; else there is one more
unfoldable pub kept_at : Store → ℕ → Held → Store
kept_at s i h = record { count = cond (leb s.count i) (suc s.count) s.count; places = set s.places i h }

-- ---- placing a record

-- a record is accepted, or why it is not taken
abbrev pub Reply : Type 0
Reply = Result ⊤ Why

-- a refusal changes nothing
abbrev pub refused_of : Store → Why → Placed
refused_of s why = record { reply = Err why; store = s }

-- 16 no room for a new key and month
unfoldable pub put_of : Store → Record → Slot → Marks → Placed
put_of s r holder copies =
    let i : ℕ = seat_of (held_of s) r in
    cond (ltb i most_records)
    (record { reply = Ok tt; store = kept_at s i (record { original = r; holder = holder; copies = copies }) })
    (refused_of s NoRoom)

-- a record goes to the node that covers its key, and copies to that node's left and right neighbours. 10 for a list without 256 places or
-- an invalid table, then 14 number out of range, 15 table not settled, 16, in that order
unfoldable pub place_by : Holding → Store → Record → Placed
place_by (Err (unheld.NotAsked why)) s r = refused_of s Invalid
place_by (Err unheld.OutOfRange) s r = refused_of s OutOfRange
place_by (Err unheld.Unsettled) s r = cond (in_range r) (refused_of s Unsettled) (refused_of s OutOfRange)
place_by (Ok held) s r = cond (in_range r) (put_of s r held.slot held.copies) (refused_of s OutOfRange)

unfoldable pub place_of : Table → Pool → ℕ → Store → Record → Placed
place_of t p len s r = place_by (holding_of t p len r.key) s r

-- ---- what is held of a key and month

unfoldable pub found_in : List Held → Record → Option Held
found_in [] r = None
found_in (h ∷ hs) r = cond (alike h.original r) (Some h) (found_in hs r)

abbrev pub looked_up : Store → Key → ℕ → Option Held
looked_up s key month = found_in (held_of s) (record { key = key; month = month; rain = 0; evapotranspiration = 0; runoff = 0 })

-- ---- the sum of changes

unfoldable pub total_of : List Held → ℤ
total_of [] = pos 0
total_of (h ∷ hs) = change_of h.original +ℤ total_of hs

-- over held originals; copies never count
abbrev pub sum_of : Store → ℤ
sum_of s = total_of (held_of s)

-- ---- numbers

abbrev pub why_number : Why → ℕ
why_number Invalid = 10
why_number OutOfRange = 14
why_number Unsettled = 15
why_number NoRoom = 16

abbrev pub reply_number : Reply → ℕ
reply_number (Ok x) = 0
reply_number (Err why) = why_number why
