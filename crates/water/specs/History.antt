-- T-13: records handed in one after another. Each call brings a table of its own, so whatever is done to the ring between two calls is in it.
-- Definitions only. Assumes nothing.
use Rattle.std.specs.Prelude.{Bool, false, cond, ◌||◌, List, [], ◌∷◌, ℕ, Ok, Err}
use Rattle.rules.specs.declared.Pool.{Pool}
use Rattle.table_type.specs.declared.Table.{Table}
use Rattle.holder.specs.Holder.{Holding, holding_of}
use Rattle.water.specs.declared.Record.{Record}
use Rattle.water.specs.declared.Held.{Held}
use Rattle.water.specs.declared.Store.{Store}
use Rattle.water.specs.declared.Placed.{Placed}
use Rattle.water.specs.Water.{Reply, alike, none_held, place_of}

-- a record, and the table on which it is handed in
pub record Call : Type 0 where
  pub table : Table
  pub pool : Pool
  pub len : ℕ
  pub original : Record

abbrev pub placing : Store → Call → Placed
placing s c = place_of c.table c.pool c.len s c.original

-- the store after these calls, in turn
unfoldable pub store_after : Store → List Call → Store
store_after s [] = s
store_after s (c ∷ cs) = store_after (placing s c).store cs

-- the record as it went to its holder and, in copies, to the neighbours; asked of accepted records only
abbrev went_to : Holding → Record → Held
went_to (Ok held) r = record { original = r; holder = held.slot; copies = held.copies }
went_to (Err why) r = none_held

unfoldable pub went_of : Call → Held
went_of c = went_to (holding_of c.table c.pool c.len c.original.key) c.original

abbrev noted : Reply → Held → List Held → List Held
noted (Ok x) h hs = h ∷ hs
noted (Err why) h hs = hs

-- the accepted records of these calls, oldest first, each as it went
unfoldable pub accepted_of : Store → List Call → List Held
accepted_of s [] = []
accepted_of s (c ∷ cs) = noted (placing s c).reply (went_of c) (accepted_of (placing s c).store cs)

-- one of these has the same key and month
unfoldable pub any_alike : List Held → Record → Bool
any_alike [] r = false
any_alike (h ∷ hs) r = alike h.original r || any_alike hs r

-- the last accepted record of each key and month: those that no later one is alike
unfoldable pub last_each : List Held → List Held
last_each [] = []
last_each (h ∷ hs) = cond (any_alike hs h.original) (last_each hs) (h ∷ last_each hs)
