-- What a caller gets who lends its list, computed by the checker: M and L in their places, the count and the letter told, and lists
-- that have not 256 places. Assumes nothing.
use Rattle.std.specs.Prelude.{Ok, Err}
use mathlib.Core.Path.{◌≡◌, refl}
use mathlib.Core.List.{List, [], ◌∷◌}
use Prim.Native.Nat.{ℕ}
use Rattle.ring.specs.Distance.{fall_of}
use Rattle.marks.specs.Marks.{has, gather, tally, all_to, single, listed}
use Rattle.rules.specs.declared.Message.{Message}
use Rattle.rules.specs.declared.Refusal.TheVariants as no
use Rattle.rules.specs.declared.Via.TheVariants.{Unrouted, Leaf, Routing}
use Rattle.rules.specs.Closest.{closest}
use Rattle.rules.specs.Leaf.{leaf_with}
use Rattle.rules.specs.Letters.{lookup}
use Rattle.rules.specs.Pool.{laid}
use Rattle.table_type.specs.declared.Stepped.{Stepped}
use Rattle.start.specs.Start.{slot_ids, slots_to, start_node, start_nodes, start_fits, ids_rise, list_fits}
use Rattle.table_type.specs.Start.{start_of, no_table}
use Rattle.table.specs.Settle.{done_by, done_of}
use Rattle.face.specs.Asked.{start_step}
use Rattle.face_lent.specs.Lent.{blanks, places_of, taken_of, given_of, lent, lent_start, reply_of}

abbrev ids : List ℕ
ids = 17 ∷ 18 ∷ 65 ∷ 95 ∷ []

-- a start of M = 8 and L = 2 over a list in which one message waited
abbrev begun : List Message → Stepped
begun ys = lent_start no_table ys 1 8 2 ids 5

abbrev short : List Message
short = lookup 3 ∷ []

pub record Lends : Type 0 where
  pub limits : ((begun blanks).table.m ≡ 8) × ((begun blanks).table.l ≡ 2) × ((begun blanks).table.n ≡ 4)
  pub answer : ((begun blanks).answer ≡ Ok tt) × ((begun short).answer ≡ Err no.Invalid)
  -- no messages after a start; the count of those that wait
  pub count : ((reply_of (begun blanks)).count ≡ 0) × ((reply_of (done_of no_table (laid (lookup 3 ∷ lookup 4 ∷ [])))).count ≡ 2) × ((lent blanks 7).count ≡ 7)
  -- where the next hop came from, as the step says it
  pub via : ((reply_of (done_by Leaf no_table (laid []))).via ≡ Leaf) × ((reply_of (done_by Routing no_table (laid []))).via ≡ Routing)
      × ((reply_of (begun blanks)).via ≡ Unrouted)
  -- all of 256 places, or none
  pub places : (places_of 256 ≡ 256) × (places_of 255 ≡ 0) × (places_of 257 ≡ 0) × (taken_of short ≡ blanks) × (given_of short blanks ≡ short)
      × (given_of blanks short ≡ short)

pub lends : Lends
unfolding fall_of has gather tally all_to single listed closest leaf_with slot_ids slots_to start_node start_nodes start_fits ids_rise list_fits start_of
    start_step taken_of given_of
lends =
    record {
      limits = (refl, refl, refl);
      answer = (refl, refl);
      count = (refl, refl, refl);
      via = (refl, refl, refl);
      places = (refl, refl, refl, refl, refl, refl);
    }
