-- Who holds a key, computed from the definitions: on 01's worked ids, all four ready, on the first two of them, on one alone, and with one
-- that is ok but not ready. Each answer's number by name. Assumes nothing.
use mathlib.Core.Path.{◌≡◌, refl}
use mathlib.Core.List.{List, [], ◌∷◌}
use Prim.Native.Nat.{ℕ}
use lib.ListN.{set}
use Rattle.ring.specs.Distance.{fall_of, left_cover_of, right_cover_of, covers_key}
use Rattle.marks.specs.Marks.{has, gather, tally, first_to, all_to, single, meet, add_of, remove_of, size_of, listed}
use Rattle.rules.specs.Closest.{closest}
use Rattle.rules.specs.Leaf.{seen_from, leaf_with, covers_of}
use Rattle.rules.specs.declared.Refusal.TheVariants as no
use Rattle.rules.specs.declared.Status.TheVariants as status
use Rattle.rules.specs.Pick.{best}
use Rattle.rules.specs.Plans.{with_status}
use Rattle.rules.specs.Fits.{numbers_fit, id_fits, side_fits, leaf_fits, others_fit, node_fits, is_blank, slot_fits}
use Rattle.rules.specs.Mail.{all_different}
use Rattle.rules.specs.Pool.{laid}
use Rattle.table_type.specs.declared.Table.{Table}
use Rattle.table_type.specs.Table.{node_at}
use Rattle.start.specs.Start.{slot_ids, slots_to, start_node, start_nodes, start_fits, ids_rise, list_fits}
use Rattle.table_type.specs.Start.{start_of, table_of}
use Rattle.table.specs.Settled.{ready_set, settled_at, is_settled}
use Rattle.step.specs.Step.{is_sound}
use Rattle.table.specs.Valid.{nodes_fit, messages_fit, pool_fits, valid_of}
use Rattle.std.specs.Prelude.{Ok, Err}
use Rattle.holder.specs.declared.Unheld.TheVariants.{NotAsked, OutOfRange, Unsettled}
use Rattle.holder.specs.Holder.{Holding, covered_by, copies_of, holding_of, holding_number}

-- who holds k on a start of these ids, ready where A has a mark
abbrev held : List ℕ → ℕ → ℕ → Holding
held ids a k = holding_of (table_of (start_of 8 1 ids a)) (laid []) 256 k

abbrev worked : List ℕ
worked = 17 ∷ 18 ∷ 65 ∷ 95 ∷ []

-- all four ready but the one at slot 1, which is ok
abbrev one_ok : Table
one_ok =
    let t : Table = table_of (start_of 8 1 worked 15) in
    record { m = t.m; l = t.l; n = t.n; nodes = set t.nodes 1 (with_status (node_at t 1) status.Ok) }

pub record Cases : Type 0 where
  -- 80 is as far from 65 as from 95: 65 is below it. Its neighbours are 95 and 18
  pub tie : held worked 15 80 ≡ Ok (record { slot = 2; copies = 10 })
  -- past the highest id: 17, with 18 and 95
  pub round : held worked 15 200 ≡ Ok (record { slot = 0; copies = 10 })
  -- of two ready nodes the other one has the copy, and alone there is none
  pub pair : held worked 3 80 ≡ Ok (record { slot = 1; copies = 1 })
  pub alone : held worked 1 80 ≡ Ok (record { slot = 0; copies = 0 })
  -- a node that is not ready holds nothing: the first slot is dead
  pub second-alone : held worked 2 80 ≡ Ok (record { slot = 1; copies = 0 })
  -- the last key, and the one behind it
  pub last : held worked 15 255 ≡ Ok (record { slot = 0; copies = 10 })
  pub behind : held worked 15 256 ≡ Err OutOfRange
  -- a table that is not settled, and a list without 256 places, which comes before all else
  pub unsettled : holding_of one_ok (laid []) 256 80 ≡ Err Unsettled
  pub places : holding_of one_ok (laid []) 255 256 ≡ Err (NotAsked no.Invalid)
  -- the numbers
  pub held-is-0 : holding_number (Ok (record { slot = 2; copies = 10 })) ≡ 0
  pub out-of-range-is-1 : holding_number (Err OutOfRange) ≡ 1
  pub invalid-is-10 : holding_number (Err (NotAsked no.Invalid)) ≡ 10
  pub unsettled-is-15 : holding_number (Err Unsettled) ≡ 15

pub cases : Cases
unfolding fall_of left_cover_of right_cover_of covers_key has gather tally first_to all_to single meet add_of remove_of size_of listed best closest
    seen_from leaf_with covers_of numbers_fit id_fits side_fits leaf_fits others_fit node_fits is_blank slot_fits all_different slot_ids slots_to
    start_node start_nodes start_fits ids_rise list_fits start_of nodes_fit messages_fit pool_fits valid_of ready_set settled_at is_settled is_sound
    covered_by copies_of holding_of
cases =
    record {
      tie = refl;
      round = refl;
      pair = refl;
      alone = refl;
      second-alone = refl;
      last = refl;
      behind = refl;
      unsettled = refl;
      places = refl;
      held-is-0 = refl;
      out-of-range-is-1 = refl;
      invalid-is-10 = refl;
      unsettled-is-15 = refl;
    }
