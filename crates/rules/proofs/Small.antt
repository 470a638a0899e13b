-- Small rings and nodes for the computed cases. A set is the sum of its marks: 1 for slot 0, 2 for slot 1, 4, 8, 16 and 32 for slots 2 to 5.
-- Definitions only. Assumes nothing.
use mathlib.Core.List.{List, [], ◌∷◌}
use Prim.Native.Nat.{ℕ}
use Rattle.ring.specs.Distance.{fall_of, signed_of, abs_dist_of, rises_to, nearer, left_cover_of, right_cover_of, covers_key}
use Rattle.marks.specs.Marks.{has, gather, tally, all_to, single, union, meet, without, add_of, remove_of, size_of, listed}
use Rattle.rules.specs.declared.Ring.{Ring}
use Rattle.rules.specs.declared.Sides.{Sides}
use Rattle.rules.specs.declared.Status.{Status}
use Rattle.rules.specs.declared.Node.{Node}
use Rattle.rules.specs.Pick.{best}
use Rattle.rules.specs.Closest.{closest}
use Rattle.rules.specs.Leaf.{content_of, seen_from, leaf_with, leaf_with_one, overlaps, is_full, is_complete, is_empty, covers_of}
use Rattle.rules.specs.Hop.{leaf_candidates, route_candidates, by_leaf, leaf_hop, route_hop, next_hop, via_of}
use Rattle.rules.specs.Mail.{alike, all_different, first_from, first_equal, added, removed_at, sent_to, waits, join_waits, without_probes, reply_waits}
use Rattle.rules.specs.Fits.{numbers_fit, id_fits, side_fits, leaf_fits, others_fit, node_fits, is_blank, slot_fits}
use Rattle.rules.specs.Fits.{word_fits, flag_fits, carried_fits, owner_fits, routing_fits, failed_fits, fields_fit, message_fits, farther_than, hops_fit}
use Rattle.rules.specs.Plans.{mailed}

-- to unfold this is to unfold all that the rules compute with
unfoldable pub opened : Unit {0}
unfolding fall_of signed_of abs_dist_of rises_to nearer left_cover_of right_cover_of covers_key has gather tally all_to single union meet without add_of
    remove_of size_of listed best closest content_of seen_from leaf_with leaf_with_one overlaps is_full is_complete is_empty covers_of leaf_candidates
    route_candidates by_leaf leaf_hop route_hop next_hop via_of alike all_different first_from first_equal added removed_at sent_to numbers_fit id_fits
    side_fits leaf_fits others_fit node_fits is_blank slot_fits word_fits flag_fits carried_fits owner_fits routing_fits failed_fits fields_fit
    message_fits farther_than hops_fit mailed waits join_waits without_probes reply_waits
opened = tt

-- ---- rings: M = 8

-- 01's worked ids, L = 1
abbrev pub four : Ring
four = record { m = 8; l = 1; n = 4 }

abbrev pub ids : List ℕ
ids = 17 ∷ 18 ∷ 65 ∷ 95 ∷ []

-- six nodes, by L
abbrev pub six : ℕ → Ring
six l = record { m = 8; l = l; n = 6 }

abbrev pub six_ids : List ℕ
six_ids = 10 ∷ 40 ∷ 80 ∷ 120 ∷ 160 ∷ 200 ∷ []

-- ---- nodes

-- a node: id, status, left, right, probing, failed, routing set, lease, grant
abbrev pub node : ℕ → Status → ℕ → ℕ → ℕ → ℕ → ℕ → ℕ → ℕ → Node
node id s left right probing failed routing lease grant =
    record {
      id = id;
      status = s;
      left = left;
      right = right;
      probing = probing;
      failed = failed;
      routing = routing;
      lease = lease;
      grant = grant;
    }

abbrev pub sides : ℕ → ℕ → Sides
sides left right = record { left = left; right = right }
