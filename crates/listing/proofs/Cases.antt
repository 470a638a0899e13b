-- 01's worked listing, computed by the checker: the file of the ids 17, 18, 65 and 95, all started ready, with Lookup 80 at slot 0 and Lookup
-- 200 at slot 2 (tools/worked makes it), and what is printed of it, whole; then of the same file without lookups, and damaged in four ways;
-- and lines of a table in which the routing set decides. Assumes nothing.
use mathlib.Core.Path.{◌≡◌, refl}
use mathlib.Core.List.{List, [], ◌∷◌, ◌++◌}
use Prim.Native.Nat.{ℕ}
use lib.ListN.{take, set, replicate}
use Rattle.ring.specs.Distance.{fall_of, signed_of, abs_dist_of, rises_to, nearer, left_cover_of, right_cover_of, covers_key}
use Rattle.marks.specs.Marks.{has, gather, tally, all_to, union, meet, without, add_of, remove_of, size_of, listed}
use Rattle.rules.specs.declared.Node.{Node}
use Rattle.rules.specs.declared.Status.{Status}
use Rattle.rules.specs.declared.Status.TheVariants.{Wait, Ready}
use Rattle.rules.specs.Fits.{numbers_fit, id_fits, side_fits, leaf_fits, others_fit, node_fits, is_blank, slot_fits}
use Rattle.rules.specs.Fits.{word_fits, flag_fits, carried_fits, owner_fits, routing_fits, failed_fits, fields_fit, message_fits, farther_than, hops_fit}
use Rattle.rules.specs.Closest.{closest}
use Rattle.rules.specs.Hop.{leaf_candidates, route_candidates, by_leaf, leaf_hop, route_hop, next_hop, via_of}
use Rattle.rules.specs.Leaf.{content_of, seen_from, leaf_with, overlaps, covers_of}
use Rattle.rules.specs.Letters.{lookup, lookup_after}
use Rattle.rules.specs.Mail.{alike, all_different, first_from, first_equal, added, removed_at, sent_to}
use Rattle.rules.specs.Nodes.{no_node, placed}
use Rattle.rules.specs.Pick.{best}
use Rattle.rules.specs.Plans.{mailed}
use Rattle.rules.specs.Pool.{laid}
use Rattle.take.specs.Take.{plan_deliver, plan_forward}
use Rattle.table.specs.Settle.{carried_out, settle}
use Rattle.table.specs.Settled.{dead_set}
use Rattle.table_type.specs.declared.Table.{Table}
use Rattle.start.specs.Start.{start_node, start_nodes, slots_to}
use Rattle.table_type.specs.Start.{start_table}
use Rattle.step.specs.Step.{is_sound, step_of}
use Rattle.table.specs.Valid.{nodes_fit, messages_fit, pool_fits, valid_of}
use Rattle.words.specs.Bytes.{bytes_of, number_of, encode, encode_all, decode, decode_all}
use Rattle.file.specs.Format.{file_of}
use Rattle.file.specs.Load.{header_fits, offsets_fit, statuses_fit, file_table, part_pool, file_pool, load_of}
use Rattle.listing.specs.Trip.{trip_of, follow_of}
use Rattle.text.specs.Decimal.{decimal_to, decimal}
use Rattle.listing.specs.Print.{headline, refused_word, line_of, lines_of, listing_of}

-- to unfold this is to unfold all that the listing computes with
opened : Unit {0}
unfolding listing_of load_of header_fits offsets_fit statuses_fit file_table file_pool part_pool decode decode_all number_of decimal decimal_to line_of
    lines_of follow_of trip_of valid_of numbers_fit nodes_fit slot_fits id_fits node_fits leaf_fits side_fits others_fit is_blank listed size_of tally has
    all_to pool_fits messages_fit message_fits farther_than hops_fit fields_fit word_fits flag_fits carried_fits owner_fits routing_fits failed_fits
    all_different alike step_of is_sound settle carried_out mailed sent_to plan_deliver plan_forward covers_of seen_from best covers_key left_cover_of
    right_cover_of fall_of next_hop via_of by_leaf overlaps meet gather leaf_hop route_hop leaf_candidates route_candidates content_of union add_of
    without remove_of nearer abs_dist_of signed_of rises_to dead_set first_equal first_from added removed_at
opened = tt

unfoldable pub worked_file : List ℕ
worked_file =
    8 ∷ 0 ∷ 0 ∷ 0 ∷ 1 ∷ 0 ∷ 0 ∷ 0 ∷ 4 ∷ 0 ∷ 0 ∷ 0 ∷ 2 ∷ 0 ∷ 0 ∷ 0 ∷ 32 ∷ 0 ∷ 0 ∷ 0 ∷ 32 ∷ 1 ∷ 0 ∷ 0 ∷ 144 ∷
    1 ∷ 0 ∷ 0 ∷ 0 ∷ 0 ∷ 0 ∷ 0 ∷ 17 ∷ 0 ∷ 0 ∷ 0 ∷ 3 ∷ 0 ∷ 0 ∷ 0 ∷ 2 ∷ 0 ∷ 0 ∷ 0 ∷ 0 ∷ 0 ∷ 0 ∷ 0 ∷ 8 ∷ 0 ∷
    0 ∷ 0 ∷ 0 ∷ 0 ∷ 0 ∷ 0 ∷ 0 ∷ 0 ∷ 0 ∷ 0 ∷ 0 ∷ 0 ∷ 0 ∷ 0 ∷ 0 ∷ 0 ∷ 0 ∷ 0 ∷ 0 ∷ 0 ∷ 0 ∷ 0 ∷ 15 ∷ 0 ∷ 0 ∷
    0 ∷ 0 ∷ 0 ∷ 0 ∷ 0 ∷ 15 ∷ 0 ∷ 0 ∷ 0 ∷ 0 ∷ 0 ∷ 0 ∷ 0 ∷ 15 ∷ 0 ∷ 0 ∷ 0 ∷ 0 ∷ 0 ∷ 0 ∷ 0 ∷ 18 ∷ 0 ∷ 0 ∷ 0 ∷
    3 ∷ 0 ∷ 0 ∷ 0 ∷ 4 ∷ 0 ∷ 0 ∷ 0 ∷ 0 ∷ 0 ∷ 0 ∷ 0 ∷ 1 ∷ 0 ∷ 0 ∷ 0 ∷ 0 ∷ 0 ∷ 0 ∷ 0 ∷ 0 ∷ 0 ∷ 0 ∷ 0 ∷ 0 ∷
    0 ∷ 0 ∷ 0 ∷ 0 ∷ 0 ∷ 0 ∷ 0 ∷ 0 ∷ 0 ∷ 0 ∷ 0 ∷ 15 ∷ 0 ∷ 0 ∷ 0 ∷ 0 ∷ 0 ∷ 0 ∷ 0 ∷ 15 ∷ 0 ∷ 0 ∷ 0 ∷ 0 ∷ 0 ∷
    0 ∷ 0 ∷ 15 ∷ 0 ∷ 0 ∷ 0 ∷ 0 ∷ 0 ∷ 0 ∷ 0 ∷ 65 ∷ 0 ∷ 0 ∷ 0 ∷ 3 ∷ 0 ∷ 0 ∷ 0 ∷ 8 ∷ 0 ∷ 0 ∷ 0 ∷ 0 ∷ 0 ∷ 0 ∷
    0 ∷ 2 ∷ 0 ∷ 0 ∷ 0 ∷ 0 ∷ 0 ∷ 0 ∷ 0 ∷ 0 ∷ 0 ∷ 0 ∷ 0 ∷ 0 ∷ 0 ∷ 0 ∷ 0 ∷ 0 ∷ 0 ∷ 0 ∷ 0 ∷ 0 ∷ 0 ∷ 0 ∷ 0 ∷
    15 ∷ 0 ∷ 0 ∷ 0 ∷ 0 ∷ 0 ∷ 0 ∷ 0 ∷ 15 ∷ 0 ∷ 0 ∷ 0 ∷ 0 ∷ 0 ∷ 0 ∷ 0 ∷ 15 ∷ 0 ∷ 0 ∷ 0 ∷ 0 ∷ 0 ∷ 0 ∷ 0 ∷ 95 ∷
    0 ∷ 0 ∷ 0 ∷ 3 ∷ 0 ∷ 0 ∷ 0 ∷ 1 ∷ 0 ∷ 0 ∷ 0 ∷ 0 ∷ 0 ∷ 0 ∷ 0 ∷ 4 ∷ 0 ∷ 0 ∷ 0 ∷ 0 ∷ 0 ∷ 0 ∷ 0 ∷ 0 ∷ 0 ∷
    0 ∷ 0 ∷ 0 ∷ 0 ∷ 0 ∷ 0 ∷ 0 ∷ 0 ∷ 0 ∷ 0 ∷ 0 ∷ 0 ∷ 0 ∷ 0 ∷ 15 ∷ 0 ∷ 0 ∷ 0 ∷ 0 ∷ 0 ∷ 0 ∷ 0 ∷ 15 ∷ 0 ∷ 0 ∷
    0 ∷ 0 ∷ 0 ∷ 0 ∷ 0 ∷ 15 ∷ 0 ∷ 0 ∷ 0 ∷ 0 ∷ 0 ∷ 0 ∷ 0 ∷ 1 ∷ 0 ∷ 0 ∷ 0 ∷ 0 ∷ 0 ∷ 0 ∷ 0 ∷ 80 ∷ 0 ∷ 0 ∷ 0 ∷
    0 ∷ 0 ∷ 0 ∷ 0 ∷ 0 ∷ 0 ∷ 0 ∷ 0 ∷ 0 ∷ 0 ∷ 0 ∷ 0 ∷ 0 ∷ 0 ∷ 0 ∷ 0 ∷ 0 ∷ 0 ∷ 0 ∷ 0 ∷ 0 ∷ 0 ∷ 0 ∷ 0 ∷ 0 ∷
    0 ∷ 0 ∷ 0 ∷ 0 ∷ 0 ∷ 0 ∷ 0 ∷ 0 ∷ 0 ∷ 0 ∷ 0 ∷ 0 ∷ 0 ∷ 0 ∷ 0 ∷ 0 ∷ 0 ∷ 0 ∷ 0 ∷ 1 ∷ 0 ∷ 0 ∷ 0 ∷ 2 ∷ 0 ∷
    0 ∷ 0 ∷ 200 ∷ 0 ∷ 0 ∷ 0 ∷ 0 ∷ 0 ∷ 0 ∷ 0 ∷ 0 ∷ 0 ∷ 0 ∷ 0 ∷ 0 ∷ 0 ∷ 0 ∷ 0 ∷ 0 ∷ 0 ∷ 0 ∷ 0 ∷ 0 ∷ 0 ∷ 0 ∷
    0 ∷ 0 ∷ 0 ∷ 0 ∷ 0 ∷ 0 ∷ 0 ∷ 0 ∷ 0 ∷ 0 ∷ 0 ∷ 0 ∷ 0 ∷ 0 ∷ 0 ∷ 0 ∷ 0 ∷ 0 ∷ 0 ∷ 0 ∷ 0 ∷ 0 ∷ 0 ∷ 0 ∷ 0 ∷ []

-- it is the file that a writer makes of that start and those lookups
pub worked-written : file_of (start_table 8 1 4 (17 ∷ 18 ∷ 65 ∷ 95 ∷ []) 15) (laid (placed (lookup 80) 0 ∷ placed (lookup 200) 2 ∷ []))
    ≡ worked_file
unfolding worked_file opened file_of encode encode_all bytes_of start_nodes start_node slots_to leaf_with closest
worked-written = refl

-- `80 17 65 2 ll` and `200 65 17 2 ll`
pub worked : listing_of worked_file
    ≡ headline
    ++ (56 ∷ 48 ∷ 32 ∷ 49 ∷ 55 ∷ 32 ∷ 54 ∷ 53 ∷ 32 ∷ 50 ∷ 32 ∷ 108 ∷ 108 ∷ 10 ∷
    50 ∷ 48 ∷ 48 ∷ 32 ∷ 54 ∷ 53 ∷ 32 ∷ 49 ∷ 55 ∷ 32 ∷ 50 ∷ 32 ∷ 108 ∷ 108 ∷ 10 ∷ [])
unfolding worked_file opened
worked = refl

-- with no waiting lookup only the header line is printed
pub no-lookup : listing_of (take 288 (set (set (set worked_file 12 0) 24 32) 25 1)) ≡ headline
unfolding worked_file opened
no-lookup = refl

-- `refused 7`: its first 31 bytes
pub short : listing_of (take 31 worked_file) ≡ refused_word ++ (55 ∷ 10 ∷ [])
unfolding worked_file opened
short = refl

-- `refused 8`: M is 33
pub wide : listing_of (set worked_file 0 33) ≡ refused_word ++ (56 ∷ 10 ∷ [])
unfolding worked_file opened
wide = refl

-- `refused 9`: one byte more
pub longer : listing_of (worked_file ++ (0 ∷ [])) ≡ refused_word ++ (57 ∷ 10 ∷ [])
unfolding worked_file opened
longer = refl

-- `refused 10`: the status 4
pub strange : listing_of (set worked_file 36 4) ≡ refused_word ++ (49 ∷ 48 ∷ 10 ∷ [])
unfolding worked_file opened
strange = refl

-- ---- T-01: a table in which the routing set decides

-- by id, left and right, with every node but that of slot 3 in the routing set
abbrev ready : ℕ → ℕ → ℕ → Node
ready id left right =
    record { id = id; status = Ready; left = left; right = right; probing = 0; failed = 0; routing = 23; lease = 31; grant = 31 }

abbrev plain : ℕ → Status → ℕ → ℕ → Node
plain id s left right = record { id = id; status = s; left = left; right = right; probing = 0; failed = 0; routing = 0; lease = 0; grant = 0 }

-- on ids 0, 40, 100, 110, 200, node 0 has 200 on its left and 40 on its right: by content and routing set. 110 waits
abbrev far : Table
far =
    record {
      m = 8;
      l = 1;
      n = 5;
      nodes =
          ready 0 16 2 ∷ ready 40 4 1 ∷ ready 100 16 2
          ∷ record { id = 110; status = Wait; left = 0; right = 0; probing = 0; failed = 0; routing = 8; lease = 0; grant = 0 }
          ∷ ready 200 1 4 ∷ replicate 59 no_node;
    }

-- the same, where 110 is ready between 100 and 200
abbrev further : Table
further =
    record {
      m = 8;
      l = 1;
      n = 5;
      nodes = ready 0 16 2 ∷ ready 40 4 1 ∷ ready 100 8 2 ∷ ready 110 16 4 ∷ ready 200 1 8 ∷ replicate 59 no_node;
    }

-- on ids 0, 1 and 2, node 0 has 1 and 2 on its left; 2 waits
abbrev stuck : Table
stuck =
    record {
      m = 2;
      l = 2;
      n = 3;
      nodes = plain 0 Ready 6 2 ∷ plain 1 Ready 1 1 ∷ plain 2 Wait 0 0 ∷ replicate 61 no_node;
    }

abbrev line : ℕ → ℕ → List ℕ
line k d = line_of far (placed (lookup k) d)

pub record Letters : Type 0 where
  -- `105 0 100 1 r`
  pub by-routing : line 105 0 ≡ 49 ∷ 48 ∷ 53 ∷ 32 ∷ 48 ∷ 32 ∷ 49 ∷ 48 ∷ 48 ∷ 32 ∷ 49 ∷ 32 ∷ 114 ∷ 10 ∷ []
  -- `105 40 100 1 l`
  pub by-leaf : line 105 1 ≡ 49 ∷ 48 ∷ 53 ∷ 32 ∷ 52 ∷ 48 ∷ 32 ∷ 49 ∷ 48 ∷ 48 ∷ 32 ∷ 49 ∷ 32 ∷ 108 ∷ 10 ∷ []
  -- the same: the two hops that it carries (T-07) are not counted
  pub carried : line_of far (placed (lookup_after 2 105) 1) ≡ line 105 1
  -- `115 0 110 2 rl`: to 100 by the routing set, which goes first, and from there to 110 beside it
  pub both-in-order : line_of further (placed (lookup 115) 0) ≡ 49 ∷ 49 ∷ 53 ∷ 32 ∷ 48 ∷ 32 ∷ 49 ∷ 49 ∷ 48 ∷ 32 ∷ 50 ∷ 32 ∷ 114 ∷ 108 ∷ 10 ∷ []
  -- `2 0 - 1 l`: it goes to 2, which is not ready
  pub letters-stuck : line_of stuck (placed (lookup 2) 0) ≡ 50 ∷ 32 ∷ 48 ∷ 32 ∷ 45 ∷ 32 ∷ 49 ∷ 32 ∷ 108 ∷ 10 ∷ []
  -- `5 0 0 0 -`, delivered where it waits
  pub at_once : line 5 0 ≡ 53 ∷ 32 ∷ 48 ∷ 32 ∷ 48 ∷ 32 ∷ 48 ∷ 32 ∷ 45 ∷ 10 ∷ []
  -- `5 110 - 0 -`, where the node is not ready
  pub refused : line 5 3 ≡ 53 ∷ 32 ∷ 49 ∷ 49 ∷ 48 ∷ 32 ∷ 45 ∷ 32 ∷ 48 ∷ 32 ∷ 45 ∷ 10 ∷ []

pub letters : Letters
unfolding opened
letters = record { by-routing = refl; by-leaf = refl; carried = refl; both-in-order = refl; letters-stuck = refl; at_once = refl; refused = refl }
