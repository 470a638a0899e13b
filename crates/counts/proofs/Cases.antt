-- Three messages, two of them for node 2 and one for node 0, counted and looked for by the language's checker; what is answered of them on a ring
-- of three ready nodes, and with counts that disagree. Each answer's number by name. Where a routed lookup's next hop came from. Assumes nothing.
use mathlib.Core.Path.{◌≡◌, refl}
use mathlib.Core.Bool.{true, false}
use mathlib.Core.List.{List, [], ◌∷◌, ◌++◌}
use Prim.Native.Nat.{ℕ}
use lib.ListN.{replicate}
use Rattle.ring.specs.Distance.{fall_of, signed_of, abs_dist_of, rises_to, nearer, left_cover_of, right_cover_of, covers_key}
use Rattle.marks.specs.Marks.{has, gather, tally, first_to, all_to, single, union, meet, without, add_of, remove_of, size_of, lowest_of, listed, Found}
use Rattle.rules.specs.declared.Action.TheVariants.{Lookup, Deliver, Forward}
use Rattle.rules.specs.declared.Pool.{Pool}
use Rattle.rules.specs.declared.Refusal.TheVariants as no
use Rattle.rules.specs.declared.Via.TheVariants.{Leaf, Unrouted}
use Rattle.rules.specs.Mail.{waits, alike, all_different, first_from, first_equal, added, removed_at, sent_to}
use Rattle.plan.specs.Actions.{plan_lookup}
use Rattle.rules.specs.Closest.{closest}
use Rattle.rules.specs.Fits.{numbers_fit, id_fits, side_fits, leaf_fits, others_fit, node_fits, is_blank, slot_fits}
use Rattle.rules.specs.Fits.{word_fits, flag_fits, carried_fits, owner_fits, routing_fits, failed_fits, fields_fit, message_fits, farther_than, hops_fit}
use Rattle.rules.specs.Hop.{leaf_candidates, route_candidates, by_leaf, leaf_hop, route_hop, next_hop, via_of}
use Rattle.rules.specs.Leaf.{content_of, seen_from, leaf_with, overlaps, is_empty, covers_of}
use Rattle.rules.specs.Letters.{lookup}
use Rattle.rules.specs.Nodes.{placed}
use Rattle.rules.specs.Pick.{best}
use Rattle.rules.specs.Plans.{mailed}
use Rattle.rules.specs.Pool.{waiting, laid}
use Rattle.table_type.specs.declared.Table.{Table}
use Rattle.start.specs.Start.{slot_ids, slots_to, start_node, start_nodes, start_fits, ids_rise, list_fits}
use Rattle.table_type.specs.Start.{start_of, table_of}
use Rattle.take.specs.Take.{plan_deliver, plan_forward}
use Rattle.table.specs.Settle.{carried_out, settle}
use Rattle.table.specs.Settled.{dead_set}
use Rattle.step.specs.Step.{is_sound, step_of}
use Rattle.table.specs.Valid.{nodes_fit, messages_fit, pool_fits, valid_of}
use Rattle.words.specs.Bytes.{bytes_of, number_of, encode, decode, encode_all, decode_all}
use Rattle.file.specs.Load.{header_fits, offsets_fit, statuses_fit, file_table, part_pool, file_pool, load_of}
use Rattle.face.specs.Asked.{start_step}
use Rattle.counts.specs.declared.Counted.{Counted}
use Rattle.counts.specs.Counts.{count_for, numbers_to, counts_of, agree_of, is_sound_counted, after_by, step_with, load_with, start_with}
use Rattle.counts.specs.Counts.{wrote_with, written_with, rest_with, has_of, first_for, first_of, polled_of}
use Rattle.file.specs.Write.{said_number}
use Rattle.std.specs.Prelude.{Bool, true, false, Ok, Err, Some, None}

abbrev three : Pool
three = laid (placed (lookup 80) 2 ∷ placed (lookup 200) 0 ∷ placed (lookup 9) 2 ∷ [])

abbrev zeros : List ℕ
zeros = replicate 61 0

pub three-counted : counts_of three ≡ (1 ∷ 0 ∷ 2 ∷ []) ++ zeros
unfolding counts_of numbers_to count_for tally
three-counted = refl

pub three-agree : agree_of ((1 ∷ 0 ∷ 2 ∷ []) ++ zeros) three ≡ true
unfolding agree_of all_to count_for tally
three-agree = refl

-- one message forgotten, and one too many for the last slot
pub forgotten-disagree : agree_of ((1 ∷ 0 ∷ 1 ∷ []) ++ zeros) three ≡ false
unfolding agree_of all_to count_for tally
forgotten-disagree = refl

pub last-disagrees : agree_of ((1 ∷ 0 ∷ 2 ∷ []) ++ (replicate 60 0 ++ (1 ∷ []))) three ≡ false
unfolding agree_of all_to count_for tally
last-disagrees = refl

pub first-of-two : first_for (waiting three) 2 ≡ Some 0
unfolding first_for first_to
first-of-two = refl

pub first-behind : first_for (waiting three) 0 ≡ Some 1
unfolding first_for first_to
first-behind = refl

pub none-for-one : first_for (waiting three) 1 ≡ None
unfolding first_for first_to
none-for-one = refl

-- ---- on a ring of three ready nodes

abbrev nodes : Table
nodes = table_of (start_of 8 1 (17 ∷ 18 ∷ 65 ∷ []) 7)

abbrev here : Counted
here = record { table = nodes; pool = three; counts = (1 ∷ 0 ∷ 2 ∷ []) ++ zeros }

-- one message is forgotten
abbrev wrong : Counted
wrong = record { table = nodes; pool = three; counts = (1 ∷ 0 ∷ 1 ∷ []) ++ zeros }

-- one message alone, for node 2
abbrev one : Counted
one = record { table = nodes; pool = laid (placed (lookup 80) 2 ∷ []); counts = (0 ∷ 0 ∷ 1 ∷ []) ++ zeros }

-- a table file: node 17 is ready alone, and no message waits
abbrev word : ℕ → List ℕ
word x = x ∷ 0 ∷ 0 ∷ 0 ∷ []

abbrev wide : ℕ → List ℕ
wide x = x ∷ 0 ∷ 0 ∷ 0 ∷ 0 ∷ 0 ∷ 0 ∷ 0 ∷ []

abbrev quiet : List ℕ
quiet =
    word 8 ++ word 1 ++ word 1 ++ word 0 ++ word 32 ++ word 96 ++ word 96 ++ word 0
    ++ word 17 ++ word 3 ++ wide 0 ++ wide 0 ++ wide 0 ++ wide 0 ++ wide 1 ++ wide 1 ++ wide 1

pub record Answers : Type 0 where
  pub has_one : has_of here 256 0 ≡ Ok true
  pub has-none : has_of here 256 1 ≡ Ok false
  -- 1 for a slot out of range; 10 comes before it
  pub has-no-slot : has_of here 256 3 ≡ Err no.OutOfRange
  pub has-wrong : has_of wrong 256 3 ≡ Err no.Invalid
  pub has-no-list : has_of here 255 3 ≡ Err no.Invalid
  pub first_one : first_of here 256 0 ≡ Ok (Some 1)
  pub first-none : first_of here 256 1 ≡ Ok None
  pub first-no-slot : first_of here 256 3 ≡ Err no.OutOfRange
  pub first-wrong : first_of wrong 256 3 ≡ Err no.Invalid
  pub polled-two : polled_of here 256 ≡ Ok 5
  pub polled-one : polled_of one 256 ≡ Ok 4
  pub polled-wrong : polled_of wrong 256 ≡ Err no.Invalid
  -- counts that disagree: no step, no file, no word of settled
  pub step-wrong : (step_with wrong 256 (Lookup 0 80)).answer ≡ Err no.Invalid
  pub wrote-wrong : wrote_with wrong 256 [] ≡ Err no.Invalid
  pub written-wrong : written_with wrong 256 (7 ∷ []) ≡ 7 ∷ []
  pub rest-wrong : rest_with wrong 256 ≡ Err no.Invalid
  -- a load and a start work them out; a refusal leaves them
  pub loaded : (load_with quiet wrong 256).counted.counts ≡ replicate 64 0
  pub started : (start_with wrong 256 8 1 (17 ∷ []) 1).counted.counts ≡ replicate 64 0
  pub not-loaded : (load_with [] wrong 256).counted.counts ≡ wrong.counts
  -- the numbers
  pub has-yes-is-0 : said_number (Ok true) ≡ 0
  pub has-no-is-0 : said_number (Ok false) ≡ 0
  pub has-out-is-1 : said_number {A = Bool} (Err no.OutOfRange) ≡ 1
  pub has-invalid-is-10 : said_number {A = Bool} (Err no.Invalid) ≡ 10
  pub first-at-is-0 : said_number {A = Found} (Ok (Some 3)) ≡ 0
  pub first-none-is-0 : said_number {A = Found} (Ok None) ≡ 0
  pub first-out-is-1 : said_number {A = Found} (Err no.OutOfRange) ≡ 1
  pub first-invalid-is-10 : said_number {A = Found} (Err no.Invalid) ≡ 10
  pub polled-nodes-is-0 : said_number {A = ℕ} (Ok 5) ≡ 0
  pub polled-invalid-is-10 : said_number {A = ℕ} (Err no.Invalid) ≡ 10

pub answers : Answers
unfolding fall_of has gather tally first_to all_to single meet add_of remove_of size_of listed closest numbers_fit id_fits side_fits leaf_fits
    others_fit node_fits is_blank slot_fits word_fits flag_fits carried_fits owner_fits routing_fits failed_fits fields_fit message_fits farther_than
    hops_fit nearer rises_to abs_dist_of signed_of seen_from leaf_with alike all_different best slot_ids slots_to start_node start_nodes start_fits
    ids_rise list_fits start_of is_sound nodes_fit messages_fit pool_fits valid_of bytes_of number_of encode decode encode_all decode_all header_fits
    offsets_fit statuses_fit file_table part_pool file_pool load_of start_step count_for numbers_to counts_of agree_of is_sound_counted after_by step_with
    load_with start_with wrote_with written_with rest_with has_of first_for first_of polled_of
answers =
    record {
      has_one = refl;
      has-none = refl;
      has-no-slot = refl;
      has-wrong = refl;
      has-no-list = refl;
      first_one = refl;
      first-none = refl;
      first-no-slot = refl;
      first-wrong = refl;
      polled-two = refl;
      polled-one = refl;
      polled-wrong = refl;
      step-wrong = refl;
      wrote-wrong = refl;
      written-wrong = refl;
      rest-wrong = refl;
      loaded = refl;
      started = refl;
      not-loaded = refl;
      has-yes-is-0 = refl;
      has-no-is-0 = refl;
      has-out-is-1 = refl;
      has-invalid-is-10 = refl;
      first-at-is-0 = refl;
      first-none-is-0 = refl;
      first-out-is-1 = refl;
      first-invalid-is-10 = refl;
      polled-nodes-is-0 = refl;
      polled-invalid-is-10 = refl;
    }

-- ---- where the next hop came from

-- a lookup of 65's id, for 17
abbrev far : Counted
far = record { table = nodes; pool = laid (placed (lookup 65) 0 ∷ []); counts = (1 ∷ 0 ∷ 0 ∷ []) ++ zeros }

abbrev uncounted : Counted
uncounted = record { table = nodes; pool = laid (placed (lookup 65) 0 ∷ []); counts = (0 ∷ 0 ∷ 0 ∷ []) ++ zeros }

pub record Said : Type 0 where
  -- 17 has 65 on its left
  pub leaf : (step_with far 256 (Forward 0)).via ≡ Leaf
  -- nothing is routed
  pub refused : (step_with far 256 (Deliver 0)).via ≡ Unrouted
  pub looked-up : (step_with far 256 (Lookup 1 65)).via ≡ Unrouted
  pub wrong : (step_with uncounted 256 (Forward 0)).via ≡ Unrouted

pub said : Said
unfolding fall_of signed_of abs_dist_of rises_to nearer left_cover_of right_cover_of covers_key has gather tally first_to all_to single union meet
    without add_of remove_of size_of lowest_of listed best closest content_of seen_from leaf_with overlaps is_empty covers_of leaf_candidates
    route_candidates by_leaf leaf_hop route_hop next_hop via_of alike all_different first_from first_equal added removed_at sent_to numbers_fit id_fits
    side_fits leaf_fits others_fit node_fits is_blank slot_fits word_fits flag_fits carried_fits owner_fits routing_fits failed_fits fields_fit
    message_fits farther_than hops_fit mailed waits plan_lookup plan_deliver plan_forward slot_ids slots_to start_node start_nodes start_fits ids_rise
    list_fits start_of nodes_fit messages_fit pool_fits valid_of carried_out settle dead_set is_sound step_of count_for agree_of after_by step_with
said = record { leaf = refl; refused = refl; looked-up = refl; wrong = refl }
