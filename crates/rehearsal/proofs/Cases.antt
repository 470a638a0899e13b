-- A rehearsal computed from the definitions: node 17 is ready alone, a lookup of 200 is added, then taken and delivered. The files are
-- written out byte by byte. Then one step of the checker by itself. Each reply's number by name. Assumes nothing.
use mathlib.Core.Path.{◌≡◌, refl}
use mathlib.Core.Bool.{true, false}
use mathlib.Core.List.{List, [], ◌∷◌, ◌++◌}
use Prim.Native.Nat.{ℕ}
use lib.ListN.{take}
use Rattle.ring.specs.Distance.{signed_of, abs_dist_of, rises_to, nearer}
use Rattle.ring.specs.Distance.{fall_of, left_cover_of, right_cover_of, covers_key}
use Rattle.marks.specs.Marks.{has, tally, all_to, size_of, listed}
use Rattle.rules.specs.declared.Action.TheVariants.{Lookup, Take, Deliver}
use Rattle.rules.specs.declared.Refusal.TheVariants as no
use Rattle.rules.specs.Mail.{waits, alike, all_different, first_from, first_equal, added, removed_at, sent_to}
use Rattle.plan.specs.Actions.{plan_lookup}
use Rattle.rules.specs.Fits.{numbers_fit, id_fits, side_fits, leaf_fits, others_fit, node_fits, is_blank, slot_fits}
use Rattle.rules.specs.Fits.{word_fits, flag_fits, carried_fits, owner_fits, routing_fits, failed_fits, fields_fit, message_fits, farther_than, hops_fit}
use Rattle.rules.specs.Leaf.{seen_from, covers_of}
use Rattle.rules.specs.Pick.{best}
use Rattle.rules.specs.Plans.{mailed}
use Rattle.rules.specs.Pool.{laid}
use Rattle.take.specs.Take.{plan_deliver, plan_take}
use Rattle.table_type.specs.declared.Stepped.{Stepped}
use Rattle.table_type.specs.declared.Table.{Table}
use Rattle.table_type.specs.Start.{no_table}
use Rattle.table.specs.Settle.{carried_out, settle, done_of, refused_of}
use Rattle.step.specs.Step.{is_sound, step_of}
use Rattle.table.specs.Valid.{nodes_fit, messages_fit, pool_fits, valid_of}
use Rattle.words.specs.Bytes.{bytes_of, number_of, encode, decode, encode_all, decode_all}
use Rattle.file.specs.Format.{file_of}
use Rattle.file.specs.Load.{header_fits, offsets_fit, statuses_fit, file_table, part_pool, file_pool, load_of}
use Rattle.face.specs.Calls.{loaded_of}
use Rattle.rehearsal.specs.declared.Checker.{Checker}
use Rattle.std.specs.Prelude.{Ok, Err}
use Rattle.rehearsal.specs.declared.Reply.TheVariants.{LookedAt, Over}
use Rattle.rehearsal.specs.Rehearsal.{Claim, agrees_with, verdict_from, verdict_of, begin_of, is_open, checked_of, handed_of, reply_number}
use Rattle.rehearsal.specs.Claims.{checker_of}

-- 32 and 64 bits whose first byte is x
abbrev word : ℕ → List ℕ
word x = x ∷ 0 ∷ 0 ∷ 0 ∷ []

abbrev wide : ℕ → List ℕ
wide x = x ∷ 0 ∷ 0 ∷ 0 ∷ 0 ∷ 0 ∷ 0 ∷ 0 ∷ []

-- M = 8, L = 1, one node
abbrev header : ℕ → ℕ → List ℕ
header count total = word 8 ++ word 1 ++ word 1 ++ word count ++ word 32 ++ word 96 ++ word total ++ word 0

-- 17 is ready, with itself in routing set, lease and grant
abbrev node : List ℕ
node = word 17 ++ word 3 ++ wide 0 ++ wide 0 ++ wide 0 ++ wide 0 ++ wide 1 ++ wide 1 ++ wide 1

-- no message waits
abbrev quiet : List ℕ
quiet = header 0 96 ++ node

-- a Lookup of k waits at 17
abbrev looking : ℕ → List ℕ
looking k =
    header 1 152 ++ node ++ word 1 ++ word 0 ++ word k ++ word 0 ++ word 0 ++ word 0 ++ wide 0 ++ wide 0 ++ wide 0 ++ wide 0

-- Lookup(0, 200), said to give this file
abbrev looks : List ℕ → Claim
looks file = record { action = Lookup 0 200; file = file }

-- Deliver(0), said to give this file
abbrev delivers : List ℕ → Claim
delivers file = record { action = Deliver 0; file = file }

-- a step that was done and left the table of no node with M = 2, one that was refused, and the file of it: 32 bytes
abbrev left : Table
left = record { m = 2; l = 0; n = 0; nodes = no_table.nodes }

abbrev done : Stepped
done = done_of left (laid [])

abbrev undone : Stepped
undone = refused_of left (laid []) no.Status

abbrev bytes : List ℕ
bytes = word 2 ++ word 0 ++ word 0 ++ word 0 ++ word 32 ++ word 32 ++ word 32 ++ word 0

-- a checker that has found three steps good, and one that has found the fourth bad; their pool says that a message waits
abbrev three : Checker
three = record { verdict = Ok tt; steps = 3; table = no_table; pool = record { count = 1; places = [] } }

abbrev ended : Checker
ended = record { verdict = Err 4; steps = 3; table = no_table; pool = laid [] }

pub record Cases : Type 0 where
  -- a whole rehearsal, good; possibly none; the first or second step bad, the second refused: that Lookup waits
  pub good : verdict_of quiet (looks (looking 200) ∷ delivers quiet ∷ []) ≡ Ok tt
  pub none : verdict_of quiet [] ≡ Ok tt
  pub no_start : verdict_of [] (looks (looking 200) ∷ delivers quiet ∷ []) ≡ Err 0
  pub byte-changed : verdict_of quiet (looks (looking 201) ∷ delivers quiet ∷ []) ≡ Err 1
  pub refused : verdict_of quiet (looks (looking 200) ∷ looks (looking 200) ∷ []) ≡ Err 2
  pub singly : (checker_of quiet (looks (looking 200) ∷ delivers quiet ∷ [])).verdict ≡ Ok tt
  -- precisely the stated file: the last byte, a byte more, a byte less
  pub same_bytes : agrees_with done bytes ≡ true
  pub last_byte : agrees_with done (take 31 bytes ++ (1 ∷ [])) ≡ false
  pub byte_more : agrees_with done (bytes ++ (0 ∷ [])) ≡ false
  pub byte-less : agrees_with done (take 31 bytes) ≡ false
  pub not_done : agrees_with undone bytes ≡ false
  -- the start
  pub begins : (begin_of []).verdict ≡ Err 0
  pub begins-at-0 : (begin_of []).steps ≡ 0
  -- a good step: one more, on the table and with the messages after it
  pub one_more_lem : (checked_of three done bytes).steps ≡ 4
  pub table-after : (checked_of three done bytes).table.m ≡ 2
  pub pool-after : (checked_of three done bytes).pool.count ≡ 0
  -- a bad one: its number is the next, and the rest stays
  pub bad-number : (checked_of three done []).verdict ≡ Err 4
  pub bad-not-counted : (checked_of three done []).steps ≡ 3
  pub bad-table : (checked_of three done []).table.m ≡ 0
  -- 12 after an end or beyond 1,000, and the checker stays as it is
  pub thousandth : is_open (Ok tt) 999 ≡ true
  pub beyond : is_open (Ok tt) 1000 ≡ false
  pub after-end : reply_number (handed_of ended (Take 0) []).reply ≡ 12
  pub after-end-verdict : (handed_of ended (Take 0) []).checker.verdict ≡ Err 4
  pub after-end-steps : (handed_of ended (Take 0) []).checker.steps ≡ 3
  pub going_on : reply_number (handed_of three (Take 0) []).reply ≡ 0
  -- the numbers
  pub looked-at-is-0 : reply_number LookedAt ≡ 0
  pub over-is-12 : reply_number Over ≡ 12

pub cases : Cases
unfolding fall_of left_cover_of right_cover_of covers_key has tally all_to size_of listed waits plan_lookup numbers_fit id_fits side_fits leaf_fits
    others_fit node_fits is_blank slot_fits word_fits flag_fits carried_fits owner_fits routing_fits failed_fits fields_fit message_fits farther_than
    hops_fit nearer rises_to abs_dist_of signed_of seen_from covers_of alike all_different first_from first_equal added removed_at sent_to best mailed
    plan_deliver plan_take carried_out settle is_sound step_of nodes_fit messages_fit pool_fits valid_of bytes_of number_of encode decode encode_all
    decode_all file_of header_fits offsets_fit statuses_fit file_table part_pool file_pool load_of loaded_of agrees_with verdict_from verdict_of begin_of
    checked_of handed_of
cases =
    record {
      good = refl;
      none = refl;
      no_start = refl;
      byte-changed = refl;
      refused = refl;
      singly = refl;
      same_bytes = refl;
      last_byte = refl;
      byte_more = refl;
      byte-less = refl;
      not_done = refl;
      begins = refl;
      begins-at-0 = refl;
      one_more_lem = refl;
      table-after = refl;
      pool-after = refl;
      bad-number = refl;
      bad-not-counted = refl;
      bad-table = refl;
      thousandth = refl;
      beyond = refl;
      after-end = refl;
      after-end-verdict = refl;
      after-end-steps = refl;
      going_on = refl;
      looked-at-is-0 = refl;
      over-is-12 = refl;
    }
