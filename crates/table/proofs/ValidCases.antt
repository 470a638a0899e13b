-- Valid tables, and what a plan that is carried out leaves, computed by the checker: one table for each part of the test, and the pool at 256 and 257.
-- Assumes nothing.
use Rattle.std.specs.Prelude.{Some, Ok, Err}
use mathlib.Core.Path.{◌≡◌, refl}
use mathlib.Core.Bool.{true, false}
use mathlib.Core.List.{List, [], ◌∷◌, ◌++◌}
use Prim.Native.Nat.{ℕ}
use lib.ListN.{length, replicate}
use Rattle.ring.specs.Distance.{fall_of, signed_of, abs_dist_of, rises_to, nearer}
use Rattle.marks.specs.Marks.{has, tally, all_to, size_of, listed}
use Rattle.rules.specs.declared.Status.{Status}
use Rattle.rules.specs.declared.Status.TheVariants as is
use Rattle.rules.specs.declared.Ring.{Ring}
use Rattle.rules.specs.declared.Node.{Node}
use Rattle.rules.specs.declared.Via.TheVariants.{Leaf}
use Rattle.rules.specs.declared.Message.{Message}
use Rattle.rules.specs.declared.Pool.{Pool}
use Rattle.rules.specs.declared.Plan.{Plan}
use Rattle.rules.specs.declared.Refusal.{Refusal}
use Rattle.rules.specs.declared.Refusal.TheVariants as no
use Rattle.rules.specs.Letters.{lookup, lookup_after}
use Rattle.rules.specs.Mail.{alike, all_different, first_from, first_equal, added, sent_to}
use Rattle.rules.specs.Nodes.{no_node, placed}
use Rattle.rules.specs.Pool.{blank, waiting, laid}
use Rattle.rules.specs.Fits.{numbers_fit, id_fits, side_fits, leaf_fits, others_fit, node_fits, is_blank, slot_fits}
use Rattle.rules.specs.Fits.{word_fits, flag_fits, carried_fits, owner_fits, routing_fits, failed_fits, fields_fit, message_fits, farther_than, hops_fit}
use Rattle.rules.specs.Plans.{mailed}
use Rattle.table_type.specs.declared.Table.{Table}
use Rattle.table_type.specs.Table.{with_node}
use Rattle.table.specs.Valid.{nodes_fit, messages_fit, pool_fits, valid_of}
use Rattle.table.specs.Settle.{refused_of, done_by, carried_out, settle}

-- ---- tables

-- a node by id, status, left and right
abbrev node : ℕ → Status → ℕ → ℕ → Node
node id s left right = record { id = id; status = s; left = left; right = right; probing = 0; failed = 0; routing = 0; lease = 0; grant = 0 }

-- M, and the nodes of slots 0 to 63: two listed ones, and the rest
abbrev table : ℕ → Node → Node → List Node → Table
table m a b rest = record { m = m; l = 1; n = 2; nodes = a ∷ b ∷ rest }

abbrev a : Node
a = node 17 is.Ready 2 2

abbrev b : Node
b = node 18 is.Ready 1 1

abbrev blanks : List Node
blanks = replicate 62 no_node

abbrev k : ℕ → Message
k key = placed (lookup key) 1

-- after one forwarding
abbrev k1 : ℕ → Message
k1 key = placed (lookup_after 1 key) 1

pub record ValidCases : Type 0 where
  pub valid : valid_of (table 8 a b blanks) (laid (k 80 ∷ k 90 ∷ [])) ≡ true
  -- all numbers are in range
  pub wide : valid_of (table 33 a b blanks) (laid []) ≡ false
  -- each slot: a listed one, the last listed one, one that is not listed, the last one
  pub first_slot : valid_of (table 8 (node 17 is.Ready 1 2) b blanks) (laid []) ≡ false
  pub second-slot : valid_of (table 8 a (node 17 is.Ready 1 1) blanks) (laid []) ≡ false
  pub third-slot : valid_of (table 8 a b (node 65 is.Dead 0 0 ∷ replicate 61 no_node)) (laid []) ≡ false
  pub last-slot : valid_of (table 8 a b (replicate 61 no_node ++ (node 65 is.Dead 0 0 ∷ []))) (laid []) ≡ false
  -- each message obeys its kind: the first, the last
  pub first-message : valid_of (table 8 a b blanks) (laid (k 256 ∷ k 90 ∷ [])) ≡ false
  pub last-message : valid_of (table 8 a b blanks) (laid (k 80 ∷ k 256 ∷ [])) ≡ false
  -- places past the count are not looked at
  pub past-the-count : valid_of (table 8 a b blanks) (record { count = 1; places = k 80 ∷ k 256 ∷ k1 10 ∷ k 80 ∷ [] }) ≡ true
  -- no two messages are equal
  pub equal : valid_of (table 8 a b blanks) (laid (k 80 ∷ k 90 ∷ k 80 ∷ [])) ≡ false
  -- T-07: of the two ids, 17 is farther from 80 than 18; and from 10 none is. The ids are the table's own
  pub hops-met : valid_of (table 8 a b blanks) (laid (k 90 ∷ k1 80 ∷ [])) ≡ true
  pub hops-past : valid_of (table 8 a b blanks) (laid (k 90 ∷ k1 10 ∷ [])) ≡ false
  -- every listed node counts, the dead too
  pub hops-of-the-dead : valid_of (table 8 (node 17 is.Dead 0 0) b blanks) (laid (k1 80 ∷ [])) ≡ true
  pub equal-but-for-hops : valid_of (table 8 a b blanks) (laid (k 80 ∷ k 90 ∷ k1 80 ∷ [])) ≡ false

pub valid-cases : ValidCases
unfolding valid_of numbers_fit nodes_fit slot_fits id_fits node_fits leaf_fits side_fits others_fit is_blank listed size_of tally has all_to pool_fits
    messages_fit message_fits fields_fit word_fits flag_fits carried_fits owner_fits routing_fits failed_fits farther_than hops_fit nearer rises_to abs_dist_of
    signed_of fall_of all_different alike
valid-cases =
    record {
      valid = refl;
      wide = refl;
      first_slot = refl;
      second-slot = refl;
      third-slot = refl;
      last-slot = refl;
      first-message = refl;
      last-message = refl;
      past-the-count = refl;
      equal = refl;
      hops-met = refl;
      hops-past = refl;
      hops-of-the-dead = refl;
      equal-but-for-hops = refl;
    }

-- ---- at most 256 messages

-- a pool of so many messages
abbrev counted : ℕ → List Message → Pool
counted n places = record { count = n; places = places }

pub at-256 : (g : Ring) (ids : List ℕ) (xs : List Message) → messages_fit g ids (counted 256 xs) ≡ true → all_different (waiting (counted 256 xs)) ≡ true
    → pool_fits g ids (counted 256 xs) ≡ true
unfolding pool_fits
at-256 g ids xs m d = rw (m, d)

pub at-257 : (g : Ring) (ids : List ℕ) (xs : List Message) → pool_fits g ids (counted 257 xs) ≡ false
unfolding pool_fits
at-257 g ids xs = refl

-- ---- what an action leaves

module _ (t : Table) (p : Pool) (ys : List Message) (i : ℕ) where
  -- refused: the table and the pool as they were
  pub refused : (why : Refusal) → settle t p ys i (Err why) ≡ refused_of t p why
  unfolding settle
  refused why = refl

  -- all 256 places, those past the count too
  pub kept : (why : Refusal) → ((settle t p ys i (Err why)).table ≡ t) × ((settle t p ys i (Err why)).pool ≡ p)
  unfolding settle
  kept why = (refl, refl)

  -- 6 if the pool after the step would exceed 256
  pub full : (x : Plan) → length (mailed x ys) ≡ 257 → settle t p ys i (Ok x) ≡ refused_of t p no.Full
  unfolding settle carried_out
  full x e = rw e

  pub not_full : (x : Plan) → length (mailed x ys) ≡ 256 → settle t p ys i (Ok x) ≡ done_by x.via (with_node t i x.node) (laid (mailed x ys))
  unfolding settle carried_out
  not_full x e = rw e

-- a lookup of 90 is sent to slot 0, and the node of slot 1 becomes ok: that node alone is another, the pool is what waited and the new message,
-- the pool before is no part of it, and the answer says what the plan says of the hop
pub done : settle (table 8 a b []) (laid (k 70 ∷ [])) (k 80 ∷ []) 1
    (Ok (record { node = node 18 is.Ok 1 1; first = lookup 90; to = Some 0; each = blank; all = 0; via = Leaf }))
    ≡ done_by Leaf (table 8 a (node 18 is.Ok 1 1) []) (laid (k 80 ∷ placed (lookup 90) 0 ∷ []))
unfolding settle carried_out mailed sent_to added first_equal first_from alike all_to has
done = refl
