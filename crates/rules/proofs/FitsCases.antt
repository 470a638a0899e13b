-- Validity of numbers, of one slot and of one message, computed by the checker: each rule at its limit and beyond. Assumes nothing.
use mathlib.Core.Path.{◌≡◌, refl}
use mathlib.Core.Bool.{Bool, true, false, ◌&&◌}
use mathlib.Core.List.{List, [], ◌∷◌}
use Prim.Native.Nat.{ℕ}
use Rattle.rules.specs.declared.Ring.{Ring}
use Rattle.rules.specs.declared.Status.TheVariants.{Dead, Wait, Ok, Ready}
use Rattle.rules.specs.declared.Message.{Message}
use Rattle.rules.specs.Nodes.{no_node}
use Rattle.rules.specs.Fits.{numbers_fit, id_fits, node_fits, is_blank, slot_fits, message_fits, farther_than, hops_fit}
use Rattle.rules.proofs.Small.{opened, four, ids, six, node}

abbrev ring : ℕ → ℕ → ℕ → Ring
ring m l n = record { m = m; l = l; n = n }

-- M from 2 to 32, L from 1 to 8, n from 1 to 64 nodes
pub record Ranges : Type 0 where
  pub least : numbers_fit (ring 2 1 1) ≡ true
  pub greatest : numbers_fit (ring 32 8 64) ≡ true
  pub m : (numbers_fit (ring 1 1 1) ≡ false) × (numbers_fit (ring 33 8 64) ≡ false)
  pub l : (numbers_fit (ring 2 0 1) ≡ false) × (numbers_fit (ring 32 9 64) ≡ false)
  pub n : (numbers_fit (ring 2 1 0) ≡ false) × (numbers_fit (ring 32 8 65) ≡ false)

pub ranges : Ranges
unfolding opened
ranges = record { least = refl; greatest = refl; m = (refl, refl); l = (refl, refl); n = (refl, refl) }

-- ids are below 2^M and strictly rising by slot
pub record Ids : Type 0 where
  pub below : (id_fits four (255 ∷ []) 0 ≡ true) × (id_fits four (256 ∷ []) 0 ≡ false)
  pub rising : (id_fits four (17 ∷ 18 ∷ []) 1 ≡ true) × (id_fits four (17 ∷ 17 ∷ []) 1 ≡ false) × (id_fits four (18 ∷ 17 ∷ []) 1 ≡ false)
  pub first : id_fits four (0 ∷ []) 0 ≡ true

pub ids-fit : Ids
unfolding opened
ids-fit = record { below = (refl, refl); rising = (refl, refl, refl); first = refl }

-- slot 1 of six, L = 2, by left, right, probing, failed, routing set, lease, grant
abbrev fits : ℕ → ℕ → ℕ → ℕ → ℕ → ℕ → ℕ → Bool
fits left right probing failed routing lease grant = node_fits (six 2) 1 (node 40 Ok left right probing failed routing lease grant)

pub record Nodes : Type 0 where
  pub most : fits 12 48 61 61 63 63 63 ≡ true
  pub none : fits 0 0 0 0 0 0 0 ≡ true
  -- each side has at most L marks, both together may have more
  pub sides : (fits 28 0 0 0 0 0 0 ≡ false) × (fits 0 28 0 0 0 0 0 ≡ false)
  -- no node is in its own left, right, probing or failed
  pub own : (fits 2 0 0 0 0 0 0 ≡ false) × (fits 0 2 0 0 0 0 0 ≡ false) × (fits 0 0 2 0 0 0 0 ≡ false) × (fits 0 0 0 2 0 0 0 ≡ false)
  -- it may be in its own routing set, lease and grant
  pub own-allowed : fits 0 0 0 0 2 2 2 ≡ true
  -- no mark is at n or above
  pub marks : (fits 64 0 0 0 0 0 0 ≡ false) × (fits 0 64 0 0 0 0 0 ≡ false) × (fits 0 0 64 0 0 0 0 ≡ false) × (fits 0 0 0 64 0 0 0 ≡ false)
      × (fits 0 0 0 0 64 0 0 ≡ false) × (fits 0 0 0 0 0 64 0 ≡ false) × (fits 0 0 0 0 0 0 64 ≡ false)
  pub last-mark : fits 0 0 0 0 0 0 9223372036854775808 ≡ false

pub nodes-fit : Nodes
unfolding opened
nodes-fit =
    record {
      most = refl;
      none = refl;
      sides = (refl, refl);
      own = (refl, refl, refl, refl);
      own-allowed = refl;
      marks = (refl, refl, refl, refl, refl, refl, refl);
      last-mark = refl;
    }

-- a slot that is not listed: all fields 0
pub record Slots : Type 0 where
  pub blank : is_blank no_node ≡ true
  pub not-blank : (is_blank (node 1 Dead 0 0 0 0 0 0 0) ≡ false) × (is_blank (node 0 Wait 0 0 0 0 0 0 0) ≡ false)
      × (is_blank (node 0 Dead 1 0 0 0 0 0 0) ≡ false) × (is_blank (node 0 Dead 0 1 0 0 0 0 0) ≡ false)
      × (is_blank (node 0 Dead 0 0 1 0 0 0 0) ≡ false) × (is_blank (node 0 Dead 0 0 0 1 0 0 0) ≡ false)
      × (is_blank (node 0 Dead 0 0 0 0 1 0 0) ≡ false) × (is_blank (node 0 Dead 0 0 0 0 0 1 0) ≡ false)
      × (is_blank (node 0 Dead 0 0 0 0 0 0 1) ≡ false)
  -- slots 0 to n - 1 are listed: slot 3 of four is, slot 4 is not
  pub listed : (slot_fits four ids 3 (node 95 Ready 1 4 0 0 15 15 15) ≡ true) × (slot_fits four ids 4 no_node ≡ true)
      × (slot_fits four ids 4 (node 0 Ok 0 0 0 0 0 0 0) ≡ false)
  -- both the id and the node are judged
  pub judged : (slot_fits four (17 ∷ 17 ∷ []) 1 (node 17 Ready 0 0 0 0 0 0 0) ≡ false)
      × (slot_fits four ids 3 (node 95 Ready 8 4 0 0 15 15 15) ≡ false)

pub slots-fit : Slots
unfolding opened
slots-fit =
    record {
      blank = refl;
      not-blank = (refl, refl, refl, refl, refl, refl, refl, refl, refl);
      listed = (refl, refl, refl);
      judged = (refl, refl);
    }

-- ---- messages of four nodes, M = 8, L = 1: kind, destination, node or key, flag, owner, hops, routing, left, right, failed

abbrev message : ℕ → ℕ → ℕ → ℕ → ℕ → ℕ → ℕ → ℕ → ℕ → ℕ → Message
message kind dest word flag owner hops routing left right failed =
    record {
      kind = kind;
      dest = dest;
      word = word;
      flag = flag;
      owner = owner;
      hops = hops;
      routing = routing;
      left = left;
      right = right;
      failed = failed;
    }

abbrev judged : Message → Bool
judged m = message_fits four m && hops_fit four ids m

abbrev obeys : ℕ → ℕ → ℕ → ℕ → ℕ → ℕ → ℕ → ℕ → ℕ → ℕ → Bool
obeys kind dest word flag owner hops routing left right failed = judged (message kind dest word flag owner hops routing left right failed)

-- whether a message of a kind may have, alone of its fields: none, node or key 1, flag 1, owner 1, hops 1, and the sets routing {1}, left {1},
-- right {1}, failed {1}
abbrev may : ℕ → List Bool
may kind =
    obeys kind 1 0 0 0 0 0 0 0 0
    ∷ obeys kind 1 1 0 0 0 0 0 0 0
    ∷ obeys kind 1 0 1 0 0 0 0 0 0
    ∷ obeys kind 1 0 0 1 0 0 0 0 0
    ∷ obeys kind 1 0 0 0 1 0 0 0 0
    ∷ obeys kind 1 0 0 0 0 2 0 0 0
    ∷ obeys kind 1 0 0 0 0 0 2 0 0
    ∷ obeys kind 1 0 0 0 0 0 0 2 0
    ∷ obeys kind 1 0 0 0 0 0 0 0 2
    ∷ []

abbrev yes : Bool
yes = true

abbrev not : Bool
not = false

pub record Kinds : Type 0 where
  pub zero : may 0 ≡ not ∷ not ∷ not ∷ not ∷ not ∷ not ∷ not ∷ not ∷ not ∷ []
  -- 1 Lookup (key), and hops (T-07)
  pub one : may 1 ≡ yes ∷ yes ∷ not ∷ not ∷ yes ∷ not ∷ not ∷ not ∷ not ∷ []
  -- 2 JoinRequest (node, routing set)
  pub two : may 2 ≡ yes ∷ yes ∷ not ∷ not ∷ not ∷ yes ∷ not ∷ not ∷ not ∷ []
  -- 3 JoinReply (routing set, leaf set with owner)
  pub three : may 3 ≡ yes ∷ not ∷ not ∷ yes ∷ not ∷ yes ∷ yes ∷ yes ∷ not ∷ []
  -- 4 LSProbe and 5 LSProbeReply (node, leaf set whose owner is that node, failed): neither node nor owner alone
  pub four : may 4 ≡ yes ∷ not ∷ not ∷ not ∷ not ∷ not ∷ yes ∷ yes ∷ yes ∷ []
  pub five : may 5 ≡ yes ∷ not ∷ not ∷ not ∷ not ∷ not ∷ yes ∷ yes ∷ yes ∷ []
  pub node-and-owner : (obeys 4 0 1 0 1 0 0 0 0 0 ≡ true) × (obeys 5 0 1 0 1 0 0 0 0 0 ≡ true) × (obeys 4 0 1 0 2 0 0 0 0 0 ≡ false)
  -- 6 NoLegalRoute (key)
  pub six : may 6 ≡ yes ∷ yes ∷ not ∷ not ∷ not ∷ not ∷ not ∷ not ∷ not ∷ []
  -- 7 LeaseRequest (node)
  pub seven : may 7 ≡ yes ∷ yes ∷ not ∷ not ∷ not ∷ not ∷ not ∷ not ∷ not ∷ []
  -- 8 BroadcastLSet (leaf set with owner, grant flag)
  pub eight : may 8 ≡ yes ∷ not ∷ yes ∷ yes ∷ not ∷ not ∷ yes ∷ yes ∷ not ∷ []
  pub nine : may 9 ≡ not ∷ not ∷ not ∷ not ∷ not ∷ not ∷ not ∷ not ∷ not ∷ []

pub kinds : Kinds
unfolding opened
kinds =
    record {
      zero = refl;
      one = refl;
      two = refl;
      three = refl;
      four = refl;
      five = refl;
      node-and-owner = (refl, refl, refl);
      six = refl;
      seven = refl;
      eight = refl;
      nine = refl;
    }

pub record Fields : Type 0 where
  -- a destination slot
  pub destination : (obeys 1 3 0 0 0 0 0 0 0 0 ≡ true) × (obeys 1 4 0 0 0 0 0 0 0 0 ≡ false)
  -- a key is any number below 2^M
  pub key : (obeys 1 0 255 0 0 0 0 0 0 0 ≡ true) × (obeys 1 0 256 0 0 0 0 0 0 0 ≡ false) × (obeys 6 0 255 0 0 0 0 0 0 0 ≡ true)
      × (obeys 6 0 256 0 0 0 0 0 0 0 ≡ false)
  -- a node is a slot
  pub node-word : (obeys 2 0 3 0 0 0 0 0 0 0 ≡ true) × (obeys 2 0 4 0 0 0 0 0 0 0 ≡ false) × (obeys 7 0 3 0 0 0 0 0 0 0 ≡ true)
      × (obeys 7 0 4 0 0 0 0 0 0 0 ≡ false) × (obeys 4 0 4 0 4 0 0 0 0 0 ≡ false)
  pub owner : (obeys 3 0 0 0 3 0 0 0 0 0 ≡ true) × (obeys 3 0 0 0 4 0 0 0 0 0 ≡ false) × (obeys 8 0 0 0 4 0 0 0 0 0 ≡ false)
  -- a flag 0 or 1
  pub flag : obeys 8 0 0 2 0 0 0 0 0 0 ≡ false
  -- a carried leaf set obeys the node rules for its owner: at most L to a side, without its owner, no mark at n or above
  pub carried : (obeys 8 0 0 0 1 0 0 5 0 0 ≡ false) × (obeys 8 0 0 0 1 0 0 0 5 0 ≡ false) × (obeys 8 0 0 0 1 0 0 2 0 0 ≡ false)
      × (obeys 8 0 0 0 1 0 0 0 2 0 ≡ false) × (obeys 8 0 0 0 1 0 0 16 0 0 ≡ false) × (obeys 8 0 0 0 1 0 0 0 16 0 ≡ false)
      × (obeys 8 0 0 0 1 0 0 1 1 0 ≡ true)
  -- of the destination too
  pub carried-destination : obeys 3 1 0 0 0 0 0 2 8 0 ≡ true
  -- carried routing and failed sets may mark any listed node, the sender too
  pub sets : (obeys 2 0 1 0 0 0 15 0 0 0 ≡ true) × (obeys 2 0 1 0 0 0 16 0 0 0 ≡ false) × (obeys 4 0 1 0 1 0 0 0 0 15 ≡ true)
      × (obeys 4 0 1 0 1 0 0 0 0 16 ≡ false) × (obeys 3 0 0 0 0 0 16 0 0 0 ≡ false)
  -- to the sender itself
  pub to-itself : obeys 7 2 2 0 0 0 0 0 0 0 ≡ true

pub fields : Fields
unfolding opened
fields =
    record {
      destination = (refl, refl);
      key = (refl, refl, refl, refl);
      node-word = (refl, refl, refl, refl, refl);
      owner = (refl, refl, refl);
      flag = refl;
      carried = (refl, refl, refl, refl, refl, refl, refl);
      carried-destination = refl;
      sets = (refl, refl, refl, refl, refl);
      to-itself = refl;
    }

-- ---- T-07. A Lookup's hops are at most the number of listed nodes farther from its key than its destination (farther by 01's order); always 0 for
-- kinds other than Lookup. The ids are 17, 18, 65 and 95.

abbrev far : ℕ → List ℕ
far k = farther_than four ids k 0 ∷ farther_than four ids k 1 ∷ farther_than four ids k 2 ∷ farther_than four ids k 3 ∷ []

-- a Lookup of k at a slot, by its hops
abbrev travelled : ℕ → ℕ → ℕ → Bool
travelled k dest hops = obeys 1 dest k 0 0 hops 0 0 0 0

pub record Hops : Type 0 where
  -- from key 18, and from key 200, which is reached from 17 by falling through 0
  pub farther : (far 18 ≡ 2 ∷ 3 ∷ 1 ∷ 0 ∷ []) × (far 200 ≡ 3 ∷ 2 ∷ 0 ∷ 1 ∷ [])
  -- from key 80: 65 and 95 are at equal distance, and the one below it is the nearer
  pub tie : far 80 ≡ 0 ∷ 1 ∷ 3 ∷ 2 ∷ []
  -- the bound exactly met, and one more
  pub met : (travelled 80 2 3 ≡ true) × (travelled 80 3 2 ≡ true) × (travelled 80 0 0 ≡ true) × (travelled 18 3 0 ≡ true)
  pub one_more_lem : (travelled 80 2 4 ≡ false) × (travelled 80 3 3 ≡ false) × (travelled 80 0 1 ≡ false) × (travelled 18 3 1 ≡ false)
  -- 0 for every other kind, though nodes are farther
  pub others : (obeys 2 1 3 0 0 1 0 0 0 0 ≡ false) × (obeys 3 1 0 0 0 1 0 0 0 0 ≡ false) × (obeys 4 1 3 0 3 1 0 0 0 0 ≡ false)
      × (obeys 5 1 3 0 3 1 0 0 0 0 ≡ false) × (obeys 6 1 18 0 0 1 0 0 0 0 ≡ false) × (obeys 7 1 3 0 0 1 0 0 0 0 ≡ false)
      × (obeys 8 1 0 1 3 1 0 0 0 0 ≡ false)

pub hops : Hops
unfolding opened
hops =
    record {
      farther = (refl, refl);
      tie = refl;
      met = (refl, refl, refl, refl);
      one_more_lem = (refl, refl, refl, refl);
      others = (refl, refl, refl, refl, refl, refl, refl);
    }
