-- Settled, computed by the checker on 01's worked ids, with one table for each of its parts. Assumes nothing.
use mathlib.Core.Path.{◌≡◌, refl}
use mathlib.Core.Bool.{Bool, true, false}
use mathlib.Core.List.{[], ◌∷◌}
use Prim.Native.Nat.{ℕ}
use Rattle.ring.specs.Distance.{fall_of}
use Rattle.marks.specs.Marks.{has, gather, all_to, meet, remove_of}
use Rattle.rules.specs.declared.Status.{Status}
use Rattle.rules.specs.declared.Status.TheVariants.{Dead, Wait, Ok, Ready}
use Rattle.rules.specs.declared.Node.{Node}
use Rattle.rules.specs.Pick.{best}
use Rattle.rules.specs.Leaf.{seen_from}
use Rattle.table_type.specs.declared.Table.{Table}
use Rattle.table.specs.Settled.{ready_set, dead_set, settled_at, is_settled, ok_set, some_up}

-- a node by id, status, left, right and failed
abbrev node : ℕ → Status → ℕ → ℕ → ℕ → Node
node id s left right failed =
    record { id = id; status = s; left = left; right = right; probing = 0; failed = failed; routing = 0; lease = 0; grant = 0 }

-- ids 17, 18, 65, 95
abbrev table : Node → Node → Node → Node → Table
table a b c d = record { m = 8; l = 1; n = 4; nodes = a ∷ b ∷ c ∷ d ∷ [] }

abbrev settled : Node → Node → Node → Node → Bool
settled a b c d = is_settled (table a b c d)

-- the four as started ready
abbrev a : Node
a = node 17 Ready 2 8 0

abbrev b : Node
b = node 18 Ready 4 1 0

abbrev c : Node
c = node 65 Ready 8 2 0

abbrev d : Node
d = node 95 Ready 1 4 0

-- 17 and 65 ready, the others dead
abbrev a2 : Node
a2 = node 17 Ready 4 4 0

abbrev c2 : Node
c2 = node 65 Ready 1 1 0

-- a dead node, whatever it holds
abbrev dead : ℕ → Node
dead id = node id Dead 8 2 5

pub record SettledCases : Type 0 where
  pub sets : (ready_set (table (dead 17) (node 18 Wait 0 0 0) (node 65 Ok 0 0 0) d) ≡ 8)
      × (dead_set (table (dead 17) (node 18 Wait 0 0 0) (node 65 Ok 0 0 0) d) ≡ 1)
  -- a node at all is ok or ready
  pub some_up_lem : (some_up (table (dead 17) (node 18 Wait 0 0 0) (node 65 Ok 0 0 0) (dead 95)) ≡ true) × (some_up (table (dead 17) (dead 18) (dead 65) d) ≡ true)
      × (some_up (table (dead 17) (node 18 Wait 0 0 0) (dead 65) (dead 95)) ≡ false)
  pub all-ready : settled a b c d ≡ true
  -- the next ready ids, though others stand between
  pub two_ready : settled a2 (dead 18) c2 (dead 95) ≡ true
  pub a-dead-neighbour : settled (node 17 Ready 2 8 0) (dead 18) c2 (dead 95) ≡ false
  -- itself if alone
  pub alone : settled (dead 17) (dead 18) (node 65 Ready 0 0 0) (dead 95) ≡ true
  pub not-alone : settled (dead 17) (dead 18) (node 65 Ready 8 8 0) (dead 95) ≡ false
  -- at least one ready node
  pub none-ready : settled (dead 17) (dead 18) (dead 65) (dead 95) ≡ false
  -- none wait or ok
  pub one-waits : settled a2 (node 18 Wait 0 0 0) c2 (dead 95) ≡ false
  pub one-is-ok : settled a2 (dead 18) c2 (node 95 Ok 0 0 0) ≡ false
  pub first-waits : settled (node 17 Wait 0 0 0) (dead 18) (node 65 Ready 0 0 0) (dead 95) ≡ false
  pub last-waits : settled a2 (dead 18) c2 (node 95 Wait 0 0 0) ≡ false
  -- both neighbours of each ready node
  pub left-wrong : settled (node 17 Ready 4 8 0) b c d ≡ false
  pub right-wrong : settled (node 17 Ready 2 4 0) b c d ≡ false
  pub left-missing : settled a b c (node 95 Ready 0 4 0) ≡ false
  pub right-missing : settled a b c (node 95 Ready 1 0 0) ≡ false
  -- no ready node is in a ready node's failed; dead ones may be
  pub failed-ready : settled a b (node 65 Ready 8 2 1) d ≡ false
  pub failed-dead : settled (node 17 Ready 4 4 10) (dead 18) c2 (dead 95) ≡ true

pub settled-cases : SettledCases
unfolding fall_of has gather all_to meet remove_of best seen_from ready_set dead_set ok_set settled_at is_settled
settled-cases =
    record {
      sets = (refl, refl);
      some_up_lem = (refl, refl, refl);
      all-ready = refl;
      two_ready = refl;
      a-dead-neighbour = refl;
      alone = refl;
      not-alone = refl;
      none-ready = refl;
      one-waits = refl;
      one-is-ok = refl;
      first-waits = refl;
      last-waits = refl;
      left-wrong = refl;
      right-wrong = refl;
      left-missing = refl;
      right-missing = refl;
      failed-ready = refl;
      failed-dead = refl;
    }
