-- The waiting messages computed by the checker: which are equal, which is the first equal, adding, removing, sending, and the places. Assumes nothing.
use Rattle.marks.specs.Marks.{Found}
use Rattle.std.specs.Prelude.{Some, None}
use mathlib.Core.Path.{◌≡◌, refl}
use mathlib.Core.Bool.{true, false}
use mathlib.Core.List.{[], ◌∷◌}
use Prim.Native.Nat.{ℕ}
use lib.ListN.{length, get_or}
use Rattle.rules.specs.declared.Status.TheVariants.{Ok}
use Rattle.rules.specs.declared.Message.{Message}
use Rattle.rules.specs.declared.Pool.{Pool}
use Rattle.rules.specs.declared.Plan.{Plan}
use Rattle.rules.specs.declared.Via.TheVariants.{Unrouted}
use Rattle.rules.specs.Nodes.{placed}
use Rattle.rules.specs.Letters.{no_sides, lookup, lookup_after, ls_probe, ls_probe_reply}
use Rattle.rules.specs.Pool.{blank, message_at, waiting, lay, laid}
use Rattle.rules.specs.Mail.{alike, all_different, first_equal, added, removed_at, sent}
use Rattle.rules.specs.Plans.{mailed}
use Rattle.rules.proofs.Small.{opened, node}

-- kind, destination, node or key, flag, owner, hops, routing, left, right, failed
abbrev message : ℕ → ℕ → ℕ → ℕ → ℕ → ℕ → ℕ → ℕ → ℕ → ℕ → Message
message kind dest word flag owner hops routing left right failed =
    record {
      kind = kind;
      dest = dest;
      word = word;
      flag = flag;
      owner = owner;
      hops = hops;
      routing = routing;
      left = left;
      right = right;
      failed = failed;
    }

abbrev plain : Message
plain = message 1 1 1 1 1 0 1 1 1 1

-- lookups of 70, 80 and 90 at slot 1
abbrev a : Message
a = placed (lookup 70) 1

abbrev b : Message
b = placed (lookup 80) 1

abbrev c : Message
c = placed (lookup 90) 1

-- the first of them after two forwardings
abbrev a2 : Message
a2 = placed (lookup_after 2 70) 1

-- a probe and a reply, for no slot yet
abbrev probe : Message
probe = ls_probe 0 no_sides 0

abbrev reply : Message
reply = ls_probe_reply 0 no_sides 0

abbrev plan : Found → ℕ → Plan
plan to all = record { node = node 10 Ok 0 0 0 0 0 0 0; first = reply; to = to; each = probe; all = all; via = Unrouted }

pub record Equals : Type 0 where
  pub same : alike plain plain ≡ true
  -- every field tells two messages apart
  pub kind : alike plain (message 2 1 1 1 1 0 1 1 1 1) ≡ false
  pub dest : alike plain (message 1 2 1 1 1 0 1 1 1 1) ≡ false
  pub word : alike plain (message 1 1 2 1 1 0 1 1 1 1) ≡ false
  pub flag : alike plain (message 1 1 1 0 1 0 1 1 1 1) ≡ false
  pub owner : alike plain (message 1 1 1 1 2 0 1 1 1 1) ≡ false
  pub routing : alike plain (message 1 1 1 1 1 0 3 1 1 1) ≡ false
  pub left : alike plain (message 1 1 1 1 1 0 1 3 1 1) ≡ false
  pub right : alike plain (message 1 1 1 1 1 0 1 1 3 1) ≡ false
  pub failed : alike plain (message 1 1 1 1 1 0 1 1 1 3) ≡ false
  -- T-07: equality of messages ignores the hop number
  pub hops : (alike plain (message 1 1 1 1 1 5 1 1 1 1) ≡ true) × (alike (message 1 1 1 1 1 5 1 1 1 1) plain ≡ true)

pub equals : Equals
unfolding opened
equals =
    record {
      same = refl;
      kind = refl;
      dest = refl;
      word = refl;
      flag = refl;
      owner = refl;
      routing = refl;
      left = refl;
      right = refl;
      failed = refl;
      hops = (refl, refl);
    }

pub record Waiting : Type 0 where
  -- no two messages are equal
  pub different : (all_different (a ∷ b ∷ c ∷ []) ≡ true) × (all_different (a ∷ b ∷ a ∷ []) ≡ false) × (all_different (a ∷ b ∷ b ∷ []) ≡ false)
  -- the first waiting message equal to it, in pool order
  pub first : (first_equal (a ∷ b ∷ b ∷ []) b ≡ Some 1) × (first_equal (a ∷ b ∷ a ∷ []) a ≡ Some 0) × (first_equal (a ∷ b ∷ []) c ≡ None)
  -- adds nothing if there is one, else goes to the end
  pub not-added : added (a ∷ b ∷ []) a ≡ a ∷ b ∷ []
  -- T-07: the earlier message with its own number stays, the smaller or the larger
  pub own-number : (added (a2 ∷ b ∷ []) a ≡ a2 ∷ b ∷ []) × (added (a ∷ b ∷ []) a2 ≡ a ∷ b ∷ []) × (all_different (a ∷ b ∷ a2 ∷ []) ≡ false)
  pub at-the-end : added (a ∷ b ∷ []) c ≡ a ∷ b ∷ c ∷ []
  -- removing closes the gap
  pub removed : (removed_at (a ∷ b ∷ c ∷ []) 0 ≡ b ∷ c ∷ []) × (removed_at (a ∷ b ∷ c ∷ []) 1 ≡ a ∷ c ∷ [])
      × (removed_at (a ∷ b ∷ c ∷ []) 2 ≡ a ∷ b ∷ [])
  -- several probes are sent in rising slot order, to slots 0 to 63, each only where no equal waits
  pub rising : sent probe 22 (a ∷ []) ≡ a ∷ placed probe 1 ∷ placed probe 2 ∷ placed probe 4 ∷ []
  pub to-the-ends : sent probe 9223372036854775809 [] ≡ placed probe 0 ∷ placed probe 63 ∷ []
  pub not-twice : sent probe 22 (placed probe 2 ∷ []) ≡ placed probe 2 ∷ placed probe 1 ∷ placed probe 4 ∷ []
  -- the one message before those to each slot
  pub first-then-each : mailed (plan (Some 5) 6) (a ∷ []) ≡ a ∷ placed reply 5 ∷ placed probe 1 ∷ placed probe 2 ∷ []
  pub each-alone : mailed (plan None 6) (a ∷ []) ≡ a ∷ placed probe 1 ∷ placed probe 2 ∷ []
  pub one-alone : mailed (plan (Some 0) 0) (a ∷ []) ≡ a ∷ placed reply 0 ∷ []

pub waiting-messages : Waiting
unfolding opened
waiting-messages =
    record {
      different = (refl, refl, refl);
      first = (refl, refl, refl);
      not-added = refl;
      own-number = (refl, refl, refl);
      at-the-end = refl;
      removed = (refl, refl, refl);
      rising = refl;
      to-the-ends = refl;
      not-twice = refl;
      first-then-each = refl;
      each-alone = refl;
      one-alone = refl;
    }

-- two places, of which one counts
abbrev two : Pool
two = record { count = 1; places = a ∷ b ∷ [] }

pub record Places : Type 0 where
  -- blank: all fields 0
  pub blanks : blank ≡ message 0 0 0 0 0 0 0 0 0 0
  -- places past the count are no part of the table
  pub counted : (waiting two ≡ a ∷ []) × (message_at two 0 ≡ a)
  -- exactly 256 places, blank past the count
  pub laid_out_lem : ((laid (a ∷ b ∷ [])).count ≡ 2) × (length (lay (a ∷ b ∷ [])) ≡ 256) × (message_at (laid (a ∷ b ∷ [])) 1 ≡ b)
      × (message_at (laid (a ∷ b ∷ [])) 2 ≡ blank) × (get_or (lay (a ∷ b ∷ [])) 255 a ≡ blank)

pub places : Places
places = record { blanks = refl; counted = (refl, refl); laid_out_lem = (refl, refl, refl, refl, refl) }
