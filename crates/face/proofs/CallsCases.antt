-- What a step says of its next hop once it is written, computed by the checker: the letter beside a file, and none beside a refused write. Assumes nothing.
use mathlib.Core.Path.{◌≡◌, refl}
use mathlib.Core.List.{[], ◌∷◌}
use Prim.Native.Nat.{ℕ}
use lib.ListN.{replicate}
use Rattle.marks.specs.Marks.{has, tally, all_to, size_of, listed}
use Rattle.std.specs.Prelude.{Result, Ok, Err}
use Rattle.rules.specs.declared.Refusal.TheVariants as no
use Rattle.rules.specs.declared.Status.TheVariants.{Ready}
use Rattle.rules.specs.declared.Refusal.{Refusal}
use Rattle.rules.specs.declared.Via.TheVariants.{Leaf}
use Rattle.rules.specs.Fits.{numbers_fit, id_fits, side_fits, leaf_fits, others_fit, node_fits, is_blank, slot_fits}
use Rattle.rules.specs.Mail.{all_different}
use Rattle.rules.specs.Nodes.{no_node}
use Rattle.rules.specs.Pool.{laid}
use Rattle.table_type.specs.declared.Table.{Table}
use Rattle.table.specs.Settle.{refused_of, done_by, done_of}
use Rattle.step.specs.Step.{is_sound, step_of}
use Rattle.table.specs.Valid.{nodes_fit, messages_fit, pool_fits, valid_of}
use Rattle.file.specs.Write.{wrote_of}
use Rattle.face.specs.declared.Moved.{Moved}
use Rattle.face.specs.Calls.{wrote_by, moved_by, next_of}
use Rattle.rules.specs.declared.Action.{Action}
use Rattle.rules.specs.declared.Pool.{Pool}

-- one ready node
abbrev alone : Table
alone =
    record {
      m = 2;
      l = 1;
      n = 1;
      nodes = record { id = 0; status = Ready; left = 0; right = 0; probing = 0; failed = 0; routing = 1; lease = 1; grant = 1 } ∷ replicate 63 no_node;
    }

-- a step that said `l`, by the length of the buffer
abbrev routed : ℕ → Result Moved Refusal
routed len = moved_by (done_by Leaf alone (laid [])) (replicate len 0)

pub record Moves : Type 0 where
  pub written : routed 96 ≡ Ok (record { count = 96; via = Leaf })
  -- the buffer is too small by one byte
  pub no_room_lem : routed 95 ≡ Err no.NoRoom
  pub refused : moved_by (refused_of alone (laid []) no.Status) (replicate 96 0) ≡ Err no.Status

pub moves : Moves
unfolding has tally all_to size_of listed numbers_fit id_fits side_fits leaf_fits others_fit node_fits is_blank slot_fits all_different is_sound nodes_fit messages_fit pool_fits
    valid_of wrote_of wrote_by moved_by
moves = record { written = refl; no_room_lem = refl; refused = refl }

-- a step of what was done before is the step of that table and those messages
pub next-steps : (t : Table) (p : Pool) (a : Action) → next_of (done_of t p) a ≡ step_of t p 256 a
unfolding next_of
next-steps t p a = refl
