-- What a caller gets of a start, computed by the checker: M and L in their places; and the numbers of the question whether a table is settled. Assumes nothing.
use Rattle.rules.specs.Shapes.{Answer}
use mathlib.Core.Path.{◌≡◌, refl}
use mathlib.Core.List.{[], ◌∷◌}
use Prim.Native.Nat.{ℕ}
use Rattle.rules.specs.declared.Refusal.TheVariants as no
use Rattle.rules.specs.Pool.{laid}
use Rattle.start.specs.Start.{start_fits}
use Rattle.table_type.specs.Start.{start_of, no_table}
use Rattle.std.specs.Prelude.{Bool, true, false, Ok, Err}
use Rattle.file.specs.Write.{said_number}
use Rattle.face.specs.Asked.{start_step}

-- a start of one node, by the places of the list, M and L
abbrev begun : ℕ → ℕ → ℕ → Answer
begun len m l = (start_step no_table (laid []) len m l (0 ∷ []) 1).answer

pub record Asks : Type 0 where
  -- L = 9 is out of range, as M = 33 is; exchanged, M = 9 and L = 2 would be in it
  pub limits : (begun 256 2 9 ≡ Err no.Header) × (begun 256 33 2 ≡ Err no.Header)
  -- the list's places come first
  pub places : begun 255 2 9 ≡ Err no.Invalid
  pub numbers : (said_number (Ok true) ≡ 0) × (said_number (Ok false) ≡ 0) × (said_number {A = Bool} (Err no.Invalid) ≡ 10)

pub asks : Asks
unfolding start_fits start_of start_step
asks = record { limits = (refl, refl); places = refl; numbers = (refl, refl, refl) }
