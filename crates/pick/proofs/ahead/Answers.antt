-- `pick::ahead` meets its contract: each way compares the two numbers that its definition compares. Assumes nothing.
use mathlib.Core.List.{List}
use Prim.Native.Nat.{ℕ, ◌<◌}
use Rattle.rules.specs.InnerAsks.{Keyed, Inside}
use Rattle.rules.specs.Pick.{id_at}
use Rattle.pick.proofs.ahead.Goals as goal

from-id : (m k : ℕ) (ids : List ℕ) (s : ℕ) → Keyed m k ids → s < 64 → Inside m (id_at ids s) k
from-id m k ids s h l = record { width = h.width; first = h.ids-in s l; second = h.key_in }

from_key : (m k : ℕ) (ids : List ℕ) (s : ℕ) → Keyed m k ids → s < 64 → Inside m k (id_at ids s)
from_key m k ids s h l = record { width = h.width; first = h.key_in; second = h.ids-in s l }

pub nearer-requires : goal.nearer-requires
nearer-requires c = (from_key _ _ _ _ c.requires.0 c.requires.1, from_key _ _ _ _ c.requires.0 c.requires.2)

pub fall-requires : goal.fall-requires
fall-requires c = from-id _ _ _ _ c.requires.0 c.requires.1

pub fall-requires-in-Up : goal.fall-requires-in-Up
fall-requires-in-Up c = from-id _ _ _ _ c.requires.0 c.requires.2

pub fall-requires-in-Down : goal.fall-requires-in-Down
fall-requires-in-Down c = from_key _ _ _ _ c.requires.0 c.requires.1

pub fall-requires-in-Down-2 : goal.fall-requires-in-Down-2
fall-requires-in-Down-2 c = from_key _ _ _ _ c.requires.0 c.requires.2

pub fall-requires-in-FarUp : goal.fall-requires-in-FarUp
fall-requires-in-FarUp c = from-id _ _ _ _ c.requires.0 c.requires.2

pub fall-requires-in-FarUp-2 : goal.fall-requires-in-FarUp-2
fall-requires-in-FarUp-2 c = from-id _ _ _ _ c.requires.0 c.requires.1

pub fall-requires-in-FarDown : goal.fall-requires-in-FarDown
fall-requires-in-FarDown c = from_key _ _ _ _ c.requires.0 c.requires.2

pub fall-requires-in-FarDown-2 : goal.fall-requires-in-FarDown-2
fall-requires-in-FarDown-2 c = from_key _ _ _ _ c.requires.0 c.requires.1

pub returns-in-Near : goal.returns-in-Near
returns-in-Near c = rw c.in-Near.is c.nearer.ensures

pub returns-in-Up : goal.returns-in-Up
returns-in-Up c = rw (c.in-Up.is, c.fall-in-Up.ensures, c.fall.ensures)

pub returns-in-Down : goal.returns-in-Down
returns-in-Down c = rw (c.in-Down.is, c.fall-in-Down-2.ensures, c.fall-in-Down.ensures)

pub returns-in-FarUp : goal.returns-in-FarUp
returns-in-FarUp c = rw (c.in-FarUp.is, c.fall-in-FarUp-2.ensures, c.fall-in-FarUp.ensures)

pub returns-in-FarDown : goal.returns-in-FarDown
returns-in-FarDown c = rw (c.in-FarDown.is, c.fall-in-FarDown-2.ensures, c.fall-in-FarDown.ensures)
