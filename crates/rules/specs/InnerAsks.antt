-- What the functions over ids ask of their callers; all of it follows from a valid table. Assumes nothing.
use Rattle.marks.specs.Marks.{Found}
use Rattle.std.specs.Prelude.{List, ℕ, suc, ◌^◌, ◌<◌, ◌≤◌, Some, None}
use Rattle.rules.specs.declared.Ring.{Ring}
use Rattle.rules.specs.Pick.{id_at}

-- M from 1 to 32: wider than 01 asks, since the arithmetic holds there too
pub record Width (m : ℕ) : Type 0 where
  pub low : 1 ≤ m
  pub high : m ≤ 32

-- two ids, or an id and a key, below 2^M
pub record Inside (m x y : ℕ) : Type 0 where
  pub width : Width m
  pub first : x < 2 ^ m
  pub second : y < 2 ^ m

-- a key and the ids of 64 slots, below 2^M
pub record Keyed (m k : ℕ) (ids : List ℕ) : Type 0 where
  pub width : Width m
  pub key_in : k < 2 ^ m
  pub ids-in : (s : ℕ) → s < 64 → id_at ids s < 2 ^ m

-- the numbers in range, the ids below 2^M, and rising by slot
pub record Listed (g : Ring) (ids : List ℕ) : Type 0 where
  pub width : Width g.m
  pub n-high : g.n ≤ 64
  pub ids-in : (s : ℕ) → s < 64 → id_at ids s < 2 ^ g.m
  pub rises : (s : ℕ) → suc s < g.n → id_at ids s < id_at ids (suc s)

-- what was found is a slot below n
abbrev pub Below : Found → ℕ → Type 0
Below (Some b) n = b < n
Below None n = Unit {0}
