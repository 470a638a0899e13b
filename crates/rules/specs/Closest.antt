-- The at most l nearest of some slots by a distance. Definition only; its laws are in crate rules. Assumes nothing.
use Rattle.std.specs.Prelude.{Bool, ◌&&◌, ℕ, ltb}
use Rattle.marks.specs.Marks.{gather, tally}
use Rattle.rules.specs.Names.{Slot, Marks}

-- how many of the slots below n that pass are nearer than s
abbrev pub nearer_than : (Slot → ℕ) → ℕ → (Slot → Bool) → Slot → ℕ
nearer_than f n ok s = tally n (λ t. ok t && ltb (f t) (f s))

-- the at most l nearest of the slots below n that pass: those than which fewer than l are nearer (at most l where the distances differ, as Falls of
-- distinct ids do)
unfoldable pub closest : (Slot → ℕ) → ℕ → ℕ → (Slot → Bool) → Marks
closest f n l ok = gather n (λ s. ok s && ltb (nearer_than f n ok s) l)
