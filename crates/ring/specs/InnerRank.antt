-- A number that orders ids by nearness to a key: what the code compares. Definitions only. Assumes nothing.
use Rattle.std.specs.Prelude.{cond, ℕ, ◌+◌, ◌*◌}
use Rattle.ring.specs.Distance.{abs_dist_of, rises_to}

-- twice the distance, and one more where k is not reached from a by rising
unfoldable pub rank : ℕ → ℕ → ℕ → ℕ
rank N k a = 2 * abs_dist_of N k a + cond (rises_to N k a) 0 1
