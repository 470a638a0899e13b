-- What the walk over a pool counts, place by place. Definitions only. Assumes nothing.
use Rattle.std.specs.Prelude.{cond, List, ℕ, ◌+◌, ltb, set}
use Rattle.counts.specs.Counts.{count_at}

-- as many as are counted, and all 256 places where more are
unfoldable pub waiting_in : ℕ → ℕ
waiting_in count = cond (ltb count 256) count 256

-- one more for slot i, if it is one of the 64
unfoldable pub one_more : List ℕ → ℕ → List ℕ
one_more c i = cond (ltb i 64) (set c i (count_at c i + 1)) c
