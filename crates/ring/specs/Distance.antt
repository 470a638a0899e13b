-- The ring of 01: Fall, signed distance, AbsDist, nearer to a key, covers. These are the definitions that a reader must believe, each under 01's sentence;
-- N is the number of ids, 2^M. Their laws stand in the other files. Assumes nothing.
use Rattle.std.specs.Prelude.{Bool, cond, ◌&&◌, ◌||◌, not, ℕ, ◌+◌, ◌-◌, ◌/◌, ◌%◌, leb, ltb, eqb, ℤ, pos, neg_ℤ, nat_abs, ◌+ℤ◌, ◌-ℤ◌}
use Rattle.std.proofs.Math.IntN.{sub_ℕ}
use Rattle.std.specs.Int.Signed.{lt_z}

-- Fall(x, y) = (x - y) mod N, for ids below N
unfoldable pub fall_of : ℕ → ℕ → ℕ → ℕ
fall_of N x y = (x + (N - y)) % N

-- d + N if d < -N/2; d - N if d > N/2; else d
abbrev pub wrapped : ℕ → ℤ → ℤ
wrapped N d = cond (lt_z d (neg_ℤ (pos (N / 2)))) (d +ℤ pos N) (cond (lt_z (pos (N / 2)) d) (d -ℤ pos N) d)

-- signed distance: d = x - y, wrapped
unfoldable pub signed_of : ℕ → ℕ → ℕ → ℤ
signed_of N x y = wrapped N (sub_ℕ x y)

-- AbsDist is its size
unfoldable pub abs_dist_of : ℕ → ℕ → ℕ → ℕ
abs_dist_of N x y = nat_abs (signed_of N x y)

-- k is reached from a by rising: the way up from a to k is a shortest one
unfoldable pub rises_to : ℕ → ℕ → ℕ → Bool
rises_to N k a = eqb (fall_of N k a) (abs_dist_of N k a)

-- a is nearer to key k than b: smaller AbsDist; at equal AbsDist, the id from which k is reached by rising
unfoldable pub nearer : ℕ → ℕ → ℕ → ℕ → Bool
nearer N k a b =
    ltb (abs_dist_of N k a) (abs_dist_of N k b)
    || (eqb (abs_dist_of N k a) (abs_dist_of N k b) && (rises_to N k a && not (rises_to N k b)))

-- LeftCover = (i + Fall(left_neighbour, i) div 2) mod N
unfoldable pub left_cover_of : ℕ → ℕ → ℕ → ℕ
left_cover_of N i l = (i + fall_of N l i / 2) % N

-- RightCover = (right_neighbour + Fall(i, right_neighbour) div 2 + 1) mod N
unfoldable pub right_cover_of : ℕ → ℕ → ℕ → ℕ
right_cover_of N i r = (r + fall_of N i r / 2 + 1) % N

-- node i with left neighbour l and right neighbour r covers k if Fall(LeftCover, k) ≤ Fall(LeftCover, RightCover)
unfoldable pub covers_key : ℕ → ℕ → ℕ → ℕ → ℕ → Bool
covers_key N i l r k = leb (fall_of N (left_cover_of N i l) k) (fall_of N (left_cover_of N i l) (right_cover_of N i r))
