-- The answers to callers outside: what ring's definitions give at N = 2^M if all is in range, else None. Assumes nothing.
use Rattle.std.specs.Prelude.{Bool, cond, ◌&&◌, List, [], ◌∷◌, ℕ, ◌^◌, leb, ltb, ℤ, pos, Option, Some, None}
use Rattle.ring.specs.Distance.{fall_of, signed_of, abs_dist_of, nearer, covers_key}
use Rattle.rules.specs.Names.{Id, Key}

-- M is from 2 to 32, and each id and key is below 2^M
abbrev pub all_inside : ℕ → List ℕ → Bool
all_inside m [] = leb 2 m && leb m 32
all_inside m (x ∷ xs) = ltb x (2 ^ m) && all_inside m xs

-- Fall(x, y)
abbrev pub ask_fall : ℕ → Id → Id → Option ℤ
ask_fall m x y = cond (all_inside m (x ∷ y ∷ [])) (Some (pos (fall_of (2 ^ m) x y))) None

-- the signed distance of x and y
abbrev pub ask_signed : ℕ → Id → Id → Option ℤ
ask_signed m x y = cond (all_inside m (x ∷ y ∷ [])) (Some (signed_of (2 ^ m) x y)) None

-- AbsDist of x and y
abbrev pub ask_abs_dist : ℕ → Id → Id → Option ℤ
ask_abs_dist m x y = cond (all_inside m (x ∷ y ∷ [])) (Some (pos (abs_dist_of (2 ^ m) x y))) None

-- a is nearer to key k than b
abbrev pub ask_nearer : ℕ → Key → Id → Id → Option Bool
ask_nearer m k a b = cond (all_inside m (k ∷ a ∷ b ∷ [])) (Some (nearer (2 ^ m) k a b)) None

-- node i with left neighbour l and right neighbour r covers k
abbrev pub ask_covers : ℕ → Id → Id → Id → Key → Option Bool
ask_covers m i l r k = cond (all_inside m (i ∷ l ∷ r ∷ k ∷ [])) (Some (covers_key (2 ^ m) i l r k)) None

-- 01's number of each answer: 0, or 1 for what is out of range
abbrev pub asked_number : {A : Type 0} → Option A → ℕ
asked_number None = 1
asked_number (Some x) = 0
