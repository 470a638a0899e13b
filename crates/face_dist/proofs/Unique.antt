-- Each public function has one reply for every input: any two that its contract allows are equal. Assumes nothing.
use mathlib.Core.Path.{◌≡◌, sym, ◌∙◌}
use Prim.Native.Nat.{ℕ}
use Rattle.std.specs.Prelude.{Bool, ℤ, Option}
use Rattle.face_dist.specs.Dist.{ask_fall, ask_signed, ask_abs_dist, ask_nearer, ask_covers}

module _ (m x y : ℕ) (r r' : Option ℤ) where
  pub fall-unique : r ≡ ask_fall m x y → r' ≡ ask_fall m x y → r ≡ r'
  fall-unique h h' = h ∙ sym h'

  pub signed-distance-unique : r ≡ ask_signed m x y → r' ≡ ask_signed m x y → r ≡ r'
  signed-distance-unique h h' = h ∙ sym h'

  pub abs-dist-unique : r ≡ ask_abs_dist m x y → r' ≡ ask_abs_dist m x y → r ≡ r'
  abs-dist-unique h h' = h ∙ sym h'

pub is-nearer-unique : (m k a b : ℕ) (r r' : Option Bool) → r ≡ ask_nearer m k a b → r' ≡ ask_nearer m k a b → r ≡ r'
is-nearer-unique m k a b r r' h h' = h ∙ sym h'

pub does-cover-unique : (m i l r k : ℕ) (c c' : Option Bool) → c ≡ ask_covers m i l r k → c' ≡ ask_covers m i l r k → c ≡ c'
does-cover-unique m i l r k c c' h h' = h ∙ sym h'
