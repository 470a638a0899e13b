-- Records of one size in a part of bytes, for every size: the records of a part are those of its beginning and of its rest; what is left when the bytes behind
-- a record are moved over it; and one record more, written behind the last. By induction on the number of records. Assumes nothing.
use mathlib.Core.Path.{◌≡◌, refl, sym, ◌∙◌, ap, ap₂}
use mathlib.Core.List.{List, [], ◌∷◌, ◌++◌, append_assoc, append-nil}
use Prim.Native.Nat.{ℕ, zero, suc, ◌+◌, ◌-◌, ◌*◌, ◌<◌, ◌≤◌}
use native.Mathlib.Numerals.{unary_clauses}
use native.Mathlib.Omega.{arith}
use lib.ListN.{length, get_or, take, drop, length-drop}
use lib.Seq.{paste, take-nil, drop-nil, take-take, take-append-le, drop-append-le, drop-drop, take_at, drop_at, length-take-le, length-paste, drop-paste}
use Rattle.image.specs.InnerRecords.{records_in, closed_up}

-- n records are those before one, that one and those behind it
pub cut : (size p n : ℕ) → p < n → size * n ≡ size * p + size + size * (n - 1 - p)
cut size p n h =
    let k = n - 1 - p in
    let e : n ≡ p + 1 + k = omega arith in
    ap (λ (c : ℕ). size * c) e ∙ omega arith

-- ---- the records of a part

pub drop-take : (w r : ℕ) (bs : List ℕ) → drop w (take (w + r) bs) ≡ take r (drop w bs)
drop-take zero r bs = let e : 0 + r ≡ r = omega arith in ap (λ (k : ℕ). take k bs) e
drop-take (suc w) r [] = ap (drop (suc w)) (take-nil (suc w + r)) ∙ drop-nil (suc w) ∙ sym (take-nil r)
drop-take (suc w) r (b ∷ bs) = let e : suc w + r ≡ suc (w + r) = omega arith in rw e (drop-take w r bs)

module _ (size : ℕ) where
  pub records-length : (n : ℕ) (bs : List ℕ) → length (records_in size n bs) ≡ n
  unfolding records_in
  records-length zero bs = refl
  records-length (suc n) bs = ap suc (records-length n (drop size bs))

  pub record-at : (n k : ℕ) (bs : List ℕ) → k < n → get_or (records_in size n bs) k [] ≡ take size (drop (size * k) bs)
  unfolding records_in
  record-at zero k bs h = absurd (omega arith)
  record-at (suc n) zero bs h = simp unary_clauses
  record-at (suc n) (suc k) bs h =
      let more : size * suc k ≡ size + size * k = omega arith in
      rw (more, record-at n k (drop size bs) (omega arith), drop-drop)

  -- the first a records are those of the first bytes
  pub records-take : (a : ℕ) (bs : List ℕ) → records_in size a (take (size * a) bs) ≡ records_in size a bs
  unfolding records_in
  records-take zero bs = refl
  records-take (suc a) bs =
      let more : size * suc a ≡ size + size * a = omega arith in
      rw more
      (ap₂ ◌∷◌ (take-take size (size + size * a) bs (omega arith))
      (ap (records_in size a) (drop-take size (size * a) bs) ∙ records-take a (drop size bs)))

  pub records-split : (a b : ℕ) (bs : List ℕ) → records_in size (a + b) bs ≡ records_in size a bs ++ records_in size b (drop (size * a) bs)
  unfolding records_in
  records-split zero b bs =
      let z : 0 + b ≡ b = omega arith in
      let s : size * 0 ≡ 0 = omega arith in
      rw (z, s)
  records-split (suc a) b bs =
      let more : size * suc a ≡ size + size * a = omega arith in
      let one : suc a + b ≡ suc (a + b) = omega arith in
      rw (more, one, records-split a b (drop size bs), drop-drop)

  pub records-append : (a b : ℕ) (xs ys : List ℕ) → length xs ≡ size * a
      → records_in size (a + b) (xs ++ ys) ≡ records_in size a xs ++ records_in size b ys
  unfolding records_in
  records-append zero b [] ys e = let z : 0 + b ≡ b = omega arith in rw z
  records-append zero b (x ∷ xs) ys e = absurd (omega arith)
  records-append (suc a) b xs ys e =
      let one : suc a + b ≡ suc (a + b) = omega arith in
      let here : size ≤ length xs = omega arith in
      let rest : length (drop size xs) ≡ size * a = rw length-drop (omega arith) in
      rw (one, take-append-le size xs ys here, drop-append-le size xs ys here, records-append a b (drop size xs) ys rest)

  pub records-front : (a : ℕ) (xs ys : List ℕ) → length xs ≡ size * a → records_in size a (xs ++ ys) ≡ records_in size a xs
  unfolding records_in
  records-front a xs ys e =
      let z : a ≡ a + 0 = omega arith in
      ap (λ (n : ℕ). records_in size n (xs ++ ys)) z ∙ records-append a 0 xs ys e ∙ append-nil (records_in size a xs)

  -- ---- a record taken out

  module _ (count p : ℕ) (bs new : List ℕ) (hp : p < count) (h : size * count ≤ length bs)
      (e : new ≡ paste bs (size * p) (drop (size * p + size) bs) (size * (count - 1 - p))) where
    abbrev k : ℕ
    k = count - 1 - p

    abbrev tail : List ℕ
    tail = drop (size * p + size) bs

    whole : size * count ≡ size * p + size + size * k
    whole = cut size p count hp

    head-long : length (take (size * p) bs) ≡ size * p
    head-long = length-take-le (size * p) bs (omega (arith, whole))

    tail-long : length (take (size * k) tail) ≡ size * k
    tail-long = length-take-le (size * k) tail (rw length-drop (omega (arith, whole)))

    left : records_in size (count - 1) new ≡ records_in size p bs ++ records_in size k tail
    left =
        let n : count - 1 ≡ p + k = omega arith in
        let rest = drop (size * p + size * k) bs in
        let xs = take (size * p) bs in
        let ys = take (size * k) tail in
        ap₂ (records_in size) n (e ∙ append_assoc xs ys rest)
        ∙ records-append p k xs (ys ++ rest) head-long
        ∙ ap₂ ◌++◌ (records-take p bs) (records-front k ys rest tail-long ∙ records-take k tail)

    before : take p (records_in size count bs) ≡ records_in size p bs
    before =
        let n : count ≡ p + (1 + k) = omega arith in
        ap (λ (c : ℕ). take p (records_in size c bs)) n
        ∙ ap (take p) (records-split p (1 + k) bs)
        ∙ take_at (records_in size p bs) _ p (records-length p bs)

    behind : drop (suc p) (records_in size count bs) ≡ records_in size k tail
    behind =
        let n : count ≡ suc p + k = omega arith in
        let s : size * suc p ≡ size * p + size = omega arith in
        ap (λ (c : ℕ). drop (suc p) (records_in size c bs)) n
        ∙ ap (drop (suc p)) (records-split (suc p) k bs)
        ∙ drop_at (records_in size (suc p) bs) _ (suc p) (records-length (suc p) bs)
        ∙ ap (λ (i : ℕ). records_in size k (drop i bs)) s

    pub taken_out : records_in size (count - 1) new ≡ closed_up (records_in size count bs) p
    taken_out = left ∙ sym (ap₂ ◌++◌ before behind)

  -- ---- a record written behind n others

  module _ (n : ℕ) (bs vs new : List ℕ) (h : size * n + size ≤ length bs) (s : size ≤ length vs) (e : new ≡ paste bs (size * n) vs size) where
    pub put-behind : records_in size (n + 1) new ≡ records_in size n bs ++ (take size vs ∷ [])
    unfolding records_in
    put-behind =
        let xs = take (size * n) bs in
        let rest = drop (size * n + size) bs in
        ap (records_in size (n + 1)) (e ∙ append_assoc xs (take size vs) rest)
        ∙ records-append n 1 xs (take size vs ++ rest) (length-take-le (size * n) bs (omega arith))
        ∙ ap₂ ◌++◌ (records-take n bs) (ap (λ (r : List ℕ). r ∷ []) (take_at (take size vs) rest size (length-take-le size vs s)))

    pub put-long : length new ≡ length bs
    put-long = ap length e ∙ length-paste bs (size * n) vs size h s

    -- what lies behind it is as it was
    pub put-past : (at : ℕ) → size * n + size ≤ at → drop at new ≡ drop at bs
    put-past at l =
        let d = at - (size * n + size) in
        let i : at ≡ size * n + size + d = omega arith in
        rw (i, e, ← (drop-drop d (size * n + size) (paste bs (size * n) vs size)))
        (ap (drop d) (drop-paste bs (size * n) vs size (omega arith) s) ∙ drop-drop d (size * n + size) bs)
