-- When two messages are equal, and whether an equal one waits. Two messages are alike exactly if their nine fields are equal, so alike is
-- an equivalence; an equal waits in two lists that follow each other exactly if one waits in either. Assumes nothing.
use Rattle.marks.specs.Marks.{Found}
use Rattle.std.specs.Prelude.{Some, None}
use mathlib.Core.Path.{◌≡◌, refl, sym, ◌∙◌, ap}
use mathlib.Core.Bool.{Bool, true, false, cond, ◌&&◌, ◌||◌, or_assoc, or-false}
use mathlib.Core.List.{List, [], ◌∷◌, ◌++◌}
use Prim.Native.Nat.{ℕ, zero, suc, ◌+◌, ◌<◌}
use native.Mathlib.Omega.{arith}
use borrow.Author.Tests.{eq-eqb, eqb-true}
use lib.Dec.{eqb}
use lib.ListN.{get_or, length}
use lib.Seq.{ext_get_or}
use Rattle.marks.proofs.Laws.{each, all_of}
use Rattle.marks.proofs.Bools.{clash, bool_false, bool_same, and_both, or-fails, or-fails-left, or-fails-right}
use Rattle.rules.specs.declared.Message.{Message}
use Rattle.rules.specs.Pool.{blank}
use Rattle.rules.specs.Mail.{fields_of, alike, first_from, first_equal, added, is_found, waits, join_waits}

-- ---- two messages

pub alike_same : (a b : Message) → alike a b ≡ true → fields_of a ≡ fields_of b
unfolding alike
alike_same a b e =
    ext_get_or 0 (fields_of a) (fields_of b) refl
    (λ f l. eqb-true _ _ (each 9 (λ i. eqb (get_or (fields_of a) i 0) (get_or (fields_of b) i 0)) f e l))

pub same_alike : (a b : Message) → fields_of a ≡ fields_of b → alike a b ≡ true
unfolding alike
same_alike a b e =
    all_of 9 (λ i. eqb (get_or (fields_of a) i 0) (get_or (fields_of b) i 0)) (λ f l. eq-eqb _ _ (ap (λ (r : List ℕ). get_or r f 0) e))

pub alike_refl : (a : Message) → alike a a ≡ true
alike_refl a = same_alike a a refl

pub alike-sym : (a b : Message) → alike a b ≡ alike b a
alike-sym a b =
    bool_same (alike a b) (alike b a) (λ e. same_alike b a (sym (alike_same a b e))) (λ e. same_alike a b (sym (alike_same b a e)))

pub alike-trans : (a b c : Message) → alike a b ≡ true → alike b c ≡ true → alike a c ≡ true
alike-trans a b c d e = same_alike a c (alike_same a b d ∙ alike_same b c e)

pub alike-dest : (a b : Message) → alike a b ≡ true → a.dest ≡ b.dest
alike-dest a b e = ap (λ (r : List ℕ). get_or r 0 0) (alike_same a b e)

-- ---- the first equal one

first-from : (m : Message) (xs : List Message) (p s : ℕ) → s < length xs → alike (get_or xs s blank) m ≡ true
    → ((t : ℕ) → t < s → alike (get_or xs t blank) m ≡ false) → first_from m xs p ≡ Some (p + s)
unfolding first_from
first-from m [] p s h e f = absurd (omega arith)
first-from m (x ∷ xs) p zero h e f = rw e (ap Some (omega arith))
first-from m (x ∷ xs) p (suc s) h e f =
    rw (f 0 (omega arith)) (first-from m xs (p + 1) s (omega arith) e (λ t l. f (suc t) (omega arith)) ∙ ap Some (omega arith))

pub first-equal-at : (xs : List Message) (m : Message) (s : ℕ) → s < length xs → alike (get_or xs s blank) m ≡ true
    → ((t : ℕ) → t < s → alike (get_or xs t blank) m ≡ false) → first_equal xs m ≡ Some s
unfolding first_equal
first-equal-at xs m s h e f = first-from m xs 0 s h e f ∙ ap Some (omega arith)

none_from : (m : Message) (xs : List Message) (p : ℕ)
    → ((t : ℕ) → t < length xs → alike (get_or xs t blank) m ≡ false) → first_from m xs p ≡ None
unfolding first_from
none_from m [] p f = refl
none_from m (x ∷ xs) p f = rw (f 0 (omega arith)) (none_from m xs (p + 1) (λ t l. f (suc t) (omega arith)))

pub first-equal-none : (xs : List Message) (m : Message)
    → ((t : ℕ) → t < length xs → alike (get_or xs t blank) m ≡ false) → first_equal xs m ≡ None
unfolding first_equal
first-equal-none xs m f = none_from m xs 0 f

-- ---- whether an equal one waits

found_from : (m : Message) (xs : List Message) (p q : ℕ) → is_found (first_from m xs p) ≡ is_found (first_from m xs q)
unfolding first_from
found_from m [] p q = refl
found_from m (x ∷ xs) p q = go (alike x m) (found_from m xs (p + 1) (q + 1))
  where
    go : (b : Bool) → is_found (first_from m xs (p + 1)) ≡ is_found (first_from m xs (q + 1))
        → is_found (cond b (Some p) (first_from m xs (p + 1))) ≡ is_found (cond b (Some q) (first_from m xs (q + 1)))
    go true e = refl
    go false e = e

pub waits-nil : (m : Message) → waits [] m ≡ false
unfolding waits first_equal first_from
waits-nil m = refl

pub waits-cons : (x : Message) (xs : List Message) (m : Message) → waits (x ∷ xs) m ≡ (alike x m || waits xs m)
unfolding waits first_equal first_from
waits-cons x xs m = go (alike x m)
  where
    go : (b : Bool) → is_found (cond b (Some 0) (first_from m xs 1)) ≡ (b || is_found (first_from m xs 0))
    go true = refl
    go false = found_from m xs 1 0

pub waits-append : (xs ys : List Message) (m : Message) → waits (xs ++ ys) m ≡ (waits xs m || waits ys m)
waits-append [] ys m = rw (waits-nil m)
waits-append (x ∷ xs) ys m =
    rw (waits-cons x (xs ++ ys) m, waits-cons x xs m, waits-append xs ys m)
    (sym (or_assoc (alike x m) (waits xs m) (waits ys m)))

pub waits-last : (xs : List Message) (x m : Message) → waits (xs ++ (x ∷ [])) m ≡ (waits xs m || alike x m)
waits-last xs x m =
    let one : waits (x ∷ []) m ≡ alike x m = waits-cons x [] m ∙ rw (waits-nil m) (or-false (alike x m)) in
    waits-append xs (x ∷ []) m ∙ ap (λ (b : Bool). waits xs m || b) one

-- where no JoinRequest of i waits, none waits that equals one of i
no-join-here : (x m : Message) (i : ℕ) → m.kind ≡ 2 → m.word ≡ i → (eqb x.kind 2 && eqb x.word i) ≡ false → alike x m ≡ false
no-join-here x m i k w e =
    bool_false (alike x m)
    (λ a.
    let kind : x.kind ≡ 2 = ap (λ (r : List ℕ). get_or r 1 0) (alike_same x m a) ∙ k in
    let word : x.word ≡ i = ap (λ (r : List ℕ). get_or r 2 0) (alike_same x m a) ∙ w in
    clash (sym (and_both (eq-eqb x.kind 2 kind) (eq-eqb x.word i word)) ∙ e))

pub no-join-waits : (xs : List Message) (m : Message) (i : ℕ) → m.kind ≡ 2 → m.word ≡ i → join_waits xs i ≡ false → waits xs m ≡ false
unfolding join_waits
no-join-waits [] m i k w e = waits-nil m
no-join-waits (x ∷ xs) m i k w e =
    waits-cons x xs m
    ∙ or-fails (no-join-here x m i k w (or-fails-left (eqb x.kind 2 && eqb x.word i) (join_waits xs i) e))
    (no-join-waits xs m i k w (or-fails-right (eqb x.kind 2 && eqb x.word i) (join_waits xs i) e))

-- ---- adding

pub added-at : (xs : List Message) (m : Message) (p : ℕ) → first_equal xs m ≡ Some p → added xs m ≡ xs
unfolding added
added-at xs m p e = rw e

pub added-nothing : (xs : List Message) (m : Message) → first_equal xs m ≡ None → added xs m ≡ xs ++ (m ∷ [])
unfolding added
added-nothing xs m e = rw e

pub added_is : (xs : List Message) (m : Message) → added xs m ≡ cond (waits xs m) xs (xs ++ (m ∷ []))
unfolding waits
added_is xs m = go (first_equal xs m) refl
  where
    go : (r : Found) → first_equal xs m ≡ r → added xs m ≡ cond (is_found r) xs (xs ++ (m ∷ []))
    go (Some p) e = added-at xs m p e
    go None e = added-nothing xs m e
