-- Sending to a set of slots, at once: what is added is a copy for each slot of the set to which no equal waits, in rising order, for
-- copies with different destinations are never equal. Assumes nothing.
use Rattle.std.specs.Prelude.{Some, None}
use mathlib.Core.Path.{◌≡◌, refl, sym, ◌∙◌, ap}
use mathlib.Core.Logic.{◌⊎◌, inl, inr}
use mathlib.Core.Bool.{Bool, true, false, cond, ◌&&◌, ◌||◌, not, or-false, and-true}
use mathlib.Core.List.{List, [], ◌∷◌, ◌++◌, append-nil, append_assoc}
use Prim.Native.Nat.{ℕ, zero, suc, ◌+◌, ◌<◌, ◌≤◌}
use native.Mathlib.Nat.{eq-or-lt_of_le, le_of_suc-le-suc}
use native.Mathlib.Omega.{arith}
use borrow.Author.Tests.{eq-eqb, ne_eqb, eqb-true}
use lib.Dec.{eqb}
use lib.ListN.{length, length-append}
use Rattle.marks.specs.Marks.{has, tally, size_of, without, add_of, remove_of, lowest_of}
use Rattle.marks.proofs.Laws.{has-zero, has-gather, gather-same, gather_none, has-without, has-remove, First, lowest-found, first-none}
use Rattle.marks.proofs.Bools.{opposed, bool_false, bool_same, and-fails-left, and-fails-right, true-not}
use Rattle.rules.specs.declared.Message.{Message}
use Rattle.rules.specs.Nodes.{placed}
use Rattle.rules.specs.Mail.{alike, added, sent_to, sent, waits}
use Rattle.pool_laws.proofs.Equal.{alike-dest, waits-nil, waits-cons, waits-append, waits-last, added_is}
use Rattle.pool_laws.specs.InnerSending.{held_of, held_with, copies_to, copies}

-- ---- the slots to which an equal of m waits

pub has-held : (m : Message) (xs : List Message) (s : ℕ) → s < 64 → has (held_of m xs) s ≡ waits xs (placed m s)
unfolding held_of
has-held m xs s h = has-gather 64 (λ t. waits xs (placed m t)) s h

pub held-nil : (m : Message) → held_of m [] ≡ 0
unfolding held_of
held-nil m = gather_none 64 (λ s. waits [] (placed m s)) (λ s h. waits-nil (placed m s))

held_more : (m : Message) (xs : List Message) (q : Message) → alike q (placed m q.dest) ≡ true
    → held_of m (xs ++ (q ∷ [])) ≡ add_of (held_of m xs) q.dest
unfolding held_of add_of
held_more m xs q e =
    gather-same 64 (λ s. waits (xs ++ (q ∷ [])) (placed m s)) (λ s. has (held_of m xs) s || eqb s q.dest)
    (λ s h. waits-last xs q (placed m s) ∙ rw (has-held m xs s h, same s))
  where
    same : (s : ℕ) → alike q (placed m s) ≡ eqb s q.dest
    same s =
        bool_same (alike q (placed m s)) (eqb s q.dest) (λ t. eq-eqb s q.dest (sym (alike-dest q (placed m s) t)))
        (λ t. rw (eqb-true s q.dest t) e)

held_same : (m : Message) (xs : List Message) (q : Message) → alike q (placed m q.dest) ≡ false
    → held_of m (xs ++ (q ∷ [])) ≡ held_of m xs
unfolding held_of
held_same m xs q e =
    gather-same 64 (λ s. waits (xs ++ (q ∷ [])) (placed m s)) (λ s. waits xs (placed m s))
    (λ s h. waits-last xs q (placed m s) ∙ rw (other s) (or-false (waits xs (placed m s))))
  where
    other : (s : ℕ) → alike q (placed m s) ≡ false
    other s = bool_false (alike q (placed m s)) (λ t. opposed (ap (λ (r : ℕ). alike q (placed m r)) (alike-dest q (placed m s) t) ∙ t) e)

pub held-with-yes : (m : Message) (set : ℕ) (q : Message) → alike q (placed m q.dest) ≡ true → held_with m set q ≡ add_of set q.dest
unfolding held_with
held-with-yes m set q e = rw e

pub held-with-no : (m : Message) (set : ℕ) (q : Message) → alike q (placed m q.dest) ≡ false → held_with m set q ≡ set
unfolding held_with
held-with-no m set q e = rw e

pub held-last : (m : Message) (xs : List Message) (q : Message) → held_of m (xs ++ (q ∷ [])) ≡ held_with m (held_of m xs) q
held-last m xs q = go (alike q (placed m q.dest)) refl
  where
    go : (b : Bool) → alike q (placed m q.dest) ≡ b → held_of m (xs ++ (q ∷ [])) ≡ held_with m (held_of m xs) q
    go true e = held_more m xs q e ∙ sym (held-with-yes m (held_of m xs) q e)
    go false e = held_same m xs q e ∙ sym (held-with-no m (held_of m xs) q e)

-- ---- the copies

-- no copy for a slot below n equals one for a slot from n on
pub copies-fresh : (m : Message) (set n k : ℕ) → n ≤ k → waits (copies_to m set n) (placed m k) ≡ false
unfolding copies_to
copies-fresh m set zero k h = waits-nil (placed m k)
copies-fresh m set (suc n) k h =
    waits-append (copies_to m set n) (cond (has set n) (placed m n ∷ []) []) (placed m k)
    ∙ rw (copies-fresh m set n k (omega arith)) (last (has set n))
  where
    other : alike (placed m n) (placed m k) ≡ false
    other = bool_false (alike (placed m n) (placed m k)) (λ t. let e : n ≡ k = alike-dest (placed m n) (placed m k) t in omega arith)

    last : (b : Bool) → waits (cond b (placed m n ∷ []) []) (placed m k) ≡ false
    last true = waits-cons (placed m n) [] (placed m k) ∙ rw (other, waits-nil (placed m k))
    last false = waits-nil (placed m k)

sent-to : (m : Message) (set : ℕ) (xs : List Message) (n : ℕ) → n ≤ 64 → sent_to m set n xs ≡ xs ++ copies_to m (without set (held_of m xs)) n
unfolding sent_to copies_to
sent-to m set xs zero h = sym (append-nil xs)
sent-to m set xs (suc n) h =
    let old : waits ys z ≡ waits xs z =
    waits-append xs (copies_to m d n) z ∙ rw (copies-fresh m d n n (omega arith)) (or-false (waits xs z)) in
    let one : added ys z ≡ cond (waits xs z) ys (ys ++ (z ∷ [])) =
    added_is ys z ∙ ap (λ (b : Bool). cond b ys (ys ++ (z ∷ []))) old in
    rw (sent-to m set xs n (omega arith), one, has-without set (held_of m xs) n h, has-held m xs n h) (go (has set n) (waits xs z))
  where
    d : ℕ
    d = without set (held_of m xs)

    z : Message
    z = placed m n

    ys : List Message
    ys = xs ++ copies_to m d n

    go : (a w : Bool) → cond a (cond w ys (ys ++ (z ∷ []))) ys ≡ xs ++ (copies_to m d n ++ cond (a && not w) (z ∷ []) [])
    go true true = rw (append-nil (copies_to m d n))
    go true false = append_assoc xs (copies_to m d n) (z ∷ [])
    go false w = rw (append-nil (copies_to m d n))

-- a copy for each slot to which no equal waits, in rising order, at the end
pub sent_is : (m : Message) (set : ℕ) (xs : List Message) → sent m set xs ≡ xs ++ copies m (without set (held_of m xs))
sent_is m set xs = sent-to m set xs 64 (omega arith)

sent-none-to : (m : Message) (n : ℕ) (xs : List Message) → sent_to m 0 n xs ≡ xs
unfolding sent_to
sent-none-to m zero xs = refl
sent-none-to m (suc n) xs = rw (has-zero n) (sent-none-to m n xs)

pub sent-none : (m : Message) (xs : List Message) → sent m 0 xs ≡ xs
sent-none m xs = sent-none-to m 64 xs

-- ---- the copies, the first one taken off

copies-none : (m : Message) (set n : ℕ) → ((s : ℕ) → s < n → has set s ≡ false) → copies_to m set n ≡ []
unfolding copies_to
copies-none m set zero f = refl
copies-none m set (suc n) f = rw (copies-none m set n (λ s h. f s (omega arith)), f n (omega arith))

pub copies-end : (m : Message) (set : ℕ) → lowest_of set ≡ None → copies m set ≡ []
unfolding lowest_of
copies-end m set e = copies-none m set 64 (first-none 64 (has set) e)

copies-from : (m : Message) (set s n : ℕ) → First 64 (has set) s → s < n → n ≤ 64
    → copies_to m set n ≡ placed m s ∷ copies_to m (remove_of set s) n
unfolding copies_to
copies-from m set s zero i l h = absurd (omega arith)
copies-from m set s (suc n) i l h = go (λ k. copies-from m set s n i k (omega arith)) (eq-or-lt_of_le (le_of_suc-le-suc l))
  where
    rest : has (remove_of set s) n ≡ (has set n && not (eqb n s))
    rest = has-remove set s n h

    go : (s < n → copies_to m set n ≡ placed m s ∷ copies_to m (remove_of set s) n) → (s ≡ n) ⊎ (s < n)
        → copies_to m set n ++ cond (has set n) (placed m n ∷ []) []
        ≡ placed m s ∷ (copies_to m (remove_of set s) n ++ cond (has (remove_of set s) n) (placed m n ∷ []) [])
    go f (inl e) =
        let none : copies_to m set n ≡ [] = copies-none m set n (λ t k. i.least t (omega arith)) in
        let gone : copies_to m (remove_of set s) n ≡ [] =
        copies-none m (remove_of set s) n
        (λ t k. has-remove set s t (omega arith) ∙ and-fails-left (not (eqb t s)) (i.least t (omega arith))) in
        let here : has set n ≡ true = rw e at i.holds in
        let last : has (remove_of set s) n ≡ false = rest ∙ and-fails-right (has set n) (true-not (eq-eqb n s (sym e))) in
        rw (none, gone, here, last) (ap (λ (t : ℕ). placed m t ∷ []) (sym e))
    go f (inr k) = rw (rest, ne_eqb n s (omega arith), and-true (has set n), f k)

pub copies-more : (m : Message) (set s : ℕ) → lowest_of set ≡ Some s → copies m set ≡ placed m s ∷ copies m (remove_of set s)
copies-more m set s e = let i = lowest-found set s e in copies-from m set s 64 i i.below (omega arith)

-- ---- how many

copies-length-to : (m : Message) (set n : ℕ) → length (copies_to m set n) ≡ tally n (has set)
unfolding copies_to tally
copies-length-to m set zero = refl
copies-length-to m set (suc n) = rw (length-append, copies-length-to m set n) (go (has set n))
  where
    go : (b : Bool) → tally n (has set) + length (cond b (placed m n ∷ []) []) ≡ tally n (has set) + cond b 1 0
    go true = refl
    go false = refl

pub copies_length : (m : Message) (set : ℕ) → length (copies m set) ≡ size_of set
unfolding size_of
copies_length m set = copies-length-to m set 64

pub sent-longer : (m : Message) (set : ℕ) (xs : List Message) → length xs ≤ length (sent m set xs)
sent-longer m set xs = rw (sent_is m set xs, length-append) (omega arith)
