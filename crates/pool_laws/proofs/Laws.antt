-- What adding, removing and sending keep, for every property of messages: that all have it (All), and that no two are equal (Apart). What
-- Equal, Laid, Sends and News say of the pool is passed on, so that a user names this file alone. By induction on the list. Assumes
-- nothing.
use Rattle.std.specs.Prelude.{Some, None}
use mathlib.Core.Path.{◌≡◌, refl, sym, ◌∙◌, ap}
use mathlib.Core.Logic.{◌⊎◌, inl, inr, ⊎_elim, ◌↔◌}
use mathlib.Core.Bool.{Bool, true, false, cond, ◌||◌, not}
use mathlib.Core.List.{List, [], ◌∷◌, ◌++◌}
use Prim.Native.Nat.{ℕ, zero, suc, ◌+◌, ◌<◌, ◌≤◌}
use native.Mathlib.Omega.{arith}
use borrow.Author.Tests.{not-true}
use lib.ListN.{get_or, length, length-append}
use lib.Seq.{append_snoc}
use Rattle.marks.specs.Marks.{has, size_of, without, all_to, Found}
use Rattle.marks.proofs.Laws.{each, all_of, size_mono, has-without}
use Rattle.marks.proofs.Bools.{and_left, or-fails-left, or-fails-right, false-not}
use Rattle.rules.specs.declared.Message.{Message}
use Rattle.rules.specs.declared.Pool.{Pool}
use Rattle.rules.specs.declared.Node.{Node}
use Rattle.rules.specs.declared.Plan.{Plan}
use Rattle.rules.specs.Nodes.{placed}
use Rattle.rules.specs.Pool.{blank, message_at, waiting, laid}
use Rattle.rules.specs.Mail.{alike, all_different, added, removed_at, sent_to, sent, waits}
use Rattle.rules.specs.declared.Via.{Via}
use Rattle.rules.specs.Plans.{quiet_plan, send_by, added_to, mailed}
use Rattle.pool_laws.specs.InnerSending.{held_of, copies}
pub use Rattle.pool_laws.proofs.Equal.{alike_same, same_alike, alike_refl, alike-sym, alike-trans, alike-dest}
pub use Rattle.pool_laws.proofs.Equal.{first-equal-at, first-equal-none, waits-nil, waits-cons, waits-append, waits-last}
pub use Rattle.pool_laws.proofs.Equal.{added-at, added-nothing, added_is}
pub use Rattle.pool_laws.proofs.Laid.{waiting-laid, waiting-short, waiting-length, waiting-at, laid-at}
pub use Rattle.pool_laws.proofs.Laid.{removed-length, removed-low, removed-high, removed-short, removed-none, left-length, left_at}
pub use Rattle.pool_laws.proofs.Sending.{sent_is, sent-none, sent-longer, has-held, copies-fresh, copies-more, copies-end, copies_length}
pub use Rattle.pool_laws.proofs.NewOnes.{new-slotted, added-to-is, mailed-news, news-size, news-room}

-- ---- all have a property

pub data All (P : Message → Type 0) : List Message → Type 0 where
  all_nil : All P []
  all_cons : {x : Message} {xs : List Message} → P x → All P xs → All P (x ∷ xs)

pub all_map : {P Q : Message → Type 0} {xs : List Message} → ((x : Message) → P x → Q x) → All P xs → All Q xs
all_map f all_nil = all_nil
all_map {xs = x ∷ xs} f (all_cons p h) = all_cons (f x p) (all_map f h)

pub all_append : {P : Message → Type 0} {xs ys : List Message} → All P xs → All P ys → All P (xs ++ ys)
all_append all_nil k = k
all_append (all_cons p h) k = all_cons p (all_append h k)

-- a property of all is one of each place
pub all-at : {P : Message → Type 0} {xs : List Message} → All P xs → (i : ℕ) → i < length xs → P (get_or xs i blank)
all-at all_nil i l = absurd (omega arith)
all-at (all_cons p h) zero l = p
all-at (all_cons p h) (suc i) l = all-at h i (omega arith)

pub all-index : {P : Message → Type 0} (xs : List Message) → ((i : ℕ) → i < length xs → P (get_or xs i blank)) → All P xs
all-index [] f = all_nil
all-index (x ∷ xs) f = all_cons (f 0 (omega arith)) (all-index xs (λ i l. f (suc i) (omega arith)))

-- a test of all is one of each place
pub all-test : (f : Message → Bool) (xs : List Message) → All (λ x. f x ≡ true) xs → all_to (length xs) (λ i. f (get_or xs i blank)) ≡ true
all-test f xs h = all_of (length xs) (λ i. f (get_or xs i blank)) (all-at h)

pub test-all : (f : Message → Bool) (xs : List Message) → all_to (length xs) (λ i. f (get_or xs i blank)) ≡ true → All (λ x. f x ≡ true) xs
test-all f xs e = all-index xs (λ i l. each (length xs) (λ j. f (get_or xs j blank)) i e l)

-- the same of a pool's places
pub all_laid : (f : Message → Bool) (ys : List Message) → All (λ x. f x ≡ true) ys
    → all_to (length ys) (λ i. f (message_at (laid ys) i)) ≡ true
all_laid f ys h = all_of (length ys) (λ i. f (message_at (laid ys) i)) (λ i l. ap f (laid-at ys i l) ∙ all-at h i l)

pub waiting-all : (f : Message → Bool) (p : Pool) → all_to p.count (λ i. f (message_at p i)) ≡ true → All (λ x. f x ≡ true) (waiting p)
waiting-all f p e =
    all-index (waiting p) (λ i l. here i (omega (arith, waiting-short p)))
  where
    here : (i : ℕ) → i < p.count → f (get_or (waiting p) i blank) ≡ true
    here i l = ap f (waiting-at p i l) ∙ each p.count (λ j. f (message_at p j)) i e l

-- ---- what adding, removing and sending keep

module _ {P : Message → Type 0} where
  pub all-added : {xs : List Message} (m : Message) → P m → All P xs → All P (added xs m)
  all-added {xs} m p h = rw (added_is xs m) (go (waits xs m))
    where
      go : (b : Bool) → All P (cond b xs (xs ++ (m ∷ [])))
      go true = h
      go false = all_append h (all_cons p all_nil)

  pub all-removed : {xs : List Message} (i : ℕ) → All P xs → All P (removed_at xs i)
  unfolding removed_at
  all-removed zero all_nil = all_nil
  all-removed (suc i) all_nil = all_nil
  all-removed zero (all_cons p h) = h
  all-removed (suc i) (all_cons p h) = all_cons p (all-removed i h)

  all-sent-to : {xs : List Message} (m : Message) (set n : ℕ) → n ≤ 64 → ((s : ℕ) → s < 64 → has set s ≡ true → P (placed m s)) → All P xs
      → All P (sent_to m set n xs)
  unfolding sent_to
  all-sent-to m set zero l f h = h
  all-sent-to {xs} m set (suc n) l f h = go (has set n) refl (all-sent-to m set n (omega arith) f h)
    where
      go : (b : Bool) → has set n ≡ b → All P (sent_to m set n xs)
          → All P (cond b (added (sent_to m set n xs) (placed m n)) (sent_to m set n xs))
      go true e k = all-added (placed m n) (f n (omega arith) e) k
      go false e k = k

  pub all-sent : {xs : List Message} (m : Message) (set : ℕ) → ((s : ℕ) → s < 64 → has set s ≡ true → P (placed m s)) → All P xs
      → All P (sent m set xs)
  all-sent m set f h = all-sent-to m set 64 (omega arith) f h

  pub all-added-to : {xs : List Message} (to : Found) (m : Message) → ((s : ℕ) → to ≡ Some s → P (placed m s)) → All P xs
      → All P (added_to to m xs)
  all-added-to (Some s) m f h = all-added (placed m s) (f s refl) h
  all-added-to None m f h = h

-- what a plan adds has the property, each for its slot
pub record Fine (P : Message → Type 0) (x : Plan) : Type 0 where
  pub one : (s : ℕ) → x.to ≡ Some s → P (placed x.first s)
  pub rest : (s : ℕ) → s < 64 → has x.all s ≡ true → P (placed x.each s)

pub all-mailed : {P : Message → Type 0} {ys : List Message} {x : Plan} → Fine P x → All P ys → All P (mailed x ys)
unfolding mailed
all-mailed {x = x} f h = all-sent x.each x.all f.rest (all-added-to x.to x.first f.one h)

-- ---- no two are equal

pub data Apart : List Message → Type 0 where
  apart-nil : Apart []
  apart_cons : {x : Message} {xs : List Message} → All (λ y. alike x y ≡ false) xs → Apart xs → Apart (x ∷ xs)

pub apart-at : {xs : List Message} → Apart xs → (i j : ℕ) → i < j → j < length xs → alike (get_or xs i blank) (get_or xs j blank) ≡ false
apart-at apart-nil i j l k = absurd (omega arith)
apart-at (apart_cons d h) i zero l k = absurd (omega arith)
apart-at (apart_cons d h) zero (suc j) l k = all-at d j (omega arith)
apart-at (apart_cons d h) (suc i) (suc j) l k = apart-at h i j (omega arith) (omega arith)

pub apart-index : (xs : List Message) → ((i j : ℕ) → i < j → j < length xs → alike (get_or xs i blank) (get_or xs j blank) ≡ false) → Apart xs
apart-index [] f = apart-nil
apart-index (x ∷ xs) f =
    apart_cons (all-index xs (λ j l. f 0 (suc j) (omega arith) (omega arith)))
    (apart-index xs (λ i j l k. f (suc i) (suc j) (omega arith) (omega arith)))

pub apart-different : (xs : List Message) → Apart xs ↔ (all_different xs ≡ true)
unfolding all_different
apart-different xs = (to, from)
  where
    differs : ℕ → ℕ → Bool
    differs j i = not (alike (get_or xs i blank) (get_or xs j blank))

    to : Apart xs → all_to (length xs) (λ j. all_to j (differs j)) ≡ true
    to h = all_of (length xs) (λ j. all_to j (differs j)) (λ j k. all_of j (differs j) (λ i l. false-not (apart-at h i j l k)))

    from : all_to (length xs) (λ j. all_to j (differs j)) ≡ true → Apart xs
    from e = apart-index xs (λ i j l k. not-true _ (each j (differs j) i (each (length xs) (λ j. all_to j (differs j)) j e k) l))

-- where no equal of m waits, each differs from m
pub waits-not : (xs : List Message) (m : Message) → waits xs m ≡ false → All (λ y. alike y m ≡ false) xs
waits-not [] m e = all_nil
waits-not (x ∷ xs) m e =
    let d : (alike x m || waits xs m) ≡ false = sym (waits-cons x xs m) ∙ e in
    all_cons (or-fails-left (alike x m) (waits xs m) d) (waits-not xs m (or-fails-right (alike x m) (waits xs m) d))

apart-last : {xs : List Message} (m : Message) → Apart xs → All (λ y. alike y m ≡ false) xs → Apart (xs ++ (m ∷ []))
apart-last m apart-nil all_nil = apart_cons all_nil apart-nil
apart-last m (apart_cons d h) (all_cons e k) = apart_cons (all_append d (all_cons e all_nil)) (apart-last m h k)

pub apart-added : {xs : List Message} (m : Message) → Apart xs → Apart (added xs m)
apart-added {xs} m h = rw (added_is xs m) (go (waits xs m) refl)
  where
    go : (b : Bool) → waits xs m ≡ b → Apart (cond b xs (xs ++ (m ∷ [])))
    go true e = h
    go false e = apart-last m h (waits-not xs m e)

pub apart-removed : {xs : List Message} (i : ℕ) → Apart xs → Apart (removed_at xs i)
unfolding removed_at
apart-removed zero apart-nil = apart-nil
apart-removed (suc i) apart-nil = apart-nil
apart-removed zero (apart_cons d h) = h
apart-removed (suc i) (apart_cons d h) = apart_cons (all-removed i d) (apart-removed i h)

apart-sent-to : {xs : List Message} (m : Message) (set n : ℕ) → Apart xs → Apart (sent_to m set n xs)
unfolding sent_to
apart-sent-to m set zero h = h
apart-sent-to {xs} m set (suc n) h = go (has set n) (apart-sent-to m set n h)
  where
    go : (b : Bool) → Apart (sent_to m set n xs) → Apart (cond b (added (sent_to m set n xs) (placed m n)) (sent_to m set n xs))
    go true k = apart-added (placed m n) k
    go false k = k

pub apart-sent : {xs : List Message} (m : Message) (set : ℕ) → Apart xs → Apart (sent m set xs)
apart-sent m set h = apart-sent-to m set 64 h

pub apart-added-to : {xs : List Message} (to : Found) (m : Message) → Apart xs → Apart (added_to to m xs)
apart-added-to (Some s) m h = apart-added (placed m s) h
apart-added-to None m h = h

pub apart-mailed : {ys : List Message} (x : Plan) → Apart ys → Apart (mailed x ys)
unfolding mailed
apart-mailed x h = apart-sent x.each x.all (apart-added-to x.to x.first h)

-- ---- what waits afterwards, and how much

pub added-cases : (xs : List Message) (m : Message) → (added xs m ≡ xs) ⊎ (added xs m ≡ xs ++ (m ∷ []))
added-cases xs m = rw (added_is xs m) (go (waits xs m))
  where
    go : (b : Bool) → (cond b xs (xs ++ (m ∷ [])) ≡ xs) ⊎ (cond b xs (xs ++ (m ∷ [])) ≡ xs ++ (m ∷ []))
    go true = inl refl
    go false = inr refl

pub added-to-cases : (to : Found) (m : Message) (xs : List Message)
    → (added_to to m xs ≡ xs) ⊎ ((s : ℕ) × (to ≡ Some s) × (added_to to m xs ≡ xs ++ (placed m s ∷ [])))
added-to-cases (Some s) m xs = ⊎_elim (λ e. inl e) (λ e. inr (s, refl, e)) (added-cases xs (placed m s))
added-to-cases None m xs = inl refl

pub mailed-is : (x : Plan) (ys : List Message)
    → mailed x ys ≡ added_to x.to x.first ys ++ copies x.each (without x.all (held_of x.each (added_to x.to x.first ys)))
unfolding mailed
mailed-is x ys = sent_is x.each x.all (added_to x.to x.first ys)

-- what waited before stands in front, as it stood
pub mailed-after : (x : Plan) (ys : List Message) → (zs : List Message) × (mailed x ys ≡ ys ++ zs)
mailed-after x ys = go (added-to-cases x.to x.first ys)
  where
    first : List Message
    first = added_to x.to x.first ys

    new : List Message
    new = copies x.each (without x.all (held_of x.each first))

    go : (first ≡ ys) ⊎ ((s : ℕ) × (x.to ≡ Some s) × (first ≡ ys ++ (placed x.first s ∷ [])))
        → (zs : List Message) × (mailed x ys ≡ ys ++ zs)
    go (inl e) = (new, mailed-is x ys ∙ ap (λ (l : List Message). l ++ new) e)
    go (inr e) =
        let z = placed x.first e.0 in
        (z ∷ new, mailed-is x ys ∙ ap (λ (l : List Message). l ++ new) e.2 ∙ append_snoc ys z new)

pub mailed-quiet : (v : Node) (ys : List Message) → mailed (quiet_plan v) ys ≡ ys
unfolding mailed
mailed-quiet v ys = sent-none blank ys

pub mailed-send : (via : Via) (v : Node) (m : Message) (s : ℕ) (ys : List Message) → mailed (send_by via v m s) ys ≡ added ys (placed m s)
unfolding mailed
mailed-send via v m s ys = sent-none blank (added ys (placed m s))

pub added-length : (xs : List Message) (m : Message) → (length xs ≤ length (added xs m)) × (length (added xs m) ≤ length xs + 1)
added-length xs m = go (added-cases xs m)
  where
    go : (added xs m ≡ xs) ⊎ (added xs m ≡ xs ++ (m ∷ [])) → (length xs ≤ length (added xs m)) × (length (added xs m) ≤ length xs + 1)
    go (inl e) = rw e (omega arith, omega arith)
    go (inr e) = rw (e, length-append) (omega arith, omega arith)

pub sent-length : (m : Message) (set : ℕ) (xs : List Message) → length (sent m set xs) ≤ length xs + size_of set
sent-length m set xs =
    let fresh = without set (held_of m xs) in
    let part : size_of fresh ≤ size_of set =
    size_mono fresh set (λ s l p. and_left (has set s) (not (has (held_of m xs) s)) (sym (has-without set (held_of m xs) s l) ∙ p)) in
    rw (sent_is m set xs, length-append, copies_length) (omega arith)

pub added-to-length : (to : Found) (m : Message) (xs : List Message)
    → (length xs ≤ length (added_to to m xs)) × (length (added_to to m xs) ≤ length xs + 1)
added-to-length (Some s) m xs = added-length xs (placed m s)
added-to-length None m xs = (omega arith, omega arith)

pub mailed-length : (x : Plan) (ys : List Message)
    → (length ys ≤ length (mailed x ys)) × (length (mailed x ys) ≤ length ys + 1 + size_of x.all)
unfolding mailed
mailed-length x ys =
    let one = added-to-length x.to x.first ys in
    let xs = added_to x.to x.first ys in
    (omega (arith, sent-longer x.each x.all xs), omega (arith, sent-length x.each x.all xs))
