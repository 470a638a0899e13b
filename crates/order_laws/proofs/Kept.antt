-- What two pools with the same messages share: their length, whether a request waits, whether all obey a rule and no two are equal, and so validity;
-- and that removing, adding and sending keep it. Nothing is known of a message's rule, nor of when two are equal but that it is an equivalence.
-- Assumes nothing.
use Rattle.std.specs.Prelude.{Some, None}
use mathlib.Core.Path.{◌≡◌, refl, sym, ◌∙◌, ap}
use mathlib.Core.Logic.{◌⊎◌, inl, inr}
use mathlib.Core.Bool.{Bool, true, false, cond, ◌&&◌, ◌||◌, not}
use mathlib.Core.List.{List, [], ◌∷◌, ◌++◌}
use Prim.Native.Nat.{ℕ, zero, suc, ◌+◌, ◌<◌, ◌≤◌}
use native.Mathlib.Omega.{arith}
use borrow.Author.Tests.{not-false}
use lib.Dec.{eqb, ltb}
use lib.ListN.{get_or, length, get_or-eq_default}
use Rattle.marks.specs.Marks.{has, all_to, Found}
use Rattle.marks.proofs.Bools.{bool_same, true-not, lt-or-le}
use Rattle.marks.proofs.Laws.{each, all_of}
use Rattle.rules.specs.declared.Message.{Message}
use Rattle.rules.specs.declared.Plan.{Plan}
use Rattle.rules.specs.declared.Pool.{Pool}
use Rattle.rules.specs.Mail.{waits, join_waits, is_probe_from, without_probes, reply_waits, alike, all_different, added, removed_at, sent_to}
use Rattle.rules.specs.Fits.{message_fits, hops_fit}
use Rattle.rules.specs.Nodes.{placed}
use Rattle.rules.specs.Plans.{added_to, mailed}
use Rattle.rules.specs.Pool.{blank, message_at, waiting, laid}
use Rattle.table_type.specs.declared.Table.{Table}
use Rattle.table_type.specs.Table.{ids_of, ring_of}
use Rattle.step.specs.Step.{is_sound}
use Rattle.table.specs.Valid.{messages_fit, pool_fits, valid_of}
use Rattle.pool_laws.proofs.Laws.{All, all-at, all_map, apart-different, waits-nil, waits-cons, added_is, waiting-at, waiting-all, waiting-laid}
use Rattle.order_laws.specs.Order.{passing, SameMail, SamePool}
use Rattle.order_laws.proofs.Passing.{one, passing-append, passing-removed, passing-every, none_pass, pass-none, some-passes}
use Rattle.order_laws.proofs.Passing.{apart-few, few-apart}

pub mail-self : (xs : List Message) → SameMail xs xs
mail-self xs = record { tested = λ f. refl }

pub mail-back : {xs ys : List Message} → SameMail xs ys → SameMail ys xs
mail-back h = record { tested = λ f. sym (h.tested f) }

pub mail-on : {xs ys zs : List Message} → SameMail xs ys → SameMail ys zs → SameMail xs zs
mail-on h k = record { tested = λ f. h.tested f ∙ k.tested f }

pub pool-on : {p q r : Pool} → SamePool p q → SamePool q r → SamePool p r
pool-on s k = record { counted = omega (arith, s.counted, k.counted); mail = mail-on s.mail k.mail }

pub pool-back : {p q : Pool} → SamePool p q → SamePool q p
pool-back s = record { counted = omega (arith, s.counted); mail = mail-back s.mail }

-- ---- of the same messages

module _ {xs ys : List Message} (h : SameMail xs ys) where
  pub same_length : length xs ≡ length ys
  same_length = sym (passing-every xs) ∙ h.tested (λ x. true) ∙ passing-every ys

  -- whether some message passes
  some_same : (f : Message → Bool) (w : List Message → Bool) → w [] ≡ false → ((x : Message) (zs : List Message) → w (x ∷ zs) ≡ (f x || w zs))
      → w xs ≡ w ys
  some_same f w none more = some-passes f w none more xs ∙ ap (ltb 0) (h.tested f) ∙ sym (some-passes f w none more ys)

  pub waits-same : (m : Message) → waits xs m ≡ waits ys m
  waits-same m = some_same (λ x. alike x m) (λ zs. waits zs m) (waits-nil m) (λ x zs. waits-cons x zs m)

  pub join-waits-same : (i : ℕ) → join_waits xs i ≡ join_waits ys i
  unfolding join_waits
  join-waits-same i = some_same (λ x. eqb x.kind 2 && eqb x.word i) (λ zs. join_waits zs i) refl (λ x zs. refl)

  pub reply-waits-same : (i : ℕ) → reply_waits xs i ≡ reply_waits ys i
  unfolding reply_waits
  reply-waits-same i = some_same (λ x. eqb x.kind 3 && eqb x.dest i) (λ zs. reply_waits zs i) refl (λ x zs. refl)

  -- a test that all of the one list pass, all of the other pass
  pub all-same-mail : (f : Message → Bool) → All (λ x. f x ≡ true) xs → All (λ x. f x ≡ true) ys
  all-same-mail f a =
      all_map (λ x e. not-false (f x) e)
      (pass-none (λ x. not (f x)) ys (sym (h.tested (λ x. not (f x))) ∙ none_pass (λ x. not (f x)) (all_map (λ x e. true-not e) a)))

  different-then : all_different xs ≡ true → all_different ys ≡ true
  different-then e =
      let a = (apart-different xs).1 e in
      (apart-different ys).0 (few-apart ys (λ m. omega (arith, apart-few a m, h.tested (alike m))))

pub different-same : {xs ys : List Message} → SameMail xs ys → all_different xs ≡ all_different ys
different-same h = bool_same _ _ (different-then h) (different-then (mail-back h))

-- ---- validity

-- a place without a message, where there are fewer places than the count says
pub none-at : (p : Pool) (i : ℕ) → i < p.count → length (waiting p) ≤ i → message_at p i ≡ blank
none-at p i l h = sym (waiting-at p i l) ∙ get_or-eq_default (waiting p) blank h

module _ {p q : Pool} (s : SamePool p q) (f : Message → Bool) where
  fits-then : all_to p.count (λ i. f (message_at p i)) ≡ true → all_to q.count (λ i. f (message_at q i)) ≡ true
  fits-then e = all_of q.count (λ i. f (message_at q i)) (λ i l. go i l (lt-or-le i (length (waiting q))))
    where
      go : (i : ℕ) → i < q.count → (i < length (waiting q)) ⊎ (length (waiting q) ≤ i) → f (message_at q i) ≡ true
      go i l (inl h) = ap f (sym (waiting-at q i l)) ∙ all-at (all-same-mail s.mail f (waiting-all f p e)) i h
      go i l (inr h) =
          let k : i < p.count = omega (arith, s.counted) in
          ap f (none-at q i l h ∙ sym (none-at p i k (omega (arith, same_length s.mail)))) ∙ each p.count (λ j. f (message_at p j)) i e k

pub fits-same : {p q : Pool} → SamePool p q → (f : Message → Bool)
    → all_to p.count (λ i. f (message_at p i)) ≡ all_to q.count (λ i. f (message_at q i))
fits-same s f = bool_same _ _ (fits-then s f) (fits-then (pool-back s) f)

module _ {p q : Pool} (s : SamePool p q) (t : Table) where
  pub valid_same : valid_of t p ≡ valid_of t q
  unfolding valid_of pool_fits messages_fit
  valid_same =
      let good : Message → Bool = λ m. message_fits (ring_of t) m && hops_fit (ring_of t) (ids_of t) m in
      rw (fits-same s good, different-same s.mail, s.counted)

  pub sound-same : (len : ℕ) → is_sound t p len ≡ is_sound t q len
  unfolding is_sound
  sound-same len = rw valid_same

-- ---- what is kept

module _ {xs ys : List Message} (h : SameMail xs ys) where
  pub kept-behind : (m : Message) → SameMail (xs ++ (m ∷ [])) (ys ++ (m ∷ []))
  kept-behind m =
      record { tested = λ f. omega (arith, passing-append f xs (m ∷ []), h.tested f, passing-append f ys (m ∷ [])) }

  pub kept-added : (m : Message) → SameMail (added xs m) (added ys m)
  kept-added m = rw (added_is xs m, added_is ys m, waits-same h m) (go (waits ys m))
    where
      go : (b : Bool) → SameMail (cond b xs (xs ++ (m ∷ []))) (cond b ys (ys ++ (m ∷ [])))
      go true = h
      go false = kept-behind m

  -- the same message less
  pub kept-removed : (r s : ℕ) → r < length xs → s < length ys → get_or xs r blank ≡ get_or ys s blank → SameMail (removed_at xs r) (removed_at ys s)
  kept-removed r s j k e = record { tested = same }
    where
      same : (f : Message → Bool) → passing f (removed_at xs r) ≡ passing f (removed_at ys s)
      same f =
          let d : one (f (get_or xs r blank)) ≡ one (f (get_or ys s blank)) = ap (λ (m : Message). one (f m)) e in
          omega (arith, d, h.tested f, passing-removed f xs r j, passing-removed f ys s k)

-- the messages that stay
left-passing : (f : Message → Bool) (i j : ℕ) (xs : List Message) → passing f (without_probes xs i j) ≡ passing (λ x. not (is_probe_from i j x) && f x) xs
unfolding passing without_probes
left-passing f i j [] = refl
left-passing f i j (x ∷ xs) = go (is_probe_from i j x) (left-passing f i j xs)
  where
    go : (b : Bool) → passing f (without_probes xs i j) ≡ passing (λ x. not (is_probe_from i j x) && f x) xs
        → passing f (cond b (without_probes xs i j) (x ∷ without_probes xs i j))
        ≡ one (not b && f x) + passing (λ x. not (is_probe_from i j x) && f x) xs
    go true e = omega (arith, e)
    go false e = omega (arith, e)

pub kept-probes : {xs ys : List Message} → SameMail xs ys → (i j : ℕ) → SameMail (without_probes xs i j) (without_probes ys i j)
kept-probes {xs} {ys} h i j =
    record { tested = λ f. left-passing f i j xs ∙ h.tested (λ x. not (is_probe_from i j x) && f x) ∙ sym (left-passing f i j ys) }

kept-sent : {xs ys : List Message} → SameMail xs ys → (m : Message) (set n : ℕ) → SameMail (sent_to m set n xs) (sent_to m set n ys)
unfolding sent_to
kept-sent h m set zero = h
kept-sent {xs} {ys} h m set (suc n) = go (has set n) (kept-sent h m set n)
  where
    go : (b : Bool) → SameMail (sent_to m set n xs) (sent_to m set n ys)
        → SameMail (cond b (added (sent_to m set n xs) (placed m n)) (sent_to m set n xs))
        (cond b (added (sent_to m set n ys) (placed m n)) (sent_to m set n ys))
    go true k = kept-added k (placed m n)
    go false k = k

kept-first : {xs ys : List Message} → SameMail xs ys → (to : Found) (m : Message) → SameMail (added_to to m xs) (added_to to m ys)
kept-first h (Some s) m = kept-added h (placed m s)
kept-first h None m = h

pub kept-mailed : {xs ys : List Message} → SameMail xs ys → (x : Plan) → SameMail (mailed x xs) (mailed x ys)
unfolding mailed
kept-mailed h x = kept-sent (kept-first h x.to x.first) x.each x.all 64

-- laid out as pools
pub kept-laid : {xs ys : List Message} → SameMail xs ys → SamePool (laid xs) (laid ys)
kept-laid {xs} {ys} h = record { counted = same_length h; mail = rw (waiting-laid xs, waiting-laid ys) h }
