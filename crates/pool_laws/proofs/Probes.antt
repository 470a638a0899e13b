-- The waiting probes that have timed out. The idea: what is left is the list without the messages that pass a test, so it keeps what all have and that no two are
-- equal, is no longer than the list, and holds every message that does not pass, as many places further to the front as messages before it pass. By induction
-- on the list; for the loop that makes it, from the front: a message more is added behind, or is not (`left-more`). Assumes nothing.
use mathlib.Core.Path.{◌≡◌, refl, sym, ◌∙◌, ap}
use mathlib.Core.Bool.{Bool, true, false, cond}
use mathlib.Core.List.{List, [], ◌∷◌, ◌++◌, append-nil, append_assoc}
use Prim.Native.Nat.{ℕ, zero, suc, ◌+◌, ◌-◌, ◌<◌, ◌≤◌}
use native.Mathlib.Omega.{arith}
use lib.ListN.{length, length-append, get_or, set, take, replicate}
use Rattle.rules.specs.declared.Message.{Message}
use Rattle.rules.specs.declared.Pool.{Pool}
use Rattle.rules.specs.Mail.{is_probe_from, without_probes}
use Rattle.rules.specs.Pool.{blank, lay}
use Rattle.pool_laws.proofs.Laws.{All, all_nil, all_cons, Apart, apart-nil, apart_cons}
use Rattle.pool_laws.proofs.Places.{taken_more}

abbrev pool : ℕ → List Message → Pool
pool count places = record { count = count; places = places }

-- how many of the first q messages go
unfoldable pub gone_before : List Message → ℕ → ℕ → ℕ → ℕ
gone_before [] i j q = 0
gone_before (x ∷ xs) i j zero = 0
gone_before (x ∷ xs) i j (suc q) = cond (is_probe_from i j x) 1 0 + gone_before xs i j q

module _ (i j : ℕ) where
  -- ---- what is left

  pub left-short : (xs : List Message) → length (without_probes xs i j) ≤ length xs
  unfolding without_probes
  left-short [] = omega arith
  left-short (x ∷ xs) = go (is_probe_from i j x) (left-short xs)
    where
      go : (b : Bool) → length (without_probes xs i j) ≤ length xs
          → length (cond b (without_probes xs i j) (x ∷ without_probes xs i j)) ≤ length (x ∷ xs)
      go true l = omega arith
      go false l = omega arith

  pub all_left : {P : Message → Type 0} {xs : List Message} → All P xs → All P (without_probes xs i j)
  unfolding without_probes
  all_left all_nil = all_nil
  all_left {P} {xs = x ∷ xs} (all_cons p h) = go (is_probe_from i j x) (all_left h)
    where
      go : (b : Bool) → All P (without_probes xs i j) → All P (cond b (without_probes xs i j) (x ∷ without_probes xs i j))
      go true k = k
      go false k = all_cons p k

  pub apart-left : {xs : List Message} → Apart xs → Apart (without_probes xs i j)
  unfolding without_probes
  apart-left apart-nil = apart-nil
  apart-left {xs = x ∷ xs} (apart_cons d h) = go (is_probe_from i j x) (apart-left h)
    where
      go : (b : Bool) → Apart (without_probes xs i j) → Apart (cond b (without_probes xs i j) (x ∷ without_probes xs i j))
      go true k = k
      go false k = apart_cons (all_left d) k

  -- none of them is left
  pub none_left : (xs : List Message) → All (λ x. is_probe_from i j x ≡ false) (without_probes xs i j)
  unfolding without_probes
  none_left [] = all_nil
  none_left (x ∷ xs) = go (is_probe_from i j x) refl (none_left xs)
    where
      go : (b : Bool) → is_probe_from i j x ≡ b → All (λ y. is_probe_from i j y ≡ false) (without_probes xs i j)
          → All (λ y. is_probe_from i j y ≡ false) (cond b (without_probes xs i j) (x ∷ without_probes xs i j))
      go true e k = k
      go false e k = all_cons e k

  -- ---- where a message stands afterwards

  pub gone-few : (xs : List Message) (q : ℕ) → gone_before xs i j q ≤ q
  unfolding gone_before
  gone-few [] q = omega arith
  gone-few (x ∷ xs) zero = omega arith
  gone-few (x ∷ xs) (suc q) = go (is_probe_from i j x) (gone-few xs q)
    where
      go : (b : Bool) → gone_before xs i j q ≤ q → cond b 1 0 + gone_before xs i j q ≤ suc q
      go true l = omega arith
      go false l = omega arith

  -- a message that is none of them stays, and comes as many places to the front as go before it
  pub stays : (xs : List Message) (q : ℕ) → q < length xs → is_probe_from i j (get_or xs q blank) ≡ false
      → (q - gone_before xs i j q < length (without_probes xs i j))
      × (get_or (without_probes xs i j) (q - gone_before xs i j q) blank ≡ get_or xs q blank)
  unfolding without_probes gone_before
  stays [] q l e = absurd (omega arith)
  stays (x ∷ xs) zero l e = rw e (omega arith, refl)
  stays (x ∷ xs) (suc q) l e = go (is_probe_from i j x) (without_probes xs i j) (gone-few xs q) (stays xs q (omega arith) e)
    where
      go : (b : Bool) (rest : List Message) → gone_before xs i j q ≤ q
          → (q - gone_before xs i j q < length rest) × (get_or rest (q - gone_before xs i j q) blank ≡ get_or xs q blank)
          → (suc q - (cond b 1 0 + gone_before xs i j q) < length (cond b rest (x ∷ rest)))
          × (get_or (cond b rest (x ∷ rest)) (suc q - (cond b 1 0 + gone_before xs i j q)) blank ≡ get_or xs q blank)
      go true rest f h =
          let e : suc q - (1 + gone_before xs i j q) ≡ q - gone_before xs i j q = omega arith in
          rw e h
      go false rest f h =
          let e : suc q - (0 + gone_before xs i j q) ≡ suc (q - gone_before xs i j q) = omega arith in
          rw e (omega (arith, h.0), h.1)

  -- ---- the loop

  left-append : (xs ys : List Message) → without_probes (xs ++ ys) i j ≡ without_probes xs i j ++ without_probes ys i j
  unfolding without_probes
  left-append [] ys = refl
  left-append (x ∷ xs) ys = go (is_probe_from i j x) (left-append xs ys)
    where
      go : (b : Bool) → without_probes (xs ++ ys) i j ≡ without_probes xs i j ++ without_probes ys i j
          → cond b (without_probes (xs ++ ys) i j) (x ∷ without_probes (xs ++ ys) i j)
          ≡ cond b (without_probes xs i j) (x ∷ without_probes xs i j) ++ without_probes ys i j
      go true e = e
      go false e = ap (λ (l : List Message). x ∷ l) e

  one_left : (m : Message) → without_probes (m ∷ []) i j ≡ cond (is_probe_from i j m) [] (m ∷ [])
  unfolding without_probes
  one_left m = refl

-- a list laid out in 256 places, with one message more behind it
set-behind : (xs : List Message) (b m : Message) (zs : List Message) → set (xs ++ (b ∷ zs)) (length xs) m ≡ xs ++ (m ∷ zs)
set-behind [] b m zs = refl
set-behind (x ∷ xs) b m zs = ap (λ (l : List Message). x ∷ l) (set-behind xs b m zs)

lay-more : (xs : List Message) (m : Message) → length xs < 256 → set (lay xs) (length xs) m ≡ lay (xs ++ (m ∷ []))
lay-more xs m h =
    let k : 256 - length xs ≡ suc (256 - (length xs + 1)) = omega arith in
    ap (λ (n : ℕ). set (xs ++ replicate n blank) (length xs) m) k ∙ set-behind xs blank m (replicate (256 - (length xs + 1)) blank)
    ∙ sym (append_assoc xs (m ∷ []) (replicate (256 - (length xs + 1)) blank))
    ∙ ap (λ (n : ℕ). (xs ++ (m ∷ [])) ++ replicate (256 - n) blank) (sym (length-append xs (m ∷ [])))

-- of the first `at` messages those that stay are written, and counted
pub record Kept (i j : ℕ) (from : List Message) (at count : ℕ) (places : List Message) : Type 0 where
  pub counted : count ≡ length (without_probes (take at from) i j)
  pub written : places ≡ lay (without_probes (take at from) i j)

module _ (i j : ℕ) (from : List Message) where
  pub kept-none : Kept i j from 0 0 (replicate 256 blank)
  unfolding without_probes
  kept-none = record { counted = refl; written = refl }

  module _ {at count : ℕ} {places : List Message} (h : at < length from) (k : Kept i j from at count places) where
    left-more : without_probes (take (at + 1) from) i j
        ≡ without_probes (take at from) i j ++ cond (is_probe_from i j (get_or from at blank)) [] (get_or from at blank ∷ [])
    left-more =
        ap (λ (l : List Message). without_probes l i j) (taken_more from at h) ∙ left-append i j (take at from) (get_or from at blank ∷ [])
        ∙ ap (λ (l : List Message). without_probes (take at from) i j ++ l) (one_left i j (get_or from at blank))

    pub kept-took : count < 256 → is_probe_from i j (get_or from at blank) ≡ false
        → Kept i j from (at + 1) (count + 1) (set places count (get_or from at blank))
    kept-took l e =
        let m = get_or from at blank in
        let xs = without_probes (take at from) i j in
        let more : without_probes (take (at + 1) from) i j ≡ xs ++ (m ∷ []) = rw e at left-more in
        record {
          counted = rw (more, length-append) (ap (λ (n : ℕ). n + 1) k.counted);
          written = rw (more, k.written, k.counted) (lay-more xs m (omega (arith, k.counted)));
        }

    pub kept-passed : is_probe_from i j (get_or from at blank) ≡ true → Kept i j from (at + 1) count places
    kept-passed e =
        let xs = without_probes (take at from) i j in
        let more : without_probes (take (at + 1) from) i j ≡ xs = (rw e at left-more) ∙ append-nil xs in
        record { counted = rw more k.counted; written = rw more k.written }
