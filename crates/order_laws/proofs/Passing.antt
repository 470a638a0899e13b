-- How many of a list of messages pass a test: of two lists in a row, of one with a message less, and of a list in which some, none or one at the most
-- passes. By induction on the list; nothing is known of a test. Assumes nothing.
use mathlib.Core.Path.{◌≡◌, refl, sym, ◌∙◌, ap}
use mathlib.Core.Bool.{Bool, true, false, cond, ◌||◌}
use mathlib.Core.List.{List, [], ◌∷◌, ◌++◌}
use Prim.Native.Nat.{ℕ, zero, suc, ◌+◌, ◌<◌, ◌≤◌}
use native.Mathlib.Omega.{arith}
use borrow.Author.Tests.{lt-ltb}
use lib.Dec.{ltb}
use lib.ListN.{get_or, length}
use Rattle.rules.specs.declared.Message.{Message}
use Rattle.rules.specs.Mail.{alike, removed_at}
use Rattle.rules.specs.Pool.{blank}
use Rattle.marks.proofs.Bools.{bool_false, opposed}
use Rattle.pool_laws.proofs.Laws.{All, all_nil, all_cons, all_map, Apart, apart-nil, apart_cons, alike-sym, alike_refl, alike-trans}
use Rattle.order_laws.specs.Order.{passing}

-- one more
abbrev pub one : Bool → ℕ
one b = cond b 1 0

module _ (f : Message → Bool) where
  pub passing-append : (xs ys : List Message) → passing f (xs ++ ys) ≡ passing f xs + passing f ys
  unfolding passing
  passing-append [] ys = omega arith
  passing-append (x ∷ xs) ys = rw (passing-append xs ys) (omega arith)

  pub passing-removed : (xs : List Message) (i : ℕ) → i < length xs → passing f (removed_at xs i) + one (f (get_or xs i blank)) ≡ passing f xs
  unfolding passing removed_at
  passing-removed [] i h = absurd (omega arith)
  passing-removed (x ∷ xs) zero h = omega arith
  passing-removed (x ∷ xs) (suc i) h = omega (arith, passing-removed xs i (omega arith))

  -- ---- none passes

  pub none_pass : {xs : List Message} → All (λ x. f x ≡ false) xs → passing f xs ≡ 0
  unfolding passing
  none_pass all_nil = refl
  none_pass (all_cons e h) = rw (e, none_pass h) refl

  pub pass-none : (xs : List Message) → passing f xs ≡ 0 → All (λ x. f x ≡ false) xs
  unfolding passing
  pass-none [] e = all_nil
  pass-none (x ∷ xs) e = go (f x) refl e (pass-none xs)
    where
      go : (b : Bool) → f x ≡ b → one b + passing f xs ≡ 0 → (passing f xs ≡ 0 → All (λ x. f x ≡ false) xs) → All (λ x. f x ≡ false) (x ∷ xs)
      go true d e rest = absurd (omega arith)
      go false d e rest = all_cons d (rest (omega arith))

  -- ---- some passes

  pub passes : (xs : List Message) (i : ℕ) → i < length xs → f (get_or xs i blank) ≡ true → 0 < passing f xs
  passes xs i h e = let d : passing f (removed_at xs i) + one true ≡ passing f xs = rw e at (passing-removed xs i h) in omega arith

  pub passing-place : (xs : List Message) → 0 < passing f xs → (i : ℕ) × (i < length xs) × (f (get_or xs i blank) ≡ true)
  unfolding passing
  passing-place [] h = absurd (omega arith)
  passing-place (x ∷ xs) h = go (f x) refl h (passing-place xs)
    where
      go : (b : Bool) → f x ≡ b → 0 < one b + passing f xs → (0 < passing f xs → (i : ℕ) × (i < length xs) × (f (get_or xs i blank) ≡ true))
          → (i : ℕ) × (i < length (x ∷ xs)) × (f (get_or (x ∷ xs) i blank) ≡ true)
      go true d h rest = (0, omega arith, d)
      go false d h rest = let r = rest (omega arith) in (suc r.0, omega (arith, r.1), r.2)

  -- a test of a list that asks whether some message passes
  pub some-passes : (w : List Message → Bool) → w [] ≡ false → ((x : Message) (xs : List Message) → w (x ∷ xs) ≡ (f x || w xs))
      → (xs : List Message) → w xs ≡ ltb 0 (passing f xs)
  unfolding passing
  some-passes w none more [] = none
  some-passes w none more (x ∷ xs) = more x xs ∙ rw (some-passes w none more xs) (go (f x))
    where
      go : (b : Bool) → (b || ltb 0 (passing f xs)) ≡ ltb 0 (one b + passing f xs)
      go true = sym (lt-ltb 0 (1 + passing f xs) (omega arith))
      go false = let e : passing f xs ≡ 0 + passing f xs = omega arith in ap (ltb 0) e

pub passing-every : (xs : List Message) → passing (λ x. true) xs ≡ length xs
unfolding passing
passing-every [] = refl
passing-every (x ∷ xs) = rw (passing-every xs) (omega arith)

-- ---- no two are equal exactly if of the messages equal to any one there is one at the most

pub apart-few : {xs : List Message} → Apart xs → (m : Message) → passing (alike m) xs ≤ 1
unfolding passing
apart-few apart-nil m = omega arith
apart-few {xs = x ∷ xs} (apart_cons d h) m = go (alike m x) refl (apart-few h m)
  where
    other : alike m x ≡ true → (y : Message) → alike x y ≡ false → alike m y ≡ false
    other e y n = bool_false (alike m y) (λ a. opposed (alike-trans x m y (alike-sym x m ∙ e) a) n)

    go : (b : Bool) → alike m x ≡ b → passing (alike m) xs ≤ 1 → one b + passing (alike m) xs ≤ 1
    go true e l = omega (arith, none_pass (alike m) (all_map (other e) d))
    go false e l = omega arith

pub few-apart : (xs : List Message) → ((m : Message) → passing (alike m) xs ≤ 1) → Apart xs
unfolding passing
few-apart [] h = apart-nil
few-apart (x ∷ xs) h = apart_cons (pass-none (alike x) xs first) (few-apart xs (λ m. rest m (alike m x) (h m)))
  where
    first : passing (alike x) xs ≡ 0
    first = let d : one true + passing (alike x) xs ≤ 1 = rw (alike_refl x) at (h x) in omega arith

    rest : (m : Message) (b : Bool) → one b + passing (alike m) xs ≤ 1 → passing (alike m) xs ≤ 1
    rest m b l = omega arith
