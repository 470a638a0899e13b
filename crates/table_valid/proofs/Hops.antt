-- The hops of a lookup, on plain values. Which way leads from an id away from the key is told by the two falls between them, and another id is farther by
-- the ways that lead there on that side (`far-up`, `far-down`). A message other than a lookup carries none. Assumes nothing.
use mathlib.Core.Path.{◌≡◌, sym, ◌∙◌, ap}
use mathlib.Core.Logic.{◌⊎◌, inl, inr}
use mathlib.Core.List.{List}
use mathlib.Core.Bool.{Bool, true, false, ◌&&◌, not, and_comm}
use Prim.Native.Nat.{ℕ, ◌+◌, ◌*◌, ◌^◌, ◌<◌, ◌≤◌}
use native.Mathlib.Omega.{arith}
use borrow.Author.Tests.{lt-ltb, le-ltb, ltb-true, ltb-false, le-leb, lt-leb, ne_eqb}
use lib.Dec.{eqb, leb, ltb}
use Rattle.ring.specs.Distance.{fall_of, nearer, rises_to}
use Rattle.ring.proofs.Falls.{ring-at}
use Rattle.ring.proofs.Falls.{Ring as Even}
use Rattle.ring.proofs.Order.{rises-is}
use Rattle.marks.proofs.Bools.{and_left, lt-or-le}
use Rattle.rules.specs.declared.Ring.{Ring}
use Rattle.rules.specs.declared.Message.{Message}
use Rattle.rules.specs.InnerAsks.{Inside, Listed}
use Rattle.rules.specs.InnerSteps.{steps_of}
use Rattle.rules.specs.Pick.{id_at}
use Rattle.rules.specs.Fits.{word_fits, fields_fit, message_fits, farther_than, hops_fit}
use Rattle.rules_laws.proofs.Steps.{steps-self, ids-inj}
use Rattle.rules_laws.proofs.Capped.{farther-up, farther-down, farther-low}

not-leb : (x y : ℕ) → not (leb x y) ≡ ltb y x
not-leb x y = go (lt-or-le y x)
  where
    go : (y < x) ⊎ (x ≤ y) → not (leb x y) ≡ ltb y x
    go (inl h) = rw (lt-leb x y h) (sym (lt-ltb y x h))
    go (inr h) = rw (le-leb x y h) (sym (le-ltb y x h))

-- ---- ways from an id i to a key k

module _ {m k i : ℕ} (h : Inside m k i) where
  even : Even (2 ^ m)
  even = ring-at m h.width.low

  pub falls-is : ltb (fall_of (2 ^ m) i k) (fall_of (2 ^ m) k i) ≡ not (rises_to (2 ^ m) k i)
  falls-is = sym (rw (rises-is (2 ^ m) even k i h.first h.second) (not-leb (fall_of (2 ^ m) k i) (fall_of (2 ^ m) i k)))

  -- another id j
  module _ {j : ℕ} (o : Inside m i j) (apart : j ≡ i → ⊥) where
    pub far-up : not (rises_to (2 ^ m) k i) ≡ true → ltb (2 * fall_of (2 ^ m) i k) (fall_of (2 ^ m) i j) ≡ nearer (2 ^ m) k i j
    far-up e =
        let N = 2 ^ m in
        let twice : 2 * fall_of N i k ≡ fall_of N i k + fall_of N i k = omega arith in
        rw twice (sym (farther-up N even k i j h.first h.second o.second apart (ltb-true _ _ (falls-is ∙ e))))

    pub far-down : not (rises_to (2 ^ m) k i) ≡ false → leb (2 * fall_of (2 ^ m) k i) (fall_of (2 ^ m) j i) ≡ nearer (2 ^ m) k i j
    far-down e =
        let N = 2 ^ m in
        let twice : 2 * fall_of N k i ≡ fall_of N k i + fall_of N k i = omega arith in
        rw twice (sym (farther-down N even k i j h.first h.second o.second apart (ltb-false _ _ (falls-is ∙ e))))

-- ---- slots

-- the slot at one step or more has another id
pub other-id : {g : Ring} {ids : List ℕ} → Listed g ids → (up : Bool) (d h s : ℕ) → d < g.n → s < g.n → 1 ≤ h → steps_of up g.n d s ≡ h
    → id_at ids s ≡ id_at ids d → ⊥
other-id {g} v up d h s hd hs one at e =
    omega (arith, at, ap (steps_of up g.n d) (ids-inj v s d hs hd e), steps-self g.n d hd up)

pub all-nodes-passed : (g : Ring) (ids : List ℕ) (k d h : ℕ) → d < g.n → g.n ≤ h → false ≡ leb h (farther_than g ids k d)
all-nodes-passed g ids k d h hd far = sym (lt-leb h (farther_than g ids k d) (omega (arith, farther-low g ids k d hd)))

-- ---- messages

pub key_in : (g : Ring) (m : Message) → fields_fit 1 g m ≡ true → m.word < 2 ^ g.m
unfolding fields_fit word_fits
key_in g m e = ltb-true m.word (2 ^ g.m) (and_left (ltb m.word (2 ^ g.m)) _ e)

pub lookup-is : (g : Ring) (ids : List ℕ) (m : Message) → m.kind ≡ 1
    → (ltb m.dest g.n && fields_fit 1 g m && leb m.hops (farther_than g ids m.word m.dest)) ≡ (message_fits g m && hops_fit g ids m)
unfolding message_fits hops_fit
lookup-is g ids m e = rw e

pub other-is : (g : Ring) (ids : List ℕ) (m : Message) → (m.kind ≡ 1 → ⊥)
    → (eqb m.hops 0 && message_fits g m) ≡ (message_fits g m && hops_fit g ids m)
unfolding hops_fit
other-is g ids m e = rw (ne_eqb m.kind 1 e) (and_comm (eqb m.hops 0) (message_fits g m))
