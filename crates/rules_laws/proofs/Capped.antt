-- The bound on a lookup's hops without a walk. Of the listed nodes, those farther from key k than slot d are the first ones on the walk that leads from d
-- away from k: up where k is reached from d by falling, else down. So h hops, from 1 to n - 1, are at most as many as are farther exactly if the slot at h
-- steps is farther (`capped`): one comparison of distances. They are never n or more (`farther-low`). Assumes nothing.
use mathlib.Core.Path.{◌≡◌, sym, ◌∙◌, ap}
use mathlib.Core.Logic.{◌⊎◌, inl, inr, ⊎_elim}
use mathlib.Core.List.{List}
use mathlib.Core.Bool.{Bool, true, false, ◌||◌, not}
use Prim.Native.Nat.{ℕ, zero, suc, ◌+◌, ◌-◌, ◌^◌, ◌<◌, ◌≤◌}
use native.Mathlib.Omega.{arith}
use borrow.Author.Tests.{lt-ltb, le-ltb, ltb-true, leb-true, le-leb, leb-false, ltb-false, eq-eqb, eqb-true, not-true, not-false}
use lib.Dec.{ltb, leb, eqb}
use Rattle.ring.specs.Distance.{fall_of, nearer, rises_to}
use Rattle.ring.proofs.Falls.{fall-lt, rounds, rounds-apart, ring-at}
use Rattle.ring.proofs.Falls.{Ring as Even}
use Rattle.ring.proofs.Order.{nearer-irreflexive, rises-is}
use Rattle.ring.proofs.Cover.{half_up, half_down}
use Rattle.marks.specs.Marks.{tally}
use Rattle.marks.proofs.Bools.{opposed, bool_same, bool_false, bool-true, or_left, or_right, or_cases, eq-or-ne, lt-or-le}
use Rattle.marks.proofs.Laws.{tally-same, tally-mono, tally-none, tally-add, tally-le}
use Rattle.rules.specs.declared.Ring.{Ring}
use Rattle.rules.specs.InnerAsks.{Listed}
use Rattle.rules.specs.InnerSteps.{steps_of}
use Rattle.rules.specs.Pick.{id_at}
use Rattle.rules.specs.Leaf.{way_up, way_down}
use Rattle.rules.specs.Fits.{farther_than}
use Rattle.rules_laws.proofs.Steps.{steps-self, reached, up-along, up_round, down-along, down_round, ways-up, ways-down, ids-inj}

-- ---- slots at fewer than c steps are c

-- the slot at c steps
slot_at : (up : Bool) (n i c : ℕ) → i < n → c < n → (s : ℕ) × (s < n) × (steps_of up n i s ≡ c)
slot_at true n i c hi hc = go (lt-or-le (i + c) n)
  where
    go : (i + c < n) ⊎ (n ≤ i + c) → (s : ℕ) × (s < n) × (steps_of true n i s ≡ c)
    go (inl h) = (i + c, h, up-along n i hi c h)
    go (inr h) = (i + c - n, omega arith, up_round n i hi c hc h)
slot_at false n i c hi hc = go (lt-or-le i c)
  where
    go : (i < c) ⊎ (c ≤ i) → (s : ℕ) × (s < n) × (steps_of false n i s ≡ c)
    go (inl h) = (i + n - c, omega arith, down_round n i hi c hc h)
    go (inr h) = (i - c, omega arith, down-along n i hi c h)

within-steps : (up : Bool) (n i : ℕ) → i < n → (c : ℕ) → c ≤ n → tally n (λ s. ltb (steps_of up n i s) c) ≡ c
within-steps up n i hi zero h = tally-none n _ (λ s k. le-ltb (steps_of up n i s) 0 (omega arith))
within-steps up n i hi (suc c) h =
    let a = slot_at up n i c hi (omega arith) in
    let s = a.0 in
    let one : suc c ≡ c + 1 = omega arith in
    rw one (tally-same n _ _ (reached n i hi up c s a.1 a.2)
    ∙ tally-add n (λ t. ltb (steps_of up n i t) c) s a.1 (le-ltb (steps_of up n i s) c (omega (arith, a.2)))
    ∙ rw (within-steps up n i hi c (omega arith)))

-- ---- farther ids, by the ways from an id i to the key and to another id j

module _ (N : ℕ) (even : Even N) (k i j : ℕ) (hk : k < N) (hi : i < N) (hj : j < N) (apart : j ≡ i → ⊥) where
  pub farther-up : fall_of N i k < fall_of N k i → nearer N k i j ≡ ltb (fall_of N i k + fall_of N i k) (fall_of N i j)
  farther-up falls =
      let whole : fall_of N k i + fall_of N i k ≡ N = ⊎_elim (λ q. absurd (omega arith)) (λ q. q) (rounds N k i hk hi) in
      half_down N even i k hi hk j hj apart (omega (arith, fall-lt N k i hk)) (omega arith)

  pub farther-down : fall_of N k i ≤ fall_of N i k → nearer N k i j ≡ leb (fall_of N k i + fall_of N k i) (fall_of N j i)
  farther-down rises = half_up N even i k hi hk j hj apart (⊎_elim (λ q. omega arith) (λ q. omega arith) (rounds N k i hk hi))

-- ---- farther slots are the first on the walk away from the key

-- the direction that leads from d away from k
abbrev away_from : Ring → List ℕ → ℕ → ℕ → Bool
away_from g ids k d = not (rises_to (2 ^ g.m) k (id_at ids d))

-- s is farther from k than d
abbrev is_farther : Ring → List ℕ → ℕ → ℕ → ℕ → Bool
is_farther g ids k d s = nearer (2 ^ g.m) k (id_at ids d) (id_at ids s)

-- d itself is not among those that are farther
count : (g : Ring) (ids : List ℕ) (k d : ℕ) → d < g.n → tally g.n (λ s. is_farther g ids k d s || eqb s d) ≡ farther_than g ids k d + 1
unfolding farther_than
count g ids k d hd = tally-add g.n (is_farther g ids k d) d hd (bool_false _ (nearer-irreflexive (2 ^ g.m) k (id_at ids d)))

pub farther-low : (g : Ring) (ids : List ℕ) (k d : ℕ) → d < g.n → farther_than g ids k d < g.n
farther-low g ids k d hd = omega (arith, count g ids k d hd, tally-le g.n (λ s. is_farther g ids k d s || eqb s d))

module _ {g : Ring} {ids : List ℕ} (v : Listed g ids) (k d : ℕ) (hk : k < 2 ^ g.m) (hd : d < g.n) where
  even : Even (2 ^ g.m)
  even = ring-at g.m v.width.low

  id-in : (s : ℕ) → s < g.n → id_at ids s < 2 ^ g.m
  id-in s h = v.ids-in s (omega (arith, v.n-high))

  apart : (s : ℕ) → s < g.n → (s ≡ d → ⊥) → id_at ids s ≡ id_at ids d → ⊥
  apart s h a e = a (ids-inj v s d h hd e)

  -- both ways between d and another slot make a round
  round : (s : ℕ) → s < g.n → (s ≡ d → ⊥) → way_up g ids d s + way_down g ids d s ≡ 2 ^ g.m
  round s h a = rounds-apart (2 ^ g.m) (id_at ids s) (id_at ids d) (id-in s h) (id-in d hd) (apart s h a)

  -- a slot other than d
  module _ (s : ℕ) (hs : s < g.n) (ds : s ≡ d → ⊥) where
    slot-up : fall_of (2 ^ g.m) (id_at ids d) k < fall_of (2 ^ g.m) k (id_at ids d)
        → is_farther g ids k d s ≡ ltb (fall_of (2 ^ g.m) (id_at ids d) k + fall_of (2 ^ g.m) (id_at ids d) k) (way_down g ids d s)
    slot-up = farther-up (2 ^ g.m) even k (id_at ids d) (id_at ids s) hk (id-in d hd) (id-in s hs) (apart s hs ds)

    slot-down : fall_of (2 ^ g.m) k (id_at ids d) ≤ fall_of (2 ^ g.m) (id_at ids d) k
        → is_farther g ids k d s ≡ leb (fall_of (2 ^ g.m) k (id_at ids d) + fall_of (2 ^ g.m) k (id_at ids d)) (way_up g ids d s)
    slot-down = farther-down (2 ^ g.m) even k (id_at ids d) (id_at ids s) hk (id-in d hd) (id-in s hs) (apart s hs ds)

  -- what is no more steps away than a farther slot is farther
  module _ (s t : ℕ) (hs : s < g.n) (ht : t < g.n) (ds : s ≡ d → ⊥) (dt : t ≡ d → ⊥) where
    far-up : fall_of (2 ^ g.m) (id_at ids d) k < fall_of (2 ^ g.m) k (id_at ids d) → steps_of true g.n d s ≤ steps_of true g.n d t
        → is_farther g ids k d t ≡ true → is_farther g ids k d s ≡ true
    far-up falls le far =
        let order : way_up g ids d s ≤ way_up g ids d t = ltb-false _ _ (ways-up v d hd s t hs ht ∙ le-ltb _ _ le) in
        let key = fall_of (2 ^ g.m) (id_at ids d) k in
        let to-t : key + key < way_down g ids d t = ltb-true _ _ (sym (slot-up t ht dt falls) ∙ far) in
        let to-s : key + key < way_down g ids d s = omega (arith, round s hs ds, round t ht dt) in
        slot-up s hs ds falls ∙ lt-ltb _ _ to-s

    far-down : fall_of (2 ^ g.m) k (id_at ids d) ≤ fall_of (2 ^ g.m) (id_at ids d) k → steps_of false g.n d s ≤ steps_of false g.n d t
        → is_farther g ids k d t ≡ true → is_farther g ids k d s ≡ true
    far-down rises le far =
        let order : way_down g ids d s ≤ way_down g ids d t = ltb-false _ _ (ways-down v d hd s t hs ht ∙ le-ltb _ _ le) in
        let key = fall_of (2 ^ g.m) k (id_at ids d) in
        let to-t : key + key ≤ way_up g ids d t = leb-true _ _ (sym (slot-down t ht dt rises) ∙ far) in
        let to-s : key + key ≤ way_up g ids d s = omega (arith, round s hs ds, round t ht dt) in
        slot-down s hs ds rises ∙ le-leb _ _ to-s

    far-before : (up : Bool) → away_from g ids k d ≡ up → steps_of up g.n d s ≤ steps_of up g.n d t
        → is_farther g ids k d t ≡ true → is_farther g ids k d s ≡ true
    far-before true e = far-up (leb-false _ _ (sym (rises-is (2 ^ g.m) even k (id_at ids d) hk (id-in d hd)) ∙ not-true _ e))
    far-before false e = far-down (leb-true _ _ (sym (rises-is (2 ^ g.m) even k (id_at ids d) hk (id-in d hd)) ∙ not-false _ e))

  module _ (up : Bool) (e : away_from g ids k d ≡ up) (h z : ℕ) (pos : 1 ≤ h) (low : h < g.n) (hz : z < g.n)
      (at : steps_of up g.n d z ≡ h) where
    not-d : (s : ℕ) → 1 ≤ steps_of up g.n d s → s ≡ d → ⊥
    not-d s a q = omega (arith, a, ap (steps_of up g.n d) q, steps-self g.n d hd up)

    -- the slot at h steps is farther: so are all before it
    enough : is_farther g ids k d z ≡ true → h ≤ farther_than g ids k d
    enough far =
        let all = tally-mono g.n (λ s. ltb (steps_of up g.n d s) (h + 1)) (λ s. is_farther g ids k d s || eqb s d)
        (λ s l p. near s l (ltb-true _ _ p) (eq-or-ne s d)) in
        omega (arith, all, count g ids k d hd, within-steps up g.n d hd (h + 1) (omega arith))
      where
        near : (s : ℕ) → s < g.n → steps_of up g.n d s < h + 1 → (s ≡ d) ⊎ (s ≡ d → ⊥) → (is_farther g ids k d s || eqb s d) ≡ true
        near s l p (inl q) = or_right (is_farther g ids k d s) (eq-eqb s d q)
        near s l p (inr q) = or_left (eqb s d) (far-before s z l hz q (not-d z (omega arith)) up e (omega arith) far)

    -- it is not: farther ones are at fewer steps
    too_many : is_farther g ids k d z ≡ false → farther_than g ids k d < h
    too_many near =
        let few = tally-mono g.n (λ s. is_farther g ids k d s || eqb s d) (λ s. ltb (steps_of up g.n d s) h)
        (λ s l p. lt-ltb _ _ (before s l (or_cases _ _ p) (eq-or-ne s d))) in
        omega (arith, few, count g ids k d hd, within-steps up g.n d hd h (omega arith))
      where
        before : (s : ℕ) → s < g.n → (is_farther g ids k d s ≡ true) ⊎ (eqb s d ≡ true) → (s ≡ d) ⊎ (s ≡ d → ⊥) → steps_of up g.n d s < h
        before s l p (inl q) = omega (arith, ap (steps_of up g.n d) q, steps-self g.n d hd up)
        before s l (inr p) (inr q) = absurd (q (eqb-true s d p))
        before s l (inl p) (inr q) =
            ⊎_elim (λ a. a) (λ a. absurd (opposed (far-before z s hz l (not-d z (omega arith)) q up e (omega arith) p) near))
            (lt-or-le (steps_of up g.n d s) h)

    pub capped : leb h (farther_than g ids k d) ≡ nearer (2 ^ g.m) k (id_at ids d) (id_at ids z)
    capped =
        bool_same _ _
        (λ p. bool-true _ (λ q. let a : h ≤ farther_than g ids k d = leb-true _ _ p in omega (arith, too_many q)))
        (λ p. le-leb _ _ (enough p))
