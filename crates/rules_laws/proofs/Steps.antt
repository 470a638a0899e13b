-- The slots as a ring of their own: how many steps up, or down, lead from slot i to slot s, wrapping at n. Ids rise by slot, so the order
-- of steps is the order of ways, and the nearest in a direction are the first on the walk (`side-walk-up`, `side-walk-down`).
-- The walk's invariant, `Walked`: what was taken are the members other than i at fewer than d steps, and they are at most l. It looks at no slot
-- before which l members stand (`walk_looks`, `looked-near`), and these are enough (`looked-kept`).
-- Assumes nothing.
use mathlib.Core.Path.{◌≡◌, refl, sym, ◌∙◌, ap}
use mathlib.Core.Logic.{◌⊎◌, inl, inr, ⊎_elim}
use mathlib.Core.List.{List}
use mathlib.Core.Bool.{Bool, true, false, cond, ◌&&◌, ◌||◌, not, or-false, and-false, and_assoc, and-or_distrib_left}
use Prim.Native.Nat.{ℕ, zero, suc, ◌+◌, ◌-◌, ◌^◌, ◌<◌, ◌≤◌}
use native.Mathlib.Nat.{eq-or-lt_of_le, le_of_suc-le-suc}
use native.Mathlib.Omega.{arith}
use borrow.Author.Tests.{lt-ltb, le-ltb, ltb-true, eq-eqb, ne_eqb, not-true}
use lib.Dec.{ltb, eqb}
use Rattle.ring.specs.Distance.{fall_of}
use Rattle.ring.proofs.Falls.{fall-lt, fall-self, fall-inj-left, fall-inj-right, falls, Falls}
use Rattle.marks.proofs.Bools.{opposed, bool_same, bool_false, and_left, and_right, and_both, and-fails-right}
use Rattle.marks.proofs.Bools.{false-not, eq-or-ne, lt-or-le}
use Rattle.marks.specs.Marks.{has, gather, tally, add_of, union}
use Rattle.marks.proofs.Laws.{has-gather, gather-high, gather-same, gather_none, gather-more, has-union}
use Rattle.marks.proofs.Laws.{tally-same, tally-mono, tally-none, tally-add, tally-strict}
use Rattle.rules.specs.declared.Ring.{Ring}
use Rattle.rules.specs.InnerAsks.{Listed}
use Rattle.rules.specs.Pick.{id_at}
use Rattle.rules.specs.Closest.{closest, nearer_than}
use Rattle.rules.specs.Leaf.{way_up, way_down, joined_with}
use Rattle.rules_laws.proofs.Closest.{closest_same}
use Rattle.rules.specs.InnerSteps.{steps_of, other_than, looked_at}

-- ---- steps

module _ (n i : ℕ) (hi : i < n) where
  pub steps-lt : (up : Bool) (s : ℕ) → s < n → steps_of up n i s < n
  steps-lt true s h = fall-lt n s i h
  steps-lt false s h = fall-lt n i s hi

  pub steps-self : (up : Bool) → steps_of up n i i ≡ 0
  steps-self true = fall-self n i hi
  steps-self false = fall-self n i hi

  pub steps-inj : (up : Bool) (s t : ℕ) → s < n → t < n → steps_of up n i s ≡ steps_of up n i t → s ≡ t
  steps-inj true s t h k e = fall-inj-left n i s t hi h k e
  steps-inj false s t h k e = fall-inj-right n i s t hi h k e

  -- the slot at d steps: straight on, or round
  pub up-along : (d : ℕ) → i + d < n → steps_of true n i (i + d) ≡ d
  up-along d h = ⊎_elim (λ p. omega arith) (λ p. absurd (omega arith)) (falls n (i + d) i h hi)

  pub up_round : (d : ℕ) → d < n → n ≤ i + d → steps_of true n i (i + d - n) ≡ d
  up_round d h k = ⊎_elim (λ p. absurd (omega arith)) (λ p. omega arith) (falls n (i + d - n) i (omega arith) hi)

  pub down-along : (d : ℕ) → d ≤ i → steps_of false n i (i - d) ≡ d
  down-along d h = ⊎_elim (λ p. omega arith) (λ p. absurd (omega arith)) (falls n i (i - d) hi (omega arith))

  pub down_round : (d : ℕ) → d < n → i < d → steps_of false n i (i + n - d) ≡ d
  down_round d h k = ⊎_elim (λ p. absurd (omega arith)) (λ p. omega arith) (falls n i (i + n - d) hi (omega arith))

  -- it is the only one that one step more passes
  pub reached : (up : Bool) (d s : ℕ) → s < n → steps_of up n i s ≡ d → (t : ℕ) → t < n
      → ltb (steps_of up n i t) (d + 1) ≡ (ltb (steps_of up n i t) d || eqb t s)
  reached up d s hs at-d t k = go (steps_of up n i t) refl (lt-or-le (steps_of up n i t) d) (eq-or-ne t s)
    where
      go : (x : ℕ) → steps_of up n i t ≡ x → (x < d) ⊎ (d ≤ x) → (t ≡ s) ⊎ (t ≡ s → ⊥) → ltb x (d + 1) ≡ (ltb x d || eqb t s)
      go x q (inl a) e = rw (lt-ltb x d a) (lt-ltb x (d + 1) (omega arith))
      go x q (inr a) (inl e) =
          let v : x ≡ d = sym q ∙ ap (steps_of up n i) e ∙ at-d in
          rw (le-ltb x d a, eq-eqb t s e) (lt-ltb x (d + 1) (omega arith))
      go x q (inr a) (inr e) =
          let v : x ≡ d → ⊥ = λ w. e (steps-inj up t s k hs (q ∙ w ∙ sym at-d)) in
          rw (le-ltb x d a, ne_eqb t s e) (le-ltb x (d + 1) (omega arith))

-- ---- the walk

-- a member other than i at fewer than d steps
abbrev pub passed_by : Bool → ℕ → ℕ → ℕ → ℕ → ℕ → Bool
passed_by up set i n d t = other_than set i t && ltb (steps_of up n i t) d

-- the walk from i has come to d steps, taken out, and counted got
pub record Walked (up : Bool) (set i n l d out got : ℕ) : Type 0 where
  pub from : 1 ≤ d
  pub within : d ≤ n
  pub few : got ≤ l
  pub taken : out ≡ gather n (passed_by up set i n d)
  pub counted : got ≡ tally n (passed_by up set i n d)

-- one slot more in a gathered set
add-gather : (n : ℕ) (f : ℕ → Bool) (s : ℕ) → n ≤ 64 → s < n → add_of (gather n f) s ≡ gather n (λ t. f t || eqb t s)
unfolding add_of
add-gather n f s m h =
    gather-more n 64 (λ t. has (gather n f) t || eqb t s) m (λ t k l. rw (gather-high n f t k) (ne_eqb t s (omega arith)))
    ∙ gather-same n _ _ (λ t k. ap (λ (b : Bool). b || eqb t s) (has-gather n f t k))

module _ (up : Bool) (set i n l : ℕ) (hi : i < n) (hn : n ≤ 64) where
  -- i is not passed, so what is passed is at one step or more
  other-far : (t : ℕ) → t < n → other_than set i t ≡ true → 1 ≤ steps_of up n i t
  other-far t h p = go (lt-or-le (steps_of up n i t) 1)
    where
      go : (steps_of up n i t < 1) ⊎ (1 ≤ steps_of up n i t) → 1 ≤ steps_of up n i t
      go (inr a) = a
      go (inl a) =
          let e : t ≡ i = steps-inj n i hi up t i h hi (omega (arith, steps-self n i hi up)) in
          absurd (opposed (eq-eqb t i e) (not-true (eqb t i) (and_right (has set t) (not (eqb t i)) p)))

  none_yet : (t : ℕ) → t < n → passed_by up set i n 1 t ≡ false
  none_yet t h =
      bool_false (passed_by up set i n 1 t) (λ p.
      let far : 1 ≤ steps_of up n i t = other-far t h (and_left (other_than set i t) (ltb (steps_of up n i t) 1) p) in
      let near : steps_of up n i t < 1 = ltb-true (steps_of up n i t) 1 (and_right (other_than set i t) (ltb (steps_of up n i t) 1) p) in
      omega arith)

  pub walk-begin : Walked up set i n l 1 0 0
  walk-begin =
      record {
        from = omega arith;
        within = omega arith;
        few = omega arith;
        taken = sym (gather_none n _ none_yet);
        counted = sym (tally-none n _ none_yet);
      }

  -- what is passed at fewer steps is passed at more
  passed-mono : (x y : ℕ) → x ≤ y → (t : ℕ) → t < n → passed_by up set i n x t ≡ true → passed_by up set i n y t ≡ true
  passed-mono x y h t k p =
      let a : steps_of up n i t < x = ltb-true (steps_of up n i t) x (and_right (other_than set i t) (ltb (steps_of up n i t) x) p) in
      and_both (and_left (other_than set i t) (ltb (steps_of up n i t) x) p) (lt-ltb (steps_of up n i t) y (omega arith))

  -- where l members stand at fewer than d steps, no slot at d steps or more is looked at, however many there are
  pub looked-near : (d : ℕ) → l ≤ tally n (passed_by up set i n d) → (s : ℕ) → s < n → looked_at up set i n l s ≡ true → steps_of up n i s < d
  looked-near d near s h p = go (lt-or-le (steps_of up n i s) d)
    where
      go : (steps_of up n i s < d) ⊎ (d ≤ steps_of up n i s) → steps_of up n i s < d
      go (inl a) = a
      go (inr a) =
          absurd (omega (
            arith,
            ltb-true (nearer_than (steps_of up n i) n (other_than set i) s) _ (and_right (not (eqb s i)) _ p),
            tally-mono n (passed_by up set i n d) (passed_by up set i n (steps_of up n i s)) (passed-mono d (steps_of up n i s) a),
          ))

  -- what is kept is what is looked at and in the set
  pub looked-kept : closest (steps_of up n i) n l (other_than set i) ≡ gather n (λ s. has set s && looked_at up set i n l s)
  unfolding closest
  looked-kept = gather-same n _ _ (λ s h. and_assoc (has set s) (not (eqb s i)) _)

  module _ (d s : ℕ) (hs : s < n) (at-d : steps_of up n i s ≡ d) where
    passed-more : (t : ℕ) → t < n → passed_by up set i n (d + 1) t ≡ (passed_by up set i n d t || (other_than set i s && eqb t s))
    passed-more t k =
        rw (reached n i hi up d s hs at-d t k) (and-or_distrib_left (other_than set i t) (ltb (steps_of up n i t) d) (eqb t s)
        ∙ ap (λ (b : Bool). passed_by up set i n d t || b) (same (eq-or-ne t s)))
      where
        same : (t ≡ s) ⊎ (t ≡ s → ⊥) → (other_than set i t && eqb t s) ≡ (other_than set i s && eqb t s)
        same (inl e) = rw e
        same (inr e) = rw (ne_eqb t s e) (and-false (other_than set i t) ∙ sym (and-false (other_than set i s)))

    module _ {out got : ℕ} (w : Walked up set i n l d out got) where
      -- the slot at d steps is not i
      not-owner : not (eqb s i) ≡ true
      not-owner =
          false-not (ne_eqb s i (λ e.
          let z : steps_of up n i s ≡ 0 = ap (steps_of up n i) e ∙ steps-self n i hi up in
          omega (arith, w.from, at-d)))

      -- a walk that has not taken l may look at it
      pub walk_looks : (got ≡ l → ⊥) → looked_at up set i n l s ≡ true
      walk_looks apart = rw at-d (and_both not-owner (lt-ltb _ l (omega (arith, w.few, w.counted))))

      -- a member at d steps is passed, and was not before
      other_at : has set s ≡ true → other_than set i s ≡ true
      other_at p = and_both p not-owner

      new-at : passed_by up set i n d s ≡ false
      new-at = rw at-d (and-fails-right (other_than set i s) (le-ltb d d (omega arith)))

      pub walk-took : (got ≡ l → ⊥) → has set s ≡ true → Walked up set i n l (d + 1) (add_of out s) (got + 1)
      walk-took apart p =
          let more : (t : ℕ) → t < n → (passed_by up set i n d t || eqb t s) ≡ passed_by up set i n (d + 1) t =
          λ t k. sym (rw (other_at p) at (passed-more t k)) in
          record {
            from = omega arith;
            within = omega (arith, steps-lt n i hi up s hs);
            few = omega (arith, w.few);
            taken = rw w.taken (add-gather n (passed_by up set i n d) s hn hs ∙ gather-same n _ _ more);
            counted = rw w.counted (sym (tally-add n (passed_by up set i n d) s hs new-at) ∙ tally-same n _ _ more);
          }

      pub walk-passed : has set s ≡ false → Walked up set i n l (d + 1) out got
      walk-passed p =
          let more : (t : ℕ) → t < n → passed_by up set i n d t ≡ passed_by up set i n (d + 1) t =
          λ t k. sym (rw (p, or-false) at (passed-more t k)) in
          record {
            from = omega arith;
            within = omega (arith, steps-lt n i hi up s hs);
            few = w.few;
            taken = w.taken ∙ gather-same n _ _ more;
            counted = w.counted ∙ tally-same n _ _ more;
          }

  -- a walk that has taken l, or gone round, has taken the closest
  module _ {d out got : ℕ} (w : Walked up set i n l d out got) where
    walk-closest : ((s : ℕ) → s < n → d ≤ steps_of up n i s → l ≤ nearer_than (steps_of up n i) n (other_than set i) s)
        → out ≡ closest (steps_of up n i) n l (other_than set i)
    unfolding closest
    walk-closest far = w.taken ∙ gather-same n _ _ (λ s h. go s h (other_than set i s) refl (lt-or-le (steps_of up n i s) d))
      where
        early : (s : ℕ) → s < n → other_than set i s ≡ true → steps_of up n i s < d → nearer_than (steps_of up n i) n (other_than set i) s < l
        early s h p a =
            omega (
              arith,
              w.few,
              w.counted,
              tally-strict n (passed_by up set i n (steps_of up n i s)) (passed_by up set i n d) s
                  (passed-mono (steps_of up n i s) d (omega arith)) h
                  (and-fails-right (other_than set i s) (le-ltb (steps_of up n i s) (steps_of up n i s) (omega arith)))
                  (and_both p (lt-ltb (steps_of up n i s) d a)),
            )

        go : (s : ℕ) → s < n → (b : Bool) → other_than set i s ≡ b → (steps_of up n i s < d) ⊎ (d ≤ steps_of up n i s)
            → (b && ltb (steps_of up n i s) d) ≡ (b && ltb (nearer_than (steps_of up n i) n (other_than set i) s) l)
        go s h false p a = refl
        go s h true p (inl a) = lt-ltb _ _ a ∙ sym (lt-ltb _ _ (early s h p a))
        go s h true p (inr a) = le-ltb _ _ a ∙ sym (le-ltb _ _ (far s h a))

    pub walk-full : got ≡ l → out ≡ closest (steps_of up n i) n l (other_than set i)
    walk-full e =
        walk-closest (λ s h a.
        omega (
          arith,
          w.counted,
          tally-mono n (passed_by up set i n d) (passed_by up set i n (steps_of up n i s)) (passed-mono d (steps_of up n i s) a),
        ))

    pub walk_end : n ≤ d → out ≡ closest (steps_of up n i) n l (other_than set i)
    walk_end e = walk-closest (λ s h a. absurd (omega (arith, steps-lt n i hi up s h)))

-- ---- the order of steps is the order of ways

-- which of two is first on the way round: a, b say that they are past the end of the round, c compares them
abbrev first_round : Bool → Bool → Bool → Bool
first_round a b c = cond a (cond b c false) (cond b true c)

ltb-same : (a b c d : ℕ) → (a < b → c < d) → (c < d → a < b) → ltb a b ≡ ltb c d
ltb-same a b c d f g = bool_same _ _ (λ p. lt-ltb c d (f (ltb-true a b p))) (λ p. lt-ltb a b (g (ltb-true c d p)))

module _ (N x y z : ℕ) (hx : x < N) (hy : y < N) (hz : z < N) where
  order-up : ltb (fall_of N x z) (fall_of N y z) ≡ first_round (ltb x z) (ltb y z) (ltb x y)
  order-up = go (fall_of N x z) (fall_of N y z) (falls N x z hx hz) (falls N y z hy hz)
    where
      go : (e f : ℕ) → Falls N x z e → Falls N y z f → ltb e f ≡ first_round (ltb x z) (ltb y z) (ltb x y)
      go e f (inl p) (inl q) = rw (le-ltb x z p.0, le-ltb y z q.0) (ltb-same e f x y (λ h. omega arith) (λ h. omega arith))
      go e f (inl p) (inr q) = rw (le-ltb x z p.0, lt-ltb y z q.0) (lt-ltb e f (omega arith))
      go e f (inr p) (inl q) = rw (lt-ltb x z p.0, le-ltb y z q.0) (le-ltb e f (omega arith))
      go e f (inr p) (inr q) = rw (lt-ltb x z p.0, lt-ltb y z q.0) (ltb-same e f x y (λ h. omega arith) (λ h. omega arith))

  order-down : ltb (fall_of N z x) (fall_of N z y) ≡ first_round (ltb z x) (ltb z y) (ltb y x)
  order-down = go (fall_of N z x) (fall_of N z y) (falls N z x hz hx) (falls N z y hz hy)
    where
      go : (e f : ℕ) → Falls N z x e → Falls N z y f → ltb e f ≡ first_round (ltb z x) (ltb z y) (ltb y x)
      go e f (inl p) (inl q) = rw (le-ltb z x p.0, le-ltb z y q.0) (ltb-same e f y x (λ h. omega arith) (λ h. omega arith))
      go e f (inl p) (inr q) = rw (le-ltb z x p.0, lt-ltb z y q.0) (lt-ltb e f (omega arith))
      go e f (inr p) (inl q) = rw (lt-ltb z x p.0, le-ltb z y q.0) (le-ltb e f (omega arith))
      go e f (inr p) (inr q) = rw (lt-ltb z x p.0, lt-ltb z y q.0) (ltb-same e f y x (λ h. omega arith) (λ h. omega arith))

module _ {g : Ring} {ids : List ℕ} (v : Listed g ids) where
  id-in : (s : ℕ) → s < g.n → id_at ids s < 2 ^ g.m
  id-in s h = v.ids-in s (omega (arith, v.n-high))

  -- ids rise over any distance
  pub ids-rise : (s t : ℕ) → s < t → t < g.n → id_at ids s < id_at ids t
  ids-rise s zero h k = absurd (omega arith)
  ids-rise s (suc t) h k = go (λ a. ids-rise s t a (omega arith)) (eq-or-lt_of_le (le_of_suc-le-suc h))
    where
      go : (s < t → id_at ids s < id_at ids t) → (s ≡ t) ⊎ (s < t) → id_at ids s < id_at ids (suc t)
      go rest (inl e) = rw e (v.rises t k)
      go rest (inr a) = omega (arith, rest a, v.rises t k)

  pub ids-order : (s t : ℕ) → s < g.n → t < g.n → ltb (id_at ids s) (id_at ids t) ≡ ltb s t
  ids-order s t h k = go (lt-or-le s t)
    where
      go : (s < t) ⊎ (t ≤ s) → ltb (id_at ids s) (id_at ids t) ≡ ltb s t
      go (inl a) = lt-ltb _ _ (ids-rise s t a k) ∙ sym (lt-ltb s t a)
      go (inr a) =
          le-ltb (id_at ids s) (id_at ids t) (⊎_elim (λ e. rw e (omega arith)) (λ b. omega (arith, ids-rise t s b h)) (eq-or-lt_of_le a))
          ∙ sym (le-ltb s t a)

  pub ids-inj : (s t : ℕ) → s < g.n → t < g.n → id_at ids s ≡ id_at ids t → s ≡ t
  ids-inj s t h k e = go (lt-or-le s t) (lt-or-le t s)
    where
      go : (s < t) ⊎ (t ≤ s) → (t < s) ⊎ (s ≤ t) → s ≡ t
      go (inl a) b = omega (arith, ids-rise s t a k)
      go (inr a) (inl b) = omega (arith, ids-rise t s b h)
      go (inr a) (inr b) = omega arith

  module _ (i : ℕ) (hi : i < g.n) where
    pub way-up-inj : (s t : ℕ) → s < g.n → t < g.n → way_up g ids i s ≡ way_up g ids i t → s ≡ t
    way-up-inj s t h k e = ids-inj s t h k (fall-inj-left (2 ^ g.m) (id_at ids i) _ _ (id-in i hi) (id-in s h) (id-in t k) e)

    pub way-down-inj : (s t : ℕ) → s < g.n → t < g.n → way_down g ids i s ≡ way_down g ids i t → s ≡ t
    way-down-inj s t h k e = ids-inj s t h k (fall-inj-right (2 ^ g.m) (id_at ids i) _ _ (id-in i hi) (id-in s h) (id-in t k) e)

    pub ways-up : (s t : ℕ) → s < g.n → t < g.n → ltb (way_up g ids i t) (way_up g ids i s) ≡ ltb (fall_of g.n t i) (fall_of g.n s i)
    ways-up s t h k =
        order-up (2 ^ g.m) (id_at ids t) (id_at ids s) (id_at ids i) (id-in t k) (id-in s h) (id-in i hi)
        ∙ rw (ids-order t i k hi, ids-order s i h hi, ids-order t s k h) (sym (order-up g.n t s i k h hi))

    pub ways-down : (s t : ℕ) → s < g.n → t < g.n
        → ltb (way_down g ids i t) (way_down g ids i s) ≡ ltb (fall_of g.n i t) (fall_of g.n i s)
    ways-down s t h k =
        order-down (2 ^ g.m) (id_at ids t) (id_at ids s) (id_at ids i) (id-in t k) (id-in s h) (id-in i hi)
        ∙ rw (ids-order i t hi k, ids-order i s hi h, ids-order s t h k) (sym (order-down g.n t s i k h hi))

    -- a side joined with D, without i
    joined-other : (side d s : ℕ) → s < g.n → joined_with side d i s ≡ other_than (union side d) i s
    joined-other side d s h = rw (has-union side d s (omega (arith, v.n-high)))

    -- the nearest upwards are the first on the walk up, and downwards on the walk down
    pub side-walk-up : (side d l : ℕ)
        → closest (way_up g ids i) g.n l (joined_with side d i) ≡ closest (steps_of true g.n i) g.n l (other_than (union side d) i)
    side-walk-up side d l = closest_same _ _ g.n l _ _ (joined-other side d) (λ s t h k p q. ways-up s t h k)

    pub side-walk-down : (side d l : ℕ)
        → closest (way_down g ids i) g.n l (joined_with side d i) ≡ closest (steps_of false g.n i) g.n l (other_than (union side d) i)
    side-walk-down side d l = closest_same _ _ g.n l _ _ (joined-other side d) (λ s t h k p q. ways-down s t h k)
