-- Leaf sets. The idea: each side of a leaf set with D added is the closest of the side joined with D, so a law of adding is a law of the
-- closest, for the way up and for the way down; no two ways are equal, so a side holds at most L. A neighbour leads its side (`seen-in`),
-- and what leads a set leads its closest. Assumes nothing.
use Rattle.std.specs.Prelude.{Some, None}
use mathlib.Core.Path.{◌≡◌, refl, sym, ◌∙◌, ap, ap₂}
use mathlib.Core.Logic.{◌⊎◌, inl, inr, ⊎_elim}
use mathlib.Core.List.{List}
use mathlib.Core.Bool.{Bool, true, false, cond, ◌&&◌, ◌||◌, not}
use Prim.Native.Nat.{ℕ, ◌^◌, ◌<◌, ◌≤◌}
use native.Mathlib.Omega.{arith}
use borrow.Author.Tests.{eq-eqb, ne_eqb, eqb-true, eqb-false, le-leb, leb-true, not-true}
use lib.Dec.{leb, eqb}
use Rattle.ring.proofs.Falls.{fall-lt}
use Rattle.marks.proofs.Bools.{opposed, bool_same, bool_false, and_left, and_right, and_both, or_left, or_right, or_cases, false-not}
use Rattle.marks.specs.Marks.{has, tally, union, meet, remove_of, single, size_of, listed, Found}
use Rattle.marks.proofs.Laws.{ext, has-zero, has-union, has-add, has-remove, has_meet, add-below, meet_below, member, member-pos, empty}
use Rattle.marks.proofs.Laws.{gather-same, tally-mono, tally-more}
use Rattle.marks.proofs.Laws.{listed_has, listed-lt, listed-zero, listed-union, listed-add, listed-remove, listed-every}
use Rattle.rules.specs.declared.Way.{Way}
use Rattle.rules.specs.declared.Way.TheVariants.{Up, Down, FarUp, FarDown}
use Rattle.rules.specs.declared.Ring.{Ring}
use Rattle.rules.specs.declared.Sides.{Sides}
use Rattle.rules.specs.InnerAsks.{Listed, Keyed}
use Rattle.rules.specs.Pick.{id_at, ahead_of, best_of}
use Rattle.rules.specs.Closest.{closest}
use Rattle.rules.specs.Fits.{side_fits, leaf_fits}
use Rattle.rules.specs.Leaf.{or_owner, content_of, seen_from, left_neighbour, right_neighbour, way_up, way_down, joined_with}
use Rattle.rules.specs.Leaf.{leaf_with, leaf_with_one, overlaps, is_empty}
use Rattle.rules.specs.Letters.{no_sides}
use Rattle.rules_laws.proofs.Best.{Finds, Best, Leads, score_at, best-finds, best_none, best_of_lem, best-unique, keyed-scored, listed-keyed}
use Rattle.rules_laws.proofs.Closest.{closest-listed, closest-below, closest-below-64, closest-in, closest-passes}
use Rattle.rules_laws.proofs.Closest.{closest-size, closest-all, closest-least, closest-between}
use Rattle.rules_laws.proofs.Steps.{way-up-inj, way-down-inj, side-walk-up, side-walk-down}
use Rattle.rules.specs.InnerSteps.{steps_of, other_than}

-- ---- content

pub has-content : (s : Sides) (i t : ℕ) → t < 64 → has (content_of s i) t ≡ (has s.left t || has s.right t || eqb t i)
unfolding content_of
has-content s i t h = rw (has-add (union s.left s.right) i t h, has-union s.left s.right t h)

pub content-below : (s : Sides) (i : ℕ) → content_of s i < 2 ^ 64
unfolding content_of
content-below s i = add-below (union s.left s.right) i

pub content-listed : (n : ℕ) (s : Sides) (i : ℕ) → listed n s.left ≡ true → listed n s.right ≡ true → i < n
    → listed n (content_of s i) ≡ true
unfolding content_of
content-listed n s i p q h = listed-add n (union s.left s.right) i (listed-union n s.left s.right p q) h

pub content-owner : (s : Sides) (i : ℕ) → i < 64 → has (content_of s i) i ≡ true
content-owner s i h = has-content s i i h ∙ or_right (has s.left i || has s.right i) (eq-eqb i i refl)

-- ---- what fits

-- at most L marks, none at n or above, and not the owner's
pub record Fit (g : Ring) (i side : ℕ) : Type 0 where
  pub marks : listed g.n side ≡ true
  pub few : size_of side ≤ g.l
  pub other : has side i ≡ false

pub fits-side : {g : Ring} {i side : ℕ} → Fit g i side → side_fits g i side ≡ true
unfolding side_fits
fits-side f = and_both f.marks (and_both (le-leb _ _ f.few) (false-not f.other))

pub side-fits : (g : Ring) (i side : ℕ) → side_fits g i side ≡ true → Fit g i side
unfolding side_fits
side-fits g i side p =
    let q = and_right (listed g.n side) (leb (size_of side) g.l && not (has side i)) p in
    record {
      marks = and_left (listed g.n side) (leb (size_of side) g.l && not (has side i)) p;
      few = leb-true (size_of side) g.l (and_left (leb (size_of side) g.l) (not (has side i)) q);
      other = not-true (has side i) (and_right (leb (size_of side) g.l) (not (has side i)) q);
    }

pub fits-leaf : {g : Ring} {i : ℕ} {s : Sides} → Fit g i s.left → Fit g i s.right → leaf_fits g i s ≡ true
unfolding leaf_fits
fits-leaf l r = and_both (fits-side l) (fits-side r)

pub left-fits : (g : Ring) (i : ℕ) (s : Sides) → leaf_fits g i s ≡ true → Fit g i s.left
unfolding leaf_fits
left-fits g i s p = side-fits g i s.left (and_left (side_fits g i s.left) (side_fits g i s.right) p)

pub right-fits : (g : Ring) (i : ℕ) (s : Sides) → leaf_fits g i s ≡ true → Fit g i s.right
unfolding leaf_fits
right-fits g i s p = side-fits g i s.right (and_right (side_fits g i s.left) (side_fits g i s.right) p)

-- ---- one side

-- t is of the side or of D, and is not i
pub record Joined (side d i t : ℕ) : Type 0 where
  pub from : (has side t ≡ true) ⊎ (has d t ≡ true)
  pub other : t ≡ i → ⊥

joined-has : {side d i t : ℕ} → Joined side d i t → joined_with side d i t ≡ true
joined-has {side} {d} {i} {t} j =
    and_both (⊎_elim (or_left (has d t)) (or_right (has side t)) j.from) (false-not (ne_eqb t i j.other))

has-joined : (side d i t : ℕ) → joined_with side d i t ≡ true → Joined side d i t
has-joined side d i t p =
    record {
      from = or_cases (has side t) (has d t) (and_left (has side t || has d t) (not (eqb t i)) p);
      other = eqb-false t i (not-true (eqb t i) (and_right (has side t || has d t) (not (eqb t i)) p));
    }

module _ (f : ℕ → ℕ) (n l side d i : ℕ) where
  -- the side with D added
  abbrev added : ℕ
  added = closest f n l (joined_with side d i)

  added-from : (t : ℕ) → has added t ≡ true → Joined side d i t
  added-from t p = has-joined side d i t (closest-passes f n l (joined_with side d i) t p)

  -- adding again what was added, or a part of it
  added-again : (c : ℕ) → ((t : ℕ) → t < n → has c t ≡ true → has d t ≡ true) → closest f n l (joined_with added c i) ≡ added
  added-again c sub =
      closest-between f n l (joined_with side d i) (joined_with added c i) (λ t h p. joined-has (inner t h (has-joined added c i t p)))
      (λ t h p. joined-has (record { from = inl p; other = (added-from t p).other }))
    where
      inner : (t : ℕ) → t < n → Joined added c i t → Joined side d i t
      inner t h j = record { from = ⊎_elim (λ p. (added-from t p).from) (λ p. inr (sub t h p)) j.from; other = j.other }

  -- adding what the side has keeps it
  added-kept : n ≤ 64 → side < 2 ^ 64 → listed n side ≡ true → size_of side ≤ l → has side i ≡ false
      → ((t : ℕ) → t < n → has d t ≡ true → (has side t ≡ true) ⊎ (t ≡ i)) → added ≡ side
  unfolding size_of
  added-kept hn hs e few out sub =
      ext n added side (closest-below f n l (joined_with side d i)) (listed-lt n side hs e) (λ t h.
      bool_same _ _ (λ p. kept t h (added-from t p)) (λ p. closest-all f n l (joined_with side d i) small t h (joins t p)))
    where
      kept : (t : ℕ) → t < n → Joined side d i t → has side t ≡ true
      kept t h j = ⊎_elim (λ p. p) (λ p. ⊎_elim (λ q. q) (λ q. absurd (j.other q)) (sub t h p)) j.from

      joins : (t : ℕ) → has side t ≡ true → joined_with side d i t ≡ true
      joins t p = joined-has (record { from = inl p; other = λ q. opposed p (rw q out) })

      small : tally n (joined_with side d i) ≤ l
      small =
          omega (
            arith,
            few,
            tally-mono n (joined_with side d i) (has side) (λ t h p. kept t h (has-joined side d i t p)),
            tally-more n 64 (has side) hn (λ t a b. bool_false (has side t) (λ p. omega (arith, listed_has n side t e b p))),
          )

added-fits : (g : Ring) (f : ℕ → ℕ) (side d i : ℕ) → g.n ≤ 64 → ((s t : ℕ) → s < g.n → t < g.n → f s ≡ f t → s ≡ t)
    → Fit g i (closest f g.n g.l (joined_with side d i))
added-fits g f side d i hn inj =
    record {
      marks = closest-listed f g.n g.l (joined_with side d i);
      few = closest-size f g.n g.l (joined_with side d i) (λ s t h k p q e. inj s t h k e) hn;
      other = bool_false _ (λ p. (added-from f g.n g.l side d i i p).other refl);
    }

-- ---- adding a set, and one node

sides-same : (a b : Sides) → a.left ≡ b.left → a.right ≡ b.right → a ≡ b
sides-same a b p q = ap₂ (λ (l r : ℕ). record { left = l; right = r }) p q

module _ (g : Ring) (ids : List ℕ) (i : ℕ) (s : Sides) where
  pub leaf-left : (d : ℕ) → (leaf_with g ids i s d).left ≡ closest (way_up g ids i) g.n g.l (joined_with s.left d i)
  unfolding leaf_with
  leaf-left d = refl

  pub leaf-right : (d : ℕ) → (leaf_with g ids i s d).right ≡ closest (way_down g ids i) g.n g.l (joined_with s.right d i)
  unfolding leaf_with
  leaf-right d = refl

  -- the members come from the side joined with D
  pub left-from : (d t : ℕ) → has (leaf_with g ids i s d).left t ≡ true → Joined s.left d i t
  unfolding leaf_with
  left-from d t p = added-from (way_up g ids i) g.n g.l s.left d i t p

  pub right-from : (d t : ℕ) → has (leaf_with g ids i s d).right t ≡ true → Joined s.right d i t
  unfolding leaf_with
  right-from d t p = added-from (way_down g ids i) g.n g.l s.right d i t p

  -- adding again what was added, or a part of it, changes nothing
  pub leaf-again : (d c : ℕ) → ((t : ℕ) → t < g.n → has c t ≡ true → has d t ≡ true)
      → leaf_with g ids i (leaf_with g ids i s d) c ≡ leaf_with g ids i s d
  unfolding leaf_with
  leaf-again d c sub =
      sides-same _ _ (added-again (way_up g ids i) g.n g.l s.left d i c sub)
      (added-again (way_down g ids i) g.n g.l s.right d i c sub)

  pub leaf-idem : (d : ℕ) → leaf_with g ids i (leaf_with g ids i s d) d ≡ leaf_with g ids i s d
  leaf-idem d = leaf-again d d (λ t h p. p)

  -- adding what both sides have changes nothing
  pub leaf-kept : (d : ℕ) → g.n ≤ 64 → s.left < 2 ^ 64 → s.right < 2 ^ 64 → leaf_fits g i s ≡ true
      → ((t : ℕ) → t < g.n → has d t ≡ true → ((has s.left t ≡ true) × (has s.right t ≡ true)) ⊎ (t ≡ i)) → leaf_with g ids i s d ≡ s
  unfolding leaf_with
  leaf-kept d hn hl hr p sub =
      let l = left-fits g i s p in
      let r = right-fits g i s p in
      sides-same _ _
      (added-kept (way_up g ids i) g.n g.l s.left d i hn hl l.marks l.few l.other
      (λ t h q. ⊎_elim (λ e. inl e.0) inr (sub t h q)))
      (added-kept (way_down g ids i) g.n g.l s.right d i hn hr r.marks r.few r.other
      (λ t h q. ⊎_elim (λ e. inl e.1) inr (sub t h q)))

module _ {g : Ring} {ids : List ℕ} (v : Listed g ids) (i : ℕ) (hi : i < g.n) (s : Sides) where
  pub leaf-fits : (d : ℕ) → leaf_fits g i (leaf_with g ids i s d) ≡ true
  unfolding leaf_with
  leaf-fits d =
      fits-leaf (added-fits g (way_up g ids i) s.left d i v.n-high (way-up-inj v i hi))
      (added-fits g (way_down g ids i) s.right d i v.n-high (way-down-inj v i hi))

  -- each side is walked along
  pub leaf-walk : (d : ℕ)
      → leaf_with g ids i s d
      ≡ record {
        left = closest (steps_of true g.n i) g.n g.l (other_than (union s.left d) i);
        right = closest (steps_of false g.n i) g.n g.l (other_than (union s.right d) i);
      }
  unfolding leaf_with
  leaf-walk d = sides-same _ _ (side-walk-up v i hi s.left d g.l) (side-walk-down v i hi s.right d g.l)

  pub leaf-one-fits : (j : ℕ) → leaf_fits g i s ≡ true → leaf_fits g i (leaf_with_one g ids i s j) ≡ true
  unfolding leaf_with_one
  leaf-one-fits j p = go (has (content_of s i) j)
    where
      go : (b : Bool) → leaf_fits g i (cond b s (leaf_with g ids i s (single j))) ≡ true
      go true = p
      go false = leaf-fits (single j)

  pub leaf-left-below : (d : ℕ) → (leaf_with g ids i s d).left < 2 ^ 64
  unfolding leaf_with
  leaf-left-below d = closest-below-64 (way_up g ids i) g.n g.l (joined_with s.left d i) v.n-high

  pub leaf-right-below : (d : ℕ) → (leaf_with g ids i s d).right < 2 ^ 64
  unfolding leaf_with
  leaf-right-below d = closest-below-64 (way_down g ids i) g.n g.l (joined_with s.right d i) v.n-high

-- ---- the best as seen from i

module _ (w : Way) (g : Ring) (ids : List ℕ) (i set : ℕ) where
  pub seen-listed : (n : ℕ) → listed n set ≡ true → i < n → seen_from w g ids i set < n
  unfolding seen_from
  seen-listed n e h = go (best_of w (2 ^ g.m) (id_at ids i) ids set) (best-finds (ahead_of w (2 ^ g.m) (id_at ids i) ids) (has set) 64)
    where
      go : (r : Found) → Finds (has set) 64 r → or_owner r i < n
      go (Some b) p = listed_has n set b e p.0 p.1
      go None p = h

  pub seen_low : i < 64 → seen_from w g ids i set < 64
  seen_low h = seen-listed 64 (listed-every 64 set (omega arith)) h

  pub seen_none : ((t : ℕ) → t < 64 → has set t ≡ false) → seen_from w g ids i set ≡ i
  unfolding seen_from
  seen_none e = rw (best_none (ahead_of w (2 ^ g.m) (id_at ids i) ids) (has set) 64 e)

module _ {g : Ring} {ids : List ℕ} (v : Listed g ids) (i : ℕ) (h64 : i < 64) (set : ℕ) where
  -- it is i where the set is empty, else a member of least score
  pub seen-in : (w : Way) → (((t : ℕ) → t < 64 → has set t ≡ false) × (seen_from w g ids i set ≡ i))
      ⊎ Leads (has set) (score_at w (2 ^ g.m) (id_at ids i) ids) 64 (seen_from w g ids i set)
  unfolding seen_from
  seen-in w = go (best_of w (2 ^ g.m) (id_at ids i) ids set) (best_of_lem (listed-keyed v (v.ids-in i h64)) w set)
    where
      go : (r : Found) → Best (has set) (score_at w (2 ^ g.m) (id_at ids i) ids) 64 r
          → (((t : ℕ) → t < 64 → has set t ≡ false) × (or_owner r i ≡ i))
          ⊎ Leads (has set) (score_at w (2 ^ g.m) (id_at ids i) ids) 64 (or_owner r i)
      go (Some b) p = inr p
      go None p = inl (p, refl)

  -- where t is a member: the best is a member, and t does not come before it
  module _ (t : ℕ) (ht : t < 64) (p : has set t ≡ true) where
    pub seen-leads : (w : Way) → Leads (has set) (score_at w (2 ^ g.m) (id_at ids i) ids) 64 (seen_from w g ids i set)
    seen-leads w = ⊎_elim (λ e. absurd (opposed p (e.0 t ht))) (λ e. e) (seen-in w)

    pub seen-member : (w : Way) → has set (seen_from w g ids i set) ≡ true
    seen-member w = (seen-leads w).holds

    pub seen_up : way_up g ids i (seen_from Up g ids i set) ≤ way_up g ids i t
    seen_up = (seen-leads Up).least t ht p

    pub seen-down : way_down g ids i (seen_from Down g ids i set) ≤ way_down g ids i t
    seen-down = (seen-leads Down).least t ht p

    pub seen-far-up : way_up g ids i t ≤ way_up g ids i (seen_from FarUp g ids i set)
    seen-far-up =
        let e = seen-leads FarUp in
        omega (arith, e.least t ht p, fall-lt (2 ^ g.m) (id_at ids t) (id_at ids i) (v.ids-in t ht))

    pub seen-far-down : way_down g ids i t ≤ way_down g ids i (seen_from FarDown g ids i set)
    seen-far-down =
        let e = seen-leads FarDown in
        omega (arith, e.least t ht p, fall-lt (2 ^ g.m) (id_at ids i) (id_at ids t) (v.ids-in i h64))

-- ---- overlap, empty, complete

pub overlaps-of : (s : Sides) (t : ℕ) → t < 64 → has s.left t ≡ true → has s.right t ≡ true → overlaps s ≡ true
unfolding overlaps
overlaps-of s t h p q =
    false-not (ne_eqb (meet s.left s.right) 0 (λ e.
    omega (arith, member-pos (meet s.left s.right) t (has_meet s.left s.right t h ∙ and_both p q))))

pub overlaps-at : (s : Sides) → overlaps s ≡ true → (t : ℕ) × (t < 64) × (has s.left t ≡ true) × (has s.right t ≡ true)
unfolding overlaps
overlaps-at s e =
    let m = member (meet s.left s.right) (meet_below s.left s.right)
    (pos (meet s.left s.right) (eqb-false _ 0 (not-true (eqb (meet s.left s.right) 0) e))) in
    let b : (has s.left m.0 && has s.right m.0) ≡ true = sym (has_meet s.left s.right m.0 m.1) ∙ m.2 in
    (m.0, m.1, and_left (has s.left m.0) (has s.right m.0) b, and_right (has s.left m.0) (has s.right m.0) b)
  where
    pos : (x : ℕ) → (x ≡ 0 → ⊥) → 0 < x
    pos x d = omega arith

pub empty-sides : (s : Sides) → is_empty s ≡ true → s ≡ no_sides
unfolding is_empty
empty-sides s e =
    sides-same s no_sides (eqb-true s.left 0 (and_left (eqb s.left 0) (eqb s.right 0) e))
    (eqb-true s.right 0 (and_right (eqb s.left 0) (eqb s.right 0) e))

pub empty-lacks : (s : Sides) (i t : ℕ) → is_empty s ≡ true → t < 64 → has (content_of s i) t ≡ eqb t i
empty-lacks s i t e h = rw (empty-sides s e, has-content no_sides i t h, has-zero t)

pub empty_of : (s : Sides) → s.left < 2 ^ 64 → s.right < 2 ^ 64
    → ((t : ℕ) → t < 64 → (has s.left t ≡ false) × (has s.right t ≡ false)) → is_empty s ≡ true
unfolding is_empty
empty_of s l r e =
    and_both (eq-eqb s.left 0 (empty s.left l (λ t h. (e t h).0))) (eq-eqb s.right 0 (empty s.right r (λ t h. (e t h).1)))

-- ---- the neighbours after adding

module _ {g : Ring} {ids : List ℕ} (v : Listed g ids) (one : 1 ≤ g.l) (i : ℕ) (hi : i < g.n) where
  -- the best of a set is the best of its closest, by one distance
  seen-closest : (w : Way) (ok : ℕ → Bool) (set : ℕ)
      → ((s t : ℕ) → s < g.n → t < g.n → score_at w (2 ^ g.m) (id_at ids i) ids s ≡ score_at w (2 ^ g.m) (id_at ids i) ids t → s ≡ t)
      → listed g.n set ≡ true → ((t : ℕ) → t < g.n → ok t ≡ has set t)
      → seen_from w g ids i (closest (score_at w (2 ^ g.m) (id_at ids i) ids) g.n g.l ok) ≡ seen_from w g ids i set
  unfolding seen_from
  seen-closest w ok set inj e same =
      ap (λ (r : Found). or_owner r i) (go (best_of w (2 ^ g.m) (id_at ids i) ids set) (best_of_lem key w set))
    where
      key : Keyed g.m (id_at ids i) ids
      key = listed-keyed v (v.ids-in i (omega (arith, v.n-high)))

      score : ℕ → ℕ
      score = score_at w (2 ^ g.m) (id_at ids i) ids

      near : ℕ
      near = closest score g.n g.l ok

      inner : (t : ℕ) → has near t ≡ true → has set t ≡ true
      inner t p = sym (same t (closest-in score g.n g.l ok t p)) ∙ closest-passes score g.n g.l ok t p

      go : (r : Found) → Best (has set) score 64 r → best_of w (2 ^ g.m) (id_at ids i) ids near ≡ r
      go None none =
          best_none (ahead_of w (2 ^ g.m) (id_at ids i) ids) (has near) 64
          (λ t k. bool_false (has near t) (λ p. opposed (inner t p) (none t k)))
      go (Some h) lead =
          best-unique (ahead_of w (2 ^ g.m) (id_at ids i) ids) (has near) score 64 h (keyed-scored key w) lead.below
          (closest-least score g.n g.l ok one h low (same h low ∙ lead.holds)
          (λ t k p. lead.least t (omega (arith, v.n-high)) (sym (same t k) ∙ p))) first
        where
          low : h < g.n
          low = listed_has g.n set h e lead.below lead.holds

          first : (t : ℕ) → t < 64 → has near t ≡ true → (t ≡ h → ⊥) → score h < score t
          first t k p d =
              let differ : score t ≡ score h → ⊥ = λ q. d (inj t h (closest-in score g.n g.l ok t p) low q) in
              omega (arith, lead.least t k (inner t p))

  joined-remove : (side d t : ℕ) → t < g.n → joined_with side d i t ≡ has (remove_of (union side d) i) t
  joined-remove side d t h =
      let l : t < 64 = omega (arith, v.n-high) in
      rw (has-remove (union side d) i t l, has-union side d t l)

  -- of the side joined with D, without i
  pub left-of-added : (s : Sides) (d : ℕ) → listed g.n s.left ≡ true → listed g.n d ≡ true
      → left_neighbour g ids i (leaf_with g ids i s d) ≡ seen_from Up g ids i (remove_of (union s.left d) i)
  unfolding leaf_with
  left-of-added s d p q =
      seen-closest Up (joined_with s.left d i) (remove_of (union s.left d) i) (way-up-inj v i hi)
      (listed-remove g.n (union s.left d) i (listed-union g.n s.left d p q)) (joined-remove s.left d)

  pub right-of-added : (s : Sides) (d : ℕ) → listed g.n s.right ≡ true → listed g.n d ≡ true
      → right_neighbour g ids i (leaf_with g ids i s d) ≡ seen_from Down g ids i (remove_of (union s.right d) i)
  unfolding leaf_with
  right-of-added s d p q =
      seen-closest Down (joined_with s.right d i) (remove_of (union s.right d) i) (way-down-inj v i hi)
      (listed-remove g.n (union s.right d) i (listed-union g.n s.right d p q)) (joined-remove s.right d)

  -- a start is settled: the neighbours are those of the set added
  remove-joined : (a : ℕ) → remove_of (union 0 a) i ≡ remove_of a i
  unfolding remove_of
  remove-joined a = gather-same 64 _ _ (λ t h. rw (has-union 0 a t h, has-zero t))

  pub neighbour-of-added-left : (a : ℕ) → listed g.n a ≡ true
      → left_neighbour g ids i (leaf_with g ids i no_sides a) ≡ seen_from Up g ids i (remove_of a i)
  neighbour-of-added-left a e =
      left-of-added no_sides a (listed-zero g.n) e ∙ ap (seen_from Up g ids i) (remove-joined a)

  pub neighbour-of-added-right : (a : ℕ) → listed g.n a ≡ true
      → right_neighbour g ids i (leaf_with g ids i no_sides a) ≡ seen_from Down g ids i (remove_of a i)
  neighbour-of-added-right a e =
      right-of-added no_sides a (listed-zero g.n) e ∙ ap (seen_from Down g ids i) (remove-joined a)
