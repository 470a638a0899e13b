-- The copies of a key in a settled table. The idea: both neighbours of a ready node are ready, and with two ready nodes or more neither is
-- the node itself (settled-beside and settled-flanked of crate lookup_laws), so what is left is to count. Were both the same with a third ready
-- node about, that one would be no closer either way round, and the two ways make one round: it would be that neighbour. Assumes nothing.
use mathlib.Core.Path.{◌≡◌, sym, ◌∙◌}
use mathlib.Core.Logic.{◌⊎◌, inl, inr, ◌↔◌, ⊎_elim}
use mathlib.Core.Bool.{Bool, true, ◌&&◌, ◌||◌, not, and-true}
use Prim.Native.Nat.{ℕ, ◌^◌, ◌<◌, ◌≤◌}
use native.Mathlib.Omega.{arith}
use lib.Dec.{eqb}
use borrow.Author.Tests.{eq-eqb, ne_eqb, eqb-true, eqb-false, not-true}
use Rattle.ring.proofs.Falls.{rounds-apart, fall-inj-left}
use Rattle.marks.proofs.Bools.{bool_false, and_left, and_right, and_both, or_left, or_right, or_cases, or-fails, false-not, eq-or-ne}
use Rattle.marks.specs.Marks.{has, single, add_of, size_of}
use Rattle.marks.proofs.Laws.{has-single, has-add, has-remove, remove-below, empty, size_same}
use Rattle.rules.specs.declared.Pool.{Pool}
use Rattle.rules.specs.Leaf.{way_up, way_down}
use Rattle.rules.specs.Pick.{id_at}
use Rattle.rules_laws.proofs.Steps.{ids-inj}
use Rattle.table_type.specs.declared.Table.{Table}
use Rattle.table_type.specs.Table.{ids_of, ring_of}
use Rattle.table.specs.Settled.{ready_set, is_settled}
use Rattle.table.specs.Valid.{valid_of}
use Rattle.table_laws.proofs.Sound.{sound}
use Rattle.lookup_laws.specs.Claims.{Ready}
use Rattle.lookup_laws.proofs.Holder.{ready-listed}
use Rattle.lookup_laws.proofs.Joined.{ready-low, id-in as ready-id-in}
use Rattle.lookup_laws.specs.Joining.{left_at, right_at, NotItsOwn, Flanked}
use Rattle.lookup_laws.proofs.Proved.{settled-flanked, settled-beside}
use Rattle.holder.specs.Holder.{copies_of}
use Rattle.holder.specs.Claims.{Copies}
use Rattle.holder.proofs.Few.{size-twice, size-pair, no_other, no_third, some-third}

-- ---- who gets one

-- both neighbours of h
abbrev beside_of : Table → ℕ → ℕ
beside_of t h = add_of (single (left_at t h)) (right_at t h)

abbrev is_beside : Table → ℕ → ℕ → Bool
is_beside t h j = eqb j (left_at t h) || eqb j (right_at t h)

module _ (t : Table) (h : ℕ) where
  has-beside : (j : ℕ) → j < 64 → has (beside_of t h) j ≡ is_beside t h j
  has-beside j l = rw (has-add (single (left_at t h)) (right_at t h) j l, has-single (left_at t h) j l)

  has-copies : (j : ℕ) → j < 64 → has (copies_of t h) j ≡ (is_beside t h j && not (eqb j h))
  unfolding copies_of
  has-copies j l = rw (has-remove (beside_of t h) h j l, has-beside j l)

  copies-are : (j : ℕ) → j < 64 → (has (copies_of t h) j ≡ true) ↔ (((j ≡ left_at t h) ⊎ (j ≡ right_at t h)) × (j ≡ h → ⊥))
  copies-are j l = (told, made)
    where
      told : has (copies_of t h) j ≡ true → ((j ≡ left_at t h) ⊎ (j ≡ right_at t h)) × (j ≡ h → ⊥)
      told e =
          let b = sym (has-copies j l) ∙ e in
          let side = or_cases (eqb j (left_at t h)) _ (and_left (is_beside t h j) _ b) in (
            ⊎_elim (λ q. inl (eqb-true _ _ q)) (λ q. inr (eqb-true _ _ q)) side,
            eqb-false j h (not-true _ (and_right (is_beside t h j) _ b)),
          )

      made : ((j ≡ left_at t h) ⊎ (j ≡ right_at t h)) × (j ≡ h → ⊥) → has (copies_of t h) j ≡ true
      made (side, d) =
          has-copies j l
          ∙ and_both (⊎_elim (λ q. or_left _ (eq-eqb _ _ q)) (λ q. or_right (eqb j (left_at t h)) (eq-eqb _ _ q)) side)
          (false-not (ne_eqb j h d))

  copies-below : copies_of t h < 2 ^ 64
  unfolding copies_of
  copies-below = remove-below (beside_of t h) h

  -- where h is no neighbour of its own, both count
  copies-size : NotItsOwn t h → size_of (copies_of t h) ≡ size_of (beside_of t h)
  copies-size own = size_same _ _ (λ j l. has-copies j l ∙ go j (eq-or-ne j h) ∙ sym (has-beside j l))
    where
      go : (j : ℕ) → (j ≡ h) ⊎ (j ≡ h → ⊥) → (is_beside t h j && not (eqb j h)) ≡ is_beside t h j
      go j (inl e) =
          rw (or-fails (ne_eqb j (left_at t h) (λ q. own.left (sym q ∙ e))) (ne_eqb j (right_at t h) (λ q. own.right (sym q ∙ e))))
      go j (inr d) = rw (ne_eqb j h d) (and-true _)

-- ---- how many

module _ (t : Table) (p : Pool) (e : valid_of t p ≡ true) (settled : is_settled t ≡ true) where
  flanked : Flanked t
  flanked = settled-flanked t p e settled

  low : (i : ℕ) → Ready t i → i < 64
  low = ready-low (sound t p e)

  id-in : (i : ℕ) → Ready t i → id_at (ids_of t) i < 2 ^ t.m
  id-in = ready-id-in (sound t p e)

  ids-same : (i j : ℕ) → Ready t i → Ready t j → id_at (ids_of t) i ≡ id_at (ids_of t) j → i ≡ j
  ids-same i j r u q = ids-inj (sound t p e).listed i j r.0 u.0 q

  -- no two are closest to h both ways
  closest-one : (h x z : ℕ) → Ready t h → Ready t x → Ready t z → (x ≡ h → ⊥) → (z ≡ h → ⊥)
      → way_up (ring_of t) (ids_of t) h x ≤ way_up (ring_of t) (ids_of t) h z
      → way_down (ring_of t) (ids_of t) h x ≤ way_down (ring_of t) (ids_of t) h z → z ≡ x
  closest-one h x z r u w dx dz up down =
      let N = 2 ^ t.m in
      let one = rounds-apart N _ _ (id-in x u) (id-in h r) (λ q. dx (ids-same x h u r q)) in
      let other = rounds-apart N _ _ (id-in z w) (id-in h r) (λ q. dz (ids-same z h w r q)) in
      ids-same z x w u (fall-inj-left N (id_at (ids_of t) h) _ _ (id-in h r) (id-in z w) (id-in x u) (omega arith))

  module _ (h : ℕ) (r : Ready t h) where
    left-ready : Ready t (left_at t h)
    left-ready = (settled-beside t p h e settled r).0

    right-ready : Ready t (right_at t h)
    right-ready = (settled-beside t p h e settled r).1

    not-its-own : 2 ≤ size_of (ready_set t) → NotItsOwn t h
    not-its-own two = flanked.own two h r

    copy-ready : (j : ℕ) → j < 64 → has (copies_of t h) j ≡ true → Ready t j
    copy-ready j l c = ⊎_elim (λ q. rw q left-ready) (λ q. rw q right-ready) ((copies-are t h j l).0 c).0

    none-alone : size_of (ready_set t) ≡ 1 → copies_of t h ≡ 0
    none-alone one =
        empty (copies_of t h) (copies-below t h) (λ j l.
        bool_false (has (copies_of t h) j) (λ c.
        ((copies-are t h j l).0 c).1 (no_other (ready_set t) h (low h r) r.1 one j l (copy-ready j l c).1)))

    -- of two ready nodes the other one is both neighbours
    one_of_two : size_of (ready_set t) ≡ 2 → left_at t h ≡ right_at t h
    one_of_two two =
        let own = not-its-own (omega arith) in
        no_third (ready_set t) h (right_at t h) (low h r) (low _ right-ready) r.1 right-ready.1 own.right two (left_at t h)
        (low _ left-ready) left-ready.1 own.left

    -- of three the neighbours are two
    two-of-more : 3 ≤ size_of (ready_set t) → left_at t h ≡ right_at t h → ⊥
    two-of-more three same =
        go (some-third (ready_set t) h (left_at t h) (low h r) (low _ left-ready) r.1 left-ready.1 own three)
      where
        own : left_at t h ≡ h → ⊥
        own = (not-its-own (omega arith)).left

        go : (z : ℕ) × (z < 64) × (has (ready_set t) z ≡ true) × (z ≡ h → ⊥) × (z ≡ left_at t h → ⊥) → ⊥
        go (z, l, q, d, apart) =
            let u : Ready t z = (ready-listed t z l q, q) in
            let close = flanked.close h z r u (λ f. d (sym f)) in
            apart (closest-one h (left_at t h) z r left-ready u own d close.left (rw same close.right))

    pub copies : Copies t h (copies_of t h)
    copies =
        record {
          below = copies-below t h;
          neighbours = copies-are t h;
          ready = copy-ready;
          alone = none-alone;
          two = λ two.
              let same = one_of_two two in
              let one : size_of (beside_of t h) ≡ 1 = rw (← same) (size-twice (left_at t h) (low _ left-ready)) in
              (same, copies-size t h (not-its-own (omega arith)) ∙ one);
          more = λ three.
              let apart = two-of-more three in
              (apart, copies-size t h (not-its-own (omega arith)) ∙ size-pair _ _ (low _ left-ready) (low _ right-ready) apart);
        }
