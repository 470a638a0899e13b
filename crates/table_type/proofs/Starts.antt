-- Laws of the start: what stands in its slots, what its two tests tell, that ids that pass them are listed, and its three answers.
-- Assumes nothing.
use Rattle.std.specs.Prelude.{Ok, Err}
use mathlib.Core.Path.{◌≡◌, refl, ◌∙◌}
use mathlib.Core.Logic.{◌⊎◌, inl, inr, ⊎_elim}
use mathlib.Core.List.{List, [], ◌∷◌, ◌++◌}
use mathlib.Core.Bool.{true, false, cond, ◌&&◌, not}
use Prim.Native.Nat.{ℕ, zero, suc, ◌^◌, ◌<◌, ◌≤◌}
use native.Mathlib.Nat.{eq-or-lt_of_le, le_of_suc-le-suc}
use native.Mathlib.Numerals.{add-one}
use native.Mathlib.Omega.{arith}
use borrow.Author.Tests.{ltb-true, leb-true, eqb-false, lt-ltb, le-ltb, ne_eqb, not-true}
use lib.Dec.{eqb, leb, ltb}
use lib.ListN.{length, get_or, replicate, length-append, length-replicate, get_or-append, get_or-eq_default}
use lib.Pow.{pow_pos}
use lib.Seq.{length-take-le, get_or-take, get_or_at}
use Rattle.marks.proofs.Bools.{and_left, and_right, lt-or-le}
use Rattle.marks.specs.Marks.{all_to, listed}
use Rattle.marks.proofs.Laws.{each}
use Rattle.rules.specs.declared.Ring.{Ring}
use Rattle.rules.specs.InnerAsks.{Listed}
use Rattle.rules.specs.Nodes.{no_node}
use Rattle.rules.specs.Pick.{id_at}
use Rattle.rules.specs.declared.Refusal.TheVariants as no
use Rattle.start.specs.Start.{slot_ids, slots_to, start_node, start_nodes, start_fits, ids_rise, list_fits, id_rises}
use Rattle.table_type.specs.Start.{start_table, start_of}

-- ---- the ids in their slots

zeros : (n k : ℕ) → ◌≡◌ {A = ℕ} (get_or (replicate n 0) k 0) 0
zeros zero k = refl
zeros (suc n) zero = refl
zeros (suc n) (suc k) = zeros n k

padded : (ids : List ℕ) (k : ℕ) → get_or (ids ++ replicate 64 0) k 0 ≡ get_or ids k 0
padded [] k = zeros 64 k
padded (x ∷ ids) zero = refl
padded (x ∷ ids) (suc k) = padded ids k

pub slot-ids-long : (ids : List ℕ) → length (slot_ids ids) ≡ 64
unfolding slot_ids
slot-ids-long ids = length-take-le 64 (ids ++ replicate 64 0) (simp (length-append, length-replicate) (omega arith))

pub slot-ids-at : (ids : List ℕ) (s : ℕ) → s < 64 → id_at (slot_ids ids) s ≡ id_at ids s
unfolding slot_ids
slot-ids-at ids s h = get_or-take 64 (ids ++ replicate 64 0) s 0 h ∙ padded ids s

pub slot-ids-past : (ids : List ℕ) (s : ℕ) → length ids ≤ s → s < 64 → id_at (slot_ids ids) s ≡ 0
slot-ids-past ids s l h = slot-ids-at ids s h ∙ get_or-eq_default ids 0 l

-- ---- the list of what stands in the first n slots

module _ {A : Type 0} (f : ℕ → A) where
  pub slots-long : (n : ℕ) → length (slots_to n f) ≡ n
  unfolding slots_to
  slots-long zero = refl
  slots-long (suc n) = length-append (slots_to n f) (f n ∷ []) ∙ (rw (slots-long n) (add-one n))

  pub slots_at : (n s : ℕ) (d : A) → s < n → get_or (slots_to n f) s d ≡ f s
  unfolding slots_to
  slots_at zero s d h = absurd (omega arith)
  slots_at (suc n) s d h = go (slots_at n s d) (eq-or-lt_of_le (le_of_suc-le-suc h))
    where
      go : (s < n → get_or (slots_to n f) s d ≡ f s) → (s ≡ n) ⊎ (s < n) → get_or (slots_to n f ++ (f n ∷ [])) s d ≡ f s
      go rest (inl e) = rw e (get_or_at (slots_to n f) (f n) [] d n (slots-long n))
      go rest (inr l) = get_or-append (slots_to n f) (f n ∷ []) d s (omega (arith, slots-long n)) ∙ rest l

module _ (g : Ring) (ids : List ℕ) (a : ℕ) where
  pub start-nodes-long : length (start_nodes g ids a) ≡ 64
  unfolding start_nodes
  start-nodes-long = slots-long (λ s. cond (ltb s g.n) (start_node g ids a s) no_node) 64

  -- what stands in a slot that is listed, and in one that is not
  pub start-node-at : (s : ℕ) → s < g.n → s < 64 → get_or (start_nodes g ids a) s no_node ≡ start_node g ids a s
  unfolding start_nodes
  start-node-at s h k = slots_at (λ t. cond (ltb t g.n) (start_node g ids a t) no_node) 64 s no_node k ∙ (rw (lt-ltb s g.n h))

  pub start-node-past : (s : ℕ) → g.n ≤ s → s < 64 → get_or (start_nodes g ids a) s no_node ≡ no_node
  unfolding start_nodes
  start-node-past s h k = slots_at (λ t. cond (ltb t g.n) (start_node g ids a t) no_node) 64 s no_node k ∙ (rw (le-ltb s g.n h))

-- ---- what the tests tell

-- M from 2 to 32, L from 1 to 8, n from 1 to 64 nodes
pub record StartFits (m l n : ℕ) : Type 0 where
  pub m-low : 2 ≤ m
  pub m-high : m ≤ 32
  pub l-low : 1 ≤ l
  pub l-high : l ≤ 8
  pub n-low : 1 ≤ n
  pub n-high : n ≤ 64

pub start_fits_lem : (m l n : ℕ) → start_fits m l n ≡ true → StartFits m l n
unfolding start_fits
start_fits_lem m l n e =
    let p = and_right (leb 2 m) (leb m 32 && (leb 1 l && (leb l 8 && (leb 1 n && leb n 64)))) e in
    let q = and_right (leb m 32) (leb 1 l && (leb l 8 && (leb 1 n && leb n 64))) p in
    let r = and_right (leb 1 l) (leb l 8 && (leb 1 n && leb n 64)) q in
    let t = and_right (leb l 8) (leb 1 n && leb n 64) r in
    record {
      m-low = leb-true 2 m (and_left (leb 2 m) _ e);
      m-high = leb-true m 32 (and_left (leb m 32) _ p);
      l-low = leb-true 1 l (and_left (leb 1 l) _ q);
      l-high = leb-true l 8 (and_left (leb l 8) _ r);
      n-low = leb-true 1 n (and_left (leb 1 n) (leb n 64) t);
      n-high = leb-true n 64 (and_right (leb 1 n) (leb n 64) t);
    }

module _ (m n : ℕ) (ids : List ℕ) where
  pub ids-rising : ids_rise m n ids ≡ all_to n (id_rises m ids)
  unfolding ids_rise
  ids-rising = refl

  pub ids-below : (s : ℕ) → ids_rise m n ids ≡ true → s < n → id_at ids s < 2 ^ m
  unfolding ids_rise
  ids-below s e h = ltb-true (id_at ids s) (2 ^ m) (and_left (ltb (id_at ids s) (2 ^ m)) _ (each n (id_rises m ids) s e h))

  pub ids-rise : (s : ℕ) → ids_rise m n ids ≡ true → suc s < n → id_at ids s < id_at ids (suc s)
  unfolding ids_rise
  ids-rise s e h =
      let p = and_right (ltb (id_at ids (suc s)) (2 ^ m)) _ (each n (id_rises m ids) (suc s) e h) in
      ltb-true (id_at ids s) (id_at ids (suc s)) (rw (ne_eqb (suc s) 0 (λ z. omega arith)) at p)

-- ids below 2^M and strictly rising, A not empty and with no mark at n or above
pub record ListFits (m n : ℕ) (ids : List ℕ) (a : ℕ) : Type 0 where
  pub rise : ids_rise m n ids ≡ true
  pub some : a ≡ 0 → ⊥
  pub marks : listed n a ≡ true

pub list-fits : (m n : ℕ) (ids : List ℕ) (a : ℕ) → list_fits m n ids a ≡ true → ListFits m n ids a
unfolding list_fits
list-fits m n ids a e =
    let p = and_right (ids_rise m n ids) (not (eqb a 0) && listed n a) e in
    record {
      rise = and_left (ids_rise m n ids) (not (eqb a 0) && listed n a) e;
      some = eqb-false a 0 (not-true (eqb a 0) (and_left (not (eqb a 0)) (listed n a) p));
      marks = and_right (not (eqb a 0)) (listed n a) p;
    }

-- the ids of a start are listed
pub start-listed : (m l : ℕ) (ids : List ℕ) → StartFits m l (length ids) → ids_rise m (length ids) (slot_ids ids) ≡ true
    → Listed (record { m = m; l = l; n = length ids }) (slot_ids ids)
start-listed m l ids f e =
    record {
      width = record { low = omega (arith, f.m-low); high = f.m-high };
      n-high = f.n-high;
      ids-in = λ s h.
          ⊎_elim (ids-below m (length ids) (slot_ids ids) s e) (λ k. rw (slot-ids-past ids s k h) (pow_pos m)) (lt-or-le s (length ids));
      rises = λ s h. ids-rise m (length ids) (slot_ids ids) s e h;
    }

-- ---- the three answers

module _ (m l : ℕ) (ids : List ℕ) (a : ℕ) where
  pub start-header : start_fits m l (length ids) ≡ false → start_of m l ids a ≡ Err no.Header
  unfolding start_of
  start-header p = rw p

  pub start-invalid : start_fits m l (length ids) ≡ true → list_fits m (length ids) (slot_ids ids) a ≡ false
      → start_of m l ids a ≡ Err no.Invalid
  unfolding start_of
  start-invalid p q = rw (p, q)

  pub start-done : start_fits m l (length ids) ≡ true → list_fits m (length ids) (slot_ids ids) a ≡ true
      → start_of m l ids a ≡ Ok (start_table m l (length ids) (slot_ids ids) a)
  unfolding start_of
  start-done p q = rw (p, q)
