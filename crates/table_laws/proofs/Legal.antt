-- What a start asks, as facts of what the caller gave: the two tests of start_of pass exactly where these hold. Assumes nothing.
use mathlib.Core.Path.{◌≡◌}
use mathlib.Core.List.{List}
use mathlib.Core.Bool.{true}
use Prim.Native.Nat.{ℕ, zero, suc, ◌^◌, ◌<◌, ◌≤◌}
use native.Mathlib.Omega.{arith}
use borrow.Author.Tests.{lt-ltb, le-leb, ne_eqb}
use lib.Dec.{eqb}
use lib.ListN.{length}
use Rattle.marks.proofs.Bools.{and_both, or_right, false-not}
use Rattle.marks.specs.Marks.{listed}
use Rattle.marks.proofs.Laws.{all_of}
use Rattle.rules.specs.Pick.{id_at}
use Rattle.start.specs.Start.{slot_ids, start_fits, ids_rise, list_fits, id_rises}
use Rattle.table_type.proofs.Starts.{StartFits, ListFits, slot-ids-at, ids-below, ids-rise}

-- ids below 2^M and strictly rising, A not empty and with no mark at n or above
pub record Legal (m : ℕ) (ids : List ℕ) (a : ℕ) : Type 0 where
  pub below : (s : ℕ) → s < length ids → id_at ids s < 2 ^ m
  pub rises : (s : ℕ) → suc s < length ids → id_at ids s < id_at ids (suc s)
  pub some : a ≡ 0 → ⊥
  pub marks : listed (length ids) a ≡ true

pub fits-start : (m l n : ℕ) → StartFits m l n → start_fits m l n ≡ true
unfolding start_fits
fits-start m l n f =
    and_both (le-leb 2 m f.m-low) (and_both (le-leb m 32 f.m-high) (and_both (le-leb 1 l f.l-low)
    (and_both (le-leb l 8 f.l-high) (and_both (le-leb 1 n f.n-low) (le-leb n 64 f.n-high)))))

module _ (m : ℕ) (ids : List ℕ) (a : ℕ) (high : length ids ≤ 64) where
  slot : (s : ℕ) → s < length ids → id_at (slot_ids ids) s ≡ id_at ids s
  slot s h = slot-ids-at ids s (omega arith)

  pub list-legal : ListFits m (length ids) (slot_ids ids) a → Legal m ids a
  list-legal e =
      record {
        below = λ s h. rw (slot s h) at (ids-below m (length ids) (slot_ids ids) s e.rise h);
        rises = λ s h. rw (slot s (omega arith), slot (suc s) h) at (ids-rise m (length ids) (slot_ids ids) s e.rise h);
        some = e.some;
        marks = e.marks;
      }

  legal-rises : Legal m ids a → (s : ℕ) → s < length ids → id_rises m (slot_ids ids) s ≡ true
  legal-rises g zero h = rw (slot 0 h, lt-ltb (id_at ids 0) (2 ^ m) (g.below 0 h))
  legal-rises g (suc s) h =
      rw (slot s (omega arith), slot (suc s) h, lt-ltb (id_at ids (suc s)) (2 ^ m) (g.below (suc s) h))
      (or_right (eqb (suc s) 0) (lt-ltb (id_at ids s) (id_at ids (suc s)) (g.rises s h)))

  pub legal-list : Legal m ids a → list_fits m (length ids) (slot_ids ids) a ≡ true
  unfolding list_fits ids_rise
  legal-list g =
      and_both (all_of (length ids) (id_rises m (slot_ids ids)) (legal-rises g)) (and_both (false-not (ne_eqb a 0 g.some)) g.marks)
