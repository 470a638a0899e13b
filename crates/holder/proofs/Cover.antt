-- The slot that holds a key of a settled table. The idea: some ready node covers the key (settled-held of crate lookup_laws) and no two do
-- (one-holder), so the first slot that passes the test is that node. Assumes nothing.
use Rattle.marks.specs.Marks.{Found}
use Rattle.std.specs.Prelude.{Some, None}
use mathlib.Core.Path.{◌≡◌, refl, sym, ◌∙◌}
use mathlib.Core.Bool.{true}
use Prim.Native.Nat.{ℕ, ◌^◌, ◌<◌}
use Rattle.marks.proofs.Bools.{opposed, and_left, and_right, and_both}
use Rattle.marks.proofs.Laws.{first_found, first-none}
use Rattle.rules.specs.declared.Pool.{Pool}
use Rattle.rules.specs.Plans.{is_ready}
use Rattle.table_type.specs.declared.Table.{Table}
use Rattle.table_type.specs.Table.{node_at}
use Rattle.table.specs.Settled.{is_settled}
use Rattle.table.specs.Valid.{valid_of}
use Rattle.lookup_laws.specs.Claims.{Ready}
use Rattle.lookup_laws.specs.Fates.{covers_at}
use Rattle.lookup_laws.proofs.Proved.{covers-nearest-ready, one-holder, settled-flanked, settled-held}
use Rattle.lookup_laws.proofs.Tracks.{ready-is}
use Rattle.holder.specs.Holder.{ready_covers, covered_by}
use Rattle.holder.specs.Claims.{Holds}

-- ---- the test

module _ (t : Table) (k s : ℕ) where
  test-passes : Ready t s → covers_at t s k ≡ true → ready_covers t k s ≡ true
  test-passes r c = and_both (sym (ready-is t s r.0) ∙ r.1) c

  test-told : s < t.n → ready_covers t k s ≡ true → Ready t s × (covers_at t s k ≡ true)
  test-told h e = ((h, ready-is t s h ∙ and_left (is_ready (node_at t s).status) _ e), and_right (is_ready (node_at t s).status) _ e)

-- ---- the first that passes

module _ (t : Table) (p : Pool) (k : ℕ) (e : valid_of t p ≡ true) (settled : is_settled t ≡ true) (hk : k < 2 ^ t.m) where
  pub covered : (h : ℕ) × (covered_by t k ≡ Some h)
  unfolding covered_by
  covered = go (covered_by t k) refl (settled-held t p k e settled hk)
    where
      go : (f : Found) → covered_by t k ≡ f → (i : ℕ) × Ready t i × (covers_at t i k ≡ true) → (h : ℕ) × (covered_by t k ≡ Some h)
      go (Some h) d some = (h, d)
      go None d (i, r, c) = absurd (opposed (test-passes t k i r c) (first-none t.n (ready_covers t k) d i r.0))

  pub covered-holds : (h : ℕ) → covered_by t k ≡ Some h → Holds t k h
  unfolding covered_by
  covered-holds h d =
      let f = first_found t.n (ready_covers t k) h d in
      let (r, c) = test-told t k h f.below f.holds in
      record {
        covers = c;
        nearest = (covers-nearest-ready t p k h e settled hk r).0 c;
        only = λ j u o. one-holder t p k j h e (settled-flanked t p e settled) hk u r o c;
      }
