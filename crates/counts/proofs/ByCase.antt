-- The definitions, case by case, as the tests of the functions tell them apart. Assumes nothing.
use mathlib.Core.Path.{◌≡◌, ap, sym, ◌∙◌}
use mathlib.Core.Bool.{true, false}
use mathlib.Core.List.{List}
use Prim.Native.Nat.{ℕ, ◌<◌, ◌≤◌}
use borrow.Author.Tests.{lt-ltb, le-ltb, eq-eqb, ne_eqb}
use lib.Dec.{ltb}
use Rattle.marks.proofs.Bools.{and_left}
use Rattle.marks.specs.Marks.{gather}
use Rattle.rules.specs.declared.Pool.{Pool}
use Rattle.rules.specs.declared.Refusal.TheVariants as no
use Rattle.rules.specs.Pool.{waiting}
use Rattle.table_laws.proofs.Sound.{sound, Sound, is-valid}
use Rattle.step.specs.Step.{is_sound}
use Rattle.table.specs.Valid.{valid_of}
use Rattle.counts.specs.declared.Counted.{Counted}
use Rattle.counts.specs.Counts.{counts_of, count_at, agree_of, is_sound_counted}
use Rattle.counts.specs.Counts.{first_for, has_of, first_of, polled_of}
use native.Mathlib.Omega.{arith}
use mathlib.Core.Logic.{◌↔◌}
use lib.ListN.{length, get_or}
use lib.Seq.{ext_get_or}
use Rattle.counts.specs.Counts.{count_for}
use Rattle.counts.proofs.CountLaws.{agree_at, agree_of_lem, numbers-length, counts-at}
use Rattle.std.specs.Prelude.{Ok, Err, None}

-- 64 counts agree with a pool exactly where they are those of the pool
pub same-agrees : (c : List ℕ) (p : Pool) → length c ≡ 64 → (c ≡ counts_of p) ↔ (agree_of c p ≡ true)
unfolding counts_of
same-agrees c p long = (
  λ e. agree_of_lem c p (λ i h. ap (λ (xs : List ℕ). get_or xs i 0) e ∙ counts-at p i h),
  λ a. ext_get_or 0 c (counts_of p) (long ∙ sym (numbers-length 64 (count_for (waiting p))))
      (λ i h. agree_at c p a i (omega (arith, long)) ∙ sym (counts-at p i (omega (arith, long)))),
)

-- ---- a table that is sound, with its counts, or not

module _ (x : Counted) (len : ℕ) where
  pub other_length : (len ≡ 256 → ⊥) → false ≡ is_sound_counted x len
  unfolding is_sound_counted is_sound
  other_length h = rw (ne_eqb len 256 h)

  pub not_valid : len ≡ 256 → valid_of x.table x.pool ≡ false → false ≡ is_sound_counted x len
  unfolding is_sound_counted is_sound
  not_valid h e = rw (eq-eqb len 256 h, e)

  pub then_agrees : len ≡ 256 → valid_of x.table x.pool ≡ true → agree_of x.counts x.pool ≡ is_sound_counted x len
  unfolding is_sound_counted is_sound
  then_agrees h e = rw (eq-eqb len 256 h, e)

  module _ (e : is_sound_counted x len ≡ false) where
    pub has-invalid : (i : ℕ) → Err no.Invalid ≡ has_of x len i
    unfolding has_of
    has-invalid i = rw e

    pub first-invalid : (i : ℕ) → Err no.Invalid ≡ first_of x len i
    unfolding first_of
    first-invalid i = rw e

    pub polled-invalid : Err no.Invalid ≡ polled_of x len
    unfolding polled_of
    polled-invalid = rw e

  module _ (e : is_sound_counted x len ≡ true) where
    pub tells : Sound x.table x.pool
    unfolding is_sound_counted
    tells = sound x.table x.pool (is-valid x.table x.pool len (and_left (is_sound x.table x.pool len) _ e))

    pub polled-nodes : Ok (gather x.table.n (λ i. ltb 0 (count_at x.counts i))) ≡ polled_of x len
    unfolding polled_of
    polled-nodes = rw e

    module _ (i : ℕ) where
      pub has-out : x.table.n ≤ i → Err no.OutOfRange ≡ has_of x len i
      unfolding has_of
      has-out h = rw (e, le-ltb i x.table.n h)

      pub first_out : x.table.n ≤ i → Err no.OutOfRange ≡ first_of x len i
      unfolding first_of
      first_out h = rw (e, le-ltb i x.table.n h)

      module _ (h : i < x.table.n) where
        pub has-told : Ok (ltb 0 (count_at x.counts i)) ≡ has_of x len i
        unfolding has_of
        has-told = rw (e, lt-ltb i x.table.n h)

        pub first-none : count_at x.counts i ≡ 0 → Ok None ≡ first_of x len i
        unfolding first_of
        first-none z = rw (e, lt-ltb i x.table.n h, eq-eqb (count_at x.counts i) 0 z)

        pub first-walked : (count_at x.counts i ≡ 0 → ⊥) → Ok (first_for (waiting x.pool) i) ≡ first_of x len i
        unfolding first_of
        first-walked z = rw (e, lt-ltb i x.table.n h, ne_eqb (count_at x.counts i) 0 z)
