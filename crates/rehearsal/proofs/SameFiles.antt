-- What the tests of a claim tell: two files pass `same` exactly if they are equal, and a step passes `agrees_with` exactly if it is done and
-- its file is the stated one. Assumes nothing.
use Rattle.rules.specs.Shapes.{Answer}
use Rattle.std.specs.Prelude.{Ok, Err}
use mathlib.Core.Path.{◌≡◌, refl, sym, ap, ap₂}
use mathlib.Core.Bool.{Bool, true, false}
use mathlib.Core.List.{List, [], ◌∷◌}
use mathlib.Core.Logic.{◌⊎◌, inl, inr, ⊎_elim, ◌↔◌}
use Prim.Native.Nat.{ℕ}
use borrow.Author.Tests.{eqb-true, eq-eqb}
use lib.Dec.{eqb}
use Rattle.marks.proofs.Bools.{clash, bool_cases, bool_false, opposed, and_left, and_right, and_both}
use Rattle.rules.specs.declared.Pool.{Pool}
use Rattle.table_type.specs.declared.Table.{Table}
use Rattle.file.specs.Format.{file_of}
use Rattle.rehearsal.specs.Rehearsal.{Claim, same, is_done, agrees_with}
use Rattle.rehearsal.specs.Claims.{made, Agrees}

same_self : (xs : List ℕ) → same xs xs ≡ true
same_self [] = refl
same_self (x ∷ xs) = and_both (eq-eqb x x refl) (same_self xs)

same-equal : (xs ys : List ℕ) → same xs ys ≡ true → xs ≡ ys
same-equal [] [] e = refl
same-equal [] (y ∷ ys) e = absurd (clash (sym e))
same-equal (x ∷ xs) [] e = absurd (clash (sym e))
same-equal (x ∷ xs) (y ∷ ys) e =
    ap₂ {C = List ℕ} (λ z zs. z ∷ zs) (eqb-true x y (and_left (eqb x y) (same xs ys) e))
    (same-equal xs ys (and_right (eqb x y) (same xs ys) e))

pub same-exactly : (xs ys : List ℕ) → (same xs ys ≡ true) ↔ (xs ≡ ys)
same-exactly xs ys = (same-equal xs ys, λ e. rw e (same_self ys))

done-told : (w : Answer) → is_done w ≡ true → w ≡ Ok tt
done-told (Ok tt) e = refl
done-told (Err why) e = absurd (clash (sym e))

module _ (t : Table) (p : Pool) (c : Claim) where
  pub agrees-exactly : (agrees_with (made t p c) c.file ≡ true) ↔ Agrees t p c
  unfolding agrees_with
  agrees-exactly =
      let f : List ℕ = file_of (made t p c).table (made t p c).pool in
      let d : Bool = is_done (made t p c).answer in
      let e : Bool = same f c.file in (
        λ h. (done-told (made t p c).answer (and_left d e h), (same-exactly f c.file).0 (and_right d e h)),
        λ a. and_both (ap is_done a.0) ((same-exactly f c.file).1 a.1),
      )

  pub agrees-not : (Agrees t p c → ⊥) → agrees_with (made t p c) c.file ≡ false
  agrees-not n = bool_false (agrees_with (made t p c) c.file) (λ e. n (agrees-exactly.0 e))

  pub agrees-or-not : Agrees t p c ⊎ (Agrees t p c → ⊥)
  agrees-or-not =
      ⊎_elim (λ e. inl (agrees-exactly.0 e)) (λ e. inr (λ a. opposed (agrees-exactly.1 a) e))
      (bool_cases (agrees_with (made t p c) c.file))
