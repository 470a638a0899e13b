-- `face_table::settled` meets its contract: its two tests are the definition's, and a valid table is listed as the question asks. Assumes nothing.
use borrow.Author.Tests.{eq-eqb, ne_eqb}
use mathlib.Core.Path.{◌≡◌, sym, ◌∙◌}
use mathlib.Core.Bool.{true, false}
use Prim.Native.Nat.{ℕ}
use Rattle.rules.specs.declared.Pool.{Pool}
use Rattle.rules.specs.declared.Refusal.TheVariants as no
use Rattle.table_laws.proofs.Sound.{sound}
use Rattle.table_type.specs.declared.Table.{Table}
use Rattle.table.specs.Settled.{is_settled}
use Rattle.step.specs.Step.{is_sound}
use Rattle.table.specs.Valid.{valid_of}
use Rattle.std.specs.Prelude.{Bool, Ok, Err}
use Rattle.face.specs.Asked.{rest_of}
use Rattle.face_table.proofs.settled.Goals as goal

module _ (t : Table) (p : Pool) (len : ℕ) where
  no-list : (len ≡ 256 → ⊥) → Err no.Invalid ≡ rest_of t p len
  unfolding rest_of is_sound
  no-list d = rw (ne_eqb len 256 d)

  module _ (e : len ≡ 256) where
    not_valid : valid_of t p ≡ false → Err no.Invalid ≡ rest_of t p len
    unfolding rest_of is_sound
    not_valid v = rw (eq-eqb len 256 e, v)

    asked : valid_of t p ≡ true → (b : Bool) → b ≡ is_settled t → Ok b ≡ rest_of t p len
    unfolding rest_of is_sound
    asked v b s = rw (eq-eqb len 256 e, v, s)

pub returns-then-len-ne256 : goal.returns-then-len-ne256
returns-then-len-ne256 c = no-list _ _ _ c.if-len-ne256.true

pub returns-then-not-is_valid : goal.returns-then-not-is_valid
returns-then-not-is_valid c = not_valid _ _ _ c.if-len-ne256.false (sym c.is_valid.ensures ∙ c.if-not-is_valid.true)

pub is_settled_table-requires : goal.is_settled_table-requires
is_settled_table-requires c = (sound _ _ (sym c.is_valid.ensures ∙ c.if-not-is_valid.false)).listed

pub returns : goal.returns
returns c = asked _ _ _ c.if-len-ne256.false (sym c.is_valid.ensures ∙ c.if-not-is_valid.false) _ c.is_settled_table.ensures
