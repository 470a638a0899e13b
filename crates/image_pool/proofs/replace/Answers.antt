-- `image_pool::replace` meets its contract. Assumes nothing.
use mathlib.Core.Path.{◌≡◌, sym, ◌∙◌, ap}
use mathlib.Core.List.{List, [], ◌∷◌, ◌++◌}
use Prim.Native.Nat.{ℕ, ◌+◌, ◌-◌}
use native.Mathlib.Omega.{arith}
use Rattle.rules.specs.declared.Message.{Message}
use Rattle.pool_laws.proofs.Equal.{added-at, added-nothing}
use Rattle.image.specs.InnerRecords.{messages_in}
use Rattle.image.proofs.Messages.{removed}
use Rattle.image_pool.proofs.replace.Goals as goal

pub returns-in-Some : goal.returns-in-Some
returns-in-Some c = let a = c.args in
    let e = sym c.first_equal-at.ensures ∙ c.in-Some.is in
    removed _ _ _ _ _ c.take_out.ensures ∙ sym (added-at _ a.m _ e)

pub returns-in-None : goal.returns-in-None
returns-in-None c = let a = c.args in
    let e = sym c.first_equal-at.ensures ∙ c.in-None.is in
    let q : a.count ≡ a.count - 1 + 1 = omega arith in
    ap (λ (k : ℕ). messages_in k c.append.new.part) q
    ∙ c.append.ensures
    ∙ ap (λ (ys : List Message). ys ++ (a.m ∷ [])) (removed _ _ _ _ _ c.take_out.ensures)
    ∙ sym (added-nothing _ a.m e)
