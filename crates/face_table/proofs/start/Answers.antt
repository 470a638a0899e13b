-- `face_table::start` meets its contract: the length and the answer of the table's own start decide the definition's case. Assumes nothing.
use Rattle.std.specs.Prelude.{Ok, Err}
use borrow.Author.Tests.{eq-eqb, ne_eqb}
use mathlib.Core.Path.{◌≡◌, sym, ◌∙◌}
use mathlib.Core.List.{List, []}
use Prim.Native.Nat.{ℕ}
use Rattle.rules.specs.declared.Pool.{Pool}
use Rattle.rules.specs.declared.Refusal.{Refusal}
use Rattle.rules.specs.declared.Refusal.TheVariants as no
use Rattle.rules.specs.Pool.{laid}
use Rattle.table_type.specs.declared.Table.{Table}
use Rattle.table.specs.Settle.{refused_of, done_of}
use Rattle.table_type.specs.Start.{start_of}
use Rattle.face.specs.Asked.{start_step}
use Rattle.face_table.proofs.start.Goals as goal

module _ (t : Table) (p : Pool) (len m l : ℕ) (ids : List ℕ) (a : ℕ) where
  no-list : (len ≡ 256 → ⊥) → refused_of t p no.Invalid ≡ start_step t p len m l ids a
  unfolding start_step
  no-list d = rw (ne_eqb len 256 d)

  module _ (e : len ≡ 256) where
    made-done : (u : Table) → start_of m l ids a ≡ Ok u → (q : Pool) → q ≡ laid [] → done_of u q ≡ start_step t p len m l ids a
    unfolding start_step
    made-done u d q none = rw (eq-eqb len 256 e, d, none)

    made-refused : (why : Refusal) → start_of m l ids a ≡ Err why → refused_of t p why ≡ start_step t p len m l ids a
    unfolding start_step
    made-refused why d = rw (eq-eqb len 256 e, d)

pub returns-then-len-ne256 : goal.returns-then-len-ne256
returns-then-len-ne256 c = c.refused.ensures ∙ no-list _ _ _ _ _ _ _ c.if-len-ne256.true

pub returns-in-Ok : goal.returns-in-Ok
returns-in-Ok c = c.done.ensures
    ∙ made-done _ _ _ _ _ _ _ c.if-len-ne256.false _ (sym c.start.ensures ∙ c.in-Ok.is) c.no_messages.result c.no_messages.ensures

pub returns-in-Err : goal.returns-in-Err
returns-in-Err c = c.refused-in-Err.ensures ∙ made-refused _ _ _ _ _ _ _ c.if-len-ne256.false _ (sym c.start.ensures ∙ c.in-Err.is)
