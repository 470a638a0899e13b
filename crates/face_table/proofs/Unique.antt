-- Each public function has one reply for every input: any two that its contract allows are equal. Assumes nothing.
use mathlib.Core.Path.{◌≡◌, sym, ◌∙◌}
use mathlib.Core.List.{List, []}
use Prim.Native.Nat.{ℕ}
use Rattle.rules.specs.declared.Pool.{Pool}
use Rattle.rules.specs.Pool.{laid}
use Rattle.table_type.specs.declared.Table.{Table}
use Rattle.table_type.specs.declared.Stepped.{Stepped}
use Rattle.face.specs.Asked.{Rest, start_step, rest_of}

pub no-messages-unique : (r r' : Pool) → r ≡ laid [] → r' ≡ laid [] → r ≡ r'
no-messages-unique r r' h h' = h ∙ sym h'

module _ (t : Table) (p : Pool) (len : ℕ) where
  pub start-unique : (m l : ℕ) (ids : List ℕ) (a : ℕ) (r r' : Stepped) → r ≡ start_step t p len m l ids a → r' ≡ start_step t p len m l ids a → r ≡ r'
  start-unique m l ids a r r' h h' = h ∙ sym h'

  pub settled-unique : (r r' : Rest) → r ≡ rest_of t p len → r' ≡ rest_of t p len → r ≡ r'
  settled-unique r r' h h' = h ∙ sym h'
