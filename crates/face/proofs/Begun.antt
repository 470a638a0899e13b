-- The number of a start that a caller gets is the one of which table_laws says when it is 0, 8 and 10 (Begin.start-refuses): whatever table and pool
-- the caller has, and a list of 256 places. Assumes nothing.
use mathlib.Core.Path.{◌≡◌, refl}
use Prim.Native.Nat.{ℕ}
use Rattle.std.specs.Prelude.{Result, Ok, Err}
use Rattle.rules.specs.Names.{Marks, Ids}
use Rattle.rules.specs.declared.Pool.{Pool}
use Rattle.rules.specs.declared.Refusal.{Refusal}
use Rattle.rules.specs.Numbers.{answer_number}
use Rattle.table_type.specs.declared.Table.{Table}
use Rattle.table_type.specs.Start.{start_of, start_number}
use Rattle.face.specs.Asked.{began, start_step}

began-number : (r : Result Table Refusal) (t : Table) (p : Pool) → answer_number (began r t p).answer ≡ start_number r
began-number (Ok u) t p = refl
began-number (Err why) t p = refl

pub start-told : (t : Table) (p : Pool) (m l : ℕ) (ids : Ids) (a : Marks)
    → answer_number (start_step t p 256 m l ids a).answer ≡ start_number (start_of m l ids a)
unfolding start_step
start-told t p m l ids a = began-number (start_of m l ids a) t p
