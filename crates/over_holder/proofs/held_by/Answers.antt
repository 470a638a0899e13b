-- `over_holder::held_by` meets its contract: what was said of the table's rest decides the definition's first and last test, and a table of
-- which it was said is listed. Assumes nothing.
use mathlib.Core.Path.{◌≡◌, refl, sym, ◌∙◌, ap}
use mathlib.Core.Bool.{Bool, true, false, cond}
use Prim.Native.Nat.{ℕ}
use Rattle.std.specs.Prelude.{Ok, Err}
use Rattle.face.specs.Asked.{Rest, rest_of}
use Rattle.rules.specs.declared.Pool.{Pool}
use Rattle.rules.specs.declared.Refusal.TheVariants as no
use Rattle.rules.specs.InnerAsks.{Listed}
use Rattle.table_laws.proofs.Sound.{sound, is-valid}
use Rattle.table_type.specs.declared.Table.{Table}
use Rattle.table_type.specs.Table.{ring_of, ids_of}
use Rattle.table.specs.Settled.{is_settled}
use Rattle.step.specs.Step.{is_sound}
use Rattle.holder.specs.declared.Unheld.TheVariants.{NotAsked}
use Rattle.holder.specs.Holder.{Holding, holding_in, holding_of}
use Rattle.over_holder.proofs.held_by.Goals as goal

-- what is answered where it was said of the rest r
abbrev answered : Rest → Table → ℕ → Holding
answered (Ok settled) t k = holding_in t settled k
answered (Err why) t k = Err (NotAsked why)

-- the table was looked at
abbrev looked_at : Rest → Bool
looked_at (Ok settled) = true
looked_at (Err why) = false

module _ (t : Table) (p : Pool) (len : ℕ) where
  sound-is : looked_at (rest_of t p len) ≡ is_sound t p len
  unfolding rest_of
  sound-is = go (is_sound t p len)
    where
      go : (a : Bool) → looked_at (cond a (Ok (is_settled t)) (Err no.Invalid)) ≡ a
      go true = refl
      go false = refl

  listed_of : (r : Rest) → r ≡ rest_of t p len → looked_at r ≡ true → Listed (ring_of t) (ids_of t)
  listed_of r e l = (sound t p (is-valid t p len (sym sound-is ∙ rw (← e) l))).listed

module _ (t : Table) (p : Pool) (len k : ℕ) where
  by-rest : answered (rest_of t p len) t k ≡ holding_of t p len k
  unfolding rest_of holding_of
  by-rest = go (is_sound t p len)
    where
      go : (a : Bool)
          → answered (cond a (Ok (is_settled t)) (Err no.Invalid)) t k ≡ cond a (holding_in t (is_settled t) k) (Err (NotAsked no.Invalid))
      go true = refl
      go false = refl

  told : (r : Rest) → rest_of t p len ≡ r → answered r t k ≡ holding_of t p len k
  told r e = rw (← e) by-rest

pub looked_for-requires : goal.looked_for-requires
looked_for-requires c = listed_of c.args.t c.args.p c.args.len _ c.settled-rest.ensures
    (ap looked_at c.in-Ok.is)

pub returns-in-Err : goal.returns-in-Err
returns-in-Err c = told c.args.t c.args.p c.args.len c.args.k (Err _)
    (sym c.settled-rest.ensures ∙ c.in-Err.is)

pub returns-in-Ok : goal.returns-in-Ok
returns-in-Ok c = c.looked_for.ensures
    ∙ told c.args.t c.args.p c.args.len c.args.k (Ok _)
    (sym c.settled-rest.ensures ∙ c.in-Ok.is)
