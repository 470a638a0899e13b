-- `repeated` meets its contract: the action that was matched decides the definition's case; with no message gone, all that wait are
-- looked at. Assumes nothing.
use denote.Enum.Declared
use mathlib.Core.Bool.{Bool, true, false, ◌&&◌, not}
use mathlib.Core.List.{List, [], ◌∷◌}
use mathlib.Core.Logic.{inl, inr}
use mathlib.Core.Path.{◌≡◌, refl, sym, ◌∙◌}
use Prim.Native.Nat.{ℕ, ◌≤◌}
use native.Mathlib.Omega.{arith}
use lib.Dec.{eqb, leb}
use lib.ListN.{length}
use borrow.Author.Tests.{leb-true, eqb-false, not-true}
use types.Run.{OneOf}
use borrow.Enum.Refused.{opened}
use Rattle.marks.proofs.Bools.{and_left, and_right}
use Rattle.rules.specs.contracts.Action as Act
use Rattle.rules.specs.declared.Action.{Action}
use Rattle.rules.specs.declared.Action.TheVariants.{Lookup, Join, RequestLease, LeaseExpired, GrantExpired, Take, Deliver, Forward}
use Rattle.rules.specs.declared.Action.TheVariants.{NodeLeft, SuspectFaulty, ProbeTimeOut, DeclareDead, LSRepair, ResignNode, Recover}
use Rattle.rules.specs.declared.Pool.{Pool}
use Rattle.table_type.specs.declared.Table.{Table}
use Rattle.step.specs.Step.{asked}
use Rattle.pool_laws.proofs.Laws.{removed-none}
use Rattle.table_plan.proofs.Called.{slot_as, key-low, called_as}
use Rattle.table_plan.proofs.repeated.Goals as goal

-- one of some numbers is as high as all of them
abbrev high_of : ℕ → List ℕ → Bool
high_of n [] = true
high_of n (k ∷ ks) = leb n k && high_of n ks

high : (n k : ℕ) (ks : List ℕ) (x : ℕ) → high_of n (k ∷ ks) ≡ true → OneOf (k ∷ ks) x → n ≤ x
high n k [] x h e = rw e (leb-true n k (and_left (leb n k) _ h))
high n k (j ∷ ks) x h (inl e) = rw e (leb-true n k (and_left (leb n k) _ h))
high n k (j ∷ ks) x h (inr o) = high n j ks x (and_right (leb n k) _ h) o

-- one of some numbers is other than one that none of them is
abbrev lacks : ℕ → List ℕ → Bool
lacks n [] = true
lacks n (k ∷ ks) = not (eqb k n) && lacks n ks

other : (n k : ℕ) (ks : List ℕ) (x : ℕ) → lacks n (k ∷ ks) ≡ true → OneOf (k ∷ ks) x → x ≡ n → ⊥
other n k [] x h e d = eqb-false k n (not-true _ (and_left (not (eqb k n)) _ h)) (sym e ∙ d)
other n k (j ∷ ks) x h (inl e) d = eqb-false k n (not-true _ (and_left (not (eqb k n)) _ h)) (sym e ∙ d)
other n k (j ∷ ks) x h (inr o) d = other n j ks x (and_right (not (eqb k n)) _ h) o d

-- the others ask no 3
unasked : (t : Table) (p : Pool) (a : Action) → 2 ≤ Declared.tag_of Act.the_type a → (Declared.tag_of Act.the_type a ≡ 13 → ⊥)
    → false ≡ (asked t p a).repeated
unasked t p (Lookup i k) h d = absurd (omega arith)
unasked t p (Join i seed) h d = absurd (omega arith)
unasked t p (RequestLease i) h d = refl
unasked t p (LeaseExpired i j) h d = refl
unasked t p (GrantExpired i j) h d = refl
unasked t p (Take place) h d = refl
unasked t p (Deliver place) h d = refl
unasked t p (Forward place) h d = refl
unasked t p (NodeLeft i) h d = refl
unasked t p (SuspectFaulty i j) h d = refl
unasked t p (ProbeTimeOut i j) h d = refl
unasked t p (DeclareDead i j) h d = refl
unasked t p (LSRepair i) h d = refl
unasked t p (ResignNode i n) h d = absurd (d refl)
unasked t p (Recover i) h d = refl

pub overflow_cast-k : goal.overflow_cast-k
overflow_cast-k c = record { fits = key-low (called_as c.requires.2 c.in-Lookup.is) }

pub overflow_cast-i : goal.overflow_cast-i
overflow_cast-i c = omega (arith, slot_as c.requires.2 c.in-Lookup.is)

pub overflow_cast-i-in-Join : goal.overflow_cast-i-in-Join
overflow_cast-i-in-Join c = omega (arith, slot_as c.requires.2 c.in-Join.is)

pub overflow_cast-i-in-ResignNode : goal.overflow_cast-i-in-ResignNode
overflow_cast-i-in-ResignNode c = omega (arith, slot_as c.requires.2 c.in-ResignNode.is)

pub returns-in-Lookup : goal.returns-in-Lookup
returns-in-Lookup c = λ t p e.
    c.waits.ensures
    ∙ rw (c.to_slot.ensures, c.lookup_of.ensures, removed-none c.args.waiting.now (length c.args.waiting.now) (omega arith), e, c.in-Lookup.is)

pub returns-in-Join : goal.returns-in-Join
returns-in-Join c = λ t p e. c.join_waits.ensures ∙ rw (e, c.in-Join.is)

pub returns-in-ResignNode : goal.returns-in-ResignNode
returns-in-ResignNode c = λ t p e. c.reply_waits.ensures ∙ rw (e, c.in-ResignNode.is)

pub returns-in_default : goal.returns-in_default
returns-in_default c = λ t p e.
    let ks : List ℕ = 3 ∷ 4 ∷ 5 ∷ 6 ∷ 7 ∷ 8 ∷ 9 ∷ 10 ∷ 11 ∷ 12 ∷ 14 ∷ [] in
    unasked t p c.args.a (high 2 2 ks _ refl (opened c.in_default.in_default-own.keys4)) (other 13 2 ks _ refl (opened c.in_default.in_default-own.keys4))
