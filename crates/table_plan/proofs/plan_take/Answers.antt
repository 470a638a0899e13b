-- `plan_take` meets its contract: the kind that was matched decides the definition's tests, and what each kind's plan asks is told by the message's validity.
-- Assumes nothing.
use Rattle.rules.specs.Shapes.{Planned}
use Rattle.std.specs.Prelude.{Err}
use borrow.Author.Tests.{ne_eqb}
use mathlib.Core.Path.{◌≡◌, refl, sym, ◌∙◌, ap}
use mathlib.Core.Bool.{Bool, true, false, cond}
use mathlib.Core.List.{List}
use Prim.Native.Nat.{ℕ}
use lib.Dec.{eqb}
use native.Mathlib.Omega.{arith}
use Rattle.rules.specs.declared.Ring.{Ring}
use Rattle.rules.specs.declared.Node.{Node}
use Rattle.rules.specs.declared.Message.{Message}
use Rattle.rules.specs.declared.Refusal.TheVariants as no
use Rattle.rules.specs.Fits.{has_node}
use Rattle.take.specs.Take.{plan_take}
use Rattle.table_laws.proofs.Obeys.{obeys}
use Rattle.table_plan.proofs.plan_take.Goals as goal

either : (b : Bool) (x : Planned) → x ≡ cond b x x
either true x = refl
either false x = refl

-- no other kind has a plan
none : (k : ℕ) (g : Ring) (ids : List ℕ) (dead i : ℕ) (v : Node) (m : Message) → (k ≡ 2 → ⊥) → (k ≡ 3 → ⊥) → (k ≡ 4 → ⊥) → (k ≡ 5 → ⊥)
    → (k ≡ 7 → ⊥) → (k ≡ 8 → ⊥) → Err no.Partner ≡ plan_take k g ids dead i v m
unfolding plan_take
none k g ids dead i v m b c d e f h =
    rw (ne_eqb k 2 b, ne_eqb k 3 c, ne_eqb k 4 d, ne_eqb k 5 e, ne_eqb k 7 f, ne_eqb k 8 h)
    (rw (← either (eqb k 6) (Err no.Partner)) (either (eqb k 1) (Err no.Partner)))

pub plan_take_join_request-requires : goal.plan_take_join_request-requires
plan_take_join_request-requires c = let n = c.args.r.now.listed.n-high in
    let j = (obeys _ _ c.requires.1).node_in_lem (ap has_node c.in-2.is) in
    (omega arith, omega (arith, j))

pub returns-in-2 : goal.returns-in-2
unfolding plan_take
returns-in-2 c = let by : ℕ → Planned = λ k. let a = c.args in plan_take k a.r.now.ring a.r.now.ids a.dead a.i a.v a.m in
    c.plan_take_join_request.ensures ∙ sym (ap (by) c.in-2.is)

pub returns-in-3 : goal.returns-in-3
unfolding plan_take
returns-in-3 c = let by : ℕ → Planned = λ k. let a = c.args in plan_take k a.r.now.ring a.r.now.ids a.dead a.i a.v a.m in
    c.plan_take_join_reply.ensures ∙ sym (ap (by) c.in-3.is)

pub returns-in-4 : goal.returns-in-4
unfolding plan_take
returns-in-4 c = let by : ℕ → Planned = λ k. let a = c.args in plan_take k a.r.now.ring a.r.now.ids a.dead a.i a.v a.m in
    c.plan_take_probe.ensures ∙ sym (ap (by) c.in-4.is)

pub returns-in-5 : goal.returns-in-5
unfolding plan_take
returns-in-5 c = let by : ℕ → Planned = λ k. let a = c.args in plan_take k a.r.now.ring a.r.now.ids a.dead a.i a.v a.m in
    c.plan_take_probe_reply.ensures ∙ sym (ap (by) c.in-5.is)

pub returns-in-7 : goal.returns-in-7
unfolding plan_take
returns-in-7 c = let by : ℕ → Planned = λ k. let a = c.args in plan_take k a.r.now.ring a.r.now.ids a.dead a.i a.v a.m in
    c.plan_take_lease_request.ensures ∙ sym (ap (by) c.in-7.is)

pub returns-in-8 : goal.returns-in-8
unfolding plan_take
returns-in-8 c = let by : ℕ → Planned = λ k. let a = c.args in plan_take k a.r.now.ring a.r.now.ids a.dead a.i a.v a.m in
    c.plan_take_broadcast.ensures ∙ sym (ap (by) c.in-8.is)

pub returns-in_default : goal.returns-in_default
returns-in_default c = let r = c.in_default.in_default-own.rest in
    none _ _ _ _ _ _ _ r.0.0.0.0.0.1 r.0.0.0.0.1 r.0.0.0.1 r.0.0.1 r.0.1 r.1
