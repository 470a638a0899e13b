-- At a ready node Deliver of a lookup is done where the node covers its key, and Forward where it does not, in every valid table: the node
-- makes a plan, and the pool has room, since one message goes and at most one comes. So the fate is what the node does: delivered, or on to
-- the next hop. Assumes nothing.
use Rattle.rules.specs.Shapes.{Answer}
use Rattle.std.specs.Prelude.{Ok, Err}
use mathlib.Core.Path.{◌≡◌, refl, sym, ◌∙◌, ap}
use mathlib.Core.Bool.{true, false}
use mathlib.Core.List.{List}
use Prim.Native.Nat.{ℕ, ◌+◌, ◌<◌, ◌≤◌}
use native.Mathlib.Omega.{arith}
use lib.ListN.{length}
use borrow.Author.Tests.{eq-eqb, lt-ltb}
use Rattle.marks.proofs.Bools.{opposed}
use Rattle.marks.specs.Marks.{size_of}
use Rattle.marks.proofs.Laws.{size-zero}
use Rattle.rules.specs.declared.Message.{Message}
use Rattle.rules.specs.declared.Pool.{Pool}
use Rattle.rules.specs.declared.Plan.{Plan}
use Rattle.rules.specs.declared.Action.{Action}
use Rattle.rules.specs.declared.Action.TheVariants.{Deliver, Forward}
use Rattle.rules.specs.declared.Refusal.{Refusal}
use Rattle.rules.specs.Letters.{lookup_after}
use Rattle.rules.specs.Plans.{is_ready, mailed, quiet_plan}
use Rattle.rules.specs.Pool.{waiting}
use Rattle.take.specs.Take.{forward_plan, plan_deliver, plan_forward}
use Rattle.pool_laws.proofs.Laws.{removed-length, mailed-length}
use Rattle.table_type.specs.declared.Table.{Table}
use Rattle.table_type.specs.Table.{node_at}
use Rattle.step.specs.Step.{one-goes, asked, planned_of, is_sound}
use Rattle.table.specs.Valid.{valid_of}
use Rattle.table_laws.proofs.Sound.{sound}
use Rattle.table_laws.proofs.By.{goes, go_same, never-go, RefusedFor, invalid, out_of_range, forbidden, full, step-refused}
use Rattle.lookup_laws.specs.Journey.{stepped, hops_at, LookupAt, delivered, onward, fate_of}
use Rattle.lookup_laws.specs.Claims.{Ready}
use Rattle.lookup_laws.proofs.Stands.{count-is}
use Rattle.lookup_laws.specs.Fates.{others, covers_at, hop_at}
use Rattle.lookup_laws.proofs.Tracks.{forward_at, Sends, to, nowhere, forwards, ready-is, deliver-is, forward-is}

-- at most one message is added
pass-adds : (t : Table) (k d c : ℕ) (x : Plan) → Sends t k d c x → x.all ≡ 0
pass-adds t k d c x (to h o e) = ap (λ (y : Plan). y.all) e
pass-adds t k d c x (nowhere o e) = ap (λ (y : Plan). y.all) e

adds_one_lem : (x : Plan) (ys : List Message) → x.all ≡ 0 → length (mailed x ys) ≤ length ys + 1
adds_one_lem x ys e = let none : size_of x.all ≡ 0 = rw e size-zero in omega (arith, (mailed-length x ys).1)

module _ (t : Table) (p : Pool) (q k d : ℕ) (e : valid_of t p ≡ true) (l : LookupAt p q k d) (r : Ready t d) where
  status-ready : is_ready (node_at t d).status ≡ true
  status-ready = sym (ready-is t d r.0) ∙ r.1

  room : (x : Plan) → x.all ≡ 0 → length (mailed x (others p q)) ≤ 256
  room x f =
      let v = sound t p e in
      let q-in : q < length (waiting p) = omega (arith, count-is v, l.waits) in
      omega (arith, adds_one_lem x (others p q) f, removed-length (waiting p) q q-in, count-is v, v.counted)

  -- an action on place q that has a plan, which adds at most one message
  module _ (a : Action) (g : (asked t p a).gone ≡ one-goes q) (x : Plan) (made : planned_of (asked t p a) ≡ Ok x) (small : x.all ≡ 0) where
    never-refused : (why : Refusal) → RefusedFor t p 256 a why → ⊥
    unfolding is_sound
    never-refused why (invalid f) = opposed e f
    never-refused why (out_of_range v f) = opposed ((goes t p q a g).0 ∙ lt-ltb q p.count l.waits) f
    never-refused why (forbidden v i f) = never-go (sym f ∙ made)
    never-refused why (full y v i f big) =
        let same : y ≡ x = go_same (sym made ∙ f) in
        omega (arith, room x small, rw (same, g) at big)

    done : (stepped t p a).answer ≡ Ok tt
    done = go (stepped t p a).answer refl
      where
        go : (r : Answer) → (stepped t p a).answer ≡ r → (stepped t p a).answer ≡ Ok tt
        go (Ok tt) f = f
        go (Err why) f = absurd (never-refused why (step-refused t p 256 a why f).0)

  pub deliver-done : covers_at t d k ≡ true → (stepped t p (Deliver q)).answer ≡ Ok tt
  unfolding plan_deliver
  deliver-done c = done (Deliver q) refl (quiet_plan (node_at t d)) (deliver-is t p q k d (sound t p e) l ∙ rw (status-ready, c)) refl

  pub forward-done : covers_at t d k ≡ false → (stepped t p (Forward q)).answer ≡ Ok tt
  unfolding plan_forward
  forward-done c =
      let b = hops_at p q in
      let x = forward_plan (hop_at t d k) (node_at t d) (lookup_after (b + 1) k) k d in
      let made : forward_at t d k b ≡ Ok x = rw (status-ready, c) in
      done (Forward q) refl x (forward-is t p q k d (sound t p e) l ∙ made) (pass-adds t k d b x (forwards t k d b x made).sends)

  pub fate-delivered : covers_at t d k ≡ true → fate_of t p q (Deliver q) ≡ delivered
  unfolding fate_of
  fate-delivered c = rw (deliver-done c, eq-eqb q q refl, l.is, c)

  pub fate-forwarded : covers_at t d k ≡ false → fate_of t p q (Forward q) ≡ onward (hop_at t d k) (others p q) k
  unfolding fate_of
  fate-forwarded c = rw (forward-done c, eq-eqb q q refl, l.is, c)
