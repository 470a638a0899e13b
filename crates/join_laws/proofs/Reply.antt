-- Take of a JoinReply. It is done at an empty node i only, so by 6 i is wait, and the message introduces it. With the content added i
-- guards against every node that is up. One that i does not probe stands beyond a node that i knows, above and below, and guards against
-- those two: so it guards against i (`beyond-up`, `beyond-down`). Assumes nothing.
use Rattle.std.specs.Prelude.{Ok}
use mathlib.Core.Path.{◌≡◌, refl, ◌∙◌}
use mathlib.Core.Logic.{inl, inr, ⊎_elim}
use mathlib.Core.Bool.{true, false, ◌||◌}
use Prim.Native.Nat.{ℕ, ◌^◌, ◌<◌}
use native.Mathlib.Omega.{arith}
use lib.Dec.{eqb}
use borrow.Author.Tests.{ne_eqb}
use Rattle.marks.proofs.Bools.{opposed, and_both, or_left, or_right, false-not, bool_cases}
use Rattle.marks.specs.Marks.{has}
use Rattle.marks.proofs.Laws.{has-remove}
use Rattle.rules.specs.declared.Sides.{Sides}
use Rattle.rules.specs.declared.Node.{Node}
use Rattle.rules.specs.declared.Message.{Message}
use Rattle.rules.specs.declared.Plan.{Plan}
use Rattle.rules.specs.Leaf.{content_of, leaf_with}
use Rattle.rules.specs.Nodes.{sides_of, carried_of}
use Rattle.rules.specs.Pick.{id_at}
use Rattle.rules.specs.Pool.{blank}
use Rattle.take.specs.Take.{joined_node, join_reply_plan, plan_take_join_reply}
use Rattle.rules_laws.proofs.Leaf.{has-content, left-from, right-from}
use Rattle.table_laws.proofs.Plans.{none-to}
use Rattle.join_laws.proofs.Beyond.{beyond-up, beyond-down}
use Rattle.join_laws.specs.Clauses.{View, Up, Alive, Joining, Blank, Guards, GuardsAt, Beside, Calm, Introduces, Fair}
use Rattle.join_laws.proofs.Good.{Fitting, Good, probe-fair, quiet_put, put-calm, put-stays}
use Rattle.join_laws.proofs.Guarding.{near_up, near_down, guards-add, guards-past}
use Rattle.join_laws.proofs.Moves.{Quiet, Here}
use Rattle.join_laws.proofs.Written.{put, up-alive, up-no-wait, empty-none}
use Rattle.join_laws.proofs.Told.{told-join-reply}

module _ (t : View) (i : ℕ) (m : Message) (c : Calm t) (f : Fitting t) (new : Blank t i) (intro : Introduces t i m) where
  abbrev content : ℕ
  content = content_of (carried_of m) m.owner

  abbrev sides : Sides
  sides = leaf_with t.ring t.ids i (sides_of (t.at i)) content

  abbrev node : Node
  node = joined_node (t.at i) i m.routing content sides

  low : (s : ℕ) → s < t.ring.n → s < 64
  low s h = omega (arith, f.listed.n-high)

  -- who is up is not i, which is wait
  other : (e : ℕ) → Up t e → e ≡ i → ⊥
  other e u d = opposed new.0.1 (up-no-wait (t.at i).status (rw d at u.1))

  -- 2: i guards against every node that is up
  guards-up : (e : ℕ) → Up t e → Guards t.ring t.ids i sides e
  guards-up e u =
      let (a, ha, na) = intro.above e u in
      let (b, hb, nb) = intro.below e u in
      record {
        up = near_up t.ring t.ids f.one i (sides_of (t.at i)) content a e ha.0 ha.1 (other a (intro.all_up a ha)) na;
        down = near_down t.ring t.ids f.one i (sides_of (t.at i)) content b e hb.0 hb.1 (other b (intro.all_up b hb)) nb;
      }

  -- what i knows now is up
  left_up : (y : ℕ) → y < t.ring.n → has sides.left y ≡ true → Up t y
  left_up y h p =
      ⊎_elim (λ e. absurd (empty-none (sides_of (t.at i)) y new.1 (inl e))) (λ e. intro.all_up y (h, e))
      (left-from t.ring t.ids i (sides_of (t.at i)) content y p).from

  right-up : (y : ℕ) → y < t.ring.n → has sides.right y ≡ true → Up t y
  right-up y h p =
      ⊎_elim (λ e. absurd (empty-none (sides_of (t.at i)) y new.1 (inr e))) (λ e. intro.all_up y (h, e))
      (right-from t.ring t.ids i (sides_of (t.at i)) content y p).from

  beside-up : (y : ℕ) → Beside t sides y → Up t y
  beside-up y b = ⊎_elim (left_up y b.0) (right-up y b.0) b.1

  -- and is probed
  probed : (y : ℕ) → y < t.ring.n → (has sides.left y || has sides.right y) ≡ true → (y ≡ i → ⊥) → has node.probing y ≡ true
  probed y h p d =
      has-remove (content_of sides i) i y (low y h)
      ∙ and_both (has-content sides i y (low y h) ∙ or_left (eqb y i) p) (false-not (ne_eqb y i d))

  -- 4: an e that is up and is not probed guards against i
  guards-back : (e : ℕ) → Up t e → has node.probing e ≡ false → GuardsAt t e i
  guards-back e u none =
      let (a, ha, ma, na) = (guards-up e u).up in
      let (b, hb, mb, nb) = (guards-up e u).down in
      let ua = left_up a ha ma in
      let ub = right-up b hb mb in
      let da : a ≡ e → ⊥ = λ q. opposed (probed a ha (or_left (has sides.right a) ma) (other a ua)) (rw q none) in
      let db : b ≡ e → ⊥ = λ q. opposed (probed b hb (or_right (has sides.left b) mb) (other b ub)) (rw q none) in
      let N = 2 ^ t.ring.m in
      let id = id_at t.ids in
      let ids-in : (s : ℕ) → s < t.ring.n → id_at t.ids s < 2 ^ t.ring.m = λ s h. f.listed.ids-in s (low s h) in
      guards-past (c.members e b (inl u) ub db) (c.members e a (inl u) ua da)
      (beyond-up N (id i) (id b) (id e) (ids-in i new.0.0) (ids-in b hb) (ids-in e u.0) nb)
      (beyond-down N (id i) (id a) (id e) (ids-in i new.0.0) (ids-in a ha) (ids-in e u.0) na)

  quiet : Quiet t.ring t.ids i (t.at i) node
  quiet =
      record {
        dead = refl;
        wait = refl;
        up = refl;
        guards = λ y. guards-add t.ring t.ids f.one i (sides_of (t.at i)) (f.rules i new.0.0).leaf content y;
        filled = λ e. absurd (opposed new.1 e);
      }

  here : Here t i node
  here =
      record {
        known = λ y a b. let u = beside-up y b in ((u.0, up-alive (t.at y).status u.1), guards-up y u);
        members = λ b full e u d. guards-up e u;
        trusting = refl;
        joiner = λ p full e u. ⊎_elim inl (λ q. inr (guards-back e u q)) (bool_cases (has node.probing e));
      }

  reply-good : Alive t i → Good t i (join_reply_plan i (t.at i) m.routing content sides)
  reply-good a =
      record {
        calm = put-calm t i node quiet c here;
        stays = put-stays t i node quiet;
        sends = record {
          one = λ s. none-to (Fair (put t i node)) blank s;
          rest = λ s l e. probe-fair sides 0 ((quiet_put t i node quiet).alive i a) s;
        };
        stands = inr (i, a);
      }

pub take-join-reply-good : (t : View) (i : ℕ) (m : Message) → Calm t → Fitting t → i < t.ring.n
    → Joining t i × (Blank t i → Introduces t i m) → (x : Plan) → plan_take_join_reply t.ring t.ids i (t.at i) m ≡ Ok x → Good t i x
take-join-reply-good t i m c f h (join, intro) x e =
    let (alive, empty, same) = told-join-reply t.ring t.ids i (t.at i) m x e in
    let new : Blank t i = (⊎_elim (λ p. p) (λ p. absurd (opposed empty p)) join, empty) in
    rw same (reply-good t i m c f new (intro new) (h, alive))
