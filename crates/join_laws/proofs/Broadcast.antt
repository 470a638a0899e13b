-- Take of a BroadcastLSet. It is done at a node that is up, which stays up; what it learns is not dead by 9, and it guards against all of
-- it. Assumes nothing.
use Rattle.std.specs.Prelude.{Ok}
use mathlib.Core.Path.{◌≡◌, refl, sym, ◌∙◌, ap}
use mathlib.Core.Logic.{inl, inr, ⊎_elim}
use mathlib.Core.Bool.{true, ◌&&◌, not}
use Prim.Native.Nat.{ℕ, ◌<◌}
use native.Mathlib.Omega.{arith}
use Rattle.marks.proofs.Bools.{opposed, and_both, false-not}
use Rattle.marks.specs.Marks.{has, without}
use Rattle.marks.proofs.Laws.{has-zero, has-without}
use Rattle.rules.specs.declared.Sides.{Sides}
use Rattle.rules.specs.declared.Status.{Status}
use Rattle.rules.specs.declared.Status.TheVariants as status
use Rattle.rules.specs.declared.Node.{Node}
use Rattle.rules.specs.declared.Message.{Message}
use Rattle.rules.specs.declared.Plan.{Plan}
use Rattle.rules.specs.Leaf.{content_of, leaf_with}
use Rattle.rules.specs.Nodes.{sides_of, carried_of}
use Rattle.rules.specs.Plans.{is_up, quiet_plan}
use Rattle.take.specs.Take.{both_leased, same_neighbours, lease_after, status_after_lease, leased_node, broadcast_plan, plan_take_broadcast}
use Rattle.rules_laws.proofs.Leaf.{content-owner, left-from, right-from}
use Rattle.table_laws.proofs.Nodes.{both}
use Rattle.join_laws.specs.Clauses.{View, Up, Alive, Guards, GuardsAt, Beside, Carries, Calm}
use Rattle.join_laws.proofs.Good.{Fitting, Good, sends_none, put-calm, put-stays}
use Rattle.join_laws.proofs.Guarding.{guards-filled, guards-new, guards-add}
use Rattle.join_laws.proofs.Lasting.{up-sort, cond_up}
use Rattle.join_laws.proofs.Moves.{Quiet, Here}
use Rattle.join_laws.proofs.Written.{up-alive, up-no-wait}
use Rattle.join_laws.proofs.Told.{told-broadcast}

module _ (t : View) (i : ℕ) (c : Calm t) (f : Fitting t) (here : Up t i) (m : Message) (owner-in : m.owner < t.ring.n)
    (apart : m.owner ≡ i → ⊥) (lives : (y : ℕ) → Carries t m y → Alive t y) where
  abbrev content : ℕ
  content = content_of (carried_of m) m.owner

  -- its content without failed
  abbrev told : ℕ
  told = without content (t.at i).failed

  abbrev sides : Sides
  sides = leaf_with t.ring t.ids i (sides_of (t.at i)) told

  low : (s : ℕ) → s < t.ring.n → s < 64
  low s h = omega (arith, f.listed.n-high)

  told-all : (y : ℕ) → y < t.ring.n → has content y ≡ true → has told y ≡ true
  told-all y h p =
      has-without content (t.at i).failed y (low y h)
      ∙ and_both p (false-not (ap (λ (z : ℕ). has z y) (c.trusting i here.0) ∙ has-zero y))

  told_of_lem : (y : ℕ) → y < t.ring.n → has told y ≡ true → has content y ≡ true
  told_of_lem y h p =
      (both (has content y) (not (has (t.at i).failed y)) (sym (has-without content (t.at i).failed y (low y h)) ∙ p)).0

  guards-old : (y : ℕ) → GuardsAt t i y → Guards t.ring t.ids i sides y
  guards-old y = guards-add t.ring t.ids f.one i (sides_of (t.at i)) (f.rules i here.0).leaf told y

  guards-told : (y : ℕ) → y < t.ring.n → has told y ≡ true → (y ≡ i → ⊥) → Guards t.ring t.ids i sides y
  guards-told y = guards-new t.ring t.ids f.one i (sides_of (t.at i)) told y

  guards-owner : Guards t.ring t.ids i sides m.owner
  guards-owner =
      let own = content-owner (carried_of m) m.owner (low m.owner owner-in) in
      guards-told m.owner owner-in (told-all m.owner owner-in own) apart

  known-old : (y : ℕ) → Beside t (sides_of (t.at i)) y → Alive t y × Guards t.ring t.ids i sides y
  known-old y b =
      let k = c.known i y (here.0, up-alive (t.at i).status here.1) b in
      (k.0, guards-old y k.1)

  known-new : (y : ℕ) → y < t.ring.n → has told y ≡ true → (y ≡ i → ⊥) → Alive t y × Guards t.ring t.ids i sides y
  known-new y h p d = (lives y (h, told_of_lem y h p), guards-told y h p d)

  known-left : (y : ℕ) → y < t.ring.n → has sides.left y ≡ true → Alive t y × Guards t.ring t.ids i sides y
  known-left y h p =
      let from = left-from t.ring t.ids i (sides_of (t.at i)) told y p in
      ⊎_elim (λ q. known-old y (h, inl q)) (λ q. known-new y h q from.other) from.from

  known-right : (y : ℕ) → y < t.ring.n → has sides.right y ≡ true → Alive t y × Guards t.ring t.ids i sides y
  known-right y h p =
      let from = right-from t.ring t.ids i (sides_of (t.at i)) told y p in
      ⊎_elim (λ q. known-old y (h, inr q)) (λ q. known-new y h q from.other) from.from

  module _ (lease : ℕ) (st : Status) (up : is_up st ≡ true) where
    abbrev node : Node
    node = leased_node (t.at i) sides lease st

    quiet : Quiet t.ring t.ids i (t.at i) node
    quiet =
        let same = up-sort st (t.at i).status up here.1 in
        record { dead = same.dead; wait = same.wait; up = same.up; guards = guards-old; filled = λ e. guards-filled guards-owner }

    at-node : Here t i node
    at-node =
        record {
          known = λ y a b. ⊎_elim (known-left y b.0) (known-right y b.0) b.1;
          members = λ b. absurd (opposed b.0.1 (up-no-wait (t.at i).status here.1));
          trusting = c.trusting i here.0;
          joiner = λ w. absurd (opposed w.1 (up-no-wait (t.at i).status here.1));
        }

    told-good : Good t i (quiet_plan node)
    told-good =
        record {
          calm = put-calm t i node quiet c at-node;
          stays = put-stays t i node quiet;
          sends = sends_none node;
          stands = inr (i, (here.0, up-alive (t.at i).status here.1));
        }

  broadcast-good : Good t i (broadcast_plan t.ring t.ids i (t.at i) m)
  unfolding broadcast_plan
  broadcast-good =
      let lease = lease_after t.ring t.ids i (t.at i) sides m.owner m.flag in
      told-good lease (status_after_lease t.ring t.ids i (t.at i) sides lease)
      (cond_up (both_leased t.ring t.ids i sides lease && same_neighbours t.ring t.ids i sides (sides_of (t.at i))) status.Ready
      (t.at i).status refl here.1)

pub take-broadcast-good : (t : View) (i : ℕ) → Calm t → Fitting t → i < t.ring.n → (m : Message) → m.owner < t.ring.n
    → ((y : ℕ) → Carries t m y → Alive t y) → (x : Plan) → plan_take_broadcast t.ring t.ids i (t.at i) m ≡ Ok x → Good t i x
take-broadcast-good t i c f h m o lives x e =
    let (up, apart, same) = told-broadcast t.ring t.ids i (t.at i) m x e in
    rw same (broadcast-good t i c f (h, up) m o apart lives)
