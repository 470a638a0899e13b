-- Take of a JoinRequest, answered. The node c that answers covers the id of j, which is wait and empty: so j stands between c and a
-- neighbour of c, and of all nodes that are up, none is closer to j above or below than one of these two (`covered-beside`). What c knows
-- is not dead, and is not j, and nobody but j is wait: all of it is up. Assumes nothing.
use Rattle.std.specs.Prelude.{Ok}
use mathlib.Core.Path.{◌≡◌, refl, ◌∙◌}
use mathlib.Core.Logic.{◌⊎◌, inl, inr, ⊎_elim}
use mathlib.Core.Bool.{true, false, ◌||◌}
use Prim.Native.Nat.{ℕ, ◌^◌, ◌<◌, ◌≤◌}
use native.Mathlib.Nat.{le_refl}
use native.Mathlib.Omega.{arith}
use lib.Dec.{eqb}
use Rattle.ring.proofs.Falls as falls
use Rattle.marks.proofs.Bools.{opposed, or_left, or_right, eq-or-ne}
use Rattle.marks.specs.Marks.{has}
use Rattle.rules.specs.declared.Way.TheVariants.{Up as Rising, Down as Falling}
use Rattle.rules.specs.declared.Plan.{Plan}
use Rattle.rules.specs.Leaf.{content_of, covers_of, left_neighbour, right_neighbour, way_up, way_down}
use Rattle.rules.specs.Letters.{join_reply}
use Rattle.rules.specs.Nodes.{sides_of, placed}
use Rattle.rules.specs.Pick.{id_at}
use Rattle.take.specs.Take.{plan_take_join_request}
use Rattle.rules_laws.proofs.Leaf.{has-content, content-owner, seen-listed}
use Rattle.rules_laws.proofs.Steps.{ids-inj}
use Rattle.join_laws.proofs.Beyond.{First, covered-beside}
use Rattle.join_laws.specs.Clauses.{View, Up, Joining, Blank, Calm, Fair}
use Rattle.join_laws.proofs.Good.{Fitting, Good, sends-one, kept-passes, kept-good}
use Rattle.join_laws.proofs.Guarding.{Flank, guards-flank}
use Rattle.join_laws.proofs.Lasting.{ready_up, content-alive, request-on-good}
use Rattle.join_laws.proofs.Written.{up-alive, alive-cases, passes-fair}
use Rattle.join_laws.proofs.Told.{Requested, answered, passed_on, told-join-request}

module _ (t : View) (i : ℕ) (c : Calm t) (f : Fitting t) (here : Up t i) where
  abbrev left : ℕ
  left = left_neighbour t.ring t.ids i (sides_of (t.at i))

  abbrev right : ℕ
  right = right_neighbour t.ring t.ids i (sides_of (t.at i))

  low : (s : ℕ) → s < t.ring.n → s < 64
  low s h = omega (arith, f.listed.n-high)

  id-in : (s : ℕ) → s < t.ring.n → id_at t.ids s < 2 ^ t.ring.m
  id-in s h = f.listed.ids-in s (low s h)

  apart : (a b : ℕ) → a < t.ring.n → b < t.ring.n → (a ≡ b → ⊥) → id_at t.ids a ≡ id_at t.ids b → ⊥
  apart a b ha hb d e = d (ids-inj f.listed a b ha hb e)

  left_in : left < t.ring.n
  left_in = seen-listed Rising t.ring t.ids i (t.at i).left t.ring.n (f.rules i here.0).leaf.left.inside here.0

  right-in : right < t.ring.n
  right-in = seen-listed Falling t.ring t.ids i (t.at i).right t.ring.n (f.rules i here.0).leaf.right.inside here.0

  -- u is of the content of i
  abbrev Of : ℕ → Type 0
  Of u = (u < t.ring.n) × (has (content_of (sides_of (t.at i)) i) u ≡ true)

  owner_of : Of i
  owner_of = (here.0, content-owner (sides_of (t.at i)) i (low i here.0))

  side-of : (u : ℕ) → u < t.ring.n → (has (t.at i).left u || has (t.at i).right u) ≡ true → Of u
  side-of u h p = (h, has-content (sides_of (t.at i)) i u (low u h) ∙ or_left (eqb u i) p)

  module _ (j : ℕ) (new : Blank t j) (out : has (content_of (sides_of (t.at i)) i) j ≡ false)
      (covers : covers_of t.ring t.ids i (sides_of (t.at i)) (id_at t.ids j) ≡ true) where
    all_up : (y : ℕ) → Of y → Up t y
    all_up y o =
        let a = content-alive t i c here.0 f (here.0, up-alive (t.at i).status here.1) y o.0 o.1 in
        ⊎_elim (λ e. (o.0, e)) (λ e. absurd (opposed o.1 (rw (c.one y j (o.0, e) new.0) out)))
        (alive-cases (t.at y).status a.1)

    not-here : j ≡ i → ⊥
    not-here e = opposed owner_of.1 (rw e at out)

    -- the first above j and the first below it, as seen from e
    abbrev Beside : ℕ → Type 0
    Beside e =
        ((u : ℕ) × Of u × (way_up t.ring t.ids j u ≤ way_up t.ring t.ids j e))
        × ((u : ℕ) × Of u × (way_down t.ring t.ids j u ≤ way_down t.ring t.ids j e))

    beside-other : (e : ℕ) → Up t e → (e ≡ i → ⊥) → Beside e
    unfolding covers_of
    beside-other e u d =
        let k = guards-flank f.listed here.0 (f.rules i here.0).leaf (c.members i e (inl here) u d) in
        go k
        (covered-beside (2 ^ t.ring.m) (falls.ring-at t.ring.m f.listed.width.low) (id_at t.ids i) (id_at t.ids left)
        (id_at t.ids right) (id_at t.ids j) (id_at t.ids e) (id-in i here.0) (id-in left left_in) (id-in right right-in)
        (id-in j new.0.0) (id-in e u.0) (apart j i new.0.0 here.0 not-here) (apart e i u.0 here.0 d)
        (apart right i right-in here.0 k.right-other) covers k.left k.right)
      where
        go : Flank t.ring t.ids i (sides_of (t.at i)) e
            → First (2 ^ t.ring.m) (id_at t.ids j) (id_at t.ids e) (id_at t.ids left) (id_at t.ids i)
            ⊎ First (2 ^ t.ring.m) (id_at t.ids j) (id_at t.ids e) (id_at t.ids i) (id_at t.ids right) → Beside e
        go k (inl p) = ((left, side-of left left_in (or_left (has (t.at i).right left) k.left_in), p.0), (i, owner_of, p.1))
        go k (inr p) = ((i, owner_of, p.0), (right, side-of right right-in (or_right (has (t.at i).left right) k.right-in), p.1))

    beside : (e : ℕ) → Up t e → Beside e
    beside e u = go (eq-or-ne e i)
      where
        go : (e ≡ i) ⊎ (e ≡ i → ⊥) → Beside e
        go (inl d) = ((e, rw d owner_of, le_refl _), (e, rw d owner_of, le_refl _))
        go (inr d) = beside-other e u d

  -- the letter is fair, so is the plan good
  module _ (j routing : ℕ) (join : Joining t j) where
    reply-fair : has (content_of (sides_of (t.at i)) i) j ≡ false
        → covers_of t.ring t.ids i (sides_of (t.at i)) (id_at t.ids j) ≡ true
        → Fair t (placed (join_reply routing i (sides_of (t.at i))) j)
    reply-fair out covers =
        record {
          request = λ e. absurd (omega arith);
          reply = λ e. (
            join,
            λ new.
                record {
                  all_up = all_up j new out covers;
                  above = λ a u. (beside j new out covers a u).0;
                  below = λ a u. (beside j new out covers a u).1;
                },
          );
          probe = λ e. absurd (omega arith);
          answer = λ e. absurd (omega arith);
          broadcast = λ e. absurd (omega arith);
        }

    taken : (dead : ℕ) (x : Plan) → Requested t.ring t.ids dead i (t.at i) j routing x → Good t i x
    taken dead x (answered out covers same) =
        rw same
        (kept-good t i c here.0 _ refl (sends-one (t.at i) _ j (passes-fair (kept-passes t i c here.0) _ (reply-fair out covers))))
    taken dead x (passed_on same) = rw same (request-on-good t i c here.0 dead j _ (id_at t.ids j) join)

pub take-join-request-good : (t : View) (i : ℕ) → Calm t → Fitting t → i < t.ring.n → (dead j routing : ℕ) → Joining t j → (x : Plan)
    → plan_take_join_request t.ring t.ids dead i (t.at i) j routing ≡ Ok x → Good t i x
take-join-request-good t i c f h dead j routing join x e =
    let (ready, told) = told-join-request t.ring t.ids dead i (t.at i) j routing x e in
    taken t i c f (h, ready_up (t.at i).status ready) j routing join dead x told
