-- One node written: the view of a table afterwards; what that has to keep for the messages that stay (Passes), and the clauses of one node
-- (CalmAt), by which the clauses of all are made. Statuses first. Assumes nothing.
use mathlib.Core.Path.{◌≡◌, refl, sym, ap}
use mathlib.Core.Logic.{◌⊎◌, inl, inr, ⊎_elim}
use mathlib.Core.Bool.{true, false, cond}
use mathlib.Core.List.{List}
use Prim.Native.Nat.{ℕ, ◌<◌}
use lib.Dec.{eqb}
use borrow.Author.Tests.{eq-eqb, ne_eqb}
use Rattle.marks.proofs.Bools.{opposed, clash, eq-or-ne}
use Rattle.marks.proofs.Laws.{has-zero}
use Rattle.marks.specs.Marks.{has}
use Rattle.rules.specs.declared.Ring.{Ring}
use Rattle.rules.specs.declared.Sides.{Sides}
use Rattle.rules.specs.declared.Node.{Node}
use Rattle.rules.specs.declared.Message.{Message}
use Rattle.rules.specs.declared.Status.{Status}
use Rattle.rules.specs.declared.Status.TheVariants as status
use Rattle.rules.specs.Leaf.{is_empty}
use Rattle.rules.specs.Nodes.{sides_of}
use Rattle.rules.specs.Plans.{is_dead, is_wait, is_up}
use Rattle.rules_laws.proofs.Leaf.{empty-sides}
use Rattle.join_laws.specs.Clauses.{View, Up, Waits, Alive, Joining, Blank, Guards, GuardsAt, Beside, Calm, Introduces, Fair}

-- ---- statuses

pub up-alive : (s : Status) → is_up s ≡ true → is_dead s ≡ false
up-alive status.Dead e = sym e
up-alive status.Wait e = refl
up-alive status.Ok e = refl
up-alive status.Ready e = refl

pub wait-alive : (s : Status) → is_wait s ≡ true → is_dead s ≡ false
wait-alive status.Dead e = sym e
wait-alive status.Wait e = refl
wait-alive status.Ok e = refl
wait-alive status.Ready e = refl

pub up-no-wait : (s : Status) → is_up s ≡ true → is_wait s ≡ false
up-no-wait status.Dead e = refl
up-no-wait status.Wait e = sym e
up-no-wait status.Ok e = refl
up-no-wait status.Ready e = refl

pub alive-cases : (s : Status) → is_dead s ≡ false → (is_up s ≡ true) ⊎ (is_wait s ≡ true)
alive-cases status.Dead e = absurd (clash e)
alive-cases status.Wait e = inr refl
alive-cases status.Ok e = inl refl
alive-cases status.Ready e = inl refl

-- no node is in the sides of an empty leaf set
pub empty-none : (s : Sides) (y : ℕ) → is_empty s ≡ true → (has s.left y ≡ true) ⊎ (has s.right y ≡ true) → ⊥
empty-none s y e =
    let none : s.left ≡ 0 = ap (λ (z : Sides). z.left) (empty-sides s e) in
    let bare : s.right ≡ 0 = ap (λ (z : Sides). z.right) (empty-sides s e) in
    ⊎_elim (λ p. opposed p (rw none (has-zero y))) (λ p. opposed p (rw bare (has-zero y)))

-- ---- one node written

abbrev pub seen : Ring → List ℕ → (ℕ → Node) → View
seen g ids at = record { ring = g; ids = ids; at = at }

-- the node w at slot i, the others as they stood
abbrev pub put_at : (ℕ → Node) → ℕ → Node → ℕ → Node
put_at at i w s = cond (eqb s i) w (at s)

abbrev pub put : View → ℕ → Node → View
put t i w = seen t.ring t.ids (put_at t.at i w)

-- au is at with w at slot i
pub record Written (at au : ℕ → Node) (i : ℕ) (w : Node) : Type 0 where
  pub here : au i ≡ w
  pub other : (s : ℕ) → (s ≡ i → ⊥) → au s ≡ at s

pub put_written : (at : ℕ → Node) (i : ℕ) (w : Node) → Written at (put_at at i w) i w
put_written at i w = record { here = rw (eq-eqb i i refl); other = λ s d. rw (ne_eqb s i d) }

-- what holds of w at slot i, and of the others as they stood, holds of all
pub at_each_lem : {at au : ℕ → Node} {i : ℕ} {w : Node} (C : ℕ → Node → Type 0) → Written at au i w → C i w
    → ((s : ℕ) → (s ≡ i → ⊥) → C s (at s)) → (s : ℕ) → C s (au s)
at_each_lem {at} {au} {i} C r new old s = go (eq-or-ne s i)
  where
    go : (s ≡ i) ⊎ (s ≡ i → ⊥) → C s (au s)
    go (inl e) = rw e (rw r.here new)
    go (inr d) = rw (r.other s d) (old s d)

-- ---- messages that stay

-- what a move has to keep for them
pub record Passes (g : Ring) (ids : List ℕ) (at au : ℕ → Node) : Type 0 where
  pub alive : (s : ℕ) → Alive (seen g ids at) s → Alive (seen g ids au) s
  pub guards : (x y : ℕ) → GuardsAt (seen g ids at) x y → GuardsAt (seen g ids au) x y
  pub joining : (s : ℕ) → Joining (seen g ids at) s → Joining (seen g ids au) s
  pub fresh : (s : ℕ) → Joining (seen g ids at) s → Blank (seen g ids au) s
      → Blank (seen g ids at) s × ((e : ℕ) → Up (seen g ids at) e → Up (seen g ids au) e)
      × ((e : ℕ) → Up (seen g ids au) e → Up (seen g ids at) e)

pub passes-fair : {g : Ring} {ids : List ℕ} {at au : ℕ → Node} → Passes g ids at au → (m : Message) → Fair (seen g ids at) m
    → Fair (seen g ids au) m
passes-fair {g} {ids} {at} {au} k m f =
    record {
      request = λ e. k.joining m.word (f.request e);
      reply = λ e. (k.joining m.dest (f.reply e).0, λ b. introduced e (k.fresh m.dest (f.reply e).0 b));
      probe = λ e. k.alive m.word (f.probe e);
      answer = λ e. let p = f.answer e in (k.alive m.word p.0, k.guards m.word m.dest p.1);
      broadcast = λ e y c. k.alive y (f.broadcast e y c);
    }
  where
    introduced : m.kind ≡ 3 → Blank (seen g ids at) m.dest × ((e : ℕ) → Up (seen g ids at) e → Up (seen g ids au) e)
        × ((e : ℕ) → Up (seen g ids au) e → Up (seen g ids at) e) → Introduces (seen g ids au) m.dest m
    introduced e (b, on, back) =
        let p = (f.reply e).1 b in
        record { all_up = λ y c. on y (p.all_up y c); above = λ a u. p.above a (back a u); below = λ a u. p.below a (back a u) }

-- ---- clauses 2 to 4 of one node

-- up, or wait and not empty
abbrev pub Member : Node → Type 0
Member v = (is_up v.status ≡ true) ⊎ ((is_wait v.status ≡ true) × (is_empty (sides_of v) ≡ false))

-- of the node v at slot s, in the view t
pub record CalmAt (t : View) (s : ℕ) (v : Node) : Type 0 where
  pub members : s < t.ring.n → Member v → (e : ℕ) → Up t e → (e ≡ s → ⊥) → Guards t.ring t.ids s (sides_of v) e
  pub known : s < t.ring.n → is_dead v.status ≡ false → (y : ℕ) → Beside t (sides_of v) y
      → Alive t y × Guards t.ring t.ids s (sides_of v) y
  pub trusting : s < t.ring.n → v.failed ≡ 0
  pub joiner : s < t.ring.n → is_wait v.status ≡ true → is_empty (sides_of v) ≡ false → (e : ℕ) → Up t e
      → (has v.probing e ≡ true) ⊎ GuardsAt t e s

pub calm-each : {t : View} → Calm t → (s : ℕ) → CalmAt t s (t.at s)
calm-each c s =
    record {
      members = λ l k e. c.members s e (⊎_elim (λ z. inl (l, z)) (λ z. inr ((l, z.0), z.1)) k);
      known = λ l z y. c.known s y (l, z);
      trusting = c.trusting s;
      joiner = λ l z full e. c.joiner s e (l, z) full;
    }

pub each-calm : {t : View} → ((i j : ℕ) → Waits t i → Waits t j → i ≡ j) → ((s : ℕ) → CalmAt t s (t.at s)) → Calm t
each-calm one k =
    record {
      one = one;
      members = λ x e m.
          (k x).members (⊎_elim (λ z. z.0) (λ z. z.0.0) m) (⊎_elim (λ z. inl z.1) (λ z. inr (z.0.1, z.1)) m) e;
      known = λ x y a. (k x).known a.0 a.1 y;
      trusting = λ i. (k i).trusting;
      joiner = λ i e w full. (k i).joiner w.0 w.1 full e;
    }

-- they stay where nobody new is up, nobody dies and no guard is lost
pub calm-at-on : {g : Ring} {ids : List ℕ} {at au : ℕ → Node} {s : ℕ} {v : Node} → ((e : ℕ) → Up (seen g ids au) e → Up (seen g ids at) e)
    → Passes g ids at au → CalmAt (seen g ids at) s v → CalmAt (seen g ids au) s v
calm-at-on {s = s} back k c =
    record {
      members = λ l m e u d. c.members l m e (back e u) d;
      known = λ l z y b. let r = c.known l z y b in (k.alive y r.0, r.1);
      trusting = c.trusting;
      joiner = λ l z full e u. ⊎_elim inl (λ p. inr (k.guards e s p)) (c.joiner l z full e (back e u));
    }
