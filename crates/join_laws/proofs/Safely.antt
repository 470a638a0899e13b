-- The test of the clauses passes exactly where they hold (`safe-exactly`): a test that is made of tests tells what is made of their
-- statements. So a table that passes keeps the promise of InTurn. Assumes nothing.
use mathlib.Core.Path.{◌≡◌, refl}
use mathlib.Core.Logic.{◌⊎◌, inl, inr, ⊎_elim, ◌↔◌}
use mathlib.Core.Bool.{Bool, true, false, ◌&&◌, ◌||◌, not, and-true}
use mathlib.Core.List.{List, []}
use Prim.Native.Nat.{ℕ, ◌<◌, ◌≤◌}
use lib.Dec.{eqb, leb, ltb}
use borrow.Author.Tests.{eqb-true, eqb-false, eq-eqb, ne_eqb, leb-true, le-leb, ltb-true, lt-ltb, not-true}
use Rattle.marks.proofs.Bools.{opposed, and_both, or_left, or_right, or_cases, true-not, false-not, bool-true}
use Rattle.marks.proofs.Laws.{each, all_of, fails, some-fails}
use Rattle.marks.specs.Marks.{has, all_to}
use Rattle.rules.specs.declared.Ring.{Ring}
use Rattle.rules.specs.declared.Sides.{Sides}
use Rattle.rules.specs.declared.Message.{Message}
use Rattle.rules.specs.declared.Pool.{Pool}
use Rattle.rules.specs.Leaf.{is_empty, way_up, way_down}
use Rattle.rules.specs.Nodes.{sides_of}
use Rattle.rules.specs.Plans.{is_dead, is_wait, is_up}
use Rattle.rules.specs.Pool.{message_at, laid}
use Rattle.table_type.specs.declared.Table.{Table}
use Rattle.table_laws.proofs.Nodes.{both}
use Rattle.table_laws.proofs.Begin.{start-valid}
use Rattle.join_laws.specs.Clauses.{View, view_of, Alive, Joining, Blank, Within, Guards, GuardsAt, Calm, Introduces, Fair, Clauses}
use Rattle.join_laws.specs.Claims.{NoneWaits, SafeExactly, SafeHeld, StartSafe}
use Rattle.join_laws.specs.Safe.{implies, some_to, joins, within, guards, guards_in, carries, pair_of, is_calm, blank_in, introduces_to}
use Rattle.join_laws.specs.Safe.{introduces}
use Rattle.join_laws.specs.Safe.{lives, is_fair, clauses_hold, nobody_waits, safe_to_join}
use Rattle.join_laws.proofs.Steps.{throughout, clauses-held}
use Rattle.join_laws.proofs.Begun.{start-clauses}
use Rattle.join_laws.proofs.Tests.{none_told, none_of}

-- ---- what a test tells

-- it passes exactly where P holds
abbrev Tells : Bool → Type 0 → Type 0
Tells b P = (b ≡ true) ↔ P

-- it fails exactly where P holds
abbrev Denies : Bool → Type 0 → Type 0
Denies b P = (b ≡ false) ↔ P

passes : (b : Bool) → Tells b (b ≡ true)
passes b = (λ e. e, λ e. e)

tells-not : (b : Bool) → Tells (not b) (b ≡ false)
tells-not b = (λ e. not-true b e, λ e. false-not e)

tells-eq : (a b : ℕ) → Tells (eqb a b) (a ≡ b)
tells-eq a b = (eqb-true a b, eq-eqb a b)

tells-ne : (a b : ℕ) → Tells (not (eqb a b)) (a ≡ b → ⊥)
tells-ne a b = (λ e. eqb-false a b (not-true (eqb a b) e), λ d. false-not (ne_eqb a b d))

tells-le : (a b : ℕ) → Tells (leb a b) (a ≤ b)
tells-le a b = (leb-true a b, le-leb a b)

tells-lt : (a b : ℕ) → Tells (ltb a b) (a < b)
tells-lt a b = (ltb-true a b, lt-ltb a b)

module _ {a b : Bool} {A B : Type 0} (p : Tells a A) (q : Tells b B) where
  tells-and : Tells (a && b) (A × B)
  tells-and = (λ e. let c = both a b e in (p.0 c.0, q.0 c.1), λ c. and_both (p.1 c.0) (q.1 c.1))

  tells-or : Tells (a || b) (A ⊎ B)
  tells-or = (
    λ e. ⊎_elim (λ c. inl (p.0 c)) (λ c. inr (q.0 c)) (or_cases a b e),
    λ c. ⊎_elim (λ d. or_left b (p.1 d)) (λ d. or_right a (q.1 d)) c,
  )

  tells-implies : Tells (implies a b) (A → B)
  tells-implies = (
    λ e c. ⊎_elim (λ d. absurd (opposed (p.1 c) (not-true a d))) q.0 (or_cases (not a) b e),
    λ f. go a p f,
  )
    where
      go : (x : Bool) → Tells x A → (A → B) → (not x || b) ≡ true
      go true r f = q.1 (f (r.0 refl))
      go false r f = refl

tells_all : {n : ℕ} {f : ℕ → Bool} {P : ℕ → Type 0} → ((s : ℕ) → s < n → Tells (f s) (P s)) → Tells (all_to n f) ((s : ℕ) → s < n → P s)
tells_all {n} {f} p = (λ e s h. (p s h).0 (each n f s e h), λ k. all_of n f (λ s h. (p s h).1 (k s h)))

tells-some : {n : ℕ} {f : ℕ → Bool} {P : ℕ → Type 0} → ((s : ℕ) → s < n → Tells (f s) (P s)) → Tells (some_to n f) ((s : ℕ) × (s < n) × P s)
tells-some {n} {f} {P} p = (found, λ k. false-not (fails n (λ s. not (f s)) k.0 k.1 (true-not ((p k.0 k.1).1 k.2))))
  where
    found : some_to n f ≡ true → (s : ℕ) × (s < n) × P s
    found e =
        let (s, h, lacks) = some-fails n (λ u. not (f u)) (not-true (all_to n (λ u. not (f u))) e) in
        (s, h, (p s h).0 (bool-true (f s) (λ z. opposed (false-not z) lacks)))

-- ---- words

tells-within : (f : ℕ → ℕ) (n set y : ℕ) → Tells (within f n set y) (Within f n set y)
tells-within f n set y =
    let t = tells-some {P = λ u. (has set u ≡ true) × (f u ≤ f y)} (λ u h. tells-and (passes (has set u)) (tells-le (f u) (f y))) in
    (λ e. let (u, h, c) = t.0 e in (u, h, c.0, c.1), λ (u, h, p, q). t.1 (u, h, (p, q)))

tells-guards : (g : Ring) (ids : List ℕ) (x : ℕ) (s : Sides) (y : ℕ) → Tells (guards g ids x s y) (Guards g ids x s y)
unfolding guards
tells-guards g ids x s y =
    let t = tells-and (tells-within (way_up g ids x) g.n s.left y) (tells-within (way_down g ids x) g.n s.right y) in
    (λ e. let c = t.0 e in record { up = c.0; down = c.1 }, λ p. t.1 (p.up, p.down))

module _ (t : View) where
  tells-joins : (i : ℕ) → Tells (joins t i) (Joining t i)
  tells-joins i =
      tells-or (tells-and (tells-lt i t.ring.n) (passes (is_wait (t.at i).status))) (tells-not (is_empty (sides_of (t.at i))))

  tells-blank : (i : ℕ) → Tells (blank_in t i) (Blank t i)
  tells-blank i = tells-and (tells-and (tells-lt i t.ring.n) (passes (is_wait (t.at i).status))) (passes (is_empty (sides_of (t.at i))))

  tells-lives : (i : ℕ) → Tells (lives t i) (Alive t i)
  tells-lives i = tells-and (tells-lt i t.ring.n) (tells-not (is_dead (t.at i).status))

  tells-guarding : (x y : ℕ) → Tells (guards_in t x y) (GuardsAt t x y)
  tells-guarding x y = tells-guards t.ring t.ids x (sides_of (t.at x)) y

  -- ---- clauses 1 to 4

  abbrev Pair : ℕ → ℕ → Type 0
  Pair x y =
      (((is_wait (t.at x).status ≡ true) × (is_wait (t.at y).status ≡ true) → x ≡ y)
      × ((is_up (t.at x).status ≡ true) ⊎ ((is_wait (t.at x).status ≡ true) × (is_empty (sides_of (t.at x)) ≡ false))
      → (is_up (t.at y).status ≡ true) × (y ≡ x → ⊥) → GuardsAt t x y))
      × (((is_dead (t.at x).status ≡ false) × ((has (t.at x).left y ≡ true) ⊎ (has (t.at x).right y ≡ true))
      → (is_dead (t.at y).status ≡ false) × GuardsAt t x y)
      × (((is_wait (t.at x).status ≡ true) × (is_empty (sides_of (t.at x)) ≡ false)) × (is_up (t.at y).status ≡ true)
      → (has (t.at x).probing y ≡ true) ⊎ GuardsAt t y x))

  tells-pair : (x y : ℕ) → Tells (pair_of t x y) (Pair x y)
  tells-pair x y =
      let waits : (s : ℕ) → Tells (is_wait (t.at s).status) (is_wait (t.at s).status ≡ true) = λ s. passes (is_wait (t.at s).status) in
      let up : (s : ℕ) → Tells (is_up (t.at s).status) (is_up (t.at s).status ≡ true) = λ s. passes (is_up (t.at s).status) in
      let filled = tells-and (waits x) (tells-not (is_empty (sides_of (t.at x)))) in
      let beside = tells-or (passes (has (t.at x).left y)) (passes (has (t.at x).right y)) in
      tells-and
      (tells-and (tells-implies (tells-and (waits x) (waits y)) (tells-eq x y))
      (tells-implies (tells-or (up x) filled) (tells-implies (tells-and (up y) (tells-ne y x)) (tells-guarding x y))))
      (tells-and
      (tells-implies (tells-and (tells-not (is_dead (t.at x).status)) beside)
      (tells-and (tells-not (is_dead (t.at y).status)) (tells-guarding x y)))
      (tells-implies (tells-and filled (up y)) (tells-or (passes (has (t.at x).probing y)) (tells-guarding y x))))

  abbrev Pairs : Type 0
  Pairs = (x : ℕ) → x < t.ring.n → ((t.at x).failed ≡ 0) × ((y : ℕ) → y < t.ring.n → Pair x y)

  tells-pairs : Tells (is_calm t) Pairs
  unfolding is_calm
  tells-pairs = tells_all (λ x h. tells-and (tells-eq (t.at x).failed 0) (tells_all (λ y k. tells-pair x y)))

  pairs-calm : Pairs → Calm t
  pairs-calm p =
      record {
        one = λ i j a b. ((p i a.0).1 j b.0).0.0 (a.1, b.1);
        members = λ x e m u d.
            ((p x (⊎_elim (λ a. a.0) (λ a. a.0.0) m)).1 e u.0).0.1 (⊎_elim (λ a. inl a.1) (λ a. inr (a.0.1, a.1)) m) (u.1, d);
        known = λ x y a b. let k = ((p x a.0).1 y b.0).1.0 (a.1, b.1) in ((b.0, k.0), k.1);
        trusting = λ i h. (p i h).0;
        joiner = λ i e w full u. ((p i w.0).1 e u.0).1.1 ((w.1, full), u.1);
      }

  calm-pairs : Calm t → Pairs
  calm-pairs c x h = (
    c.trusting x h,
    λ y k. (
      (
        λ a. c.one x y (h, a.0) (k, a.1),
        λ m u. c.members x y (⊎_elim (λ a. inl (h, a)) (λ a. inr ((h, a.0), a.1)) m) (k, u.0) u.1,
      ),
      (λ a. let r = c.known x y (h, a.0) (k, a.1) in (r.0.1, r.1), λ a. c.joiner x y (h, a.0.0) a.0.1 (k, a.1)),
    ),
  )

  tells-calm : Tells (is_calm t) (Calm t)
  tells-calm = (λ e. pairs-calm (tells-pairs.0 e), λ c. tells-pairs.1 (calm-pairs c))

  -- ---- clauses 5 to 9

  module _ (i : ℕ) (m : Message) where
    -- some node that m carries is no farther from i than e, by the distance f
    abbrev Nigh : (ℕ → ℕ) → ℕ → Type 0
    Nigh f e = (u : ℕ) × (u < t.ring.n) × ((carries m u ≡ true) × (f u ≤ f e))

    tells-nigh : (f : ℕ → ℕ) (e : ℕ) → Tells (some_to t.ring.n (λ u. carries m u && leb (f u) (f e))) (Nigh f e)
    tells-nigh f e = tells-some (λ u h. tells-and (passes (carries m u)) (tells-le (f u) (f e)))

    abbrev To : ℕ → Type 0
    To e =
        (carries m e ≡ true → is_up (t.at e).status ≡ true)
        × (is_up (t.at e).status ≡ true → Nigh (way_up t.ring t.ids i) e × Nigh (way_down t.ring t.ids i) e)

    tells-to : (e : ℕ) → Tells (introduces_to t i m e) (To e)
    tells-to e =
        tells-and (tells-implies (passes (carries m e)) (passes (is_up (t.at e).status)))
        (tells-implies (passes (is_up (t.at e).status))
        (tells-and (tells-nigh (way_up t.ring t.ids i) e) (tells-nigh (way_down t.ring t.ids i) e)))

    tells-introduces : Tells (introduces t i m) (Introduces t i m)
    unfolding introduces
    tells-introduces =
        let all = tells_all {P = To} (λ e h. tells-to e) in (
          λ q.
              let p = all.0 q in
              record {
                all_up = λ y c. (c.0, (p y c.0).0 c.1);
                above = λ e u. let (v, h, c) = ((p e u.0).1 u.1).0 in (v, (h, c.0), c.1);
                below = λ e u. let (v, h, c) = ((p e u.0).1 u.1).1 in (v, (h, c.0), c.1);
              },
          λ k.
              all.1 (λ e h. (
                λ c. (k.all_up e (h, c)).1,
                λ u.
                    let (v, c, near) = k.above e (h, u) in
                    let (w, d, nigh) = k.below e (h, u) in
                    ((v, c.0, (c.1, near)), (w, d.0, (d.1, nigh))),
              )),
        )

  abbrev Parts : Message → Type 0
  Parts m =
      ((m.kind ≡ 2 → Joining t m.word) × (m.kind ≡ 3 → Joining t m.dest × (Blank t m.dest → Introduces t m.dest m)))
      × ((m.kind ≡ 4 → Alive t m.word)
      × ((m.kind ≡ 5 → Alive t m.word × GuardsAt t m.word m.dest)
      × (m.kind ≡ 8 → (y : ℕ) → y < t.ring.n → carries m y ≡ true → is_dead (t.at y).status ≡ false)))

  tells-parts : (m : Message) → Tells (is_fair t m) (Parts m)
  unfolding is_fair
  tells-parts m =
      tells-and
      (tells-and (tells-implies (tells-eq m.kind 2) (tells-joins m.word))
      (tells-implies (tells-eq m.kind 3)
      (tells-and (tells-joins m.dest) (tells-implies (tells-blank m.dest) (tells-introduces m.dest m)))))
      (tells-and (tells-implies (tells-eq m.kind 4) (tells-lives m.word))
      (tells-and (tells-implies (tells-eq m.kind 5) (tells-and (tells-lives m.word) (tells-guarding m.word m.dest)))
      (tells-implies (tells-eq m.kind 8)
      (tells_all (λ y h. tells-implies (passes (carries m y)) (tells-not (is_dead (t.at y).status)))))))

  tells-fair : (m : Message) → Tells (is_fair t m) (Fair t m)
  tells-fair m = (
    λ e.
        let p = (tells-parts m).0 e in
        record {
          request = p.0.0;
          reply = p.0.1;
          probe = p.1.0;
          answer = p.1.1.0;
          broadcast = λ k y c. (c.0, p.1.1.1 k y c.0 c.1);
        },
    λ f. (tells-parts m).1 ((f.request, f.reply), (f.probe, (f.answer, λ k y h c. (f.broadcast k y (h, c)).1))),
  )

-- ---- of a table and its pool

pub clauses-exactly : (t : Table) (p : Pool) → (clauses_hold t p ≡ true) ↔ Clauses t p
unfolding clauses_hold
clauses-exactly t p =
    let c = tells-and (tells-calm (view_of t)) (tells_all {n = p.count} (λ q h. tells-fair (view_of t) (message_at p q))) in
    (λ e. let k = c.0 e in record { nodes = k.0; mail = k.1 }, λ k. c.1 (k.nodes, k.mail))

pub safe-exactly : SafeExactly
unfolding safe_to_join
safe-exactly t p =
    tells-and {A = NoneWaits t} {B = Clauses t p} (none_told t, none_of t) (clauses-exactly t p)

pub safe-held : SafeHeld
safe-held t p acts v e patient = clauses-held t p acts v ((safe-exactly t p).0 e).1 patient

-- where the clauses hold, the test looks at who is wait alone
safe-is : (t : Table) (p : Pool) → Clauses t p → safe_to_join t p ≡ nobody_waits t
unfolding safe_to_join
safe-is t p c = rw ((clauses-exactly t p).1 c) (and-true (nobody_waits t))

pub start-safe : StartSafe
start-safe m l ids a t acts d patient =
    throughout (λ u p. safe_to_join u p ≡ nobody_waits u) (λ u p v. safe-is u p) t (laid []) acts
    (start-valid m l ids a t d) (start-clauses m l ids a t d) patient
