-- Three moves of one node: what each leaves of the clauses of the nodes, and that the clauses of a message that stays hold still. Quiet:
-- both dead, both wait or both up, and no guard is lost. Join: from dead to wait, while nobody is wait. Ok: from wait to ok, with nobody
-- left to probe. Assumes nothing.
use mathlib.Core.Path.{◌≡◌, refl, sym, ◌∙◌}
use mathlib.Core.Logic.{◌⊎◌, inl, inr, ⊎_elim}
use mathlib.Core.Bool.{true, false}
use mathlib.Core.List.{List}
use Prim.Native.Nat.{ℕ, ◌<◌}
use Rattle.marks.proofs.Bools.{opposed, clash, bool_cases, eq-or-ne}
use Rattle.marks.proofs.Laws.{has-zero}
use Rattle.marks.specs.Marks.{has}
use Rattle.rules.specs.declared.Ring.{Ring}
use Rattle.rules.specs.declared.Node.{Node}
use Rattle.rules.specs.declared.Status.TheVariants as status
use Rattle.rules.specs.Leaf.{is_empty}
use Rattle.rules.specs.Nodes.{sides_of}
use Rattle.rules.specs.Plans.{is_dead, is_wait, is_up, with_status}
use Rattle.join_laws.specs.Clauses.{View, Up, Waits, Alive, Filled, Joining, Blank, Guards, GuardsAt, Beside, Calm}
use Rattle.join_laws.proofs.Written.{wait-alive, empty-none, seen, Written, at_each_lem, Passes, Member, CalmAt, calm-each, each-calm}
use Rattle.join_laws.proofs.Written.{calm-at-on}

-- ---- the quiet move

-- both dead, both wait or both up; what v guards against w does; if v is not empty nor is w
pub record Quiet (g : Ring) (ids : List ℕ) (i : ℕ) (v w : Node) : Type 0 where
  pub dead : is_dead w.status ≡ is_dead v.status
  pub wait : is_wait w.status ≡ is_wait v.status
  pub up : is_up w.status ≡ is_up v.status
  pub guards : (y : ℕ) → Guards g ids i (sides_of v) y → Guards g ids i (sides_of w) y
  pub filled : is_empty (sides_of v) ≡ false → is_empty (sides_of w) ≡ false

-- what is left to show of i: 3; 2 where it was wait and empty; 4
pub record Here (t : View) (i : ℕ) (w : Node) : Type 0 where
  pub known : (y : ℕ) → Alive t i → Beside t (sides_of w) y → Alive t y × Guards t.ring t.ids i (sides_of w) y
  pub members : Blank t i → is_empty (sides_of w) ≡ false → (e : ℕ) → Up t e → (e ≡ i → ⊥) → Guards t.ring t.ids i (sides_of w) e
  pub trusting : w.failed ≡ 0
  pub joiner : Waits t i → is_empty (sides_of w) ≡ false → (e : ℕ) → Up t e → (has w.probing e ≡ true) ⊎ GuardsAt t e i

module _ (g : Ring) (ids : List ℕ) (at au : ℕ → Node) (i : ℕ) (w : Node) (r : Written at au i w) where
  abbrev t : View
  t = seen g ids at

  abbrev u : View
  u = seen g ids au

  module _ (q : Quiet g ids i (at i) w) where
    dead-same : (s : ℕ) → is_dead (au s).status ≡ is_dead (at s).status
    dead-same = at_each_lem (λ s v. is_dead v.status ≡ is_dead (at s).status) r q.dead (λ s d. refl)

    wait-same : (s : ℕ) → is_wait (au s).status ≡ is_wait (at s).status
    wait-same = at_each_lem (λ s v. is_wait v.status ≡ is_wait (at s).status) r q.wait (λ s d. refl)

    up_same : (s : ℕ) → is_up (au s).status ≡ is_up (at s).status
    up_same = at_each_lem (λ s v. is_up v.status ≡ is_up (at s).status) r q.up (λ s d. refl)

    up-back : (s : ℕ) → Up u s → Up t s
    up-back s p = (p.0, sym (up_same s) ∙ p.1)

    wait-back : (s : ℕ) → Waits u s → Waits t s
    wait-back s p = (p.0, sym (wait-same s) ∙ p.1)

    alive-on : (s : ℕ) → Alive t s → Alive u s
    alive-on s p = (p.0, dead-same s ∙ p.1)

    guards-on : (x y : ℕ) → GuardsAt t x y → GuardsAt u x y
    guards-on x y = at_each_lem (λ s v. GuardsAt t s y → Guards g ids s (sides_of v) y) r (q.guards y) (λ s d p. p) x

    filled_on : (s : ℕ) → Filled t s → Filled u s
    filled_on = at_each_lem (λ s v. Filled t s → is_empty (sides_of v) ≡ false) r q.filled (λ s d p. p)

    pub quiet-passes : Passes g ids at au
    quiet-passes =
        record {
          alive = alive-on;
          guards = guards-on;
          joining = λ s. ⊎_elim (λ p. inl (p.0, wait-same s ∙ p.1)) (λ p. inr (filled_on s p));
          fresh = λ s j b. (
            (wait-back s b.0, was-empty s b.1 (bool_cases (is_empty (sides_of (at s))))),
            λ e p. (p.0, up_same e ∙ p.1),
            up-back,
          );
        }
      where
        was-empty : (s : ℕ) → is_empty (sides_of (au s)) ≡ true
            → (is_empty (sides_of (at s)) ≡ true) ⊎ (is_empty (sides_of (at s)) ≡ false) → is_empty (sides_of (at s)) ≡ true
        was-empty s e (inl p) = p
        was-empty s e (inr p) = absurd (opposed e (filled_on s p))

    module _ (c : Calm t) (h : Here t i w) where
      members-here : i < g.n → Member w → (e : ℕ) → Up t e → (e ≡ i → ⊥) → Guards g ids i (sides_of w) e
      members-here l (inl p) e k d = q.guards e (c.members i e (inl (l, sym q.up ∙ p)) k d)
      members-here l (inr p) e k d =
          let waits : Waits t i = (l, sym q.wait ∙ p.0) in
          ⊎_elim (λ z. h.members (waits, z) p.1 e k d) (λ z. q.guards e (c.members i e (inr (waits, z)) k d))
          (bool_cases (is_empty (sides_of (at i))))

      calm-here : CalmAt t i w
      calm-here =
          record {
            members = members-here;
            known = λ l z y. h.known y (l, sym q.dead ∙ z);
            trusting = λ l. h.trusting;
            joiner = λ l z. h.joiner (l, sym q.wait ∙ z);
          }

      pub quiet_calm : Calm u
      quiet_calm =
          each-calm (λ a b p s. c.one a b (wait-back a p) (wait-back b s)) (λ s.
          calm-at-on up-back quiet-passes (at_each_lem (CalmAt t) r calm-here (λ z d. calm-each c z) s))

-- ---- the Join move

module _ (g : Ring) (ids : List ℕ) (at au : ℕ → Node) (i : ℕ) (r : Written at au i (with_status (at i) status.Wait))
    (none : (s : ℕ) → s < g.n → is_wait (at s).status ≡ false) (bare : is_empty (sides_of (at i)) ≡ true) where
  abbrev before : View
  before = seen g ids at

  abbrev joined : View
  joined = seen g ids au

  waits-here : (s : ℕ) → Waits joined s → s ≡ i
  waits-here s p =
      at_each_lem (λ q v. q < g.n → is_wait v.status ≡ true → q ≡ i) r (λ l e. refl) (λ q d l e. absurd (opposed e (none q l))) s
      p.0 p.1

  up-before : (s : ℕ) → Up joined s → Up before s
  up-before s p =
      (p.0, at_each_lem (λ q v. is_up v.status ≡ true → is_up (at q).status ≡ true) r (λ e. absurd (clash (sym e))) (λ q d e. e) s p.1)

  alive-after : (s : ℕ) → Alive before s → Alive joined s
  alive-after s p =
      (p.0, at_each_lem (λ q v. is_dead (at q).status ≡ false → is_dead v.status ≡ false) r (λ e. refl) (λ q d e. e) s p.1)

  guards-after : (x y : ℕ) → GuardsAt before x y → GuardsAt joined x y
  guards-after x y = at_each_lem (λ s v. GuardsAt before s y → Guards g ids s (sides_of v) y) r (λ p. p) (λ s d p. p) x

  pub join-passes : Passes g ids at au
  join-passes =
      record {
        alive = alive-after;
        guards = guards-after;
        joining = λ s. ⊎_elim (λ p. absurd (opposed p.1 (none s p.0)))
            (λ p. inr (at_each_lem (λ q v. Filled before q → is_empty (sides_of v) ≡ false) r (λ e. e) (λ q d e. e) s p));
        fresh = λ s j b. absurd (stranger s (waits-here s b.0) j);
      }
    where
      -- the joining node was neither wait nor not empty
      stranger : (s : ℕ) → s ≡ i → Joining before s → ⊥
      stranger s e (inl p) = opposed p.1 (none s p.0)
      stranger s e (inr p) = opposed bare (rw e at p)

  pub join-calm : Calm before → Calm joined
  join-calm c =
      each-calm (λ a b p s. waits-here a p ∙ sym (waits-here b s)) (λ s.
      calm-at-on up-before join-passes (at_each_lem (CalmAt before) r bare-here (λ z d. calm-each c z) s))
    where
      -- of an empty node that is wait nothing is asked
      bare-here : CalmAt before i (with_status (at i) status.Wait)
      bare-here =
          record {
            members = λ l m. absurd (⊎_elim (λ z. clash (sym z)) (λ z. opposed bare z.1) m);
            known = λ l z y b. absurd (empty-none (sides_of (at i)) y bare b.1);
            trusting = c.trusting i;
            joiner = λ l z full. absurd (opposed bare full);
          }

-- ---- the Ok move

module _ (g : Ring) (ids : List ℕ) (at au : ℕ → Node) (i : ℕ) (r : Written at au i (with_status (at i) status.Ok)) (c : Calm (seen g ids at))
    (waits : Waits (seen g ids at) i) (full : Filled (seen g ids at) i) (asked : (at i).probing ≡ 0) where
  abbrev earlier : View
  earlier = seen g ids at

  abbrev later : View
  later = seen g ids au

  -- nobody is wait now
  none-waits : (s : ℕ) → Waits later s → ⊥
  none-waits s p =
      at_each_lem (λ q v. q < g.n → is_wait v.status ≡ true → ⊥) r (λ l e. clash (sym e)) (λ q d l e. d (c.one q i (l, e) waits)) s
      p.0 p.1

  up-other : (s : ℕ) → (s ≡ i → ⊥) → Up later s → Up earlier s
  up-other s d p = (
    p.0,
    at_each_lem (λ q v. (q ≡ i → ⊥) → is_up v.status ≡ true → is_up (at q).status ≡ true) r (λ z e. absurd (z refl)) (λ q z y e. e) s d
        p.1,
  )

  alive-now : (s : ℕ) → Alive earlier s → Alive later s
  alive-now s p =
      (p.0, at_each_lem (λ q v. is_dead (at q).status ≡ false → is_dead v.status ≡ false) r (λ e. refl) (λ q d e. e) s p.1)

  guards-now : (x y : ℕ) → GuardsAt earlier x y → GuardsAt later x y
  guards-now x y = at_each_lem (λ s v. GuardsAt earlier s y → Guards g ids s (sides_of v) y) r (λ p. p) (λ s d p. p) x

  filled-now : (s : ℕ) → Filled earlier s → Filled later s
  filled-now = at_each_lem (λ q v. Filled earlier q → is_empty (sides_of v) ≡ false) r (λ e. e) (λ q d e. e)

  pub ok-passes : Passes g ids at au
  ok-passes =
      record {
        alive = alive-now;
        guards = guards-now;
        joining = λ s. ⊎_elim (λ p. inr (filled-now s (rw (c.one s i p waits) full))) (λ p. inr (filled-now s p));
        fresh = λ s j b. absurd (none-waits s b.0);
      }

  -- those that were up guard against i: it has nobody left to probe
  guards-joiner : (x : ℕ) → Up earlier x → GuardsAt earlier x i
  guards-joiner x p = ⊎_elim (λ e. absurd (opposed e (rw asked (has-zero x)))) (λ e. e) (c.joiner i x waits full p)

  members-other : (x : ℕ) → (x ≡ i → ⊥) → x < g.n → Member (at x) → (e : ℕ) → Up later e → (e ≡ x → ⊥) → GuardsAt earlier x e
  members-other x d l (inr m) e p apart = absurd (d (c.one x i (l, m.0) waits))
  members-other x d l (inl m) e p apart =
      ⊎_elim (λ z. rw z (guards-joiner x (l, m))) (λ z. c.members x e (inl (l, m)) (up-other e z p) apart) (eq-or-ne e i)

  known-now : (x y : ℕ) → Alive earlier x → Beside earlier (sides_of (at x)) y → Alive later y × GuardsAt earlier x y
  known-now x y a b = let k = c.known x y a b in (alive-now y k.0, k.1)

  pub ok-calm : Calm later
  ok-calm = each-calm (λ a b p s. absurd (none-waits a p)) (at_each_lem (CalmAt later) r ok-here ok-other)
    where
      ok-here : CalmAt later i (with_status (at i) status.Ok)
      ok-here =
          record {
            members = λ l m e p apart. c.members i e (inr (waits, full)) (up-other e apart p) apart;
            known = λ l z y. known-now i y (l, wait-alive (at i).status waits.1);
            trusting = c.trusting i;
            joiner = λ l z. absurd (clash (sym z));
          }

      ok-other : (s : ℕ) → (s ≡ i → ⊥) → CalmAt later s (at s)
      ok-other s d =
          record {
            members = members-other s d;
            known = λ l z y. known-now s y (l, z);
            trusting = c.trusting s;
            joiner = λ l z. absurd (d (c.one s i (l, z) waits));
          }
