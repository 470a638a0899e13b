-- Who holds a key in a settled table. The idea: each ready node's neighbours are the next ready ids, so it is flanked (Joined) and they are
-- ready themselves (Next of crate ring): it covers a key exactly if it is the ready node nearest it, and a key that it does not cover is
-- nearer to a neighbour, so that the nearest of all covers it. And of two nodes at equal distance, the one below the key is the nearer.
-- Assumes nothing.
use mathlib.Core.Path.{◌≡◌, sym, ◌∙◌, ap}
use mathlib.Core.Logic.{◌⊎◌, inl, inr, ⊎_elim}
use mathlib.Core.Bool.{true, false, ◌||◌, not}
use Prim.Native.Nat.{ℕ, ◌^◌, ◌<◌, ◌≤◌}
use native.Mathlib.Omega.{arith}
use lib.Dec.{eqb}
use borrow.Author.Tests.{eq-eqb, eqb-true, eqb-false, ltb-true, not-true}
use Rattle.ring.specs.Distance.{nearer}
use Rattle.ring.proofs.Falls as falls
use Rattle.ring.proofs.Order.{nearer-rank, nearer-transitive, nearer-irreflexive, tie-below}
use Rattle.ring.specs.InnerRank.{rank}
use Rattle.ring.proofs.Nearest.{Next, nearest-covers, uncovered}
use Rattle.marks.proofs.Bools.{bool-true, eq-or-ne}
use Rattle.marks.specs.Marks.{has, all_to, meet, size_of}
use Rattle.marks.proofs.Laws.{has-remove, each, gather_none, listed_has, listed-gather, member, remove-below, size-remove, size-zero}
use Rattle.rules.specs.declared.Way.{Way}
use Rattle.rules.specs.declared.Way.TheVariants.{Up, Down}
use Rattle.rules.specs.declared.Pool.{Pool}
use Rattle.rules.specs.Leaf.{covers_of, seen_from, way_up, way_down}
use Rattle.rules.specs.Pick.{id_at}
use Rattle.rules.specs.Plans.{is_dead, is_ready}
use Rattle.rules_laws.proofs.Closest.{Most, nearest}
use Rattle.rules_laws.proofs.Leaf.{seen-in, seen-leads, seen_up, seen-down}
use Rattle.rules_laws.proofs.Steps.{ids-inj}
use Rattle.table_type.specs.declared.Table.{Table}
use Rattle.table_type.specs.Table.{node_at, ids_of, ring_of}
use Rattle.table.specs.Settled.{ready_set, settled_at, is_settled}
use Rattle.table_laws.proofs.Nodes.{both}
use Rattle.table_laws.proofs.Sound.{Sound, sound}
use Rattle.lookup_laws.specs.Claims.{Nearer, Ready, NearestReady, TieBelow, CoversNearest}
use Rattle.lookup_laws.specs.Fates.{covers_at}
use Rattle.lookup_laws.proofs.Joined.{rest_of, ReadyId, around, ready-low, id-in, ready-below, rest_has, flanks, covers-first}
use Rattle.lookup_laws.specs.Joining.{left_at, right_at, Flanked, SettledFlanked, SettledHeld, SettledBeside}
use Rattle.lookup_laws.proofs.Tracks.{ready-is}

-- the rank of a slot's id (Order of crate ring)
abbrev slot_rank : Table → ℕ → ℕ → ℕ
slot_rank t k j = rank (2 ^ t.m) k (id_at (ids_of t) j)

-- ---- what settled says of a ready node

-- the best of the other ready nodes one way, or i if there are none
abbrev pub next_of : Way → Table → ℕ → ℕ
next_of w t i = seen_from w (ring_of t) (ids_of t) i (rest_of t i)

-- its neighbours are these, and no ready node is in its failed
pub record SettledAt (t : Table) (i : ℕ) : Type 0 where
  pub left : left_at t i ≡ next_of Up t i
  pub right : right_at t i ≡ next_of Down t i
  pub trusts : meet (node_at t i).failed (ready_set t) ≡ 0

settled-test : (t : Table) (i : ℕ) → settled_at (ring_of t) (ids_of t) (ready_set t) i (node_at t i) ≡ true → SettledAt t i
unfolding settled_at
settled-test t i e =
    let a = both (eqb (left_at t i) _) _ e in
    let b = both _ (eqb (meet (node_at t i).failed (ready_set t)) 0) a.1 in
    record { left = eqb-true _ _ a.0; right = eqb-true _ _ b.0; trusts = eqb-true _ 0 b.1 }

module _ (t : Table) (s : is_settled t ≡ true) where
  -- some node is ready
  some-ready : ((i : ℕ) → i < t.n → has (ready_set t) i ≡ false) → ⊥
  unfolding is_settled ready_set
  some-ready none =
      eqb-false (ready_set t) 0 (not-true _ (both (not (eqb (ready_set t) 0)) _ s).0)
      (gather_none t.n _ (λ i h. sym (ready-is t i h) ∙ none i h))

  pub dead-or-ready : (i : ℕ) → i < t.n → (is_dead (node_at t i).status || is_ready (node_at t i).status) ≡ true
  unfolding is_settled
  dead-or-ready i h =
      let a = both (not (eqb (ready_set t) 0)) _ s in
      each t.n (λ j. is_dead (node_at t j).status || is_ready (node_at t j).status) i (both (all_to t.n _) _ a.1).0 h

  pub settled_at_lem : (i : ℕ) → Ready t i → SettledAt t i
  unfolding is_settled
  settled_at_lem i r =
      let a = both (not (eqb (ready_set t) 0)) _ s in
      let test : (not (is_ready (node_at t i).status) || settled_at (ring_of t) (ids_of t) (ready_set t) i (node_at t i)) ≡ true =
      each t.n (λ j. not (is_ready (node_at t j).status) || settled_at (ring_of t) (ids_of t) (ready_set t) j (node_at t j)) i
      (both (all_to t.n _) (all_to t.n _) a.1).1 r.0 in
      settled-test t i (rw (sym (ready-is t i r.0) ∙ r.1) at test)

-- ---- the other ready nodes, as seen from one

pub ready-listed : (t : Table) (s : ℕ) → s < 64 → has (ready_set t) s ≡ true → s < t.n
unfolding ready_set
ready-listed t s l p = listed_has t.n (ready_set t) s (listed-gather t.n _) l p

module _ {t : Table} {p : Pool} (v : Sound t p) where
  module _ (i : ℕ) (r : Ready t i) where
    rest-ready : (j : ℕ) → j < 64 → has (rest_of t i) j ≡ true → Ready t j × (j ≡ i → ⊥)
    rest-ready j l e =
        let b = both (has (ready_set t) j) (not (eqb j i)) (sym (has-remove (ready_set t) i j l) ∙ e) in
        ((ready-listed t j l b.0, b.0), eqb-false j i (not-true (eqb j i) b.1))

    pub next-ready : (w : Way) → Ready t (next_of w t i)
    next-ready w =
        ⊎_elim (λ e. rw e.1 r) (λ e. (rest-ready (next_of w t i) e.below e.holds).0)
        (seen-in v.listed i (ready-low v i r) (rest_of t i) w)

    -- where there is another, it is another, and no closer one is left out
    module _ (j : ℕ) (k : Ready t j) (apart : j ≡ i → ⊥) where
      next-other : (w : Way) → next_of w t i ≡ i → ⊥
      next-other w =
          let lead = seen-leads v.listed i (ready-low v i r) (rest_of t i) j (ready-low v j k) (rest_has v i r j k apart) w in
          (rest-ready (next_of w t i) lead.below lead.holds).1

      next_up : way_up (ring_of t) (ids_of t) i (next_of Up t i) ≤ way_up (ring_of t) (ids_of t) i j
      next_up = seen_up v.listed i (ready-low v i r) (rest_of t i) j (ready-low v j k) (rest_has v i r j k apart)

      next_down : way_down (ring_of t) (ids_of t) i (next_of Down t i) ≤ way_down (ring_of t) (ids_of t) i j
      next_down = seen-down v.listed i (ready-low v i r) (rest_of t i) j (ready-low v j k) (rest_has v i r j k apart)

    other-ready : 2 ≤ size_of (ready_set t) → (j : ℕ) × Ready t j × (j ≡ i → ⊥)
    other-ready two =
        let none : rest_of t i ≡ 0 → ⊥ = λ e.
        omega (arith, size-remove (ready_set t) i (ready-low v i r) r.1, ap size_of e ∙ size-zero) in
        let m = member (rest_of t i) (remove-below (ready_set t) i) (omega (arith, none)) in
        let o = rest-ready m.0 m.1 m.2 in
        (m.0, o.0, o.1)

  -- ---- covering is being nearest

  -- the nearest is one
  nearest-one : (k e : ℕ) → Ready t e → ((j : ℕ) → Ready t j → (j ≡ e → ⊥) → Nearer t k e j) → NearestReady t k e
  nearest-one k e r first =
      record {
        ready = r;
        nearest = first;
        one = λ j u other. ⊎_elim (λ d. d) (λ d. absurd (meets j u other d)) (eq-or-ne j e);
      }
    where
      meets : (j : ℕ) → Ready t j → ((i : ℕ) → Ready t i → (i ≡ j → ⊥) → Nearer t k j i) → (j ≡ e → ⊥) → ⊥
      meets j u other d =
          let a = id_at (ids_of t) e in
          let b = id_at (ids_of t) j in
          nearer-irreflexive (2 ^ t.m) k a (nearer-transitive (2 ^ t.m) k a b a (first j u d) (other e r (λ f. d (sym f))))

  module _ (s : is_settled t ≡ true) where
    pub flanked : Flanked t
    flanked =
        record {
          close = λ i j r u d.
              record {
                left = rw (settled_at_lem t s i r).left (next_up i r j u (λ e. d (sym e)));
                right = rw (settled_at_lem t s i r).right (next_down i r j u (λ e. d (sym e)));
              };
          own = λ two i r.
              let (j, u, d) = other-ready i r two in
              record {
                left = λ e. next-other i r j u d Up (sym (settled_at_lem t s i r).left ∙ e);
                right = λ e. next-other i r j u d Down (sym (settled_at_lem t s i r).right ∙ e);
              };
        }

    module _ (k : ℕ) (hk : k < 2 ^ t.m) (i : ℕ) (r : Ready t i) where
      next-is : Next (2 ^ t.m) (ReadyId t) (id_at (ids_of t) i) (id_at (ids_of t) (left_at t i)) (id_at (ids_of t) (right_at t i))
      next-is =
          record {
            flanks = flanks v i r flanked;
            l-ready = (next_of Up t i, next-ready i r Up, ap (id_at (ids_of t)) (sym (settled_at_lem t s i r).left));
            r-ready = (next_of Down t i, next-ready i r Down, ap (id_at (ids_of t)) (sym (settled_at_lem t s i r).right));
          }

      pub cover-nearest : covers_at t i k ≡ true → NearestReady t k i
      cover-nearest c = nearest-one k i r (covers-first v flanked k hk i r c)

      pub nearest-cover : NearestReady t k i → covers_at t i k ≡ true
      unfolding covers_of
      nearest-cover n = nearest-covers (2 ^ t.m) (around v) (ReadyId t) (ready-below v) k hk _ _ _ (id-in v i r) next-is first
        where
          first : (x : ℕ) → ReadyId t x → (x ≡ id_at (ids_of t) i → ⊥) → nearer (2 ^ t.m) k (id_at (ids_of t) i) x ≡ true
          first x (j, u, e) d = rw (← e) (n.nearest j u (λ f. d (sym e ∙ ap (id_at (ids_of t)) f)))

      pub not_covered : covers_at t i k ≡ false → Nearer t k (next_of Up t i) i ⊎ Nearer t k (next_of Down t i) i
      unfolding covers_of
      not_covered c =
          rw ((settled_at_lem t s i r).left, (settled_at_lem t s i r).right) at
          (uncovered (2 ^ t.m) (around v) (ReadyId t) (ready-below v) k hk _ _ _ (id-in v i r) next-is c)

    -- the ready node of least rank covers: no neighbour of it is nearer
    module _ (k : ℕ) (hk : k < 2 ^ t.m) where
      least-covers : (i : ℕ) → Ready t i → ((j : ℕ) → Ready t j → slot_rank t k i ≤ slot_rank t k j) → covers_at t i k ≡ true
      least-covers i r least =
          bool-true (covers_at t i k) (λ c.
          ⊎_elim (beaten (next_of Up t i) (next-ready i r Up)) (beaten (next_of Down t i) (next-ready i r Down)) (not_covered k hk i r c))
        where
          beaten : (j : ℕ) → Ready t j → Nearer t k j i → ⊥
          beaten j u near = omega (arith, least j u, ltb-true (slot_rank t k j) (slot_rank t k i) (rw nearer-rank at near))

      some-covers : (i : ℕ) × Ready t i × (covers_at t i k ≡ true)
      some-covers = go (nearest (slot_rank t k) t.n (has (ready_set t)))
        where
          go : ((i : ℕ) × Most (λ a b. slot_rank t k a ≤ slot_rank t k b) t.n (has (ready_set t)) i)
              ⊎ ((j : ℕ) → j < t.n → has (ready_set t) j ≡ false) → (i : ℕ) × Ready t i × (covers_at t i k ≡ true)
          go (inl (i, m)) =
              let r : Ready t i = (m.below, m.holds) in
              (i, r, least-covers i r (λ j u. m.tops j u.0 u.1))
          go (inr none) = absurd (some-ready t s none)

pub settled-flanked : SettledFlanked
settled-flanked t p e s = flanked (sound t p e) s

pub settled-held : SettledHeld
settled-held t p k e s hk = some-covers (sound t p e) s k hk

pub settled-beside : SettledBeside
settled-beside t p i e s r =
    let v = sound t p e in
    (rw (settled_at_lem t s i r).left (next-ready v i r Up), rw (settled_at_lem t s i r).right (next-ready v i r Down))

pub covers-nearest-ready : CoversNearest
covers-nearest-ready t p k i e s hk r = (cover-nearest (sound t p e) s k hk i r, nearest-cover (sound t p e) s k hk i r)

-- ---- the tie

pub tie-below-key : TieBelow
tie-below-key t p k a b e hk ha hb apart tie =
    let v = sound t p e in
    let low : (s : ℕ) → s < t.n → id_at (ids_of t) s < 2 ^ t.m = λ s h. v.listed.ids-in s (omega (arith, v.numbers.n-high)) in
    let below = tie-below (2 ^ t.m) (falls.ring-at t.m (omega (arith, v.numbers.m-low))) k (id_at (ids_of t) a) (id_at (ids_of t) b) hk
    (low a ha) (low b hb) (λ f. apart (ids-inj v.listed a b ha hb f)) tie in
    (λ n. eqb-true _ k (sym below ∙ n), λ d. below ∙ eq-eqb _ k d)
