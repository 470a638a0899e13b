-- Who holds a key among ready nodes that are flanked by their neighbours, who need not be ready themselves (Joining). The idea: read through
-- the ids, Flanked is Flanks of crate ring, where what a node covers is nearer to it than to any ready id beyond its neighbours. A settled
-- table is a case of it (Holder). Assumes nothing.
use mathlib.Core.Path.{◌≡◌, refl, sym, ◌∙◌, ap}
use mathlib.Core.Logic.{⊎_elim}
use mathlib.Core.Bool.{true}
use Prim.Native.Nat.{ℕ, ◌^◌, ◌<◌, ◌≤◌}
use native.Mathlib.Omega.{arith}
use borrow.Author.Tests.{ne_eqb}
use Rattle.ring.specs.Distance.{fall_of}
use Rattle.ring.proofs.Falls as falls
use Rattle.ring.proofs.Nearest as nearest
use Rattle.marks.proofs.Bools.{opposed}
use Rattle.marks.specs.Marks.{has, remove_of, size_of, listed}
use Rattle.marks.proofs.Laws.{has-remove, listed_has, size_none, size-remove}
use Rattle.rules.specs.declared.Way.{Way}
use Rattle.rules.specs.declared.Way.TheVariants.{Up, Down}
use Rattle.rules.specs.declared.Pool.{Pool}
use Rattle.rules.specs.Leaf.{covers_of, seen_from}
use Rattle.rules.specs.Nodes.{sides_of}
use Rattle.rules.specs.Pick.{id_at}
use Rattle.rules_laws.proofs.Leaf.{seen-in}
use Rattle.rules_laws.proofs.Steps.{ids-inj}
use Rattle.table_type.specs.declared.Table.{Table}
use Rattle.table_type.specs.Table.{node_at, ids_of, ring_of}
use Rattle.table.specs.Settled.{ready_set}
use Rattle.table_laws.proofs.Nodes.{LeafRules, node-rules}
use Rattle.table_laws.proofs.Sound.{Sound, sound}
use Rattle.lookup_laws.specs.Claims.{Nearer, Ready}
use Rattle.lookup_laws.specs.Fates.{covers_at}
use Rattle.lookup_laws.specs.Joining.{left_at, right_at, NotItsOwn, Flanked, OneHolder, HolderNearest}

-- the other ready nodes
abbrev pub rest_of : Table → ℕ → ℕ
rest_of t i = remove_of (ready_set t) i

-- the ids of ready nodes
abbrev pub ReadyId : Table → ℕ → Type 0
ReadyId t x = (s : ℕ) × Ready t s × (id_at (ids_of t) s ≡ x)

module _ {t : Table} {p : Pool} (v : Sound t p) where
  pub around : falls.Ring (2 ^ t.m)
  around = falls.ring-at t.m (omega (arith, v.numbers.m-low))

  pub ready-low : (i : ℕ) → Ready t i → i < 64
  ready-low i r = omega (arith, v.numbers.n-high)

  pub id-in : (i : ℕ) → Ready t i → id_at (ids_of t) i < 2 ^ t.m
  id-in i r = v.listed.ids-in i (ready-low i r)

  pub ready-below : (x : ℕ) → ReadyId t x → x < 2 ^ t.m
  ready-below x (s, r, e) = rw (← e) (id-in s r)

  ids-apart : (i j : ℕ) → Ready t i → Ready t j → (i ≡ j → ⊥) → id_at (ids_of t) i ≡ id_at (ids_of t) j → ⊥
  ids-apart i j r u apart e = apart (ids-inj v.listed i j r.0 u.0 e)

  module _ (i : ℕ) (r : Ready t i) where
    pub rest_has : (j : ℕ) → Ready t j → (j ≡ i → ⊥) → has (rest_of t i) j ≡ true
    rest_has j u apart = rw (has-remove (ready_set t) i j (ready-low j u), u.1, ne_eqb j i apart)

    two_ready : (j : ℕ) → Ready t j → (j ≡ i → ⊥) → 2 ≤ size_of (ready_set t)
    two_ready j u apart =
        let some : size_of (rest_of t i) ≡ 0 → ⊥ = λ e. opposed (rest_has j u apart) (size_none (rest_of t i) j e (ready-low j u)) in
        omega (arith, some, size-remove (ready_set t) i (ready-low i r) r.1)

    -- a neighbour is i, or a listed node
    seen-listed : (w : Way) (side : ℕ) → listed t.n side ≡ true → seen_from w (ring_of t) (ids_of t) i side < t.n
    seen-listed w side h =
        ⊎_elim (λ e. rw e.1 r.0) (λ e. listed_has t.n side _ h e.below e.holds)
        (seen-in v.listed i (ready-low i r) side w)

    sides : LeafRules (ring_of t) i (sides_of (node_at t i))
    sides = (node-rules (ring_of t) i (node_at t i) (v.node i r.0)).leaf

    left-listed : left_at t i < t.n
    left-listed = seen-listed Up _ sides.left.inside

    right-listed : right_at t i < t.n
    right-listed = seen-listed Down _ sides.right.inside

    module _ (f : Flanked t) where
      own : (j : ℕ) → Ready t j → (j ≡ i → ⊥) → NotItsOwn t i
      own j u apart = f.own (two_ready j u apart) i r

      pub flanks : nearest.Flanks (2 ^ t.m) (ReadyId t) (id_at (ids_of t) i) (id_at (ids_of t) (left_at t i)) (id_at (ids_of t) (right_at t i))
      flanks =
          record {
            l-in = v.listed.ids-in _ (omega (arith, left-listed, v.numbers.n-high));
            r-in = v.listed.ids-in _ (omega (arith, right-listed, v.numbers.n-high));
            up = up;
            down = down;
          }
        where
          up : (x : ℕ) → ReadyId t x → (x ≡ id_at (ids_of t) i → ⊥)
              → (id_at (ids_of t) (left_at t i) ≡ id_at (ids_of t) i → ⊥)
              × (fall_of (2 ^ t.m) (id_at (ids_of t) (left_at t i)) (id_at (ids_of t) i) ≤ fall_of (2 ^ t.m) x (id_at (ids_of t) i))
          up x (j, u, e) d =
              let apart : j ≡ i → ⊥ = λ q. d (sym e ∙ ap (id_at (ids_of t)) q) in (
                λ same. (own j u apart).left (ids-inj v.listed _ i left-listed r.0 same),
                rw (← e) (f.close i j r u (λ q. apart (sym q))).left,
              )

          down : (x : ℕ) → ReadyId t x → (x ≡ id_at (ids_of t) i → ⊥)
              → (id_at (ids_of t) (right_at t i) ≡ id_at (ids_of t) i → ⊥)
              × (fall_of (2 ^ t.m) (id_at (ids_of t) i) (id_at (ids_of t) (right_at t i)) ≤ fall_of (2 ^ t.m) (id_at (ids_of t) i) x)
          down x (j, u, e) d =
              let apart : j ≡ i → ⊥ = λ q. d (sym e ∙ ap (id_at (ids_of t)) q) in (
                λ same. (own j u apart).right (ids-inj v.listed _ i right-listed r.0 same),
                rw (← e) (f.close i j r u (λ q. apart (sym q))).right,
              )

  module _ (f : Flanked t) (k : ℕ) (hk : k < 2 ^ t.m) (i : ℕ) (r : Ready t i) where
    pub covers-first : covers_at t i k ≡ true → (j : ℕ) → Ready t j → (j ≡ i → ⊥) → Nearer t k i j
    unfolding covers_of
    covers-first c j u d =
        nearest.covers-nearest (2 ^ t.m) around (ReadyId t) ready-below k hk _ _ _ (id-in i r) (flanks i r f) c (id_at (ids_of t) j)
        (j, u, refl) (ids-apart j i u r d)

    covers_one : (j : ℕ) → Ready t j → covers_at t i k ≡ true → covers_at t j k ≡ true → i ≡ j
    unfolding covers_of
    covers_one j u c d =
        ids-inj v.listed i j r.0 u.0
        (nearest.one-holder (2 ^ t.m) around (ReadyId t) ready-below k hk _ _ _ _ _ _ (i, r, refl) (j, u, refl) (flanks i r f)
        (flanks j u f) c d)

pub one-holder : OneHolder
one-holder t p k i j e f hk r u c d = covers_one (sound t p e) f k hk i r j u c d

pub holder-nearest : HolderNearest
holder-nearest t p k i j e f hk r u d c = covers-first (sound t p e) f k hk i r c j u d
