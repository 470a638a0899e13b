-- A routed lookup goes nearer, so it is routed at most n - 1 times. The measure: how many listed nodes are nearer to the key than the
-- holder. It falls with every routing, it is below n, and other steps leave it alone, since ids, n and M never change. By induction on the
-- actions. Assumes nothing.
use Rattle.rules.specs.Shapes.{Answer}
use Rattle.std.specs.Prelude.{Ok, Err}
use mathlib.Core.Path.{◌≡◌, refl}
use mathlib.Core.Bool.{true, false}
use mathlib.Core.List.{List, [], ◌∷◌}
use Prim.Native.Nat.{ℕ, ◌^◌, ◌<◌, ◌≤◌}
use native.Mathlib.Omega.{arith}
use Rattle.ring.specs.Distance.{nearer}
use Rattle.ring.proofs.Order.{nearer-transitive, nearer-irreflexive}
use Rattle.marks.proofs.Bools.{bool_false}
use Rattle.marks.specs.Marks.{tally}
use Rattle.marks.proofs.Laws.{tally-strict, tally-all}
use Rattle.rules.specs.declared.Pool.{Pool}
use Rattle.rules.specs.declared.Action.{Action}
use Rattle.rules.specs.declared.Hop.TheVariants.{To}
use Rattle.rules.specs.Pick.{id_at}
use Rattle.rules_laws.proofs.Hops.{hop-to, hop-listed}
use Rattle.table_type.specs.declared.Table.{Table}
use Rattle.table_type.specs.Table.{node_at, ids_of, ring_of}
use Rattle.table.specs.Settled.{dead_set}
use Rattle.table.specs.Valid.{valid_of}
use Rattle.table_laws.proofs.Nodes.{node-rules}
use Rattle.table_laws.proofs.Sound.{Sound, sound}
use Rattle.table_laws.specs.Claims.{SameRing}
use Rattle.table_laws.proofs.By.{step-refused}
use Rattle.table_laws.proofs.Proved.{keeps-valid, keeps-ring}
use Rattle.lookup_laws.specs.Journey.{stepped, LookupAt, Fate, stays, routed, met, delivered, unroutable, fate_of, counted, routings}
use Rattle.lookup_laws.specs.Journey.{RoutesTo, waits_there, ends_there}
use Rattle.lookup_laws.specs.Claims.{Nearer, GoesNearer, FewRoutings}
use Rattle.lookup_laws.specs.Fates.{hop_at, Tracked}
use Rattle.lookup_laws.proofs.Tracks.{tracked, dest-in}

-- ---- a hop goes to a listed node that is nearer

pub hop-nearer : {t : Table} {p : Pool} → Sound t p → (k d h : ℕ) → d < t.n → hop_at t d k ≡ To h → (h < t.n) × Nearer t k h d
hop-nearer {t} v k d h l e =
    let g = ring_of t in
    let r = node-rules g d (node_at t d) (v.node d l) in (
      hop-listed g (ids_of t) (dead_set t) d (node_at t d) k t.n h r.leaf.left.inside r.leaf.right.inside r.routing l e,
      (hop-to g (ids_of t) (dead_set t) d (node_at t d) k h e).closer,
    )

pub goes-nearer : GoesNearer
goes-nearer t p q k d a h e l = go (fate_of t p q a) (tracked t p q k d a e l)
  where
    v : Sound t p
    v = sound t p e

    go : (f : Fate) → Tracked t p q k d a f → RoutesTo f h → (h < t.n) × Nearer t k h d
    go (routed i r) w waits_there = hop-nearer v k d i (dest-in t p q k d v l) w.hop
    go (met i r) w ends_there = hop-nearer v k d i (dest-in t p q k d v l) w.hop
    go (stays _) w routes = elim routes [ ]
    go delivered w routes = elim routes [ ]
    go unroutable w routes = elim routes [ ]

-- ---- the measure

-- how many of n listed nodes are nearer to k than slot d
abbrev pub nearer_than : ℕ → ℕ → List ℕ → ℕ → ℕ → ℕ
nearer_than m n ids k d = tally n (λ s. nearer (2 ^ m) k (id_at ids s) (id_at ids d))

module _ (m n : ℕ) (ids : List ℕ) (k : ℕ) where
  not_itself : (d : ℕ) → nearer (2 ^ m) k (id_at ids d) (id_at ids d) ≡ false
  not_itself d = bool_false _ (nearer-irreflexive (2 ^ m) k (id_at ids d))

  -- it falls
  pub nearer-falls : (h d : ℕ) → h < n → nearer (2 ^ m) k (id_at ids h) (id_at ids d) ≡ true → nearer_than m n ids k h < nearer_than m n ids k d
  nearer-falls h d l e =
      tally-strict n (λ s. nearer (2 ^ m) k (id_at ids s) (id_at ids h)) (λ s. nearer (2 ^ m) k (id_at ids s) (id_at ids d)) h
      (λ s i f. nearer-transitive (2 ^ m) k (id_at ids s) (id_at ids h) (id_at ids d) f e) l (not_itself h) e

  -- and is below n
  pub nearer-few : (d : ℕ) → d < n → nearer_than m n ids k d < n
  nearer-few d l =
      omega (
        arith,
        tally-strict n (λ s. nearer (2 ^ m) k (id_at ids s) (id_at ids d)) (λ s. true) d (λ s i f. refl) l (not_itself d) refl,
        tally-all n (λ s. true) (λ s i. refl),
      )

abbrev pub nearer_listed : Table → ℕ → ℕ → ℕ
nearer_listed t k d = nearer_than t.m t.n (ids_of t) k d

pub same-listed : {t u : Table} → SameRing t u → (k d : ℕ) → nearer_listed u k d ≡ nearer_listed t k d
same-listed s k d = rw (s.m, s.n, s.ids)

-- ---- the induction

pub step-valid : (t : Table) (p : Pool) (a : Action) → valid_of t p ≡ true → valid_of (stepped t p a).table (stepped t p a).pool ≡ true
step-valid t p a e = go (stepped t p a).answer refl
  where
    go : (r : Answer) → (stepped t p a).answer ≡ r → valid_of (stepped t p a).table (stepped t p a).pool ≡ true
    go (Ok tt) d = keeps-valid t p 256 a d
    go (Err why) d = rw (step-refused t p 256 a why d).1 e

pub routed-few : (acts : List Action) (t : Table) (p : Pool) (q k d : ℕ) → valid_of t p ≡ true → LookupAt p q k d
    → routings t p acts q ≤ nearer_listed t k d
unfolding routings
routed-few [] t p q k d e l = omega arith
routed-few (a ∷ acts) t p q k d e l =
    go (fate_of t p q a) (tracked t p q k d a e l)
    (λ r j w. routed-few acts (stepped t p a).table (stepped t p a).pool r k j (step-valid t p a e) w)
  where
    u : Table
    u = (stepped t p a).table

    v : Sound t p
    v = sound t p e

    falls : (h : ℕ) → hop_at t d k ≡ To h → nearer_listed t k h < nearer_listed t k d
    falls h o =
        let near = hop-nearer v k d h (dest-in t p q k d v l) o in
        nearer-falls t.m t.n (ids_of t) k h d near.0 near.1

    go : (f : Fate) → Tracked t p q k d a f
        → ((r j : ℕ) → LookupAt (stepped t p a).pool r k j → routings u (stepped t p a).pool acts r ≤ nearer_listed u k j)
        → counted f (routings u (stepped t p a).pool acts) ≤ nearer_listed t k d
    go (stays r) w rest = omega (arith, rest r d w.now, same-listed (keeps-ring t p 256 a) k d)
    go (routed h r) w rest = omega (arith, rest r h w.now, same-listed (keeps-ring t p 256 a) k h, falls h w.hop)
    go (met h r) w rest = omega (arith, falls h w.hop)
    go delivered w rest = omega arith
    go unroutable w rest = omega arith

pub few-routings : FewRoutings
few-routings t p q k d e l acts =
    omega (
      arith,
      routed-few acts t p q k d e l,
      nearer-few t.m t.n (ids_of t) k d (dest-in t p q k d (sound t p e) l),
    )
