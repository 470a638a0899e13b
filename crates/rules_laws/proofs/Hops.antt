-- The next hop. The idea: both branches are one search over the candidates of the branch taken, since the nearest candidate, where it is
-- nearer than i, is the nearest of those that are (`next_hop-is`). So a hop goes to another node that is nearer, alive and not failed
-- (`hop-to`), and there is none exactly where no candidate is nearer than i (`hop-none`, `none-hop`). All this for any ids, i and k.
-- Assumes nothing.
use Rattle.std.specs.Prelude.{Some, None}
use mathlib.Core.Path.{◌≡◌, refl, sym, ◌∙◌, ap}
use mathlib.Core.Logic.{◌⊎◌, inl, inr, ⊎_elim}
use mathlib.Core.Bool.{Bool, true, false, cond, ◌&&◌, ◌||◌, not, or-false}
use mathlib.Core.List.{List}
use Prim.Native.Nat.{ℕ, ◌^◌, ◌<◌}
use native.Mathlib.Omega.{arith}
use borrow.Author.Tests.{le-ltb, ltb-true, not-true}
use Rattle.ring.specs.Distance.{nearer}
use Rattle.ring.proofs.Order.{nearer-rank, nearer-irreflexive}
use Rattle.ring.specs.InnerRank.{rank}
use Rattle.marks.specs.Marks.{has, union, without, listed, Found}
use Rattle.marks.proofs.Bools.{bool_cases, and_left, and_right, and_both, and-fails-left, and-fails-right, or_cases}
use Rattle.marks.proofs.Laws.{has-union, has-without, listed_has}
use Rattle.rules.specs.declared.Way.TheVariants.{Near}
use Rattle.rules.specs.declared.Ring.{Ring}
use Rattle.rules.specs.declared.Node.{Node}
use Rattle.rules.specs.declared.Hop.TheVariants.{To, NoRoute}
use Rattle.rules.specs.Pick.{id_at, ahead_of, best, best_of}
use Rattle.rules.specs.Nodes.{sides_of}
use Rattle.rules.specs.Leaf.{content_of}
use Rattle.rules.specs.Hop.{legal_of, leaf_candidates, route_candidates, by_leaf, nearer_than_owner, to_nearer, to_found, leaf_hop, route_hop, next_hop}
use Rattle.rules_laws.proofs.Leaf.{content-listed}
use Rattle.rules_laws.proofs.Best.{Finds, Leads, Best, kept_of, score_at, near-scored}
use Rattle.rules_laws.proofs.Best.{best-finds, best_none, best-some, best-is, best-unique, best-kept}

-- ---- candidates, by membership

pub legal-has : (dead : ℕ) (v : Node) (set s : ℕ) → s < 64
    → has (legal_of dead v set) s ≡ (has set s && not (has v.failed s) && not (has dead s))
legal-has dead v set s h = rw (has-without (without set v.failed) dead s h, has-without set v.failed s h)

pub leaf-has : (dead i : ℕ) (v : Node) (s : ℕ) → s < 64
    → has (leaf_candidates dead i v) s ≡ (has (content_of (sides_of v) i) s && not (has v.failed s) && not (has dead s))
unfolding leaf_candidates
leaf-has dead i v s h = legal-has dead v (content_of (sides_of v) i) s h

pub route-has : (dead i : ℕ) (v : Node) (s : ℕ) → s < 64
    → has (route_candidates dead i v) s
    ≡ ((has (content_of (sides_of v) i) s || has v.routing s) && not (has v.failed s) && not (has dead s))
unfolding route_candidates
route-has dead i v s h =
    let content = content_of (sides_of v) i in
    rw (legal-has dead v (union content v.routing) s h, has-union content v.routing s h)

-- s is of the content or the routing set, and neither failed nor dead
pub record Legal (dead i : ℕ) (v : Node) (s : ℕ) : Type 0 where
  pub known : (has (content_of (sides_of v) i) s || has v.routing s) ≡ true
  pub trusted : has v.failed s ≡ false
  pub alive : has dead s ≡ false

-- the candidates of the branch taken
unfoldable pub candidates_of : Ring → List ℕ → ℕ → ℕ → Node → ℕ
candidates_of g ids dead i v = cond (by_leaf g ids i v) (leaf_candidates dead i v) (route_candidates dead i v)

-- a hop from i to h
pub record Hops (g : Ring) (ids : List ℕ) (dead i : ℕ) (v : Node) (k h : ℕ) : Type 0 where
  pub below : h < 64
  pub other : h ≡ i → ⊥
  pub legal : Legal dead i v h
  pub candidate : has (candidates_of g ids dead i v) h ≡ true
  pub closer : nearer_than_owner g ids i k h ≡ true
  pub nearest : (s : ℕ) → s < 64 → has (candidates_of g ids dead i v) s ≡ true → nearer (2 ^ g.m) k (id_at ids s) (id_at ids h) ≡ false

nearer-lt : (N k a b : ℕ) → nearer N k a b ≡ true → rank N k a < rank N k b
nearer-lt N k a b e = ltb-true (rank N k a) (rank N k b) (sym (nearer-rank N k a b) ∙ e)

no-hop : {h : ℕ} → NoRoute ≡ To h → ⊥
no-hop e = let z : ◌≡◌ {A = ℕ} 0 1 = cc in omega arith

module _ (g : Ring) (ids : List ℕ) (dead i : ℕ) (v : Node) where
  pub candidates-has : (s : ℕ) → s < 64
      → has (candidates_of g ids dead i v) s
      ≡ ((has (content_of (sides_of v) i) s || (not (by_leaf g ids i v) && has v.routing s)) && not (has v.failed s) && not (has dead s))
  unfolding candidates_of
  candidates-has s h = go (by_leaf g ids i v)
    where
      go : (b : Bool) → has (cond b (leaf_candidates dead i v) (route_candidates dead i v)) s
          ≡ ((has (content_of (sides_of v) i) s || (not b && has v.routing s)) && not (has v.failed s) && not (has dead s))
      go true = rw or-false (leaf-has dead i v s h)
      go false = route-has dead i v s h

  pub candidate-legal : (s : ℕ) → s < 64 → has (candidates_of g ids dead i v) s ≡ true → Legal dead i v s
  candidate-legal s h p =
      let any : Bool = has (content_of (sides_of v) i) s || (not (by_leaf g ids i v) && has v.routing s) in
      let f = has v.failed s in
      let all : (any && not f && not (has dead s)) ≡ true = sym (candidates-has s h) ∙ p in
      let most = and_left (any && not f) (not (has dead s)) all in
      record {
        known = wider (has (content_of (sides_of v) i) s) (not (by_leaf g ids i v)) (has v.routing s) (and_left any (not f) most);
        trusted = not-true f (and_right any (not f) most);
        alive = not-true (has dead s) (and_right (any && not f) (not (has dead s)) all);
      }
    where
      wider : (a b c : Bool) → (a || (b && c)) ≡ true → (a || c) ≡ true
      wider true b c e = refl
      wider false b c e = and_right b c e

  -- a member of the content is one in both branches
  pub content-candidate : (s : ℕ) → s < 64 → has (content_of (sides_of v) i) s ≡ true → has v.failed s ≡ false → has dead s ≡ false
      → has (candidates_of g ids dead i v) s ≡ true
  content-candidate s h c f d = rw (candidates-has s h, c, f, d)

  module _ (k : ℕ) where
    -- what is searched, in which order
    abbrev all : ℕ
    all = candidates_of g ids dead i v

    abbrev ahead : ℕ → ℕ → Bool
    ahead = ahead_of Near (2 ^ g.m) k ids

    abbrev score : ℕ → ℕ
    score = score_at Near (2 ^ g.m) k ids

    abbrev closer_one : ℕ → Bool
    closer_one s = has all s && nearer_than_owner g ids i k s

    -- the nearest, where it is nearer than i, is the nearest of those nearer than i
    nearest-nearer : (set : ℕ) → to_nearer g ids i k (best ahead (has set) 64)
        ≡ to_found (best ahead (λ s. has set s && nearer_than_owner g ids i k s) 64)
    nearest-nearer set =
        rw (best-kept ahead (has set) score (nearer_than_owner g ids i k) (score i) 64 (near-scored (2 ^ g.m) k ids 64)
        (λ s h. nearer-rank (2 ^ g.m) k (id_at ids s) (id_at ids i))) (go (best ahead (has set) 64))
      where
        turn : (h : ℕ) (t : Bool) → cond t (To h) NoRoute ≡ to_found (cond t (Some h) None)
        turn h true = refl
        turn h false = refl

        go : (r : Found) → to_nearer g ids i k r ≡ to_found (kept_of (nearer_than_owner g ids i k) r)
        go (Some h) = turn h (nearer_than_owner g ids i k h)
        go None = refl

    -- the nearest of the candidates that are nearer than i
    pub next_hop-is : next_hop g ids dead i v k
        ≡ to_found (best (ahead_of Near (2 ^ g.m) k ids) (λ s. has (candidates_of g ids dead i v) s && nearer_than_owner g ids i k s) 64)
    unfolding next_hop leaf_hop route_hop candidates_of
    next_hop-is = go (by_leaf g ids i v)
      where
        go : (b : Bool) → cond b (leaf_hop g ids dead i v k) (route_hop g ids dead i v k)
            ≡ to_found (best ahead
            (λ s. has (cond b (leaf_candidates dead i v) (route_candidates dead i v)) s && nearer_than_owner g ids i k s) 64)
        go true = nearest-nearer (leaf_candidates dead i v)
        go false = refl

    -- what a program computes: the nearest candidate, where it is nearer than i
    pub next_hop-nearest : next_hop g ids dead i v k ≡ to_nearer g ids i k (best_of Near (2 ^ g.m) k ids (candidates_of g ids dead i v))
    next_hop-nearest = next_hop-is ∙ sym (nearest-nearer all)

    -- ---- where there is a hop

    pub hop-to : (h : ℕ) → next_hop g ids dead i v k ≡ To h → Hops g ids dead i v k h
    hop-to h e =
        go (best ahead (has all) 64) (best-is ahead (has all) score 64 (near-scored (2 ^ g.m) k ids 64)) (sym next_hop-nearest ∙ e)
      where
        made : (b : ℕ) → Leads (has all) score 64 b → nearer_than_owner g ids i k b ≡ true → Hops g ids dead i v k b
        made b l p =
            record {
              below = l.below;
              other = λ d. nearer-irreflexive (2 ^ g.m) k (id_at ids i) (rw d at p);
              legal = candidate-legal b l.below l.holds;
              candidate = l.holds;
              closer = p;
              nearest = λ s q c. nearer-rank (2 ^ g.m) k (id_at ids s) (id_at ids b) ∙ le-ltb (score s) (score b) (l.least s q c);
            }

        turn : (b : ℕ) → Leads (has all) score 64 b → (t : Bool) → nearer_than_owner g ids i k b ≡ t → cond t (To b) NoRoute ≡ To h
            → Hops g ids dead i v k h
        turn b l true p q = let d : b ≡ h = cc in rw (← d) (made b l p)
        turn b l false p q = absurd (no-hop q)

        go : (r : Found) → Best (has all) score 64 r → to_nearer g ids i k r ≡ To h → Hops g ids dead i v k h
        go (Some b) l q = turn b l (nearer_than_owner g ids i k b) refl q
        go None l q = absurd (no-hop q)

    -- it comes nearer to the key
    pub hop-falls : (h : ℕ) → next_hop g ids dead i v k ≡ To h → rank (2 ^ g.m) k (id_at ids h) < rank (2 ^ g.m) k (id_at ids i)
    hop-falls h e = nearer-lt (2 ^ g.m) k (id_at ids h) (id_at ids i) (hop-to h e).closer

    -- it goes to a listed node
    pub hop-listed : (n h : ℕ) → listed n v.left ≡ true → listed n v.right ≡ true → listed n v.routing ≡ true → i < n
        → next_hop g ids dead i v k ≡ To h → h < n
    hop-listed n h a b c l e =
        let to = hop-to h e in
        ⊎_elim (listed_has n (content_of (sides_of v) i) h content to.below) (listed_has n v.routing h c to.below)
        (or_cases (has (content_of (sides_of v) i) h) (has v.routing h) to.legal.known)
      where
        content : listed n (content_of (sides_of v) i) ≡ true
        content = content-listed n (sides_of v) i a b l

    -- where some candidate is nearer than i
    pub hop-some : (s : ℕ) → s < 64 → has (candidates_of g ids dead i v) s ≡ true → nearer_than_owner g ids i k s ≡ true
        → (h : ℕ) × (next_hop g ids dead i v k ≡ To h)
    hop-some s l c p = let found = best-some ahead closer_one 64 s l (and_both c p) in (found.0, next_hop-is ∙ ap to_found found.1)

    -- where a candidate is nearer than i and than every other candidate
    pub hop-unique : (h : ℕ) → h < 64 → has (candidates_of g ids dead i v) h ≡ true → nearer_than_owner g ids i k h ≡ true
        → ((s : ℕ) → s < 64 → has (candidates_of g ids dead i v) s ≡ true → (s ≡ h → ⊥)
        → nearer (2 ^ g.m) k (id_at ids h) (id_at ids s) ≡ true)
        → next_hop g ids dead i v k ≡ To h
    hop-unique h l c p first = next_hop-nearest ∙ ap (to_nearer g ids i k) found ∙ rw p
      where
        found : best ahead (has all) 64 ≡ Some h
        found =
            best-unique ahead (has all) score 64 h (near-scored (2 ^ g.m) k ids 64) l c
            (λ s q d o. nearer-lt (2 ^ g.m) k (id_at ids h) (id_at ids s) (first s q d o))

    -- ---- where there is none: exactly where no candidate is nearer than i

    pub hop-none : next_hop g ids dead i v k ≡ NoRoute
        → (s : ℕ) → s < 64 → has (candidates_of g ids dead i v) s ≡ true → nearer_than_owner g ids i k s ≡ false
    hop-none e s h c = go (best ahead closer_one 64) (best-finds ahead closer_one 64) (sym next_hop-is ∙ e)
      where
        go : (r : Found) → Finds closer_one 64 r → to_found r ≡ NoRoute → nearer_than_owner g ids i k s ≡ false
        go (Some b) l q = absurd (no-hop (sym q))
        go None l q = rw c at (l s h)

    pub none-hop : ((s : ℕ) → s < 64 → has (candidates_of g ids dead i v) s ≡ true → nearer_than_owner g ids i k s ≡ false)
        → next_hop g ids dead i v k ≡ NoRoute
    none-hop e = next_hop-is ∙ ap to_found (best_none ahead closer_one 64 (λ s h. go s h (bool_cases (has all s))))
      where
        go : (s : ℕ) → s < 64 → (has all s ≡ true) ⊎ (has all s ≡ false) → closer_one s ≡ false
        go s h (inl c) = and-fails-right (has all s) (e s h c)
        go s h (inr c) = and-fails-left (nearer_than_owner g ids i k s) c
