-- The actions and kinds that leave every leaf set as it stands: Lookup, RequestLease, LeaseExpired, GrantExpired, Deliver, Forward, and Take of a
-- JoinRequest that is passed on, and of a LeaseRequest. One law for each. Assumes nothing.
use Rattle.std.specs.Prelude.{Ok}
use mathlib.Core.Path.{◌≡◌, refl, sym, ◌∙◌}
use mathlib.Core.Logic.{inr, ⊎_elim}
use mathlib.Core.Bool.{Bool, true, false, cond, ◌&&◌}
use Prim.Native.Nat.{ℕ, ◌+◌, ◌<◌}
use native.Mathlib.Omega.{arith}
use lib.Dec.{eqb}
use borrow.Author.Tests.{eqb-true}
use Rattle.marks.proofs.Bools.{or_cases, clash}
use Rattle.marks.specs.Marks.{has}
use Rattle.rules.specs.declared.Hop.{Hop}
use Rattle.rules.specs.declared.Hop.TheVariants.{To, NoRoute}
use Rattle.rules.specs.declared.Status.{Status}
use Rattle.rules.specs.declared.Status.TheVariants as status
use Rattle.rules.specs.declared.Message.{Message}
use Rattle.rules.specs.declared.Plan.{Plan}
use Rattle.plan.specs.Actions.{is_neighbour, lease_plan, plan_lookup, plan_request_lease, plan_lease_expired, plan_grant_expired}
use Rattle.rules.specs.Hop.{next_hop}
use Rattle.rules.specs.Leaf.{content_of}
use Rattle.rules.specs.Letters.{lookup, lookup_after, join_request, no_legal_route, lease_request, broadcast_l_set}
use Rattle.rules.specs.Nodes.{sides_of, placed}
use Rattle.rules.specs.Plans.{is_dead, is_wait, is_ready, is_up, with_leases, quiet_plan}
use Rattle.take.specs.Take.{forward_plan, grant_plan, plan_deliver, plan_forward, plan_take_lease_request}
use Rattle.rules_laws.proofs.Leaf.{has-content}
use Rattle.table_laws.proofs.Plans.{unless-to}
use Rattle.join_laws.specs.Clauses.{View, Alive, Joining, Calm, Fair}
use Rattle.join_laws.proofs.Written.{put, up-alive}
use Rattle.join_laws.proofs.Told.{told-lookup, told-request-lease, told-lease-expired, told-grant-expired, told-deliver, told-forward}
use Rattle.join_laws.proofs.Told.{told-lease-request}
use Rattle.join_laws.proofs.Good.{Fitting, Good, fair-free, sends_none, sends-one, kept-passes, kept-good, leased-passes, leased-calm}
use Rattle.join_laws.proofs.Good.{leased-stays}

pub ready_up : (s : Status) → is_ready s ≡ true → is_up s ≡ true
ready_up status.Dead e = e
ready_up status.Wait e = e
ready_up status.Ok e = refl
ready_up status.Ready e = refl

-- an up node that becomes ok is of the same sort
pub record SameSort (a b : Status) : Type 0 where
  pub dead : is_dead a ≡ is_dead b
  pub wait : is_wait a ≡ is_wait b
  pub up : is_up a ≡ is_up b

pub same-sort : (s : Status) → SameSort s s
same-sort s = record { dead = refl; wait = refl; up = refl }

-- both up
pub up-sort : (a b : Status) → is_up a ≡ true → is_up b ≡ true → SameSort a b
up-sort status.Dead b e f = absurd (clash (sym e))
up-sort status.Wait b e f = absurd (clash (sym e))
up-sort status.Ok status.Dead e f = absurd (clash (sym f))
up-sort status.Ok status.Wait e f = absurd (clash (sym f))
up-sort status.Ok status.Ok e f = same-sort status.Ok
up-sort status.Ok status.Ready e f = record { dead = refl; wait = refl; up = refl }
up-sort status.Ready status.Dead e f = absurd (clash (sym f))
up-sort status.Ready status.Wait e f = absurd (clash (sym f))
up-sort status.Ready status.Ok e f = record { dead = refl; wait = refl; up = refl }
up-sort status.Ready status.Ready e f = same-sort status.Ready

pub cond_up : (b : Bool) (a s : Status) → is_up a ≡ true → is_up s ≡ true → is_up (cond b a s) ≡ true
cond_up true a s e f = e
cond_up false a s e f = f

module _ (t : View) (i : ℕ) (c : Calm t) (h : i < t.ring.n) where
  -- ---- letters of which nothing is asked

  free-lookup : (hops k s : ℕ) → Fair (put t i (t.at i)) (placed (lookup_after hops k) s)
  free-lookup hops k s = fair-free _ (λ e. omega arith) (λ e. omega arith) (λ e. omega arith) (λ e. omega arith) (λ e. omega arith)

  free-no-route : (k s : ℕ) → Fair (put t i (t.at i)) (placed (no_legal_route k) s)
  free-no-route k s = fair-free _ (λ e. omega arith) (λ e. omega arith) (λ e. omega arith) (λ e. omega arith) (λ e. omega arith)

  free-lease : (j s : ℕ) → Fair (put t i (t.at i)) (placed (lease_request j) s)
  free-lease j s = fair-free _ (λ e. omega arith) (λ e. omega arith) (λ e. omega arith) (λ e. omega arith) (λ e. omega arith)

  -- passed on, or no legal route
  pub forward-good : (hop : Hop) (m : Message) (k : ℕ) → ((s : ℕ) → Fair (put t i (t.at i)) (placed m s))
      → Good t i (forward_plan hop (t.at i) m k i)
  forward-good (To s) m k f = kept-good t i c h _ refl (sends-one (t.at i) m s (f s))
  forward-good NoRoute m k f = kept-good t i c h _ refl (sends-one (t.at i) (no_legal_route k) i (free-no-route k i))

  -- ---- the actions

  pub lookup-good : (waiting : Bool) (k : ℕ) (x : Plan) → plan_lookup waiting i k (t.at i) ≡ Ok x → Good t i x
  lookup-good waiting k x e =
      rw (told-lookup waiting i k (t.at i) x e) (kept-good t i c h _ refl (sends-one (t.at i) (lookup k) i (free-lookup 0 k i)))

  lease-good : Good t i (lease_plan t.ring t.ids i (t.at i))
  unfolding lease_plan
  lease-good =
      kept-good t i c h _ refl
      (record {
        one = λ s. unless-to (Fair (put t i (t.at i))) (lease_request i) (t.at i).lease _ s (free-lease i _);
        rest = λ s l e. free-lease i s;
      })

  pub request-lease-good : (x : Plan) → plan_request_lease t.ring t.ids i (t.at i) ≡ Ok x → Good t i x
  request-lease-good x e = rw (told-request-lease t.ring t.ids i (t.at i) x e).1 lease-good

  leases-good : (lease grant : ℕ) (st : Status) → SameSort st (t.at i).status → Alive t i
      → Good t i (quiet_plan (with_leases (t.at i) lease grant st))
  leases-good lease grant st s a =
      record {
        calm = leased-calm t i c h lease grant st s.dead s.wait s.up;
        stays = leased-stays t i c h lease grant st s.dead s.wait s.up;
        sends = sends_none (with_leases (t.at i) lease grant st);
        stands = inr (i, a);
      }

  pub lease-expired-good : (j : ℕ) (x : Plan) → plan_lease_expired t.ring t.ids i (t.at i) j ≡ Ok x → Good t i x
  lease-expired-good j x e =
      let (up, same) = told-lease-expired t.ring t.ids i (t.at i) j x e in
      let near = is_ready (t.at i).status && is_neighbour t.ring t.ids i (t.at i) j in
      rw same
      (leases-good _ _ _ (up-sort _ _ (cond_up near status.Ok (t.at i).status refl up) up) (h, up-alive (t.at i).status up))

  pub grant-expired-good : (j s : ℕ) (x : Plan) → plan_grant_expired i (t.at i) j (t.at s) ≡ Ok x → Good t i x
  grant-expired-good j s x e =
      let (up, same) = told-grant-expired i (t.at i) j (t.at s) x e in
      rw same (leases-good _ _ _ (same-sort (t.at i).status) (h, up-alive (t.at i).status up))

  -- ---- Deliver and Forward

  pub deliver-good : (kind k : ℕ) (x : Plan) → plan_deliver kind t.ring t.ids i (t.at i) k ≡ Ok x → Good t i x
  deliver-good kind k x e = rw (told-deliver kind t.ring t.ids i (t.at i) k x e) (kept-good t i c h _ refl (sends_none (t.at i)))

  pub forward-lookup-good : (kind dead k hops : ℕ) (x : Plan) → plan_forward kind t.ring t.ids dead i (t.at i) k hops ≡ Ok x → Good t i x
  forward-lookup-good kind dead k hops x e =
      rw (told-forward kind t.ring t.ids dead i (t.at i) k hops x e)
      (forward-good (next_hop t.ring t.ids dead i (t.at i) k) (lookup_after (hops + 1) k) k (free-lookup (hops + 1) k))

  -- ---- Take of a JoinRequest, passed on: 5 of the letter is 5 of the one taken

  pub request-on-good : (dead j routing k : ℕ) → Joining t j
      → Good t i (forward_plan (next_hop t.ring t.ids dead i (t.at i) k) (t.at i) (join_request j routing) k i)
  request-on-good dead j routing k join =
      forward-good (next_hop t.ring t.ids dead i (t.at i) k) (join_request j routing) k (λ s.
      record {
        request = λ e. (kept-passes t i c h).joining j join;
        reply = λ e. absurd (omega arith);
        probe = λ e. absurd (omega arith);
        answer = λ e. absurd (omega arith);
        broadcast = λ e. absurd (omega arith);
      })

  -- ---- Take of a LeaseRequest: the sides of a node that is up are not dead

  pub content-alive : (f : Fitting t) → Alive t i → (y : ℕ) → y < t.ring.n → has (content_of (sides_of (t.at i)) i) y ≡ true → Alive t y
  content-alive f a y l e =
      let low : y < 64 = omega (arith, f.listed.n-high) in
      ⊎_elim (λ p. (c.known i y a (l, or_cases (has (t.at i).left y) (has (t.at i).right y) p)).0) (λ p. rw (eqb-true y i p) a)
      (or_cases _ (eqb y i) (sym (has-content (sides_of (t.at i)) i y low) ∙ e))

  grant-good : Fitting t → Alive t i → (j : ℕ) (near : Bool) → Good t i (grant_plan i (t.at i) j near)
  grant-good f a j near =
      let passes = leased-passes t i c h (t.at i).lease _ (t.at i).status refl refl refl in
      record {
        calm = leased-calm t i c h (t.at i).lease _ (t.at i).status refl refl refl;
        stays = leased-stays t i c h (t.at i).lease _ (t.at i).status refl refl refl;
        sends = sends-one _ (broadcast_l_set i (sides_of (t.at i)) (cond near 1 0)) j
            (record {
              request = λ e. absurd (omega arith);
              reply = λ e. absurd (omega arith);
              probe = λ e. absurd (omega arith);
              answer = λ e. absurd (omega arith);
              broadcast = λ e y k. passes.alive y (content-alive f a y k.0 k.1);
            });
        stands = inr (i, a);
      }

  pub take-lease-request-good : Fitting t → (j : ℕ) (x : Plan) → plan_take_lease_request t.ring t.ids i (t.at i) j ≡ Ok x → Good t i x
  take-lease-request-good f j x e =
      let (up, same) = told-lease-request t.ring t.ids i (t.at i) j x e in
      rw same (grant-good f (h, up-alive (t.at i).status up) j (is_neighbour t.ring t.ids i (t.at i) j))
