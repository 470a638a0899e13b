-- The fate of a lookup is what really happens to it (`tracked`): what Fates says of each fate holds after every step on a valid table. A
-- refused step changes nothing; of a done step, what waited before stands in front; and the lookup itself goes by
-- Deliver or Forward alone, by cases of what the node does. Assumes nothing.
use Rattle.rules.specs.Shapes.{Planned, Answer}
use Rattle.std.specs.Prelude.{Some, None, Ok, Err}
use mathlib.Core.Path.{◌≡◌, refl, sym, ◌∙◌, ap, ap₂, subst}
use mathlib.Core.Bool.{Bool, true, false, cond, not}
use mathlib.Core.List.{List}
use Prim.Native.Nat.{ℕ, pred, ◌+◌, ◌-◌, ◌^◌, ◌<◌}
use native.Mathlib.Omega.{arith}
use lib.Dec.{eqb, ltb}
use lib.ListN.{length}
use lib.Seq.{set-get_or}
use borrow.Author.Tests.{eqb-true, eqb-false, ltb-true, ltb-false}
use Rattle.marks.specs.Marks.{has, Found}
use Rattle.marks.proofs.Laws.{has-gather}
use Rattle.rules.specs.declared.Hop.{Hop}
use Rattle.rules.specs.declared.Hop.TheVariants.{To, NoRoute}
use Rattle.rules.specs.declared.Node.{Node}
use Rattle.rules.specs.declared.Message.{Message}
use Rattle.rules.specs.declared.Pool.{Pool}
use Rattle.rules.specs.declared.Plan.{Plan}
use Rattle.rules.specs.declared.Action.{Action}
use Rattle.rules.specs.declared.Action.TheVariants.{Lookup, Join, RequestLease, LeaseExpired, GrantExpired, Take, Deliver, Forward}
use Rattle.rules.specs.declared.Action.TheVariants.{NodeLeft, SuspectFaulty, ProbeTimeOut, DeclareDead, LSRepair, ResignNode, Recover}
use Rattle.rules.specs.declared.Refusal.TheVariants as no
use Rattle.rules.specs.declared.Via.{Via}
use Rattle.rules.specs.declared.Via.TheVariants.{Unrouted}
use Rattle.rules.specs.Fits.{message_fits}
use Rattle.rules.specs.Letters.{lookup, lookup_after, no_legal_route}
use Rattle.rules.specs.Mail.{first_equal, added}
use Rattle.rules.specs.Nodes.{no_node, placed}
use Rattle.rules.specs.Plans.{is_ready, quiet_plan, send_by, send_plan, mailed}
use Rattle.rules.specs.Pool.{waiting, message_at, laid}
use Rattle.take.specs.Take.{forward_plan, plan_deliver, plan_forward, plan_take}
use Rattle.pool_laws.proofs.Laws.{laid-at, All, all-index, all-removed, added-at, added-nothing, mailed-quiet, mailed-send, waiting-at}
use Rattle.table_type.specs.declared.Table.{Table}
use Rattle.table_type.specs.declared.Stepped.{Stepped}
use Rattle.table_type.specs.Table.{node_at, with_node, ids_of, ring_of}
use Rattle.table.specs.Settle.{done_by}
use Rattle.table.specs.Settled.{ready_set, dead_set}
use Rattle.table.specs.Valid.{valid_of}
use Rattle.table_laws.proofs.Obeys.{obeys}
use Rattle.table_laws.proofs.Sound.{Sound, sound}
use Rattle.table_laws.proofs.Hops.{Within}
use Rattle.table_laws.proofs.By.{goes, go_same, never-go, DoneWith, leaves_of, step-refused, step-done}
use Rattle.step.specs.Step.{Gone, all_stay, one-goes, probes-go, taken_of, delivered_of, forwarded_of, asked, remaining, planned_of}
use Rattle.lookup_laws.specs.Fates.{others, covers_at, hop_at, via_at, Took, Stays, Ends, Tracked}
use Rattle.lookup_laws.specs.Journey.{stepped, hops_at, LookupAt, stays, landing, onward, fate_taken, probes_before, fate_done}
use Rattle.lookup_laws.specs.Journey.{fate_by, fate_of}
use Rattle.lookup_laws.proofs.Stands.{Stands, stands-mailed, stands-down, stands-still, stands-last, stands-is, stands-laid, stands-waiting, looks}
use Rattle.lookup_laws.proofs.Stands.{count-is, first-lookup, first-other, first_any, stands-probes}

-- ---- ready

pub ready-is : (t : Table) (i : ℕ) → i < t.n → has (ready_set t) i ≡ is_ready (node_at t i).status
unfolding ready_set
ready-is t i h = has-gather t.n (λ s. is_ready (node_at t s).status) i h

-- ---- what a node plans for a lookup of k

abbrev pub deliver_at : Table → ℕ → ℕ → Planned
deliver_at t d k = plan_deliver 1 (ring_of t) (ids_of t) d (node_at t d) k

-- with c hops
abbrev pub forward_at : Table → ℕ → ℕ → ℕ → Planned
forward_at t d k c = plan_forward 1 (ring_of t) (ids_of t) (dead_set t) d (node_at t d) k c

pub record Holds (t : Table) (k d : ℕ) (x : Plan) : Type 0 where
  pub ready : is_ready (node_at t d).status ≡ true
  pub covers : covers_at t d k ≡ true
  pub plan : x ≡ quiet_plan (node_at t d)

pub data Sends (t : Table) (k d c : ℕ) (x : Plan) : Type 0 where
  to : (h : ℕ) → hop_at t d k ≡ To h → x ≡ send_by (via_at t d h) (node_at t d) (lookup_after (c + 1) k) h → Sends t k d c x
  nowhere : hop_at t d k ≡ NoRoute → x ≡ send_plan (node_at t d) (no_legal_route k) d → Sends t k d c x

pub record Passes (t : Table) (k d c : ℕ) (x : Plan) : Type 0 where
  pub ready : is_ready (node_at t d).status ≡ true
  pub uncovered : covers_at t d k ≡ false
  pub sends : Sends t k d c x

-- a plan is made where the node is ready and covers the key, or does not
pub delivers : (t : Table) (k d : ℕ) (x : Plan) → deliver_at t d k ≡ Ok x → Holds t k d x
unfolding plan_deliver
delivers t k d x = go (is_ready (node_at t d).status) (covers_at t d k) refl refl
  where
    go : (r c : Bool) → is_ready (node_at t d).status ≡ r → covers_at t d k ≡ c
        → cond (not r) (Err no.Status) (cond (not c) (Err no.Partner) (Ok (quiet_plan (node_at t d)))) ≡ Ok x → Holds t k d x
    go true true r c e = record { ready = r; covers = c; plan = go_same e }
    go true false r c e = absurd (never-go e)
    go false c r f e = absurd (never-go e)

pub forwards : (t : Table) (k d c : ℕ) (x : Plan) → forward_at t d k c ≡ Ok x → Passes t k d c x
unfolding plan_forward
forwards t k d c x = go (is_ready (node_at t d).status) (covers_at t d k) refl refl
  where
    onwards : (o : Hop) → hop_at t d k ≡ o → ◌≡◌ {A = Planned} (Ok (forward_plan o (node_at t d) (lookup_after (c + 1) k) k d)) (Ok x) → Sends t k d c x
    onwards (To h) o f = to h o (go_same f)
    onwards NoRoute o f = nowhere o (go_same f)

    go : (r b : Bool) → is_ready (node_at t d).status ≡ r → covers_at t d k ≡ b
        → cond (not r) (Err no.Status) (cond b (Err no.Partner) (Ok (forward_plan (hop_at t d k) (node_at t d) (lookup_after (c + 1) k) k d))) ≡ Ok x
        → Passes t k d c x
    go true false r f e = record { ready = r; uncovered = f; sends = onwards (hop_at t d k) refl e }
    go true true r f e = absurd (never-go e)
    go false b r f e = absurd (never-go e)

-- the same node again changes nothing
pub same-node : (t : Table) (i : ℕ) → with_node t i (node_at t i) ≡ t
same-node t i = rw (set-get_or t.nodes i no_node)

-- ---- what Deliver and Forward of the lookup leave

module _ (t : Table) (p : Pool) (q k d : ℕ) (v : Sound t p) (l : LookupAt p q k d) where
  -- its hops
  abbrev c : ℕ
  c = hops_at p q

  fits : message_fits (ring_of t) (placed (lookup_after c k) d) ≡ true
  fits = subst (λ (m : Message). message_fits (ring_of t) m ≡ true) l.is (v.message q l.waits)

  pub dest-in : d < t.n
  dest-in = (obeys (ring_of t) (placed (lookup_after c k) d) fits).dest-in

  pub key_in : k < 2 ^ t.m
  key_in = (obeys (ring_of t) (placed (lookup_after c k) d) fits).key_in refl

  pub deliver-is : planned_of (asked t p (Deliver q)) ≡ deliver_at t d k
  deliver-is = ap (delivered_of t) l.is

  pub forward-is : planned_of (asked t p (Forward q)) ≡ forward_at t d k c
  forward-is = ap (forwarded_of t) l.is

  -- Take has no plan for it
  pub take-is : planned_of (asked t p (Take q)) ≡ Err no.Partner
  unfolding plan_take
  take-is = ap (taken_of t) l.is

  others-within : All (Within (ring_of t) (ids_of t)) (others p q)
  others-within =
      all-removed q (all-index (waiting p) (λ i h.
      let low : i < p.count = omega (arith, count-is v) in
      rw (waiting-at p i low) (v.hops i low)))

  -- a plan that keeps the node, made by an action on place q
  module _ (a : Action) (x : Plan) (e : stepped t p a ≡ done_by x.via (with_node t (message_at p q).dest x.node) (laid (mailed x (others p q))))
      (ready : is_ready (node_at t d).status ≡ true) where
    took : (y : Plan) (ys : List Message) → x ≡ y → y.node ≡ node_at t d → mailed y (others p q) ≡ ys → Took t p d a a y.via ys
    took y ys s node mail =
        let same : with_node t (message_at p q).dest y.node ≡ t =
        ap₂ (λ (m : Message) (u : Node). with_node t m.dest u) l.is node ∙ same-node t d in
        record {
          act = refl;
          ready = ready;
          leaves = e
              ∙ ap (λ (z : Plan). done_by z.via (with_node t (message_at p q).dest z.node) (laid (mailed z (others p q)))) s
              ∙ ap₂ (λ (u : Table) (zs : List Message). done_by y.via u (laid zs)) same mail;
        }

  -- delivered
  ends : (x : Plan) → stepped t p (Deliver q) ≡ leaves_of t p (Deliver q) x → Holds t k d x → Ends t p q k d (Deliver q)
  ends x e w =
      record { took = took (Deliver q) x e w.ready (quiet_plan (node_at t d)) _ w.plan refl (mailed-quiet (node_at t d) (others p q)); covered = w.covers }

  -- forwarded
  module _ (x : Plan) (e : stepped t p (Forward q) ≡ leaves_of t p (Forward q) x) (w : Passes t k d c x) where
    sent : (via : Via) (m : Message) (h : ℕ) (ys : List Message) → x ≡ send_by via (node_at t d) m h → added (others p q) (placed m h) ≡ ys
        → Took t p d (Forward q) (Forward q) via ys
    sent via m h ys s f =
        took (Forward q) x e w.ready (send_by via (node_at t d) m h) ys s refl (mailed-send via (node_at t d) m h (others p q) ∙ f)

    module _ (h : ℕ) (o : hop_at t d k ≡ To h) (s : x ≡ send_by (via_at t d h) (node_at t d) (lookup_after (c + 1) k) h) where
      there : (ys : List Message) (r b : ℕ) → Took t p d (Forward q) (Forward q) (via_at t d h) ys → Stands ys r (placed (lookup_after b k) h)
          → LookupAt (stepped t p (Forward q)).pool r k h × (hops_at (stepped t p (Forward q)).pool r ≡ b)
      there ys r b w i = rw w.leaves (stands-laid i, ap (λ (m : Message). m.hops) (stands-is i))

      lands : (f : Found) → first_equal (others p q) (placed (lookup k) h) ≡ f
          → Tracked t p q k d (Forward q) (landing f h (length (others p q)))
      lands (Some r) f =
          let f' = first_any (c + 1) 0 k h (others p q) ∙ f in
          let b = sent (via_at t d h) (lookup_after (c + 1) k) h (others p q) s (added-at (others p q) (placed (lookup_after (c + 1) k) h) r f') in
          record {
            took = b;
            uncovered = w.uncovered;
            hop = o;
            equal = (there (others p q) r _ b (first-lookup (others p q) 0 k h r f)).0;
          }
      lands None f =
          let f' = first_any (c + 1) 0 k h (others p q) ∙ f in
          let b = sent (via_at t d h) (lookup_after (c + 1) k) h _ s (added-nothing (others p q) (placed (lookup_after (c + 1) k) h) f') in
          let last = there _ (length (others p q)) (c + 1) b (stands-last (others p q) (placed (lookup_after (c + 1) k) h)) in
          record { took = b; uncovered = w.uncovered; hop = o; now = last.0; hops = last.1 }

    -- NoLegalRoute is added, or one waits already
    tells : (f : Found) → first_equal (others p q) (placed (no_legal_route k) d) ≡ f
        → (r : ℕ) × Stands (added (others p q) (placed (no_legal_route k) d)) r (placed (no_legal_route k) d)
    tells (Some r) f =
        rw (added-at (others p q) (placed (no_legal_route k) d) r f)
        (r, first-other (ring_of t) (ids_of t) (others p q) (placed (no_legal_route k) d) r others-within (λ e. omega arith) refl f)
    tells None f =
        rw (added-nothing (others p q) (placed (no_legal_route k) d) f)
        (length (others p q), stands-last (others p q) (placed (no_legal_route k) d))

    passed : Sends t k d c x → Tracked t p q k d (Forward q) (onward (hop_at t d k) (others p q) k)
    passed (to h o s) = rw o (lands h o s (first_equal (others p q) (placed (lookup k) h)) refl)
    passed (nowhere o s) =
        let ys = added (others p q) (placed (no_legal_route k) d) in
        let b = sent Unrouted (no_legal_route k) d ys s refl in
        let last = tells (first_equal (others p q) (placed (no_legal_route k) d)) refl in
        rw o
        (record {
          took = b;
          uncovered = w.uncovered;
          no-hop = o;
          told = rw b.leaves (last.0, last.1.below, laid-at ys last.0 last.1.below ∙ last.1.same);
        })

-- ---- every step

none : {place : ℕ} → all_stay ≡ one-goes place → ⊥
none e = let z : ◌≡◌ {A = ℕ} 0 1 = cc in omega arith

no-probes : {i j place : ℕ} → probes-go i j ≡ one-goes place → ⊥
no-probes e = let z : ◌≡◌ {A = ℕ} 0 1 = cc in omega arith

module _ (t : Table) (p : Pool) (q k d : ℕ) (v : Sound t p) (l : LookupAt p q k d) where
  waits-on : (a : Action) (x : Plan) (r : ℕ) → stepped t p a ≡ leaves_of t p a x
      → Stands (remaining p (asked t p a).gone) r (placed (lookup_after (hops_at p q) k) d) → Stays t p q k d a r
  waits-on a x r e s =
      let there = stands-mailed x s in
      let is = ap (λ (u : Stepped). message_at u.pool r) e ∙ stands-is there in
      record { now = looks (rw e there.below) is; same = is ∙ sym l.is }

  -- it goes itself: by Deliver or Forward, as Take has no plan for it
  this-goes : (a : Action) (x : Plan) → DoneWith t p 256 a x → stepped t p a ≡ leaves_of t p a x → (asked t p a).gone ≡ one-goes q
      → Tracked t p q k d a (fate_taken t p q (message_at p q))
  this-goes (Deliver place) x w e g =
      let same : place ≡ q = cc in
      subst (λ (n : ℕ). DoneWith t p 256 (Deliver n) x → stepped t p (Deliver n) ≡ leaves_of t p (Deliver n) x
      → Tracked t p q k d (Deliver n) (fate_taken t p q (message_at p q))) (sym same)
      (λ w e.
      let does = delivers t k d x (sym (deliver-is t p q k d v l) ∙ w.plan) in
      rw (l.is, does.covers) (ends t p q k d v l x e does)) w e
  this-goes (Forward place) x w e g =
      let same : place ≡ q = cc in
      subst (λ (n : ℕ). DoneWith t p 256 (Forward n) x → stepped t p (Forward n) ≡ leaves_of t p (Forward n) x
      → Tracked t p q k d (Forward n) (fate_taken t p q (message_at p q))) (sym same)
      (λ w e.
      let does = forwards t k d (hops_at p q) x (sym (forward-is t p q k d v l) ∙ w.plan) in
      rw (l.is, does.uncovered) (passed t p q k d v l x e does does.sends)) w e
  this-goes (Take place) x w e g =
      let same : place ≡ q = cc in
      absurd (never-go (sym (take-is t p q k d v l) ∙ rw same at w.plan))
  this-goes (Lookup i j) x w e g = absurd (none g)
  this-goes (Join i j) x w e g = absurd (none g)
  this-goes (RequestLease i) x w e g = absurd (none g)
  this-goes (LeaseExpired i j) x w e g = absurd (none g)
  this-goes (GrantExpired i j) x w e g = absurd (none g)
  this-goes (NodeLeft i) x w e g = absurd (none g)
  this-goes (SuspectFaulty i j) x w e g = absurd (none g)
  this-goes (ProbeTimeOut i j) x w e g = absurd (no-probes g)
  this-goes (DeclareDead i j) x w e g = absurd (none g)
  this-goes (LSRepair i) x w e g = absurd (none g)
  this-goes (ResignNode i n) x w e g = absurd (none g)
  this-goes (Recover i) x w e g = absurd (none g)

  -- another goes, which closes the gap
  other_goes : (a : Action) (place : ℕ) (x : Plan) → (place ≡ q → ⊥) → DoneWith t p 256 a x → stepped t p a ≡ leaves_of t p a x
      → (asked t p a).gone ≡ one-goes place → (b : Bool) → ltb place q ≡ b → Stays t p q k d a (cond b (pred q) q)
  other_goes a place x apart w e g true b =
      waits-on a x (pred q) e (rw g (stands-down place (ltb-true place q b) (stands-waiting v l)))
  other_goes a place x apart w e g false b =
      let low = ltb-true place p.count (rw (goes t p place a g).0 at w.in-range) in
      waits-on a x q e (rw g (stands-still place (omega (arith, count-is v, low)) (omega (arith, ltb-false place q b)) (stands-waiting v l)))

  done-tracked : (a : Action) (x : Plan) → DoneWith t p 256 a x → stepped t p a ≡ leaves_of t p a x
      → Tracked t p q k d a (fate_done t p q (asked t p a).gone)
  done-tracked a x w e = by-gone (asked t p a).gone refl
    where
      by-gone : (f : Gone) → (asked t p a).gone ≡ f → Tracked t p q k d a (fate_done t p q f)
      by-gone all_stay g = waits-on a x q e (rw g (stands-waiting v l))
      by-gone (probes-go i j) g =
          waits-on a x (q - probes_before p i j q) e (rw g (stands-probes i j p refl l.waits (stands-waiting v l)))
      by-gone (one-goes place) g = go (eqb place q) refl
        where
          go : (b : Bool) → eqb place q ≡ b
              → Tracked t p q k d a (cond b (fate_taken t p q (message_at p q)) (stays (cond (ltb place q) (pred q) q)))
          go true b = this-goes a x w e (g ∙ ap one-goes (eqb-true place q b))
          go false b = other_goes a place x (eqb-false place q b) w e g (ltb place q) refl

  by_answer : (a : Action) (r : Answer) → (stepped t p a).answer ≡ r → Tracked t p q k d a (fate_by r t p q a)
  by_answer a (Ok tt) e = let done = step-done t p 256 a e in done-tracked a done.0 done.1 done.2
  by_answer a (Err why) e =
      let same = (step-refused t p 256 a why e).1 in
      record { now = rw same l; same = rw same refl }

pub tracked : (t : Table) (p : Pool) (q k d : ℕ) (a : Action) → valid_of t p ≡ true → LookupAt p q k d → Tracked t p q k d a (fate_of t p q a)
unfolding fate_of
tracked t p q k d a e l = by_answer t p q k d (sound t p e) l a (stepped t p a).answer refl
