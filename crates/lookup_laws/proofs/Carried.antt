-- The hop number of a Lookup is the number of its routings since issue, where it met no equal (T-07). A lookup that stays is the same message, and one that is routed has one hop
-- more (Tracks), so the number grows as `routings` counts. A Lookup is issued only where none equal waits, so it stands at the end, with 0. Assumes nothing.
use Rattle.marks.specs.Marks.{Found}
use Rattle.std.specs.Prelude.{Some, None}
use mathlib.Core.Path.{◌≡◌, refl, ◌∙◌, ap, subst}
use mathlib.Core.List.{[], ◌∷◌, ◌++◌}
use Prim.Native.Nat.{ℕ, ◌+◌}
use native.Mathlib.Omega.{arith}
use Rattle.rules.specs.declared.Message.{Message}
use Rattle.rules.specs.declared.Pool.{Pool}
use Rattle.rules.specs.declared.Plan.{Plan}
use Rattle.rules.specs.declared.Action.TheVariants.{Lookup}
use Rattle.rules.specs.declared.Via.TheVariants.{Unrouted}
use Rattle.rules.specs.Mail.{waits, first_equal}
use Rattle.plan.specs.Actions.{plan_lookup}
use Rattle.rules.specs.Letters.{lookup}
use Rattle.rules.specs.Nodes.{placed}
use Rattle.rules.specs.Plans.{send_plan, mailed}
use Rattle.rules.specs.Pool.{waiting, laid, message_at}
use Rattle.pool_laws.proofs.Laws.{mailed-send, added-nothing}
use Rattle.table_type.specs.declared.Stepped.{Stepped}
use Rattle.table_type.specs.declared.Table.{Table}
use Rattle.table_type.specs.Table.{node_at, ids_of, ring_of}
use Rattle.table_laws.proofs.Sound.{sound}
use Rattle.table_laws.proofs.By.{go_same, never-go, DoneWith, step-done}
use Rattle.table_laws.proofs.Hops.{within-lookup}
use Rattle.rules_laws.proofs.Capped.{farther-low}
use Rattle.table_laws.proofs.Proved.{keeps-valid}
use Rattle.lookup_laws.specs.Journey.{stepped, hops_at, LookupAt, Fate, stays, routed, met, delivered, unroutable, fate_of, counted, routings}
use Rattle.lookup_laws.specs.Fates.{Tracked}
use Rattle.lookup_laws.specs.Pair.{pool_after}
use Rattle.lookup_laws.specs.Carried.{waiting_by, place_after, CountsRoutings, IssuedAtNone, SinceIssue, FewCarried}
use Rattle.lookup_laws.proofs.Stands.{stands-last, stands-is, looks, count-is}
use Rattle.lookup_laws.proofs.Tracks.{tracked, dest-in}
use Rattle.lookup_laws.proofs.Routings.{step-valid}

hops-of : {m x : Message} → m ≡ x → m.hops ≡ x.hops
hops-of e = ap (λ (m : Message). m.hops) e

-- ---- along any actions

found-same : {q r : ℕ} → Some q ≡ Some r → q ≡ r
found-same e = cc

not_found : {r : ℕ} → None ≡ Some r → ⊥
not_found e = let z : ◌≡◌ {A = ℕ} 0 1 = cc in omega arith

pub counts-routings : CountsRoutings
unfolding place_after pool_after routings
counts-routings t p q k d [] r e l a = let same : q ≡ r = found-same a in rw (← same) (omega arith)
counts-routings t p q k d (a ∷ acts) r e l f =
    go (fate_of t p q a) (tracked t p q k d a e l)
    (λ j h w. counts-routings u s j k h acts r (step-valid t p a e) w) f
  where
    u : Table
    u = (stepped t p a).table

    s : Pool
    s = (stepped t p a).pool

    go : (x : Fate) → Tracked t p q k d a x
        → ((j h : ℕ) → LookupAt s j k h → place_after u s acts j ≡ Some r → hops_at (pool_after u s acts) r ≡ hops_at s j + routings u s acts j)
        → waiting_by x (place_after u s acts) ≡ Some r → hops_at (pool_after u s acts) r ≡ hops_at p q + counted x (routings u s acts)
    go (stays j) w rest f = omega (arith, rest j d w.now f, hops-of w.same)
    go (routed h j) w rest f = omega (arith, rest j h w.now f, w.hops)
    go (met h j) w rest f = absurd (not_found f)
    go delivered w rest f = absurd (not_found f)
    go unroutable w rest f = absurd (not_found f)

-- ---- since issue

module _ (t : Table) (p : Pool) (i k : ℕ) (x : Plan) (w : DoneWith t p 256 (Lookup i k) x) where
  abbrev issued : Message
  issued = placed (lookup k) i

  goes_last : (f : Found) → first_equal (waiting p) issued ≡ f → mailed x (waiting p) ≡ waiting p ++ (issued ∷ [])
  unfolding plan_lookup waits
  goes_last (Some r) f = absurd (never-go (rw f at w.plan))
  goes_last None f =
      let same : x ≡ send_plan (node_at t i) (lookup k) i = go_same (rw f at w.plan) in
      rw same (mailed-send Unrouted (node_at t i) (lookup k) i (waiting p) ∙ added-nothing (waiting p) issued f)

pub issued-at-none : IssuedAtNone
issued-at-none t p i k e =
    let done = step-done t p 256 (Lookup i k) e in
    let last = goes_last t p i k done.0 done.1 (first_equal (waiting p) (placed (lookup k) i)) refl in
    let after : (stepped t p (Lookup i k)).pool ≡ laid (waiting p ++ (placed (lookup k) i ∷ [])) =
    ap (λ (s : Stepped). s.pool) done.2 ∙ ap laid last in
    let there = stands-last (waiting p) (placed (lookup k) i) in
    let s = (stepped t p (Lookup i k)).pool in
    subst (λ (q : ℕ). LookupAt s q k i × (hops_at s q ≡ 0)) (count-is done.1.sound)
    (rw after (looks there.below (stands-is there), hops-of (stands-is there)))

pub since-issue : SinceIssue
since-issue t p i k acts r e f =
    let u = (stepped t p (Lookup i k)).table in
    let s = (stepped t p (Lookup i k)).pool in
    let new = issued-at-none t p i k e in
    omega (arith, counts-routings u s p.count k i acts r (keeps-valid t p 256 (Lookup i k) e) new.0 f, new.1)

pub few-carried : FewCarried
few-carried t p q k d e l =
    let v = sound t p e in
    let m = message_at p q in
    let g = ring_of t in
    let one : m.kind ≡ 1 = ap (λ (x : Message). x.kind) l.is in
    let to : m.dest ≡ d = ap (λ (x : Message). x.dest) l.is in
    omega (
      arith,
      within-lookup g (ids_of t) m (v.hops q l.waits) one,
      farther-low g (ids_of t) m.word m.dest (rw (← to) at (dest-in t p q k d v l)),
    )
