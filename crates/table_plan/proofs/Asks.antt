-- What `asked` says, by the way in which an action asks: of a slot, with or without 3, of a place, or of probes that have timed out. The message of a
-- Lookup or a Join is new: where it is not repeated, no equal waits. Assumes nothing.
use Rattle.rules.specs.Shapes.{Planned}
use Rattle.std.specs.Prelude.{Result, Ok, Err}
use mathlib.Core.Path.{◌≡◌, refl, sym, ◌∙◌, ap}
use mathlib.Core.Bool.{Bool, true, false, cond, not, ◌&&◌}
use mathlib.Core.List.{List}
use Prim.Native.Nat.{ℕ, ◌≤◌}
use native.Mathlib.Omega.{arith}
use lib.Dec.{ltb}
use borrow.Author.Tests.{ltb-true}
use Rattle.std.proofs.Common.{Option, Some, None}
use Rattle.marks.proofs.Bools.{clash, and_left}
use Rattle.rules.specs.declared.Action.{Action}
use Rattle.rules.specs.declared.Action.TheVariants.{Lookup, Join, ProbeTimeOut}
use Rattle.rules.specs.declared.Message.{Message}
use Rattle.rules.specs.declared.Node.{Node}
use Rattle.rules.specs.declared.Plan.{Plan}
use Rattle.rules.specs.declared.Pool.{Pool}
use Rattle.rules.specs.declared.Refusal.TheVariants as no
use Rattle.rules.specs.declared.Status.TheVariants as status
use Rattle.rules.specs.Mail.{waits, join_waits, removed_at}
use Rattle.plan.specs.Actions.{plan_lookup, plan_join}
use Rattle.rules.specs.Leaf.{is_empty}
use Rattle.plan.specs.Leave.{plan_probe_time_out}
use Rattle.rules.specs.Letters.{lookup, join_request}
use Rattle.rules.specs.Nodes.{placed, sides_of}
use Rattle.rules.specs.Plans.{is_dead, is_ready, with_status, send_plan, mailed}
use Rattle.rules.specs.Pool.{waiting}
use Rattle.pool_laws.specs.InnerSending.{left_of, news_of, first_new}
use Rattle.pool_laws.proofs.Equal.{no-join-waits}
use Rattle.pool_laws.proofs.Fresh.{news-one}
use Rattle.pool_laws.proofs.Laws.{removed-none, waiting-short, mailed-quiet}
use Rattle.table_type.specs.declared.Table.{Table}
use Rattle.table_type.specs.Table.{node_at}
use Rattle.step.specs.Step.{requests, acts, takes, asked, planned_of, probes-go}
use Rattle.table_laws.proofs.By.{go_same, never-go}
use Rattle.table_laws.proofs.Comes.{go-comes, by-probe-time-out}
use Rattle.table_plan.specs.declared.Asking.{Asking}
use Rattle.table_plan.specs.declared.Beyond.{Beyond}
use Rattle.table_plan.specs.InnerAsked.{Asks, Told, in_range, requests_of, acts_of, times_of, takes_of}

pub nothing-gone : (p : Pool) → p.count ≤ 256 → removed_at (waiting p) 256 ≡ waiting p
nothing-gone p h = removed-none (waiting p) 256 (omega (arith, waiting-short p))

-- ---- a request's message is new

module _ (t : Table) (p : Pool) (x : Plan) (h : p.count ≤ 256) where
  none_left : (y : Message) → waits (waiting p) y ≡ false → waits (left_of p 256) y ≡ false
  none_left y w = ap (λ (ys : List Message). waits ys y) (nothing-gone p h) ∙ w

  lookup-new : (i k : ℕ) (v : Node) (b : Bool) → waits (waiting p) (placed (lookup k) i) ≡ b → plan_lookup b i k v ≡ Ok x
      → first_new x ≡ news_of x (left_of p 256)
  unfolding plan_lookup
  lookup-new i k v true w e = absurd (never-go e)
  lookup-new i k v false w e = rw (go_same e) (news-one (send_plan v (lookup k) i) (left_of p 256) i refl refl (none_left _ w))

  join-new : (i seed : ℕ) (v : Node) (dead there full : Bool) → join_waits (waiting p) i ≡ there
      → cond dead (Err no.Status) (cond there (Err no.Waits) (cond full (Err no.LeafSet) (Ok (send_plan v (join_request i 0) seed)))) ≡ Ok x
      → first_new x ≡ news_of x (left_of p 256)
  join-new i seed v true b c w e = absurd (never-go e)
  join-new i seed v false true c w e = absurd (never-go e)
  join-new i seed v false false true w e = absurd (never-go e)
  join-new i seed v false false false w e =
      rw (go_same e)
      (news-one (send_plan v (join_request i 0) seed) (left_of p 256) seed refl refl
      (none_left _ (no-join-waits (waiting p) (placed (join_request i 0) seed) i refl refl w)))

  pub lookup-fresh : (i k : ℕ) → planned_of (asked t p (Lookup i k)) ≡ Ok x → first_new x ≡ news_of x (left_of p 256)
  lookup-fresh i k e = lookup-new i k (node_at t i) (asked t p (Lookup i k)).repeated refl e

  pub join-fresh : (i seed : ℕ) → planned_of (asked t p (Join i seed)) ≡ Ok x → first_new x ≡ news_of x (left_of p 256)
  unfolding plan_join
  join-fresh i seed e =
      let v = node_at t i in
      join-new i seed (with_status v status.Wait) (not (is_dead v.status && is_ready (node_at t seed).status)) (join_waits (waiting p) i)
      (not (is_empty (sides_of v))) refl e

-- ---- nothing is sent when probes have timed out

time-out-quiet : (t : Table) (i j : ℕ) (x : Plan) → plan_probe_time_out i (node_at t i) j ≡ Ok x → (ys : List Message) → mailed x ys ≡ ys
time-out-quiet t i j x e ys =
    go-comes (by-probe-time-out {Q = λ _. Unit {0}} {P = λ y. mailed y ys ≡ ys} i (node_at t i) j tt tt (λ _. mailed-quiet _ ys)) x e

-- ---- what is said

none-some : {j : ℕ} → ◌≡◌ {A = Option ℕ} None (Some j) → ⊥
none-some e = cc

same-some : {j k : ℕ} → ◌≡◌ {A = Option ℕ} (Some j) (Some k) → j ≡ k
same-some e = cc

same-ok : {x y : Asking} → ◌≡◌ {A = Result Asking Beyond} (Ok x) (Ok y) → x ≡ y
same-ok e = cc

same-err : {x y : Beyond} → ◌≡◌ {A = Result Asking Beyond} (Err x) (Err y) → x ≡ y
same-err e = cc

ok-err : {x : Asking} {y : Beyond} → ◌≡◌ {A = Result Asking Beyond} (Ok x) (Err y) → ⊥
ok-err e = cc

module _ (m n count : ℕ) (a : Action) where
  -- what is asked is told, in range or not
  told : (range : Bool) (x : Asking) → ((t : Table) (p : Pool) → t.m ≡ m → t.n ≡ n → p.count ≡ count → range ≡ (asked t p a).range)
      → Told n a range x → Asks m n count a (in_range range x)
  told true x k f = record { range = k; told = λ y e. rw (← same-ok e) f; refused = λ y e. absurd (ok-err e); beyond = λ y e. absurd (ok-err e) }
  told false x k f =
      record { range = k; told = λ y e. absurd (ok-err (sym e)); refused = λ y e. rw (← same-err e); beyond = λ y e. rw (← same-err e) f }

  pub requests-asks : (i : ℕ) (more : ℕ → ℕ → Bool) (fresh : Bool) (there : Pool → Bool) (plan : Table → Bool → Planned)
      → ((t : Table) (p : Pool) → asked t p a ≡ requests t i (more t.m t.n) (there p) (plan t))
      → (fresh ≡ true → (t : Table) (p : Pool) (x : Plan) → p.count ≤ 256 → planned_of (asked t p a) ≡ Ok x → first_new x ≡ news_of x (left_of p 256))
      → Asks m n count a (requests_of n i (more m n) fresh)
  requests-asks i more fresh there plan is new =
      told _ _ (λ t p e f g. rw (is t p, e, f))
      (record {
        gone = λ t p. rw (is t p);
        slot = λ t p e. rw (is t p);
        unasked = λ e. absurd (clash e);
        fresh = new;
        stays = λ e t p. rw (is t p);
        times = λ j e. absurd (none-some e);
        partner-low = λ l j e. absurd (none-some e);
        quiet = λ j e. absurd (none-some e);
      })

  pub acts-asks : (i : ℕ) (more : ℕ → ℕ → Bool) (what : Table → Planned)
      → ((t : Table) (p : Pool) → asked t p a ≡ acts t i (more t.m t.n) (what t))
      → Asks m n count a (acts_of n i (more m n))
  acts-asks i more what is =
      told _ _ (λ t p e f g. rw (is t p, e, f))
      (record {
        gone = λ t p. rw (is t p);
        slot = λ t p e. rw (is t p);
        unasked = λ e t p. rw (is t p);
        fresh = λ e. absurd (clash (sym e));
        stays = λ e t p. rw (is t p);
        times = λ j e. absurd (none-some e);
        partner-low = λ l j e. absurd (none-some e);
        quiet = λ j e. absurd (none-some e);
      })

  pub takes-asks : (place : ℕ) (plan : Table → Message → Planned) → ((t : Table) (p : Pool) → asked t p a ≡ takes p place (plan t))
      → Asks m n count a (takes_of count place)
  takes-asks place plan is =
      told _ _ (λ t p e f g. rw (is t p, g))
      (record {
        gone = λ t p. rw (is t p);
        slot = λ t p e. absurd (clash (rw (is t p) at e));
        unasked = λ e t p. rw (is t p);
        fresh = λ e. absurd (clash (sym e));
        stays = λ e t p. rw (is t p);
        times = λ j e. absurd (none-some e);
        partner-low = λ l j e. absurd (none-some e);
        quiet = λ j e. absurd (none-some e);
      })

pub times-asks : (m n count i j : ℕ) → Asks m n count (ProbeTimeOut i j) (times_of n i j)
times-asks m n count i j =
    told m n count (ProbeTimeOut i j) _ _ (λ t p e f g. rw f)
    (record {
      gone = λ t p. refl;
      slot = λ t p e. refl;
      unasked = λ e t p. refl;
      fresh = λ e. absurd (clash (sym e));
      stays = λ e. absurd (none-some (sym e));
      times = λ k e t p. ap (probes-go i) (same-some e);
      partner-low = λ l k e. rw (← same-some e) (ltb-true j n (and_left (ltb j n) _ l));
      quiet = λ k e t p x. time-out-quiet t i j x;
    })
