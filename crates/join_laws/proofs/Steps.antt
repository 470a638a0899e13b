-- Every step keeps the clauses, and so does every list of actions in which nodes join in turn; where they hold, T-08's condition does,
-- and there is one holder. Assumes nothing.
use Rattle.rules.specs.Shapes.{Answer}
use Rattle.std.specs.Prelude.{Ok, Err}
use mathlib.Core.Path.{◌≡◌, refl, sym, ◌∙◌, ap, ap₂, subst, fun_ext}
use mathlib.Core.Logic.{◌⊎◌, inl, inr, ⊎_elim}
use mathlib.Core.Bool.{true, not}
use mathlib.Core.List.{List, [], ◌∷◌}
use Prim.Native.Nat.{ℕ, ◌<◌, ◌≤◌}
use native.Mathlib.Omega.{arith}
use lib.Dec.{eqb}
use lib.ListN.{length, get_or-eq_default}
use lib.Seq.{get_or-set_same, get_or-set_other}
use borrow.Author.Tests.{eqb-false, not-true}
use Rattle.marks.proofs.Bools.{clash, lt-or-le, eq-or-ne}
use Rattle.marks.specs.Marks.{has, remove_of, size_of}
use Rattle.marks.proofs.Laws.{has-remove, member, remove-below, size-remove, size-zero}
use Rattle.rules.specs.declared.Node.{Node}
use Rattle.rules.specs.declared.Message.{Message}
use Rattle.rules.specs.declared.Pool.{Pool}
use Rattle.rules.specs.declared.Plan.{Plan}
use Rattle.rules.specs.declared.Action.{Action}
use Rattle.rules.specs.declared.Action.TheVariants.{Join}
use Rattle.rules.specs.Nodes.{no_node}
use Rattle.rules.specs.Pick.{id_at}
use Rattle.rules.specs.Plans.{is_dead, mailed}
use Rattle.rules.specs.Pool.{waiting, message_at}
use Rattle.pool_laws.proofs.Probes.{all_left}
use Rattle.pool_laws.proofs.Laws.{All, all_map, all-at, all-index, all-removed, all-mailed, waiting-at, waiting-short, laid-at}
use Rattle.rules_laws.proofs.Steps.{ids-rise}
use Rattle.table_type.specs.declared.Table.{Table}
use Rattle.table_type.proofs.IdLaws.{ids_at}
use Rattle.table.specs.Settled.{ready_set}
use Rattle.step.specs.Step.{Gone, all_stay, one-goes, probes-go, asked, remaining, step_of}
use Rattle.table_type.specs.Table.{node_at, with_node, ids_of, ring_of}
use Rattle.table.specs.Valid.{valid_of}
use Rattle.table_laws.proofs.Nodes.{both}
use Rattle.table_laws.proofs.Sound.{Sound, sound}
use Rattle.table_laws.proofs.By.{DoneWith, leaves_of, step-refused, step-done}
use Rattle.table_laws.proofs.Proved.{done-fine, written-ids, keeps-valid}
use Rattle.lookup_laws.specs.Claims.{Ready}
use Rattle.lookup_laws.proofs.Holder.{ready-listed}
use Rattle.lookup_laws.specs.Joining.{AsClose, NotItsOwn, Flanked}
use Rattle.lookup_laws.proofs.Proved.{one-holder, holder-nearest}
use Rattle.lookup_laws.proofs.Tracks.{ready-is, same-node}
use Rattle.join_laws.proofs.Acts.{fitting, planned-good}
use Rattle.join_laws.specs.Clauses.{View, view_of, Alive, Calm, Fair, Clauses}
use Rattle.join_laws.proofs.Guarding.{guards-flank}
use Rattle.join_laws.specs.Claims.{NoneWaits, Barred, InTurn, Patient, Throughout, IsUp, Held, ClausesHeld, ClausesStay}
use Rattle.join_laws.proofs.Lasting.{ready_up}
use Rattle.join_laws.proofs.Written.{seen, put, put_at, put_written}

-- ---- the view of a table after one node is written

module _ {t : Table} {p : Pool} (s : Sound t p) where
  -- where some node is not dead every listed slot stands in the list: past its end the ids are 0, and ids rise
  stands-in : (e : ℕ) → Alive (view_of t) e → (i : ℕ) → i < t.n → i < length t.nodes
  stands-in e a i h = ⊎_elim (λ l. l) (λ l. absurd (past l (lt-or-le e (length t.nodes)))) (lt-or-le i (length t.nodes))
    where
      past : length t.nodes ≤ i → (e < length t.nodes) ⊎ (length t.nodes ≤ e) → ⊥
      past l (inr k) = clash (ap (λ (v : Node). is_dead v.status) (sym (get_or-eq_default t.nodes no_node k)) ∙ a.1)
      past l (inl k) =
          let zero : id_at (ids_of t) i ≡ 0 = ids_at t.nodes i ∙ ap (λ (v : Node). v.id) (get_or-eq_default t.nodes no_node l) in
          omega (arith, ids-rise s.listed e i (omega arith) h)

  view-written : (i : ℕ) (w : Node) → i < t.n → w.id ≡ (node_at t i).id → (w ≡ node_at t i) ⊎ ((e : ℕ) × Alive (view_of t) e)
      → view_of (with_node t i w) ≡ put (view_of t) i w
  view-written i w h same stands =
      ap₂ (seen (ring_of t)) (written-ids t i w same) (fun_ext (λ q. at q (eq-or-ne q i)))
    where
      here : (w ≡ node_at t i) ⊎ ((e : ℕ) × Alive (view_of t) e) → node_at (with_node t i w) i ≡ w
      here (inl e) = ap (λ (v : Node). node_at (with_node t i v) i) e ∙ ap (λ (u : Table). node_at u i) (same-node t i) ∙ sym e
      here (inr (e, a)) = get_or-set_same t.nodes i w no_node (stands-in e a i h)

      at : (q : ℕ) → (q ≡ i) ⊎ (q ≡ i → ⊥) → node_at (with_node t i w) q ≡ put_at (node_at t) i w q
      at q (inl e) =
          ap (node_at (with_node t i w)) e ∙ here stands ∙ sym (put_written (node_at t) i w).here ∙ ap (put_at (node_at t) i w) (sym e)
      at q (inr d) = get_or-set_other t.nodes i q w no_node d ∙ sym ((put_written (node_at t) i w).other q d)

-- ---- the messages that wait

left-all : {P : Message → Type 0} (p : Pool) (gone : Gone) → All P (waiting p) → All P (remaining p gone)
left-all p all_stay h = h
left-all p (one-goes place) h = all-removed place h
left-all p (probes-go i j) h = all_left i j h

-- ---- a step

module _ {t : Table} {p : Pool} (c : Clauses t p) (a : Action) where
  done-clauses : (x : Plan) → DoneWith t p 256 a x → (Barred a → ⊥) → ((i seed : ℕ) → a ≡ Join i seed → NoneWaits t)
      → Clauses (leaves_of t p a x).table (leaves_of t p a x).pool
  done-clauses x d stay none =
      let good = planned-good d.sound c a d.in-range stay none x d.plan in
      let i = (asked t p a).slot in
      let u = with_node t i x.node in
      let seen-so : view_of u ≡ put (view_of t) i x.node =
      view-written d.sound i x.node d.slot-in (done-fine d).same_id good.stands in
      let before : All (Fair (view_of t)) (waiting p) =
      all-index (waiting p) (λ q l. let k : q < p.count = omega (arith, waiting-short p) in rw (waiting-at p q k) (c.mail q k)) in
      let after : All (Fair (put (view_of t) i x.node)) (mailed x (remaining p (asked t p a).gone)) =
      all-mailed good.sends (all_map good.stays (left-all p (asked t p a).gone before)) in
      record {
        nodes = subst Calm (sym seen-so) good.calm;
        mail = λ q l.
            subst (λ (v : View). Fair v (message_at (leaves_of t p a x).pool q)) (sym seen-so)
            (rw (laid-at (mailed x (remaining p (asked t p a).gone)) q l) (all-at after q l));
      }

  pub step-clauses : InTurn t p a → Clauses (step_of t p 256 a).table (step_of t p 256 a).pool
  step-clauses turn = go (step_of t p 256 a).answer refl
    where
      go : (r : Answer) → (step_of t p 256 a).answer ≡ r → Clauses (step_of t p 256 a).table (step_of t p 256 a).pool
      go (Ok tt) e =
          let (x, d, same) = step-done t p 256 a e in
          rw same (done-clauses x d (turn.0 e) (λ i seed q. turn.1 i seed q e))
      go (Err why) e = rw (step-refused t p 256 a why e).1 c

step-valid : (t : Table) (p : Pool) (a : Action) → valid_of t p ≡ true → valid_of (step_of t p 256 a).table (step_of t p 256 a).pool ≡ true
step-valid t p a v = go (step_of t p 256 a).answer refl
  where
    go : (r : Answer) → (step_of t p 256 a).answer ≡ r → valid_of (step_of t p 256 a).table (step_of t p 256 a).pool ≡ true
    go (Ok tt) e = keeps-valid t p 256 a e
    go (Err why) e = rw (step-refused t p 256 a why e).1 v

-- ---- what the clauses give

module _ {t : Table} {p : Pool} (s : Sound t p) (c : Clauses t p) where
  up-flanked : (i j : ℕ) → IsUp t i → IsUp t j → (i ≡ j → ⊥) → AsClose t i j × NotItsOwn t i
  up-flanked i j u v d =
      let f = fitting s in
      let k = guards-flank f.listed u.0 (f.rules i u.0).leaf (c.nodes.members i j (inl u) v (λ e. d (sym e))) in
      (record { left = k.left; right = k.right }, record { left = k.left_other; right = k.right-other })

  ready-is-up : (i : ℕ) → Ready t i → IsUp t i
  ready-is-up i r = (r.0, ready_up (node_at t i).status (sym (ready-is t i r.0) ∙ r.1))

  -- where two are ready, another one than i is
  other-ready : (i : ℕ) → Ready t i → 2 ≤ size_of (ready_set t) → (j : ℕ) × Ready t j × (i ≡ j → ⊥)
  other-ready i r two = go (member (remove_of (ready_set t) i) (remove-below (ready_set t) i) (omega (arith, some)))
    where
      some : remove_of (ready_set t) i ≡ 0 → ⊥
      some e =
          let low : i < 64 = omega (arith, s.numbers.n-high) in
          omega (arith, size-remove (ready_set t) i low r.1, ap size_of e ∙ size-zero)

      go : (j : ℕ) × (j < 64) × (has (remove_of (ready_set t) i) j ≡ true) → (j : ℕ) × Ready t j × (i ≡ j → ⊥)
      go (j, l, m) =
          let b = both (has (ready_set t) j) (not (eqb j i)) (sym (has-remove (ready_set t) i j l) ∙ m) in
          (j, (ready-listed t j l b.0, b.0), λ e. eqb-false j i (not-true (eqb j i) b.1) (sym e))

  flanked : Flanked t
  flanked =
      record {
        close = λ i j r u d. (up-flanked i j (ready-is-up i r) (ready-is-up j u) d).0;
        own = λ two i r.
            let (j, u, d) = other-ready i r two in
            (up-flanked i j (ready-is-up i r) (ready-is-up j u) d).1;
      }

pub held : (t : Table) (p : Pool) → valid_of t p ≡ true → Clauses t p → Held t p
held t p v c =
    let s = sound t p v in
    record {
      valid = v;
      up = up-flanked s c;
      flanked = flanked s c;
      one = λ k i j. one-holder t p k i j v (flanked s c);
      nearest = λ k i j. holder-nearest t p k i j v (flanked s c);
    }

-- ---- a list of actions

-- what the clauses give in every valid table holds throughout
pub throughout : (C : Table → Pool → Type 0) → ((t : Table) (p : Pool) → valid_of t p ≡ true → Clauses t p → C t p)
    → (t : Table) (p : Pool) (acts : List Action) → valid_of t p ≡ true → Clauses t p → Patient t p acts → Throughout C t p acts
throughout C f t p [] v c n = f t p v c
throughout C f t p (a ∷ acts) v c (turn, rest) =
    (f t p v c, throughout C f (step_of t p 256 a).table (step_of t p 256 a).pool acts (step-valid t p a v) (step-clauses c a turn) rest)

pub clauses-held : ClausesHeld
clauses-held = throughout Held held

pub clauses-stay : ClausesStay
clauses-stay = throughout Clauses (λ t p v c. c)
