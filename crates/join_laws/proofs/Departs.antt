-- The departures and repairs that keep the clauses, one law for each. SuspectFaulty, LSRepair and Recover only probe: leaf set, failed and status stay, and
-- probing grows. DeclareDead is never done, since nobody is held for failed. ResignNode is done only at a node whose leaf set is empty: by 2 one that is wait and
-- not empty guards against the ready node that it asks, and lacks no side. Assumes nothing.
use Rattle.std.specs.Prelude.{Ok}
use mathlib.Core.Path.{◌≡◌, refl, ◌∙◌}
use mathlib.Core.Logic.{inl, inr, ⊎_elim}
use mathlib.Core.Bool.{Bool, true}
use Prim.Native.Nat.{ℕ, ◌<◌}
use native.Mathlib.Omega.{arith}
use borrow.Author.Tests.{eqb-true}
use Rattle.marks.proofs.Bools.{opposed, or_left, or_cases, bool-true}
use Rattle.marks.specs.Marks.{has, union, single}
use Rattle.marks.proofs.Laws.{has-union, empty-has, size_none}
use Rattle.rules.specs.declared.Node.{Node}
use Rattle.rules.specs.declared.Plan.{Plan}
use Rattle.rules.specs.Leaf.{is_empty}
use Rattle.plan.specs.Leave.{emptied, probing_plan, is_bare, lacks_side, plan_suspect_faulty, plan_declare_dead, plan_ls_repair, plan_resign_node, plan_recover}
use Rattle.rules.specs.Letters.{no_sides, join_request}
use Rattle.rules.specs.Nodes.{sides_of, placed}
use Rattle.rules.specs.Plans.{with_probing, send_plan}
use Rattle.rules.specs.Pool.{blank}
use Rattle.table_laws.proofs.Plans.{none-to}
use Rattle.join_laws.specs.Clauses.{View, Up, Waits, Alive, GuardsAt, Calm, Fair}
use Rattle.join_laws.proofs.Good.{Fitting, Good, sends-one, probe-fair, quiet_put, put-calm, put-stays}
use Rattle.join_laws.proofs.Guarding.{guards-filled}
use Rattle.join_laws.proofs.Lasting.{ready_up}
use Rattle.join_laws.proofs.Moves.{Quiet, Here}
use Rattle.join_laws.proofs.Written.{put, up-alive, wait-alive, up-no-wait, empty-none}
use Rattle.join_laws.proofs.Told.{told-suspect-faulty, told-declare-dead, told-repair, told-resign, told-recover}

none-empty : is_empty no_sides ≡ true
unfolding is_empty
none-empty = refl

module _ (t : View) (i : ℕ) (c : Calm t) (f : Fitting t) (h : i < t.ring.n) where
  -- ---- SuspectFaulty, LSRepair and Recover: the nodes of a set are probed

  module _ (set : ℕ) where
    abbrev probes : Node
    probes = with_probing (t.at i) (union (t.at i).probing set)

    probes-quiet : Quiet t.ring t.ids i (t.at i) probes
    probes-quiet = record { dead = refl; wait = refl; up = refl; guards = λ y p. p; filled = λ e. e }

    probes-here : Here t i probes
    probes-here =
        record {
          known = λ y a b. c.known i y a b;
          members = λ b full. absurd (opposed b.1 full);
          trusting = c.trusting i h;
          joiner = λ w full e u.
              let low : e < 64 = omega (arith, u.0, f.listed.n-high) in
              ⊎_elim (λ p. inl (has-union (t.at i).probing set e low ∙ or_left (has set e) p)) inr (c.joiner i e w full u);
        }

    probing-good : Alive t i → Good t i (probing_plan i (t.at i) set)
    probing-good a =
        record {
          calm = put-calm t i probes probes-quiet c probes-here;
          stays = put-stays t i probes probes-quiet;
          sends = record {
            one = λ s. none-to (Fair (put t i probes)) blank s;
            rest = λ s l e. probe-fair (sides_of (t.at i)) (t.at i).failed ((quiet_put t i probes probes-quiet).alive i a) s;
          };
          stands = inr (i, a);
        }

  pub suspect-faulty-good : (j : ℕ) (x : Plan) → plan_suspect_faulty i (t.at i) j ≡ Ok x → Good t i x
  suspect-faulty-good j x e =
      let (up, same) = told-suspect-faulty i (t.at i) j x e in
      rw same (probing-good _ (h, up-alive (t.at i).status up))

  pub repair-good : (x : Plan) → plan_ls_repair t.ring t.ids i (t.at i) ≡ Ok x → Good t i x
  repair-good x e =
      let (wait, same) = told-repair t.ring t.ids i (t.at i) x e in
      rw same (probing-good _ (h, wait-alive (t.at i).status wait))

  pub recover-good : (some_up : Bool) (x : Plan) → plan_recover some_up t.ring t.ids i (t.at i) ≡ Ok x → Good t i x
  recover-good some_up x e =
      let (wait, same) = told-recover some_up t.ring t.ids i (t.at i) x e in
      rw same (probing-good _ (h, wait-alive (t.at i).status wait))

  -- ---- DeclareDead: failed is empty

  pub declare-dead-good : (j : ℕ) (x : Plan) → plan_declare_dead t.ring t.ids i (t.at i) j ≡ Ok x → Good t i x
  declare-dead-good j x e =
      absurd (opposed (told-declare-dead t.ring t.ids i (t.at i) j x e) (empty-has (t.at i).failed j (c.trusting i h)))

  -- ---- ResignNode: the node was empty before

  module _ (w : Waits t i) (n : ℕ) (u : Up t n) where
    -- what guards lacks no side
    no-side-lacks : GuardsAt t i n → lacks_side (sides_of (t.at i)) ≡ true → ⊥
    no-side-lacks p e =
        let (a, ha, ma, na) = p.up in
        let (b, hb, mb, nb) = p.down in
        let high = f.listed.n-high in
        ⊎_elim (λ q. opposed ma (size_none (t.at i).left a (eqb-true _ 0 q) (omega (arith, ha, high))))
        (λ q. opposed mb (size_none (t.at i).right b (eqb-true _ 0 q) (omega (arith, hb, high))))
        (or_cases (is_bare (t.at i).left) (is_bare (t.at i).right) e)

    apart : n ≡ i → ⊥
    apart e = opposed w.1 (up-no-wait (t.at i).status (rw e at u.1))

    was-empty : lacks_side (sides_of (t.at i)) ≡ true → is_empty (sides_of (t.at i)) ≡ true
    was-empty e = bool-true _ (λ full. no-side-lacks (c.members i n (inr (w, full)) u apart) e)

    abbrev resigned : Node
    resigned = emptied (t.at i) (t.at i).status (single i)

    module _ (bare : is_empty (sides_of (t.at i)) ≡ true) where
      resigned-quiet : Quiet t.ring t.ids i (t.at i) resigned
      resigned-quiet =
          record {
            dead = refl;
            wait = refl;
            up = refl;
            guards = λ y p. absurd (opposed bare (guards-filled p));
            filled = λ e. absurd (opposed bare e);
          }

      resigned-here : Here t i resigned
      resigned-here =
          record {
            known = λ y a b. absurd (empty-none (sides_of resigned) y none-empty b.1);
            members = λ b full. absurd (opposed none-empty full);
            trusting = refl;
            joiner = λ p full. absurd (opposed none-empty full);
          }

      asks-again : Fair (put t i resigned) (placed (join_request i 0) n)
      asks-again =
          record {
            request = λ e. (quiet_put t i resigned resigned-quiet).joining i (inl w);
            reply = λ e. absurd (omega arith);
            probe = λ e. absurd (omega arith);
            answer = λ e. absurd (omega arith);
            broadcast = λ e. absurd (omega arith);
          }

      resigned-good : Good t i (send_plan resigned (join_request i 0) n)
      resigned-good =
          record {
            calm = put-calm t i resigned resigned-quiet c resigned-here;
            stays = put-stays t i resigned resigned-quiet;
            sends = sends-one resigned (join_request i 0) n asks-again;
            stands = inr (i, (h, wait-alive (t.at i).status w.1));
          }

  pub resign-good : (waiting : Bool) (n : ℕ) → n < t.ring.n → (x : Plan) → plan_resign_node waiting i (t.at i) n (t.at n) ≡ Ok x → Good t i x
  resign-good waiting n l x e =
      let (wait, ready, lacks, same) = told-resign waiting i (t.at i) n (t.at n) x e in
      let u : Up t n = (l, ready_up (t.at n).status ready) in
      rw same (resigned-good (h, wait) n u (was-empty (h, wait) n u lacks))
