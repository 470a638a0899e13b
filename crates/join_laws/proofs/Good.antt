-- A plan is good where carrying it out keeps the clauses: those of the nodes, those of each message that stays, and those of each that is
-- sent. Here what is shared by all plans, and plans that leave leaf set, probing and failed as they stand. Assumes nothing.
use mathlib.Core.Path.{◌≡◌, refl, sym, subst}
use mathlib.Core.Logic.{◌⊎◌, inl}
use mathlib.Core.List.{List}
use Prim.Native.Nat.{ℕ, ◌<◌, ◌≤◌}
use native.Mathlib.Omega.{arith}
use Rattle.marks.proofs.Bools.{opposed}
use Rattle.rules.specs.declared.Ring.{Ring}
use Rattle.rules.specs.declared.Sides.{Sides}
use Rattle.rules.specs.declared.Status.{Status}
use Rattle.rules.specs.declared.Node.{Node}
use Rattle.rules.specs.declared.Message.{Message}
use Rattle.rules.specs.declared.Plan.{Plan}
use Rattle.rules.specs.InnerAsks.{Listed}
use Rattle.rules.specs.Letters.{ls_probe}
use Rattle.rules.specs.Nodes.{placed}
use Rattle.rules.specs.declared.Via.{Via}
use Rattle.rules.specs.Plans.{is_dead, is_wait, is_up, with_leases, quiet_plan, send_by}
use Rattle.rules.specs.Pool.{blank}
use Rattle.pool_laws.proofs.Laws.{Fine}
use Rattle.table_laws.proofs.Nodes.{NodeRules}
use Rattle.table_laws.proofs.Plans.{none-sent, none-to, one-to}
use Rattle.join_laws.specs.Clauses.{View, Alive, Calm, Fair}
use Rattle.join_laws.proofs.Moves.{Quiet, Here, quiet-passes, quiet_calm}
use Rattle.join_laws.proofs.Written.{put, Passes, passes-fair, put_written}

-- what a valid table says of its view
pub record Fitting (t : View) : Type 0 where
  pub listed : Listed t.ring t.ids
  pub one : 1 ≤ t.ring.l
  pub rules : (s : ℕ) → s < t.ring.n → NodeRules t.ring s (t.at s)

-- the plan x for slot i; a node that is written is one of a table in which some node is not dead
pub record Good (t : View) (i : ℕ) (x : Plan) : Type 0 where
  pub calm : Calm (put t i x.node)
  pub stays : (m : Message) → Fair t m → Fair (put t i x.node) m
  pub sends : Fine (Fair (put t i x.node)) x
  pub stands : (x.node ≡ t.at i) ⊎ ((e : ℕ) × Alive t e)

-- ---- messages

-- of the other kinds nothing is asked
pub fair-free : {t : View} (m : Message) → (m.kind ≡ 2 → ⊥) → (m.kind ≡ 3 → ⊥) → (m.kind ≡ 4 → ⊥) → (m.kind ≡ 5 → ⊥) → (m.kind ≡ 8 → ⊥)
    → Fair t m
fair-free m two three four five eight =
    record {
      request = λ e. absurd (two e);
      reply = λ e. absurd (three e);
      probe = λ e. absurd (four e);
      answer = λ e. absurd (five e);
      broadcast = λ e. absurd (eight e);
    }

-- an LSProbe from a node that is not dead
pub probe-fair : {t : View} {i : ℕ} (s : Sides) (failed : ℕ) → Alive t i → (h : ℕ) → Fair t (placed (ls_probe i s failed) h)
probe-fair s failed a h =
    record {
      request = λ e. absurd (omega arith);
      reply = λ e. absurd (omega arith);
      probe = λ e. a;
      answer = λ e. absurd (omega arith);
      broadcast = λ e. absurd (omega arith);
    }

-- a plan that sends nothing, and one that sends one message
pub sends_none : {t : View} (w : Node) → Fine (Fair t) (quiet_plan w)
sends_none {t} w = record { one = λ s. none-to (Fair t) blank s; rest = λ s l. none-sent (Fair t) blank s }

pub sends-one : {t : View} {via : Via} (w : Node) (m : Message) (h : ℕ) → Fair t (placed m h) → Fine (Fair t) (send_by via w m h)
sends-one {t} w m h f = record { one = λ s. one-to (Fair t) m h s f; rest = λ s l. none-sent (Fair t) blank s }

-- ---- quiet plans

module _ (t : View) (i : ℕ) (w : Node) (q : Quiet t.ring t.ids i (t.at i) w) where
  pub quiet_put : Passes t.ring t.ids t.at (put t i w).at
  quiet_put = quiet-passes t.ring t.ids t.at (put t i w).at i w (put_written t.at i w) q

  pub put-calm : Calm t → Here t i w → Calm (put t i w)
  put-calm c h = quiet_calm t.ring t.ids t.at (put t i w).at i w (put_written t.at i w) q c h

  pub put-stays : (m : Message) → Fair t m → Fair (put t i w) m
  put-stays m f = passes-fair quiet_put m f

-- ---- a node with another lease, grant or status of the same sort

module _ {g : Ring} {ids : List ℕ} {i : ℕ} (v : Node) (lease grant : ℕ) (st : Status) where
  leases-quiet : is_dead st ≡ is_dead v.status → is_wait st ≡ is_wait v.status → is_up st ≡ is_up v.status
      → Quiet g ids i v (with_leases v lease grant st)
  leases-quiet dead wait up = record { dead = dead; wait = wait; up = up; guards = λ y p. p; filled = λ e. e }

leases-here : {t : View} {i : ℕ} (lease grant : ℕ) (st : Status) → Calm t → i < t.ring.n → Here t i (with_leases (t.at i) lease grant st)
leases-here {t} {i} lease grant st c h =
    record {
      known = λ y a b. c.known i y a b;
      members = λ b full. absurd (opposed b.1 full);
      trusting = c.trusting i h;
      joiner = λ p full e k. c.joiner i e p full k;
    }

module _ (t : View) (i : ℕ) (c : Calm t) (h : i < t.ring.n) where
  module _ (lease grant : ℕ) (st : Status) (dead : is_dead st ≡ is_dead (t.at i).status) (wait : is_wait st ≡ is_wait (t.at i).status)
      (up : is_up st ≡ is_up (t.at i).status) where
    abbrev leased : Node
    leased = with_leases (t.at i) lease grant st

    pub leased-passes : Passes t.ring t.ids t.at (put t i leased).at
    leased-passes = quiet_put t i leased (leases-quiet (t.at i) lease grant st dead wait up)

    pub leased-calm : Calm (put t i leased)
    leased-calm = put-calm t i leased (leases-quiet (t.at i) lease grant st dead wait up) c (leases-here lease grant st c h)

    pub leased-stays : (m : Message) → Fair t m → Fair (put t i leased) m
    leased-stays m f = passes-fair leased-passes m f

  -- the node as it stood
  pub kept-passes : Passes t.ring t.ids t.at (put t i (t.at i)).at
  kept-passes = leased-passes (t.at i).lease (t.at i).grant (t.at i).status refl refl refl

  pub kept-good : (x : Plan) → x.node ≡ t.at i → Fine (Fair (put t i (t.at i))) x → Good t i x
  kept-good x e f =
      record {
        calm = rw e (leased-calm (t.at i).lease (t.at i).grant (t.at i).status refl refl refl);
        stays = rw e (leased-stays (t.at i).lease (t.at i).grant (t.at i).status refl refl refl);
        sends = subst (λ (w : Node). Fine (Fair (put t i w)) x) (sym e) f;
        stands = inl e;
      }
