-- Take of an LSProbe and of an LSProbeReply, from j at i. Both add j, who is not dead, to the leaf set, so i guards against j; failed
-- stays empty, so of those probed none is lost but j in the second, and j guards against i by 8. Where then nobody is left to probe, i
-- may become ok. Assumes nothing.
use Rattle.std.specs.Prelude.{None, Ok}
use mathlib.Core.Path.{◌≡◌, refl, sym, ◌∙◌, ap, subst}
use mathlib.Core.Logic.{◌⊎◌, inl, inr, ⊎_elim}
use mathlib.Core.Bool.{Bool, true, false, cond, ◌&&◌, ◌||◌, not}
use Prim.Native.Nat.{ℕ, ◌<◌}
use native.Mathlib.Omega.{arith}
use lib.Dec.{eqb}
use borrow.Author.Tests.{eqb-true, ne_eqb}
use Rattle.marks.proofs.Bools.{opposed, and_both, or_left, false-not, and-fails-left, bool_false, eq-or-ne}
use Rattle.marks.specs.Marks.{has, remove_of, union, without}
use Rattle.marks.proofs.Laws.{has-zero, has-remove, has-union, has-without, gather_none}
use Rattle.rules.specs.declared.Sides.{Sides}
use Rattle.rules.specs.declared.Status.{Status}
use Rattle.rules.specs.declared.Status.TheVariants as status
use Rattle.rules.specs.declared.Node.{Node}
use Rattle.rules.specs.declared.Message.{Message}
use Rattle.rules.specs.declared.Plan.{Plan}
use Rattle.rules.specs.Leaf.{leaf_with_one, is_empty, overlaps, is_complete}
use Rattle.rules.specs.Letters.{ls_probe, ls_probe_reply}
use Rattle.rules.specs.Nodes.{sides_of, placed}
use Rattle.rules.specs.declared.Via.TheVariants.{Unrouted}
use Rattle.rules.specs.Plans.{is_wait, with_status}
use Rattle.rules.specs.Pool.{blank}
use Rattle.take.specs.Take.{failed_without, probes_of, learnt_node, waits_empty, probe_plan_of, plan_take_probe}
use Rattle.take.specs.Take.{still_probing, status_after_reply, reply_plan_of, plan_take_probe_reply}
use Rattle.table_laws.proofs.Nodes.{both}
use Rattle.table_laws.proofs.Plans.{none-to, one-to}
use Rattle.join_laws.specs.Clauses.{View, Up, Waits, Alive, Filled, Guards, GuardsAt, Beside, Calm, Fair}
use Rattle.join_laws.proofs.Good.{Fitting, Good, probe-fair, quiet_put, put-calm, put-stays}
use Rattle.join_laws.proofs.Guarding.{guards-filled, guards-one, guards-that, one_left, one_right}
use Rattle.join_laws.proofs.Moves.{Quiet, Here, ok-passes, ok-calm}
use Rattle.join_laws.proofs.Written.{put, put_at, Written, put_written, Passes, passes-fair}
use Rattle.join_laws.proofs.Told.{told-probe, told-probe-reply}

remove-zero : (j : ℕ) → remove_of 0 j ≡ 0
unfolding remove_of
remove-zero j = gather_none 64 _ (λ s h. and-fails-left (not (eqb s j)) (has-zero s))

module _ (t : View) (i : ℕ) (c : Calm t) (f : Fitting t) (here : Alive t i) (fits : waits_empty (t.at i) ≡ false) (m : Message)
    (there : Alive t m.word) (apart : m.word ≡ i → ⊥) where
  abbrev j : ℕ
  j = m.word

  -- F, S and P
  abbrev trusted : ℕ
  trusted = failed_without (t.at i) j

  abbrev heard : Sides
  heard = leaf_with_one t.ring t.ids i (sides_of (t.at i)) j

  abbrev asked : ℕ
  asked = probes_of t.ring t.ids i (t.at i) heard trusted m

  -- the node, with probing and status yet to be said
  abbrev learnt : ℕ → Status → Node
  learnt probing st = learnt_node (t.at i) j heard trusted probing st

  none-failed : (t.at i).failed ≡ 0
  none-failed = c.trusting i here.0

  all-trusted : trusted ≡ 0
  all-trusted = rw none-failed (remove-zero j)

  low : (s : ℕ) → s < t.ring.n → s < 64
  low s h = omega (arith, f.listed.n-high)

  -- a node that is wait is not empty here
  waits-filled : Waits t i → Filled t i
  waits-filled w =
      bool_false (is_empty (sides_of (t.at i))) (λ e. opposed (and_both w.1 e) fits)

  guards-old : (y : ℕ) → GuardsAt t i y → Guards t.ring t.ids i heard y
  guards-old y = guards-one t.ring t.ids f.one i (sides_of (t.at i)) (f.rules i here.0).leaf j y

  guards-j : Guards t.ring t.ids i heard j
  guards-j =
      guards-that t.ring t.ids f.one i (sides_of (t.at i)) j there.0 f.listed.n-high apart
      (λ b. (c.known i j here (there.0, b)).1)

  quiet : (probing : ℕ) → Quiet t.ring t.ids i (t.at i) (learnt probing (t.at i).status)
  quiet probing = record { dead = refl; wait = refl; up = refl; guards = guards-old; filled = λ e. guards-filled guards-j }

  -- 3: those known stay known, and j is
  known-old : (y : ℕ) → Beside t (sides_of (t.at i)) y → Alive t y × Guards t.ring t.ids i heard y
  known-old y b = let k = c.known i y here b in (k.0, guards-old y k.1)

  known-new : (y : ℕ) → y ≡ j → Alive t y × Guards t.ring t.ids i heard y
  known-new y e = rw e (there, guards-j)

  known-all : (y : ℕ) → Beside t heard y → Alive t y × Guards t.ring t.ids i heard y
  known-all y b =
      ⊎_elim
      (λ p. ⊎_elim (λ q. known-old y (b.0, inl q)) (known-new y)
      (one_left t.ring t.ids f.one i (sides_of (t.at i)) j y (low y b.0) p))
      (λ p. ⊎_elim (λ q. known-old y (b.0, inr q)) (known-new y)
      (one_right t.ring t.ids f.one i (sides_of (t.at i)) j y (low y b.0) p)) b.1

  here_of : (probing : ℕ) (st : Status)
      → ((e : ℕ) → Up t e → has (t.at i).probing e ≡ true → (has probing e ≡ true) ⊎ GuardsAt t e i) → Here t i (learnt probing st)
  here_of probing st more =
      record {
        known = λ y a. known-all y;
        members = λ b full. absurd (opposed b.1 (waits-filled b.0));
        trusting = all-trusted;
        joiner = λ w full e u. ⊎_elim (more e u) inr (c.joiner i e w (waits-filled w) u);
      }

  -- ---- 4 LSProbe

  still-asked : (e : ℕ) → Up t e → has (t.at i).probing e ≡ true
      → (has (union (t.at i).probing asked) e ≡ true) ⊎ GuardsAt t e i
  still-asked e u p = inl (has-union (t.at i).probing asked e (low e u.0) ∙ or_left (has asked e) p)

  abbrev told : Node
  told = learnt (union (t.at i).probing asked) (t.at i).status

  told-quiet : Quiet t.ring t.ids i (t.at i) told
  told-quiet = quiet (union (t.at i).probing asked)

  reply-fair : Fair (put t i told) (placed (ls_probe_reply i heard trusted) j)
  reply-fair =
      record {
        request = λ e. absurd (omega arith);
        reply = λ e. absurd (omega arith);
        probe = λ e. absurd (omega arith);
        answer = λ e. (
          (quiet_put t i told told-quiet).alive i here,
          subst (λ (z : Node). Guards t.ring t.ids i (sides_of z) j) (sym (put_written t.at i told).here) guards-j,
        );
        broadcast = λ e. absurd (omega arith);
      }

  probe-good : Good t i (probe_plan_of t.ring t.ids i (t.at i) m)
  unfolding probe_plan_of
  probe-good =
      record {
        calm = put-calm t i told told-quiet c (here_of _ _ still-asked);
        stays = put-stays t i told told-quiet;
        sends = record {
          one = λ s. one-to (Fair (put t i told)) (ls_probe_reply i heard trusted) j s reply-fair;
          rest = λ s l e. probe-fair heard trusted ((quiet_put t i told told-quiet).alive i here) s;
        };
        stands = inr (i, here);
      }

  -- ---- 5 LSProbeReply

  module _ (back : GuardsAt t j i) where
    abbrev left : ℕ
    left = still_probing (t.at i) asked j

    -- j alone leaves probing, and j guards against i
    still-left : (e : ℕ) → Up t e → has (t.at i).probing e ≡ true → (has left e ≡ true) ⊎ GuardsAt t e i
    still-left e u p = go (eq-or-ne e j)
      where
        kept : has (without (union (t.at i).probing asked) (t.at i).failed) e ≡ true
        kept =
            has-without (union (t.at i).probing asked) (t.at i).failed e (low e u.0)
            ∙ and_both (has-union (t.at i).probing asked e (low e u.0) ∙ or_left (has asked e) p)
            (false-not (ap (λ (z : ℕ). has z e) none-failed ∙ has-zero e))

        go : (e ≡ j) ⊎ (e ≡ j → ⊥) → (has left e ≡ true) ⊎ GuardsAt t e i
        go (inl d) = inr (rw d back)
        go (inr d) = inl (has-remove _ j e (low e u.0) ∙ and_both kept (false-not (ne_eqb e j d)))

    abbrev answered : Node
    answered = learnt left (t.at i).status

    answered-quiet : Quiet t.ring t.ids i (t.at i) answered
    answered-quiet = quiet left

    answered-passes : Passes t.ring t.ids t.at (put t i answered).at
    answered-passes = quiet_put t i answered answered-quiet

    answered-calm : Calm (put t i answered)
    answered-calm = put-calm t i answered answered-quiet c (here_of left (t.at i).status still-left)

    -- the plan that leaves the status st
    abbrev planned : Status → Plan
    planned st = record { node = learnt left st; first = blank; to = None; each = ls_probe i heard trusted; all = asked; via = Unrouted }

    waits-good : Good t i (planned (t.at i).status)
    waits-good =
        record {
          calm = answered-calm;
          stays = put-stays t i answered answered-quiet;
          sends = record {
            one = λ s. none-to (Fair (put t i answered)) blank s;
            rest = λ s l e. probe-fair heard trusted (answered-passes.alive i here) s;
          };
          stands = inr (i, here);
        }

    -- the Ok move after it
    module _ (wait : is_wait (t.at i).status ≡ true) (none : left ≡ 0) where
      abbrev first : ℕ → Node
      first = put_at t.at i answered

      abbrev then : ℕ → Node
      then = put_at t.at i (learnt left status.Ok)

      first-is : first i ≡ answered
      first-is = (put_written t.at i answered).here

      ok-written : Written first then i (with_status (first i) status.Ok)
      ok-written =
          record {
            here = (put_written t.at i (learnt left status.Ok)).here ∙ sym (ap (λ (z : Node). with_status z status.Ok) first-is);
            other = λ s d. (put_written t.at i (learnt left status.Ok)).other s d ∙ sym ((put_written t.at i answered).other s d);
          }

      first-waits : Waits (put t i answered) i
      first-waits = (here.0, ap (λ (z : Node). is_wait z.status) first-is ∙ wait)

      first-filled : Filled (put t i answered) i
      first-filled = ap (λ (z : Node). is_empty (sides_of z)) first-is ∙ guards-filled guards-j

      first-asked : (first i).probing ≡ 0
      first-asked = ap (λ (z : Node). z.probing) first-is ∙ none

      then-passes : Passes t.ring t.ids first then
      then-passes = ok-passes t.ring t.ids first then i ok-written answered-calm first-waits first-filled first-asked

      ok-good : Good t i (planned status.Ok)
      ok-good =
          record {
            calm = ok-calm t.ring t.ids first then i ok-written answered-calm first-waits first-filled first-asked;
            stays = λ q fair. passes-fair then-passes q (put-stays t i answered answered-quiet q fair);
            sends = record {
              one = λ s. none-to (Fair (put t i (learnt left status.Ok))) blank s;
              rest = λ s l e. probe-fair heard trusted (then-passes.alive i (answered-passes.alive i here)) s;
            };
            stands = inr (i, here);
          }

    after-good : Good t i (planned (status_after_reply t.ring (t.at i).status heard left))
    unfolding status_after_reply
    after-good = go (is_wait (t.at i).status && (eqb left 0 && (overlaps heard || is_complete t.ring heard))) refl
      where
        go : (b : Bool) → (is_wait (t.at i).status && (eqb left 0 && (overlaps heard || is_complete t.ring heard))) ≡ b
            → Good t i (planned (cond b status.Ok (t.at i).status))
        go true e =
            let a = both (is_wait (t.at i).status) _ e in
            ok-good a.0 (eqb-true left 0 (both (eqb left 0) _ a.1).0)
        go false e = waits-good

    answer-good : Good t i (reply_plan_of t.ring t.ids i (t.at i) m)
    unfolding reply_plan_of
    answer-good = after-good

pub take-probe-good : (t : View) (i : ℕ) → Calm t → Fitting t → i < t.ring.n → (m : Message) → Alive t m.word → (x : Plan)
    → plan_take_probe t.ring t.ids i (t.at i) m ≡ Ok x → Good t i x
take-probe-good t i c f h m there x e =
    let (alive, fits, apart, same) = told-probe t.ring t.ids i (t.at i) m x e in
    rw same (probe-good t i c f (h, alive) fits m there apart)

pub take-probe-reply-good : (t : View) (i : ℕ) → Calm t → Fitting t → i < t.ring.n → (m : Message)
    → Alive t m.word × GuardsAt t m.word i → (x : Plan) → plan_take_probe_reply t.ring t.ids i (t.at i) m ≡ Ok x → Good t i x
take-probe-reply-good t i c f h m (there, back) x e =
    let (alive, fits, apart, same) = told-probe-reply t.ring t.ids i (t.at i) m x e in
    rw same (answer-good t i c f (h, alive) fits m there apart back)
