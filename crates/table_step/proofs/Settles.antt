-- What the step comes to in each case, in terms of what the code has told by then (Asks): it is refused and changes nothing, or its plan is
-- carried out on the messages that are left. Assumes nothing.
use Rattle.rules.specs.Shapes.{Planned}
use Rattle.marks.specs.Marks.{Found}
use Rattle.std.specs.Prelude.{Some, None, Result, Ok, Err, is_ok}
use mathlib.Core.Path.{◌≡◌, refl, sym, ◌∙◌, ap}
use mathlib.Core.Bool.{Bool, true, false, not, ◌&&◌}
use mathlib.Core.List.{List}
use mathlib.Core.Logic.{◌⊎◌, inl, inr}
use Prim.Native.Nat.{ℕ, ◌%◌, ◌<◌, ◌≤◌}
use native.Mathlib.Omega.{arith}
use lib.Dec.{eqb}
use borrow.Author.Tests.{not-false, ltb-true, lt-ltb, le-leb}
use lib.ListN.{length}
use Rattle.std.proofs.Common.{Some, None}
use Rattle.marks.proofs.Bools.{clash, and_cases}
use Rattle.rules.specs.declared.Action.{Action}
use Rattle.rules.specs.declared.Message.{Message}
use Rattle.rules.specs.declared.Plan.{Plan}
use Rattle.rules.specs.declared.Pool.{Pool}
use Rattle.rules.specs.declared.Refusal.{Refusal}
use Rattle.rules.specs.declared.Refusal.TheVariants as no
use Rattle.rules.specs.Mail.{without_probes}
use Rattle.rules.specs.Plans.{mailed}
use Rattle.rules.specs.Pool.{message_at, waiting, laid}
use Rattle.pool_laws.specs.InnerSending.{left_of, news_of, sends_of, first_new, slotted}
use Rattle.pool_laws.proofs.Fresh.{news-quiet}
use Rattle.pool_laws.proofs.Laws.{waiting-short}
use Rattle.pool_laws.proofs.Probes.{left-short}
use Rattle.table_type.specs.declared.Table.{Table}
use Rattle.table_type.specs.Table.{with_node}
use Rattle.table.specs.Settle.{refused_of, done_by, carried_out, settle}
use Rattle.step.specs.Step.{Gone, all_stay, one-goes, probes-go, asked, remaining, planned_of, is_sound, step_of}
use Rattle.table.specs.Valid.{valid_of}
use Rattle.table_laws.proofs.By.{goes}
use Rattle.table_laws.proofs.Comes.{go-comes}
use Rattle.table_laws.proofs.Obeys.{obeys}
use Rattle.table_laws.proofs.Proved.{planned-fine}
use Rattle.table_laws.proofs.Sound.{is-valid}
use Rattle.table_plan.specs.declared.Asking.{Asking}
use Rattle.table_plan.specs.declared.Beyond.{Beyond}
use Rattle.table_plan.specs.InnerAsked.{Called, Read, Asks, Told, gone_at, is_one, are_probes, slot_with}
use Rattle.table_plan.proofs.Asks.{nothing-gone}
use Rattle.table_plan.proofs.Called.{is-sound, counted, slot-low}

pub sound-is : (t : Table) (p : Pool) (len : ℕ) (valid : Bool) → valid ≡ valid_of t p → is_sound t p len ≡ (eqb len 256 && valid)
unfolding is_sound
sound-is t p len valid e = ap (λ (b : Bool). eqb len 256 && b) (sym e)

module _ (t : Table) (p : Pool) (len : ℕ) (a : Action) where
  pub step-invalid : is_sound t p len ≡ false → refused_of t p no.Invalid ≡ step_of t p len a
  unfolding step_of
  step-invalid e = rw e

  module _ (s : is_sound t p len ≡ true) (x : Result Asking Beyond) (k : Asks t.m t.n p.count a x) where
    pub step_range : (beyond : Beyond) → x ≡ Err beyond → refused_of t p beyond.why ≡ step_of t p len a
    unfolding step_of
    step_range beyond e =
        let out : (asked t p a).range ≡ false = sym (k.range t p refl refl refl) ∙ ap is_ok e in
        rw (s, out) (ap (refused_of t p) (k.refused beyond e))

    pub calls : (r : Asking) → x ≡ Ok r → Called t p a
    calls r e = record { valid = is-valid t p len s; range = sym (k.range t p refl refl refl) ∙ ap is_ok e }

-- ---- an action in range on a valid table

module _ {t : Table} {p : Pool} {a : Action} (c : Called t p a) where
  -- the first message of a plan goes to one of the 64 slots, if to any
  pub plan-slotted : (x : Plan) → planned_of (asked t p a) ≡ Ok x → slotted x.to ≡ true
  plan-slotted x e = go x.to refl
    where
      go : (f : Found) → x.to ≡ f → slotted f ≡ true
      go None q = refl
      go (Some h) q =
          let fine = go-comes (planned-fine (is-sound c) a c.range) x e in
          let there = (obeys _ _ (fine.mail.one h q)).dest-in in
          lt-ltb h 64 (omega (arith, there, (is-sound c).numbers.n-high))

  module _ (r : Asking) (k : Told t.n a true r) where
    abbrev pub read_of : Message
    read_of = message_at p (r.gone % 256)

    low-place : (place : ℕ) → (asked t p a).gone ≡ one-goes place → place < 256
    low-place place e =
        let h : place < p.count = ltb-true place p.count (sym (goes t p place a e).0 ∙ c.range) in
        omega (arith, counted c)

    gone-is : (place : ℕ) → (asked t p a).gone ≡ one-goes place → r.gone ≡ place
    gone-is place e = k.gone t p ∙ ap gone_at e

    read_at : (place : ℕ) → (asked t p a).gone ≡ one-goes place → message_at p place ≡ read_of
    read_at place e = let d : place ≡ r.gone % 256 = omega (arith, low-place place e, gone-is place e) in ap (message_at p) d

    -- what is read is the message that goes
    pub reads : Read t p a read_of
    reads = record { is = read_at }

    slot_is : slot_with r read_of ≡ (asked t p a).slot
    slot_is = go (asked t p a).gone refl
      where
        go : (f : Gone) → (asked t p a).gone ≡ f → slot_with r read_of ≡ (asked t p a).slot
        go (one-goes place) e =
            rw (lt-ltb r.gone 256 (omega (arith, low-place place e, gone-is place e)))
            (ap (λ (m : Message). m.dest) (sym (read_at place e)) ∙ sym (goes t p place a e).1)
        go all_stay e = let d : r.gone ≡ 256 = k.gone t p ∙ ap gone_at e in rw d (k.slot t p (ap is_one e))
        go (probes-go i j) e = let d : r.gone ≡ 256 = k.gone t p ∙ ap gone_at e in rw d (k.slot t p (ap is_one e))

    pub acts-low : slot_with r read_of < 64
    acts-low = rw slot_is (slot-low c)

    -- what waits when additions begin, where no probes have timed out
    left_is : r.timed ≡ None → left_of p r.gone ≡ remaining p (asked t p a).gone
    left_is b = ap (left_of p) (k.gone t p) ∙ go (asked t p a).gone (k.stays b t p)
      where
        go : (f : Gone) → are_probes f ≡ false → left_of p (gone_at f) ≡ remaining p f
        go (one-goes place) e = refl
        go all_stay e = nothing-gone p (counted c)
        go (probes-go i j) e = absurd (clash e)

    -- where they have, the slot and the partner are told
    module _ (j : ℕ) (b : r.timed ≡ Some j) where
      slot-told : r.slot ≡ (asked t p a).slot
      slot-told = k.slot t p (ap is_one (k.times j b t p))

      pub timed-slot : r.slot < 64
      timed-slot = rw slot-told (slot-low c)

      pub timed-partner : j < 64
      timed-partner =
          omega (arith, k.partner-low refl j b, (is-sound c).numbers.n-high)

    module _ (len : ℕ) (s : is_sound t p len ≡ true) where
      steps : settle t p (remaining p (asked t p a).gone) (asked t p a).slot (planned_of (asked t p a)) ≡ step_of t p len a
      unfolding step_of
      steps = rw (s, c.range)

      settles : r.timed ≡ None → settle t p (left_of p r.gone) (slot_with r read_of) (planned_of (asked t p a)) ≡ step_of t p len a
      settles b = rw (left_is b, slot_is) steps

      module _ (what : Planned) (w : what ≡ planned_of (asked t p a)) where
        pub refuses : (why : Refusal) → what ≡ Err why → refused_of t p why ≡ step_of t p len a
        unfolding settle
        refuses why e = ap (settle t p (remaining p (asked t p a).gone) (asked t p a).slot) (sym e ∙ w) ∙ steps

        pub carries : r.timed ≡ None → (x : Plan) (i : ℕ) → what ≡ Ok x → i ≡ slot_with r read_of
            → carried_out t p (left_of p r.gone) i x ≡ step_of t p len a
        unfolding settle
        carries b x i e f = rw f (ap (settle t p (left_of p r.gone) (slot_with r read_of)) (sym e ∙ w) ∙ settles b)

        -- probes that have timed out go, and nothing is sent
        left-room : (ys : List Message) (x : Plan) (i : ℕ) → mailed x ys ≡ ys → length ys ≤ 256
            → done_by x.via (with_node t i x.node) (laid ys) ≡ carried_out t p ys i x
        unfolding carried_out
        left-room ys x i q l = rw (q, le-leb (length ys) 256 l)

        pub times-out : (j : ℕ) → r.timed ≡ Some j → (x : Plan) → what ≡ Ok x
            → done_by x.via (with_node t r.slot x.node) (laid (without_probes (waiting p) r.slot j)) ≡ step_of t p len a
        unfolding settle
        times-out j b x e =
            let ys = without_probes (waiting p) r.slot j in
            left-room ys x r.slot (k.quiet j b t p x (sym w ∙ e) ys)
            (omega (arith, left-short r.slot j (waiting p), waiting-short p, counted c))
            ∙ ap (λ (f : Gone). carried_out t p (remaining p f) r.slot x) (sym (k.times j b t p))
            ∙ ap (λ (i : ℕ). carried_out t p (remaining p (asked t p a).gone) i x) (slot-told j b)
            ∙ ap (settle t p (remaining p (asked t p a).gone) (asked t p a).slot) (sym e ∙ w)
            ∙ steps

        -- what is new is told without looking, where nothing is sent, or a request's message
        pub first-told : (x : Plan) (sends : Bool) → what ≡ Ok x → sends ≡ sends_of x → (sends && not r.fresh) ≡ false
            → first_new x ≡ news_of x (left_of p r.gone)
        first-told x sends e f n = go (and_cases sends (not r.fresh) n)
          where
            go : (sends ≡ false) ⊎ (not r.fresh ≡ false) → first_new x ≡ news_of x (left_of p r.gone)
            go (inl z) = news-quiet x (left_of p r.gone) (sym f ∙ z)
            go (inr z) = k.fresh (not-false r.fresh z) t p x (counted c) (sym w ∙ e)
