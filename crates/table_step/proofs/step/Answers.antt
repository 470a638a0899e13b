-- What `step` tells, in the order of its tests: validity, so a sound table; what is asked, so the action in range; whether it is repeated, so its plan; its new
-- messages, and room for them. Each answer takes of these what it needs. Then the three loops, by the laws of pool_laws/proofs/Gaps. Assumes nothing.
use Rattle.std.specs.Prelude.{Some}
use Rattle.std.proofs.Common.{◌≡◌, ℕ, Bool, true, ◌&&◌, eqb, min, refl, sym, ◌∙◌, ap, arith}
use Rattle.marks.specs.Marks.{lowest_of}
use Rattle.marks.proofs.Laws.{lowest-found}
use Rattle.rules.specs.declared.Pool.{Pool}
use Rattle.rules.specs.Pool.{laid}
use Rattle.pool_laws.specs.InnerSending.{left_of, news_of, Roomy}
use Rattle.pool_laws.proofs.Laid.{waiting-length}
use Rattle.pool_laws.proofs.Places.{places-length}
use Rattle.pool_laws.proofs.Gaps.{next_low, closed_none, closed-more, closed-end, Put, put_one, put-none}
use Rattle.pool_laws.proofs.Gaps.{fewer, filling-low, filling-more, filling-end}
use Rattle.pool_laws.proofs.Gaps.{blanked-more, blanked-end}
use Rattle.pool_laws.proofs.Fresh.{slot-low, new-slot, one-fits, after_is}
use Rattle.table_parts.proofs.Laws.{fits, full}
use Rattle.table_plan.specs.InnerAsked.{Called, Told, slot_with}
use Rattle.table_plan.proofs.Called.{counted}
use Rattle.table_type.specs.declared.Table.{Table}
use Rattle.table_type.specs.Table.{with_node}
use Rattle.table.specs.Settle.{done_by}
use Rattle.step.specs.Step.{asked, planned_of, is_sound}
use Rattle.table.specs.Valid.{valid_of}
use Rattle.table_laws.proofs.Sound.{sound as sound_of, is-valid}
use Rattle.table_step.proofs.Lowered.{lowered-valid}
use Rattle.table_step.proofs.Settles.{sound-is, step-invalid, step_range, calls, plan-slotted}
use Rattle.table_step.proofs.Settles.{read_of, reads, acts-low, refuses, carries, first-told, timed-slot, timed-partner, times-out}
use Rattle.table_step.proofs.step.Goals as goal
use Rattle.table_step.proofs.step.Goals.{In-Ok, After-planned, After-room, After-slot_of-i, In-Some-lowest}
use Rattle.table_step.proofs.step.Goals.{then-asks, else-asks, then-sends-asks, else-sends-asks, in-Some-one, in_default-one}

-- validity of what was lowered first is that of what came in
tested : (t : Table) (p : Pool) (len : ℕ) {n k : ℕ} {valid : Bool} → n ≡ min t.n 65 → k ≡ min p.count 257
    → valid ≡ valid_of (record t { n = n }) (record p { count = k }) → is_sound t p len ≡ (eqb len 256 && valid)
tested t p len {valid = valid} low few told = sound-is t p len valid (told ∙ rw (low, few) (lowered-valid t p))

sound : (c : In-Ok) → is_sound c.args.t c.args.p c.args.len ≡ true
sound c = tested c.args.t c.args.p c.args.len c.min.ensures c.min-2.ensures c.is_valid-valid.ensures ∙ c.if-not-len-valid.false

-- what is asked for is in range
called : (c : In-Ok) → Called c.args.t c.args.p c.args.a
called c = calls c.args.t c.args.p c.args.len c.args.a (sound c) c.asked.result c.asked.ensures c.in-Ok.asks c.in-Ok.is

told : (c : In-Ok) → Told c.args.t.n c.args.a true c.in-Ok.asks
told c = c.asked.ensures.told c.in-Ok.asks c.in-Ok.is

-- the plan is that of the message read, told whether it is repeated
planned_is : (c : After-planned) → Called c.args.t c.args.p c.args.a → Told c.args.t.n c.args.a true c.in-Ok.asks
    → c.planned.result ≡ planned_of (asked c.args.t c.args.p c.args.a)
planned_is c called k =
    let there : c.if-asks.there ≡ (asked c.args.t c.args.p c.args.a).repeated =
    elim c.if-asks.branch [
      | then-asks w ↦ w.there-is ∙ w.repeated-there.ensures c.args.t c.args.p refl
      | else-asks w ↦ w.there-is ∙ w.if-asks.false ∙ k.unasked w.if-asks.false c.args.t c.args.p
    ] in
    c.planned.ensures c.args.p (reads called c.in-Ok.asks k) ∙ ap (asked c.args.t c.args.p c.args.a).plan there

-- the new messages are told
new_is : (c : After-room) → Called c.args.t c.args.p c.args.a → Told c.args.t.n c.args.a true c.in-Ok.asks → is_sound c.args.t c.args.p c.args.len ≡ true
    → c.planned.result ≡ planned_of (asked c.args.t c.args.p c.args.a)
    → c.if-sends-asks.new ≡ news_of c.in-Ok-planned.plan (left_of c.args.p c.in-Ok.asks.gone)
new_is c called told sound planned =
    elim c.if-sends-asks.branch [
      | then-sends-asks w ↦ w.new-is ∙ w.news-new.ensures
      | else-sends-asks w ↦
          w.new-is ∙ w.first_new-new.ensures
          ∙ first-told called c.in-Ok.asks told c.args.len sound c.planned.result planned c.in-Ok-planned.plan c.sends.result c.in-Ok-planned.is c.sends.ensures
          w.if-sends-asks.false
    ]

-- they have room
roomy_is : (c : After-slot_of-i) → Called c.args.t c.args.p c.args.a → c.planned.result ≡ planned_of (asked c.args.t c.args.p c.args.a)
    → c.if-sends-asks.new ≡ news_of c.in-Ok-planned.plan (left_of c.args.p c.in-Ok.asks.gone)
    → Roomy c.args.p c.in-Ok.asks.gone c.in-Ok-planned.plan c.if-sends-asks.new
roomy_is c called planned new =
    record {
      counted = counted called;
      to-slot = plan-slotted called c.in-Ok-planned.plan (sym planned ∙ c.in-Ok-planned.is);
      told = new;
      room = sym c.room.ensures ∙ c.if-not-room.false;
    }

pub returns-then-not-len-valid : goal.returns-then-not-len-valid
returns-then-not-len-valid c =
    c.refused.ensures
    ∙ step-invalid c.args.t c.args.p c.args.len c.args.a
    (tested c.args.t c.args.p c.args.len c.min.ensures c.min-2.ensures c.is_valid-valid.ensures ∙ c.if-not-len-valid.true)

pub asked-requires : goal.asked-requires
asked-requires c =
    let s = tested c.args.t c.args.p c.args.len c.min.ensures c.min-2.ensures c.is_valid-valid.ensures ∙ c.if-not-len-valid.false in
    (sound_of c.args.t c.args.p (is-valid c.args.t c.args.p c.args.len s)).numbers.m-high

pub returns-in-Err : goal.returns-in-Err
returns-in-Err c =
    let s = tested c.args.t c.args.p c.args.len c.min.ensures c.min-2.ensures c.is_valid-valid.ensures ∙ c.if-not-len-valid.false in
    c.refused-in-Err.ensures ∙ step_range c.args.t c.args.p c.args.len c.args.a s c.asked.result c.asked.ensures c.in-Err.beyond c.in-Err.is

pub shared_ref_as_front-repeated : goal.shared_ref_as_front-repeated
shared_ref_as_front-repeated c = counted (called (goal.at.shared_ref_as_front-repeated c).In-Ok)

pub repeated-there-requires : goal.repeated-there-requires
repeated-there-requires c = (c.args.t, c.args.p, called (goal.at.repeated-there-requires c).In-Ok, refl)

pub planned-requires : goal.planned-requires
planned-requires c = let d = (goal.at.planned-requires c).In-Ok in (c.args.p, called d, reads (called d) c.in-Ok.asks (told d))

pub returns-in-Err-planned : goal.returns-in-Err-planned
returns-in-Err-planned c =
    let at = goal.at.returns-in-Err-planned c in
    let d = at.In-Ok in
    c.refused-in-Err-planned.ensures
    ∙ refuses (called d) c.in-Ok.asks (told d) c.args.len (sound d) c.planned.result (planned_is at.After-planned (called d) (told d)) c.in-Err-planned.why c.in-Err-planned.is

pub offset_bounds-u-k : goal.offset_bounds-u-k
offset_bounds-u-k c =
    let d = (goal.at.offset_bounds-u-k c).In-Ok in
    omega (arith, timed-slot (called d) c.in-Ok.asks (told d) c.in-Some.j c.in-Some.is)

pub bounds-u-k : goal.bounds-u-k
bounds-u-k c =
    let d = (goal.at.bounds-u-k c).In-Ok in
    timed-slot (called d) c.in-Ok.asks (told d) c.in-Some.j c.in-Some.is

pub shared_ref_as_front-without_probes : goal.shared_ref_as_front-without_probes
shared_ref_as_front-without_probes c = let d = (goal.at.shared_ref_as_front-without_probes c).In-Ok in counted (called d)

pub overflow_cast-k : goal.overflow_cast-k
overflow_cast-k c =
    let d = (goal.at.overflow_cast-k c).In-Ok in
    omega (arith, timed-slot (called d) c.in-Ok.asks (told d) c.in-Some.j c.in-Some.is)

pub overflow_cast-j : goal.overflow_cast-j
overflow_cast-j c =
    let d = (goal.at.overflow_cast-j c).In-Ok in
    omega (arith, timed-partner (called d) c.in-Ok.asks (told d) c.in-Some.j c.in-Some.is)

pub returns-in-Some : goal.returns-in-Some
returns-in-Some c =
    let at = goal.at.returns-in-Some c in
    let d = at.In-Ok in
    let x = c.in-Ok-planned.plan in
    c.answered_by.ensures ∙ ap (done_by x.via (with_node c.args.t c.in-Ok.asks.slot x.node)) c.without_probes-left.ensures
    ∙ times-out (called d) c.in-Ok.asks (told d) c.args.len (sound d) c.planned.result (planned_is at.After-planned (called d) (told d)) c.in-Some.j c.in-Some.is
    x c.in-Ok-planned.is

pub shared_ref_as_front-news : goal.shared_ref_as_front-news
shared_ref_as_front-news c = counted (called (goal.at.shared_ref_as_front-news c).In-Ok)

pub news-new-requires : goal.news-new-requires
news-new-requires c =
    let at = goal.at.news-new-requires c in
    let d = at.In-Ok in
    plan-slotted (called d) c.in-Ok-planned.plan (sym (planned_is at.After-planned (called d) (told d)) ∙ c.in-Ok-planned.is)

pub room-requires : goal.room-requires
room-requires c = counted (called (goal.at.room-requires c).In-Ok)

pub returns-then-not-room : goal.returns-then-not-room
returns-then-not-room c =
    let at = goal.at.returns-then-not-room c in
    let d = at.In-Ok in
    let planned = planned_is at.After-planned (called d) (told d) in
    let long = places-length c.args.p _ c.well_formed.1.0 in
    let asks = c.in-Ok.asks in
    let x = c.in-Ok-planned.plan in
    c.refused-then-not-room.ensures
    ∙ full c.args.t c.args.p asks.gone (slot_with asks (read_of (called d) asks (told d))) x _ (waiting-length c.args.p (counted (called d)) long)
    (new_is at.After-room (called d) (told d) (sound d) planned) (sym c.room.ensures ∙ c.if-not-room.true)
    ∙ carries (called d) asks (told d) c.args.len (sound d) c.planned.result planned c.in_default.is x _ c.in-Ok-planned.is refl

pub offset_bounds-u-i : goal.offset_bounds-u-i
offset_bounds-u-i c =
    let d = (goal.at.offset_bounds-u-i c).In-Ok in
    omega (arith, rw (← c.slot_of-i.ensures) at (acts-low (called d) c.in-Ok.asks (told d)))

pub bounds-u-i : goal.bounds-u-i
bounds-u-i c = let d = (goal.at.bounds-u-i c).In-Ok in rw c.slot_of-i.ensures (acts-low (called d) c.in-Ok.asks (told d))

pub loop-at-init : goal.loop-at-init
loop-at-init c =
    let d = (goal.at.loop-at-init c).In-Ok in
    closed_none _ _ _ (counted (called d)) (places-length c.args.p _ c.well_formed.1.0) c.left_count-n.ensures

pub bounds-q-at : goal.bounds-q-at
bounds-q-at c =
    let d = (goal.at.bounds-q-at c).In-Ok in
    next_low _ _ _ (counted (called d)) (places-length c.args.p _ c.well_formed.1.0) c.left_count-n.ensures _ _ c.loop-at-test.true c.loop-at.invariant

pub loop-at-preserved : goal.loop-at-preserved
loop-at-preserved c =
    let d = (goal.at.loop-at-preserved c).In-Ok in
    closed-more _ _ _ (counted (called d)) (places-length c.args.p _ c.well_formed.1.0) c.left_count-n.ensures _ _ c.loop-at-test.true c.loop-at.invariant

pub overflow_cast-s : goal.overflow_cast-s
overflow_cast-s c =
    let at = goal.at.overflow_cast-s c in
    let d = at.In-Ok in
    let planned = planned_is at.After-planned (called d) (told d) in
    let roomy = roomy_is at.After-slot_of-i (called d) planned (new_is at.After-room (called d) (told d) (sound d) planned) in
    omega (arith, slot-low _ _ c.in-Some-one.is (new-slot _ _ _ c.if-sends-asks.new roomy))

-- the slot whose copy is written next
lowest : (c : In-Some-lowest) → lowest_of c.loop-s.rest ≡ Some c.in-Some-lowest.s
lowest c = sym c.lowest.ensures ∙ c.in-Some-lowest.is

pub overflow_cast-s-in-Some-lowest : goal.overflow_cast-s-in-Some-lowest
overflow_cast-s-in-Some-lowest c = let at = goal.at.overflow_cast-s-in-Some-lowest c in omega (arith, (lowest-found _ _ (lowest at.In-Some-lowest)).below)

pub bounds-q-n-in-Some-lowest : goal.bounds-q-n-in-Some-lowest
bounds-q-n-in-Some-lowest c =
    let at = goal.at.bounds-q-n-in-Some-lowest c in
    filling-low _ _ _ _ _ _ (lowest at.In-Some-lowest) c.loop-s.invariant

pub loop-s-smaller : goal.loop-s-smaller
loop-s-smaller c = rw c.removed-rest.ensures (omega (arith, fewer _ _ (lowest (goal.at.loop-s-smaller c).In-Some-lowest)))

pub loop-s-preserved : goal.loop-s-preserved
loop-s-preserved c =
    rw (c.removed-rest.ensures, c.to_slot-in-Some-lowest.ensures)
    (filling-more _ _ _ _ _ _ (lowest (goal.at.loop-s-preserved c).In-Some-lowest) c.loop-s.invariant)

pub loop-at-2-preserved : goal.loop-at-2-preserved
loop-at-2-preserved c = rw c.blank_message-none.ensures (blanked-more _ _ _ _ (omega arith) c.loop-at-2.invariant)

pub returns : goal.returns
returns c =
    let at = goal.at.returns c in
    let d = at.In-Ok in
    let planned = planned_is at.After-planned (called d) (told d) in
    let new = new_is at.After-room (called d) (told d) (sound d) planned in
    let roomy = roomy_is at.After-slot_of-i (called d) planned new in
    let long = places-length c.args.p _ c.well_formed.1.0 in
    let asks = c.in-Ok.asks in
    let x = c.in-Ok-planned.plan in
    let put : Put c.left_count-n.result (left_of c.args.p asks.gone) x.first c.if-sends-asks.new.one c.match-new.n c.match-new.q =
    let closed = closed-end _ _ c.args.p (counted (called d)) long c.left_count-n.ensures _ _ c.loop-at-test.false c.loop-at.invariant in
    elim c.match-new.branch [
      | in-Some-one w ↦
          put_one _ _ x.first _ c.loop-at.q c.loop-at.invariant.long closed _ _ _ _
          (one-fits _ _ _ c.if-sends-asks.new roomy _ _ c.left_count-n.ensures w.in-Some-one.is) w.in-Some-one.is w.to_slot.ensures w.n-is w.q-is
      | in_default-one w ↦ put-none _ _ x.first _ c.loop-at.q c.loop-at.invariant.long closed _ _ w.in_default-one.is w.n-is w.q-is
    ] in
    let k = c.loop-s.invariant in
    let none = sym c.lowest.ensures ∙ c.in_default-lowest.is in
    c.answered_by-2.ensures
    ∙ ap (done_by x.via (with_node c.args.t c.slot_of-i.result x.node))
    (after_is c.args.p asks.gone x c.if-sends-asks.new roomy _ _ put.head
    (blanked-end _ _ _ (omega (arith, k.room)) k.long (omega arith) c.loop-at-2.invariant ∙ ap laid (filling-end _ _ _ _ _ none k)))
    ∙ fits c.args.t c.args.p asks.gone _ x _ (waiting-length c.args.p (counted (called d)) long) new roomy.room
    ∙ carries (called d) asks (told d) c.args.len (sound d) c.planned.result planned c.in_default.is x _ c.in-Ok-planned.is c.slot_of-i.ensures
