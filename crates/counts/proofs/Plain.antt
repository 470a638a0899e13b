-- Where the counts are true each call answers and leaves what the one without counts does, and 10 is answered exactly for a table that is not valid
-- or counts that are not true. The idea: a valid table's true counts agree with its pool, and a table that is not valid is refused alike whether its
-- counts agree or not. Assumes nothing.
use mathlib.Core.Path.{◌≡◌, refl, sym, ◌∙◌, ap}
use mathlib.Core.Bool.{Bool, true, false, cond}
use mathlib.Core.List.{List}
use Prim.Native.Nat.{ℕ}
use native.Mathlib.Omega.{arith}
use Rattle.marks.proofs.Bools.{opposed, true-not, false-not}
use Rattle.rules.specs.declared.Action.{Action}
use Rattle.rules.specs.declared.Pool.{Pool}
use Rattle.rules.specs.declared.Refusal.TheVariants as no
use Rattle.rules.specs.Numbers.{answer_number}
use Rattle.rules.specs.Pool.{waiting, laid}
use Rattle.step.specs.Step.{is_sound, step_of}
use Rattle.pool_laws.proofs.Laws.{waiting-laid}
use Rattle.table_laws.proofs.Sound.{is-valid}
use Rattle.std.specs.Prelude.{Err}
use Rattle.file.proofs.Exactly.{write-exactly, write-leaves}
use Rattle.file.proofs.Theorems.{load-of-file}
use Rattle.file.specs.Write.{said_number, wrote_of, written_of}
use Rattle.face.specs.Asked.{rest_of}
use Rattle.counts.specs.declared.After.{After}
use Rattle.counts.specs.declared.Counted.{Counted}
use Rattle.counts.specs.Counts.{count_for, agree_of, after_by, step_with, load_with, start_with, wrote_with, written_with, rest_with}
use Rattle.counts.proofs.CountLaws.{counts-at, waiting-count}
use Rattle.counts.specs.Claims.{TrueCounts, Good, Call, Same, StepAsPlain, StepInvalidExactly, LoadAsPlain, StartAsPlain, LoadsBack}
use Rattle.counts.specs.Claims.{WriteInvalidExactly, WriteAsPlain, WriteRefusedKeeps, RestInvalidExactly, RestAsPlain}
use Rattle.table_laws.proofs.Ten.{step-ten, ten-step}
use Rattle.counts.proofs.CountLaws.{step-disagreed, wrote-agreed, wrote-disagreed, written-agreed, written-disagreed, rest-agreed, rest-disagreed}
use Rattle.counts.proofs.Truth.{sound-counted, true-agree, good_of}

-- ---- the two ways

-- true counts agree with the pool, or the table is not valid
module _ (x : Counted) (len : ℕ) where
  by-true : (C : Type 0) → (agree_of x.counts x.pool ≡ true → C) → (is_sound x.table x.pool len ≡ false → C) → TrueCounts x → C
  by-true C agrees unsound f = go (is_sound x.table x.pool len) refl
    where
      go : (s : Bool) → is_sound x.table x.pool len ≡ s → C
      go true e = agrees (true-agree x (sound-counted x len e) f)
      go false e = unsound e

  -- what is not a valid table with true counts: its table is not valid, or its counts disagree with the pool
  by-bad : (C : Type 0) → (is_sound x.table x.pool len ≡ false → C) → (agree_of x.counts x.pool ≡ false → C) → (Good x len → ⊥) → C
  by-bad C unsound disagrees bad = go (is_sound x.table x.pool len) refl (agree_of x.counts x.pool) refl
    where
      go : (s : Bool) → is_sound x.table x.pool len ≡ s → (b : Bool) → agree_of x.counts x.pool ≡ b → C
      go false e b q = unsound e
      go true e false q = disagrees q
      go true e true q = absurd (bad (good_of x len e q))

-- ---- the load and the start

pub load-as-plain : LoadAsPlain
unfolding load_with after_by
load-as-plain x bs len = record { answer-is = refl; table_is = refl; pool-is = refl; via-is = refl }

pub start-as-plain : StartAsPlain
unfolding start_with after_by
start-as-plain x len m l ids a = record { answer-is = refl; table_is = refl; pool-is = refl; via-is = refl }

-- ---- the step

module _ (x : Counted) (len : ℕ) (a : Action) where
  step-agrees : agree_of x.counts x.pool ≡ true → Same x (Call.step len a)
  unfolding step_with after_by
  step-agrees e = record { answer-is = rw e; table_is = rw e; pool-is = rw e; via-is = rw e }

  step-unsound : is_sound x.table x.pool len ≡ false → Same x (Call.step len a)
  unfolding step_with step_of
  step-unsound e = go (agree_of x.counts x.pool) refl
    where
      go : (b : Bool) → agree_of x.counts x.pool ≡ b → Same x (Call.step len a)
      go true q = step-agrees q
      go false q = record { answer-is = rw (q, e); table_is = rw (q, e); pool-is = rw (q, e); via-is = rw (q, e) }

  step-disagrees : agree_of x.counts x.pool ≡ false → answer_number (step_with x len a).answer ≡ 10
  step-disagrees e = sym (ap (λ (r : After). answer_number r.answer) (step-disagreed x len e a))

pub step-as-plain : StepAsPlain
step-as-plain x len a = by-true x len (Same x (Call.step len a)) (step-agrees x len a) (step-unsound x len a)

pub step-invalid-exactly : StepInvalidExactly
step-invalid-exactly x len a = (tells, by-bad x len _ unsound (step-disagrees x len a))
  where
    tells : answer_number (step_with x len a).answer ≡ 10 → Good x len → ⊥
    tells e good =
        let same = step-as-plain x len a good.agrees in
        opposed good.sound (step-ten x.table x.pool len a (sym (ap answer_number same.answer-is) ∙ e))

    unsound : is_sound x.table x.pool len ≡ false → answer_number (step_with x len a).answer ≡ 10
    unsound e = ap answer_number (step-unsound x len a e).answer-is ∙ ten-step x.table x.pool len a e

-- ---- writing

module _ (x : Counted) (len : ℕ) (buf : List ℕ) where
  abbrev WritePlain : Type 0
  WritePlain = (wrote_with x len buf ≡ wrote_of x.table x.pool len buf) × (written_with x len buf ≡ written_of x.table x.pool len buf)

  write-agrees : agree_of x.counts x.pool ≡ true → WritePlain
  write-agrees e = (sym (wrote-agreed x len e buf), sym (written-agreed x len e buf))

  write-disagrees : agree_of x.counts x.pool ≡ false → (wrote_with x len buf ≡ Err no.Invalid) × (written_with x len buf ≡ buf)
  write-disagrees e = (sym (wrote-disagreed x len e buf), sym (written-disagreed x len e buf))

  write-unsound : is_sound x.table x.pool len ≡ false → WritePlain
  unfolding wrote_of written_of
  write-unsound e = go (agree_of x.counts x.pool) refl
    where
      go : (b : Bool) → agree_of x.counts x.pool ≡ b → WritePlain
      go true q = write-agrees q
      go false q = ((write-disagrees q).0 ∙ rw e, (write-disagrees q).1 ∙ rw e)

pub write-as-plain : WriteAsPlain
write-as-plain x len buf = by-true x len (WritePlain x len buf) (write-agrees x len buf) (write-unsound x len buf)

pub write-invalid-exactly : WriteInvalidExactly
write-invalid-exactly x len buf = (tells, by-bad x len _ unsound (λ e. ap said_number (write-disagrees x len buf e).0))
  where
    tells : said_number (wrote_with x len buf) ≡ 10 → Good x len → ⊥
    tells e good =
        let same = (write-as-plain x len buf good.agrees).0 in
        opposed ((write-exactly x.table x.pool len buf).ten.0 (sym (ap said_number same) ∙ e)) (true-not good.sound)

    unsound : is_sound x.table x.pool len ≡ false → said_number (wrote_with x len buf) ≡ 10
    unsound e = ap said_number (write-unsound x len buf e).0 ∙ (write-exactly x.table x.pool len buf).ten.1 (false-not e)

pub write-refused-keeps : WriteRefusedKeeps
unfolding wrote_with written_with
write-refused-keeps x len buf why = go (agree_of x.counts x.pool)
  where
    go : (b : Bool) → cond b (wrote_of x.table x.pool len buf) (Err no.Invalid) ≡ Err why
        → cond b (written_of x.table x.pool len buf) buf ≡ buf
    go true e = write-leaves x.table x.pool len buf why e
    go false e = refl

-- ---- asking whether the table is settled

module _ (x : Counted) (len : ℕ) where
  rest-agrees : agree_of x.counts x.pool ≡ true → rest_with x len ≡ rest_of x.table x.pool len
  rest-agrees e = sym (rest-agreed x len e)

  rest-disagrees : agree_of x.counts x.pool ≡ false → rest_with x len ≡ Err no.Invalid
  rest-disagrees e = sym (rest-disagreed x len e)

  rest-of-unsound : is_sound x.table x.pool len ≡ false → rest_of x.table x.pool len ≡ Err no.Invalid
  unfolding rest_of
  rest-of-unsound e = rw e

  rest-unsound : is_sound x.table x.pool len ≡ false → rest_with x len ≡ Err no.Invalid
  rest-unsound e = go (agree_of x.counts x.pool) refl
    where
      go : (b : Bool) → agree_of x.counts x.pool ≡ b → rest_with x len ≡ Err no.Invalid
      go true q = rest-agrees q ∙ rest-of-unsound e
      go false q = rest-disagrees q

  rest-sound : is_sound x.table x.pool len ≡ true → said_number (rest_of x.table x.pool len) ≡ 0
  unfolding rest_of
  rest-sound e = rw e

pub rest-as-plain : RestAsPlain
rest-as-plain x len = by-true x len _ (rest-agrees x len) (λ e. rest-unsound x len e ∙ sym (rest-of-unsound x len e))

pub rest-invalid-exactly : RestInvalidExactly
rest-invalid-exactly x len =
    (tells, by-bad x len _ (λ e. ap said_number (rest-unsound x len e)) (λ e. ap said_number (rest-disagrees x len e)))
  where
    tells : said_number (rest_with x len) ≡ 10 → Good x len → ⊥
    tells e good = omega (arith, ap said_number (rest-as-plain x len good.agrees), rest-sound x len good.sound)

-- ---- the file has no counts, and loads back with the same

-- what is laid out again is counted alike
laid-counts : (p : Pool) (i : ℕ) → count_for (waiting (laid (waiting p))) i ≡ count_for (waiting p) i
laid-counts p i = rw (waiting-laid (waiting p))

pub loads-back : LoadsBack
unfolding load_with after_by
loads-back x y k g =
    let t = x.table in
    let p = x.pool in
    let made = load-of-file t p y.table y.pool k (is-valid t p 256 g.sound) in
    let told = waiting-count p in
    (rw made, λ i h. rw made (counts-at (laid (waiting p)) i h ∙ laid-counts p i ∙ told i (sound-counted x 256 g.sound) ∙ sym (g.agrees i h)))
