-- The counts are true after each call, and the table is valid. The idea: in what a done call leaves, and in a valid table, each place that is counted
-- is there, so that the counts that agree with what waits are those of the places. A refusal leaves all as it was. Assumes nothing.
use Rattle.rules.specs.Shapes.{Answer}
use Rattle.std.specs.Prelude.{Result, Ok, Err}
use mathlib.Core.Path.{◌≡◌, refl, sym, ◌∙◌, ap}
use mathlib.Core.Bool.{Bool, true, false, cond}
use mathlib.Core.List.{List, [], ◌∷◌}
use Prim.Native.Nat.{ℕ, zero, suc}
use native.Mathlib.Omega.{arith}
use lib.Dec.{eqb}
use lib.ListN.{length}
use Rattle.marks.proofs.Bools.{and_left, and_right, and_both}
use Rattle.rules.specs.declared.Pool.{Pool}
use Rattle.rules.specs.declared.Refusal.{Refusal}
use Rattle.rules.specs.declared.Refusal.TheVariants as no
use Rattle.rules.specs.Pool.{waiting}
use Rattle.table_type.specs.declared.Stepped.{Stepped}
use Rattle.table_type.specs.declared.Table.{Table}
use Rattle.table.specs.Settle.{refused_of}
use Rattle.table_type.specs.Start.{start_of}
use Rattle.step.specs.Step.{is_sound, step_of}
use Rattle.pool_laws.proofs.Laws.{waiting-short}
use Rattle.table.specs.InnerDone.{ValidDone}
use Rattle.table_laws.proofs.Sound.{Sound, sound, is-valid, is-sound}
use Rattle.table_laws.proofs.Numbers.{taken-waits}
use Rattle.table_laws.proofs.Proved.{keeps-valid, refusal-keeps}
use Rattle.table_laws.proofs.Begin.{start-valid}
use Rattle.file.proofs.Exactly.{load-valid, load-leaves}
use Rattle.file.specs.Load.{load_of}
use Rattle.face.specs.Asked.{began, start_step}
use Rattle.face.proofs.Laid.{Neat, step-neat, load-neat, start-neat, start-leaves}
use Rattle.counts.specs.declared.Counted.{Counted}
use Rattle.counts.specs.Counts.{agree_of, is_sound_counted, after_by, refused_with, step_with, load_with, start_with}
use Rattle.counts.proofs.CountLaws.{counts-at, agree_at, agree_of_lem, waiting-count}
use Rattle.counts.specs.Claims.{TrueCounts, Good, Call, made, after_calls}
use Rattle.counts.specs.Claims.{TrueAfter, GoodAfter, SoundExactly, RefusedKeeps, StayTrue}

never : {why : Refusal} → ◌≡◌ {A = Answer} (Err why) (Ok tt) → ⊥
never e = let z : ◌≡◌ {A = ℕ} 0 1 = cc in omega arith

-- ---- counts that agree are true

-- in a valid table each place that is counted is there
pub sound-length : {t : Table} {p : Pool} → Sound t p → length (waiting p) ≡ p.count
sound-length {p = p} s = go p.count refl
  where
    go : (n : ℕ) → p.count ≡ n → length (waiting p) ≡ p.count
    go zero e = omega (arith, waiting-short p)
    go (suc n) e = omega (arith, waiting-short p, taken-waits s n (omega arith))

pub sound-counted : (x : Counted) (len : ℕ) → is_sound x.table x.pool len ≡ true → length (waiting x.pool) ≡ x.pool.count
sound-counted x len e = sound-length (sound x.table x.pool (is-valid x.table x.pool len e))

module _ (x : Counted) (l : length (waiting x.pool) ≡ x.pool.count) where
  pub agree-true : agree_of x.counts x.pool ≡ true → TrueCounts x
  agree-true e i h = agree_at x.counts x.pool e i h ∙ waiting-count x.pool i l

  pub true-agree : TrueCounts x → agree_of x.counts x.pool ≡ true
  true-agree f = agree_of_lem x.counts x.pool (λ i h. f i h ∙ sym (waiting-count x.pool i l))

-- ---- a valid table with true counts is what is looked at

pub good_of : (x : Counted) (len : ℕ) → is_sound x.table x.pool len ≡ true → agree_of x.counts x.pool ≡ true → Good x len
good_of x len e q = record { sound = e; agrees = agree-true x (sound-counted x len e) q }

pub good-agree : (x : Counted) (len : ℕ) → Good x len → agree_of x.counts x.pool ≡ true
good-agree x len g = true-agree x (sound-counted x len g.sound) g.agrees

pub sound-exactly : SoundExactly
unfolding is_sound_counted
sound-exactly x len =
    let s = is_sound x.table x.pool len in
    let b = agree_of x.counts x.pool in
    (λ e. good_of x len (and_left s b e) (and_right s b e), λ g. and_both g.sound (good-agree x len g))

-- ---- what a done call leaves is valid

start-step-valid : (t : Table) (p : Pool) (len m l : ℕ) (ids : List ℕ) (a : ℕ) → ValidDone (start_step t p len m l ids a)
unfolding start_step
start-step-valid t p len m l ids a = go (eqb len 256) (start_of m l ids a) refl
  where
    go : (b : Bool) (w : Result Table Refusal) → start_of m l ids a ≡ w → ValidDone (cond b (began w t p) (refused_of t p no.Invalid))
    go true (Ok u) q e = start-valid m l ids a u q
    go true (Err why) q e = absurd (never e)
    go false w q e = absurd (never e)

-- ---- and has true counts

after-good : (c : List ℕ) (r : Stepped) → Neat r → ValidDone r → (after_by c r).answer ≡ Ok tt → Good (after_by c r).counted 256
unfolding after_by
after-good c r neat valid e =
    record {
      sound = is-sound r.table r.pool (valid e);
      agrees = λ i h. rw e (counts-at r.pool i h ∙ waiting-count r.pool i (sym (ap (λ (p : Pool). p.count) (neat e))));
    }

pub good-after : GoodAfter
unfolding step_with load_with start_with
good-after x (Call.step len a) = go (agree_of x.counts x.pool)
  where
    go : (b : Bool) → let r = cond b (after_by x.counts (step_of x.table x.pool len a)) (refused_with x no.Invalid) in r.answer ≡ Ok tt
        → Good r.counted 256
    go true e =
        after-good x.counts (step_of x.table x.pool len a) (step-neat x.table x.pool len a)
        (keeps-valid x.table x.pool len a) e
    go false e = absurd (never e)
good-after x (Call.load bs len) =
    after-good x.counts (load_of bs x.table x.pool len) (load-neat x.table x.pool len bs)
    (load-valid bs x.table x.pool len)
good-after x (Call.start len m l ids a) =
    after-good x.counts (start_step x.table x.pool len m l ids a) (start-neat x.table x.pool len m l ids a)
    (start-step-valid x.table x.pool len m l ids a)

pub true-after : TrueAfter
true-after x c e = (good-after x c e).agrees

-- ---- what a refused call leaves

after-keeps : (x : Counted) (r : Stepped) (why : Refusal) → (r.answer ≡ Err why → r ≡ refused_of x.table x.pool why)
    → (after_by x.counts r).answer ≡ Err why → (after_by x.counts r).counted ≡ x
unfolding after_by
after-keeps x r why keeps e = rw (keeps e)

pub refused-keeps : RefusedKeeps
unfolding step_with load_with start_with
refused-keeps x (Call.step len a) why = go (agree_of x.counts x.pool)
  where
    go : (b : Bool) → let r = cond b (after_by x.counts (step_of x.table x.pool len a)) (refused_with x no.Invalid) in r.answer ≡ Err why
        → r.counted ≡ x
    go true e = after-keeps x (step_of x.table x.pool len a) why (refusal-keeps x.table x.pool len a why) e
    go false e = refl
refused-keeps x (Call.load bs len) why =
    after-keeps x (load_of bs x.table x.pool len) why (load-leaves bs x.table x.pool len why)
refused-keeps x (Call.start len m l ids a) why =
    after-keeps x (start_step x.table x.pool len m l ids a) why (start-leaves x.table x.pool len m l ids a why)

-- ---- after many calls

stays : (x : Counted) (c : Call) → TrueCounts x → TrueCounts (made x c).counted
stays x c f = go (made x c).answer refl
  where
    go : (w : Answer) → (made x c).answer ≡ w → TrueCounts (made x c).counted
    go (Ok tt) e = true-after x c e
    go (Err why) e = rw (refused-keeps x c why e) f

pub stay-true : StayTrue
unfolding after_calls
stay-true x [] f = f
stay-true x (c ∷ cs) f = stay-true (made x c).counted cs (stays x c f)
