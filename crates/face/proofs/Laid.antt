-- A step, a load or a start that is done leaves a pool that is laid out: its places past the count are blank; and a start that is refused leaves table
-- and pool. Assumes nothing.
use Rattle.rules.specs.Shapes.{Answer}
use Rattle.std.specs.Prelude.{Result, Ok, Err}
use mathlib.Core.Path.{◌≡◌, refl, sym, ap}
use mathlib.Core.Bool.{Bool, true, false, cond}
use mathlib.Core.List.{List, map}
use Prim.Native.Nat.{ℕ}
use native.Mathlib.Omega.{arith}
use lib.Dec.{eqb}
use lib.ListN.{drop}
use lib.Seq.{take-append_seam}
use Rattle.rules.specs.declared.Action.{Action}
use Rattle.rules.specs.declared.Message.{Message}
use Rattle.rules.specs.declared.Pool.{Pool}
use Rattle.rules.specs.declared.Refusal.{Refusal}
use Rattle.rules.specs.declared.Refusal.TheVariants as no
use Rattle.rules.specs.declared.Via.TheVariants.{Unrouted}
use Rattle.rules.specs.Numbers.{answer_number}
use Rattle.rules.specs.Plans.{mailed}
use Rattle.rules.specs.Pool.{waiting, laid}
use Rattle.table_type.specs.declared.Table.{Table}
use Rattle.table_type.specs.declared.Stepped.{Stepped}
use Rattle.table.specs.Settle.{refused_of}
use Rattle.table_type.specs.Start.{start_of}
use Rattle.step.specs.Step.{step_of, asked, remaining}
use Rattle.table_laws.proofs.By.{step-done}
use Rattle.words.specs.Bytes.{decode_all}
use Rattle.file.proofs.Exactly.{load-makes}
use Rattle.file.specs.Format.{message_widths, messages_at, message_from}
use Rattle.file.specs.Load.{file_n, file_count, file_pool, part_pool, load_of}
use Rattle.face.specs.Asked.{began, start_step}

-- what is done leaves the messages that wait, and blank places
abbrev pub Neat : Stepped → Type 0
Neat s = s.answer ≡ Ok tt → s.pool ≡ laid (waiting s.pool)

pub refused-neat : (t : Table) (p : Pool) (why : Refusal) → Neat (refused_of t p why)
refused-neat t p why e = absurd (let z : ◌≡◌ {A = ℕ} 0 1 = cc in omega arith)

laid-again : (xs : List Message) → laid xs ≡ laid (waiting (laid xs))
laid-again xs = ap laid (sym (take-append_seam xs _))

file-neat : (bs : List ℕ) → file_pool bs ≡ laid (waiting (file_pool bs))
unfolding file_pool part_pool
file-neat bs = laid-again (map message_from (decode_all message_widths 56 (file_count bs) (drop (messages_at (file_n bs)) bs)))

module _ (t : Table) (p : Pool) (len : ℕ) where
  pub step-neat : (a : Action) → Neat (step_of t p len a)
  step-neat a e = let d = step-done t p len a e in rw d.2 (laid-again (mailed d.0 (remaining p (asked t p a).gone)))

  pub load-neat : (bs : List ℕ) → Neat (load_of bs t p len)
  load-neat bs e = rw (load-makes bs t p len (ap answer_number e)) (file-neat bs)

  pub start-neat : (m l : ℕ) (ids : List ℕ) (a : ℕ) → Neat (start_step t p len m l ids a)
  unfolding start_step
  start-neat m l ids a = go (eqb len 256) (start_of m l ids a)
    where
      go : (b : Bool) (w : Result Table Refusal) → Neat (cond b (began w t p) (refused_of t p no.Invalid))
      go true (Ok u) e = refl
      go true (Err why) e = refused-neat t p why e
      go false w e = refused-neat t p no.Invalid e

-- ---- a start that is refused

pub start-leaves : (t : Table) (p : Pool) (len m l : ℕ) (ids : List ℕ) (a : ℕ) (why : Refusal)
    → (start_step t p len m l ids a).answer ≡ Err why → start_step t p len m l ids a ≡ refused_of t p why
unfolding start_step
start-leaves t p len m l ids a why h = go (eqb len 256) (start_of m l ids a) h
  where
    go : (b : Bool) (w : Result Table Refusal) → (cond b (began w t p) (refused_of t p no.Invalid)).answer ≡ Err why
        → cond b (began w t p) (refused_of t p no.Invalid) ≡ refused_of t p why
    go true (Ok u) e = absurd (let z : ◌≡◌ {A = ℕ} 0 1 = cc in omega arith)
    go true (Err w) e = ap (λ (x : Answer). record { answer = x; table = t; pool = p; via = Unrouted }) e
    go false w e = ap (λ (x : Answer). record { answer = x; table = t; pool = p; via = Unrouted }) e

pub not_done : {w : Answer} {why : Refusal} → w ≡ Err why → w ≡ Ok tt → ⊥
not_done e d = let z : ◌≡◌ {A = ℕ} 0 1 = cc in omega arith
