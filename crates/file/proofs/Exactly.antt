-- When each number is answered: loading and writing are chains of tests, and the tests can go in six ways and in three. LoadExactly and
-- WriteExactly say which way gives which number; a refusal leaves everything as it is. Assumes nothing.
use Rattle.rules.specs.Shapes.{Answer}
use mathlib.Core.Path.{◌≡◌, refl, sym, ◌∙◌, ap}
use mathlib.Core.Logic.{◌↔◌}
use mathlib.Core.Bool.{Bool, true, false, cond, ◌&&◌, not}
use mathlib.Core.List.{List, ◌++◌}
use Prim.Native.Nat.{ℕ}
use native.Mathlib.Omega.{arith}
use borrow.Author.Tests.{eqb-true, eq-eqb}
use lib.Dec.{eqb, ltb}
use lib.ListN.{length, drop}
use Rattle.marks.proofs.Bools.{and_right}
use Rattle.rules.specs.declared.Pool.{Pool}
use Rattle.rules.specs.declared.Refusal.{Refusal}
use Rattle.rules.specs.declared.Refusal.TheVariants as no
use Rattle.rules.specs.declared.Via.TheVariants.{Unrouted}
use Rattle.rules.specs.Limits.{messages_high}
use Rattle.rules.specs.Numbers.{answer_number}
use Rattle.table_type.specs.declared.Table.{Table}
use Rattle.table_type.specs.declared.Stepped.{Stepped}
use Rattle.table.specs.Settle.{refused_of, done_of}
use Rattle.step.specs.Step.{is_sound}
use Rattle.table.specs.Valid.{valid_of}
use Rattle.std.specs.Prelude.{Ok, Err}
use Rattle.file.specs.Format.{total_of, file_of}
use Rattle.file.specs.Load.{header_fits, offsets_fit, statuses_fit, file_table, file_pool, load_of}
use Rattle.file.specs.Write.{Wrote, said_number, wrote_of, written_of}

-- 01's numbers of what reading and writing answer
abbrev pub load_number : List ℕ → Table → Pool → ℕ → ℕ
load_number bs t p len = answer_number (load_of bs t p len).answer

abbrev pub write_number : Table → Pool → ℕ → List ℕ → ℕ
write_number t p len buf = said_number (wrote_of t p len buf)

-- the conditions: 7, and that neither the list's length nor a record gives 10; those of 8 and 9 are header_fits and offsets_fit
abbrev pub too_short : List ℕ → Bool
too_short bs = ltb (length bs) 32

abbrev pub records_fit : List ℕ → ℕ → Bool
records_fit bs len = eqb len messages_high && (statuses_fit bs && valid_of (file_table bs) (file_pool bs))

-- 11, if not 10
abbrev pub no_room : Table → Pool → List ℕ → Bool
no_room t p buf = ltb (length buf) (total_of t.n p.count)

pub record LoadExactly (bs : List ℕ) (t : Table) (p : Pool) (len : ℕ) : Type 0 where
  pub seven : (load_number bs t p len ≡ 7) ↔ (too_short bs ≡ true)
  pub eight : (load_number bs t p len ≡ 8) ↔ ((not (too_short bs) && not (header_fits bs)) ≡ true)
  pub nine : (load_number bs t p len ≡ 9) ↔ ((not (too_short bs) && (header_fits bs && not (offsets_fit bs))) ≡ true)
  pub ten : (load_number bs t p len ≡ 10) ↔ ((not (too_short bs) && (header_fits bs && (offsets_fit bs && not (records_fit bs len)))) ≡ true)
  pub done : (load_number bs t p len ≡ 0) ↔ ((not (too_short bs) && (header_fits bs && (offsets_fit bs && records_fit bs len))) ≡ true)

exactly : (x k : ℕ) (b : Bool) → eqb x k ≡ b → (x ≡ k) ↔ (b ≡ true)
exactly x k b e = (λ q. sym e ∙ eq-eqb x k q, λ q. eqb-true x k (e ∙ q))

-- loading as a chain of tests
abbrev chain : Bool → Bool → Bool → Bool → Bool → Stepped → (Refusal → Stepped) → Stepped
chain a b c d e good bad =
    cond a (bad no.Short)
    (cond (not b) (bad no.Header) (cond (not c) (bad no.Offsets) (cond (not d) (bad no.Invalid) (cond e good (bad no.Invalid)))))

module _ (u : Table) (q : Pool) (t : Table) (p : Pool) where
  abbrev number : Bool → Bool → Bool → Bool → Bool → ℕ
  number a b c d e = answer_number (chain a b c d e (done_of u q) (refused_of t p)).answer

  tests : (a b c d e : Bool)
      → (eqb (number a b c d e) 7 ≡ a)
      × (eqb (number a b c d e) 8 ≡ (not a && not b))
      × (eqb (number a b c d e) 9 ≡ (not a && (b && not c)))
      × (eqb (number a b c d e) 10 ≡ (not a && (b && (c && not (d && e)))))
      × (eqb (number a b c d e) 0 ≡ (not a && (b && (c && (d && e)))))
  tests true b c d e = (refl, refl, refl, refl, refl)
  tests false false c d e = (refl, refl, refl, refl, refl)
  tests false true false d e = (refl, refl, refl, refl, refl)
  tests false true true false e = (refl, refl, refl, refl, refl)
  tests false true true true false = (refl, refl, refl, refl, refl)
  tests false true true true true = (refl, refl, refl, refl, refl)

  left : (why : Refusal) (a b c d e : Bool) → (chain a b c d e (done_of u q) (refused_of t p)).answer ≡ Err why
      → chain a b c d e (done_of u q) (refused_of t p) ≡ refused_of t p why
  left why true b c d e h = ap (λ (w : Answer). record { answer = w; table = t; pool = p; via = Unrouted }) h
  left why false false c d e h = ap (λ (w : Answer). record { answer = w; table = t; pool = p; via = Unrouted }) h
  left why false true false d e h = ap (λ (w : Answer). record { answer = w; table = t; pool = p; via = Unrouted }) h
  left why false true true false e h = ap (λ (w : Answer). record { answer = w; table = t; pool = p; via = Unrouted }) h
  left why false true true true false h = ap (λ (w : Answer). record { answer = w; table = t; pool = p; via = Unrouted }) h
  left why false true true true true h = let z : ◌≡◌ {A = ℕ} 0 1 = cc in absurd (omega arith)

  made : (a b c d e : Bool) → number a b c d e ≡ 0 → chain a b c d e (done_of u q) (refused_of t p) ≡ done_of u q
  made true b c d e h = absurd (omega arith)
  made false false c d e h = absurd (omega arith)
  made false true false d e h = absurd (omega arith)
  made false true true false e h = absurd (omega arith)
  made false true true true false h = absurd (omega arith)
  made false true true true true h = refl

pub load-exactly : (bs : List ℕ) (t : Table) (p : Pool) (len : ℕ) → LoadExactly bs t p len
unfolding load_of
load-exactly bs t p len =
    let x = load_number bs t p len in
    let k =
    tests (file_table bs) (file_pool bs) t p (too_short bs) (header_fits bs) (offsets_fit bs) (eqb len messages_high)
    (statuses_fit bs && valid_of (file_table bs) (file_pool bs)) in
    record {
      seven = exactly x 7 _ k.0;
      eight = exactly x 8 _ k.1;
      nine = exactly x 9 _ k.2;
      ten = exactly x 10 _ k.3;
      done = exactly x 0 _ k.4;
    }

pub record WriteExactly (t : Table) (p : Pool) (len : ℕ) (buf : List ℕ) : Type 0 where
  pub ten : (write_number t p len buf ≡ 10) ↔ (not (is_sound t p len) ≡ true)
  pub eleven : (write_number t p len buf ≡ 11) ↔ ((is_sound t p len && no_room t p buf) ≡ true)
  pub done : (write_number t p len buf ≡ 0) ↔ ((is_sound t p len && not (no_room t p buf)) ≡ true)

-- writing as a chain of tests
abbrev ends : Bool → Bool → ℕ → Wrote
ends s r total = cond (not s) (Err no.Invalid) (cond r (Err no.NoRoom) (Ok total))

pub write-exactly : (t : Table) (p : Pool) (len : ℕ) (buf : List ℕ) → WriteExactly t p len buf
unfolding wrote_of
write-exactly t p len buf =
    let k = go (is_sound t p len) (no_room t p buf) in
    let x = write_number t p len buf in
    record { ten = exactly x 10 _ k.0; eleven = exactly x 11 _ k.1; done = exactly x 0 _ k.2 }
  where
    number : Bool → Bool → ℕ
    number s r = said_number (ends s r (total_of t.n p.count))

    go : (s r : Bool) → (eqb (number s r) 10 ≡ not s) × (eqb (number s r) 11 ≡ (s && r)) × (eqb (number s r) 0 ≡ (s && not r))
    go false r = (refl, refl, refl)
    go true true = (refl, refl, refl)
    go true false = (refl, refl, refl)

-- a done load leaves what the file says, a refusal leaves the table and the pool
module _ (bs : List ℕ) (t : Table) (p : Pool) (len : ℕ) where
  pub load-makes : load_number bs t p len ≡ 0 → load_of bs t p len ≡ done_of (file_table bs) (file_pool bs)
  unfolding load_of
  load-makes h =
      made (file_table bs) (file_pool bs) t p (too_short bs) (header_fits bs) (offsets_fit bs) (eqb len messages_high)
      (statuses_fit bs && valid_of (file_table bs) (file_pool bs)) h

  -- a done load leaves a valid table
  pub load-valid : (load_of bs t p len).answer ≡ Ok tt → valid_of (load_of bs t p len).table (load_of bs t p len).pool ≡ true
  load-valid e =
      let none : load_number bs t p len ≡ 0 = ap answer_number e in
      let fits = (load-exactly bs t p len).done.0 none in
      let records = and_right (offsets_fit bs) _ (and_right (header_fits bs) _ (and_right (not (too_short bs)) _ fits)) in
      rw (load-makes none) (and_right (statuses_fit bs) _ (and_right (eqb len messages_high) _ records))

  pub load-leaves : (why : Refusal) → (load_of bs t p len).answer ≡ Err why → load_of bs t p len ≡ refused_of t p why
  unfolding load_of
  load-leaves why h =
      left (file_table bs) (file_pool bs) t p why (too_short bs) (header_fits bs) (offsets_fit bs) (eqb len messages_high)
      (statuses_fit bs && valid_of (file_table bs) (file_pool bs)) h

-- a refusal leaves the buffer
pub write-leaves : (t : Table) (p : Pool) (len : ℕ) (buf : List ℕ) (why : Refusal) → wrote_of t p len buf ≡ Err why
    → written_of t p len buf ≡ buf
unfolding wrote_of written_of
write-leaves t p len buf why h = go (is_sound t p len) (no_room t p buf) h
  where
    go : (s r : Bool) → ends s r (total_of t.n p.count) ≡ Err why
        → cond (not s) buf (cond r buf (file_of t p ++ drop (total_of t.n p.count) buf)) ≡ buf
    go false r h = refl
    go true true h = refl
    go true false h = let z : ◌≡◌ {A = ℕ} 0 1 = cc in absurd (omega arith)
