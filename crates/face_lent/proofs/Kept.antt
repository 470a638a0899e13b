-- What a refusal leaves, told by the contracts of the public functions: the caller's table, its count and all the places of its list, or its buffer; and
-- a list without 256 places is refused with 10, of reading after 7 to 9, and left as it is. Assumes nothing.
use mathlib.Core.Path.{◌≡◌, refl, sym, ◌∙◌, ap}
use mathlib.Core.Bool.{Bool, true, false, cond}
use mathlib.Core.List.{List}
use Prim.Native.Nat.{ℕ}
use lib.Dec.{eqb, ltb}
use lib.ListN.{length}
use borrow.Author.Tests.{ne_eqb}
use Rattle.rules.specs.declared.Action.{Action}
use Rattle.rules.specs.declared.Message.{Message}
use Rattle.rules.specs.declared.Refusal.{Refusal}
use Rattle.rules.specs.declared.Refusal.TheVariants as no
use Rattle.table_type.specs.declared.Stepped.{Stepped}
use Rattle.table_type.specs.declared.Table.{Table}
use Rattle.table.specs.Settle.{refused_of}
use Rattle.step.specs.Step.{is_sound, step_of}
use Rattle.table_laws.proofs.Proved.{refusal-keeps}
use Rattle.std.specs.Prelude.{Err}
use Rattle.file.proofs.Exactly.{load-leaves, write-leaves}
use Rattle.file.specs.Load.{header_fits, offsets_fit, load_of}
use Rattle.file.specs.Write.{Wrote, wrote_of}
use Rattle.face.specs.Asked.{start_step, rest_of}
use Rattle.face.proofs.Laid.{start-leaves}
use Rattle.face_lent.specs.declared.Reply.{Reply}
use Rattle.face_lent.specs.Lent.{blanks, taken_of, given_of, lent, lent_step, lent_start, lent_load, lent_rest, Handed, Filed}

-- the list held ys and holds zs, and the reply is r
pub record Kept (t : Table) (ys : List Message) (n : ℕ) (zs : List Message) (r : Reply) : Type 0 where
  pub table : r.table ≡ t
  pub count : r.count ≡ n
  pub places : zs ≡ ys

pub given-taken : (ys : List Message) → given_of ys (taken_of ys) ≡ ys
unfolding given_of taken_of
given-taken ys = go (eqb (length ys) 256)
  where
    go : (b : Bool) → cond b (cond b ys blanks) ys ≡ ys
    go true = refl
    go false = refl

module _ (t : Table) (ys : List Message) (n : ℕ) where
  module _ (zs : List Message) (r : Reply) where
    -- what is refused with the caller's own table and pool leaves both
    leaves : (g : Stepped) (why : Refusal) → (g.answer ≡ Err why → g ≡ refused_of t (lent ys n) why) → Handed g ys zs r → r.answer ≡ Err why
        → Kept t ys n zs r
    leaves g why keeps h e =
        let is : g ≡ refused_of t (lent ys n) why = keeps (sym (ap (λ (x : Reply). x.answer) h.0) ∙ e) in
        record {
          table = ap (λ (x : Reply). x.table) h.0 ∙ ap (λ (x : Stepped). x.table) is;
          count = ap (λ (x : Reply). x.count) h.0 ∙ ap (λ (x : Stepped). x.pool.count) is;
          places = h.1 ∙ ap (λ (x : Stepped). given_of ys x.pool.places) is ∙ given-taken ys;
        }

    pub step_keeps : (a : Action) (why : Refusal) → Handed (lent_step t ys n a) ys zs r → r.answer ≡ Err why → Kept t ys n zs r
    step_keeps a why h e = leaves (lent_step t ys n a) why (refusal-keeps t (lent ys n) (length ys) a why) h e

    pub start-keeps : (m l : ℕ) (ids : List ℕ) (a : ℕ) (why : Refusal) → Handed (lent_start t ys n m l ids a) ys zs r → r.answer ≡ Err why
        → Kept t ys n zs r
    start-keeps m l ids a why h e = leaves (lent_start t ys n m l ids a) why (start-leaves t (lent ys n) (length ys) m l ids a why) h e

    pub load-keeps : (bs : List ℕ) (why : Refusal) → Handed (lent_load bs t ys n) ys zs r → r.answer ≡ Err why → Kept t ys n zs r
    load-keeps bs why h e = leaves (lent_load bs t ys n) why (load-leaves bs t (lent ys n) (length ys) why) h e

  pub write_keeps : (bs cs : List ℕ) (r : Wrote) (why : Refusal) → Filed t ys n bs cs r → r ≡ Err why → cs ≡ bs
  write_keeps bs cs r why h e = h.1 ∙ write-leaves t (lent ys n) (length ys) bs why (sym h.0 ∙ e)

  -- a list without 256 places
  module _ (short : length ys ≡ 256 → ⊥) where
    pub step-no-list : (a : Action) → lent_step t ys n a ≡ refused_of t (lent ys n) no.Invalid
    unfolding step_of is_sound
    step-no-list a = rw (ne_eqb (length ys) 256 short)

    pub start-no-list : (m l : ℕ) (ids : List ℕ) (a : ℕ) → lent_start t ys n m l ids a ≡ refused_of t (lent ys n) no.Invalid
    unfolding start_step
    start-no-list m l ids a = rw (ne_eqb (length ys) 256 short)

    pub load-no-list : (bs : List ℕ) → ltb (length bs) 32 ≡ false → header_fits bs ≡ true → offsets_fit bs ≡ true
        → lent_load bs t ys n ≡ refused_of t (lent ys n) no.Invalid
    unfolding load_of
    load-no-list bs long header offsets = rw (long, header, offsets, ne_eqb (length ys) 256 short)

    pub settled-no-list : lent_rest t ys n ≡ Err no.Invalid
    unfolding rest_of is_sound
    settled-no-list = rw (ne_eqb (length ys) 256 short)

    pub write-no-list : (bs : List ℕ) → wrote_of t (lent ys n) (length ys) bs ≡ Err no.Invalid
    unfolding wrote_of is_sound
    write-no-list bs = rw (ne_eqb (length ys) 256 short)

    pub list-kept : (g : Stepped) (zs : List Message) (r : Reply) → Handed g ys zs r → zs ≡ ys
    unfolding given_of
    list-kept g zs r h = h.1 ∙ rw (ne_eqb (length ys) 256 short)
