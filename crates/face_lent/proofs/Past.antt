-- What lies in the places past the count is not looked at: of two lists of 256 places that agree on the first count of them, each function says the same, and
-- what is done leaves the same 256 places. And what is done leaves blank places past the count that it tells. The idea: the definitions look at a pool through
-- its count and its waiting messages alone. What a refusal leaves, and lists without 256 places, are in Kept. Assumes nothing.
use Rattle.rules.specs.Shapes.{Planned}
use Rattle.std.specs.Prelude.{Result, Ok, Err}
use mathlib.Core.Path.{◌≡◌, refl, sym, ◌∙◌, ap, subst}
use mathlib.Core.Bool.{Bool, true, false, cond, ◌&&◌, not}
use mathlib.Core.List.{List}
use Prim.Native.Nat.{ℕ, ◌<◌}
use native.Mathlib.Omega.{arith}
use lib.Dec.{eqb, leb, ltb}
use lib.ListN.{length, get_or, take}
use lib.Seq.{get_or-take}
use borrow.Author.Tests.{eq-eqb, ltb-true}
use Rattle.marks.proofs.Bools.{bool_same}
use Rattle.marks.proofs.Laws.{all_same}
use Rattle.rules.specs.declared.Action.{Action}
use Rattle.rules.specs.declared.Action.TheVariants.{Lookup, Join, RequestLease, LeaseExpired, GrantExpired, Take, Deliver, Forward}
use Rattle.rules.specs.declared.Action.TheVariants.{NodeLeft, SuspectFaulty, ProbeTimeOut, DeclareDead, LSRepair, ResignNode, Recover}
use Rattle.rules.specs.declared.Message.{Message}
use Rattle.rules.specs.declared.Pool.{Pool}
use Rattle.rules.specs.declared.Refusal.{Refusal}
use Rattle.rules.specs.declared.Refusal.TheVariants as no
use Rattle.rules.specs.Fits.{message_fits, hops_fit}
use Rattle.rules.specs.Plans.{mailed}
use Rattle.rules.specs.Pool.{blank, message_at, lay}
use Rattle.table_type.specs.declared.Stepped.{Stepped}
use Rattle.table_type.specs.declared.Table.{Table}
use Rattle.table.specs.Settle.{refused_of, done_of, carried_out, settle}
use Rattle.table_type.specs.Start.{start_of}
use Rattle.step.specs.Step.{Gone, all_stay, one-goes, probes-go, Asked, asked, remaining, planned_of, act_of, is_sound, step_of}
use Rattle.table_type.specs.Table.{ids_of, ring_of}
use Rattle.table.specs.Valid.{messages_fit, pool_fits, valid_of}
use Rattle.file.specs.Format.{file_of}
use Rattle.file.specs.Load.{header_fits, offsets_fit, statuses_fit, file_table, file_pool, load_of}
use Rattle.file.specs.Write.{Wrote, wrote_of, written_of}
use Rattle.face.specs.Asked.{Rest}
use Rattle.face.specs.Asked.{began, start_step, rest_of}
use Rattle.face.proofs.Laid.{Neat, step-neat, load-neat, start-neat}
use Rattle.face_lent.specs.declared.Reply.{Reply}
use Rattle.face_lent.specs.Lent.{pool_of, taken_of, given_of, lent, lent_step, lent_start, lent_load, lent_rest, reply_of, Handed, Filed}

-- ---- two pools

-- the same reply; and the same places, where it is done
record Alike (g h : Stepped) : Type 0 where
  reply : reply_of g ≡ reply_of h
  places : g.answer ≡ Ok tt → g.pool.places ≡ h.pool.places

same_alike : (g : Stepped) → Alike g g
same_alike g = record { reply = refl; places = λ e. refl }

cond-alike : (b : Bool) {g h g' h' : Stepped} → (b ≡ true → Alike g h) → Alike g' h' → Alike (cond b g g') (cond b h h')
cond-alike true k k' = k refl
cond-alike false k k' = k'

-- the count n, and the same messages wait: an action in range asks the same
module _ (t : Table) (n : ℕ) (xs ys : List Message) (same : take n xs ≡ take n ys) where
  place_same : (s : ℕ) → s < n → message_at (pool_of n xs) s ≡ message_at (pool_of n ys) s
  place_same s h = sym (get_or-take n xs s blank h) ∙ ap (λ (zs : List Message). get_or zs s blank) same ∙ get_or-take n ys s blank h

  asked-same : (a : Action) → (asked t (pool_of n xs) a).range ≡ true → asked t (pool_of n xs) a ≡ asked t (pool_of n ys) a
  asked-same (Lookup i k) e = rw same
  asked-same (Join i seed) e = rw same
  asked-same (RequestLease i) e = refl
  asked-same (LeaseExpired i j) e = refl
  asked-same (GrantExpired i j) e = refl
  asked-same (Take place) e = rw (place_same place (ltb-true place n e))
  asked-same (Deliver place) e = rw (place_same place (ltb-true place n e))
  asked-same (Forward place) e = rw (place_same place (ltb-true place n e))
  asked-same (NodeLeft i) e = refl
  asked-same (SuspectFaulty i j) e = refl
  asked-same (ProbeTimeOut i j) e = refl
  asked-same (DeclareDead i j) e = refl
  asked-same (LSRepair i) e = refl
  asked-same (ResignNode i k) e = rw same
  asked-same (Recover i) e = refl

-- and every function says the same
module _ (t : Table) (n : ℕ) (xs ys : List Message) (same : take n xs ≡ take n ys) where
  valid_same : valid_of t (pool_of n xs) ≡ valid_of t (pool_of n ys)
  unfolding valid_of pool_fits messages_fit
  valid_same =
      let good : Message → Bool = λ m. message_fits (ring_of t) m && hops_fit (ring_of t) (ids_of t) m in
      let each = all_same n (λ s. good (get_or xs s blank)) (λ s. good (get_or ys s blank)) (λ s h. ap good (place_same t n xs ys same s h)) in
      rw (each, same)

  sound-same : (len : ℕ) → is_sound t (pool_of n xs) len ≡ is_sound t (pool_of n ys) len
  unfolding is_sound
  sound-same len = rw valid_same

  refused-alike : (why : Refusal) → Alike (refused_of t (pool_of n xs) why) (refused_of t (pool_of n ys) why)
  refused-alike why = record { reply = refl; places = λ e. absurd (let z : ◌≡◌ {A = ℕ} 0 1 = cc in omega arith) }

  settle-alike : (ws : List Message) (i : ℕ) (x : Planned) → Alike (settle t (pool_of n xs) ws i x) (settle t (pool_of n ys) ws i x)
  unfolding settle carried_out
  settle-alike ws i (Err why) = refused-alike why
  settle-alike ws i (Ok x) = cond-alike (leb (length (mailed x ws)) 256) (λ e. same_alike _) (refused-alike no.Full)

  remaining-same : (gone : Gone) → remaining (pool_of n xs) gone ≡ remaining (pool_of n ys) gone
  remaining-same all_stay = same
  remaining-same (one-goes place) = rw same
  remaining-same (probes-go i j) = rw same

  act-alike : (a : Action) → (asked t (pool_of n xs) a).range ≡ true
      → Alike (act_of t (pool_of n xs) (asked t (pool_of n xs) a)) (act_of t (pool_of n ys) (asked t (pool_of n ys) a))
  act-alike a e =
      let x = asked t (pool_of n xs) a in
      subst (λ (y : Asked). Alike (act_of t (pool_of n xs) x) (act_of t (pool_of n ys) y)) (asked-same t n xs ys same a e)
      (rw (remaining-same x.gone) (settle-alike (remaining (pool_of n ys) x.gone) x.slot (planned_of x)))

  range_same : (a : Action) → (asked t (pool_of n xs) a).range ≡ (asked t (pool_of n ys) a).range
  range_same a =
      bool_same _ _ (λ e. ap (λ (x : Asked). x.range) (sym (asked-same t n xs ys same a e)) ∙ e)
      (λ e. ap (λ (x : Asked). x.range) (sym (asked-same t n ys xs (sym same) a e)) ∙ e)

  step-alike : (len : ℕ) (a : Action) → Alike (step_of t (pool_of n xs) len a) (step_of t (pool_of n ys) len a)
  unfolding step_of
  step-alike len a =
      rw (sound-same len, range_same a)
      (cond-alike (is_sound t (pool_of n ys) len)
      (λ s. cond-alike (asked t (pool_of n ys) a).range (λ e. act-alike a (range_same a ∙ e)) (refused-alike no.OutOfRange))
      (refused-alike no.Invalid))

  start-alike : (len m l : ℕ) (ids : List ℕ) (a : ℕ) → Alike (start_step t (pool_of n xs) len m l ids a) (start_step t (pool_of n ys) len m l ids a)
  unfolding start_step
  start-alike len m l ids a = cond-alike (eqb len 256) (λ e. go (start_of m l ids a)) (refused-alike no.Invalid)
    where
      go : (w : Result Table Refusal) → Alike (began w t (pool_of n xs)) (began w t (pool_of n ys))
      go (Ok u) = same_alike _
      go (Err why) = refused-alike why

  load-alike : (bs : List ℕ) (len : ℕ) → Alike (load_of bs t (pool_of n xs) len) (load_of bs t (pool_of n ys) len)
  unfolding load_of
  load-alike bs len =
      cond-alike (ltb (length bs) 32) (λ e. refused-alike no.Short)
      (cond-alike (not (header_fits bs)) (λ e. refused-alike no.Header)
      (cond-alike (not (offsets_fit bs)) (λ e. refused-alike no.Offsets)
      (cond-alike (not (eqb len 256)) (λ e. refused-alike no.Invalid)
      (cond-alike (statuses_fit bs && valid_of (file_table bs) (file_pool bs)) (λ e. same_alike (done_of (file_table bs) (file_pool bs)))
      (refused-alike no.Invalid)))))

  rest-same : (len : ℕ) → rest_of t (pool_of n xs) len ≡ rest_of t (pool_of n ys) len
  unfolding rest_of
  rest-same len = rw (sound-same len)

  wrote-same : (len : ℕ) (buf : List ℕ) → wrote_of t (pool_of n xs) len buf ≡ wrote_of t (pool_of n ys) len buf
  unfolding wrote_of
  wrote-same len buf = rw (sound-same len)

  written_same : (len : ℕ) (buf : List ℕ) → written_of t (pool_of n xs) len buf ≡ written_of t (pool_of n ys) len buf
  unfolding written_of file_of
  written_same len buf = rw (sound-same len, same)

-- ---- lists of 256 places

taken : (xs : List Message) → length xs ≡ 256 → taken_of xs ≡ xs
unfolding taken_of
taken xs e = rw (eq-eqb (length xs) 256 e)

given : (xs ws : List Message) → length xs ≡ 256 → given_of xs ws ≡ ws
unfolding given_of
given xs ws e = rw (eq-eqb (length xs) 256 e)

-- what held ys holds zs, and the reply is r: the first places, as many as it counts, and then blank ones
module _ (t : Table) (n : ℕ) (ys zs : List Message) (r : Reply) (long : length ys ≡ 256) where
  blanks-past : {g : Stepped} → Neat g → Handed g ys zs r → r.answer ≡ Ok tt → zs ≡ lay (take r.count zs)
  blanks-past {g} neat f d =
      let e : g.answer ≡ (Ok tt) = ap (λ (x : Reply). x.answer) (sym f.0) ∙ d in
      let z : zs ≡ g.pool.places = f.1 ∙ given ys _ long in
      let c : r.count ≡ g.pool.count = ap (λ (x : Reply). x.count) f.0 in
      rw (c, z) (ap (λ (p : Pool). p.places) (neat e))

  pub step-blank : (a : Action) → Handed (lent_step t ys n a) ys zs r → r.answer ≡ Ok tt → zs ≡ lay (take r.count zs)
  step-blank a = blanks-past (step-neat t (lent ys n) (length ys) a)

  pub start-blank : (m l : ℕ) (ids : List ℕ) (a : ℕ) → Handed (lent_start t ys n m l ids a) ys zs r → r.answer ≡ Ok tt → zs ≡ lay (take r.count zs)
  start-blank m l ids a = blanks-past (start-neat t (lent ys n) (length ys) m l ids a)

  pub load-blank : (bs : List ℕ) → Handed (lent_load bs t ys n) ys zs r → r.answer ≡ Ok tt → zs ≡ lay (take r.count zs)
  load-blank bs = blanks-past (load-neat t (lent ys n) (length ys) bs)

-- two that agree on the first n
module _ (t : Table) (n : ℕ) (ys zs : List Message) (long : length ys ≡ 256) (long' : length zs ≡ 256) (same : take n ys ≡ take n zs) where
  agree : take n (taken_of ys) ≡ take n (taken_of zs)
  agree = rw (taken ys long, taken zs long') same

  -- what held ys and zs holds ys' and zs', and the replies are r and r'
  module _ (ys' zs' : List Message) (r r' : Reply) where
    alike : {g h : Stepped} → Alike g h → Handed g ys ys' r → Handed h zs zs' r' → (r ≡ r') × (r.answer ≡ Ok tt → ys' ≡ zs')
    alike {g} {h} k f f' = (
      f.0 ∙ k.reply ∙ sym f'.0,
      λ d.
          f.1 ∙ given ys _ long ∙ k.places (ap (λ (x : Reply). x.answer) (sym f.0) ∙ d)
          ∙ sym (given zs _ long') ∙ sym f'.1,
    )

    pub step_past : (a : Action) → Handed (lent_step t ys n a) ys ys' r → Handed (lent_step t zs n a) zs zs' r'
        → (r ≡ r') × (r.answer ≡ Ok tt → ys' ≡ zs')
    step_past a = alike (rw (long, long') (step-alike t n (taken_of ys) (taken_of zs) agree 256 a))

    pub start-past : (m l : ℕ) (ids : List ℕ) (a : ℕ) → Handed (lent_start t ys n m l ids a) ys ys' r → Handed (lent_start t zs n m l ids a) zs zs' r'
        → (r ≡ r') × (r.answer ≡ Ok tt → ys' ≡ zs')
    start-past m l ids a = alike (rw (long, long') (start-alike t n (taken_of ys) (taken_of zs) agree 256 m l ids a))

    pub load_past : (bs : List ℕ) → Handed (lent_load bs t ys n) ys ys' r → Handed (lent_load bs t zs n) zs zs' r'
        → (r ≡ r') × (r.answer ≡ Ok tt → ys' ≡ zs')
    load_past bs = alike (rw (long, long') (load-alike t n (taken_of ys) (taken_of zs) agree bs 256))

  pub settled-past : (r r' : Rest) → r ≡ lent_rest t ys n → r' ≡ lent_rest t zs n → r ≡ r'
  settled-past r r' h h' = h ∙ rw (long, long') (rest-same t n (taken_of ys) (taken_of zs) agree 256) ∙ sym h'

  pub write-past : (bs cs cs' : List ℕ) (r r' : Wrote) → Filed t ys n bs cs r → Filed t zs n bs cs' r' → (r ≡ r') × (cs ≡ cs')
  write-past bs cs cs' r r' h h' = (
    h.0 ∙ rw (long, long') (wrote-same t n (taken_of ys) (taken_of zs) agree 256 bs) ∙ sym h'.0,
    h.1 ∙ rw (long, long') (written_same t n (taken_of ys) (taken_of zs) agree 256 bs) ∙ sym h'.1,
  )
