-- The plan's new messages, as the functions come by them, and what makes the pool after it of what is left. Assumes nothing.
use Rattle.std.specs.Prelude.{Some, None}
use mathlib.Core.Path.{◌≡◌, refl, sym, ◌∙◌, ap, ap₂}
use mathlib.Core.Bool.{true, false, not}
use mathlib.Core.List.{List, ◌++◌}
use Prim.Native.Nat.{ℕ, ◌+◌, ◌<◌, ◌≤◌}
use native.Mathlib.Omega.{arith}
use borrow.Author.Tests.{eqb-true, ltb-true, leb-true, not-false}
use Rattle.marks.specs.Marks.{has, without, Found}
use Rattle.marks.proofs.Laws.{empty, has-zero, has-without, without-below}
use Rattle.marks.proofs.Bools.{clash, and-fails-left}
use Rattle.rules.specs.declared.Message.{Message}
use Rattle.rules.specs.declared.Plan.{Plan}
use Rattle.rules.specs.declared.Pool.{Pool}
use Rattle.rules.specs.Nodes.{placed}
use Rattle.rules.specs.Pool.{laid}
use Rattle.rules.specs.Mail.{waits}
use Rattle.rules.specs.Plans.{mailed}
use Rattle.pool_laws.specs.declared.New.{New}
use Rattle.pool_laws.specs.InnerSending.{left_of, left_count, slotted, held_of, held_with, copy_to, copies}
use Rattle.pool_laws.specs.InnerSending.{new_to, new_one, new_all, news_of, one_or_none, new_count, sends_to, sends_of, first_new, Roomy}
use Rattle.pool_laws.proofs.Sending.{held-last}
use Rattle.pool_laws.proofs.NewOnes.{new-slotted, mailed-news}

pub slot-low : (to : Found) (s : ℕ) → to ≡ Some s → slotted to ≡ true → s < 64
slot-low to s e d = ltb-true s 64 (ap slotted (sym e) ∙ d)

-- ---- the first message

module _ (m : Message) (to : Found) (ys : List Message) where
  pub to-nowhere : to ≡ None → None ≡ new_to m to ys
  to-nowhere e = rw e

  pub to-new : (s : ℕ) → to ≡ Some s → waits ys (placed m s) ≡ false → Some s ≡ new_to m to ys
  to-new s e w = rw (e, w)

-- ---- the others

without-none : (b : ℕ) → without 0 b ≡ 0
without-none b = empty (without 0 b) (without-below 0 b) (λ s l. has-without 0 b s l ∙ and-fails-left (not (has b s)) (has-zero s))

module _ (ys : List Message) (first : Message) (one : Found) (m : Message) (set : ℕ) where
  pub all_none : set ≡ 0 → 0 ≡ without set (held_of m (ys ++ copy_to first one))
  all_none e = rw e (sym (without-none _))

  pub all_after : (s have more r : ℕ) (q : Message) → have ≡ held_of m ys → one ≡ Some s → q ≡ placed first s → more ≡ held_with m have q
      → r ≡ without set more → r ≡ without set (held_of m (ys ++ copy_to first one))
  all_after s have more r q h e d w k =
      k
      ∙ ap (without set)
      (w ∙ ap₂ (held_with m) h d ∙ sym (ap (λ (o : Found). held_of m (ys ++ copy_to first o)) e ∙ held-last m ys (placed first s)))

-- ---- both

abbrev news : Found → ℕ → New
news one all = record { one = one; all = all }

pub news_are : (x : Plan) (ys : List Message) (one : Found) (all : ℕ) → one ≡ new_to x.first x.to ys
    → all ≡ without x.all (held_of x.each (ys ++ copy_to x.first one)) → news one all ≡ news_of x ys
unfolding new_one new_all
news_are x ys one all e f = rw (f, e)

-- of a plan that sends one message, and of one that sends none: what is new is told without looking, where no equal is left
to_none : (to : Found) (all : ℕ) → sends_to to all ≡ false → to ≡ None
to_none (Some s) all e = absurd (clash e)
to_none None all e = refl

all-zero : (to : Found) (all : ℕ) → sends_to to all ≡ false → all ≡ 0
all-zero (Some s) all e = absurd (clash e)
all-zero None all e = eqb-true all 0 (not-false _ e)

pub news-quiet : (x : Plan) (ys : List Message) → sends_of x ≡ false → first_new x ≡ news_of x ys
news-quiet x ys e =
    let n = to_none x.to x.all e in
    news_are x ys x.to 0 (n ∙ to-nowhere x.first x.to ys n) (all_none ys x.first x.to x.each x.all (all-zero x.to x.all e))

pub news-one : (x : Plan) (ys : List Message) (s : ℕ) → x.to ≡ Some s → x.all ≡ 0 → waits ys (placed x.first s) ≡ false → first_new x ≡ news_of x ys
news-one x ys s e z w =
    news_are x ys x.to 0 (e ∙ to-new x.first x.to ys s e w) (all_none ys x.first x.to x.each x.all z)

-- ---- the pool after the plan

module _ (p : Pool) (gone : ℕ) (x : Plan) (w : New) (r : Roomy p gone x w) where
  pub new-slot : slotted w.one ≡ true
  new-slot = ap (λ (v : New). slotted v.one) r.told ∙ new-slotted x.first x.to (left_of p gone) r.to-slot

  pub new-fit : (k : ℕ) → k ≡ left_count p.count gone → k + new_count w ≤ 256
  new-fit k e = omega (arith, leb-true (left_count p.count gone + new_count w) 256 r.room)

  pub one-fits : (k s : ℕ) → k ≡ left_count p.count gone → w.one ≡ Some s → k < 256
  one-fits k s e f = let d : one_or_none w.one ≡ 1 = ap one_or_none f in omega (arith, new-fit k e)

  pub after_is : (ys : List Message) (t : Pool) → ys ≡ left_of p gone ++ copy_to x.first w.one → t ≡ laid (ys ++ copies x.each w.all)
      → t ≡ laid (mailed x (left_of p gone))
  unfolding new_one
  after_is ys t d e = e ∙ rw (d, r.told) (ap laid (sym (mailed-news x (left_of p gone))))
