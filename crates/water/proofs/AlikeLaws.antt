-- Of the same key and month: that is an equivalence, and whether one of a list is alike a record goes by it too. Assumes nothing.
use mathlib.Core.Path.{◌≡◌, refl, sym, ◌∙◌, ap, ap₂, subst}
use mathlib.Core.Bool.{Bool, true, ◌||◌, or_assoc}
use mathlib.Core.List.{List, [], ◌∷◌, ◌++◌}
use mathlib.Core.Logic.{◌⊎◌, inl, inr}
use borrow.Author.Tests.{eqb-true, eq-eqb}
use lib.Dec.{eqb}
use Rattle.marks.proofs.Bools.{and_left, and_right, and_both, or_left, or_right, or_cases, opposed, bool_same}
use Rattle.water.specs.declared.Record.{Record}
use Rattle.water.specs.declared.Held.{Held}
use Rattle.water.specs.Water.{alike}
use Rattle.water.specs.History.{any_alike}
use Rattle.water.specs.Claims.{Same, In, here, there}
use Rattle.water.proofs.Mixed.{none_in, in-cases}

pub alike_same : (a b : Record) → alike a b ≡ true → Same a b
alike_same a b e =
    let k : Bool = eqb a.key b.key in
    let m : Bool = eqb a.month b.month in
    record { key = eqb-true a.key b.key (and_left k m e); month = eqb-true a.month b.month (and_right k m e) }

pub same_alike : {a b : Record} → Same a b → alike a b ≡ true
same_alike {a} {b} h = and_both (eq-eqb a.key b.key h.key) (eq-eqb a.month b.month h.month)

turned : {a b : Record} → Same a b → Same b a
turned h = record { key = sym h.key; month = sym h.month }

pub alike-sym : (a b : Record) → alike a b ≡ alike b a
alike-sym a b =
    bool_same (alike a b) (alike b a) (λ e. same_alike (turned (alike_same a b e))) (λ e. same_alike (turned (alike_same b a e)))

-- two alike records are alike the same ones
pub alike-moves : (a b c : Record) → alike a b ≡ true → alike c a ≡ alike c b
alike-moves a b c e = let h : Same a b = alike_same a b e in rw (h.key, h.month)

-- ---- one of a list

pub any-moves : (a b : Record) (hs : List Held) → alike a b ≡ true → any_alike hs a ≡ any_alike hs b
unfolding any_alike
any-moves a b [] e = refl
any-moves a b (h ∷ hs) e = ap₂ ◌||◌ (alike-moves a b h.original e) (any-moves a b hs e)

pub any_append : (xs ys : List Held) (r : Record) → any_alike (xs ++ ys) r ≡ (any_alike xs r || any_alike ys r)
unfolding any_alike
any_append [] ys r = refl
any_append (x ∷ xs) ys r =
    ap (λ (b : Bool). alike x.original r || b) (any_append xs ys r)
    ∙ sym (or_assoc (alike x.original r) (any_alike xs r) (any_alike ys r))

-- one of these is of the same key and month, said in both ways
pub any-one : (hs : List Held) (r : Record) → any_alike hs r ≡ true → (h : Held) × In h hs × Same h.original r
unfolding any_alike
any-one [] r e = absurd (opposed e refl)
any-one (h ∷ hs) r e = go (or_cases (alike h.original r) (any_alike hs r) e) (any-one hs r)
  where
    go : (alike h.original r ≡ true) ⊎ (any_alike hs r ≡ true)
        → (any_alike hs r ≡ true → (x : Held) × In x hs × Same x.original r) → (x : Held) × In x (h ∷ hs) × Same x.original r
    go (inl a) i = (h, here, alike_same h.original r a)
    go (inr a) i = let (x, j, q) = i a in (x, there j, q)

pub one-any : (hs : List Held) (r : Record) (h : Held) → In h hs → Same h.original r → any_alike hs r ≡ true
unfolding any_alike
one-any [] r h i q = absurd (none_in i)
one-any (x ∷ hs) r h i q = go (in-cases i) (λ j. one-any hs r h j q)
  where
    go : (h ≡ x) ⊎ In h hs → (In h hs → any_alike hs r ≡ true) → any_alike (x ∷ hs) r ≡ true
    go (inl e) k = or_left (any_alike hs r) (same_alike (subst (λ (y : Held). Same y.original r) e q))
    go (inr j) k = or_right (alike x.original r) (k j)
