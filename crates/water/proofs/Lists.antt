-- A list in which no two are alike (`Apart`), and one more put into it, in place of the one alike it or behind the last (`placed_in`).
-- The idea: where only the last of each key and month counts, that gives in another order what putting it behind the list gives, whatever
-- comes later (`placed-last`). Assumes nothing.
use mathlib.Core.Path.{◌≡◌, refl, sym, ◌∙◌, ap}
use mathlib.Core.Bool.{Bool, true, false, cond, ◌||◌, or_assoc, or-false}
use mathlib.Core.List.{List, [], ◌∷◌, ◌++◌}
use mathlib.Core.Logic.{◌⊎◌, inl, inr}
use Prim.Native.Nat.{ℕ, zero, suc, ◌<◌}
use native.Mathlib.Omega.{arith}
use lib.ListN.{length, get_or}
use Rattle.marks.proofs.Bools.{bool_cases, or_left, or_right, or-fails, or-fails-left, or-fails-right}
use Rattle.water.specs.declared.Record.{Record}
use Rattle.water.specs.declared.Held.{Held}
use Rattle.water.specs.Water.{alike, none_held}
use Rattle.water.specs.History.{any_alike, last_each}
use Rattle.water.proofs.AlikeLaws.{alike-sym, alike-moves, any-moves, any_append}
use Rattle.water.proofs.Mixed.{Mixed, same, under, swap, then}

-- no two are alike
abbrev pub Apart : List Held → Type 0
Apart [] = Unit {0}
Apart (h ∷ hs) = (any_alike hs h.original ≡ false) × Apart hs

-- h in place of the one alike it, or behind the last
unfoldable pub placed_in : List Held → Held → List Held
placed_in [] h = h ∷ []
placed_in (x ∷ xs) h = cond (alike x.original h.original) (h ∷ xs) (x ∷ placed_in xs h)

-- ---- a list of which no two are alike

none_alike : (hs : List Held) (r : Record) (j : ℕ) → any_alike hs r ≡ false → j < length hs → alike (get_or hs j none_held).original r ≡ false
unfolding any_alike
none_alike [] r j e l = absurd (omega arith)
none_alike (h ∷ hs) r zero e l = or-fails-left (alike h.original r) (any_alike hs r) e
none_alike (h ∷ hs) r (suc j) e l = none_alike hs r j (or-fails-right (alike h.original r) (any_alike hs r) e) (omega arith)

pub apart-one : (hs : List Held) (i j : ℕ) → Apart hs → i < j → j < length hs
    → alike (get_or hs i none_held).original (get_or hs j none_held).original ≡ false
apart-one [] i j a l m = absurd (omega arith)
apart-one (h ∷ hs) i zero a l m = absurd (omega arith)
apart-one (h ∷ hs) zero (suc j) a l m =
    alike-sym h.original (get_or hs j none_held).original ∙ none_alike hs h.original j a.0 (omega arith)
apart-one (h ∷ hs) (suc i) (suc j) a l m = apart-one hs i j a.1 (omega arith) (omega arith)

-- each is the last of its key and month
pub apart-last : (hs : List Held) → Apart hs → last_each hs ≡ hs
unfolding last_each
apart-last [] a = refl
apart-last (h ∷ hs) a = rw a.0 (ap {B = List Held} (λ xs. h ∷ xs) (apart-last hs a.1))

-- ---- one more

or-again : (a b : Bool) → (a || b) ≡ ((a || b) || a)
or-again true b = refl
or-again false b = sym (or-false b)

pub any-placed : (hs : List Held) (h : Held) (r : Record) → any_alike (placed_in hs h) r ≡ (any_alike hs r || alike h.original r)
unfolding any_alike placed_in
any-placed [] h r = or-false (alike h.original r)
any-placed (x ∷ xs) h r = go (bool_cases (alike x.original h.original)) (any-placed xs h r)
  where
    go : (alike x.original h.original ≡ true) ⊎ (alike x.original h.original ≡ false)
        → any_alike (placed_in xs h) r ≡ (any_alike xs r || alike h.original r)
        → any_alike (placed_in (x ∷ xs) h) r ≡ ((alike x.original r || any_alike xs r) || alike h.original r)
    go (inl e) i =
        let t : alike x.original r ≡ alike h.original r =
        alike-sym x.original r ∙ alike-moves x.original h.original r e ∙ alike-sym r h.original
        in
        rw (e, t) (or-again (alike h.original r) (any_alike xs r))
    go (inr e) i =
        rw e
        (ap (λ (b : Bool). alike x.original r || b) i
        ∙ sym (or_assoc (alike x.original r) (any_alike xs r) (alike h.original r)))

pub apart-placed : (hs : List Held) (h : Held) → Apart hs → Apart (placed_in hs h)
unfolding any_alike placed_in
apart-placed [] h a = (refl, tt)
apart-placed (x ∷ xs) h a = go (bool_cases (alike x.original h.original)) (apart-placed xs h a.1)
  where
    go : (alike x.original h.original ≡ true) ⊎ (alike x.original h.original ≡ false) → Apart (placed_in xs h)
        → Apart (placed_in (x ∷ xs) h)
    go (inl e) i = rw e (sym (any-moves x.original h.original xs e) ∙ a.0, a.1)
    go (inr e) i =
        rw e (any-placed xs h x.original ∙ or-fails a.0 (alike-sym h.original x.original ∙ e), i)

-- ---- the last of each key and month

-- x before these, unless one of them is alike it
abbrev before : Bool → Held → List Held → List Held
before b x xs = cond b xs (x ∷ xs)

before-under : (b : Bool) (x : Held) {xs ys : List Held} → Mixed xs ys → Mixed (before b x xs) (before b x ys)
before-under true x m = m
before-under false x m = under m

before_swap : (b c : Bool) (x y : Held) (zs : List Held) → Mixed (before b x (before c y zs)) (before c y (before b x zs))
before_swap true true x y zs = same
before_swap true false x y zs = same
before_swap false true x y zs = same
before_swap false false x y zs = swap

-- one that is not alike r counts for nothing
any-without : (zs : List Held) (h : Held) (xs : List Held) (r : Record) → alike h.original r ≡ false
    → any_alike (zs ++ h ∷ xs) r ≡ any_alike (zs ++ xs) r
unfolding any_alike
any-without zs h xs r e = any_append zs (h ∷ xs) r ∙ rw e (sym (any_append zs xs r))

-- whether h goes before those that are not alike it, or behind them
moved : (zs : List Held) (h : Held) (xs : List Held) → any_alike zs h.original ≡ false
    → Mixed (last_each (h ∷ zs ++ xs)) (last_each (zs ++ h ∷ xs))
unfolding any_alike last_each
moved [] h xs e = same
moved (z ∷ zs) h xs e =
    let a : alike z.original h.original ≡ false = or-fails-left (alike z.original h.original) (any_alike zs h.original) e in
    let o : any_alike zs h.original ≡ false = or-fails-right (alike z.original h.original) (any_alike zs h.original) e in
    let b : Bool = any_alike (zs ++ xs) h.original in
    let c : Bool = any_alike (zs ++ xs) z.original in
    rw (a, any-without zs h xs z.original (alike-sym h.original z.original ∙ a))
    (then (before_swap b c h z (last_each (zs ++ xs))) (before-under c z (moved zs h xs o)))

pub placed-last : (ys : List Held) (h : Held) (xs : List Held) → Apart ys
    → Mixed (last_each (placed_in ys h ++ xs)) (last_each (ys ++ h ∷ xs))
unfolding any_alike last_each placed_in
placed-last [] h xs a = same
placed-last (y ∷ ys) h xs a = go (bool_cases (alike y.original h.original)) (placed-last ys h xs a.1)
  where
    go : (alike y.original h.original ≡ true) ⊎ (alike y.original h.original ≡ false)
        → Mixed (last_each (placed_in ys h ++ xs)) (last_each (ys ++ h ∷ xs))
        → Mixed (last_each (placed_in (y ∷ ys) h ++ xs)) (last_each ((y ∷ ys) ++ h ∷ xs))
    go (inl e) i =
        let f : any_alike (ys ++ h ∷ xs) y.original ≡ true =
        any_append ys (h ∷ xs) y.original
        ∙ or_right (any_alike ys y.original) (or_left (any_alike xs y.original) (alike-sym h.original y.original ∙ e))
        in
        rw (e, f) (moved ys h xs (sym (any-moves y.original h.original ys e) ∙ a.0))
    go (inr e) i =
        let f : any_alike (placed_in ys h ++ xs) y.original ≡ any_alike (ys ++ h ∷ xs) y.original =
        any_append (placed_in ys h) xs y.original
        ∙ ap (λ (b : Bool). b || any_alike xs y.original) (any-placed ys h y.original)
        ∙ or_assoc (any_alike ys y.original) (alike h.original y.original) (any_alike xs y.original)
        ∙ sym (any_append ys (h ∷ xs) y.original)
        in
        rw (e, f) (before-under (any_alike (ys ++ h ∷ xs) y.original) y i)
