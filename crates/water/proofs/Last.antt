-- The last of each key and month: `last_each` lists exactly those behind which none is the same, each once. Assumes nothing.
use mathlib.Core.Path.{◌≡◌, refl, sym, ◌∙◌, ap, subst}
use mathlib.Core.Bool.{true, false}
use mathlib.Core.List.{List, [], ◌∷◌, ◌++◌}
use mathlib.Core.Logic.{◌⊎◌, inl, inr, ⊎_elim, ◌↔◌}
use Prim.Native.Nat.{ℕ}
use native.Mathlib.Omega.{arith}
use Rattle.marks.proofs.Bools.{bool_cases, bool_false, opposed}
use Rattle.water.specs.declared.Record.{Record}
use Rattle.water.specs.declared.Held.{Held}
use Rattle.std.specs.Prelude.{Some, None}
use Rattle.water.specs.Water.{alike, found_in}
use Rattle.water.specs.History.{any_alike, last_each}
use Rattle.water.specs.Claims.{Same, In, here, there, LastOf, EachOnce, LastEachIs}
use Rattle.water.proofs.Mixed.{none_in, in-cases}
use Rattle.water.proofs.AlikeLaws.{alike_same, same_alike, any-one, one-any}
use Rattle.water.proofs.Lists.{Apart, apart-one}

not-both : {h : Held} → None ≡ Some h → ⊥
not-both e = let z : ◌≡◌ {A = ℕ} 0 1 = cc in omega arith

at_same : {x h : Held} → Some x ≡ Some h → x ≡ h
at_same e = cc

-- ---- what is listed is the last of its key and month

later : {h : Held} {hs : List Held} (x : Held) → LastOf h hs → LastOf h (x ∷ hs)
later x l =
    record { before = x ∷ l.before; after = l.after; is = ap {B = List Held} (λ ys. x ∷ ys) l.is; none-later = l.none-later }

first-last : (h : Held) (hs : List Held) → any_alike hs h.original ≡ false → LastOf h (h ∷ hs)
first-last h hs e =
    record { before = []; after = hs; is = refl; none-later = λ x i q. opposed (one-any hs h.original x i q) e }

listed-last : (hs : List Held) (h : Held) → In h (last_each hs) → LastOf h hs
unfolding last_each
listed-last [] h i = absurd (none_in i)
listed-last (x ∷ hs) h i = go (bool_cases (any_alike hs x.original)) (listed-last hs h)
  where
    go : (any_alike hs x.original ≡ true) ⊎ (any_alike hs x.original ≡ false) → (In h (last_each hs) → LastOf h hs) → LastOf h (x ∷ hs)
    go (inl e) k = later x (k (rw e at i))
    go (inr e) k = ⊎_elim (λ q. rw q (first-last x hs e)) (λ j. later x (k j)) (in-cases (rw e at i))

-- ---- and the other way about

last-listed : (before : List Held) (h : Held) (after : List Held) → ((x : Held) → In x after → Same x.original h.original → ⊥)
    → In h (last_each (before ++ (h ∷ after)))
unfolding last_each
last-listed [] h after none =
    let e : any_alike after h.original ≡ false = bool_false (any_alike after h.original) (λ a.
    let (x, i, q) = any-one after h.original a in none x i q) in
    rw e here
last-listed (b ∷ before) h after none = go (bool_cases (any_alike (before ++ (h ∷ after)) b.original)) (last-listed before h after none)
  where
    go : (any_alike (before ++ (h ∷ after)) b.original ≡ true) ⊎ (any_alike (before ++ (h ∷ after)) b.original ≡ false)
        → In h (last_each (before ++ (h ∷ after))) → In h (last_each (b ∷ before ++ (h ∷ after)))
    go (inl e) i = rw e i
    go (inr e) i = rw e (there i)

pub last-exactly : (hs : List Held) (h : Held) → In h (last_each hs) ↔ LastOf h hs
last-exactly hs h = (listed-last hs h, λ l. rw l.is (last-listed l.before h l.after l.none-later))

-- ---- each once

fewer-alike : (hs : List Held) (r : Record) → any_alike hs r ≡ false → any_alike (last_each hs) r ≡ false
unfolding any_alike last_each
fewer-alike hs r e = bool_false (any_alike (last_each hs) r) (λ a.
    let (x, i, q) = any-one (last_each hs) r a in
    let l = listed-last hs x i in
    opposed (one-any hs r x (among hs x l) q) e)
  where
    behind : (before : List Held) (x : Held) (after : List Held) → In x (before ++ (x ∷ after))
    behind [] x after = here
    behind (b ∷ before) x after = there (behind before x after)

    among : (hs : List Held) (x : Held) → LastOf x hs → In x hs
    among hs x l = rw l.is (behind l.before x l.after)

last_apart : (hs : List Held) → Apart (last_each hs)
unfolding last_each
last_apart [] = tt
last_apart (x ∷ hs) = go (bool_cases (any_alike hs x.original)) (last_apart hs)
  where
    go : (any_alike hs x.original ≡ true) ⊎ (any_alike hs x.original ≡ false) → Apart (last_each hs) → Apart (last_each (x ∷ hs))
    go (inl e) a = rw e a
    go (inr e) a = rw e (fewer-alike hs x.original e, a)

pub apart-once : (hs : List Held) → Apart hs → EachOnce hs
apart-once hs a i j l m q = opposed (same_alike q) (apart-one hs i j a l m)

-- ---- what is found of a key and month

found-one : (hs : List Held) (r : Record) (h : Held) → found_in hs r ≡ Some h → In h hs × Same h.original r
unfolding found_in
found-one [] r h e = absurd (not-both e)
found-one (x ∷ hs) r h e = go (bool_cases (alike x.original r)) (found-one hs r h)
  where
    go : (alike x.original r ≡ true) ⊎ (alike x.original r ≡ false) → (found_in hs r ≡ Some h → In h hs × Same h.original r)
        → In h (x ∷ hs) × Same h.original r
    go (inl a) k = let q : x ≡ h = at_same (rw a at e) in rw (← q) (here, alike_same x.original r a)
    go (inr a) k = let i = k (rw a at e) in (there i.0, i.1)

one_found : (hs : List Held) (r : Record) (h : Held) → Apart hs → In h hs → Same h.original r → found_in hs r ≡ Some h
unfolding found_in
one_found [] r h a i q = absurd (none_in i)
one_found (x ∷ hs) r h a i q = go (in-cases i) (bool_cases (alike x.original r)) (λ j. one_found hs r h a.1 j q)
  where
    go : (h ≡ x) ⊎ In h hs → (alike x.original r ≡ true) ⊎ (alike x.original r ≡ false) → (In h hs → found_in hs r ≡ Some h)
        → found_in (x ∷ hs) r ≡ Some h
    go (inl e) (inl b) k = rw b (ap (λ (y : Held). Some y) (sym e))
    go (inl e) (inr b) k = absurd (opposed (same_alike (subst (λ (y : Held). Same y.original r) e q)) b)
    go (inr j) (inl b) k =
        let s = alike_same x.original r b in
        let both : Same h.original x.original = record { key = q.key ∙ sym s.key; month = q.month ∙ sym s.month } in
        absurd (opposed (one-any hs x.original h j both) a.0)
    go (inr j) (inr b) k = rw b (k j)

pub found-exactly : (hs : List Held) (r : Record) (h : Held) → Apart hs → (found_in hs r ≡ Some h) ↔ (In h hs × Same h.original r)
found-exactly hs r h a = (found-one hs r h, λ i. one_found hs r h a i.0 i.1)

pub last-each-is : LastEachIs
last-each-is hs = (last-exactly hs, apart-once (last_each hs) (last_apart hs))
