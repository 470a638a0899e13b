-- Nodes and messages as rows of numbers, and back: what the machine's types hold of every value (Held), so that a row fits its widths;
-- a node or a message is read from its own row; a row is the row of what it says. Assumes nothing.
use mathlib.Core.Path.{◌≡◌, refl, sym, ap₂}
use mathlib.Core.Bool.{Bool, true, false, cond}
use mathlib.Core.List.{List, [], ◌∷◌, map}
use Prim.Native.Nat.{ℕ, zero, suc, ◌+◌, ◌<◌, ◌≤◌}
use native.Mathlib.Omega.{arith}
use borrow.Author.Tests.{eqb-true, eqb-false}
use lib.Dec.{eqb}
use lib.ListN.{length, get_or, drop, drop_of_length-le}
use lib.Seq.{drop-cons}
use Rattle.rules.specs.declared.Status.{Status}
use Rattle.rules.specs.declared.Status.TheVariants.{Dead, Wait, Ok, Ready}
use Rattle.rules.specs.declared.Node.{Node}
use Rattle.rules.specs.declared.Message.{Message}
use Rattle.rules.specs.Numbers.{status_number}
use Rattle.words.proofs.Codec.{Fit}
use Rattle.file.specs.Format.{node_widths, message_widths, node_row, message_row, status_of, node_from, message_from}
use Rattle.file.specs.Held.{HeldNode, HeldMessage}

-- ---- what the machine's types hold of every value

-- ---- rows fit their widths

pub status-low : (s : Status) → status_number s ≤ 3
status-low Dead = omega arith
status-low Wait = omega arith
status-low Ok = omega arith
status-low Ready = omega arith

pub node-fit : (v : Node) → HeldNode v → Fit node_widths (node_row v)
node-fit v h = omega (arith, status-low v.status)

pub message-fit : (m : Message) → HeldMessage m → Fit message_widths (message_row m)
message-fit m h = omega arith

-- ---- what is read from a row that was written

pub status-back : (s : Status) → status_of (status_number s) ≡ s
status-back Dead = refl
status-back Wait = refl
status-back Ok = refl
status-back Ready = refl

pub node-back : (v : Node) → node_from (node_row v) ≡ v
node-back v = rw (status-back v.status)

pub message-back : (m : Message) → message_from (message_row m) ≡ m
message-back m = refl

-- ---- what is written of a row that was read

pub number-back : (x : ℕ) → x ≤ 3 → status_number (status_of x) ≡ x
number-back x h = go (eqb x 1) (eqb x 2) (eqb x 3) refl refl refl
  where
    go : (a b c : Bool) → eqb x 1 ≡ a → eqb x 2 ≡ b → eqb x 3 ≡ c → status_number (cond a Wait (cond b Ok (cond c Ready Dead))) ≡ x
    go true b c p q r = sym (eqb-true x 1 p)
    go false true c p q r = sym (eqb-true x 2 q)
    go false false true p q r = sym (eqb-true x 3 r)
    go false false false p q r = omega (arith, eqb-false x 1 p, eqb-false x 2 q, eqb-false x 3 r)

-- n fields of a row, from field i on
unfoldable fields_from : ℕ → ℕ → List ℕ → List ℕ
fields_from zero i r = []
fields_from (suc n) i r = get_or r i 0 ∷ fields_from n (suc i) r

fields-all : (n i : ℕ) (r : List ℕ) → i + n ≡ length r → fields_from n i r ≡ drop i r
unfolding fields_from
fields-all zero i r e = sym (drop_of_length-le r {i = i} (omega arith))
fields-all (suc n) i r e = rw (fields-all n (suc i) r (omega arith), drop-cons r i 0 (omega arith))

pub header-row-back : (r : List ℕ) → length r ≡ 8
    → get_or r 0 0 ∷ get_or r 1 0 ∷ get_or r 2 0 ∷ get_or r 3 0 ∷ get_or r 4 0 ∷ get_or r 5 0 ∷ get_or r 6 0 ∷ get_or r 7 0 ∷ [] ≡ r
unfolding fields_from
header-row-back r e = fields-all 8 0 r (sym e)

pub node-row-back : (r : List ℕ) → length r ≡ 9 → get_or r 1 0 ≤ 3 → node_row (node_from r) ≡ r
unfolding fields_from
node-row-back r e h = rw (number-back (get_or r 1 0) h) (fields-all 9 0 r (sym e))

pub message-row-back : (r : List ℕ) → length r ≡ 10 → message_row (message_from r) ≡ r
unfolding fields_from
message-row-back r e = fields-all 10 0 r (sym e)

-- ---- lists of them

pub map_back : {A B : Type 0} (f : A → B) (g : B → A) (d : B) (ys : List B)
    → ((i : ℕ) → i < length ys → f (g (get_or ys i d)) ≡ get_or ys i d) → map f (map g ys) ≡ ys
map_back f g d [] e = refl
map_back f g d (y ∷ ys) e = ap₂ ◌∷◌ (e zero (omega arith)) (map_back f g d ys (λ i h. e (suc i) (omega arith)))

pub map_at : {A B : Type 0} (f : A → B) (d : A) (z : B) (xs : List A) (i : ℕ) → i < length xs → get_or (map f xs) i z ≡ f (get_or xs i d)
map_at f d z [] i h = absurd (omega arith)
map_at f d z (x ∷ xs) zero h = refl
map_at f d z (x ∷ xs) (suc i) h = map_at f d z xs i (omega arith)
