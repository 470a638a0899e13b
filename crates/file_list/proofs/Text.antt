-- How long the parts of a listing are, and how its lines follow from one another. A line has at most 100 bytes: its keys and ids are below 2^32,
-- and a lookup is routed fewer than 64 times, with a letter each time. By induction on the messages. Assumes nothing.
use Rattle.marks.specs.Marks.{Found}
use Rattle.std.specs.Prelude.{Some, None}
use mathlib.Core.Path.{◌≡◌, refl, ◌∙◌}
use mathlib.Core.Bool.{Bool, true, false, cond}
use mathlib.Core.List.{List, [], ◌∷◌, ◌++◌, append_assoc, append-nil}
use Prim.Native.Nat.{ℕ, zero, suc, ◌+◌, ◌*◌, ◌^◌, ◌<◌, ◌≤◌}
use native.Mathlib.Omega.{arith}
use native.Mathlib.Nat.{lt_of_lt_of_le}
use native.Mathlib.Numerals.{add-one}
use borrow.Author.Tests.{eqb-true}
use lib.Dec.{eqb}
use lib.ListN.{length, take, get_or, length-append, length-take}
use lib.Pow.{pow_mono}
use lib.Seq.{get_or-take}
use Rattle.text.specs.Decimal.{decimal}
use Rattle.text.proofs.Digits.{decimal-few, decimal-word}
use Rattle.rules.specs.declared.Message.{Message}
use Rattle.rules.specs.declared.Pool.{Pool}
use Rattle.rules.specs.InnerAsks.{Below}
use Rattle.rules.specs.Pool.{blank}
use Rattle.table_type.specs.declared.Table.{Table}
use Rattle.table_type.specs.Table.{node_at}
use Rattle.table_type.proofs.IdLaws.{ids_at}
use Rattle.table.specs.Valid.{valid_of}
use Rattle.listing.specs.Trip.{follow_of}
use Rattle.listing.specs.Print.{end_text, via_text, line_of, lines_of}
use Rattle.file_list.proofs.Following.{Lone, lone, lone-listed, lone-slot, lone-key, follow-few, follow-below}

-- ---- a line

-- the lengths of its fields
pub line-length : (t : Table) (m : Message)
    → length (line_of t m)
    ≡ length (decimal m.word) + 1 + (length (decimal (node_at t m.dest).id) + 1)
    + (length (end_text t (follow_of t m).end) + 1
    + (length (decimal (length (follow_of t m).letters)) + 1 + (length (via_text (follow_of t m).letters) + 1)))
unfolding line_of
line-length t m = simp length-append (omega arith)

-- at least one byte, and else as many as letters
via-short : (letters : List ℕ) → length letters < 64 → length (via_text letters) ≤ 63
via-short [] h = omega arith
via-short (x ∷ xs) h = omega arith

module _ {t : Table} {m : Message} (l : Lone t m) where
  -- a number of the ring is a word
  ring-word : (x : ℕ) → x < 2 ^ t.m → x < 4294967296
  ring-word x h = lt_of_lt_of_le h (pow_mono (lone-listed l).width.high)

  id-short : (s : ℕ) → s < t.n → length (decimal (node_at t s).id) ≤ 10
  id-short s h =
      decimal-word (node_at t s).id
      (ring-word (node_at t s).id (rw (ids_at t.nodes s) at ((lone-listed l).ids-in s (omega (arith, (lone-listed l).n-high)))))

  end_short : (e : Found) → Below e t.n → length (end_text t e) ≤ 10
  end_short (Some e) h = id-short e h
  end_short None h = omega arith

  letters-few : length (follow_of t m).letters < 64
  letters-few = omega (arith, follow-few l, (lone-listed l).n-high)

  pub line-short : length (line_of t m) ≤ 100
  line-short =
      omega (
        arith,
        line-length t m,
        decimal-word m.word (ring-word m.word (lone-key l)),
        id-short m.dest (lone-slot l),
        end_short (follow_of t m).end (follow-below l),
        decimal-few 1 (length (follow_of t m).letters) (omega (arith, letters-few)),
        via-short (follow_of t m).letters letters-few,
      )

-- ---- lines

-- the line of a message, if it is a Lookup
abbrev pub line_if : Table → Message → List ℕ
line_if t m = cond (eqb m.kind 1) (line_of t m) []

lines_cons : (t : Table) (m : Message) (ms : List Message) → lines_of t (m ∷ ms) ≡ line_if t m ++ lines_of t ms
unfolding lines_of
lines_cons t m ms = go (eqb m.kind 1)
  where
    go : (b : Bool) → cond b (line_of t m ++ lines_of t ms) (lines_of t ms) ≡ cond b (line_of t m) [] ++ lines_of t ms
    go true = refl
    go false = refl

lines-suc : (t : Table) (ms : List Message) (q : ℕ) → q < length ms
    → lines_of t (take (suc q) ms) ≡ lines_of t (take q ms) ++ line_if t (get_or ms q blank)
unfolding lines_of
lines-suc t [] q h = absurd (omega arith)
lines-suc t (m ∷ ms) zero h = lines_cons t m [] ∙ append-nil (line_if t m)
lines-suc t (m ∷ ms) (suc q) h =
    lines_cons t m (take (suc q) ms) ∙ rw (lines-suc t ms q (omega arith), lines_cons t m (take q ms), append_assoc)

-- one message more
pub lines_more : (t : Table) (ms : List Message) (q : ℕ) → q < length ms
    → lines_of t (take (q + 1) ms) ≡ lines_of t (take q ms) ++ line_if t (get_or ms q blank)
lines_more t ms q h = rw add-one (lines-suc t ms q h)

-- each Lookup among the messages is one that waits alone
abbrev Loners : Table → List Message → Type 0
Loners t ms = (q : ℕ) → q < length ms → (get_or ms q blank).kind ≡ 1 → Lone t (get_or ms q blank)

line-if-short : (t : Table) (m : Message) → (m.kind ≡ 1 → Lone t m) → length (line_if t m) ≤ 100
line-if-short t m l = go (eqb m.kind 1) refl
  where
    go : (b : Bool) → eqb m.kind 1 ≡ b → length (cond b (line_of t m) []) ≤ 100
    go true e = line-short (l (eqb-true m.kind 1 e))
    go false e = omega arith

all_short : (t : Table) (ms : List Message) → Loners t ms → length (lines_of t ms) ≤ 100 * length ms
unfolding lines_of
all_short t [] l = omega arith
all_short t (m ∷ ms) l =
    rw (lines_cons t m ms, length-append)
    (omega (arith, line-if-short t m (l 0 (omega arith)), all_short t ms (λ q h. l (suc q) (omega arith))))

-- of the first messages of a valid table
pub lines-short : (t : Table) (p : Pool) → valid_of t p ≡ true → (q : ℕ) → q ≤ p.count
    → length (lines_of t (take q p.places)) ≤ 100 * q
lines-short t p v q h =
    let few = length-take q p.places in
    omega (
      arith,
      few,
      all_short t (take q p.places) (λ i l k.
          let j : i < q = omega (arith, few) in
          let same = get_or-take q p.places i blank j in
          rw same (lone t p v i (omega arith) (rw same at k))),
    )
