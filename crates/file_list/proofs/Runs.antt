-- The line of a lookup is put together of its fields, the lines of the messages passed of theirs, and the line of a refused file of two texts.
-- Assumes nothing.
use Rattle.marks.specs.Marks.{Found}
use mathlib.Core.Path.{◌≡◌}
use mathlib.Core.Bool.{true}
use mathlib.Core.List.{List, [], ◌∷◌, ◌++◌, append_assoc, append-nil}
use Prim.Native.Nat.{ℕ, ◌+◌, ◌*◌, ◌<◌, ◌≤◌}
use native.Mathlib.Omega.{arith}
use borrow.Author.Tests.{ne_eqb}
use lib.ListN.{get_or, length, take}
use Rattle.rules.specs.declared.Message.{Message}
use Rattle.rules.specs.declared.Pool.{Pool}
use Rattle.rules.specs.declared.Refusal.{Refusal}
use Rattle.rules.specs.Numbers.{refusal_number}
use Rattle.rules.specs.Pool.{blank}
use Rattle.table_type.specs.declared.Table.{Table}
use Rattle.table.specs.Valid.{valid_of}
use Rattle.text.proofs.Runs.{then}
use Rattle.words.proofs.Puts.{put-length}
use Rattle.text.specs.Decimal.{decimal}
use Rattle.listing.specs.Print.{refused_word, via_text, hops_text, line_of, lines_of}
use Rattle.text.specs.InnerPrints.{Prints}
use Rattle.file_list.specs.InnerLine.{end_in, line_in}
use Rattle.file_list.proofs.Text.{lines_more, lines-short}

-- ---- a line

pub hops-run : {a b c d : List ℕ} {at i j k : ℕ} (letters : List ℕ) → Prints a at (decimal (length letters) ++ (32 ∷ [])) i b
    → Prints b i (via_text letters) j c → Prints c j (10 ∷ []) k d → Prints a at (hops_text letters) k d
hops-run letters p q r = simp append_assoc at (then p (then q r))

pub line-run : {a b c d e f : List ℕ} {at i j k l n : ℕ} (ids : List ℕ) (m : Message) (end : Found) (letters : List ℕ)
    → Prints a at (decimal m.word ++ (32 ∷ [])) i b → Prints b i (decimal (get_or ids m.dest 0) ++ (32 ∷ [])) j c
    → Prints c j (end_in ids end) k d → Prints d k (32 ∷ []) l e → Prints e l (hops_text letters) n f
    → Prints a at (line_in ids m end letters) n f
line-run ids m end letters p q r s u = simp append_assoc at (then p (then q (then r (then s u))))

-- ---- the lines of the messages passed

-- where they end
pub lines_end : (t : Table) (x : Pool) → valid_of t x ≡ true → (q : ℕ) → q ≤ x.count → {a b : List ℕ} {at i : ℕ}
    → Prints a at (lines_of t (take q x.places)) i b → (i ≤ at + 100 * q) × (length b ≡ length a)
lines_end t x v q h p = (omega (arith, p.next-is, lines-short t x v q h), put-length p)

module _ (t : Table) (ms : List Message) (q : ℕ) where
  module _ (h : q < length ms) where
    -- one lookup more
    pub lines-line : {a b c : List ℕ} {at i j : ℕ} → (get_or ms q blank).kind ≡ 1 → Prints a at (lines_of t (take q ms)) i b
        → Prints b i (line_of t (get_or ms q blank)) j c → Prints a at (lines_of t (take (q + 1) ms)) j c
    lines-line k p r = rw (lines_more t ms q h, k) (then p r)

    -- one other message more
    pub lines-skip : {a b : List ℕ} {at i : ℕ} → ((get_or ms q blank).kind ≡ 1 → ⊥) → Prints a at (lines_of t (take q ms)) i b
        → Prints a at (lines_of t (take (q + 1) ms)) i b
    lines-skip k p = rw (lines_more t ms q h, ne_eqb (get_or ms q blank).kind 1 k, append-nil) p

-- ---- a refused file

pub refused-run : {a b c : List ℕ} {i j x : ℕ} (why : Refusal) → x ≡ refusal_number why → Prints a 0 refused_word i b
    → Prints b i (decimal x ++ (10 ∷ [])) j c → Prints a 0 (refused_word ++ (decimal (refusal_number why) ++ (10 ∷ []))) j c
refused-run why e p q = rw (← e) (then p q)
