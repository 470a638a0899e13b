-- What a reader computes is what the definitions say: a word of the header, the fields of a record, places filled one by one with the
-- records passed, and what the tests of a header tell of its counts. Assumes nothing.
use mathlib.Core.Path.{◌≡◌, refl, sym, ◌∙◌, ap}
use mathlib.Core.Bool.{true, ◌&&◌}
use mathlib.Core.List.{List, [], ◌∷◌, ◌++◌, map, map-append}
use Prim.Native.Nat.{ℕ, zero, suc, ◌+◌, ◌-◌, ◌*◌, ◌<◌, ◌≤◌}
use native.Mathlib.Nat.{add_assoc}
use native.Mathlib.Numerals.{add-one, unary_clauses}
use native.Mathlib.Omega.{arith}
use borrow.Author.Tests.{leb-true, eqb-true}
use lib.Dec.{eqb, leb}
use lib.ListN.{length, get_or, take, drop, set, replicate, length-map, length-drop}
use lib.Seq.{take_all, drop-cons, drop-drop, set_at, append_snoc}
use Rattle.marks.proofs.Bools.{and_left, and_right}
use Rattle.rules.specs.Limits.{m_low, m_high, l_low, l_high, nodes_high, messages_high}
use Rattle.rules.specs.Fits.{between}
use Rattle.words.specs.Bytes.{number_of, decode, decode_all}
use Rattle.words.proofs.Codec.{decode-all-length}
use Rattle.file.specs.Format.{node_widths, message_widths, nodes_at, messages_at, total_of, status_of, node_from, message_from}
use Rattle.file.proofs.Back.{header-told}
use Rattle.file_read.specs.InnerRecords.{Fitting}
use Rattle.file.specs.Load.{header_word, file_m, file_l, file_n, file_count, header_fits, offsets_fit}

-- the number whose w bytes begin at a place
abbrev pub field : ℕ → ℕ → List ℕ → ℕ
field w at bs = number_of (take w (drop at bs))

-- ---- the header

words-at : (n : ℕ) (bs : List ℕ) (i : ℕ) → i < n → get_or (decode (replicate n 4) bs) i 0 ≡ field 4 (4 * i) bs
unfolding decode
words-at zero bs i h = absurd (omega arith)
words-at (suc n) bs zero h = refl
words-at (suc n) bs (suc i) h =
    let more : 4 * suc i ≡ 4 + 4 * i = omega arith in
    rw (more, words-at n (drop 4 bs) i (omega arith), drop-drop)

pub header-word : (bs : List ℕ) (i : ℕ) → i < 8 → header_word bs i ≡ field 4 (4 * i) bs
header-word bs i h = words-at 8 bs i h

-- ---- records

pub node-read : (bs : List ℕ) (at : ℕ)
    → node_from (decode node_widths (drop at bs))
    ≡ record {
      id = field 4 at bs;
      status = status_of (field 4 (at + 4) bs);
      left = field 8 (at + 8) bs;
      right = field 8 (at + 16) bs;
      probing = field 8 (at + 24) bs;
      failed = field 8 (at + 32) bs;
      routing = field 8 (at + 40) bs;
      lease = field 8 (at + 48) bs;
      grant = field 8 (at + 56) bs;
    }
unfolding decode
node-read bs at = simp (drop-drop, add_assoc)

pub message-read : (bs : List ℕ) (at : ℕ)
    → message_from (decode message_widths (drop at bs))
    ≡ record {
      kind = field 4 at bs;
      dest = field 4 (at + 4) bs;
      word = field 4 (at + 8) bs;
      flag = field 4 (at + 12) bs;
      owner = field 4 (at + 16) bs;
      hops = field 4 (at + 20) bs;
      routing = field 8 (at + 24) bs;
      left = field 8 (at + 32) bs;
      right = field 8 (at + 40) bs;
      failed = field 8 (at + 48) bs;
    }
unfolding decode
message-read bs at = simp (drop-drop, add_assoc)

-- ---- a part

-- from a place to the end is all that is left behind it
pub rest-whole : (bs : List ℕ) (at : ℕ) → take (length bs - at) (drop at bs) ≡ drop at bs
rest-whole bs at = take_all (length bs - at) (drop at bs) (rw length-drop (omega arith))

-- ---- records one after the other

-- places, of which the first n hold the records passed and the others what they held
abbrev pub passed : {A : Type 0} → (List ℕ → A) → List ℕ → ℕ → List ℕ → List A → ℕ → List A
passed f ws size bs old n = map f (decode_all ws size n bs) ++ drop n old

decode-all-more : (ws : List ℕ) (size n : ℕ) (bs : List ℕ)
    → decode_all ws size (suc n) bs ≡ decode_all ws size n bs ++ (decode ws (drop (size * n) bs) ∷ [])
unfolding decode_all
decode-all-more ws size zero bs = simp unary_clauses
decode-all-more ws size (suc n) bs =
    let more : size * suc n ≡ size + size * n = omega arith in
    ap (λ (l : List (List ℕ)). decode ws bs ∷ l) (decode-all-more ws size n (drop size bs)) ∙ rw (more, drop-drop)

pub rows_long : {A : Type 0} (f : List ℕ → A) (ws : List ℕ) (size n : ℕ) (bs : List ℕ) → length (map f (decode_all ws size n bs)) ≡ n
rows_long f ws size n bs = length-map (decode_all ws size n bs) f ∙ decode-all-length ws size n bs

module _ {A : Type 0} (f : List ℕ → A) (ws : List ℕ) (size : ℕ) (bs : List ℕ) (old : List A) where
  pub passed_none : passed f ws size bs old 0 ≡ old
  unfolding decode_all
  passed_none = refl

  pub passed-more : (n : ℕ) (v : A) → n < length old → v ≡ f (decode ws (drop (size * n) bs))
      → set (passed f ws size bs old n) n v ≡ passed f ws size bs old (n + 1)
  passed-more n v h e =
      let done = map f (decode_all ws size n bs) in
      let rest = drop (suc n) old in
      rw (add-one, drop-cons old n v h, decode-all-more ws size n bs, map-append, ← e)
      (set_at done (get_or old n v) rest v n (rows_long f ws size n bs) ∙ sym (append_snoc done v rest))

-- ---- what the tests of a header tell

pub offsets-long : (bs : List ℕ) → offsets_fit bs ≡ true → length bs ≡ total_of (file_n bs) (file_count bs)
unfolding offsets_fit
offsets-long bs o =
    let x = eqb (header_word bs 4) nodes_at in
    let y = eqb (header_word bs 5) (messages_at (file_n bs)) in
    let z = eqb (header_word bs 6) (total_of (file_n bs) (file_count bs)) in
    let w = eqb (length bs) (total_of (file_n bs) (file_count bs)) in
    eqb-true _ _ (and_right z w (and_right y (z && w) (and_right x (y && (z && w)) o)))

pub header-counts : (bs : List ℕ) → header_fits bs ≡ true → (file_n bs ≤ 64) × (file_count bs ≤ 256)
unfolding header_fits
header-counts bs h =
    let a = between m_low (file_m bs) m_high in
    let b = between l_low (file_l bs) l_high in
    let c = between 1 (file_n bs) nodes_high in
    let d = leb (file_count bs) messages_high in
    let e = eqb (header_word bs 7) 0 in
    let cde = and_right b (c && (d && e)) (and_right a (b && (c && (d && e))) h) in (
      leb-true _ _ (and_right (leb 1 (file_n bs)) (leb (file_n bs) 64) (and_left c (d && e) cde)),
      leb-true _ _ (and_left d e (and_right c (d && e) cde)),
    )

-- the three parts of a file, and where the messages begin
pub fits_told : {bs : List ℕ} → Fitting bs
    → (length bs ≡ 32 + 64 * file_n bs + 56 * file_count bs) × ((file_n bs ≤ 64) × ((file_count bs ≤ 256) × (header_word bs 5 ≡ 32 + 64 * file_n bs)))
fits_told {bs} f =
    let told = header-told bs f.header f.offsets in
    let few = header-counts bs f.header in
    (told.long, (few.0, (few.1, told.messages)))
