-- A file longer than any table file gets its number from its header alone, 8 or 9 (`listing-long`). So a program that keeps only the first
-- bytes of its input, more than a table file has, prints the listing of the whole (`listing-cut`). The idea: the header is read of the first
-- 32 bytes, and no counts give such a length. Assumes nothing.
use mathlib.Core.Path.{◌≡◌, refl, sym, ◌∙◌, ap}
use mathlib.Core.Logic.{◌⊎◌, inl, inr}
use mathlib.Core.Bool.{Bool, true, false, cond, ◌&&◌}
use mathlib.Core.List.{List, [], ◌∷◌}
use Prim.Native.Nat.{ℕ, zero, suc, ◌-◌, ◌<◌, ◌≤◌}
use native.Mathlib.Omega.{arith}
use borrow.Author.Tests.{leb-true, le-ltb}
use lib.Dec.{eqb, leb, ltb}
use lib.ListN.{length, take, drop, length-take}
use lib.Seq.{take_all, take-nil, take-take}
use Rattle.marks.proofs.Bools.{and_left, and_right, bool_false, lt-or-le}
use Rattle.rules.specs.declared.Refusal.{Refusal}
use Rattle.rules.specs.declared.Refusal.TheVariants as no
use Rattle.rules.specs.Fits.{between}
use Rattle.rules.specs.Pool.{laid}
use Rattle.table.specs.Settle.{refused_of}
use Rattle.table_type.specs.Start.{no_table}
use Rattle.words.specs.Bytes.{decode}
use Rattle.words.proofs.Codec.{bytes_in}
use Rattle.file.specs.Format.{header_widths, total_of}
use Rattle.file.specs.Load.{header_word, file_m, file_l, file_n, file_count, header_fits, offsets_fit, load_of}
use Rattle.file.proofs.Back.{header-told}
use Rattle.listing.specs.Print.{print_of, listing_of}

-- ---- the header is read of the first bytes

drop-cut : (w k : ℕ) (bs : List ℕ) → w ≤ k → drop w (take k bs) ≡ take (k - w) (drop w bs)
drop-cut zero k bs h = let e : k - 0 ≡ k = omega arith in rw e
drop-cut (suc w) zero bs h = absurd (omega arith)
drop-cut (suc w) (suc k) [] h = sym (take-nil (suc k - suc w))
drop-cut (suc w) (suc k) (b ∷ bs) h = let e : suc k - suc w ≡ k - w = omega arith in rw e (drop-cut w k bs (omega arith))

decode-cut : (ws : List ℕ) (k : ℕ) (bs : List ℕ) → bytes_in ws ≤ k → decode ws (take k bs) ≡ decode ws bs
unfolding decode
decode-cut [] k bs h = refl
decode-cut (w ∷ ws) k bs h =
    rw (take-take w k bs (omega arith), drop-cut w k bs (omega arith), decode-cut ws (k - w) (drop w bs) (omega arith))

header-cut : (k : ℕ) (bs : List ℕ) → 32 ≤ k → header_fits (take k bs) ≡ header_fits bs
unfolding header_fits
header-cut k bs h = rw (decode-cut header_widths k bs h)

-- ---- no counts give such a length

total-most : (bs : List ℕ) → header_fits bs ≡ true → total_of (file_n bs) (file_count bs) ≤ 18464
unfolding header_fits
total-most bs e =
    let c = between 1 (file_n bs) 64 in
    let d = leb (file_count bs) 256 in
    let f = eqb (header_word bs 7) 0 in
    let rest = and_right (between 1 (file_l bs) 8) (c && (d && f)) (and_right (between 2 (file_m bs) 32) _ e) in
    let n = leb-true (file_n bs) 64 (and_right (leb 1 (file_n bs)) _ (and_left c (d && f) rest)) in
    let count = leb-true (file_count bs) 256 (and_left d f (and_right c (d && f) rest)) in
    omega arith

offsets-long : (bs : List ℕ) → header_fits bs ≡ true → 18464 < length bs → offsets_fit bs ≡ false
offsets-long bs e h = bool_false (offsets_fit bs) (λ o. omega (arith, (header-told bs e o).long, total-most bs e))

-- ---- the listing of a longer file

-- 8 or 9, as the header says
abbrev pub long_refusal : List ℕ → Refusal
long_refusal bs = cond (header_fits bs) no.Offsets no.Header

pub listing-long : (bs : List ℕ) → 18464 < length bs → listing_of bs ≡ print_of (refused_of no_table (laid []) (long_refusal bs))
unfolding listing_of load_of
listing-long bs h = go (header_fits bs) refl
  where
    short : ltb (length bs) 32 ≡ false
    short = le-ltb (length bs) 32 (omega arith)

    go : (b : Bool) → header_fits bs ≡ b
        → print_of (load_of bs no_table (laid []) 256) ≡ print_of (refused_of no_table (laid []) (cond b no.Offsets no.Header))
    go true e = rw (short, e, offsets-long bs e h)
    go false e = rw (short, e)

pub listing-cut : (k : ℕ) (bs : List ℕ) → 18464 < k → listing_of (take k bs) ≡ listing_of bs
listing-cut k bs h = go (lt-or-le k (length bs))
  where
    go : (k < length bs) ⊎ (length bs ≤ k) → listing_of (take k bs) ≡ listing_of bs
    go (inl l) =
        let long : 18464 < length (take k bs) = rw length-take (omega arith) in
        listing-long (take k bs) long
        ∙ ap (λ (b : Bool). print_of (refused_of no_table (laid []) (cond b no.Offsets no.Header))) (header-cut k bs (omega arith))
        ∙ sym (listing-long bs (omega arith))
    go (inr l) = ap listing_of (take_all k bs l)
