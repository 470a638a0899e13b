-- The laws of Bytes, once for all widths: a number and its bytes, a record and its bytes, records one after the other, and a field of a
-- record as a reader computes it. Both round trips go field by field and record by record, by induction on the widths or on the number
-- of records. Assumes nothing.
use mathlib.Core.Path.{◌≡◌, refl, sym, ◌∙◌, ap, ap₂}
use mathlib.Core.List.{List, [], ◌∷◌, ◌++◌, append_assoc}
use Prim.Native.Nat.{ℕ, zero, suc, ◌+◌, ◌*◌, ◌/◌, ◌%◌, ◌^◌, ◌<◌, ◌≤◌}
use native.Mathlib.Nat.{add_assoc, pow-suc, pow-succ', div-one, div-div-eq-div-mul}
use native.Mathlib.Numerals.{unary_clauses}
use native.Mathlib.Omega.{arith}
use lib.ListN.{length, get_or, take, drop, length-append, length-take, length-drop}
use lib.Seq.{take_all, take-suc, take_at, drop_at, drop-drop, take-add, get_or-drop, length-take-le}
use Rattle.std.specs.Int.{byte_at, byte_worth, bytes_low_first, sum_through}
use Rattle.words.specs.Bytes.{bytes_of, number_of, encode, decode, encode_all, decode_all}

-- every byte is below 256
abbrev pub Bytes : List ℕ → Type 0
Bytes bs = (i : ℕ) → get_or bs i 0 < 256

-- a record of the widths ws: one number for each width, below 256 ^ width
abbrev pub Fit : List ℕ → List ℕ → Type 0
Fit [] [] = Unit {0}
Fit [] (x ∷ xs) = ⊥
Fit (w ∷ ws) [] = ⊥
Fit (w ∷ ws) (x ∷ xs) = (x < 256 ^ w) × Fit ws xs

-- how many bytes a record of the widths ws takes
abbrev pub bytes_in : List ℕ → ℕ
bytes_in [] = 0
bytes_in (w ∷ ws) = w + bytes_in ws

-- ---- parts of bytes are bytes

pub bytes_take : (w : ℕ) (bs : List ℕ) → Bytes bs → Bytes (take w bs)
bytes_take zero bs h i = omega arith
bytes_take (suc w) [] h i = omega arith
bytes_take (suc w) (b ∷ bs) h zero = h zero
bytes_take (suc w) (b ∷ bs) h (suc i) = bytes_take w bs (λ j. h (suc j)) i

pub bytes_drop : (w : ℕ) (bs : List ℕ) → Bytes bs → Bytes (drop w bs)
bytes_drop w bs h i = rw get_or-drop (h (w + i))

-- ---- a number and its bytes

pub bytes-length : (w x : ℕ) → length (bytes_of w x) ≡ w
unfolding bytes_of
bytes-length zero x = refl
bytes-length (suc w) x = ap suc (bytes-length w (x / 256))

pub number-bytes : (w x : ℕ) → x < 256 ^ w → number_of (bytes_of w x) ≡ x
unfolding bytes_of number_of
number-bytes zero x h = omega arith
number-bytes (suc w) x h = rw (number-bytes w (x / 256) (omega (arith, pow-succ' 256 w))) (omega arith)

pub bytes-number : (bs : List ℕ) → Bytes bs → bytes_of (length bs) (number_of bs) ≡ bs
unfolding bytes_of number_of
bytes-number [] h = refl
bytes-number (b ∷ bs) h =
    let low : b < 256 = h zero in
    let hi : (b + 256 * number_of bs) / 256 ≡ number_of bs = omega arith in
    let lo : (b + 256 * number_of bs) % 256 ≡ b = omega arith in
    rw (hi, lo, bytes-number bs (λ i. h (suc i)))

-- ---- a record and its bytes

pub fit_length : (ws xs : List ℕ) → Fit ws xs → length xs ≡ length ws
fit_length [] [] h = refl
fit_length [] (x ∷ xs) h = absurd h
fit_length (w ∷ ws) [] h = absurd h
fit_length (w ∷ ws) (x ∷ xs) h = ap suc (fit_length ws xs h.1)

pub encode-length : (ws xs : List ℕ) → length xs ≡ length ws → length (encode ws xs) ≡ bytes_in ws
unfolding encode
encode-length [] xs e = refl
encode-length (w ∷ ws) [] e = absurd (omega arith)
encode-length (w ∷ ws) (x ∷ xs) e = rw (length-append, bytes-length, encode-length ws xs (omega arith))

pub decode-length : (ws bs : List ℕ) → length (decode ws bs) ≡ length ws
unfolding decode
decode-length [] bs = refl
decode-length (w ∷ ws) bs = ap suc (decode-length ws (drop w bs))

-- the record that was written is read, whatever follows it
pub decode-encode : (ws xs rest : List ℕ) → Fit ws xs → decode ws (encode ws xs ++ rest) ≡ xs
unfolding encode decode
decode-encode [] [] rest h = refl
decode-encode [] (x ∷ xs) rest h = absurd h
decode-encode (w ∷ ws) [] rest h = absurd h
decode-encode (w ∷ ws) (x ∷ xs) rest h =
    let more = encode ws xs ++ rest in
    rw (append_assoc, take_at (bytes_of w x) more w (bytes-length w x), drop_at (bytes_of w x) more w (bytes-length w x))
    (rw (number-bytes w x h.0, decode-encode ws xs rest h.1))

-- the bytes that were read are written
pub encode-decode : (ws bs : List ℕ) → Bytes bs → bytes_in ws ≤ length bs → encode ws (decode ws bs) ≡ take (bytes_in ws) bs
unfolding encode decode
encode-decode [] bs h l = refl
encode-decode (w ∷ ws) bs h l =
    let n : length (take w bs) ≡ w = length-take w bs ∙ omega arith in
    let k : bytes_in ws ≤ length (drop w bs) = rw length-drop (omega arith) in
    ap₂ ◌++◌ (ap (λ (v : ℕ). bytes_of v (number_of (take w bs))) (sym n) ∙ bytes-number (take w bs) (bytes_take w bs h))
    (encode-decode ws (drop w bs) (bytes_drop w bs h) k)
    ∙ sym (take-add w (bytes_in ws) bs)

-- field i of the record that begins at base, as a reader computes it
pub decode-at : (ws bs : List ℕ) (base i : ℕ) → i < length ws
    → get_or (decode ws (drop base bs)) i 0 ≡ number_of (take (get_or ws i 0) (drop (base + bytes_in (take i ws)) bs))
unfolding decode
decode-at [] bs base i h = absurd (omega arith)
decode-at (w ∷ ws) bs base zero h = simp unary_clauses
decode-at (w ∷ ws) bs base (suc i) h = rw (drop-drop, decode-at ws bs (base + w) i (omega arith), add_assoc)

-- ---- records one after the other

pub encode-all-length : (ws : List ℕ) (rs : List (List ℕ)) → ((i : ℕ) → i < length rs → length (get_or rs i []) ≡ length ws)
    → length (encode_all ws rs) ≡ bytes_in ws * length rs
unfolding encode_all
encode-all-length ws [] e = omega arith
encode-all-length ws (r ∷ rs) e =
    rw (length-append, encode-length ws r (e zero (omega arith)), encode-all-length ws rs (λ i h. e (suc i) (omega arith))) (omega arith)

pub decode-all-length : (ws : List ℕ) (size n : ℕ) (bs : List ℕ) → length (decode_all ws size n bs) ≡ n
unfolding decode_all
decode-all-length ws size zero bs = refl
decode-all-length ws size (suc n) bs = ap suc (decode-all-length ws size n (drop size bs))

pub decode-all-at : (ws : List ℕ) (size n s : ℕ) (bs : List ℕ) → s < n
    → get_or (decode_all ws size n bs) s [] ≡ decode ws (drop (size * s) bs)
unfolding decode_all
decode-all-at ws size zero s bs h = absurd (omega arith)
decode-all-at ws size (suc n) zero bs h = simp unary_clauses
decode-all-at ws size (suc n) (suc s) bs h =
    let more : size * suc s ≡ size + size * s = omega arith in
    rw (more, decode-all-at ws size n s (drop size bs) (omega arith), drop-drop)

pub decode-encode-all : (ws : List ℕ) (size n : ℕ) (rs : List (List ℕ)) (rest : List ℕ) → bytes_in ws ≡ size → length rs ≡ n
    → ((i : ℕ) → i < n → Fit ws (get_or rs i [])) → decode_all ws size n (encode_all ws rs ++ rest) ≡ rs
unfolding encode_all decode_all
decode-encode-all ws size zero [] rest e l h = refl
decode-encode-all ws size zero (r ∷ rs) rest e l h = absurd (omega arith)
decode-encode-all ws size (suc n) [] rest e l h = absurd (omega arith)
decode-encode-all ws size (suc n) (r ∷ rs) rest e l h =
    let here = h zero (omega arith) in
    let more = encode_all ws rs ++ rest in
    rw (append_assoc, decode-encode ws r more here)
    (rw (drop_at (encode ws r) more size (encode-length ws r (fit_length ws r here) ∙ e))
    (ap (λ (l : List (List ℕ)). r ∷ l) (decode-encode-all ws size n rs rest e (omega arith) (λ i k. h (suc i) (omega arith)))))

pub encode-decode-all : (ws : List ℕ) (size n : ℕ) (bs : List ℕ) → bytes_in ws ≡ size → Bytes bs → size * n ≤ length bs
    → encode_all ws (decode_all ws size n bs) ≡ take (size * n) bs
unfolding encode_all decode_all
encode-decode-all ws size zero bs e h l = simp unary_clauses
encode-decode-all ws size (suc n) bs e h l =
    let k : size * n ≤ length (drop size bs) = rw length-drop (omega arith) in
    let more : size * suc n ≡ size + size * n = omega arith in
    ap₂ ◌++◌ (encode-decode ws bs h (omega arith) ∙ ap (λ (v : ℕ). take v bs) e)
    (encode-decode-all ws size n (drop size bs) e (bytes_drop size bs h) k)
    ∙ sym (rw more (take-add size (size * n) bs))

-- ---- words as the library's methods compute them

-- the w bytes of a number from byte i on
low-first : (w i x : ℕ) → bytes_low_first i w x ≡ bytes_of w (x / 256 ^ i)
unfolding bytes_of
low-first zero i x = refl
low-first (suc w) i x =
    let e : x / 256 ^ suc i ≡ x / 256 ^ i / 256 = rw pow-suc (sym (div-div-eq-div-mul x (256 ^ i) 256)) in
    ap₂ ◌∷◌ (here i) (low-first w (suc i) x ∙ ap (bytes_of w) e)
  where
    here : (i : ℕ) → byte_at i x ≡ x / 256 ^ i % 256
    here zero = rw div-one
    here (suc i) = refl

pub bytes-low : (w x : ℕ) → bytes_low_first 0 w x ≡ bytes_of w x
bytes-low w x = low-first w 0 x ∙ ap (bytes_of w) (div-one x)

number_append : (bs cs : List ℕ) → number_of (bs ++ cs) ≡ number_of bs + 256 ^ length bs * number_of cs
unfolding number_of
number_append [] cs = omega arith
number_append (b ∷ bs) cs = rw (number_append bs cs, pow-succ') (omega arith)

-- the bytes of a number, each for what it is worth at its place
number-sum : (n : ℕ) (bs : List ℕ) → n < length bs → number_of (take (suc n) bs) ≡ sum_through (λ i. byte_worth i (get_or bs i 0)) n
unfolding number_of
number-sum zero (b ∷ bs) h = omega arith
number-sum zero [] h = absurd (omega arith)
number-sum (suc n) bs h =
    let long : length (take (suc n) bs) ≡ suc n = length-take-le (suc n) bs (omega arith) in
    ap number_of (take-suc bs (suc n) 0 h) ∙ number_append (take (suc n) bs) (get_or bs (suc n) 0 ∷ [])
    ∙ rw (long, number-sum n bs (omega arith)) (omega arith)

pub number-worth : (n : ℕ) (bs : List ℕ) → length bs ≡ suc n → number_of bs ≡ sum_through (λ i. byte_worth i (get_or bs i 0)) n
number-worth n bs h = ap number_of (sym (take_all (suc n) bs (omega arith))) ∙ number-sum n bs (omega arith)
