-- The messages of a part: the one at a place is what a reader finds there, the part is the pool of a table file, and what becomes of the messages when a
-- record is taken out or written behind the last. Assumes nothing.
use mathlib.Core.Path.{◌≡◌, refl, sym, ◌∙◌, ap, ap₂}
use mathlib.Core.List.{List, [], ◌∷◌, ◌++◌, map, append-nil}
use Prim.Native.Nat.{ℕ, zero, suc, ◌+◌, ◌*◌, ◌<◌}
use native.Mathlib.Omega.{arith}
use lib.ListN.{length, get_or, take, drop, length-map}
use lib.Seq.{take-take}
use Rattle.rules.specs.declared.Message.{Message}
use Rattle.rules.specs.Pool.{blank, laid}
use Rattle.rules.specs.Mail.{removed_at}
use Rattle.words.specs.Bytes.{number_of, encode, decode, decode_all}
use Rattle.words.proofs.Codec.{bytes_in, decode-encode}
use Rattle.file.specs.Format.{message_widths, message_row, message_from}
use Rattle.file.specs.Held.{HeldMessage}
use Rattle.file.specs.Load.{part_pool}
use Rattle.file.proofs.Rows.{message-fit, message-back, map_at}
use Rattle.image.specs.InnerRecords.{records_in, closed_up, message_of, messages_in}
use Rattle.image.proofs.Records.{drop-take, records-length, record-at}

-- ---- a record is told by its own bytes

decode-own : (ws bs : List ℕ) → decode ws (take (bytes_in ws) bs) ≡ decode ws bs
unfolding decode
decode-own [] bs = refl
decode-own (w ∷ ws) bs =
    let r = bytes_in ws in
    ap₂ ◌∷◌ (ap number_of (take-take w (w + r) bs (omega arith))) (ap (decode ws) (drop-take w r bs) ∙ decode-own ws (drop w bs))

pub own-bytes : (bs : List ℕ) → message_of (take 56 bs) ≡ message_from (decode message_widths bs)
own-bytes bs = ap message_from (decode-own message_widths bs)

-- ---- the messages of a part

pub messages-length : (n : ℕ) (bs : List ℕ) → length (messages_in n bs) ≡ n
unfolding messages_in
messages-length n bs = length-map (records_in 56 n bs) message_of ∙ records-length 56 n bs

pub message-at : (n : ℕ) (bs : List ℕ) (k : ℕ) → k < n → get_or (messages_in n bs) k blank ≡ message_from (decode message_widths (drop (56 * k) bs))
unfolding messages_in
message-at n bs k h =
    map_at message_of [] blank (records_in 56 n bs) k (omega (arith, records-length 56 n bs))
    ∙ ap message_of (record-at 56 n k bs h)
    ∙ own-bytes (drop (56 * k) bs)

rows_are : (n : ℕ) (bs : List ℕ) → map message_of (records_in 56 n bs) ≡ map message_from (decode_all message_widths 56 n bs)
unfolding records_in decode_all
rows_are zero bs = refl
rows_are (suc n) bs = ap₂ ◌∷◌ (own-bytes bs) (rows_are n (drop 56 bs))

-- the part of a table file that begins at the message offset has the pool of its messages
pub part-pool : (n : ℕ) (bs : List ℕ) → part_pool n bs ≡ laid (messages_in n bs)
unfolding part_pool messages_in
part-pool n bs = ap laid (sym (rows_are n bs))

-- ---- lists of them

map-append : {A B : Type 0} (f : A → B) (xs ys : List A) → map f (xs ++ ys) ≡ map f xs ++ map f ys
map-append f [] ys = refl
map-append f (x ∷ xs) ys = ap (λ (l : List _). f x ∷ l) (map-append f xs ys)

map-take : {A B : Type 0} (f : A → B) (n : ℕ) (xs : List A) → map f (take n xs) ≡ take n (map f xs)
map-take f zero xs = refl
map-take f (suc n) [] = refl
map-take f (suc n) (x ∷ xs) = ap (λ (l : List _). f x ∷ l) (map-take f n xs)

map-drop : {A B : Type 0} (f : A → B) (n : ℕ) (xs : List A) → map f (drop n xs) ≡ drop n (map f xs)
map-drop f zero xs = refl
map-drop f (suc n) [] = refl
map-drop f (suc n) (x ∷ xs) = map-drop f n xs

-- ---- what becomes of them

-- a record out of them is a message out of them
pub removed : (m n p : ℕ) (bs new : List ℕ) → records_in 56 m new ≡ closed_up (records_in 56 n bs) p → messages_in m new ≡ removed_at (messages_in n bs) p
unfolding messages_in removed_at
removed m n p bs new e =
    let rs = records_in 56 n bs in
    ap (map message_of) e
    ∙ map-append message_of (take p rs) (drop (suc p) rs)
    ∙ ap₂ ◌++◌ (map-take message_of p rs) (map-drop message_of (suc p) rs)

-- a record more is a message more
pub one_more_lem : (n : ℕ) (r bs new : List ℕ) → records_in 56 (n + 1) new ≡ records_in 56 n bs ++ (r ∷ [])
    → messages_in (n + 1) new ≡ messages_in n bs ++ (message_of r ∷ [])
unfolding messages_in
one_more_lem n r bs new e = ap (map message_of) e ∙ map-append message_of (records_in 56 n bs) (r ∷ [])

-- what was written of a message is read
pub read_back : (m : Message) → HeldMessage m → message_of (encode message_widths (message_row m)) ≡ m
read_back m h =
    ap message_from
    (ap (decode message_widths) (sym (append-nil (encode message_widths (message_row m)))) ∙ decode-encode message_widths (message_row m) [] (message-fit m h))
    ∙ message-back m
