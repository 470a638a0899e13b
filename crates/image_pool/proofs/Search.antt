-- A search through the messages of a part, once a place is away: what was read at a place is the message there of what is left, and a search that passed the
-- messages before `at` ends as the definition says. Assumes nothing.
use Rattle.std.specs.Prelude.{Some, None}
use mathlib.Core.Path.{◌≡◌, sym, ◌∙◌, ap}
use mathlib.Core.Bool.{true, false}
use mathlib.Core.List.{List}
use Prim.Native.Nat.{ℕ, ◌+◌, ◌*◌, ◌<◌, ◌≤◌}
use native.Mathlib.Omega.{arith}
use borrow.Author.Count.{below_more}
use lib.ListN.{length, get_or, drop}
use Rattle.rules.specs.declared.Message.{Message}
use Rattle.rules.specs.Pool.{blank, message_at, waiting, laid}
use Rattle.rules.specs.Mail.{alike, first_equal, removed_at}
use Rattle.pool_laws.specs.InnerSending.{left_of, left_count, place_of}
use Rattle.pool_laws.proofs.Laid.{waiting-laid, laid-at, left-length, left_at, place-low}
use Rattle.pool_laws.proofs.Equal.{alike_same, first-equal-at, first-equal-none}
use Rattle.words.specs.Bytes.{decode}
use Rattle.file.specs.Format.{message_widths, message_from}
use Rattle.file_read.proofs.Laws.{field, message-read}
use Rattle.image.specs.InnerRecords.{messages_in}
use Rattle.image.proofs.Messages.{messages-length, message-at}

-- a record's word, read by itself, is the word of each message that the record's is alike to
pub word_of : (bs : List ℕ) (at x : ℕ) → x ≡ field 4 (at + 8) bs → (m : Message)
    → alike (message_from (decode message_widths (drop at bs))) m ≡ true → x ≡ m.word
word_of bs at x e m a =
    e ∙ sym (ap (λ (q : Message). q.word) (message-read bs at)) ∙ ap (λ (r : List ℕ). get_or r 2 0) (alike_same _ m a)

-- none of the messages before `at` equals m
pub record Missed (m : Message) (xs : List Message) (at : ℕ) : Type 0 where
  pub differ : (i : ℕ) → i < at → alike (get_or xs i blank) m ≡ false

module _ (count gone : ℕ) (bs : List ℕ) (m : Message) where
  abbrev xs : List Message
  xs = messages_in count bs

  abbrev ys : List Message
  ys = removed_at xs gone

  left_is : left_of (laid xs) gone ≡ ys
  left_is = ap (λ (l : List Message). removed_at l gone) (waiting-laid xs)

  counted : length (waiting (laid xs)) ≡ length xs
  counted = ap length (waiting-laid xs)

  left-long : length ys ≡ left_count count gone
  left-long = ap length (sym left_is) ∙ left-length (laid xs) gone counted ∙ ap (λ (n : ℕ). left_count n gone) (messages-length count bs)

  module _ (at place : ℕ) (l : at < left_count count gone) (f : place ≡ place_of gone at) where
    pub place_inside : place < count
    place_inside = rw f (place-low count gone at l)

    pub read_left : (q : Message) → q ≡ message_from (decode message_widths (drop (56 * place) bs)) → q ≡ get_or ys at blank
    read_left q e =
        let low : at < left_count (length xs) gone = rw (messages-length count bs) l in
        e
        ∙ sym (message-at count bs place place_inside)
        ∙ sym (laid-at xs place (omega (arith, place_inside, messages-length count bs)))
        ∙ ap (message_at (laid xs)) f
        ∙ sym (left_at (laid xs) gone counted at low)
        ∙ ap (λ (l : List Message). get_or l at blank) left_is

    pub hit : (q : Message) → q ≡ get_or ys at blank → alike q m ≡ true → Missed m ys at → first_equal ys m ≡ Some at
    hit q e a k = first-equal-at ys m at (omega (arith, left-long)) (ap (λ (x : Message). alike x m) (sym e) ∙ a) k.differ

  pub missed_more : (at : ℕ) (q : Message) → q ≡ get_or ys at blank → alike q m ≡ false → Missed m ys at → Missed m ys (at + 1)
  missed_more at q e a k = record { differ = below_more _ _ k.differ (ap (λ (x : Message). alike x m) (sym e) ∙ a) }

  pub missed-all : (at : ℕ) → left_count count gone ≤ at → Missed m ys at → first_equal ys m ≡ None
  missed-all at h k = first-equal-none ys m (λ t l. k.differ t (omega (arith, left-long)))
