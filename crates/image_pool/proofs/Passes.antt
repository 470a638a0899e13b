-- A pass over the records that takes probes out: what one turn leaves (Keeps), and what all turns up to a place have left (Kept). Assumes nothing.
use mathlib.Core.Path.{◌≡◌, refl, sym, ◌∙◌, ap, ap₂}
use mathlib.Core.Bool.{Bool, true, false, cond}
use mathlib.Core.List.{List, [], ◌∷◌, ◌++◌, append-nil, append_assoc}
use Prim.Native.Nat.{ℕ, ◌+◌, ◌-◌, ◌*◌, ◌<◌, ◌≤◌}
use native.Mathlib.Numerals.{add-one}
use native.Mathlib.Omega.{arith}
use lib.ListN.{length, get_or, drop, length-drop, drop_of_length-le}
use lib.Seq.{paste, drop-cons, drop-drop}
use Rattle.rules.specs.declared.Message.{Message}
use Rattle.rules.specs.Pool.{blank}
use Rattle.rules.specs.Mail.{is_probe_from, without_probes}
use Rattle.words.specs.Bytes.{decode}
use Rattle.file.specs.Format.{message_widths, message_from}
use Rattle.image.specs.InnerRecords.{records_in, messages_in}
use Rattle.image.proofs.Records.{put-behind, put-long, put-past}
use Rattle.image.proofs.Messages.{own-bytes, messages-length, message-at, one_more_lem}
use Rattle.image_pool.specs.InnerTurns.{Keeps}

module _ (i j : ℕ) where
  gone_one : (m : Message) → is_probe_from i j m ≡ true → without_probes (m ∷ []) i j ≡ []
  unfolding without_probes
  gone_one m e = rw e

  stays-one : (m : Message) → is_probe_from i j m ≡ false → without_probes (m ∷ []) i j ≡ m ∷ []
  unfolding without_probes
  stays-one m e = rw e

  first_of : (x : Message) (xs : List Message) → without_probes (x ∷ xs) i j ≡ without_probes (x ∷ []) i j ++ without_probes xs i j
  unfolding without_probes
  first_of x xs = go (is_probe_from i j x)
    where
      go : (b : Bool) → cond b (without_probes xs i j) (x ∷ without_probes xs i j) ≡ cond b [] (x ∷ []) ++ without_probes xs i j
      go true = refl
      go false = refl

  -- ---- one turn

  module _ (at kept : ℕ) (bs : List ℕ) (m : Message) (e : m ≡ message_from (decode message_widths (drop (56 * at) bs))) where
    pub turn-passed : is_probe_from i j m ≡ true → Keeps i j at kept bs kept bs
    turn-passed p =
        record {
          few = omega arith;
          long = refl;
          stay = sym (ap (λ (l : List Message). messages_in kept bs ++ l) (gone_one _ (ap (is_probe_from i j) (sym e) ∙ p)) ∙ append-nil (messages_in kept bs));
          past = refl;
        }

    pub turn-kept : (new : List ℕ) → kept ≤ at → 56 * at + 56 ≤ length bs → is_probe_from i j m ≡ false
        → new ≡ paste bs (56 * kept) (drop (56 * kept + 56 * (at - kept)) bs) 56 → Keeps i j at kept bs (kept + 1) new
    turn-kept new l h p q =
        let from : 56 * kept + 56 * (at - kept) ≡ 56 * at = omega arith in
        let vs = drop (56 * at) bs in
        let moved : new ≡ paste bs (56 * kept) vs 56 = q ∙ ap (λ (f : ℕ). paste bs (56 * kept) (drop f bs) 56) from in
        let long : 56 ≤ length vs = rw length-drop (omega arith) in
        let one = message_from (decode message_widths vs) in
        let stayed : without_probes (one ∷ []) i j ≡ one ∷ [] = stays-one one (ap (is_probe_from i j) (sym e) ∙ p) in
        record {
          few = omega arith;
          long = put-long 56 kept bs vs new (omega arith) long moved;
          stay =
              one_more_lem kept _ bs new (put-behind 56 kept bs vs new (omega arith) long moved)
              ∙ ap (λ (x : Message). messages_in kept bs ++ (x ∷ [])) (own-bytes vs)
              ∙ ap (λ (xs : List Message). messages_in kept bs ++ xs) (sym stayed);
          past = put-past 56 kept bs vs new (omega arith) long moved (56 * (at + 1)) (omega arith);
        }

  -- ---- all turns

  -- of the messages before `at` those that stay are the first `kept`, and the records from there on are as they were
  pub record Kept (count : ℕ) (old : List ℕ) (at kept : ℕ) (part : List ℕ) : Type 0 where
    pub few : kept ≤ at
    pub long : length part ≡ length old
    pub whole : without_probes (messages_in count old) i j ≡ messages_in kept part ++ without_probes (drop at (messages_in count old)) i j
    pub past : drop (56 * at) part ≡ drop (56 * at) old

  module _ (count : ℕ) (old : List ℕ) where
    abbrev xs : List Message
    xs = messages_in count old

    pub kept-none : Kept count old 0 0 old
    unfolding messages_in records_in
    kept-none = record { few = omega arith; long = refl; whole = refl; past = refl }

    pub kept_more : (at kept more : ℕ) (part new : List ℕ) → at < count → Kept count old at kept part → Keeps i j at kept part more new
        → Kept count old (at + 1) more new
    kept_more at kept more part new h k t =
        let one = message_from (decode message_widths (drop (56 * at) part)) in
        let here : get_or xs at blank ≡ one =
        message-at count old at h ∙ ap (λ (bs : List ℕ). message_from (decode message_widths bs)) (sym k.past) in
        let rest : drop at xs ≡ one ∷ drop (at + 1) xs =
        drop-cons xs at blank (omega (arith, messages-length count old))
        ∙ ap₂ ◌∷◌ here (ap (λ (n : ℕ). drop n xs) (sym (add-one at))) in
        let next : 56 * (at + 1) ≡ 56 * at + 56 = omega arith in
        record {
          few = omega (arith, t.few, k.few);
          long = t.long ∙ k.long;
          whole =
              k.whole
              ∙ ap (λ (ys : List Message). messages_in kept part ++ without_probes ys i j) rest
              ∙ ap (λ (ys : List Message). messages_in kept part ++ ys) (first_of one (drop (at + 1) xs))
              ∙ sym (append_assoc (messages_in kept part) (without_probes (one ∷ []) i j) (without_probes (drop (at + 1) xs) i j))
              ∙ ap (λ (ys : List Message). ys ++ without_probes (drop (at + 1) xs) i j) (sym t.stay);
          past =
              t.past
              ∙ ap (λ (n : ℕ). drop n part) next
              ∙ sym (drop-drop 56 (56 * at) part)
              ∙ ap (drop 56) k.past
              ∙ drop-drop 56 (56 * at) old
              ∙ ap (λ (n : ℕ). drop n old) (sym next);
        }

    pub kept-all : (at kept : ℕ) (part : List ℕ) → count ≤ at → Kept count old at kept part → messages_in kept part ≡ without_probes xs i j
    unfolding without_probes
    kept-all at kept part h k =
        let none : drop at xs ≡ [] = drop_of_length-le xs {i = at} (omega (arith, messages-length count old)) in
        sym
        (k.whole
        ∙ ap (λ (ys : List Message). messages_in kept part ++ without_probes ys i j) none
        ∙ append-nil (messages_in kept part))
