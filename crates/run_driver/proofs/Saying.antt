-- What each request says, put together of what its calls say: a number alone, a result that a call wrote, and the cases of the definitions.
-- Assumes nothing.
use mathlib.Core.Path.{◌≡◌, refl, ◌∙◌, ap}
use mathlib.Core.List.{List}
use Prim.Native.Nat.{ℕ, ◌-◌, ◌%◌, ◌<◌, ◌≤◌}
use native.Mathlib.Omega.{arith}
use borrow.Author.Tests.{lt-ltb, le-ltb, eq-eqb, ne_eqb}
use lib.ListN.{length, take, drop, length-drop}
use lib.Seq.{take_all}
use Rattle.face.specs.Calls.{begun_of}
use Rattle.face_c.specs.Words.{asked_of, step_word, via_word, step_left}
use Rattle.run_driver.specs.declared.told.Reply.{Reply}
use Rattle.run_driver.specs.declared.told.Led.{Led}
use Rattle.run_driver.specs.Requests.{word_at, action_in, id_count, ids_in}
use Rattle.run_driver.specs.Replies.{Says, LeadsTo, numbered, no_result, no_request, reply_in, led_in}
use Rattle.run_driver.specs.Kinds.{step_said, step_via_said, begun_said, start_said}

-- a number alone
pub alone : {n : ℕ} {out : List ℕ} {r : Reply} → r ≡ numbered n → Says (no_result n out) r out
alone e = record { reply-is = e; left_is = refl }

-- from a place to the end is all that is left behind it
pub part-whole : (bs : List ℕ) (at : ℕ) → take (length bs - at) (drop at bs) ≡ drop at bs
part-whole bs at = take_all (length bs - at) (drop at bs) (rw length-drop (omega arith))

-- what a call wrote, as a word or as it is
pub packed : {x y : ℕ} {r : Reply} {new left : List ℕ} → r ≡ reply_in x → x ≡ y → new ≡ left → Says (record { reply = reply_in y; left = left }) r new
packed e f g = record { reply-is = e ∙ ap reply_in f; left_is = g }

pub action-is : (rest : List ℕ) {a b c : ℕ} → a ≡ word_at 0 rest → b ≡ word_at 8 rest → c ≡ word_at 16 rest → asked_of a b c ≡ action_in rest
unfolding action_in
action-is rest p q s = rw (p, q, s)

module _ (rest out : List ℕ) where
  pub step-short : length rest < 24 → {r : Reply} → r ≡ numbered no_request → Says (step_said rest out) r out
  unfolding step_said
  step-short h e = rw (lt-ltb (length rest) 24 h) (alone e)

  pub step-says : 24 ≤ length rest → {a b c x : ℕ} {part new : List ℕ} {r : Reply} → a ≡ word_at 0 rest → b ≡ word_at 8 rest → c ≡ word_at 16 rest
      → part ≡ drop 24 rest → r ≡ reply_in x → x ≡ step_word (asked_of a b c) part out → new ≡ step_left (asked_of a b c) part out
      → Says (step_said rest out) r new
  unfolding step_said
  step-says h p q s d e f g = rw (le-ltb (length rest) 24 h, ← (action-is rest p q s), ← d) (packed e f g)

  pub step-via-short : length rest < 24 → {r : Reply} → r ≡ numbered no_request
      → LeadsTo (step_via_said rest out) (record { reply = r; lead = 0 }) out
  unfolding step_via_said
  step-via-short h e = rw (lt-ltb (length rest) 24 h) (record { led-is = rw e; left_is = refl })

  pub step-via-says : 24 ≤ length rest → {a b c x : ℕ} {part new : List ℕ} {r : Led} → a ≡ word_at 0 rest → b ≡ word_at 8 rest → c ≡ word_at 16 rest
      → part ≡ drop 24 rest → r ≡ led_in x → x ≡ via_word (asked_of a b c) part out → new ≡ step_left (asked_of a b c) part out
      → LeadsTo (step_via_said rest out) r new
  unfolding step_via_said
  step-via-says h p q s d e f g =
      rw (le-ltb (length rest) 24 h, ← (action-is rest p q s), ← d) (record { led-is = e ∙ ap led_in f; left_is = g })

  pub start-short : length rest < 24 → {r : Reply} → r ≡ numbered no_request → Says (start_said rest out) r out
  unfolding start_said
  start-short h e = rw (lt-ltb (length rest) 24 h) (alone e)

  module _ (h : 24 ≤ length rest) where
    pub start-odd : (length rest % 4 ≡ 0 → ⊥) → {r : Reply} → r ≡ numbered no_request → Says (start_said rest out) r out
    unfolding start_said
    start-odd d e = rw (le-ltb (length rest) 24 h, ne_eqb (length rest % 4) 0 d) (alone e)

    pub start-says : length rest % 4 ≡ 0 → {n : ℕ} {ids new : List ℕ} {r : Reply} → n ≡ id_count rest → ids ≡ ids_in n rest
        → Says (begun_said (begun_of (word_at 0 rest) (word_at 8 rest) (word_at 16 rest) ids) out) r new → Says (start_said rest out) r new
    unfolding start_said
    start-says d c i s = rw (le-ltb (length rest) 24 h, eq-eqb (length rest % 4) 0 d, ← c, ← i) s
