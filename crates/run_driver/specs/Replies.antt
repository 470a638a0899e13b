-- Beside 01: a reply: a number, and the bytes of a result, which stand first in a buffer. Definitions only, each under docs/DRIVER.md's words. Assumes nothing.
use Rattle.std.specs.Prelude.{◌≡◌, cond, List, [], ◌∷◌, ◌++◌, ℕ, ◌/◌, ◌%◌, ltb, length, drop, true, false, Ok, Err, Some, None}
use Rattle.words.specs.Bytes.{bytes_of}
use Rattle.rules.specs.Numbers.{refusal_number}
use Rattle.file.specs.Write.{Wrote, said_number, count_of}
use Rattle.face.specs.Asked.{Rest}
use Rattle.counts.specs.Counts.{First}
use Rattle.rehearsal.specs.Rehearsal.{Verdict}
use Rattle.run_driver.specs.declared.told.Reply.{Reply}
use Rattle.run_driver.specs.declared.told.Led.{Led}

-- a reply, and what the buffer then holds
pub record Said : Type 0 where
  pub reply : Reply
  pub left : List ℕ

-- a function that answers r and leaves the buffer so says x
pub record Says (x : Said) (r : Reply) (left : List ℕ) : Type 0 where
  pub reply-is : r ≡ x.reply
  pub left_is : left ≡ x.left

-- a number and no result
abbrev pub numbered : ℕ → Reply
numbered n = record { number = n; count = 0 }

abbrev pub no_result : ℕ → List ℕ → Said
no_result n out = record { reply = numbered n; left = out }

-- a malformed request gets the number 4294967295
abbrev pub no_request : ℕ
no_request = 4294967295

-- what a call of the table file wrote
abbrev pub reply_by : Wrote → Reply
reply_by w = record { number = said_number w; count = count_of w }

-- the same as one word: the number in its low 32 bits
abbrev pub reply_in : ℕ → Reply
reply_in x = record { number = x % 4294967296; count = x / 4294967296 }

-- a reply whose result has one byte before what the buffer holds
pub record LedSaid : Type 0 where
  pub led : Led
  pub left : List ℕ

pub record LeadsTo (x : LedSaid) (r : Led) (left : List ℕ) : Type 0 where
  pub led-is : r ≡ x.led
  pub left_is : left ≡ x.left

-- the word of a step with its letter: the number in its low 32 bits, the count in the next 24, the letter in the highest byte
abbrev pub led_in : ℕ → Led
led_in x = record { reply = record { number = x % 4294967296; count = x / 4294967296 % 16777216 }; lead = x / 72057594037927936 }

-- the bytes of a result, where there is room for them
unfoldable pub result_of : List ℕ → List ℕ → Said
result_of bs out = cond (ltb (length out) (length bs)) (no_result 11 out)
    (record { reply = record { number = 0; count = length bs }; left = bs ++ drop (length bs) out })

-- one byte, 0 or 1
abbrev pub rest_said : Rest → List ℕ → Said
rest_said (Ok true) out = result_of (1 ∷ []) out
rest_said (Ok false) out = result_of (0 ∷ []) out
rest_said (Err why) out = no_result (refusal_number why) out

-- one byte, 1 if it has a message and 0 if not; where it is 1, then a 32-bit word, the place of its first
abbrev pub first_said : First → List ℕ → Said
first_said (Ok (Some place)) out = result_of (1 ∷ bytes_of 4 (place % 4294967296)) out
first_said (Ok None) out = result_of (0 ∷ []) out
first_said (Err why) out = no_result (refusal_number why) out

-- one byte, 1 for accepted and 0 for not; where it is 0, then a 32-bit word, the number of the first bad step
abbrev pub verdict_said : Verdict → List ℕ → Said
verdict_said (Ok x) out = result_of (1 ∷ []) out
verdict_said (Err k) out = result_of (0 ∷ bytes_of 4 (k % 4294967296)) out
