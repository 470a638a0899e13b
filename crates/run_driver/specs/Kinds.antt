-- Beside 01: what the requests of one table file are answered: 0 load, 1 step, 2 start, 3 settled, 4 list, 11 step with its letter. Definitions only,
-- each under docs/DRIVER.md's words. Assumes nothing.
use Rattle.std.specs.Prelude.{cond, not, List, ℕ, ◌%◌, eqb, ltb, length, drop}
use Rattle.table_type.specs.declared.Stepped.{Stepped}
use Rattle.listing.specs.List.{list_of, listed_of}
use Rattle.face.specs.Calls.{loaded_of, begun_of, wrote_by, left_by, rest_by}
use Rattle.face_c.specs.Words.{pack_of, step_word, via_word, step_left}
use Rattle.run_driver.specs.Requests.{word_at, action_in, id_count, ids_in}
use Rattle.run_driver.specs.Replies.{Said, LedSaid, numbered, no_result, no_request, reply_by, reply_in, led_in, rest_said}

abbrev pub load_said : List ℕ → List ℕ → Said
load_said rest out = record { reply = reply_in (pack_of (wrote_by (loaded_of rest) out)); left = left_by (loaded_of rest) out }

-- a request too short for its arguments, and an unknown action, are malformed
unfoldable pub step_said : List ℕ → List ℕ → Said
step_said rest out = cond (ltb (length rest) 24) (no_result no_request out)
    (record { reply = reply_in (step_word (action_in rest) (drop 24 rest) out); left = step_left (action_in rest) (drop 24 rest) out })

-- the same step, with one byte before the file: `l`, `r`, or 0 where nothing was routed
unfoldable pub step_via_said : List ℕ → List ℕ → LedSaid
step_via_said rest out = cond (ltb (length rest) 24) (record { led = record { reply = numbered no_request; lead = 0 }; left = out })
    (record { led = led_in (via_word (action_in rest) (drop 24 rest) out); left = step_left (action_in rest) (drop 24 rest) out })

abbrev pub begun_said : Stepped → List ℕ → Said
begun_said s out = record { reply = reply_by (wrote_by s out); left = left_by s out }

-- ids that are not a whole number of 32-bit words are malformed
unfoldable pub start_said : List ℕ → List ℕ → Said
start_said rest out = cond (ltb (length rest) 24) (no_result no_request out)
    (cond (not (eqb (length rest % 4) 0)) (no_result no_request out)
    (begun_said (begun_of (word_at 0 rest) (word_at 8 rest) (word_at 16 rest) (ids_in (id_count rest) rest)) out))

abbrev pub settled_said : List ℕ → List ℕ → Said
settled_said rest out = rest_said (rest_by (loaded_of rest)) out

abbrev pub list_said : List ℕ → List ℕ → Said
list_said rest out = record { reply = reply_by (list_of rest out); left = listed_of rest out }
