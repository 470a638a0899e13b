-- Beside 01: what a request says: its kind, its arguments, and what is made of them. Definitions only, each under docs/DRIVER.md's words. Assumes nothing.
use Rattle.std.specs.Prelude.{cond, List, ℕ, ◌-◌, ◌/◌, ltb, length, take, drop, get_or, replicate, Option}
use Rattle.words.specs.Bytes.{number_of, decode}
use Rattle.rules.specs.declared.Action.{Action}
use Rattle.face_c.specs.Words.{asked_of}
use Rattle.water.specs.declared.Record.{Record}

-- one byte for the kind; 255, which is none, where there is none
abbrev pub kind_of : List ℕ → ℕ
kind_of request = get_or request 0 255

-- the word of 64 bits at a place of what follows the kind
abbrev pub word_at : ℕ → List ℕ → ℕ
word_at at rest = number_of (take 8 (drop at rest))

-- action, two words
unfoldable pub action_in : List ℕ → Option Action
action_in rest = asked_of (word_at 0 rest) (word_at 8 rest) (word_at 16 rest)

-- a record's fields have 32 bits, so a larger word is the largest field, which is out of range too
abbrev pub field_of : ℕ → ℕ
field_of x = cond (ltb x 4294967296) x 4294967295

-- key, month, rain, evapotranspiration, runoff
unfoldable pub record_in : List ℕ → Record
record_in rest =
    record {
      key = word_at 0 rest;
      month = field_of (word_at 8 rest);
      rain = field_of (word_at 16 rest);
      evapotranspiration = field_of (word_at 24 rest);
      runoff = field_of (word_at 32 rest);
    }

-- the ids behind the arguments of a start, 32 bits each: how many are looked at, since more than 64 are out of range anyhow
abbrev pub id_count : List ℕ → ℕ
id_count rest = let n = (length rest - 24) / 4 in cond (ltb n 65) n 65

unfoldable pub ids_in : ℕ → List ℕ → List ℕ
ids_in n rest = decode (replicate n 4) (drop 24 rest)
