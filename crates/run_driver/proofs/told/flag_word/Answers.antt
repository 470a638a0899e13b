-- `run_driver::flag_word` meets its contract: no room, or a byte and then a word. Assumes nothing.
use native.Mathlib.Omega.{arith}
use Rattle.words.proofs.Puts.{follow}
use Rattle.run_driver.proofs.Results.{no_room_lem, put-says, flag-word-size}
use Rattle.run_driver.proofs.told.flag_word.Goals as goal

pub returns-then-out-lt5 : goal.returns-then-out-lt5
returns-then-out-lt5 c = no_room_lem _ _ 5 (flag-word-size 0 _) (omega arith) c.refused_by.ensures

pub returns : goal.returns
returns c = put-says _ _ (follow c.put_byte-at.ensures c.write-count.ensures)
