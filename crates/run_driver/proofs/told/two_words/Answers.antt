-- `run_driver::two_words` meets its contract: no room, or a word and then a long one. Assumes nothing.
use native.Mathlib.Omega.{arith}
use Rattle.words.proofs.Puts.{follow}
use Rattle.run_driver.proofs.Results.{no_room_lem, put-says, two_size}
use Rattle.run_driver.proofs.told.two_words.Goals as goal

pub returns-then-out-lt12 : goal.returns-then-out-lt12
returns-then-out-lt12 c = no_room_lem _ _ 12 (two_size _ _) (omega arith) c.refused_by.ensures

pub returns : goal.returns
returns c = put-says _ _ (follow c.write-at.ensures c.write-count.ensures)
