-- `run_driver::three_words` meets its contract: no room, or a word and then two long ones. Assumes nothing.
use native.Mathlib.Omega.{arith}
use Rattle.words.proofs.Puts.{follow}
use Rattle.run_driver.proofs.Results.{no_room_lem, put-says, three-size}
use Rattle.run_driver.proofs.told.three_words.Goals as goal

pub returns-then-out-lt20 : goal.returns-then-out-lt20
returns-then-out-lt20 c = no_room_lem _ _ 20 (three-size _ _ _) (omega arith) c.refused_by.ensures

pub returns : goal.returns
returns c = put-says _ _ (follow c.write-a1.ensures (follow c.write-a2.ensures c.write-count.ensures))
