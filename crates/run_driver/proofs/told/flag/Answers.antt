-- `run_driver::flag` meets its contract: no room, or one byte. Assumes nothing.
use mathlib.Core.Path.{refl}
use native.Mathlib.Omega.{arith}
use Rattle.run_driver.proofs.Results.{no_room_lem, put-says}
use Rattle.run_driver.proofs.told.flag.Goals as goal

pub returns-then-out-lt1 : goal.returns-then-out-lt1
returns-then-out-lt1 c = no_room_lem _ _ 1 refl (omega arith) c.refused_by.ensures

pub returns : goal.returns
returns c = put-says _ _ c.put_byte-count.ensures
