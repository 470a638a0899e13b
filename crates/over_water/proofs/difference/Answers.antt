-- `over_water::difference` meets its contract: each amount has 32 bits, so every difference is read back as the number meant. Assumes nothing.
use borrow.Author.Rules.{rules}
use mir.Syntax.{w32}
use mir.Val.{Fits}
use Rattle.water.specs.Water.{change_of}
use Rattle.over_water.proofs.Signed.{two-fit, three-fit, three-is, change-small}
use Rattle.over_water.proofs.difference.Goals as goal

pub overflow_sub-result : goal.overflow_sub-result
overflow_sub-result c = let rain : Fits w32 c.args.r.rain = search rules in
    let evap : Fits w32 c.args.r.evapotranspiration = search rules in
    two-fit _ _ rain evap

pub overflow_sub-result-2 : goal.overflow_sub-result-2
overflow_sub-result-2 c = let rain : Fits w32 c.args.r.rain = search rules in
    let evap : Fits w32 c.args.r.evapotranspiration = search rules in
    let runoff : Fits w32 c.args.r.runoff = search rules in
    three-fit _ _ _ rain evap runoff

pub returns : goal.returns
unfolding change_of
returns c = let rain : Fits w32 c.args.r.rain = search rules in
    let evap : Fits w32 c.args.r.evapotranspiration = search rules in
    let runoff : Fits w32 c.args.r.runoff = search rules in
    let is = three-is _ _ _ rain evap runoff in
    (is, rw is (change-small _ _ _ rain evap runoff))
