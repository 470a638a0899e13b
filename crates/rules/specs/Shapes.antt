-- The names that 01's answers and plans have here. Assumes nothing.
use Rattle.std.specs.Prelude.{Result}
use Rattle.rules.specs.declared.Refusal.{Refusal}
use Rattle.rules.specs.declared.Plan.{Plan}

-- done, or why not
abbrev pub Answer : Type 0
Answer = Result (Unit {0}) Refusal

-- what an action leaves of its node and adds to the pool, or why it may not be done
abbrev pub Planned : Type 0
Planned = Result Plan Refusal
