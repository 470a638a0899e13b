-- `table_valid::has_farther` meets its contract: the slots farther from the key are the first on the walk away from it (`capped`). Assumes nothing.
use mathlib.Core.Path.{sym, ◌∙◌}
use native.Mathlib.Omega.{arith}
use Rattle.rules_laws.proofs.Capped.{capped}
use Rattle.table_valid.proofs.Hops.{other-id}
use Rattle.table_valid.proofs.has_farther.Goals as goal

pub is_farther-requires : goal.is_farther-requires
is_farther-requires c = let p = c.requires in
    let v = c.args.r.now.listed in
    let here = v.ids-in c.args.d (omega (arith, p.1, v.n-high)) in
    let there = v.ids-in c.along-s.result (omega (arith, c.along-s.ensures.0, v.n-high)) in (
      record { width = v.width; first = p.0; second = here },
      record { width = v.width; first = here; second = there },
      other-id v c.falls_to-up.result _ _ _ p.1 c.along-s.ensures.0 p.2 c.along-s.ensures.1,
      c.falls_to-up.ensures,
    )

pub returns : goal.returns
returns c = let p = c.requires in
    c.is_farther.ensures
    ∙ sym (capped c.args.r.now.listed _ _ p.0 p.1 _ (sym c.falls_to-up.ensures) _ _ p.2 p.3 c.along-s.ensures.0 c.along-s.ensures.1)
