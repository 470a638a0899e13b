-- `over_counts::agree` meets its contract: its own counts are compared with those given. Assumes nothing.
use mathlib.Core.Path.{◌≡◌, sym, ◌∙◌}
use lib.ListN.{length}
use Rattle.std.proofs.lemmas.Bool.Decides.{Decides-eqb}
use Rattle.std.proofs.lemmas.Slice.Eq.{slice_eq-Decides}
use Rattle.marks.proofs.Bools.{bool_same}
use Rattle.counts.proofs.ByCase.{same-agrees}
use Rattle.over_counts.proofs.agree.Goals as goal

pub returns : goal.returns
returns c =
    let same = slice_eq-Decides Decides-eqb c.args.counts c.counts_of.result _ c.eq.ensures in
    let long : length c.args.counts ≡ 64 = c.well_formed.0.1.0.1 in
    let agrees = same-agrees c.args.counts c.args.p long in
    bool_same _ _ (λ e. agrees.0 (same.0 e ∙ c.counts_of.ensures)) (λ e. same.1 (agrees.1 e ∙ sym c.counts_of.ensures))
