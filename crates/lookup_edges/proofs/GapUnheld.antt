-- A key that nobody covers, in a valid table under T-08's hypotheses: of the table `gap` of Unheld. Assumes nothing.
use mathlib.Core.Bool.{not}
use mathlib.Core.List.{[]}
use native.Mathlib.Omega.{arith}
use borrow.Author.Tests.{not-true}
use Rattle.marks.proofs.Laws.{each}
use Rattle.rules.specs.Pool.{laid}
use Rattle.lookup_laws.specs.Fates.{covers_at}
use Rattle.lookup_laws.specs.Joining.{NobodyCovers, SomeUnheld}
use Rattle.lookup_edges.proofs.Unheld.{close-told, own-told, gap, gap-computes}

pub gap-unheld : NobodyCovers gap (laid []) 1
gap-unheld =
    let c = gap-computes in
    record {
      valid = c.0;
      flanked = record { close = close-told gap c.1; own = λ two. own-told gap c.2 };
      two = omega (arith, c.3);
      unsettled = c.4;
      key = c.6;
      nobody = λ i h. not-true _ (each gap.n (λ s. not (covers_at gap s 1)) i c.5 h);
    }

pub some-unheld : SomeUnheld
some-unheld = (gap, laid [], 1, gap-unheld)
