-- `file_list::follow` meets its contract. The invariants: the lines of the messages passed stand in the buffer; what remains of a lookup's way
-- gives its trip (Underway), and it was routed once a turn. Assumes nothing.
use mathlib.Core.Path.{◌≡◌}
use lib.ListN.{take}
use Rattle.listing.specs.Print.{lines_of}
use Rattle.text.specs.InnerPrints.{Prints}
use Rattle.file_list.proofs.Hops.{Underway}
use Rattle.file_list.proofs.follow.Given as goal

abbrev pub invariant-hops : goal.invariant-hops
invariant-hops l = (l.n ≡ l.hops) × Underway l.t l.m l.i l.hops l.letters l.end

abbrev pub invariant-lookups : goal.invariant-lookups
invariant-lookups l = Prints l.initial.b l.initial.at (lines_of l.t (take l.q l.p.places)) l.at l.b
