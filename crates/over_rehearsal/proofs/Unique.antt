-- Each public function has one reply for every input: any two that its contract allows are equal. Assumes nothing.
use mathlib.Core.Path.{◌≡◌, sym, ◌∙◌}
use mathlib.Core.List.{List}
use Prim.Native.Nat.{ℕ}
use Rattle.rules.specs.declared.Action.{Action}
use Rattle.rehearsal.specs.declared.Checker.{Checker}
use Rattle.rehearsal.specs.declared.Handed.{Handed}
use Rattle.rehearsal.specs.declared.Reply.{Reply}
use Rattle.over_rehearsal.specs.Contract.{Begin, Next, Number}

pub begin-unique : (file : List ℕ) (r r' : Checker) → Begin file r → Begin file r' → r ≡ r'
begin-unique file r r' h h' = h ∙ sym h'

pub next-unique : (c : Checker) (a : Action) (stated : List ℕ) (r r' : Handed) → Next c a stated r → Next c a stated r' → r ≡ r'
next-unique c a stated r r' h h' = h ∙ sym h'

pub number-unique : (r : Reply) (x x' : ℕ) → Number r x → Number r x' → x ≡ x'
number-unique r x x' h h' = h ∙ sym h'
