-- `table_valid::message_fits` meets its contract: the fields by their callee, and the rest is the definition in another order. Assumes nothing.
use mathlib.Core.Path.{◌≡◌, refl}
use mathlib.Core.Bool.{Bool, true, false, ◌&&◌}
use lib.Dec.{ltb}
use Rattle.rules.specs.Fits.{is_kind, fields_fit, message_fits}
use Rattle.table_valid.proofs.message_fits.Goals as goal

kind-first : (a b c : Bool) → (a && (b && c)) ≡ (b && (a && c))
kind-first true b c = refl
kind-first false true c = refl
kind-first false false c = refl

pub returns : goal.returns
unfolding message_fits
returns c = let a = c.args in
    let m = a.m in
    rw c.kind_fits.ensures (kind-first (ltb m.dest a.all.ring.n) (is_kind m.kind) (fields_fit m.kind a.all.ring m))
