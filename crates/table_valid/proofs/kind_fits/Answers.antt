-- `table_valid::kind_fits` meets its contract: the kind that was matched decides what the definition asks. Assumes nothing.
use mathlib.Core.Path.{◌≡◌, refl}
use mathlib.Core.Logic.{◌⊎◌, inl, inr}
use mathlib.Core.Bool.{Bool, ◌&&◌}
use Prim.Native.Nat.{ℕ}
use Rattle.rules.specs.declared.Ring.{Ring}
use Rattle.rules.specs.declared.Message.{Message}
use Rattle.rules.specs.Fits.{is_kind, fields_fit, word_fits, flag_fits, carried_fits, owner_fits, routing_fits, failed_fits}
use Rattle.table_valid.proofs.kind_fits.Goals as goal

-- kinds that ask the same
key-same : (g : Ring) (m : Message) → fields_fit 1 g m ≡ fields_fit 6 g m
unfolding fields_fit word_fits flag_fits carried_fits owner_fits routing_fits failed_fits
key-same g m = refl

probe-same : (g : Ring) (m : Message) → fields_fit 4 g m ≡ fields_fit 5 g m
unfolding fields_fit word_fits flag_fits carried_fits owner_fits routing_fits failed_fits
probe-same g m = refl

key-case : (k : ℕ) (g : Ring) (m : Message) (r : Bool) → r ≡ fields_fit 1 g m → (k ≡ 1) ⊎ (k ≡ 6) → r ≡ (is_kind k && fields_fit k g m)
key-case k g m r p (inl e) = rw (p, e)
key-case k g m r p (inr e) = rw (p, e) (key-same g m)

pub returns-in-1 : goal.returns-in-1
returns-in-1 c = let a = c.args in key-case a.kind a.all.ring a.m _ c.key_fits.ensures c.in-1.is

pub returns-in-5 : goal.returns-in-5
returns-in-5 c = let a = c.args in
    rw (c.probe_fits-in-5.ensures, c.in-5.is) (probe-same a.all.ring a.m)
