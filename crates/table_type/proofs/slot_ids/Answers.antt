-- `table_type::slot_ids` meets its contract: the ids, and what is left of 64 zeros behind them. Assumes nothing.
use mathlib.Core.Path.{◌≡◌, sym, ◌∙◌, ap}
use mathlib.Core.List.{List, ◌++◌}
use Prim.Native.Nat.{ℕ, ◌+◌, ◌-◌, ◌≤◌}
use native.Mathlib.Omega.{arith}
use lib.ListN.{length, take, drop, replicate}
use Rattle.std.proofs.Math.Seq.{take-append-add}
use Rattle.std.proofs.lemmas.List.{drop-replicate, take-replicate}
use Rattle.start.specs.Start.{slot_ids}
use Rattle.table_type.proofs.slot_ids.Goals as goal

copied : (ids : List ℕ) → length ids ≤ 64 → ids ++ drop (length ids) (replicate 64 0) ≡ slot_ids ids
unfolding slot_ids
copied ids h =
    let e : length ids + (64 - length ids) ≡ 64 = omega arith in
    ap (λ (l : List ℕ). ids ++ l) (drop-replicate (length ids) 64 0 ∙ sym (take-replicate (64 - length ids) 64 0 (omega arith)))
    ∙ sym (take-append-add ids (replicate 64 0) (64 - length ids))
    ∙ ap (λ (n : ℕ). take n (ids ++ replicate 64 0)) e

pub returns : goal.returns
returns c = rw c.copy_from_slice.ensures.after (copied c.args.ids.now c.requires)
