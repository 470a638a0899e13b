-- Proved, by name: each statement of Holds. Assumes nothing.
use Rattle.holder.specs.Claims.{EveryKeyHeld, HeldByCover, HeldOnly, NotAskedExactly, OutExactly, UnsettledExactly}
use Rattle.holder.proofs.Answers as answers

pub every-key-held : EveryKeyHeld
every-key-held = answers.every-key-held

pub held-by-cover : HeldByCover
held-by-cover = answers.held-by-cover

pub held-only : HeldOnly
held-only = answers.held-only

pub not-asked-exactly : NotAskedExactly
not-asked-exactly = answers.not-asked-exactly

pub out-exactly : OutExactly
out-exactly = answers.out-exactly

pub unsettled-exactly : UnsettledExactly
unsettled-exactly = answers.unsettled-exactly
