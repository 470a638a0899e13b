-- Proved, by name: each statement of Records. Assumes nothing.
use Rattle.water.specs.Claims.{InvalidExactly, OutOfRangeExactly, UnsettledExactly, NoRoomExactly, AcceptedExactly}
use Rattle.water.specs.Claims.{RefusedKeeps, GoesToCover, AcceptedHeld}
use Rattle.water.specs.Claims.{HeldExactly, OneEach, LooksUp, AtMost, SumIsLast, LastEachIs, CopiesNever}
use Rattle.water.proofs.Replies as replies
use Rattle.water.proofs.Last as last
use Rattle.water.proofs.After as after

pub invalid-exactly : InvalidExactly
invalid-exactly = replies.invalid-exactly

pub out-of-range-exactly : OutOfRangeExactly
out-of-range-exactly = replies.out-of-range-exactly

pub unsettled-exactly : UnsettledExactly
unsettled-exactly = replies.unsettled-exactly

pub no-room-exactly : NoRoomExactly
no-room-exactly = replies.no-room-exactly

pub accepted-exactly : AcceptedExactly
accepted-exactly = replies.accepted-exactly

pub refused-keeps : RefusedKeeps
refused-keeps = replies.refused-keeps

pub goes-to-cover : GoesToCover
goes-to-cover = replies.goes-to-cover

pub accepted-held : AcceptedHeld
accepted-held = replies.accepted-held

pub held-exactly : HeldExactly
held-exactly = after.held-exactly

pub one_each : OneEach
one_each = after.one_each

pub looks-up : LooksUp
looks-up = after.looks-up

pub at_most : AtMost
at_most = after.at_most

pub sum-is-last : SumIsLast
sum-is-last = after.sum-is-last

pub last-each-is : LastEachIs
last-each-is = last.last-each-is

pub copies-never : CopiesNever
copies-never = after.copies-never
