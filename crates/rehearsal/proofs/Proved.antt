-- Proved, by name: each statement of Checks. Assumes nothing.
use Rattle.rehearsal.specs.Claims.{AcceptedExactly, FirstBad, StartBad}
use Rattle.rehearsal.specs.Claims.{SinglyWhole, SinglyFirst, EndStays, OverExactly, LookedAtExactly, OverAlways, OverKeeps, LastTable, OnLastFile}
use Rattle.rehearsal.proofs.Whole as whole
use Rattle.rehearsal.proofs.OneMore as next
use Rattle.rehearsal.proofs.Singly as singly
use Rattle.rehearsal.proofs.Over as over

pub accepted-exactly : AcceptedExactly
accepted-exactly = whole.accepted-exactly

pub first-bad : FirstBad
first-bad = whole.first-bad

pub start-bad : StartBad
start-bad = whole.start-bad

pub singly-whole : SinglyWhole
singly-whole = singly.singly-whole

pub singly-first : SinglyFirst
singly-first = singly.singly-first

pub end_stays : EndStays
end_stays = next.end_stays

pub over-exactly : OverExactly
over-exactly = over.over-exactly

pub looked-at-exactly : LookedAtExactly
looked-at-exactly = over.looked-at-exactly

pub over-always : OverAlways
over-always = next.over-always

pub over-keeps : OverKeeps
over-keeps = next.over-keeps

pub last-table : LastTable
last-table = singly.last-table

pub on-last-file : OnLastFile
on-last-file = singly.on-last-file
