-- 01's numbers: of a status, and of the answers; T-01's letters, as bytes. Assumes nothing.
use Rattle.rules.specs.Shapes.{Answer}
use Rattle.std.specs.Prelude.{ℕ, Ok, Err}
use Rattle.rules.specs.declared.Status.{Status}
use Rattle.rules.specs.declared.Status.TheVariants as status
use Rattle.rules.specs.declared.Refusal.{Refusal}
use Rattle.rules.specs.declared.Refusal.TheVariants as no
use Rattle.rules.specs.declared.Via.{Via}
use Rattle.rules.specs.declared.Via.TheVariants as via

-- one of four, for dead, wait, ok and ready
abbrev pub by_status : {A : Type 0} → A → A → A → A → Status → A
by_status dead wait ok ready status.Dead = dead
by_status dead wait ok ready status.Wait = wait
by_status dead wait ok ready status.Ok = ok
by_status dead wait ok ready status.Ready = ready

-- status (0 dead, 1 wait, 2 ok, 3 ready)
abbrev pub status_number : Status → ℕ
status_number s = by_status 0 1 2 3 s

-- 1 slot, place or key out of range; 2 status forbids it; 3 the same request already waits; 4 leaf set empty, not empty or incomplete, as named;
-- 5 sender or partner not allowed; 6 the pool after the step would exceed 256; 7 file shorter than 32 bytes;
-- 8 M, L, n or message count out of range, or last header word not 0; 9 an offset, the total or the real length disagrees with the counts;
-- 10 a table, record or start list breaks validity; A empty; message list without 256 places; 11 write buffer too small
abbrev pub refusal_number : Refusal → ℕ
refusal_number no.OutOfRange = 1
refusal_number no.Status = 2
refusal_number no.Waits = 3
refusal_number no.LeafSet = 4
refusal_number no.Partner = 5
refusal_number no.Full = 6
refusal_number no.Short = 7
refusal_number no.Header = 8
refusal_number no.Offsets = 9
refusal_number no.Invalid = 10
refusal_number no.NoRoom = 11

-- 0 done
abbrev pub answer_number : Answer → ℕ
answer_number (Ok tt) = 0
answer_number (Err why) = refusal_number why

-- T-01: one letter for each routing, `l` or `r`; 0 where there is none
abbrev pub via_number : Via → ℕ
via_number via.Unrouted = 0
via_number via.Leaf = 108
via_number via.Routing = 114
