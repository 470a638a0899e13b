-- Beside 01: the calls as numbers and bytes alone: a word for an action, and a word for an answer with the number of bytes written and the letter of the next hop.
-- Definitions only. Assumes nothing.
use Rattle.std.specs.Prelude.{true, false, cond, List, ℕ, ◌+◌, ◌*◌, eqb, Option, Some, None, Result, Ok, Err}
use Rattle.rules.specs.declared.Action.{Action}
use Rattle.rules.specs.declared.Refusal.{Refusal}
use Rattle.rules.specs.declared.Action.TheVariants.{Lookup, Join, RequestLease, LeaseExpired, GrantExpired, Take, Deliver, Forward}
use Rattle.rules.specs.declared.Action.TheVariants.{NodeLeft, SuspectFaulty, ProbeTimeOut, DeclareDead, LSRepair, ResignNode, Recover}
use Rattle.rules.specs.Numbers.{refusal_number, via_number}
use Rattle.file.specs.Write.{Wrote}
use Rattle.face.specs.Asked.{Rest}
use Rattle.face.specs.Calls.{loaded_of, next_of, wrote_by, left_by, moved_by}
use Rattle.face.specs.declared.Moved.{Moved}

-- the number of the answer in the low 32 bits, the count of bytes in the high 32 bits
abbrev pub pack_of : Wrote → ℕ
pack_of (Ok count) = count * 4294967296
pack_of (Err why) = refusal_number why

-- the same, and the letter of where the next hop came from in the highest byte: `l`, `r`, or 0 for none
abbrev pub letter_of : Result Moved Refusal → ℕ
letter_of (Ok moved) = via_number moved.via * 72057594037927936 + moved.count * 4294967296
letter_of (Err why) = refusal_number why

-- how many bytes a step wrote, without where its hop came from
abbrev pub wrote_in : Result Moved Refusal → Wrote
wrote_in (Ok moved) = Ok moved.count
wrote_in (Err why) = Err why

-- the number in the low 32 bits; in the high 32 bits 1 where the table is settled, else 0
abbrev pub rest_word : Rest → ℕ
rest_word (Ok true) = 4294967296
rest_word (Ok false) = 0
rest_word (Err why) = refusal_number why

-- no action has this number: every bit of the low word is set
abbrev pub unknown : ℕ
unknown = 4294967295

-- 1 Lookup, 2 Join, 3 RequestLease, 4 LeaseExpired, 5 GrantExpired, 6 Take, 7 Deliver, 8 Forward, 9 NodeLeft, 10 SuspectFaulty, 11 ProbeTimeOut,
-- 12 DeclareDead, 13 LSRepair, 14 ResignNode, 15 Recover
unfoldable pub asked_of : ℕ → ℕ → ℕ → Option Action
asked_of k x y = cond (eqb k 1) (Some (Lookup x y))
    (cond (eqb k 2) (Some (Join x y))
    (cond (eqb k 3) (Some (RequestLease x))
    (cond (eqb k 4) (Some (LeaseExpired x y))
    (cond (eqb k 5) (Some (GrantExpired x y))
    (cond (eqb k 6) (Some (Take x))
    (cond (eqb k 7) (Some (Deliver x))
    (cond (eqb k 8) (Some (Forward x))
    (cond (eqb k 9) (Some (NodeLeft x))
    (cond (eqb k 10) (Some (SuspectFaulty x y))
    (cond (eqb k 11) (Some (ProbeTimeOut x y))
    (cond (eqb k 12) (Some (DeclareDead x y))
    (cond (eqb k 13) (Some (LSRepair x))
    (cond (eqb k 14) (Some (ResignNode x y))
    (cond (eqb k 15) (Some (Recover x)) None))))))))))))))

-- the word that answers a step
unfoldable pub step_word : Option Action → List ℕ → List ℕ → ℕ
step_word (Some a) file out = pack_of (wrote_by (next_of (loaded_of file) a) out)
step_word None file out = unknown

-- the word that answers a step with the letter
unfoldable pub via_word : Option Action → List ℕ → List ℕ → ℕ
via_word (Some a) file out = letter_of (moved_by (next_of (loaded_of file) a) out)
via_word None file out = unknown

-- what the buffer then holds
unfoldable pub step_left : Option Action → List ℕ → List ℕ → List ℕ
step_left (Some a) file out = left_by (next_of (loaded_of file) a) out
step_left None file out = out
