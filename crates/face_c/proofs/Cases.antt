-- The words of the calls for C, computed by the checker: the number in the low 32 bits, what was written in the high ones, the letter in the highest
-- byte, and the number of each action. Assumes nothing.
use mathlib.Core.Path.{◌≡◌, refl}
use mathlib.Core.List.{[], ◌∷◌}
use Rattle.std.specs.Prelude.{true, false, Some, None, Ok, Err}
use Rattle.rules.specs.declared.Refusal.TheVariants as no
use Rattle.rules.specs.declared.Via.TheVariants.{Unrouted, Leaf, Routing}
use Rattle.rules.specs.declared.Action.TheVariants.{Lookup, Join, RequestLease, LeaseExpired, GrantExpired, Take, Deliver, Forward}
use Rattle.rules.specs.declared.Action.TheVariants.{NodeLeft, SuspectFaulty, ProbeTimeOut, DeclareDead, LSRepair, ResignNode, Recover}
use Rattle.face_c.specs.Words.{pack_of, letter_of, rest_word, unknown, asked_of, step_word, via_word, step_left}

pub record WordsOf : Type 0 where
  -- 3 bytes written; a buffer that is too small
  pub packed : (pack_of (Ok 3) ≡ 12884901888) × (pack_of (Err no.NoRoom) ≡ 11)
  -- 3 bytes written with `l`, `r` and no letter; a buffer that is too small
  pub letters : (letter_of (Ok (record { count = 3; via = Leaf })) ≡ 7782220168981118976)
      × (letter_of (Ok (record { count = 3; via = Routing })) ≡ 8214565733208686592)
      × (letter_of (Ok (record { count = 3; via = Unrouted })) ≡ 12884901888)
      × (letter_of (Err no.NoRoom) ≡ 11)
  pub rest : (rest_word (Ok true) ≡ 4294967296) × (rest_word (Ok false) ≡ 0) × (rest_word (Err no.Invalid) ≡ 10)
  -- an action of no known number: no step, and the buffer is as it was
  pub none : (unknown ≡ 4294967295) × (step_word None [] [] ≡ 4294967295) × (via_word None [] [] ≡ 4294967295) × (step_left None [] (7 ∷ []) ≡ 7 ∷ [])
  pub actions : (asked_of 1 7 9 ≡ Some (Lookup 7 9)) × (asked_of 2 7 9 ≡ Some (Join 7 9)) × (asked_of 3 7 9 ≡ Some (RequestLease 7))
      × (asked_of 4 7 9 ≡ Some (LeaseExpired 7 9)) × (asked_of 5 7 9 ≡ Some (GrantExpired 7 9)) × (asked_of 6 7 9 ≡ Some (Take 7))
      × (asked_of 7 7 9 ≡ Some (Deliver 7)) × (asked_of 8 7 9 ≡ Some (Forward 7)) × (asked_of 0 7 9 ≡ None) × (asked_of 16 7 9 ≡ None)
  pub departures : (asked_of 9 7 9 ≡ Some (NodeLeft 7)) × (asked_of 10 7 9 ≡ Some (SuspectFaulty 7 9)) × (asked_of 11 7 9 ≡ Some (ProbeTimeOut 7 9))
      × (asked_of 12 7 9 ≡ Some (DeclareDead 7 9)) × (asked_of 13 7 9 ≡ Some (LSRepair 7)) × (asked_of 14 7 9 ≡ Some (ResignNode 7 9))
      × (asked_of 15 7 9 ≡ Some (Recover 7))

pub words_of : WordsOf
unfolding asked_of step_word via_word step_left
words_of =
    record {
      packed = (refl, refl);
      letters = (refl, refl, refl, refl);
      rest = (refl, refl, refl);
      none = (refl, refl, refl, refl);
      actions = (refl, refl, refl, refl, refl, refl, refl, refl, refl, refl);
      departures = (refl, refl, refl, refl, refl, refl, refl);
    }
