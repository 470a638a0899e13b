-- Records one after another. The idea: what is held after some calls is, in another order, what was held before and what they accepted, of
-- each key and month the last (`after`); and every store that is met is good. Assumes nothing.
use mathlib.Core.Path.{◌≡◌, refl, ap}
use mathlib.Core.List.{List, [], ◌∷◌, ◌++◌, append-nil}
use Prim.Native.Nat.{◌<◌}
use lib.IntN.{ℤ, ◌+ℤ◌}
use Rattle.water.specs.declared.Record.{Record}
use Rattle.water.specs.declared.Held.{Held}
use Rattle.water.specs.declared.Store.{Store}
use Rattle.water.specs.declared.Why.{Why}
use Rattle.water.specs.Water.{most_records, change_of, held_of, empty_store, seat_of, refused_of, total_of}
use Rattle.water.specs.History.{Call, placing, store_after, went_of, accepted_of, last_each}
use Rattle.water.specs.Claims.{HeldExactly, OneEach, LooksUp, AtMost, SumIsLast, CopiesNever}
use Rattle.water.proofs.Mixed.{Mixed, same, then, mixed-members, mixed-total}
use Rattle.water.proofs.Lists.{placed_in, apart-last, placed-last}
use Rattle.water.proofs.Last.{last-exactly, apart-once, found-exactly}
use Rattle.water.proofs.Seats.{seat-exactly, Good, empty-good, empty-held, good-count, kept-held, kept-good}
use Rattle.water.proofs.Replies.{kept_of, Judged, invalid, out, unsettled, full, kept, judged}

-- what is held after these calls
record After (s : Store) (cs : List Call) : Type 0 where
  good : Good (store_after s cs)
  held : Mixed (held_of (store_after s cs)) (last_each (held_of s ++ accepted_of s cs))

module _ (s : Store) (c : Call) (cs : List Call) where
  refused-next : (why : Why) → placing s c ≡ refused_of s why → After s cs → After s (c ∷ cs)
  unfolding store_after accepted_of
  refused-next why e a = record { good = rw e a.good; held = rw e a.held }

  kept_next : Good s → seat_of (held_of s) (went_of c).original < most_records → placing s c ≡ kept_of s (went_of c)
      → After (kept_of s (went_of c)).store cs → After s (c ∷ cs)
  unfolding store_after accepted_of
  kept_next g l e a =
      let xs : List Held = accepted_of (kept_of s (went_of c)).store cs in
      let m : Mixed (held_of (store_after (kept_of s (went_of c)).store cs)) (last_each (placed_in (held_of s) (went_of c) ++ xs)) =
      rw (kept-held s (went_of c) g l) at a.held
      in
      record { good = rw e a.good; held = rw e (then m (placed-last (held_of s) (went_of c) xs g.apart)) }

after : (cs : List Call) (s : Store) → Good s → After s cs
unfolding store_after accepted_of
after [] s g = record { good = g; held = rw (append-nil (held_of s), apart-last (held_of s) g.apart) same }
after (c ∷ cs) s g = go (judged s c) (after cs)
  where
    go : Judged s c → ((s : Store) → Good s → After s cs) → After s (c ∷ cs)
    go (invalid b e) i = refused-next s c cs _ e (i s g)
    go (out b f e) i = refused-next s c cs _ e (i s g)
    go (unsettled b f h e) i = refused-next s c cs _ e (i s g)
    go (full b f h r e) i = refused-next s c cs _ e (i s g)
    go (kept b f h r w e) i =
        let l : seat_of (held_of s) (went_of c).original < most_records = rw w.record_is ((seat-exactly s c.original).1 r) in
        kept_next s c cs g l e (i (kept_of s (went_of c)).store (kept-good s (went_of c) g l))

from_empty : (cs : List Call) → Mixed (held_of (store_after empty_store cs)) (last_each (accepted_of empty_store cs))
from_empty cs = rw empty-held at (after cs empty_store empty-good).held

pub held-exactly : HeldExactly
held-exactly cs h =
    let m = mixed-members h (from_empty cs) in
    let l = last-exactly (accepted_of empty_store cs) h in
    (λ i. l.0 (m.0 i), λ i. m.1 (l.1 i))

pub one_each : OneEach
one_each cs = apart-once (held_of (store_after empty_store cs)) (after cs empty_store empty-good).good.apart

pub looks-up : LooksUp
looks-up cs key month h =
    let r : Record = record { key = key; month = month; rain = 0; evapotranspiration = 0; runoff = 0 } in
    let f = found-exactly (held_of (store_after empty_store cs)) r h (after cs empty_store empty-good).good.apart in
    (λ e. let i = f.0 e in (i.0, i.1.key, i.1.month), λ i. f.1 (i.0, record { key = i.1; month = i.2 }))

pub at_most : AtMost
at_most cs =
    let g : Good (store_after empty_store cs) = (after cs empty_store empty-good).good in
    (g.count, good-count (store_after empty_store cs) g)

pub sum-is-last : SumIsLast
sum-is-last cs = mixed-total (from_empty cs)

pub copies-never : CopiesNever
unfolding total_of
copies-never [] other = refl
copies-never (h ∷ hs) other = ap (λ (d : ℤ). change_of h.original +ℤ d) (copies-never hs other)
