-- A list of actions, run: whether each is done, whether nodes join in turn, and what is left. The tests pass exactly where the statements
-- of InTurn hold. Assumes nothing.
use Rattle.rules.specs.Shapes.{Answer}
use Rattle.std.specs.Prelude.{Ok, Err}
use mathlib.Core.Path.{◌≡◌, refl, sym}
use mathlib.Core.Bool.{Bool, true, false, ◌&&◌, ◌||◌, not}
use mathlib.Core.List.{List, [], ◌∷◌, ◌++◌}
use Prim.Native.Nat.{ℕ}
use borrow.Author.Tests.{not-true}
use Rattle.marks.proofs.Bools.{clash, opposed, and_both, false-not}
use Rattle.marks.proofs.Laws.{each, all_of}
use Rattle.rules.specs.declared.Action.{Action}
use Rattle.rules.specs.declared.Action.TheVariants.{Lookup, Join, RequestLease, LeaseExpired, GrantExpired, Take, Deliver, Forward}
use Rattle.rules.specs.declared.Action.TheVariants.{NodeLeft, SuspectFaulty, ProbeTimeOut, DeclareDead, LSRepair, ResignNode, Recover}
use Rattle.rules.specs.declared.Pool.{Pool}
use Rattle.rules.specs.Plans.{is_wait}
use Rattle.table_type.specs.declared.Table.{Table}
use Rattle.table_type.specs.declared.Stepped.{Stepped}
use Rattle.step.specs.Step.{step_of}
use Rattle.table_type.specs.Table.{node_at}
use Rattle.table_laws.proofs.Nodes.{both}
use Rattle.join_laws.specs.Safe.{nobody_waits}
use Rattle.join_laws.specs.Claims.{NoneWaits, Barred, leaves, times-out, InTurn, Patient, Throughout}

-- the action is a Join
abbrev pub is_join : Action → Bool
is_join (Lookup i k) = false
is_join (Join i seed) = true
is_join (RequestLease i) = false
is_join (LeaseExpired i j) = false
is_join (GrantExpired i j) = false
is_join (Take place) = false
is_join (Deliver place) = false
is_join (Forward place) = false
is_join (NodeLeft i) = false
is_join (SuspectFaulty i j) = false
is_join (ProbeTimeOut i j) = false
is_join (DeclareDead i j) = false
is_join (LSRepair i) = false
is_join (ResignNode i n) = false
is_join (Recover i) = false

abbrev keeps_turns : Action → Bool
keeps_turns (Lookup i k) = true
keeps_turns (Join i seed) = true
keeps_turns (RequestLease i) = true
keeps_turns (LeaseExpired i j) = true
keeps_turns (GrantExpired i j) = true
keeps_turns (Take place) = true
keeps_turns (Deliver place) = true
keeps_turns (Forward place) = true
keeps_turns (NodeLeft i) = false
keeps_turns (SuspectFaulty i j) = true
keeps_turns (ProbeTimeOut i j) = false
keeps_turns (DeclareDead i j) = true
keeps_turns (LSRepair i) = true
keeps_turns (ResignNode i n) = true
keeps_turns (Recover i) = true

abbrev pub is_done : Answer → Bool
is_done (Ok tt) = true
is_done (Err why) = false

-- an action that is so answered: no NodeLeft or ProbeTimeOut is done, and no Join while some node is wait
abbrev is_in_turn : Table → Action → Answer → Bool
is_in_turn t a r = (not (is_done r) || keeps_turns a) && (not (is_join a && is_done r) || nobody_waits t)

-- a list of actions, run: whether every action is done, whether every action is in turn, and what is left
pub record Ran : Type 0 where
  pub done : Bool
  pub turns : Bool
  pub left : Stepped

abbrev pub ran : List Action → Stepped → Ran
ran [] s = record { done = true; turns = true; left = s }
ran (a ∷ acts) s =
    let u = step_of s.table s.pool 256 a in
    let r = ran acts u in
    record {
      done = is_done u.answer && r.done;
      turns = is_in_turn s.table a u.answer && r.turns;
      left = r.left;
    }

-- ---- what they tell

pub none_told : (t : Table) → nobody_waits t ≡ true → NoneWaits t
unfolding nobody_waits
none_told t e i h = not-true _ (each t.n (λ s. not (is_wait (node_at t s).status)) i e h)

pub none_of : (t : Table) → NoneWaits t → nobody_waits t ≡ true
unfolding nobody_waits
none_of t none = all_of t.n (λ s. not (is_wait (node_at t s).status)) (λ s h. false-not (none s h))

barred-told : (a : Action) → Barred a → keeps_turns a ≡ false
barred-told (NodeLeft i) leaves = refl
barred-told (ProbeTimeOut i j) times-out = refl
barred-told (Lookup _ _) never = elim never [ ]
barred-told (Join _ _) never = elim never [ ]
barred-told (RequestLease _) never = elim never [ ]
barred-told (LeaseExpired _ _) never = elim never [ ]
barred-told (GrantExpired _ _) never = elim never [ ]
barred-told (Take _) never = elim never [ ]
barred-told (Deliver _) never = elim never [ ]
barred-told (Forward _) never = elim never [ ]
barred-told (SuspectFaulty _ _) never = elim never [ ]
barred-told (DeclareDead _ _) never = elim never [ ]
barred-told (LSRepair _) never = elim never [ ]
barred-told (ResignNode _ _) never = elim never [ ]
barred-told (Recover _) never = elim never [ ]

turns-kept : (a : Action) → (Barred a → ⊥) → keeps_turns a ≡ true
turns-kept (Lookup i k) e = refl
turns-kept (Join i seed) e = refl
turns-kept (RequestLease i) e = refl
turns-kept (LeaseExpired i j) e = refl
turns-kept (GrantExpired i j) e = refl
turns-kept (Take place) e = refl
turns-kept (Deliver place) e = refl
turns-kept (Forward place) e = refl
turns-kept (NodeLeft i) e = absurd (e leaves)
turns-kept (SuspectFaulty i j) e = refl
turns-kept (ProbeTimeOut i j) e = absurd (e times-out)
turns-kept (DeclareDead i j) e = refl
turns-kept (LSRepair i) e = refl
turns-kept (ResignNode i n) e = refl
turns-kept (Recover i) e = refl

turn-told : (t : Table) (p : Pool) (a : Action) → is_in_turn t a (step_of t p 256 a).answer ≡ true → InTurn t p a
turn-told t p a e =
    let b = both (not (is_done (step_of t p 256 a).answer) || keeps_turns a) _ e in
    (λ done bar. opposed (rw done at b.0) (barred-told a bar), λ i seed join done. none_told t (rw (done, join) at b.1))

pub turns-told : (acts : List Action) (s : Stepped) → (ran acts s).turns ≡ true → Patient s.table s.pool acts
turns-told [] s e = tt
turns-told (a ∷ acts) s e =
    let b = both _ (ran acts (step_of s.table s.pool 256 a)).turns e in
    (turn-told s.table s.pool a b.0, turns-told acts (step_of s.table s.pool 256 a) b.1)

joins-told : (a : Action) → is_join a ≡ true → (i : ℕ) × (seed : ℕ) × (a ≡ Join i seed)
joins-told (Lookup i k) e = absurd (clash (sym e))
joins-told (Join i seed) e = (i, seed, refl)
joins-told (RequestLease i) e = absurd (clash (sym e))
joins-told (LeaseExpired i j) e = absurd (clash (sym e))
joins-told (GrantExpired i j) e = absurd (clash (sym e))
joins-told (Take place) e = absurd (clash (sym e))
joins-told (Deliver place) e = absurd (clash (sym e))
joins-told (Forward place) e = absurd (clash (sym e))
joins-told (NodeLeft i) e = absurd (clash (sym e))
joins-told (SuspectFaulty i j) e = absurd (clash (sym e))
joins-told (ProbeTimeOut i j) e = absurd (clash (sym e))
joins-told (DeclareDead i j) e = absurd (clash (sym e))
joins-told (LSRepair i) e = absurd (clash (sym e))
joins-told (ResignNode i n) e = absurd (clash (sym e))
joins-told (Recover i) e = absurd (clash (sym e))

done-told : (r : Answer) → is_done r ≡ true → r ≡ Ok tt
done-told (Ok tt) e = refl
done-told (Err why) e = absurd (clash (sym e))

turn-of : (t : Table) (p : Pool) (a : Action) → InTurn t p a → is_in_turn t a (step_of t p 256 a).answer ≡ true
turn-of t p a turn =
    and_both (stays (step_of t p 256 a).answer refl) (go (is_join a && is_done (step_of t p 256 a).answer) refl)
  where
    stays : (r : Answer) → (step_of t p 256 a).answer ≡ r → (not (is_done r) || keeps_turns a) ≡ true
    stays (Ok tt) e = turns-kept a (turn.0 e)
    stays (Err why) e = refl

    go : (b : Bool) → (is_join a && is_done (step_of t p 256 a).answer) ≡ b → (not b || nobody_waits t) ≡ true
    go true e =
        let c = both (is_join a) (is_done (step_of t p 256 a).answer) e in
        let (i, seed, join) = joins-told a c.0 in
        none_of t (turn.1 i seed join (done-told (step_of t p 256 a).answer c.1))
    go false e = refl

pub turns-of : (acts : List Action) (s : Stepped) → Patient s.table s.pool acts → (ran acts s).turns ≡ true
turns-of [] s h = refl
turns-of (a ∷ acts) s h =
    and_both (turn-of s.table s.pool a h.0) (turns-of acts (step_of s.table s.pool 256 a) h.1)

-- what holds throughout holds at the end
pub at_last : (C : Table → Pool → Type 0) (acts : List Action) (s : Stepped) → Throughout C s.table s.pool acts
    → C (ran acts s).left.table (ran acts s).left.pool
at_last C [] s h = h
at_last C (a ∷ acts) s h = at_last C acts (step_of s.table s.pool 256 a) h.1

-- and after the first of two lists, through the second
pub after_first : (C : Table → Pool → Type 0) (xs ys : List Action) (s : Stepped) → Throughout C s.table s.pool (xs ++ ys)
    → Throughout C (ran xs s).left.table (ran xs s).left.pool ys
after_first C [] ys s h = h
after_first C (a ∷ xs) ys s h = after_first C xs ys (step_of s.table s.pool 256 a) h.1
