-- The two tests of is_settled that ask something of every slot are one (calm), which a turn decides by the node's status; and the sets of slots
-- by the number of their status are those of the dead and of the ready. Assumes nothing.
use mathlib.Core.Path.{◌≡◌, refl, ◌∙◌, ap}
use mathlib.Core.Bool.{Bool, true, false, ◌&&◌, ◌||◌, not}
use Prim.Native.Nat.{ℕ, ◌<◌}
use borrow.Author.Tests.{eq-eqb, ne_eqb}
use lib.Dec.{eqb}
use Rattle.marks.proofs.Bools.{bool_same, and_left, and_right, and_both, and-fails-right, false-not}
use Rattle.marks.specs.Marks.{gather, all_to}
use Rattle.marks.proofs.Laws.{gather-same, each, all_of, fails}
use Rattle.rules.specs.declared.Status.{Status}
use Rattle.rules.specs.declared.Status.TheVariants.{Dead, Wait, Ok, Ready}
use Rattle.rules.specs.Numbers.{status_number}
use Rattle.rules.specs.Plans.{is_dead, is_ok, is_ready}
use Rattle.table_type.specs.declared.Table.{Table}
use Rattle.table_type.specs.Table.{node_at, ids_of, ring_of}
use Rattle.table.specs.Settled.{ready_set, dead_set, ok_set, settled_at, is_settled}
use Rattle.table_parts.specs.InnerSlots.{slots_with}

-- a node is dead or ready, and as a ready node has to be if it is ready
abbrev pub calm : Bool → Bool → Bool → Bool
calm dead ready fine = (dead || ready) && (not ready || fine)

pub calm-ready : (st : Status) (fine : Bool) → st ≡ Ready → calm (is_dead st) (is_ready st) fine ≡ fine
calm-ready st fine e = rw e refl

pub calm-dead : (st : Status) (fine : Bool) → st ≡ Dead → calm (is_dead st) (is_ready st) fine ≡ true
calm-dead st fine e = rw e refl

pub calm-other : (st : Status) (fine : Bool) → (st ≡ Ready → ⊥) → (st ≡ Dead → ⊥) → calm (is_dead st) (is_ready st) fine ≡ false
calm-other Dead fine r d = absurd (d refl)
calm-other Wait fine r d = refl
calm-other Ok fine r d = refl
calm-other Ready fine r d = absurd (r refl)

all_both : (n : ℕ) (f h : ℕ → Bool) → (all_to n f && all_to n h) ≡ all_to n (λ i. f i && h i)
all_both n f h =
    bool_same (all_to n f && all_to n h) (all_to n (λ i. f i && h i))
    (λ e. all_of n (λ i. f i && h i) (λ i k.
    and_both (each n f i (and_left (all_to n f) (all_to n h) e) k) (each n h i (and_right (all_to n f) (all_to n h) e) k)))
    (λ e. and_both (all_of n f (λ i k. and_left (f i) (h i) (each n (λ j. f j && h j) i e k)))
    (all_of n h (λ i k. and_right (f i) (h i) (each n (λ j. f j && h j) i e k))))

-- node i is calm in the table
abbrev pub calm_in : Table → ℕ → Bool
calm_in t i =
    calm (is_dead (node_at t i).status) (is_ready (node_at t i).status) (settled_at (ring_of t) (ids_of t) (ready_set t) i (node_at t i))

settled-calm : (t : Table) → is_settled t ≡ (not (eqb (ready_set t) 0) && all_to t.n (calm_in t))
unfolding is_settled
settled-calm t = ap (λ (b : Bool). not (eqb (ready_set t) 0) && b) (all_both t.n _ _)

-- how it comes out: no ready node, a node that is not calm, or all calm
pub settled-none : (t : Table) → ready_set t ≡ 0 → is_settled t ≡ false
settled-none t e = settled-calm t ∙ (rw (eq-eqb (ready_set t) 0 e))

pub settled-not : (t : Table) (i : ℕ) → i < t.n → calm_in t i ≡ false → is_settled t ≡ false
settled-not t i h e = settled-calm t ∙ and-fails-right (not (eqb (ready_set t) 0)) (fails t.n (calm_in t) i h e)

pub settled-all : (t : Table) (i : ℕ) → (ready_set t ≡ 0 → ⊥) → i ≡ t.n → all_to i (calm_in t) ≡ true → is_settled t ≡ true
settled-all t i d q e = settled-calm t ∙ and_both (false-not (ne_eqb (ready_set t) 0 d)) (rw q at e)

-- ---- the sets

numbered : (t : Table) (number : ℕ) (f : Status → Bool) → ((st : Status) → eqb (status_number st) number ≡ f st)
    → slots_with t number ≡ gather t.n (λ s. f (node_at t s).status)
unfolding slots_with
numbered t number f e = gather-same t.n _ _ (λ s h. e (node_at t s).status)

pub dead-slots : (t : Table) → slots_with t 0 ≡ dead_set t
unfolding dead_set
dead-slots t = numbered t 0 is_dead same
  where
    same : (st : Status) → eqb (status_number st) 0 ≡ is_dead st
    same Dead = refl
    same Wait = refl
    same Ok = refl
    same Ready = refl

pub ready-slots : (t : Table) → slots_with t 3 ≡ ready_set t
unfolding ready_set
ready-slots t = numbered t 3 is_ready same
  where
    same : (st : Status) → eqb (status_number st) 3 ≡ is_ready st
    same Dead = refl
    same Wait = refl
    same Ok = refl
    same Ready = refl

pub ok-slots : (t : Table) → slots_with t 2 ≡ ok_set t
unfolding ok_set
ok-slots t = numbered t 2 is_ok same
  where
    same : (st : Status) → eqb (status_number st) 2 ≡ is_ok st
    same Dead = refl
    same Wait = refl
    same Ok = refl
    same Ready = refl
