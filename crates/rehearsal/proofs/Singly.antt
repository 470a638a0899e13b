-- A rehearsal handed over singly. While all is good a claim is looked at as the whole rehearsal would look at it, up to the most steps. By
-- going through the claims: what the checker says, how many steps it has counted, and that its table is what the file stated last holds
-- (`After`). Assumes nothing: Held is what the machine's types hold of every value.
use Rattle.rules.specs.Shapes.{Answer}
use mathlib.Core.Path.{◌≡◌, refl, sym, ◌∙◌, ap}
use mathlib.Core.List.{List, [], ◌∷◌}
use mathlib.Core.Logic.{◌⊎◌, inl, inr}
use Prim.Native.Nat.{ℕ, zero, suc, ◌+◌}
use native.Mathlib.Omega.{arith}
use lib.ListN.{length, take}
use lib.Seq.{take_all}
use Rattle.rules.specs.declared.Pool.{Pool}
use Rattle.rules.specs.Numbers.{answer_number}
use Rattle.rules.specs.Pool.{laid}
use Rattle.table_type.specs.declared.Table.{Table}
use Rattle.table_type.specs.declared.Stepped.{Stepped}
use Rattle.table.specs.Settle.{done_of}
use Rattle.table_type.specs.Start.{no_table}
use Rattle.table_laws.proofs.Proved.{keeps-valid}
use Rattle.file.specs.Held.{Held}
use Rattle.file.proofs.Exactly.{load-makes}
use Rattle.file.proofs.Theorems.{load-of-file}
use Rattle.face.proofs.Laid.{step-neat, not_done}
use Rattle.face.specs.Calls.{loaded_of, next_of}
use Rattle.std.specs.Prelude.{Ok, Err}
use Rattle.rehearsal.specs.declared.Checker.{Checker}
use Rattle.rehearsal.specs.Rehearsal.{Claim, most_steps, verdict_from, verdict_of, begin_of}
use Rattle.rehearsal.specs.Claims.{Loads, made, Agrees, handed_over, checker_of, last_file, SinglyWhole, SinglyFirst, LastTable, OnLastFile}
use Rattle.rehearsal.proofs.SameFiles.{agrees-or-not}
use Rattle.rehearsal.proofs.Whole.{not-bad, goes_on, ends_there, Started, started}
use Rattle.rehearsal.proofs.OneMore.{end_stays, good, bad, full-stays, good-next, bad-next}

-- ---- the claims in turn

-- the table and the messages are what the file holds
abbrev Tells : List ℕ → Table → Pool → Type 0
Tells file t p = Held t p → loaded_of file ≡ done_of t p

-- so are those of a claim that agrees: the file of a done step is read again
claim-tells : (t : Table) (p : Pool) (x : Claim) → Agrees t p x → Tells x.file (made t p x).table (made t p x).pool
unfolding loaded_of
claim-tells t p x a held =
    let s : Stepped = made t p x in
    rw (sym a.1) (load-of-file s.table s.pool no_table (laid []) held (keeps-valid t p 256 x.action a.0))
    ∙ ap (done_of s.table) (sym (step-neat t p 256 x.action a.0))

-- what is known of the checker c once the claims cs were handed over: before them it had found k steps good and held the table t and the
-- messages p, and `file` was stated last
pub record After (file : List ℕ) (k : ℕ) (t : Table) (p : Pool) (cs : List Claim) (c : Checker) : Type 0 where
  pub verdict : c.verdict ≡ verdict_from (suc k) t p cs
  pub steps : c.verdict ≡ Ok tt → c.steps ≡ k + length cs
  pub last : c.verdict ≡ Ok tt → Tells file t p → Tells (last_file file cs) c.table c.pool

after_none : (file : List ℕ) (k : ℕ) (t : Table) (p : Pool) → After file k t p [] (good k t p)
unfolding verdict_from
after_none file k t p = record { verdict = refl; steps = λ e. omega arith; last = λ e h. h }

module _ (file : List ℕ) (k : ℕ) (t : Table) (p : Pool) (x : Claim) (cs : List Claim) (c : Checker) where
  after-good : Agrees t p x → After x.file (suc k) (made t p x).table (made t p x).pool cs c → After file k t p (x ∷ cs) c
  after-good a r =
      record {
        verdict = r.verdict ∙ sym (goes_on (suc k) t p x cs a);
        steps = λ v. r.steps v ∙ omega arith;
        last = λ v h. r.last v (claim-tells t p x a);
      }

  after-bad : (Agrees t p x → ⊥) → c.verdict ≡ Err (suc k) → After file k t p (x ∷ cs) c
  after-bad n v =
      record {
        verdict = v ∙ sym (ends_there (suc k) t p x cs n);
        steps = λ w. absurd (not-bad (sym w ∙ v));
        last = λ w. absurd (not-bad (sym w ∙ v));
      }

after : (cs : List Claim) (n k : ℕ) (file : List ℕ) (t : Table) (p : Pool) → k + n ≡ most_steps
    → After file k t p (take n cs) (handed_over (good k t p) cs)
after [] zero k file t p e = after_none file k t p
after [] (suc n) k file t p e = after_none file k t p
after (x ∷ xs) zero k file t p e = rw (full-stays k t p x (omega arith)) (after xs zero k file t p e)
after (x ∷ xs) (suc n) k file t p e =
    go (agrees-or-not t p x) (after xs n (suc k) x.file (made t p x).table (made t p x).pool (omega arith))
  where
    go : Agrees t p x ⊎ (Agrees t p x → ⊥)
        → let s : Stepped = made t p x in
        After x.file (suc k) s.table s.pool (take n xs) (handed_over (good (suc k) s.table s.pool) xs)
        → After file k t p (x ∷ take n xs) (handed_over (good k t p) (x ∷ xs))
    go (inl a) r = rw (good-next k t p x (omega arith) a) (after-good file k t p x (take n xs) _ a r)
    go (inr b) r =
        let stays = end_stays (bad k t p) (suc k) xs refl in
        rw (bad-next k t p x (omega arith) b) (after-bad file k t p x (take n xs) _ b (ap (λ (c : Checker). c.verdict) stays))

-- ---- with the start

start-tells : (start : List ℕ) → Loads start → Tells start (loaded_of start).table (loaded_of start).pool
unfolding loaded_of
start-tells start e held =
    let m = load-makes start no_table (laid []) 256 (ap answer_number e) in
    m ∙ sym (ap (λ (x : Stepped). done_of x.table x.pool) m)

-- it loads, and the claims are handed over from its table; or it does not, and the checker has ended
abbrev pub Handing : List ℕ → List Claim → Type 0
Handing start cs =
    (Loads start × After start 0 (loaded_of start).table (loaded_of start).pool (take most_steps cs) (checker_of start cs))
    ⊎ ((Loads start → ⊥) × ((checker_of start cs).verdict ≡ Err 0))

pub handing : (start : List ℕ) (cs : List Claim) → Handing start cs
unfolding begin_of
handing start cs = go (loaded_of start).answer refl
  where
    go : (w : Answer) → (loaded_of start).answer ≡ w → Handing start cs
    go (Ok tt) e =
        let begun : begin_of start ≡ good 0 (loaded_of start).table (loaded_of start).pool = rw e in
        inl (e, rw begun (after cs most_steps 0 start (loaded_of start).table (loaded_of start).pool refl))
    go (Err why) e =
        let begun : (begin_of start).verdict ≡ Err 0 = rw e in
        inr (not_done e, ap (λ (c : Checker). c.verdict) (end_stays (begin_of start) 0 cs begun) ∙ begun)

pub singly-first : SinglyFirst
singly-first start cs = go (handing start cs) (started start (take most_steps cs))
  where
    go : Handing start cs → Started start (take most_steps cs) → (checker_of start cs).verdict ≡ verdict_of start (take most_steps cs)
    go (inl (l, r)) (inl (m, e)) = r.verdict ∙ sym e
    go (inl (l, r)) (inr (n, e)) = absurd (n l)
    go (inr (n, v)) (inl (l, e)) = absurd (n l)
    go (inr (n, v)) (inr (m, e)) = v ∙ sym e

pub singly-whole : SinglyWhole
singly-whole start cs l = singly-first start cs ∙ ap (verdict_of start) (take_all most_steps cs l)

pub last-table : LastTable
last-table start cs l v held = go (handing start cs)
  where
    go : Handing start cs → loaded_of (last_file start cs) ≡ done_of (checker_of start cs).table (checker_of start cs).pool
    go (inl (a, r)) = rw (take_all most_steps cs l) at (r.last v (start-tells start a) held)
    go (inr (n, b)) = absurd (not-bad (sym v ∙ b))

pub on-last-file : OnLastFile
unfolding next_of
on-last-file start cs l v held a = rw (last-table start cs l v held)
