-- The loops that fill 64 slots in rising order: the slots below s hold what f says, and the others still hold d. Assumes nothing.
use mathlib.Core.Path.{◌≡◌, sym, ◌∙◌}
use mathlib.Core.Logic.{⊎_elim}
use mathlib.Core.List.{List, map}
use Prim.Native.Nat.{ℕ, ◌+◌, ◌<◌, ◌≤◌}
use native.Mathlib.Decide.{ℕ_discrete}
use native.Mathlib.Omega.{arith}
use lib.ListN.{length, length-set, length-map, length-replicate, get_or, get_or-replicate, set, replicate}
use lib.Seq.{ext_get_or, get_or-set_same, get_or-set_other}
use Rattle.marks.proofs.Bools.{lt-or-le}

pub record Filled {A : Type 0} (d : A) (f : ℕ → A) (s : ℕ) (r : List A) : Type 0 where
  pub low : s ≤ 64
  pub long : length r ≡ 64
  pub done : (i : ℕ) → i < s → get_or r i d ≡ f i
  pub rest : (i : ℕ) → s ≤ i → i < 64 → get_or r i d ≡ d

module _ {A : Type 0} (d : A) (f : ℕ → A) where
  pub fill-begin : (e : A) → e ≡ d → Filled d f 0 (replicate 64 e)
  fill-begin e q =
      record {
        low = omega arith;
        long = length-replicate 64 e;
        done = λ i h. absurd (omega arith);
        rest = λ i l h. get_or-replicate 64 i e d h ∙ q;
      }

  pub fill_more : (s : ℕ) (r : List A) → s < 64 → Filled d f s r → Filled d f (s + 1) (set r s (f s))
  fill_more s r h k =
      record {
        low = omega arith;
        long = length-set r s (f s) ∙ k.long;
        done = λ i l. here i l (ℕ_discrete i s);
        rest = λ i l m. get_or-set_other r s i (f s) d (λ e. omega arith) ∙ k.rest i (omega arith) m;
      }
    where
      here : (i : ℕ) → i < s + 1 → Dec (i ≡ s) → get_or (set r s (f s)) i d ≡ f i
      here i l (yes e) = rw e (get_or-set_same r s (f s) d (omega (arith, k.long)))
      here i l (no n) = get_or-set_other r s i (f s) d n ∙ k.done i (omega arith)

  -- it is any list of 64 that holds the same
  pub fill_end : (s : ℕ) (r l : List A) → Filled d f s r → length l ≡ 64 → ((i : ℕ) → i < s → get_or l i d ≡ f i)
      → ((i : ℕ) → s ≤ i → i < 64 → get_or l i d ≡ d) → r ≡ l
  fill_end s r l k long low high =
      ext_get_or d r l (k.long ∙ sym long) (λ i h.
      ⊎_elim (λ m. k.done i m ∙ sym (low i m))
      (λ m. k.rest i m (omega (arith, k.long)) ∙ sym (high i m (omega (arith, k.long)))) (lt-or-le i s))

-- a list of records that is kept as another list has the length of that list
pub length-mapped : {X Y : Type 0} (f : X → Y) (l : List X) (n : ℕ) → length (map f l) ≡ n → length l ≡ n
length-mapped f l n e = sym (length-map l f) ∙ e
