-- Runs that follow one another are one run (follow), and nothing may end or begin a chain of them (ending, stay). Assumes nothing.
use mathlib.Core.Path.{◌≡◌, refl, sym, ◌∙◌}
use mathlib.Core.List.{List, [], ◌++◌, append_assoc, append-nil}
use Prim.Native.Nat.{ℕ, ◌+◌, ◌≤◌}
use native.Mathlib.Nat.{add-zero, add_assoc}
use native.Mathlib.Omega.{arith}
use lib.ListN.{length, take, drop, take-append-drop, length-append, length-drop}
use lib.Seq.{length-take-le, take_at, drop_at, drop-drop}
use Rattle.words.specs.InnerPut.{Put}

pub put-length : {size : ℕ} {buf : List ℕ} {at : ℕ} {vs : List ℕ} {next : ℕ} {new : List ℕ} → Put size buf at vs next new
    → length new ≡ length buf
put-length {size} {buf} {at} p =
    rw (p.new_is, length-append, length-append, p.sized, length-take-le at buf (omega (arith, p.inside)), length-drop)
    (omega (arith, p.inside))

pub ending : {size : ℕ} {buf : List ℕ} {at : ℕ} {vs : List ℕ} {next : ℕ} {new : List ℕ} → Put size buf at vs next new
    → Put size buf at (vs ++ []) next new
ending p = rw append-nil p

pub follow : {k l : ℕ} {a b c : List ℕ} {at i j : ℕ} {vs ws : List ℕ} → Put k a at vs i b → Put l b i ws j c
    → Put (k + l) a at (vs ++ ws) j c
follow {k} {l} {a} {b} {c} {at} {i} {j} {vs} {ws} p q =
    record {
      inside = omega (arith, p.next-is, q.inside, put-length p);
      next-is = omega (arith, p.next-is, q.next-is);
      sized = rw (length-append, p.sized, q.sized);
      new_is = q.new_is ∙ rw (before, behind, append_assoc (take at a) vs ws);
    }
  where
    front : length (take at a ++ vs) ≡ at + k
    front = rw (length-append, length-take-le at a (omega (arith, p.inside)), p.sized)

    before : take i b ≡ take at a ++ vs
    before = rw (p.next-is, p.new_is) (take_at (take at a ++ vs) (drop (at + k) a) (at + k) front)

    behind : drop (i + l) b ≡ drop (at + (k + l)) a
    behind =
        rw (
          ← (drop-drop l i b),
          p.next-is,
          p.new_is,
          drop_at (take at a ++ vs) (drop (at + k) a) (at + k) front,
          drop-drop l (at + k) a,
          add_assoc,
        )

-- nothing is written yet
pub stay : (a : List ℕ) (at : ℕ) → at ≤ length a → Put 0 a at [] at a
stay a at h =
    record {
      inside = omega arith;
      next-is = omega arith;
      sized = refl;
      new_is = rw (add-zero at, append-nil) (sym (take-append-drop at a));
    }
