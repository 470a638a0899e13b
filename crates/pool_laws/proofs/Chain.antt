-- The table of chains. A link of bucket h, seen from place j, is one more than the last place before j with that bucket, or 0. Following
-- links from j passes over no place of j's bucket, so a message equal to j's would be met. Assumes nothing.
use Prim.Native.Nat.{ℕ, ◌+◌, ◌-◌, ◌%◌, ◌<◌, ◌≤◌}
use mathlib.Core.Path.{◌≡◌, refl, sym, ◌∙◌, ap}
use mathlib.Core.Bool.{Bool, true, false, not}
use mathlib.Core.List.{List}
use native.Mathlib.Decide.{dec_le, dec_lt, ℕ_discrete}
use native.Mathlib.Omega.{arith}
use lib.ListN.{length, length-set, length-replicate, get_or, get_or-replicate, set, replicate, take}
use lib.Seq.{length-take-le, get_or-take, get_or-set_same, get_or-set_other}
use Rattle.marks.specs.Marks.{all_to}
use Rattle.marks.proofs.Laws.{all_of, all_same, fails}
use Rattle.marks.proofs.Laws.{more as All-more}
use Rattle.marks.proofs.Bools.{bool_false, true-not, false-not}
use Rattle.rules.specs.declared.Message.{Message}
use Rattle.rules.specs.Pool.{blank}
use Rattle.rules.specs.Mail.{alike, all_different}
use Rattle.pool_laws.specs.InnerMix.{mix_row, mix_of, bucket_of}
use Rattle.pool_laws.proofs.Equal.{alike_same}

abbrev nth : List Message → ℕ → Message
nth xs i = get_or xs i blank

-- ---- equal messages have one bucket

alike-bucket : (a b : Message) → alike a b ≡ true → bucket_of a ≡ bucket_of b
unfolding mix_of
alike-bucket a b e = ap (λ (r : List ℕ). mix_row r % 509) (alike_same a b e)

alike-not : (a b : Message) → (bucket_of a ≡ bucket_of b → ⊥) → alike a b ≡ false
alike-not a b d = bool_false (alike a b) (λ e. d (alike-bucket a b e))

-- ---- the first n places

abbrev fresh : List Message → ℕ → Bool
fresh xs j = all_to j (λ i. not (alike (nth xs i) (nth xs j)))

-- of the first n, each differs from all before it
pub record Differ (xs : List Message) (n : ℕ) : Type 0 where
  pub so : all_to n (fresh xs) ≡ true

pub differ-none : (xs : List Message) → Differ xs 0
unfolding all_to
differ-none xs = record { so = refl }

differ-take : (n : ℕ) (xs : List Message) → n ≤ length xs → all_different (take n xs) ≡ all_to n (fresh xs)
unfolding all_different
differ-take n xs l = rw (length-take-le n xs l) (all_same n (fresh (take n xs)) (fresh xs) same)
  where
    at : (i : ℕ) → i < n → nth (take n xs) i ≡ nth xs i
    at i h = get_or-take n xs i blank h

    same : (j : ℕ) → j < n → fresh (take n xs) j ≡ fresh xs j
    same j h =
        all_same j (λ i. not (alike (nth (take n xs) i) (nth (take n xs) j))) (λ i. not (alike (nth xs i) (nth xs j)))
        (λ i l. rw (at i (omega arith), at j h))

pub differ-all : (xs : List Message) (n j : ℕ) → length xs ≡ 256 → n ≤ 256 → j ≡ n → Differ xs j → all_different (take n xs) ≡ true
differ-all xs n j l h e d = differ-take n xs (omega arith) ∙ ap (λ (i : ℕ). all_to i (fresh xs)) (sym e) ∙ d.so

pub differ-not : (xs : List Message) (n i j : ℕ) → length xs ≡ 256 → n ≤ 256 → i < j → j < n → alike (nth xs i) (nth xs j) ≡ true
    → all_different (take n xs) ≡ false
differ-not xs n i j l h a b e =
    differ-take n xs (omega arith)
    ∙ fails n (fresh xs) j b (fails j (λ k. not (alike (nth xs k) (nth xs j))) i a (true-not e))

-- ---- links

pub record Link (xs : List Message) (h j v : ℕ) : Type 0 where
  pub low : v ≤ j
  pub own : 0 < v → bucket_of (nth xs (v - 1)) ≡ h
  pub last : (i : ℕ) → i < j → bucket_of (nth xs i) ≡ h → i < v

pub record Chained (xs : List Message) (j : ℕ) (heads next : List ℕ) : Type 0 where
  pub heads-length : length heads ≡ 509
  pub next-length : length next ≡ 256
  pub head : (h : ℕ) → h < 509 → Link xs h j (get_or heads h 0)
  pub link : (p : ℕ) → p < j → Link xs (bucket_of (nth xs p)) p (get_or next p 0)

-- at v on the way down j's chain: what lies at v or above differs from j's message
pub record Walk (xs : List Message) (j v : ℕ) : Type 0 where
  pub low : v ≤ j
  pub own : 0 < v → bucket_of (nth xs (v - 1)) ≡ bucket_of (nth xs j)
  pub rest : (i : ℕ) → i < j → v ≤ i → alike (nth xs i) (nth xs j) ≡ false

no-link : (xs : List Message) (h v : ℕ) → v ≡ 0 → Link xs h 0 v
no-link xs h v e = record { low = omega arith; own = λ l. absurd (omega arith); last = λ i l q. absurd (omega arith) }

pub none : (xs : List Message) (heads next : List ℕ) → heads ≡ replicate 509 0 → next ≡ replicate 256 0 → Chained xs 0 heads next
none xs heads next e f =
    record {
      heads-length = ap length e ∙ length-replicate {A = ℕ} 509 0;
      next-length = ap length f ∙ length-replicate {A = ℕ} 256 0;
      head = λ h l. no-link xs h (get_or heads h 0) (ap (λ (a : List ℕ). get_or a h 0) e ∙ get_or-replicate 509 h 0 0 l);
      link = λ p l. absurd (omega arith);
    }

pub starts : (xs : List Message) (j h v : ℕ) → h ≡ bucket_of (nth xs j) → Link xs h j v → Walk xs j v
starts xs j h v e k =
    record {
      low = k.low;
      own = λ z. k.own z ∙ e;
      rest = λ i l b. alike-not (nth xs i) (nth xs j) (λ f. let q = k.last i l (f ∙ sym e) in omega arith);
    }

pub onward : (xs : List Message) (j v w : ℕ) → Walk xs j v → 0 < v → alike (nth xs (v - 1)) (nth xs j) ≡ false
    → Link xs (bucket_of (nth xs (v - 1))) (v - 1) w → Walk xs j w
onward xs j v w k z d n =
    record { low = low_of k.low n.low; own = λ l. n.own l ∙ k.own z; rest = λ i l h. go i l h (dec_lt i (v - 1)) (dec_le v i) }
  where
    low_of : v ≤ j → w ≤ v - 1 → w ≤ j
    low_of a b = omega arith

    go : (i : ℕ) → i < j → w ≤ i → Dec (i < v - 1) → Dec (v ≤ i) → alike (nth xs i) (nth xs j) ≡ false
    go i l h (yes p) s = alike-not (nth xs i) (nth xs j) (λ e. let q = n.last i p (e ∙ sym (k.own z)) in omega arith)
    go i l h (no p) (yes q) = k.rest i l q
    go i l h (no p) (no q) = let e : i ≡ v - 1 = omega arith in rw e d

-- j's message differs from all before it
pub differ-more : (xs : List Message) (j v : ℕ) → Differ xs j → Walk xs j v → v ≡ 0 → Differ xs (j + 1)
differ-more xs j v d k z =
    record {
      so =
          All-more j (fresh xs) d.so
          (all_of j (λ i. not (alike (nth xs i) (nth xs j))) (λ i l. false-not (k.rest i l (omega arith))));
    }

-- one message more, at the head of its chain
module _ (xs : List Message) (j : ℕ) (heads next : List ℕ) (t : Chained xs j heads next) (l : j < 256) (h : ℕ)
    (e : h ≡ bucket_of (nth xs j)) (l' : h < 509) where
  abbrev heads' : List ℕ
  heads' = set heads h (j + 1)

  abbrev next' : List ℕ
  next' = set next j (get_or heads h 0)

  head-here : Link xs h (j + 1) (j + 1)
  head-here = record { low = omega arith; own = λ z. (let q : j + 1 - 1 ≡ j = omega arith in rw q (sym e)); last = λ i a q. a }

  head-there : (g : ℕ) → (g ≡ h → ⊥) → (v : ℕ) → Link xs g j v → Link xs g (j + 1) v
  head-there g d v k = record { low = low_of k.low; own = k.own; last = λ i a q. last_of i a q (dec_lt i j) }
    where
      low_of : v ≤ j → v ≤ j + 1
      low_of a = omega arith

      last_of : (i : ℕ) → i < j + 1 → bucket_of (nth xs i) ≡ g → Dec (i < j) → i < v
      last_of i a q (yes p) = k.last i p q
      last_of i a q (no p) =
          let f : i ≡ j = omega arith in
          absurd (d (sym q ∙ ap (λ (i : ℕ). bucket_of (nth xs i)) f ∙ sym e))

  head_of : (g : ℕ) → g < 509 → Dec (g ≡ h) → Link xs g (j + 1) (get_or heads' g 0)
  head_of g b (yes q) = rw (q, get_or-set_same heads h (j + 1) 0 (omega (arith, t.heads-length))) head-here
  head_of g b (no q) = rw (get_or-set_other heads h g (j + 1) 0 q) (head-there g q (get_or heads g 0) (t.head g b))

  link-of : (p : ℕ) → p < j + 1 → Dec (p < j) → Link xs (bucket_of (nth xs p)) p (get_or next' p 0)
  link-of p b (yes q) =
      let d : (p ≡ j → ⊥) = (λ s. omega arith) in
      rw (get_or-set_other next j p (get_or heads h 0) 0 d) (t.link p q)
  link-of p b (no q) =
      let f : p ≡ j = omega arith in
      rw (f, get_or-set_same next j (get_or heads h 0) 0 (omega (arith, t.next-length)), ← e) (t.head h l')

  pub more : Chained xs (j + 1) heads' next'
  more =
      record {
        heads-length = length-set heads h (j + 1) ∙ t.heads-length;
        next-length = length-set next j (get_or heads h 0) ∙ t.next-length;
        head = λ g b. head_of g b (ℕ_discrete g h);
        link = λ p b. link-of p b (dec_lt p j);
      }
