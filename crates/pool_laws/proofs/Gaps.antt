-- The loops that write places. Removing: the places below `at` are those of what is left, and those from it on are as they were (Closed).
-- Filling: what is written, followed by the copies that are still to come, is what is to wait (Filling). Blanks: of the places below `at`,
-- those past the count are blank (Blanked). Assumes nothing.
use Rattle.std.specs.Prelude.{Some, None}
use mathlib.Core.Path.{◌≡◌, refl, sym, ◌∙◌, ap, ap₂}
use mathlib.Core.List.{List, [], ◌∷◌, ◌++◌, append-nil, append_assoc}
use Prim.Native.Nat.{ℕ, ◌+◌, ◌-◌, ◌<◌, ◌≤◌}
use native.Mathlib.Decide.{dec_lt}
use native.Mathlib.Numerals.{add-one}
use native.Mathlib.Omega.{arith}
use borrow.Author.Tests.{lt-ltb, le-ltb}
use lib.ListN.{length, length-set, get_or, take, set, replicate, replicate-append-replicate}
use lib.Seq.{length-take-le, take_all, take-suc-set, get_or-take, get_or-set_same, get_or-set_other, append_snoc, ext_get_or}
use Rattle.marks.specs.Marks.{remove_of, lowest_of, size_of, Found}
use Rattle.marks.proofs.Laws.{lowest-found, size-remove}
use Rattle.rules.specs.declared.Message.{Message}
use Rattle.rules.specs.declared.Pool.{Pool}
use Rattle.rules.specs.Nodes.{placed}
use Rattle.rules.specs.Pool.{blank, message_at, waiting, laid}
use Rattle.pool_laws.specs.InnerSending.{left_of, left_count, place_of, copy_to, copies, one_or_none}
use Rattle.pool_laws.proofs.Laid.{waiting-length, left-low, place-low, left-length, left_at}
use Rattle.pool_laws.proofs.Sending.{copies-end, copies-more}

abbrev pool : ℕ → List Message → Pool
pool count places = record { count = count; places = places }

-- a place written
abbrev pub wrote : Pool → ℕ → Message → Pool
wrote q at m = record { count = q.count; places = set q.places at m }

-- one place more of a list that is written from the front
front : (l : List Message) (at : ℕ) (m : Message) → at < length l → take (at + 1) (set l at m) ≡ take at l ++ (m ∷ [])
front l at m h = rw (add-one) (take-suc-set l at m h)

-- ---- removing

pub record Closed (gone n : ℕ) (p q : Pool) (at : ℕ) : Type 0 where
  pub from : gone ≤ at
  pub long : length q.places ≡ 256
  pub head : (i : ℕ) → i < at → i < n → message_at q i ≡ get_or (left_of p gone) i blank
  pub rest : (i : ℕ) → at ≤ i → message_at q i ≡ message_at p i

module _ (gone n : ℕ) (p : Pool) (h : p.count ≤ 256) (l : length p.places ≡ 256) (d : n ≡ left_count p.count gone) where
  all-wait : length (waiting p) ≡ p.count
  all-wait = waiting-length p h l

  before : (i : ℕ) → i < gone → i < n → message_at p i ≡ get_or (left_of p gone) i blank
  unfolding place_of
  before i a b =
      let e : place_of gone i ≡ i = rw (lt-ltb i gone a) in
      sym (left_at p gone all-wait i (omega arith) ∙ ap (λ (k : ℕ). message_at p k) e)

  behind : (i : ℕ) → gone ≤ i → i < n → message_at p (i + 1) ≡ get_or (left_of p gone) i blank
  unfolding place_of
  behind i a b =
      let e : place_of gone i ≡ i + 1 = rw (le-ltb i gone a) in
      sym (left_at p gone all-wait i (omega arith) ∙ ap (λ (k : ℕ). message_at p k) e)

  pub next_low : (q : Pool) (at : ℕ) → at < n → Closed gone n p q at → at + 1 < 256
  unfolding place_of
  next_low q at b k = omega (arith, rw (le-ltb at gone k.from) at (place-low p.count gone at (omega arith)))

  pub closed_none : Closed gone n p p gone
  closed_none = record { from = omega arith; long = l; head = before; rest = λ i a. refl }

  pub closed-more : (q : Pool) (at : ℕ) → at < n → Closed gone n p q at → Closed gone n p (wrote q at (message_at q (at + 1))) (at + 1)
  closed-more q at b k =
      record {
        from = omega (arith, k.from);
        long = length-set q.places at m ∙ k.long;
        head = λ i a c. go i a c (dec_lt i at);
        rest = λ i a. get_or-set_other q.places at i m blank (λ z. omega arith) ∙ k.rest i (omega arith);
      }
    where
      m : Message
      m = message_at q (at + 1)

      go : (i : ℕ) → i < at + 1 → i < n → Dec (i < at) → get_or (set q.places at m) i blank ≡ get_or (left_of p gone) i blank
      go i a c (yes z) = get_or-set_other q.places at i m blank (λ y. omega arith) ∙ k.head i z c
      go i a c (no z) =
          let e : i ≡ at = omega arith in
          rw e
          (get_or-set_same q.places at m blank (omega (arith, k.long, left-low p.count gone)) ∙ k.rest (at + 1) (omega arith)
          ∙ behind at k.from b)

  pub closed-end : (q : Pool) (at : ℕ) → n ≤ at → Closed gone n p q at → take n q.places ≡ left_of p gone
  closed-end q at b k =
      let many : length (take n q.places) ≡ n = length-take-le n q.places (omega (arith, k.long, left-low p.count gone)) in
      let left : length (left_of p gone) ≡ n = left-length p gone all-wait ∙ sym d in
      ext_get_or blank (take n q.places) (left_of p gone) (many ∙ sym left)
      (λ i c. get_or-take n q.places i blank (omega arith) ∙ k.head i (omega arith) (omega arith))

-- ---- filling

-- behind the k messages zs the first new one is put, if there is one
pub record Put (k : ℕ) (zs : List Message) (m : Message) (to : Found) (n : ℕ) (q : Pool) : Type 0 where
  pub count-is : n ≡ k + one_or_none to
  pub long : length q.places ≡ 256
  pub head : take n q.places ≡ zs ++ copy_to m to

module _ (k : ℕ) (zs : List Message) (m : Message) (to : Found) (p : Pool) (l : length p.places ≡ 256) (d : take k p.places ≡ zs)
    (n : ℕ) (q : Pool) where
  pub put_one : (s : ℕ) (z : Message) → k < 256 → to ≡ Some s → z ≡ placed m s → n ≡ k + 1 → q ≡ wrote p k z → Put k zs m to n q
  put_one s z h e f c w =
      rw (w, c, f, e, ← d)
      record {
        count-is = refl;
        long = length-set p.places k (placed m s) ∙ l;
        head = front p.places k (placed m s) (omega arith);
      }

  pub put-none : to ≡ None → n ≡ k → q ≡ p → Put k zs m to n q
  put-none e c w = rw (w, c, e) record { count-is = omega arith; long = l; head = d ∙ sym (append-nil zs) }

pub record Filling (m : Message) (all : List Message) (rest n : ℕ) (q : Pool) : Type 0 where
  pub room : n + size_of rest ≤ 256
  pub long : length q.places ≡ 256
  pub left : take n q.places ++ copies m rest ≡ all

pub filling-none : (m : Message) (rest n : ℕ) (q : Pool) → n + size_of rest ≤ 256 → length q.places ≡ 256
    → Filling m (take n q.places ++ copies m rest) rest n q
filling-none m rest n q h l = record { room = h; long = l; left = refl }

pub fewer : (rest s : ℕ) → lowest_of rest ≡ Some s → size_of (remove_of rest s) + 1 ≡ size_of rest
fewer rest s e = let i = lowest-found rest s e in size-remove rest s i.below i.holds

-- a copy that is to come has its place
pub filling-low : (m : Message) (all : List Message) (rest n : ℕ) (q : Pool) (s : ℕ) → lowest_of rest ≡ Some s → Filling m all rest n q → n < 256
filling-low m all rest n q s e k = omega (arith, k.room, fewer rest s e)

pub filling-more : (m : Message) (all : List Message) (rest n : ℕ) (q : Pool) (s : ℕ) → lowest_of rest ≡ Some s → Filling m all rest n q
    → Filling m all (remove_of rest s) (n + 1) (wrote q n (placed m s))
filling-more m all rest n q s e k =
    let z = placed m s in
    record {
      room = omega (arith, k.room, fewer rest s e);
      long = length-set q.places n z ∙ k.long;
      left =
          ap (λ (l : List Message). l ++ copies m (remove_of rest s)) (front q.places n z (omega (arith, k.room, k.long, fewer rest s e)))
          ∙ append_snoc (take n q.places) z (copies m (remove_of rest s))
          ∙ ap (λ (l : List Message). take n q.places ++ l) (sym (copies-more m rest s e)) ∙ k.left;
    }

pub filling-end : (m : Message) (all : List Message) (rest n : ℕ) (q : Pool) → lowest_of rest ≡ None → Filling m all rest n q
    → take n q.places ≡ all
filling-end m all rest n q e k =
    sym (append-nil (take n q.places)) ∙ ap (λ (l : List Message). take n q.places ++ l) (sym (copies-end m rest e)) ∙ k.left

-- ---- blanks

pub record Blanked (n : ℕ) (p q : Pool) (at : ℕ) : Type 0 where
  pub from : n ≤ at
  pub within : at ≤ 256
  pub count-is : q.count ≡ n
  pub long : length q.places ≡ 256
  pub head : take at q.places ≡ take n p.places ++ replicate (at - n) blank

pub blanked-none : (p : Pool) → p.count ≤ 256 → length p.places ≡ 256 → Blanked p.count p p p.count
blanked-none p h l =
    let e : p.count - p.count ≡ 0 = omega arith in
    record { from = omega arith; within = h; count-is = refl; long = l; head = rw (e) (sym (append-nil (take p.count p.places))) }

pub blanked-more : (n : ℕ) (p q : Pool) (at : ℕ) → at < 256 → Blanked n p q at → Blanked n p (wrote q at blank) (at + 1)
blanked-more n p q at h k =
    let e : at - n + 1 ≡ at + 1 - n = omega (arith, k.from) in
    record {
      from = omega (arith, k.from);
      within = omega arith;
      count-is = k.count-is;
      long = length-set q.places at blank ∙ k.long;
      head =
          front q.places at blank (omega (arith, k.long)) ∙ ap (λ (l : List Message). l ++ (blank ∷ [])) k.head
          ∙ append_assoc (take n p.places) (replicate (at - n) blank) (blank ∷ [])
          ∙ ap (λ (l : List Message). take n p.places ++ l)
          (replicate-append-replicate (at - n) 1 blank ∙ ap (λ (i : ℕ). replicate i blank) e);
    }

pub blanked-end : (p q : Pool) (at : ℕ) → p.count ≤ 256 → length p.places ≡ 256 → 256 ≤ at → Blanked p.count p q at
    → q ≡ laid (waiting p)
blanked-end p q at h l d k =
    let n : length (waiting p) ≡ p.count = length-take-le p.count p.places (omega arith) in
    let e : at - p.count ≡ 256 - length (waiting p) = omega (arith, k.within) in
    let all : q.places ≡ waiting p ++ replicate (256 - length (waiting p)) blank =
    sym (take_all at q.places (omega (arith, k.long))) ∙ k.head
    ∙ ap (λ (i : ℕ). waiting p ++ replicate i blank) e in
    ap₂ pool (k.count-is ∙ sym n) all
