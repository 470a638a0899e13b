-- A valid table and pool, as a record: the numbers in range, the ids listed, each listed node by its rules, each other slot blank, and the
-- messages by theirs. `sound` reads it off the test, and `sound-valid` is the way back. Assumes nothing.
use mathlib.Core.Path.{◌≡◌, refl}
use mathlib.Core.Logic.{◌⊎◌, inl, inr}
use mathlib.Core.List.{List}
use mathlib.Core.Bool.{true, false, ◌&&◌}
use Prim.Native.Nat.{ℕ, zero, suc, ◌^◌, ◌<◌, ◌≤◌}
use native.Mathlib.Omega.{arith}
use lib.Dec.{eqb, leb, ltb}
use lib.Pow.{pow_pos}
use borrow.Author.Tests.{ltb-true, leb-true, eqb-true, lt-ltb, le-ltb, le-leb, ne_eqb}
use Rattle.marks.specs.Marks.{all_to}
use Rattle.marks.proofs.Bools.{and_left, and_right, and_both, lt-or-le}
use Rattle.marks.proofs.Laws.{each, all_of}
use Rattle.rules.specs.declared.Status.{Status}
use Rattle.rules.specs.declared.Status.TheVariants as status
use Rattle.rules.specs.declared.Node.{Node}
use Rattle.rules.specs.declared.Ring.{Ring}
use Rattle.rules.specs.declared.Pool.{Pool}
use Rattle.rules.specs.InnerAsks.{Listed}
use Rattle.rules.specs.Fits.{between, numbers_fit, id_fits, node_fits, is_blank, slot_fits, message_fits, hops_fit}
use Rattle.rules.specs.Limits.{m_low, m_high, l_low, l_high, nodes_high}
use Rattle.rules.specs.Mail.{all_different}
use Rattle.rules.specs.Nodes.{no_node}
use Rattle.rules.specs.Numbers.{status_number}
use Rattle.rules.specs.Pick.{id_at}
use Rattle.rules.specs.Pool.{message_at, waiting}
use Rattle.table_type.specs.declared.Table.{Table}
use Rattle.table_type.specs.Table.{node_at, ids_of, ring_of}
use Rattle.table_type.proofs.IdLaws.{ids_at}
use Rattle.step.specs.Step.{is_sound}
use Rattle.table.specs.Valid.{nodes_fit, messages_fit, pool_fits, valid_of}
use Rattle.table_laws.proofs.Nodes.{both}

-- M from 2 to 32, L from 1 to 8, n from 1 to 64 nodes
pub record Numbers (g : Ring) : Type 0 where
  pub m-low : 2 ≤ g.m
  pub m-high : g.m ≤ 32
  pub l-low : 1 ≤ g.l
  pub l-high : g.l ≤ 8
  pub n-low : 1 ≤ g.n
  pub n-high : g.n ≤ 64

pub record Sound (t : Table) (p : Pool) : Type 0 where
  pub numbers : Numbers (ring_of t)
  pub listed : Listed (ring_of t) (ids_of t)
  pub node : (s : ℕ) → s < t.n → node_fits (ring_of t) s (node_at t s) ≡ true
  pub blank : (s : ℕ) → t.n ≤ s → s < 64 → node_at t s ≡ no_node
  pub counted : p.count ≤ 256
  pub message : (q : ℕ) → q < p.count → message_fits (ring_of t) (message_at p q) ≡ true
  pub hops : (q : ℕ) → q < p.count → hops_fit (ring_of t) (ids_of t) (message_at p q) ≡ true
  pub different : all_different (waiting p) ≡ true

-- ---- slots that are not listed

status-dead : (s : Status) → eqb (status_number s) 0 ≡ true → s ≡ status.Dead
status-dead status.Dead e = refl
status-dead status.Wait e = absurd (omega (arith, eqb-true 1 0 e))
status-dead status.Ok e = absurd (omega (arith, eqb-true 2 0 e))
status-dead status.Ready e = absurd (omega (arith, eqb-true 3 0 e))

pub blank-is : (v : Node) → is_blank v ≡ true → v ≡ no_node
unfolding is_blank
blank-is v e =
    let id = both _ _ e in
    let st = both _ _ id.1 in
    let left = both _ _ st.1 in
    let right = both _ _ left.1 in
    let probing = both _ _ right.1 in
    let failed = both _ _ probing.1 in
    let routing = both _ _ failed.1 in
    let lease = both _ _ routing.1 in
    let same : record {
      id = v.id;
      status = v.status;
      left = v.left;
      right = v.right;
      probing = v.probing;
      failed = v.failed;
      routing = v.routing;
      lease = v.lease;
      grant = v.grant;
    } ≡ no_node =
    rw (
      eqb-true v.id 0 id.0,
      status-dead v.status st.0,
      eqb-true v.left 0 left.0,
      eqb-true v.right 0 right.0,
      eqb-true v.probing 0 probing.0,
      eqb-true v.failed 0 failed.0,
      eqb-true v.routing 0 routing.0,
      eqb-true v.lease 0 lease.0,
      eqb-true v.grant 0 lease.1,
    ) in
    same

-- ---- slots that are listed

module _ (t : Table) (s : ℕ) (e : slot_fits (ring_of t) (ids_of t) s (node_at t s) ≡ true) where
  slot-listed : s < t.n → (id_fits (ring_of t) (ids_of t) s ≡ true) × (node_fits (ring_of t) s (node_at t s) ≡ true)
  unfolding slot_fits
  slot-listed h = both _ _ (rw (lt-ltb s t.n h) at e)

  slot-blank : t.n ≤ s → node_at t s ≡ no_node
  unfolding slot_fits
  slot-blank h = blank-is (node_at t s) (rw (le-ltb s t.n h) at e)

not_first : (s : ℕ) → eqb (suc s) 0 ≡ false
not_first s = ne_eqb (suc s) 0 (λ e. omega arith)

id-in : (g : Ring) (ids : List ℕ) (s : ℕ) → id_fits g ids s ≡ true → id_at ids s < 2 ^ g.m
unfolding id_fits
id-in g ids s e = ltb-true (id_at ids s) (2 ^ g.m) (both _ _ e).0

id-rises : (g : Ring) (ids : List ℕ) (s : ℕ) → id_fits g ids (suc s) ≡ true → id_at ids s < id_at ids (suc s)
unfolding id_fits
id-rises g ids s e =
    ltb-true _ _ (and_right (ltb (id_at ids (suc s)) (2 ^ g.m)) (ltb (id_at ids s) (id_at ids (suc s))) (rw (not_first s) at e))

id-fits : (g : Ring) (ids : List ℕ) → Listed g ids → (s : ℕ) → s < g.n → id_fits g ids s ≡ true
unfolding id_fits
id-fits g ids l zero h = rw (lt-ltb (id_at ids 0) (2 ^ g.m) (l.ids-in 0 (omega (arith, l.n-high))))
id-fits g ids l (suc s) h =
    rw (
      not_first s,
      lt-ltb (id_at ids (suc s)) (2 ^ g.m) (l.ids-in (suc s) (omega (arith, l.n-high))),
      lt-ltb (id_at ids s) (id_at ids (suc s)) (l.rises s h),
    )

-- ---- valid is sound, and sound is valid

record Parts (t : Table) (p : Pool) : Type 0 where
  numbers : numbers_fit (ring_of t) ≡ true
  slot : (s : ℕ) → s < 64 → slot_fits (ring_of t) (ids_of t) s (node_at t s) ≡ true
  counted : leb p.count 256 ≡ true
  message : (q : ℕ) → q < p.count → (message_fits (ring_of t) (message_at p q) && hops_fit (ring_of t) (ids_of t) (message_at p q)) ≡ true
  different : all_different (waiting p) ≡ true

parts : (t : Table) (p : Pool) → valid_of t p ≡ true → Parts t p
unfolding valid_of nodes_fit pool_fits messages_fit
parts t p e =
    let numbers = both (numbers_fit (ring_of t)) _ e in
    let slots = both (all_to 64 _) _ numbers.1 in
    let counted = both (leb p.count 256) _ slots.1 in
    let mail = both (all_to p.count _) (all_different (waiting p)) counted.1 in
    record {
      numbers = numbers.0;
      slot = λ s h. each 64 _ s slots.0 h;
      counted = counted.0;
      message = λ q h. each p.count _ q mail.0 h;
      different = mail.1;
    }

pub numbers_fit_lem : {g : Ring} → Numbers g → numbers_fit g ≡ true
unfolding numbers_fit
numbers_fit_lem {g} n =
    and_both (and_both (le-leb 2 g.m n.m-low) (le-leb g.m 32 n.m-high))
    (and_both (and_both (le-leb 1 g.l n.l-low) (le-leb g.l 8 n.l-high))
    (and_both (le-leb 1 g.n n.n-low) (le-leb g.n 64 n.n-high)))

pub numbers-told : (g : Ring) → numbers_fit g ≡ true → Numbers g
unfolding numbers_fit
numbers-told g e =
    let m = both (between m_low g.m m_high) _ e in
    let rest = both (between l_low g.l l_high) (between 1 g.n nodes_high) m.1 in
    let a = both _ _ m.0 in
    let b = both _ _ rest.0 in
    let c = both _ _ rest.1 in
    record {
      m-low = leb-true _ _ a.0;
      m-high = leb-true _ _ a.1;
      l-low = leb-true _ _ b.0;
      l-high = leb-true _ _ b.1;
      n-low = leb-true _ _ c.0;
      n-high = leb-true _ _ c.1;
    }

pub sound : (t : Table) (p : Pool) → valid_of t p ≡ true → Sound t p
sound t p e =
    let q = parts t p e in
    let n = numbers-told (ring_of t) q.numbers in
    record {
      numbers = n;
      listed = record {
        width = record { low = omega (arith, n.m-low); high = n.m-high };
        n-high = n.n-high;
        ids-in = λ s h. low s h (lt-or-le s t.n);
        rises = λ s h. id-rises (ring_of t) (ids_of t) s (slot-listed t (suc s) (q.slot (suc s) (omega (arith, n.n-high))) h).0;
      };
      node = λ s h. (slot-listed t s (q.slot s (omega (arith, n.n-high))) h).1;
      blank = λ s l h. slot-blank t s (q.slot s h) l;
      counted = leb-true p.count 256 q.counted;
      message = λ s h. and_left (message_fits (ring_of t) (message_at p s)) _ (q.message s h);
      hops = λ s h. and_right (message_fits (ring_of t) (message_at p s)) _ (q.message s h);
      different = q.different;
    }
  where
    low : (s : ℕ) → s < 64 → (s < t.n) ⊎ (t.n ≤ s) → id_at (ids_of t) s < 2 ^ t.m
    low s h (inl l) = id-in (ring_of t) (ids_of t) s (slot-listed t s ((parts t p e).slot s h) l).0
    low s h (inr l) = rw (ids_at t.nodes s, slot-blank t s ((parts t p e).slot s h) l) (pow_pos t.m)

slot-fits : {t : Table} {p : Pool} → Sound t p → (s : ℕ) → s < 64 → slot_fits (ring_of t) (ids_of t) s (node_at t s) ≡ true
unfolding slot_fits is_blank
slot-fits {t} r s h = go (lt-or-le s t.n)
  where
    go : (s < t.n) ⊎ (t.n ≤ s) → slot_fits (ring_of t) (ids_of t) s (node_at t s) ≡ true
    go (inl l) = rw (lt-ltb s t.n l) (and_both (id-fits (ring_of t) (ids_of t) r.listed s l) (r.node s l))
    go (inr l) = rw (le-ltb s t.n l, r.blank s l h)

pub sound-valid : {t : Table} {p : Pool} → Sound t p → valid_of t p ≡ true
unfolding valid_of nodes_fit pool_fits messages_fit
sound-valid {t} {p} r =
    and_both (numbers_fit_lem r.numbers) (and_both (all_of 64 _ (slot-fits r))
    (and_both (le-leb p.count 256 r.counted) (and_both (all_of p.count _ (λ q h. and_both (r.message q h) (r.hops q h))) r.different)))

-- ---- a table that is looked at (is_sound of Step) is valid, and a valid one is looked at with a list of 256 places

pub is-valid : (t : Table) (p : Pool) (len : ℕ) → is_sound t p len ≡ true → valid_of t p ≡ true
unfolding is_sound
is-valid t p len e = and_right (eqb len 256) (valid_of t p) e

pub is-sound : (t : Table) (p : Pool) → valid_of t p ≡ true → is_sound t p 256 ≡ true
unfolding is_sound
is-sound t p v = v
