-- What it tells of a message that it obeys its kind. A field that only some kinds have is told of under the test of Fits that names
-- those kinds: of a message m with `e : m.kind ≡ 4` and `o : Obeys g m`, `o.node_in_lem (ap has_node e)` says that its node is a slot.
-- Sets are listed and the flag is 0 or 1 for every kind, since a field that a kind lacks is 0. Assumes nothing.
use mathlib.Core.Path.{◌≡◌, sym, ap}
use mathlib.Core.Logic.{◌⊎◌, inl, inr}
use mathlib.Core.Bool.{Bool, true, false, cond, ◌||◌}
use Prim.Native.Nat.{ℕ, ◌^◌, ◌<◌, ◌≤◌}
use native.Mathlib.Omega.{arith}
use lib.Dec.{eqb, leb, ltb}
use borrow.Author.Tests.{ltb-true, leb-true, eqb-true}
use Rattle.marks.proofs.Bools.{clash, or_cases}
use Rattle.marks.specs.Marks.{listed}
use Rattle.marks.proofs.Laws.{listed-zero}
use Rattle.rules.specs.declared.Ring.{Ring}
use Rattle.rules.specs.declared.Sides.{Sides}
use Rattle.rules.specs.declared.Message.{Message}
use Rattle.rules.specs.Fits.{is_probe, has_key, has_node, has_routing, has_leaf, has_failed, has_flag, zero_unless, leaf_fits}
use Rattle.rules.specs.Fits.{word_fits, flag_fits, carried_fits, owner_fits, routing_fits, failed_fits, fields_fit, message_fits}
use Rattle.rules.specs.Nodes.{carried_of}
use Rattle.table_laws.proofs.Nodes.{both}

pub record Obeys (g : Ring) (m : Message) : Type 0 where
  pub kind-low : 1 ≤ m.kind
  pub kind-high : m.kind ≤ 8
  pub dest-in : m.dest < g.n
  pub key_in : has_key m.kind ≡ true → m.word < 2 ^ g.m
  pub node_in_lem : has_node m.kind ≡ true → m.word < g.n
  pub owner-in : has_leaf m.kind ≡ true → m.owner < g.n
  pub owner-is : is_probe m.kind ≡ true → m.owner ≡ m.word
  pub carried-fits : has_leaf m.kind ≡ true → leaf_fits g m.owner (carried_of m) ≡ true
  pub routing-listed : listed g.n m.routing ≡ true
  pub no-routing : has_routing m.kind ≡ false → m.routing ≡ 0
  pub failed-listed : listed g.n m.failed ≡ true
  pub no-failed : has_failed m.kind ≡ false → m.failed ≡ 0
  pub flag-low : m.flag ≤ 1
  pub no_flag : has_flag m.kind ≡ false → m.flag ≡ 0

-- ---- tests by cases that pass

first : (b : Bool) {x : Bool} (y : Bool) → cond b x y ≡ true → b ≡ true → x ≡ true
first true y e p = e
first false y e p = absurd (clash (sym p))

second : (b : Bool) (x : Bool) {y : Bool} → cond b x y ≡ true → b ≡ false → y ≡ true
second true x e p = absurd (clash p)
second false x e p = e

lacked : (b fits : Bool) (x : ℕ) → zero_unless b fits x ≡ true → b ≡ false → x ≡ 0
lacked b fits x e p = eqb-true x 0 (second b fits e p)

set-listed : (b : Bool) (n x : ℕ) → zero_unless b (listed n x) x ≡ true → listed n x ≡ true
set-listed true n x e = e
set-listed false n x e = rw (eqb-true x 0 e) (listed-zero n)

-- no kind has a key and a node
node-no-key : (k : ℕ) → has_node k ≡ true → has_key k ≡ false
node-no-key k p = go (or_cases (eqb k 2) _ p)
  where
    probe : (eqb k 4 ≡ true) ⊎ (eqb k 5 ≡ true) → has_key k ≡ false
    probe (inl e) = ap has_key (eqb-true k 4 e)
    probe (inr e) = ap has_key (eqb-true k 5 e)

    rest : (is_probe k ≡ true) ⊎ (eqb k 7 ≡ true) → has_key k ≡ false
    rest (inl e) = probe (or_cases (eqb k 4) _ e)
    rest (inr e) = ap has_key (eqb-true k 7 e)

    go : (eqb k 2 ≡ true) ⊎ ((is_probe k || eqb k 7) ≡ true) → has_key k ≡ false
    go (inl e) = ap has_key (eqb-true k 2 e)
    go (inr e) = rest (or_cases (is_probe k) _ e)

-- ---- what each field's rule tells

module _ (g : Ring) (kind : ℕ) where
  key-told : (word : ℕ) → word_fits kind g word ≡ true → has_key kind ≡ true → word < 2 ^ g.m
  unfolding word_fits
  key-told word e p = ltb-true word (2 ^ g.m) (first (has_key kind) _ e p)

  node-told : (word : ℕ) → word_fits kind g word ≡ true → has_node kind ≡ true → word < g.n
  unfolding word_fits
  node-told word e p =
      let node : zero_unless (has_node kind) (ltb word g.n) word ≡ true = second (has_key kind) _ e (node-no-key kind p) in
      ltb-true word g.n (first (has_node kind) _ node p)

  carried-told : (owner : ℕ) (s : Sides) → carried_fits kind g owner s ≡ true → has_leaf kind ≡ true
      → (owner < g.n) × (leaf_fits g owner s ≡ true)
  unfolding carried_fits
  carried-told owner s e p =
      let leaf = both (ltb owner g.n) (leaf_fits g owner s) (first (has_leaf kind) _ e p) in
      (ltb-true owner g.n leaf.0, leaf.1)

  owner-told : (word owner : ℕ) → owner_fits kind word owner ≡ true → is_probe kind ≡ true → owner ≡ word
  unfolding owner_fits
  owner-told word owner e p = eqb-true owner word (first (is_probe kind) true e p)

  routing-told : (x : ℕ) → routing_fits kind g x ≡ true → (listed g.n x ≡ true) × (has_routing kind ≡ false → x ≡ 0)
  unfolding routing_fits
  routing-told x e = (set-listed (has_routing kind) g.n x e, lacked (has_routing kind) _ x e)

  failed-told : (x : ℕ) → failed_fits kind g x ≡ true → (listed g.n x ≡ true) × (has_failed kind ≡ false → x ≡ 0)
  unfolding failed_fits
  failed-told x e = (set-listed (has_failed kind) g.n x e, lacked (has_failed kind) _ x e)

  flag-told : (x : ℕ) → flag_fits kind x ≡ true → (x ≤ 1) × (has_flag kind ≡ false → x ≡ 0)
  unfolding flag_fits
  flag-told x e = (go (has_flag kind) e, lacked (has_flag kind) _ x e)
    where
      go : (b : Bool) → zero_unless b (leb x 1) x ≡ true → x ≤ 1
      go true e = leb-true x 1 e
      go false e = omega (arith, eqb-true x 0 e)

pub obeys : (g : Ring) (m : Message) → message_fits g m ≡ true → Obeys g m
unfolding message_fits fields_fit
obeys g m e =
    let kind = both _ _ e in
    let between = both _ _ kind.0 in
    let dest = both _ _ kind.1 in
    let word = both _ _ dest.1 in
    let flag = both _ _ word.1 in
    let carried = both _ _ flag.1 in
    let owner = both _ _ carried.1 in
    let sets = both _ _ owner.1 in
    let routing = routing-told g m.kind m.routing sets.0 in
    let failed = failed-told g m.kind m.failed sets.1 in
    let flags = flag-told g m.kind m.flag flag.0 in
    let leaf = carried-told g m.kind m.owner (carried_of m) carried.0 in
    record {
      kind-low = leb-true 1 m.kind between.0;
      kind-high = leb-true m.kind 8 between.1;
      dest-in = ltb-true m.dest g.n dest.0;
      key_in = key-told g m.kind m.word word.0;
      node_in_lem = node-told g m.kind m.word word.0;
      owner-in = λ p. (leaf p).0;
      owner-is = owner-told g m.kind m.word m.owner owner.0;
      carried-fits = λ p. (leaf p).1;
      routing-listed = routing.0;
      no-routing = routing.1;
      failed-listed = failed.0;
      no-failed = failed.1;
      flag-low = flags.0;
      no_flag = flags.1;
    }
