-- In a settled table a lookup at a ready node, alone for its key, is delivered at the ready node nearest its key. Each Forward is done, and the Deliver; where
-- the node does not cover the key, the lookup goes to a ready node that is nearer, and nothing equal waits there. The measure: how many
-- ready nodes are nearer than the holder; it falls with every routing and is below R. By induction on a bound of it. Assumes nothing.
use Rattle.std.specs.Prelude.{None, Ok}
use mathlib.Core.Path.{◌≡◌, refl, sym, ◌∙◌, ap, subst}
use mathlib.Core.Logic.{◌⊎◌, inl, inr}
use mathlib.Core.Bool.{Bool, true, false, ◌&&◌}
use mathlib.Core.List.{List, [], ◌∷◌, ◌++◌, append-nil}
use Prim.Native.Nat.{ℕ, zero, suc, ◌+◌, ◌^◌, ◌<◌, ◌≤◌}
use native.Mathlib.Omega.{arith}
use lib.ListN.{get_or, length, drop, length-append, drop_of_length-le}
use lib.Seq.{take-append_seam}
use Rattle.ring.specs.Distance.{nearer}
use Rattle.ring.proofs.Order.{nearer-transitive, nearer-irreflexive}
use Rattle.marks.proofs.Bools.{opposed, bool_false, and_left, and_right, and_both, and-fails-right, lt-or-le}
use Rattle.marks.specs.Marks.{has, tally, size_of}
use Rattle.marks.proofs.Laws.{tally-strict}
use Rattle.rules.specs.declared.Hop.TheVariants.{To}
use Rattle.rules.specs.declared.Message.{Message}
use Rattle.rules.specs.declared.Pool.{Pool}
use Rattle.rules.specs.declared.Action.TheVariants.{Deliver, Forward}
use Rattle.rules.specs.Letters.{lookup, lookup_after}
use Rattle.rules.specs.Mail.{fields_of, alike, first_equal, removed_at}
use Rattle.rules.specs.Nodes.{placed}
use Rattle.rules.specs.Pick.{id_at}
use Rattle.rules.specs.Pool.{blank, waiting, message_at, laid}
use Rattle.pool_laws.proofs.Laws.{alike_same, first-equal-none, waiting-laid, waiting-at, removed-length, removed-low, removed-high}
use Rattle.table_type.specs.declared.Table.{Table}
use Rattle.table_type.specs.declared.Stepped.{Stepped}
use Rattle.table_type.specs.Table.{ids_of}
use Rattle.table.specs.Settled.{ready_set, is_settled}
use Rattle.table.specs.Valid.{valid_of}
use Rattle.table_laws.proofs.Sound.{Sound, sound}
use Rattle.table_laws.proofs.By.{step-done}
use Rattle.table_laws.proofs.Proved.{keeps-valid}
use Rattle.lookup_laws.specs.Journey.{stepped, hops_at, LookupAt, delivered, routed, fate_of, Delivers, here, on}
use Rattle.lookup_laws.specs.Claims.{Nearer, Ready, Alone, SettledArrives}
use Rattle.lookup_laws.proofs.Stands.{count-is}
use Rattle.lookup_laws.specs.Fates.{others, covers_at, hop_at, Tracked}
use Rattle.lookup_laws.proofs.Tracks.{delivers, forwards, key_in, deliver-is, forward-is, tracked}
use Rattle.lookup_laws.proofs.Joined.{ready-low}
use Rattle.lookup_laws.proofs.Holder.{cover-nearest}
use Rattle.lookup_laws.proofs.Taking.{deliver-done, forward-done, fate-delivered, fate-forwarded}
use Rattle.lookup_laws.proofs.Hops.{hop-there, hop-ready}

-- ---- nothing equal waits

-- no Lookup of k is among these
pub record Without (k : ℕ) (ys : List Message) : Type 0 where
  pub none : (r : ℕ) → r < length ys → (get_or ys r blank).kind ≡ 1 → (get_or ys r blank).word ≡ k → ⊥

pub alone-without : {t : Table} {p : Pool} → Sound t p → (q k : ℕ) → q < p.count → Alone p q k → Without k (others p q)
alone-without {t} {p} v q k h alone = record { none = λ r l. go r l (lt-or-le r q) }
  where
    q-in : q < length (waiting p)
    q-in = omega (arith, count-is v)

    at : (r i : ℕ) → i < p.count → (i ≡ q → ⊥) → get_or (others p q) r blank ≡ message_at p i
        → (get_or (others p q) r blank).kind ≡ 1 → (get_or (others p q) r blank).word ≡ k → ⊥
    at r i l apart same = rw same (alone i l apart)

    go : (r : ℕ) → r < length (others p q) → (r < q) ⊎ (q ≤ r)
        → (get_or (others p q) r blank).kind ≡ 1 → (get_or (others p q) r blank).word ≡ k → ⊥
    go r l (inl b) =
        let low : r < p.count = omega (arith, h) in
        at r r low (omega arith) (removed-low (waiting p) q q-in r b ∙ waiting-at p r low)
    go r l (inr b) =
        let low : r + 1 < p.count = omega (arith, removed-length (waiting p) q q-in, count-is v) in
        at r (r + 1) low (omega arith) (removed-high (waiting p) q q-in r b ∙ waiting-at p (r + 1) low)

without-found : (k h : ℕ) (ys : List Message) → Without k ys → first_equal ys (placed (lookup k) h) ≡ None
without-found k h ys w =
    first-equal-none ys (placed (lookup k) h) (λ r l.
    bool_false (alike (get_or ys r blank) (placed (lookup k) h)) (λ a.
    let same : (i : ℕ) → get_or (fields_of (get_or ys r blank)) i 0 ≡ get_or (fields_of (placed (lookup k) h)) i 0 =
    λ i. ap (λ (row : List ℕ). get_or row i 0) (alike_same (get_or ys r blank) (placed (lookup k) h) a) in
    w.none r l (same 1) (same 2)))

-- the last one removed
last-removed : (ys : List Message) (m : Message) → removed_at (ys ++ (m ∷ [])) (length ys) ≡ ys
unfolding removed_at
last-removed ys m =
    let gone : drop (suc (length ys)) (ys ++ (m ∷ [])) ≡ [] =
    drop_of_length-le (ys ++ (m ∷ [])) {i = suc (length ys)} (rw length-append (omega arith)) in
    rw (take-append_seam ys (m ∷ []), gone) (append-nil ys)

-- ---- the measure

-- how many ready nodes are nearer to k than slot d
abbrev pub nearer_ready : Table → ℕ → ℕ → ℕ
nearer_ready t k d = tally 64 (λ s. has (ready_set t) s && nearer (2 ^ t.m) k (id_at (ids_of t) s) (id_at (ids_of t) d))

module _ (t : Table) (k : ℕ) where
  not-nearer : (d : ℕ) → (has (ready_set t) d && nearer (2 ^ t.m) k (id_at (ids_of t) d) (id_at (ids_of t) d)) ≡ false
  not-nearer d = and-fails-right (has (ready_set t) d) (bool_false _ (nearer-irreflexive (2 ^ t.m) k (id_at (ids_of t) d)))

  ready-falls : (h d : ℕ) → h < 64 → has (ready_set t) h ≡ true → Nearer t k h d → nearer_ready t k h < nearer_ready t k d
  ready-falls h d l r near =
      tally-strict 64 (λ s. has (ready_set t) s && nearer (2 ^ t.m) k (id_at (ids_of t) s) (id_at (ids_of t) h))
      (λ s. has (ready_set t) s && nearer (2 ^ t.m) k (id_at (ids_of t) s) (id_at (ids_of t) d)) h
      (λ s i f. and_both (and_left (has (ready_set t) s) _ f)
      (nearer-transitive (2 ^ t.m) k (id_at (ids_of t) s) (id_at (ids_of t) h) (id_at (ids_of t) d) (and_right (has (ready_set t) s) _ f) near))
      l (not-nearer h) (and_both r near)

  ready-few : (d : ℕ) → d < 64 → has (ready_set t) d ≡ true → nearer_ready t k d < size_of (ready_set t)
  unfolding size_of
  ready-few d l r =
      tally-strict 64 (λ s. has (ready_set t) s && nearer (2 ^ t.m) k (id_at (ids_of t) s) (id_at (ids_of t) d)) (has (ready_set t)) d
      (λ s i f. and_left (has (ready_set t) s) _ f) l (not-nearer d) r

-- ---- the journey

-- from slot d: delivered, the others as they were, after no more routings than ready nodes are nearer
pub record Settles (t : Table) (k : ℕ) (ys : List Message) (p : Pool) (q d : ℕ) : Type 0 where
  pub hops : ℕ
  pub end : ℕ
  pub delivers : Delivers k t p q hops end t (laid ys)
  pub few : hops ≤ nearer_ready t k d
  pub ready : Ready t end
  pub covers : covers_at t end k ≡ true

module _ (t : Table) (s : is_settled t ≡ true) (k : ℕ) (hk : k < 2 ^ t.m) (ys : List Message) (w : Without k ys) where
  module _ (p : Pool) (q d : ℕ) (e : valid_of t p ≡ true) (l : LookupAt p q k d) (r : Ready t d) (o : others p q ≡ ys) where
    ends : covers_at t d k ≡ true → Settles t k ys p q d
    ends c =
        let fate : fate_of t p q (Deliver q) ≡ delivered = fate-delivered t p q k d e l r c in
        let told = subst (Tracked t p q k d (Deliver q)) fate (tracked t p q k d (Deliver q) e l) in
        let arrived = rw (told.took.leaves, o) at (here l (deliver-done t p q k d e l r c) fate) in
        record { hops = 0; end = d; delivers = arrived; few = omega arith; ready = r; covers = c }

    -- one routing more
    one_more_lem : covers_at t d k ≡ false → (h place : ℕ) → fate_of t p q (Forward q) ≡ routed h place → (stepped t p (Forward q)).table ≡ t
        → nearer_ready t k h < nearer_ready t k d → Settles t k ys (stepped t p (Forward q)).pool place h → Settles t k ys p q d
    one_more_lem c h place fate same falls after =
        let next = (stepped t p (Forward q)).pool in
        let rest =
        subst (λ (u : Table). Delivers k u next place after.hops after.end t (laid ys)) (sym same) after.delivers in
        record {
          hops = suc after.hops;
          end = after.end;
          delivers = on l (forward-done t p q k d e l r c) fate rest;
          few = omega (arith, after.few);
          ready = after.ready;
          covers = after.covers;
        }

    goes : (h : ℕ) → covers_at t d k ≡ false → hop_at t d k ≡ To h → nearer_ready t k h < nearer_ready t k d
        → ((p' : Pool) (q' : ℕ) → valid_of t p' ≡ true → LookupAt p' q' k h → others p' q' ≡ ys → Settles t k ys p' q' h)
        → Settles t k ys p q d
    goes h c to falls rest =
        let place = length (others p q) in
        let next = stepped t p (Forward q) in
        let sent = placed (lookup_after (hops_at p q + 1) k) h in
        let none : first_equal (others p q) (placed (lookup k) h) ≡ None = rw o (without-found k h ys w) in
        let fate : fate_of t p q (Forward q) ≡ routed h place = fate-forwarded t p q k d e l r c ∙ rw (to, none) in
        let told = subst (Tracked t p q k d (Forward q)) fate (tracked t p q k d (Forward q) e l) in
        let same : next.table ≡ t = ap (λ (x : Stepped). x.table) told.took.leaves in
        let valid : valid_of t next.pool ≡ true = rw same at (keeps-valid t p 256 (Forward q) (forward-done t p q k d e l r c)) in
        let left : others next.pool place ≡ ys =
        ap (λ (x : Stepped). others x.pool place) told.took.leaves
        ∙ rw (waiting-laid (others p q ++ (sent ∷ []))) (last-removed (others p q) sent ∙ o) in
        one_more_lem c h place fate same falls (rest next.pool place valid told.now left)

  settles : (fuel : ℕ) (p : Pool) (q d : ℕ) → valid_of t p ≡ true → LookupAt p q k d → Ready t d → others p q ≡ ys
      → nearer_ready t k d < fuel → Settles t k ys p q d
  settles zero p q d e l r o f = absurd (omega arith)
  settles (suc fuel) p q d e l r o f = go (covers_at t d k) refl (λ p q h. settles fuel p q h)
    where
      go : (b : Bool) → covers_at t d k ≡ b
          → ((p : Pool) (q h : ℕ) → valid_of t p ≡ true → LookupAt p q k h → Ready t h → others p q ≡ ys → nearer_ready t k h < fuel
          → Settles t k ys p q h)
          → Settles t k ys p q d
      go true c rest = ends p q d e l r o c
      go false c rest =
          let v = sound t p e in
          let hop = hop-there v s k hk d r c in
          let there = hop-ready v s k hk d r hop.0 hop.1 in
          let nearer-now = ready-falls t k hop.0 d (ready-low v hop.0 there.0) there.0.1 there.1 in
          goes p q d e l r o hop.0 c hop.1 nearer-now (λ p' q' e' l' o'. rest p' q' hop.0 e' l' there.0 o' (omega arith))

pub settled-arrives : SettledArrives
settled-arrives t p q k d e s l r alone =
    let v = sound t p e in
    let hk = key_in t p q k d v l in
    let j = settles t s k hk (others p q) (alone-without v q k l.waits alone) (suc (nearer_ready t k d)) p q d e l r refl (omega arith) in
    record {
      hops = j.hops;
      at = j.end;
      delivers = j.delivers;
      few = omega (arith, j.few, ready-few t k d (ready-low v d r) r.1);
      nearest = cover-nearest v s k hk j.end j.ready j.covers;
    }

-- ---- the journey is one: no other number of routings, slot, table or pool comes of the same steps

dest-same : {p : Pool} {q k d e : ℕ} → LookupAt p q k d → LookupAt p q k e → d ≡ e
dest-same l i = ap (λ (m : Message). m.dest) (sym l.is ∙ i.is)

-- Deliver and Forward of one lookup are not both done
never_both : (t : Table) {p : Pool} {q k d : ℕ} → LookupAt p q k d → (stepped t p (Deliver q)).answer ≡ Ok tt
    → (stepped t p (Forward q)).answer ≡ Ok tt → ⊥
never_both t {p} {q} {k} {d} l a b =
    let x = step-done t p 256 (Deliver q) a in
    let y = step-done t p 256 (Forward q) b in
    opposed (delivers t k d x.0 (sym (deliver-is t p q k d x.1.sound l) ∙ x.1.plan)).covers
    (forwards t k d (hops_at p q) y.0 (sym (forward-is t p q k d y.1.sound l) ∙ y.1.plan)).uncovered

pub delivers-one : {k : ℕ} {t u u' : Table} {p r r' : Pool} {q m m' e e' : ℕ} → Delivers k t p q m e u r → Delivers k t p q m' e' u' r'
    → (m ≡ m') × (e ≡ e') × (u ≡ u') × (r ≡ r')
delivers-one (here l a f) (here l' a' f') = (refl, dest-same l l', refl, refl)
delivers-one (here {t = t} l a f) (on l' a' f' rest') = absurd (never_both t l a a')
delivers-one (on {t = t} l a f rest) (here l' a' f') = absurd (never_both t l a' a)
delivers-one {k = k} (on {t = t} {p = p} {q = q} {q' = i} l a f rest) (on {u = w} {r = s} {q' = j} {m = n} {e = g} l' a' f' rest') =
    let same : i ≡ j = cc in
    let next = stepped t p (Forward q) in
    let all = delivers-one rest (subst (λ (x : ℕ). Delivers k next.table next.pool x n g w s) (sym same) rest') in
    (ap suc all.0, all.1, all.2, all.3)
