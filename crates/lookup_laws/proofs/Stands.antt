-- Where a message stands in a list, and where it stands after messages are removed, added and laid out as a pool. In a valid pool every
-- message of kind 1 is a Lookup, and a message equal to a Lookup is that Lookup but for its hops. Assumes nothing.
use Rattle.std.specs.Prelude.{Some, None}
use mathlib.Core.Path.{◌≡◌, refl, sym, ◌∙◌, ap}
use mathlib.Core.Logic.{◌⊎◌, inl, inr}
use mathlib.Core.Bool.{Bool, true, false, cond, ◌&&◌}
use mathlib.Core.List.{List, [], ◌∷◌, ◌++◌}
use Prim.Native.Nat.{ℕ, zero, suc, pred, ◌+◌, ◌-◌, ◌<◌, ◌≤◌}
use native.Mathlib.Omega.{arith}
use lib.Dec.{eqb, ltb}
use borrow.Author.Tests.{eqb-true}
use lib.ListN.{get_or, length, length-append, length-take, get_or-append, get_or-eq_default}
use lib.Seq.{get_or-append_seam}
use Rattle.marks.specs.Marks.{tally}
use Rattle.marks.proofs.Bools.{lt-or-le}
use Rattle.marks.proofs.Laws.{tally-same}
use Rattle.rules.specs.declared.Ring.{Ring}
use Rattle.rules.specs.declared.Sides.{Sides}
use Rattle.rules.specs.declared.Message.{Message}
use Rattle.rules.specs.declared.Pool.{Pool}
use Rattle.rules.specs.declared.Plan.{Plan}
use Rattle.rules.specs.Fits.{is_kind, has_flag, has_routing, has_failed, word_fits, flag_fits, carried_fits, fields_fit, message_fits}
use Rattle.rules.specs.Mail.{is_probe_from, without_probes, fields_of, alike, first_from, first_equal, removed_at}
use Rattle.rules.specs.Letters.{lookup_after}
use Rattle.rules.specs.Nodes.{carried_of, placed}
use Rattle.rules.specs.Plans.{mailed}
use Rattle.rules.specs.Pool.{blank, message_at, waiting, laid}
use Rattle.pool_laws.proofs.Laws.{All, all-at, alike_same, waiting-at, laid-at, removed-length, removed-low, removed-high, mailed-after}
use Rattle.pool_laws.proofs.Probes as probes
use Rattle.pool_laws.proofs.Probes.{gone_before}
use Rattle.table_type.specs.declared.Table.{Table}
use Rattle.table_type.specs.Table.{ring_of}
use Rattle.table_laws.proofs.Nodes.{both}
use Rattle.table_laws.proofs.Obeys.{obeys}
use Rattle.table_laws.proofs.Sound.{Sound}
use Rattle.table_laws.proofs.Hops.{Within, no-hops}
use Rattle.lookup_laws.specs.Journey.{hops_at, LookupAt, probes_before}

-- message m stands at place r of a list
pub record Stands (xs : List Message) (r : ℕ) (m : Message) : Type 0 where
  pub below : r < length xs
  pub same : get_or xs r blank ≡ m

-- ---- in lists

module _ {r : ℕ} {m : Message} where
  pub stands-more : {xs : List Message} (zs : List Message) → Stands xs r m → Stands (xs ++ zs) r m
  stands-more {xs} zs s =
      record { below = rw length-append (omega (arith, s.below)); same = get_or-append xs zs blank r s.below ∙ s.same }

  pub stands-mailed : {xs : List Message} (x : Plan) → Stands xs r m → Stands (mailed x xs) r m
  stands-mailed {xs} x s = let after = mailed-after x xs in rw after.1 (stands-more after.0 s)

  -- a message before it is removed, and one after it
  pub stands-down : {xs : List Message} (i : ℕ) → i < r → Stands xs r m → Stands (removed_at xs i) (pred r) m
  stands-down {xs} i l s =
      let h : i < length xs = omega (arith, s.below) in
      let e : pred r + 1 ≡ r = omega arith in
      record {
        below = omega (arith, s.below, removed-length xs i h);
        same = removed-high xs i h (pred r) (omega arith) ∙ ap (λ (j : ℕ). get_or xs j blank) e ∙ s.same;
      }

  pub stands-still : {xs : List Message} (i : ℕ) → i < length xs → r < i → Stands xs r m → Stands (removed_at xs i) r m
  stands-still {xs} i h l s =
      record { below = omega (arith, s.below, removed-length xs i h); same = removed-low xs i h r l ∙ s.same }

pub stands-last : (xs : List Message) (m : Message) → Stands (xs ++ (m ∷ [])) (length xs) m
stands-last xs m = record { below = rw length-append (omega arith); same = get_or-append_seam xs m [] blank }

-- ---- after probes have gone

tally-shift : (q : ℕ) (f : ℕ → Bool) → tally (suc q) f ≡ cond (f 0) 1 0 + tally q (λ r. f (suc r))
unfolding tally
tally-shift zero f = omega arith
tally-shift (suc q) f = omega (arith, tally-shift q f)

gone-tally : (i j : ℕ) (xs : List Message) (q : ℕ) → q ≤ length xs → gone_before xs i j q ≡ tally q (λ r. is_probe_from i j (get_or xs r blank))
unfolding gone_before tally
gone-tally i j [] zero l = refl
gone-tally i j [] (suc q) l = absurd (omega arith)
gone-tally i j (x ∷ xs) zero l = refl
gone-tally i j (x ∷ xs) (suc q) l =
    ap (λ (n : ℕ). cond (is_probe_from i j x) 1 0 + n) (gone-tally i j xs q (omega arith))
    ∙ sym (tally-shift q (λ r. is_probe_from i j (get_or (x ∷ xs) r blank)))

-- a message that is none of them comes to the front by as many as went before it
stands-left : (i j : ℕ) {xs : List Message} {r : ℕ} {m : Message} → is_probe_from i j m ≡ false → Stands xs r m
    → Stands (without_probes xs i j) (r - tally r (λ s. is_probe_from i j (get_or xs s blank))) m
stands-left i j {xs} {r} e s =
    let h = probes.stays i j xs r s.below (ap (is_probe_from i j) s.same ∙ e) in
    let n : gone_before xs i j r ≡ tally r (λ q. is_probe_from i j (get_or xs q blank)) = gone-tally i j xs r (omega (arith, s.below)) in
    rw (← n) (record { below = h.0; same = h.1 ∙ s.same })

-- ---- in pools

-- the same, as places of a pool
pub stands-probes : (i j : ℕ) (p : Pool) {r : ℕ} {m : Message} → is_probe_from i j m ≡ false → r < p.count → Stands (waiting p) r m
    → Stands (without_probes (waiting p) i j) (r - probes_before p i j r) m
stands-probes i j p {r} e l s =
    let n : tally r (λ q. is_probe_from i j (get_or (waiting p) q blank)) ≡ probes_before p i j r =
    tally-same r _ _ (λ q h. ap (is_probe_from i j) (waiting-at p q (omega arith))) in
    rw (← n) (stands-left i j e s)

-- a Lookup, whatever its hops
pub looks : {p : Pool} {q k d c : ℕ} → q < p.count → message_at p q ≡ placed (lookup_after c k) d → LookupAt p q k d
looks {p} {q} {k} {d} {c} l e =
    let own : c ≡ hops_at p q = sym (ap (λ (m : Message). m.hops) e) in
    record { waits = l; is = e ∙ ap (λ (n : ℕ). placed (lookup_after n k) d) own }

pub stands-is : {ys : List Message} {r : ℕ} {m : Message} → Stands ys r m → message_at (laid ys) r ≡ m
stands-is {ys} {r} s = laid-at ys r s.below ∙ s.same

pub stands-laid : {ys : List Message} {r k d c : ℕ} → Stands ys r (placed (lookup_after c k) d) → LookupAt (laid ys) r k d
stands-laid s = looks s.below (stands-is s)

module _ {t : Table} {p : Pool} (v : Sound t p) where
  -- every place below the count holds a message
  pub count-is : length (waiting p) ≡ p.count
  count-is = go (lt-or-le (length p.places) p.count)
    where
      kind-of : Message → ℕ
      kind-of m = m.kind

      go : (length p.places < p.count) ⊎ (p.count ≤ length p.places) → length (waiting p) ≡ p.count
      go (inl l) =
          let last = obeys (ring_of t) (message_at p (length p.places)) (v.message (length p.places) l) in
          let none : (message_at p (length p.places)).kind ≡ 0 =
          ap kind-of (get_or-eq_default p.places blank {n = length p.places} (omega arith)) in
          absurd (omega (arith, last.kind-low))
      go (inr l) = omega (arith, length-take p.count p.places)

  pub stands-waiting : {q k d : ℕ} → LookupAt p q k d → Stands (waiting p) q (placed (lookup_after (hops_at p q) k) d)
  stands-waiting {q} s = record { below = omega (arith, count-is, s.waits); same = waiting-at p q s.waits ∙ s.is }

-- ---- Lookups

-- it carries no leaf set
no-leaf : (kind : ℕ) (g : Ring) (owner : ℕ) (s : Sides) → carried_fits kind g owner s ≡ true → kind ≡ 1
    → (owner ≡ 0) × (s.left ≡ 0) × (s.right ≡ 0)
unfolding carried_fits
no-leaf kind g owner s e one =
    let none : (eqb owner 0 && (eqb s.left 0 && eqb s.right 0)) ≡ true = rw one at e in
    let a = both (eqb owner 0) (eqb s.left 0 && eqb s.right 0) none in
    let b = both (eqb s.left 0) (eqb s.right 0) a.1 in
    (eqb-true owner 0 a.0, eqb-true s.left 0 b.0, eqb-true s.right 0 b.1)

-- a message of kind 1 that obeys its kind is a Lookup of its word
pub lookup-is : (g : Ring) (m : Message) → message_fits g m ≡ true → m.kind ≡ 1
    → m ≡ placed (lookup_after m.hops m.word) m.dest
unfolding message_fits fields_fit
lookup-is g m e one =
    let o = obeys g m e in
    let kind = both (is_kind m.kind) _ e in
    let dest = both (ltb m.dest g.n) _ kind.1 in
    let word = both (word_fits m.kind g m.word) _ dest.1 in
    let flag = both (flag_fits m.kind m.flag) _ word.1 in
    let leaf = no-leaf m.kind g m.owner (carried_of m) (both (carried_fits m.kind g m.owner (carried_of m)) _ flag.1).0 one in
    rw (
      one,
      o.no_flag (ap has_flag one),
      leaf.0,
      o.no-routing (ap has_routing one),
      leaf.1,
      leaf.2,
      o.no-failed (ap has_failed one),
    )

-- so every message of kind 1 that waits in a valid pool is a Lookup of its word for its destination
pub lookup-at : {t : Table} {p : Pool} → Sound t p → (q : ℕ) → q < p.count → (message_at p q).kind ≡ 1
    → LookupAt p q (message_at p q).word (message_at p q).dest
lookup-at {t} {p} v q h one = record { waits = h; is = lookup-is (ring_of t) (message_at p q) (v.message q h) one }

-- equal messages with the same hops are the same
pub alike_is : (m x : Message) → m.hops ≡ x.hops → alike m x ≡ true → m ≡ x
alike_is m x z a =
    let same : (i : ℕ) → get_or (fields_of m) i 0 ≡ get_or (fields_of x) i 0 = λ i. ap (λ (r : List ℕ). get_or r i 0) (alike_same m x a) in
    rw (same 0, same 1, same 2, same 3, same 4, same 5, same 6, same 7, same 8, z)

alike-kind : (m x : Message) → alike m x ≡ true → m.kind ≡ x.kind
alike-kind m x a = ap (λ (r : List ℕ). get_or r 1 0) (alike_same m x a)

found_from : (m : Message) (xs : List Message) (p r : ℕ) → first_from m xs p ≡ Some r
    → (p ≤ r) × (r - p < length xs) × (alike (get_or xs (r - p) blank) m ≡ true)
unfolding first_from
found_from m [] p r e = absurd (nowhere e)
  where
    nowhere : None ≡ Some r → ⊥
    nowhere e = let z : ◌≡◌ {A = ℕ} 0 1 = cc in omega arith
found_from m (x ∷ xs) p r e = go (alike x m) refl e (found_from m xs (p + 1) r)
  where
    Ends : Type 0
    Ends = (p ≤ r) × (r - p < suc (length xs)) × (alike (get_or (x ∷ xs) (r - p) blank) m ≡ true)

    go : (b : Bool) → alike x m ≡ b → cond b (Some p) (first_from m xs (p + 1)) ≡ Some r
        → (first_from m xs (p + 1) ≡ Some r → (p + 1 ≤ r) × (r - (p + 1) < length xs) × (alike (get_or xs (r - (p + 1)) blank) m ≡ true)) → Ends
    go true d f rest =
        let same : p ≡ r = cc in
        let none : r - p ≡ 0 = omega arith in
        (omega arith, omega arith, rw none d)
    go false d f rest =
        let i = rest f in
        let next : r - p ≡ suc (r - (p + 1)) = omega (arith, i.0) in
        (omega (arith, i.0), omega (arith, i.1), rw next i.2)

-- the first equal one stands where it was found
pub first_alike : (xs : List Message) (x : Message) (r : ℕ) → first_equal xs x ≡ Some r → (r < length xs) × (alike (get_or xs r blank) x ≡ true)
unfolding first_equal
first_alike xs x r e =
    let i = found_from x xs 0 r e in
    let same : r - 0 ≡ r = omega arith in
    (omega (arith, i.1), rw same at i.2)

-- a Lookup equal to one with these hops: a Lookup with its own
pub first-lookup : (xs : List Message) (c k h r : ℕ) → first_equal xs (placed (lookup_after c k) h) ≡ Some r
    → Stands xs r (placed (lookup_after (get_or xs r blank).hops k) h)
unfolding alike
first-lookup xs c k h r e =
    let f = first_alike xs (placed (lookup_after c k) h) r e in
    record { below = f.0; same = alike_is (get_or xs r blank) (placed (lookup_after (get_or xs r blank).hops k) h) refl f.1 }

-- a message of another kind
pub first-other : (g : Ring) (ids : List ℕ) (xs : List Message) (x : Message) (r : ℕ) → All (Within g ids) xs → (x.kind ≡ 1 → ⊥) → x.hops ≡ 0
    → first_equal xs x ≡ Some r → Stands xs r x
first-other g ids xs x r f one z e =
    let i = first_alike xs x r e in
    let m = get_or xs r blank in
    let none = no-hops g ids m (all-at f r i.0) (λ k. one (sym (alike-kind m x i.1) ∙ k)) in
    record { below = i.0; same = alike_is m x (none ∙ sym z) i.1 }

-- hops do not tell which is found
first-from-any : (c b k h : ℕ) (xs : List Message) (p : ℕ) → first_from (placed (lookup_after c k) h) xs p ≡ first_from (placed (lookup_after b k) h) xs p
unfolding first_from alike
first-from-any c b k h [] p = refl
first-from-any c b k h (x ∷ xs) p = ap (cond (alike x (placed (lookup_after c k) h)) (Some p)) (first-from-any c b k h xs (p + 1))

pub first_any : (c b k h : ℕ) (xs : List Message) → first_equal xs (placed (lookup_after c k) h) ≡ first_equal xs (placed (lookup_after b k) h)
unfolding first_equal
first_any c b k h xs = first-from-any c b k h xs 0
