-- Following a lookup by the rules alone, with no pool and no validity test at each hop (`follow_to`), is following it by the real step
-- (`trip-is`). The idea: a valid table with the one lookup is valid, what the pair does with it is one of four (`does`), and each leaves the table as it was.
-- What a listing says is then tied to the steps made: `Travels` is a journey of real steps, `follow-travels` says that the listing's numbers and
-- letters are those of one, and `travels-follow` that no others are. The measure: how many listed nodes are nearer to the key than the holder
-- (crate lookup_laws). Assumes nothing.
use Rattle.std.specs.Prelude.{Some, None}
use mathlib.Core.Path.{◌≡◌, refl, sym, ◌∙◌}
use mathlib.Core.Bool.{Bool, true, false, cond, not}
use mathlib.Core.List.{List, [], ◌∷◌, ◌++◌, append_assoc, append-nil}
use Prim.Native.Nat.{ℕ, zero, suc, ◌+◌, ◌-◌, ◌^◌, ◌<◌, ◌≤◌}
use native.Mathlib.Omega.{arith}
use lib.ListN.{length}
use lib.Seq.{set-get_or}
use Rattle.marks.specs.Marks.{all_to, Found}
use Rattle.rules.specs.declared.Hop.{Hop}
use Rattle.rules.specs.declared.Hop.TheVariants.{To, NoRoute}
use Rattle.rules.specs.declared.Message.{Message}
use Rattle.rules.specs.declared.Pool.{Pool}
use Rattle.rules.specs.declared.Action.TheVariants.{Deliver, Forward}
use Rattle.rules.specs.declared.Refusal.TheVariants as no
use Rattle.rules.specs.declared.Via.{Via}
use Rattle.rules.specs.declared.Via.TheVariants.{Unrouted}
use Rattle.rules.specs.InnerAsks.{Listed, Below}
use Rattle.rules.specs.Fits.{message_fits, farther_than}
use Rattle.rules.specs.Letters.{lookup_after, no_legal_route}
use Rattle.rules.specs.Mail.{first_from, first_equal, added, removed_at, all_different}
use Rattle.rules.specs.Nodes.{placed}
use Rattle.rules.specs.Numbers.{via_number}
use Rattle.rules.specs.Plans.{is_ready}
use Rattle.rules.specs.Pool.{laid, message_at}
use Rattle.take.specs.Take.{plan_deliver, plan_forward}
use Rattle.pool_laws.proofs.Laws.{mailed-quiet, mailed-send}
use Rattle.table_type.specs.declared.Table.{Table}
use Rattle.table_type.specs.declared.Stepped.{Stepped}
use Rattle.table_type.specs.Table.{node_at, ring_of, ids_of}
use Rattle.table.specs.Settle.{refused_of, done_by, done_of, carried_out, settle}
use Rattle.step.specs.Step.{is_sound, step_of}
use Rattle.table.specs.Valid.{valid_of}
use Rattle.table_laws.proofs.Letters.{lookup-fits}
use Rattle.table_laws.proofs.Hops.{Within, within-lookup, lookup-within, farther-grows}
use Rattle.table_laws.proofs.Obeys.{Obeys, obeys}
use Rattle.table_laws.proofs.Sound.{Sound, sound, sound-valid}
use Rattle.lookup_laws.specs.Claims.{Nearer}
use Rattle.lookup_laws.specs.Fates.{covers_at, hop_at, via_at}
use Rattle.lookup_laws.proofs.Tracks.{deliver_at, forward_at}
use Rattle.lookup_laws.proofs.Routings.{nearer_listed, hop-nearer, nearer-falls, nearer-few}
use Rattle.file_list.specs.declared.Turn.{Turn}
use Rattle.file_list.specs.declared.Turn.TheVariants.{Delivers, Stops, Goes}
use Rattle.listing.specs.Trip.{Trip, ended, trip_of, follow_of}
use Rattle.file_list.specs.InnerFollow.{turn_by, turn_of, turn_at, letter_at}

-- ---- a lookup that waits alone

-- the pool in which m is the only message
abbrev pub only : Message → Pool
only m = laid (m ∷ [])

-- m is a Lookup, and the table with it alone is valid
pub record Lone (t : Table) (m : Message) : Type 0 where
  pub valid : valid_of t (only m) ≡ true
  pub is-lookup : m.kind ≡ 1

-- a message that obeys its kind may take the place of all others
sound-only : {t : Table} {p : Pool} → Sound t p → (m : Message) → message_fits (ring_of t) m ≡ true → Within (ring_of t) (ids_of t) m → Sound t (only m)
unfolding all_different all_to
sound-only {t} s m e w =
    record {
      numbers = s.numbers;
      listed = s.listed;
      node = s.node;
      blank = s.blank;
      counted = omega arith;
      message = first (λ x. message_fits (ring_of t) x ≡ true) e;
      hops = first (Within (ring_of t) (ids_of t)) w;
      different = refl;
    }
  where
    first : (C : Message → Type 0) → C m → (q : ℕ) → q < 1 → C (message_at (only m) q)
    first C e zero h = e
    first C e (suc q) h = absurd (omega arith)

-- m forwarded to h: one hop more
abbrev pub farther : Message → ℕ → Message
farther m h = placed (lookup_after (m.hops + 1) m.word) h

-- each waiting Lookup of a valid table is one
pub lone : (t : Table) (p : Pool) → valid_of t p ≡ true → (q : ℕ) → q < p.count → (message_at p q).kind ≡ 1 → Lone t (message_at p q)
lone t p e q h k =
    let s = sound t p e in
    record { valid = sound-valid (sound-only s (message_at p q) (s.message q h) (s.hops q h)); is-lookup = k }

-- ---- the pair on it

abbrev pub delivered : Table → Message → Stepped
delivered t m = step_of t (only m) 256 (Deliver 0)

abbrev pub forwarded : Table → Message → Stepped
forwarded t m = step_of t (only m) 256 (Forward 0)

-- neither is done, since its node is not ready
pub record Halts (t : Table) (m : Message) : Type 0 where
  pub kept : delivered t m ≡ refused_of t (only m) no.Status
  pub stuck : forwarded t m ≡ refused_of t (only m) no.Status

-- Forward is done and says this of the hop, Deliver not, and this message waits
pub record Passes (t : Table) (m : Message) (via : Via) (next : Message) : Type 0 where
  pub kept : delivered t m ≡ refused_of t (only m) no.Partner
  pub goes : forwarded t m ≡ done_by via t (only next)

-- and by the steps; the table stays as it was
pub data Does (t : Table) (m : Message) : Turn → Type 0 where
  stops : Halts t m → Does t m Stops
  delivers : delivered t m ≡ done_of t (laid []) → Does t m Delivers
  strands : Passes t m Unrouted (placed (no_legal_route m.word) m.dest) → Does t m Stops
  routes : (h : ℕ) → hop_at t m.dest m.word ≡ To h → Passes t m (via_at t m.dest h) (farther m h) → Does t m (Goes h)

stops-goes : {h : ℕ} → Stops ≡ Goes h → ⊥
stops-goes q = let z : ◌≡◌ {A = ℕ} 0 1 = cc in omega arith

delivers-goes : {h : ℕ} → Delivers ≡ Goes h → ⊥
delivers-goes q = let z : ◌≡◌ {A = ℕ} 0 1 = cc in omega arith

added-first : (m : Message) → added [] m ≡ m ∷ []
unfolding added first_equal first_from
added-first m = refl

module _ {t : Table} {m : Message} (l : Lone t m) where
  deliver-is : delivered t m ≡ settle t (only m) [] m.dest (deliver_at t m.dest m.word)
  unfolding step_of is_sound removed_at
  deliver-is = rw (l.valid, l.is-lookup)

  forward-is : forwarded t m ≡ settle t (only m) [] m.dest (forward_at t m.dest m.word m.hops)
  unfolding step_of is_sound removed_at
  forward-is = rw (l.valid, l.is-lookup)

  does : Does t m (turn_at t m.word m.dest)
  unfolding settle carried_out plan_deliver plan_forward turn_of
  does = ready (is_ready (node_at t m.dest).status) refl
    where
      hop : is_ready (node_at t m.dest).status ≡ true → covers_at t m.dest m.word ≡ false → (x : Hop)
          → hop_at t m.dest m.word ≡ x → Does t m (turn_by x)
      hop r c (To h) e =
          routes h e (record { kept = deliver-is ∙ rw (r, c); goes = forward-is ∙ rw (r, c, e, mailed-send, added-first, set-get_or) })
      hop r c NoRoute e =
          strands (record { kept = deliver-is ∙ rw (r, c); goes = forward-is ∙ rw (r, c, e, mailed-send, added-first, set-get_or) })

      covers : is_ready (node_at t m.dest).status ≡ true → (b : Bool) → covers_at t m.dest m.word ≡ b
          → Does t m (cond b Delivers (turn_by (hop_at t m.dest m.word)))
      covers r true c = delivers (deliver-is ∙ rw (r, c, mailed-quiet, set-get_or))
      covers r false c = hop r c (hop_at t m.dest m.word) refl

      ready : (b : Bool) → is_ready (node_at t m.dest).status ≡ b
          → Does t m (cond (not b) Stops (cond (covers_at t m.dest m.word) Delivers (turn_by (hop_at t m.dest m.word))))
      ready true r = covers r (covers_at t m.dest m.word) refl
      ready false r = stops (record { kept = deliver-is ∙ rw r; stuck = forward-is ∙ rw r })

  lone-sound : Sound t (only m)
  lone-sound = sound t (only m) l.valid

  lone-obeys : Obeys (ring_of t) m
  lone-obeys = obeys (ring_of t) m (lone-sound.message 0 (omega arith))

  pub lone-listed : Listed (ring_of t) (ids_of t)
  lone-listed = lone-sound.listed

  pub lone-slot : m.dest < t.n
  lone-slot = lone-obeys.dest-in

  pub lone-key : m.word < 2 ^ t.m
  lone-key = lone-obeys.key_in (rw l.is-lookup)

  -- where it is routed it is one again, nearer to the key
  module _ (h : ℕ) (e : hop_at t m.dest m.word ≡ To h) where
    near : (h < t.n) × Nearer t m.word h m.dest
    near = hop-nearer lone-sound m.word m.dest h lone-slot e

    -- its hops are within the bound again
    more : m.hops + 1 ≤ farther_than (ring_of t) (ids_of t) m.word h
    more =
        let low = within-lookup (ring_of t) (ids_of t) m (lone-sound.hops 0 (omega arith)) l.is-lookup in
        let grown = farther-grows (ring_of t) (ids_of t) m.word m.dest h lone-slot near.1 in
        omega arith

    pub lone-routed : Lone t (farther m h)
    lone-routed =
        let fits = lookup-fits (ring_of t) h near.0 (m.hops + 1) m.word lone-key in
        let within = lookup-within (ring_of t) (ids_of t) (m.hops + 1) m.word h more in
        record { valid = sound-valid (sound-only lone-sound (farther m h) fits within); is-lookup = refl }

    routed-falls : nearer_listed t m.word h < nearer_listed t m.word m.dest
    routed-falls = nearer-falls t.m t.n (ids_of t) m.word h m.dest near.0 near.1

  -- and by the rules it goes on to a listed slot
  pub lone-goes : (k i h : ℕ) → i < t.n → turn_at t k i ≡ Goes h → h < t.n
  unfolding turn_of
  lone-goes k i h b = ready (is_ready (node_at t i).status)
    where
      hop : (x : Hop) → hop_at t i k ≡ x → turn_by x ≡ Goes h → h < t.n
      hop (To j) e q = let d : j ≡ h = cc in rw d at (hop-nearer lone-sound k i j b e).0
      hop NoRoute e q = absurd (stops-goes q)

      covers : (c : Bool) → cond c Delivers (turn_by (hop_at t i k)) ≡ Goes h → h < t.n
      covers true q = absurd (delivers-goes q)
      covers false q = hop (hop_at t i k) refl q

      ready : (r : Bool) → cond (not r) Stops (cond (covers_at t i k) Delivers (turn_by (hop_at t i k))) ≡ Goes h → h < t.n
      ready true q = covers (covers_at t i k) q
      ready false q = absurd (stops-goes q)

-- ---- following by the rules alone

-- it ends at slot i, delivered or not, or goes on from another slot
abbrev pub onward : Turn → ℕ → List ℕ → (ℕ → Trip) → Trip
onward Delivers i letters rest = ended (Some i) letters
onward Stops i letters rest = ended None letters
onward (Goes h) i letters rest = rest h

-- one letter more, of the routing from slot i to h
abbrev pub lettered : Table → ℕ → ℕ → List ℕ → List ℕ
lettered t i h letters = letters ++ (letter_at t i h ∷ [])

-- by at most so many slots, from slot i
unfoldable pub follow_to : ℕ → Table → ℕ → ℕ → List ℕ → Trip
follow_to zero t k i letters = ended None letters
follow_to (suc slots) t k i letters = onward (turn_at t k i) i letters (λ h. follow_to slots t k h (lettered t i h letters))

-- one turn of 64, and none
pub turn : (t : Table) (k i hops : ℕ) (letters : List ℕ) → hops < 64
    → follow_to (64 - hops) t k i letters ≡ onward (turn_at t k i) i letters (λ h. follow_to (64 - (hops + 1)) t k h (lettered t i h letters))
unfolding follow_to
turn t k i hops letters h = let e : 64 - hops ≡ suc (64 - (hops + 1)) = omega arith in rw e

pub turn-none : (t : Table) (k i hops : ℕ) (letters : List ℕ) → 64 ≤ hops → follow_to (64 - hops) t k i letters ≡ ended None letters
unfolding follow_to
turn-none t k i hops letters h = let e : 64 - hops ≡ 0 = omega arith in rw e

-- it is following by the step
pub trip-is : (n : ℕ) {t : Table} {m : Message} → Lone t m → (letters : List ℕ)
    → trip_of n t (only m) letters ≡ follow_to n t m.word m.dest letters
unfolding trip_of follow_to
trip-is zero l letters = refl
trip-is (suc n) {t} {m} l letters =
    go (turn_at t m.word m.dest) (does l) (λ h e. trip-is n (lone-routed l h e) (lettered t m.dest h letters))
  where
    go : (x : Turn) → Does t m x
        → ((h : ℕ) → hop_at t m.dest m.word ≡ To h
        → trip_of n t (only (farther m h)) (lettered t m.dest h letters)
        ≡ follow_to n t m.word h (lettered t m.dest h letters))
        → trip_of (suc n) t (only m) letters
        ≡ onward x m.dest letters (λ h. follow_to n t m.word h (lettered t m.dest h letters))
    go x (stops s) on = rw (s.kept, s.stuck)
    go x (delivers s) on = rw s
    go x (strands s) on = rw (s.kept, s.goes)
    go x (routes h e s) on = rw (s.kept, s.goes) (on h e)

pub follow-is : {t : Table} {m : Message} → Lone t m → follow_of t m ≡ follow_to 64 t m.word m.dest []
unfolding follow_of
follow-is l = trip-is 64 l []

-- ---- the listing's numbers, by the steps made

-- the lookup m, delivered or forwarded as the only message of the table t, ends so: at the slot whose Deliver was done, or at none, after the
-- Forwards to another node, each with the letter that its answer says
pub data Travels (t : Table) : Message → Found → List ℕ → Type 0 where
  -- refused by a node that is not ready
  stopped : {m : Message} → Halts t m → Travels t m None []
  -- delivered: nothing waits
  arrived : {m : Message} → delivered t m ≡ done_of t (laid []) → Travels t m (Some m.dest) []
  -- no legal route: NoLegalRoute waits
  stranded : {m : Message} → Passes t m Unrouted (placed (no_legal_route m.word) m.dest) → Travels t m None []
  -- forwarded: the same Lookup waits at another slot, with one hop more
  routed : {m : Message} {h : ℕ} {via : Via} {end : Found} {letters : List ℕ} → Passes t m via (farther m h)
      → Travels t (farther m h) end letters → Travels t m end (via_number via ∷ letters)

-- whatever such a journey is, following tells it
pub travels-trip : {t : Table} {m : Message} {end : Found} {more : List ℕ} → Travels t m end more → (n : ℕ) (letters : List ℕ) → length more < n
    → trip_of n t (only m) letters ≡ ended end (letters ++ more)
unfolding trip_of
travels-trip w zero letters h = absurd (omega arith)
travels-trip (stopped e) (suc n) letters h = rw (e.kept, e.stuck, append-nil letters)
travels-trip (arrived e) (suc n) letters h = rw (e, append-nil letters)
travels-trip (stranded e) (suc n) letters h = rw (e.kept, e.goes, append-nil letters)
travels-trip {m = m} (routed {h = slot} {via = via} {letters = more} e w) (suc n) letters h =
    rw (e.kept, e.goes) (travels-trip {m = farther m slot} w n (letters ++ (via_number via ∷ [])) (omega arith) ∙ rw append_assoc)

-- a journey, routed at most as often as listed nodes are nearer to the key
record Journey (t : Table) (m : Message) : Type 0 where
  end : Found
  letters : List ℕ
  travels : Travels t m end letters
  few : length letters ≤ nearer_listed t m.word m.dest
  below : Below end t.n

journey-in : (n : ℕ) {t : Table} {m : Message} → Lone t m → nearer_listed t m.word m.dest < n → Journey t m
journey-in zero l f = absurd (omega arith)
journey-in (suc n) {t} {m} l f =
    go (turn_at t m.word m.dest) (does l) (λ h e. journey-in n (lone-routed l h e) (omega (arith, routed-falls l h e)))
  where
    ends : (e : Found) → Below e t.n → Travels t m e [] → Journey t m
    ends e b w = record { end = e; letters = []; travels = w; few = omega arith; below = b }

    go : (x : Turn) → Does t m x → ((h : ℕ) → hop_at t m.dest m.word ≡ To h → Journey t (farther m h)) → Journey t m
    go x (stops s) on = ends None tt (stopped s)
    go x (delivers s) on = ends (Some m.dest) (lone-slot l) (arrived s)
    go x (strands s) on = ends None tt (stranded s)
    go x (routes h e s) on =
        let j = on h e in
        record {
          end = j.end;
          letters = letter_at t m.dest h ∷ j.letters;
          travels = routed s j.travels;
          few = omega (arith, j.few, routed-falls l h e);
          below = j.below;
        }

module _ {t : Table} {m : Message} (l : Lone t m) where
  journey : Journey t m
  journey = journey-in (suc (nearer_listed t m.word m.dest)) l (omega arith)

  journey-few : length journey.letters < t.n
  journey-few = omega (arith, journey.few, nearer-few t.m t.n (ids_of t) m.word m.dest (lone-slot l))

  -- 64 slots are enough
  journey-told : follow_of t m ≡ ended journey.end journey.letters
  unfolding follow_of
  journey-told =
      let few : length journey.letters < 64 = omega (arith, journey-few, (lone-listed l).n-high) in
      travels-trip journey.travels 64 [] few

  -- `to` is the slot whose Deliver was done, and the letters are those of the Forwards to another node
  pub follow-travels : Travels t m (follow_of t m).end (follow_of t m).letters
  follow-travels = rw journey-told journey.travels

  -- and no other journey of it is told
  pub travels-follow : (end : Found) (letters : List ℕ) → Travels t m end letters → follow_of t m ≡ ended end letters
  travels-follow end letters w =
      let n = suc (length letters + length journey.letters) in
      let told : trip_of n t (only m) [] ≡ ended journey.end journey.letters = travels-trip journey.travels n [] (omega arith) in
      journey-told ∙ sym told ∙ travels-trip w n [] (omega arith)

  -- it is routed at most n - 1 times
  pub follow-few : length (follow_of t m).letters < t.n
  follow-few = rw journey-told journey-few

  pub follow-below : Below (follow_of t m).end t.n
  follow-below = rw journey-told journey.below
