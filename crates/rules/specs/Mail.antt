-- The waiting messages as a list, oldest first: equality, adding, removing, sending, and which wait. Definitions only, each under its sentence of 01 or of a request;
-- their laws are in crate pool. Assumes nothing.
use Rattle.std.specs.Prelude.{Bool, cond, not, true, false, ◌&&◌, ◌||◌, List, [], ◌∷◌, ◌++◌, ℕ, zero, suc, ◌+◌, eqb, get_or, take, drop, length, Some, None}
use Rattle.marks.specs.Marks.{has, all_to, Found}
use Rattle.rules.specs.Names.{Slot, Marks, Place}
use Rattle.rules.specs.declared.Message.{Message}
use Rattle.rules.specs.Nodes.{placed}
use Rattle.rules.specs.Pool.{blank}

-- a message's fields in a row, but for its hops. T-07: Equality of messages ignores it, and the earlier message with its own number stays
abbrev pub fields_of : Message → List ℕ
fields_of m = m.dest ∷ m.kind ∷ m.word ∷ m.flag ∷ m.owner ∷ m.routing ∷ m.left ∷ m.right ∷ m.failed ∷ []

-- two rows have the same first n fields
abbrev pub same_to : ℕ → List ℕ → List ℕ → Bool
same_to n a b = all_to n (λ f. eqb (get_or a f 0) (get_or b f 0))

-- two messages are equal
unfoldable pub alike : Message → Message → Bool
alike a b = same_to 9 (fields_of a) (fields_of b)

-- no two messages are equal
unfoldable pub all_different : List Message → Bool
all_different xs = all_to (length xs) (λ j. all_to j (λ i. not (alike (get_or xs i blank) (get_or xs j blank))))

-- the first message equal to m, in pool order, where the list starts at place p
unfoldable pub first_from : Message → List Message → Place → Found
first_from m [] p = None
first_from m (x ∷ xs) p = cond (alike x m) (Some p) (first_from m xs (p + 1))

-- the first waiting message equal to it, in pool order
unfoldable pub first_equal : List Message → Message → Found
first_equal xs m = first_from m xs 0

abbrev pub added_at : Found → List Message → Message → List Message
added_at (Some p) xs m = xs
added_at None xs m = xs ++ (m ∷ [])

-- adding first looks for the first waiting message equal to it, and adds nothing if there is one, else goes to the end
unfoldable pub added : List Message → Message → List Message
added xs m = added_at (first_equal xs m) xs m

-- removing closes the gap
unfoldable pub removed_at : List Message → Place → List Message
removed_at xs p = take p xs ++ drop (suc p) xs

-- a message to each slot below n of a set, in rising slot order
unfoldable pub sent_to : Message → Marks → ℕ → List Message → List Message
sent_to m set zero xs = xs
sent_to m set (suc n) xs = cond (has set n) (added (sent_to m set n xs) (placed m n)) (sent_to m set n xs)

abbrev pub sent : Message → Marks → List Message → List Message
sent m set xs = sent_to m set 64 xs

-- an equal message waits
abbrev pub is_found : Found → Bool
is_found (Some p) = true
is_found None = false

unfoldable pub waits : List Message → Message → Bool
waits xs m = is_found (first_equal xs m)

-- a JoinRequest of i waits anywhere
unfoldable pub join_waits : List Message → Slot → Bool
join_waits [] i = false
join_waits (x ∷ xs) i = (eqb x.kind 2 && eqb x.word i) || join_waits xs i

-- T-03: an LSProbe from i to j, whatever it carries
abbrev pub is_probe_from : Slot → Slot → Message → Bool
is_probe_from i j x = eqb x.kind 4 && (eqb x.word i && eqb x.dest j)

-- T-03: the waiting LSProbes from i to j go, and the others close up
unfoldable pub without_probes : List Message → Slot → Slot → List Message
without_probes [] i j = []
without_probes (x ∷ xs) i j = cond (is_probe_from i j x) (without_probes xs i j) (x ∷ without_probes xs i j)

-- T-03: a JoinReply to i waits
unfoldable pub reply_waits : List Message → Slot → Bool
reply_waits [] i = false
reply_waits (x ∷ xs) i = (eqb x.kind 3 && eqb x.dest i) || reply_waits xs i
