-- The messages of 01, for no destination yet. A field that a kind lacks is 0; the hop number (T-07) is always 0 for kinds other than Lookup. Assumes nothing.
use Rattle.std.specs.Prelude.{ℕ}
use Rattle.rules.specs.Names.{Slot, Marks, Key, Kind, Hops}
use Rattle.rules.specs.declared.Sides.{Sides}
use Rattle.rules.specs.declared.Message.{Message}

abbrev pub letter : Kind → ℕ → ℕ → Slot → Marks → Sides → Marks → Message
letter kind word flag owner routing s failed =
    record { kind = kind; dest = 0; word = word; flag = flag; owner = owner; hops = 0; routing = routing; left = s.left; right = s.right; failed = failed }

abbrev pub no_sides : Sides
no_sides = record { left = 0; right = 0 }

-- 1 Lookup (key), with its hop number (T-07)
abbrev pub lookup_after : Hops → Key → Message
lookup_after hops k = record { kind = 1; dest = 0; word = k; flag = 0; owner = 0; hops = hops; routing = 0; left = 0; right = 0; failed = 0 }

-- T-07: 0 on issue
abbrev pub lookup : Key → Message
lookup k = lookup_after 0 k

-- 2 JoinRequest (node, routing set)
abbrev pub join_request : Slot → Marks → Message
join_request j routing = letter 2 j 0 0 routing no_sides 0

-- 3 JoinReply (routing set, leaf set with owner)
abbrev pub join_reply : Marks → Slot → Sides → Message
join_reply routing owner s = letter 3 0 0 owner routing s 0

-- 4 LSProbe and 5 LSProbeReply (node, leaf set whose owner is that node, failed)
abbrev pub ls_probe : Slot → Sides → Marks → Message
ls_probe i s failed = letter 4 i 0 i 0 s failed

abbrev pub ls_probe_reply : Slot → Sides → Marks → Message
ls_probe_reply i s failed = letter 5 i 0 i 0 s failed

-- 6 NoLegalRoute (key)
abbrev pub no_legal_route : Key → Message
no_legal_route k = letter 6 k 0 0 0 no_sides 0

-- 7 LeaseRequest (node)
abbrev pub lease_request : Slot → Message
lease_request i = letter 7 i 0 0 0 no_sides 0

-- 8 BroadcastLSet (leaf set with owner, grant flag)
abbrev pub broadcast_l_set : Slot → Sides → ℕ → Message
broadcast_l_set owner s flag = letter 8 0 flag owner 0 s 0
