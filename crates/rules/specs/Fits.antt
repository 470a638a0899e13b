-- A table is valid if all numbers are in range, no mark is at n or above, each side has at most L marks, no node is in its own left, right, probing or failed,
-- each message obeys its kind and no two messages are equal. Slots at n and above are blank (docs/DECISIONS.md). These are the rules of
-- one slot and of one message; Valid of crate table puts them together. Definitions only. Assumes nothing.
use Rattle.std.specs.Prelude.{Bool, true, cond, ◌&&◌, ◌||◌, not, ℕ, pred, ◌^◌, eqb, leb, ltb}
use Rattle.ring.specs.Distance.{nearer}
use Rattle.marks.specs.Marks.{has, size_of, listed, tally}
use Rattle.rules.specs.Names.{Slot, Marks, Ids, Key, Kind}
use Rattle.rules.specs.Pick.{id_at}
use Rattle.rules.specs.declared.Node.{Node}
use Rattle.rules.specs.declared.Ring.{Ring}
use Rattle.rules.specs.declared.Sides.{Sides}
use Rattle.rules.specs.declared.Message.{Message}
use Rattle.rules.specs.Limits.{m_low, m_high, l_low, l_high, nodes_high}
use Rattle.rules.specs.Numbers.{status_number}
use Rattle.rules.specs.Nodes.{sides_of, carried_of}

abbrev pub between : ℕ → ℕ → ℕ → Bool
between low x high = leb low x && leb x high

-- M from 2 to 32, L from 1 to 8, n from 1 to 64 nodes
unfoldable pub numbers_fit : Ring → Bool
numbers_fit g = between m_low g.m m_high && (between l_low g.l l_high && between 1 g.n nodes_high)

-- ids are below 2^M and strictly rising by slot
unfoldable pub id_fits : Ring → Ids → Slot → Bool
id_fits g ids s = ltb (id_at ids s) (2 ^ g.m) && (eqb s 0 || ltb (id_at ids (pred s)) (id_at ids s))

-- each side has at most L marks, none at n or above, and not its owner's
unfoldable pub side_fits : Ring → Slot → Marks → Bool
side_fits g owner side = listed g.n side && (leb (size_of side) g.l && not (has side owner))

unfoldable pub leaf_fits : Ring → Slot → Sides → Bool
leaf_fits g owner s = side_fits g owner s.left && side_fits g owner s.right

-- a set of other nodes: no mark is at n or above, and the node is not in it
unfoldable pub others_fit : Ring → Slot → Marks → Bool
others_fit g i set = listed g.n set && not (has set i)

unfoldable pub node_fits : Ring → Slot → Node → Bool
node_fits g i v = leaf_fits g i (sides_of v) && (others_fit g i v.probing
    && (others_fit g i v.failed && (listed g.n v.routing && (listed g.n v.lease && listed g.n v.grant))))

-- a slot that is not listed: all fields 0
unfoldable pub is_blank : Node → Bool
is_blank v = eqb v.id 0 && (eqb (status_number v.status) 0 && (eqb v.left 0 && (eqb v.right 0
    && (eqb v.probing 0 && (eqb v.failed 0 && (eqb v.routing 0 && (eqb v.lease 0 && eqb v.grant 0)))))))

unfoldable pub slot_fits : Ring → Ids → Slot → Node → Bool
slot_fits g ids s v = cond (ltb s g.n) (id_fits g ids s && node_fits g s v) (is_blank v)

-- ---- messages: 1 Lookup (key); 2 JoinRequest (node, routing set); 3 JoinReply (routing set, leaf set with owner); 4 LSProbe and 5 LSProbeReply
-- (node, leaf set whose owner is that node, failed); 6 NoLegalRoute (key); 7 LeaseRequest (node); 8 BroadcastLSet (leaf set with owner, grant flag)

abbrev pub is_kind : Kind → Bool
is_kind kind = between 1 kind 8

abbrev pub has_key : Kind → Bool
has_key kind = eqb kind 1 || eqb kind 6

abbrev pub is_probe : Kind → Bool
is_probe kind = eqb kind 4 || eqb kind 5

abbrev pub has_node : Kind → Bool
has_node kind = eqb kind 2 || (is_probe kind || eqb kind 7)

abbrev pub has_routing : Kind → Bool
has_routing kind = eqb kind 2 || eqb kind 3

abbrev pub has_leaf : Kind → Bool
has_leaf kind = eqb kind 3 || (is_probe kind || eqb kind 8)

abbrev pub has_failed : Kind → Bool
has_failed kind = is_probe kind

abbrev pub has_flag : Kind → Bool
has_flag kind = eqb kind 8

-- a field that a kind lacks is 0
abbrev pub zero_unless : Bool → Bool → ℕ → Bool
zero_unless there fits x = cond there fits (eqb x 0)

-- a key below 2^M, or a node
unfoldable pub word_fits : Kind → Ring → ℕ → Bool
word_fits kind g word = cond (has_key kind) (ltb word (2 ^ g.m)) (zero_unless (has_node kind) (ltb word g.n) word)

-- a flag 0 or 1
unfoldable pub flag_fits : Kind → ℕ → Bool
flag_fits kind flag = zero_unless (has_flag kind) (leb flag 1) flag

-- a carried leaf set obeys the node rules for its owner
unfoldable pub carried_fits : Kind → Ring → Slot → Sides → Bool
carried_fits kind g owner s = cond (has_leaf kind) (ltb owner g.n && leaf_fits g owner s) (eqb owner 0 && (eqb s.left 0 && eqb s.right 0))

-- the owner is that node
unfoldable pub owner_fits : Kind → ℕ → Slot → Bool
owner_fits kind word owner = cond (is_probe kind) (eqb owner word) true

-- carried routing and failed sets may mark any listed node
unfoldable pub routing_fits : Kind → Ring → Marks → Bool
routing_fits kind g routing = zero_unless (has_routing kind) (listed g.n routing) routing

unfoldable pub failed_fits : Kind → Ring → Marks → Bool
failed_fits kind g failed = zero_unless (has_failed kind) (listed g.n failed) failed

unfoldable pub fields_fit : Kind → Ring → Message → Bool
fields_fit kind g m = word_fits kind g m.word && (flag_fits kind m.flag && (carried_fits kind g m.owner (carried_of m)
    && (owner_fits kind m.word m.owner && (routing_fits kind g m.routing && failed_fits kind g m.failed))))

-- each message obeys its kind; its destination is a slot
unfoldable pub message_fits : Ring → Message → Bool
message_fits g m = is_kind m.kind && (ltb m.dest g.n && fields_fit m.kind g m)

-- ---- hops

-- T-07: the number of listed nodes farther from key k than slot d (farther by 01's order)
unfoldable pub farther_than : Ring → Ids → Key → Slot → ℕ
farther_than g ids k d = tally g.n (λ s. nearer (2 ^ g.m) k (id_at ids d) (id_at ids s))

-- T-07: always 0 for kinds other than Lookup. Validity gains: a Lookup's hops are at most the number of listed nodes farther from its key than its destination
unfoldable pub hops_fit : Ring → Ids → Message → Bool
hops_fit g ids m = zero_unless (eqb m.kind 1) (leb m.hops (farther_than g ids m.word m.dest)) m.hops
