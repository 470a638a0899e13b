-- 01's limits and numbers, the tests of a status, T-01's letters, and the fields of each message, one by one. Assumes nothing.
use Rattle.std.specs.Prelude.{Ok, Err}
use mathlib.Core.Path.{◌≡◌, refl}
use mathlib.Core.List.{List, [], ◌∷◌}
use Prim.Native.Nat.{ℕ}
use Rattle.rules.specs.declared.Sides.{Sides}
use Rattle.rules.specs.declared.Status.TheVariants as status
use Rattle.rules.specs.declared.Refusal.TheVariants as no
use Rattle.rules.specs.declared.Message.{Message}
use Rattle.rules.specs.declared.Via.TheVariants as via
use Rattle.rules.specs.Limits.{m_low, m_high, l_low, l_high, nodes_high, messages_high}
use Rattle.rules.specs.Numbers.{status_number, answer_number, via_number}
use Rattle.rules.specs.Nodes.{placed}
use Rattle.rules.specs.Letters.{lookup, lookup_after, join_request, join_reply, ls_probe, ls_probe_reply, no_legal_route, lease_request, broadcast_l_set}
use Rattle.rules.proofs.Small.{sides}
use mathlib.Core.Bool.{Bool, true, false}
use Rattle.rules.specs.declared.Status.{Status}
use Rattle.rules.specs.Plans.{is_dead, is_wait, is_ok, is_ready, is_up}

pub record Numbers : Type 0 where
  -- M from 2 to 32, L from 1 to 8, n to 64 nodes, at most 256 messages
  pub limits : m_low ∷ m_high ∷ l_low ∷ l_high ∷ nodes_high ∷ messages_high ∷ [] ≡ 2 ∷ 32 ∷ 1 ∷ 8 ∷ 64 ∷ 256 ∷ []
  -- status (0 dead, 1 wait, 2 ok, 3 ready)
  pub statuses : status_number status.Dead ∷ status_number status.Wait ∷ status_number status.Ok ∷ status_number status.Ready ∷ []
      ≡ 0 ∷ 1 ∷ 2 ∷ 3 ∷ []
  pub done : answer_number (Ok tt) ≡ 0
  -- slot, place or key out of range
  pub out_of_range : answer_number (Err no.OutOfRange) ≡ 1
  -- status forbids it
  pub by-status : answer_number (Err no.Status) ≡ 2
  -- the same request already waits
  pub waits : answer_number (Err no.Waits) ≡ 3
  -- leaf set empty, not empty or incomplete, as named
  pub leaf-set : answer_number (Err no.LeafSet) ≡ 4
  -- sender or partner not allowed
  pub partner : answer_number (Err no.Partner) ≡ 5
  -- the pool after the step would exceed 256
  pub full : answer_number (Err no.Full) ≡ 6
  -- file shorter than 32 bytes
  pub short : answer_number (Err no.Short) ≡ 7
  -- M, L, n or message count out of range, or last header word not 0
  pub header : answer_number (Err no.Header) ≡ 8
  -- an offset, the total or the real length disagrees with the counts
  pub offsets : answer_number (Err no.Offsets) ≡ 9
  -- a table, record or start list breaks validity; A empty; message list without 256 places
  pub invalid : answer_number (Err no.Invalid) ≡ 10
  -- write buffer too small
  pub no_room_lem : answer_number (Err no.NoRoom) ≡ 11
  -- none, `l` and `r`
  pub vias : via_number via.Unrouted ∷ via_number via.Leaf ∷ via_number via.Routing ∷ [] ≡ 0 ∷ 108 ∷ 114 ∷ []

pub numbers : Numbers
numbers =
    record {
      limits = refl;
      statuses = refl;
      done = refl;
      out_of_range = refl;
      by-status = refl;
      waits = refl;
      leaf-set = refl;
      partner = refl;
      full = refl;
      short = refl;
      header = refl;
      offsets = refl;
      invalid = refl;
      no_room_lem = refl;
      vias = refl;
    }

-- kind, destination, node or key, flag, owner, hops, routing, left, right, failed
abbrev row : Message → List ℕ
row m = m.kind ∷ m.dest ∷ m.word ∷ m.flag ∷ m.owner ∷ m.hops ∷ m.routing ∷ m.left ∷ m.right ∷ m.failed ∷ []

abbrev s : Sides
s = sides 2 8

-- a field that a kind lacks is 0
pub record Letters : Type 0 where
  pub one : row (lookup 80) ≡ 1 ∷ 0 ∷ 80 ∷ 0 ∷ 0 ∷ 0 ∷ 0 ∷ 0 ∷ 0 ∷ 0 ∷ []
  pub one-after : row (lookup_after 7 80) ≡ 1 ∷ 0 ∷ 80 ∷ 0 ∷ 0 ∷ 7 ∷ 0 ∷ 0 ∷ 0 ∷ 0 ∷ []
  pub two : row (join_request 3 6) ≡ 2 ∷ 0 ∷ 3 ∷ 0 ∷ 0 ∷ 0 ∷ 6 ∷ 0 ∷ 0 ∷ 0 ∷ []
  pub three : row (join_reply 6 3 s) ≡ 3 ∷ 0 ∷ 0 ∷ 0 ∷ 3 ∷ 0 ∷ 6 ∷ 2 ∷ 8 ∷ 0 ∷ []
  pub four : row (ls_probe 3 s 6) ≡ 4 ∷ 0 ∷ 3 ∷ 0 ∷ 3 ∷ 0 ∷ 0 ∷ 2 ∷ 8 ∷ 6 ∷ []
  pub five : row (ls_probe_reply 3 s 6) ≡ 5 ∷ 0 ∷ 3 ∷ 0 ∷ 3 ∷ 0 ∷ 0 ∷ 2 ∷ 8 ∷ 6 ∷ []
  pub six : row (no_legal_route 80) ≡ 6 ∷ 0 ∷ 80 ∷ 0 ∷ 0 ∷ 0 ∷ 0 ∷ 0 ∷ 0 ∷ 0 ∷ []
  pub seven : row (lease_request 3) ≡ 7 ∷ 0 ∷ 3 ∷ 0 ∷ 0 ∷ 0 ∷ 0 ∷ 0 ∷ 0 ∷ 0 ∷ []
  pub eight : row (broadcast_l_set 3 s 1) ≡ 8 ∷ 0 ∷ 0 ∷ 1 ∷ 3 ∷ 0 ∷ 0 ∷ 2 ∷ 8 ∷ 0 ∷ []
  -- the same message for another destination
  pub elsewhere : row (placed (ls_probe 3 s 6) 1) ≡ 4 ∷ 1 ∷ 3 ∷ 0 ∷ 3 ∷ 0 ∷ 0 ∷ 2 ∷ 8 ∷ 6 ∷ []
  pub hops-kept : row (placed (lookup_after 7 80) 1) ≡ 1 ∷ 1 ∷ 80 ∷ 0 ∷ 0 ∷ 7 ∷ 0 ∷ 0 ∷ 0 ∷ 0 ∷ []
  pub all-kept : row (placed (placed (join_reply 6 3 s) 2) 1) ≡ 3 ∷ 1 ∷ 0 ∷ 0 ∷ 3 ∷ 0 ∷ 6 ∷ 2 ∷ 8 ∷ 0 ∷ []
  pub flag-kept : row (placed (broadcast_l_set 3 s 1) 2) ≡ 8 ∷ 2 ∷ 0 ∷ 1 ∷ 3 ∷ 0 ∷ 0 ∷ 2 ∷ 8 ∷ 0 ∷ []

pub letters : Letters
letters =
    record {
      one = refl;
      one-after = refl;
      two = refl;
      three = refl;
      four = refl;
      five = refl;
      six = refl;
      seven = refl;
      eight = refl;
      elsewhere = refl;
      hops-kept = refl;
      all-kept = refl;
      flag-kept = refl;
    }

-- a test at each status: dead, wait, ok, ready
abbrev at_all : (Status → Bool) → List Bool
at_all f = f status.Dead ∷ f status.Wait ∷ f status.Ok ∷ f status.Ready ∷ []

pub record Tests : Type 0 where
  pub dead : at_all is_dead ≡ true ∷ false ∷ false ∷ false ∷ []
  pub wait : at_all is_wait ≡ false ∷ true ∷ false ∷ false ∷ []
  pub ok : at_all is_ok ≡ false ∷ false ∷ true ∷ false ∷ []
  pub ready : at_all is_ready ≡ false ∷ false ∷ false ∷ true ∷ []
  -- ok or ready
  pub up : at_all is_up ≡ false ∷ false ∷ true ∷ true ∷ []

pub tests : Tests
tests = record { dead = refl; wait = refl; ok = refl; ready = refl; up = refl }
