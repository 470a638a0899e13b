-- Deliver and Forward of kind 1, Take of kinds 2 and 6, and which plan belongs to which kind, computed by the checker on 01's worked ids: each refusal, the lowest where two
-- apply, and what is done. Assumes nothing.
use Rattle.rules.specs.Shapes.{Planned}
use Rattle.std.specs.Prelude.{Err}
use mathlib.Core.Path.{◌≡◌, refl}
use mathlib.Core.List.{List, [], ◌∷◌}
use Prim.Native.Nat.{ℕ}
use Rattle.rules.specs.declared.Ring.{Ring}
use Rattle.rules.specs.declared.Status.{Status}
use Rattle.rules.specs.declared.Status.TheVariants.{Ok, Ready}
use Rattle.rules.specs.declared.Node.{Node}
use Rattle.rules.specs.declared.Message.{Message}
use Rattle.rules.specs.declared.Refusal.TheVariants as no
use Rattle.rules.specs.declared.Via.TheVariants.{Unrouted, Leaf, Routing}
use Rattle.rules.specs.Nodes.{placed}
use Rattle.rules.specs.Letters.{lookup_after, join_request, join_reply, no_legal_route}
use Rattle.take.specs.Take.{plan_take, plan_deliver, plan_forward, plan_take_join_request, plan_take_join_reply, plan_take_probe, plan_take_probe_reply}
use Rattle.take.specs.Take.{plan_take_lease_request, plan_take_broadcast}
use Rattle.rules.proofs.Small.{four, ids, node, sides}
use Rattle.take.proofs.Small.{opened}
use Rattle.plan.proofs.Small.{at_each, made, said_by}

-- ---- 1. 5 from either of the pair on another kind, whatever the status; then 2 unless ready; then 5 from Deliver when not covered and from Forward when
-- covered. Delivered: nothing is added. Else Lookup goes to the next hop, or NoLegalRoute(k) to i.

-- a message of this kind with key k at 65 in slot 2, with 95 on its left and 18 on its right, by its failed and, for Forward, by the dead
abbrev delivers : ℕ → ℕ → ℕ → Status → Planned
delivers kind failed k s = plan_deliver kind four ids 2 (node 65 s 8 2 1 failed 15 5 3) k

abbrev forwards : ℕ → ℕ → ℕ → ℕ → Status → Planned
forwards kind dead failed k s = plan_forward kind four ids dead 2 (node 65 s 8 2 1 failed 15 5 3) k 0

pub record LookupDelivered : Type 0 where
  pub covered : at_each (delivers 1 0 60) ≡ 2 ∷ 2 ∷ 2 ∷ 0 ∷ []
  pub uncovered : at_each (delivers 1 0 200) ≡ 2 ∷ 2 ∷ 2 ∷ 5 ∷ []
  pub another-kind : at_each (delivers 2 0 60) ≡ 5 ∷ 5 ∷ 5 ∷ 5 ∷ []
  pub no-legal-route : at_each (delivers 6 0 60) ≡ 5 ∷ 5 ∷ 5 ∷ 5 ∷ []
  pub adds-nothing : made (delivers 1 0 60 Ready) ≡ (node 65 Ready 8 2 1 0 15 5 3, [])
  -- a covered key is delivered, whatever failed
  pub though-failed : made (delivers 1 2 60 Ready) ≡ (node 65 Ready 8 2 1 2 15 5 3, [])

pub lookup-delivered : LookupDelivered
unfolding opened
lookup-delivered =
    record { covered = refl; uncovered = refl; another-kind = refl; no-legal-route = refl; adds-nothing = refl; though-failed = refl }

pub record LookupForwarded : Type 0 where
  pub uncovered : at_each (forwards 1 0 0 200) ≡ 2 ∷ 2 ∷ 2 ∷ 0 ∷ []
  pub covered : at_each (forwards 1 0 0 60) ≡ 2 ∷ 2 ∷ 2 ∷ 5 ∷ []
  pub another-kind : at_each (forwards 2 0 0 200) ≡ 5 ∷ 5 ∷ 5 ∷ 5 ∷ []
  pub no-legal-route : at_each (forwards 6 0 0 200) ≡ 5 ∷ 5 ∷ 5 ∷ 5 ∷ []
  pub goes_on : made (forwards 1 0 0 200 Ready) ≡ (node 65 Ready 8 2 1 0 15 5 3, placed (lookup_after 1 200) 1 ∷ [])
  -- T-07: one more at each forwarding; NoLegalRoute has none
  pub one_more_lem : made (plan_forward 1 four ids 0 2 (node 65 Ready 8 2 1 0 15 5 3) 200 7) ≡ (node 65 Ready 8 2 1 0 15 5 3, placed (lookup_after 8 200) 1 ∷ [])
  pub none-stranded : made (plan_forward 1 four ids 8 2 (node 65 Ready 8 2 1 2 15 5 3) 200 7)
      ≡ (node 65 Ready 8 2 1 2 15 5 3, placed (no_legal_route 200) 2 ∷ [])
  pub no-route : made (forwards 1 8 2 200 Ready) ≡ (node 65 Ready 8 2 1 2 15 5 3, placed (no_legal_route 200) 2 ∷ [])

pub lookup-forwarded : LookupForwarded
unfolding opened
lookup-forwarded =
    record {
      uncovered = refl;
      covered = refl;
      another-kind = refl;
      no-legal-route = refl;
      goes_on = refl;
      one_more_lem = refl;
      none-stranded = refl;
      no-route = refl;
    }

-- ---- 2. From j. 2 unless ready; 5 if j is in i's content. If i covers j's id, a JoinReply to j with m's routing set and i's leaf set.
-- Else to the next hop with i's routing set joined in, or NoLegalRoute(id of j) to i.

-- a JoinRequest of 95 in slot 3, with routing set {3}, at 65 with 17 on its left and 18 on its right
abbrev covering : ℕ → Status → Planned
covering j s = plan_take_join_request four ids 0 2 (node 65 s 1 2 8 0 7 5 3) j 8

-- and at 18, with 65 on its left and 17 on its right
abbrev passing : ℕ → ℕ → ℕ → Status → Planned
passing dead failed j s = plan_take_join_request four ids dead 1 (node 18 s 4 1 8 failed 3 5 4) j 8

pub record JoinRequestTaken : Type 0 where
  pub two : at_each (covering 3) ≡ 2 ∷ 2 ∷ 2 ∷ 0 ∷ []
  -- 2 before 5; content is left, right and i
  pub five-left : at_each (covering 0) ≡ 2 ∷ 2 ∷ 2 ∷ 5 ∷ []
  pub five-right : at_each (covering 1) ≡ 2 ∷ 2 ∷ 2 ∷ 5 ∷ []
  pub five-itself : at_each (covering 2) ≡ 2 ∷ 2 ∷ 2 ∷ 5 ∷ []
  pub five-passing : at_each (passing 0 0 2) ≡ 2 ∷ 2 ∷ 2 ∷ 5 ∷ []
  pub reply : made (covering 3 Ready) ≡ (node 65 Ready 1 2 8 0 7 5 3, placed (join_reply 8 2 (sides 1 2)) 3 ∷ [])
  pub goes_on : made (passing 0 0 3 Ready) ≡ (node 18 Ready 4 1 8 0 3 5 4, placed (join_request 3 11) 2 ∷ [])
  -- with 65 dead and 17 failed
  pub no-route : made (passing 4 1 3 Ready) ≡ (node 18 Ready 4 1 8 1 3 5 4, placed (no_legal_route 95) 1 ∷ [])

pub join-request-taken : JoinRequestTaken
unfolding opened
join-request-taken =
    record {
      two = refl;
      five-left = refl;
      five-right = refl;
      five-itself = refl;
      five-passing = refl;
      reply = refl;
      goes_on = refl;
      no-route = refl;
    }

-- ---- T-01. The next hop is to say which; a node in both counts as leaf set. Routing of lookups and of join requests pass this on.

abbrev five : Ring
five = record { m = 8; l = 1; n = 5 }

-- on ids 0, 40, 100, 110, 200, at 0 with 200 on its left and 40 on its right, so by content and routing set: a Lookup of k, and a JoinRequest of slot j
abbrev far_ids : List ℕ
far_ids = 0 ∷ 40 ∷ 100 ∷ 110 ∷ 200 ∷ []

abbrev looks : ℕ → ℕ → Planned
looks routing k = plan_forward 1 five far_ids 0 0 (node 0 Ready 16 2 0 0 routing 0 0) k 0

abbrev joins : ℕ → ℕ → Planned
joins routing j = plan_take_join_request five far_ids 0 0 (node 0 Ready 16 2 0 0 routing 0 0) j 0

pub record Said : Type 0 where
  -- 18 is in the leaf set and in the routing set
  pub both : said_by (forwards 1 0 0 200 Ready) ≡ Leaf
  -- delivered, no legal route, refused: nothing is routed
  pub not-routed : (said_by (delivers 1 0 60 Ready) ≡ Unrouted) × (said_by (forwards 1 8 2 200 Ready) ≡ Unrouted) × (said_by (forwards 1 0 0 200 Ok) ≡ Unrouted)
  -- 100 is in the routing set alone
  pub routing : (made (looks 31 105) ≡ (node 0 Ready 16 2 0 0 31 0 0, placed (lookup_after 1 105) 2 ∷ [])) × (said_by (looks 31 105) ≡ Routing)
  -- 200 is in content, though found by content and routing set
  pub by-the-node : (made (looks 19 140) ≡ (node 0 Ready 16 2 0 0 19 0 0, placed (lookup_after 1 140) 4 ∷ [])) × (said_by (looks 19 140) ≡ Leaf)
  -- a JoinRequest of 110: by the routing set to 100, by content to 40, and a reply
  pub join : (said_by (joins 4 3) ≡ Routing) × (said_by (joins 2 3) ≡ Leaf) × (said_by (passing 0 0 3 Ready) ≡ Leaf)
      × (said_by (covering 3 Ready) ≡ Unrouted) × (said_by (passing 4 1 3 Ready) ≡ Unrouted)

pub said : Said
unfolding opened
said =
    record {
      both = refl;
      not-routed = (refl, refl, refl);
      routing = (refl, refl);
      by-the-node = (refl, refl);
      join = (refl, refl, refl, refl, refl);
    }

-- ---- by kind; 1. 5 from Take on a Lookup, whatever the status; 6. 5 always.

pub record ByKind (g : Ring) (ids : List ℕ) (dead i : ℕ) (v : Node) (m : Message) : Type 0 where
  pub one : plan_take 1 g ids dead i v m ≡ Err no.Partner
  pub two : plan_take 2 g ids dead i v m ≡ plan_take_join_request g ids dead i v m.word m.routing
  pub three : plan_take 3 g ids dead i v m ≡ plan_take_join_reply g ids i v m
  pub four : plan_take 4 g ids dead i v m ≡ plan_take_probe g ids i v m
  pub five : plan_take 5 g ids dead i v m ≡ plan_take_probe_reply g ids i v m
  pub six : plan_take 6 g ids dead i v m ≡ Err no.Partner
  pub seven : plan_take 7 g ids dead i v m ≡ plan_take_lease_request g ids i v m.word
  pub eight : plan_take 8 g ids dead i v m ≡ plan_take_broadcast g ids i v m

pub by_kind : (g : Ring) (ids : List ℕ) (dead i : ℕ) (v : Node) (m : Message) → ByKind g ids dead i v m
unfolding plan_take
by_kind g ids dead i v m =
    record { one = refl; two = refl; three = refl; four = refl; five = refl; six = refl; seven = refl; eight = refl }

-- NoLegalRoute of key 200 at 65, at each status
pub no-legal-route-taken : at_each (λ s. plan_take 6 four ids 0 2 (node 65 s 8 2 0 0 15 5 3) (no_legal_route 200)) ≡ 5 ∷ 5 ∷ 5 ∷ 5 ∷ []
unfolding opened
no-legal-route-taken = refl
