-- Which messages wait, computed by the checker: that Lookup, a JoinRequest of a node, a JoinReply to it, and what is left when its probes have timed out. Assumes nothing.
use mathlib.Core.Path.{◌≡◌, refl}
use mathlib.Core.Bool.{true, false}
use mathlib.Core.List.{List, [], ◌∷◌}
use Prim.Native.Nat.{ℕ}
use Rattle.rules.specs.declared.Message.{Message}
use Rattle.rules.specs.Nodes.{placed}
use Rattle.rules.specs.Letters.{no_sides, lookup, lookup_after, join_request, join_reply, ls_probe, ls_probe_reply, lease_request}
use Rattle.rules.specs.Mail.{waits, join_waits, without_probes, reply_waits}
use Rattle.rules.proofs.Small.{opened, sides}

-- ---- Lookup: 3 if that Lookup waits

pub record LookupWaits : Type 0 where
  -- that Lookup: to the same node, of the same key
  pub waits-that : waits (placed (lookup 70) 1 ∷ placed (lookup 80) 1 ∷ []) (placed (lookup 80) 1) ≡ true
  -- whatever its hops (T-07)
  pub waits-after-hops : waits (placed (lookup_after 2 80) 1 ∷ []) (placed (lookup 80) 1) ≡ true
  pub waits-elsewhere : waits (placed (lookup 80) 0 ∷ []) (placed (lookup 80) 1) ≡ false
  pub waits-other-key : waits (placed (lookup 81) 1 ∷ []) (placed (lookup 80) 1) ≡ false

pub lookup-waits : LookupWaits
unfolding opened
lookup-waits = record { waits-that = refl; waits-after-hops = refl; waits-elsewhere = refl; waits-other-key = refl }

-- ---- Join: 3 if a JoinRequest of i waits anywhere

pub record JoinWaits : Type 0 where
  -- anywhere, with any routing set; of i, and a JoinRequest
  pub waits-anywhere : join_waits (placed (lookup 2) 2 ∷ placed (join_request 2 7) 0 ∷ []) 2 ≡ true
  pub waits-of-another : join_waits (placed (join_request 1 0) 2 ∷ []) 2 ≡ false
  pub waits-otherwise : join_waits (placed (lease_request 2) 1 ∷ placed (ls_probe 2 no_sides 0) 1 ∷ []) 2 ≡ false

pub join-waits : JoinWaits
unfolding opened
join-waits = record { waits-anywhere = refl; waits-of-another = refl; waits-otherwise = refl }

-- ---- ResignNode: 3 if a JoinReply to i waits (T-03)

pub record ReplyWaits : Type 0 where
  -- a JoinReply, and to i
  pub waits_there : reply_waits (placed (lookup 2) 2 ∷ placed (join_reply 7 1 no_sides) 2 ∷ []) 2 ≡ true
  pub waits-elsewhere : reply_waits (placed (join_reply 7 2 no_sides) 1 ∷ []) 2 ≡ false
  pub waits-otherwise : reply_waits (placed (join_request 2 0) 2 ∷ placed (ls_probe 2 no_sides 0) 2 ∷ []) 2 ≡ false

pub reply-waits : ReplyWaits
unfolding opened
reply-waits = record { waits_there = refl; waits-elsewhere = refl; waits-otherwise = refl }

-- ---- ProbeTimeOut: the waiting LSProbes from i to j go (T-03)

abbrev probe_to : ℕ → Message
probe_to j = placed (ls_probe 0 (sides 6 48) 4) j

abbrev others : List Message
others =
    placed (ls_probe 2 (sides 8 2) 0) 1 ∷ probe_to 2 ∷ placed (ls_probe_reply 0 (sides 6 48) 4) 1 ∷ placed (ls_probe 1 no_sides 0) 0 ∷ placed (lookup 0) 1 ∷ []

pub record ProbesGone : Type 0 where
  -- all of them, whatever they carry, wherever they stand; the others stay in order
  pub gone : without_probes (probe_to 1 ∷ placed (ls_probe 0 no_sides 0) 1 ∷ others) 0 1 ≡ others
  pub last : without_probes (placed (lookup 0) 1 ∷ probe_to 1 ∷ []) 0 1 ≡ placed (lookup 0) 1 ∷ []
  -- a probe to another, from another, a reply, and other kinds stay
  pub stay : without_probes others 0 1 ≡ others
  pub none : without_probes [] 0 1 ≡ []

pub probes-gone : ProbesGone
unfolding opened
probes-gone = record { gone = refl; last = refl; stay = refl; none = refl }
