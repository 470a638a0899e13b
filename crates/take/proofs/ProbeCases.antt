-- Take of kinds 3, 4 and 5, computed by the checker on six nodes: each refusal, the lowest where two apply, and what is done. The node is 10 in slot 0 (80 in
-- slot 2 for kind 3), with 40, 80, 120, 160 and 200 up the ring, in slots 1 to 5. Assumes nothing.
use Rattle.rules.specs.Shapes.{Planned}
use mathlib.Core.Path.{◌≡◌, refl}
use mathlib.Core.List.{[], ◌∷◌}
use Prim.Native.Nat.{ℕ}
use Rattle.rules.specs.declared.Sides.{Sides}
use Rattle.rules.specs.declared.Status.{Status}
use Rattle.rules.specs.declared.Status.TheVariants.{Wait, Ok, Ready}
use Rattle.rules.specs.declared.Message.{Message}
use Rattle.rules.specs.Nodes.{placed}
use Rattle.rules.specs.Letters.{no_sides, join_reply, ls_probe, ls_probe_reply}
use Rattle.take.specs.Take.{plan_take_join_reply, plan_take_probe, plan_take_probe_reply}
use Rattle.rules.proofs.Small.{six, six_ids, node, sides}
use Rattle.take.proofs.Small.{opened}
use Rattle.plan.proofs.Small.{at_each, made}

-- ---- 3. 2 if dead; 4 if the leaf set is not empty; 5 if probing is not empty. Routing set gains m's routing set and the content of m's leaf set; that
-- content is added to the leaf set; probing = new content without i; failed = empty; LSProbe to each in probing, carrying the new leaf set and empty failed.

-- 80 takes the reply of 160, with routing set {0}, 200 on its left and 120 on its right
abbrev replied : ℕ → ℕ → ℕ → Status → Planned
replied left right probing s = plan_take_join_reply (six 1) six_ids 2 (node 80 s left right probing 2 4 2 1) (join_reply 1 4 (sides 32 8))

-- and the reply of 120, with 160 on its left and 80 itself on its right
abbrev replied_with_itself : Status → Planned
replied_with_itself s = plan_take_join_reply (six 1) six_ids 2 (node 80 s 0 0 0 0 4 0 0) (join_reply 0 3 (sides 16 4))

pub record JoinReplyTaken : Type 0 where
  pub two : at_each (replied 0 0 0) ≡ 2 ∷ 0 ∷ 0 ∷ 0 ∷ []
  -- 2 before 4 before 5
  pub four-left : at_each (replied 8 0 0) ≡ 2 ∷ 4 ∷ 4 ∷ 4 ∷ []
  pub four-right : at_each (replied 0 8 0) ≡ 2 ∷ 4 ∷ 4 ∷ 4 ∷ []
  pub five : at_each (replied 0 0 8) ≡ 2 ∷ 5 ∷ 5 ∷ 5 ∷ []
  pub four-first : at_each (replied 8 8 8) ≡ 2 ∷ 4 ∷ 4 ∷ 4 ∷ []
  -- 160 is told, and is neither the next up nor the next down: it is not probed
  pub done : made (replied 0 0 0 Wait)
      ≡ (node 80 Wait 8 32 40 0 61 2 1, placed (ls_probe 2 (sides 8 32) 0) 3 ∷ placed (ls_probe 2 (sides 8 32) 0) 5 ∷ [])
  pub stays-ready : made (replied 0 0 0 Ready)
      ≡ (node 80 Ready 8 32 40 0 61 2 1, placed (ls_probe 2 (sides 8 32) 0) 3 ∷ placed (ls_probe 2 (sides 8 32) 0) 5 ∷ [])
  -- the node itself is neither in its leaf set nor probed
  pub without-itself : made (replied_with_itself Wait)
      ≡ (node 80 Wait 8 16 24 0 28 0 0, placed (ls_probe 2 (sides 8 16) 0) 3 ∷ placed (ls_probe 2 (sides 8 16) 0) 4 ∷ [])

pub join-reply-taken : JoinReplyTaken
unfolding opened
join-reply-taken =
    record {
      two = refl;
      four-left = refl;
      four-right = refl;
      five = refl;
      four-first = refl;
      done = refl;
      stays-ready = refl;
      without-itself = refl;
    }

-- ---- 4. From j. 2 if dead; 4 if wait with empty leaf set; 5 if j = i. F = failed without j. S = leaf set, with j added unless in it. P1 = the members of
-- content(S) that are also in m's failed. P2 = content of S after adding m's content without F, minus content(S). P = the union of P1 and P2, without
-- members of probing or F and without i. Set failed F, leaf set S, routing set plus j, probing plus P. Send LSProbeReply(S, F) to j, then LSProbe(S, F)
-- to each of P.

-- 10 with 80 on its left and 160 on its right takes the probe of 40, which has 120 on its left, 200 on its right, and 10, 80 and 160 as failed
abbrev probed : ℕ → ℕ → Planned
probed probing failed = plan_take_probe (six 1) six_ids 0 (node 10 Ready 4 16 probing failed 1 16 4) (ls_probe 1 (sides 8 32) 21)

-- 10 takes the probe of j, with no side, by its sides and its own status
abbrev probed_by : ℕ → ℕ → ℕ → Status → Planned
probed_by left right j s = plan_take_probe (six 1) six_ids 0 (node 10 s left right 0 0 1 0 0) (ls_probe j no_sides 0)

-- LSProbeReply(S, F) to j, and LSProbe(S, F)
abbrev answer : Sides → ℕ → ℕ → Message
answer s f j = placed (ls_probe_reply 0 s f) j

abbrev probe : Sides → ℕ → ℕ → Message
probe s f p = placed (ls_probe 0 s f) p

pub record ProbeTaken : Type 0 where
  pub two : at_each (probed_by 4 16 1) ≡ 2 ∷ 0 ∷ 0 ∷ 0 ∷ []
  -- wait, with empty leaf set; one side is enough
  pub four : at_each (probed_by 0 0 1) ≡ 2 ∷ 4 ∷ 0 ∷ 0 ∷ []
  pub not-four : at_each (probed_by 0 16 1) ≡ 2 ∷ 0 ∷ 0 ∷ 0 ∷ []
  -- 2 before 4 before 5
  pub five : at_each (probed_by 4 16 0) ≡ 2 ∷ 5 ∷ 5 ∷ 5 ∷ []
  pub four-first : at_each (probed_by 0 0 0) ≡ 2 ∷ 4 ∷ 5 ∷ 5 ∷ []
  -- failed {1, 3}: F = {3}; S has 40 for 80 on its left; P1 = {0, 4}, P2 = {5}; the reply, then the probes in rising slot order
  pub done : made (probed 4 10)
      ≡ (node 10 Ready 2 16 52 8 3 16 4, answer (sides 2 16) 8 1 ∷ probe (sides 2 16) 8 4 ∷ probe (sides 2 16) 8 5 ∷ [])
  -- members of probing are not probed again
  pub probing-left-out : made (probed 48 10) ≡ (node 10 Ready 2 16 48 8 3 16 4, answer (sides 2 16) 8 1 ∷ [])
  -- members of F are not probed
  pub failed-left-out : made (probed 4 58) ≡ (node 10 Ready 2 16 4 56 3 16 4, answer (sides 2 16) 56 1 ∷ [])
  -- with 40 in F, adding 80 and 120 brings 80: F is left out before adding
  pub before-adding : made (plan_take_probe (six 1) six_ids 0 (node 10 Ok 8 16 0 2 1 0 0) (ls_probe 3 (sides 2 4) 0))
      ≡ (node 10 Ok 8 16 4 2 9 0 0, answer (sides 8 16) 2 3 ∷ probe (sides 8 16) 2 2 ∷ [])
  -- the sender was failed, and is of m's content: adding it on the other side keeps 80 out. It is in S already, and is not added
  pub not-the-old-failed : made (plan_take_probe (six 1) six_ids 0 (node 10 Ok 16 0 0 16 1 0 0) (ls_probe 4 (sides 2 4) 0))
      ≡ (node 10 Ok 16 0 2 0 17 0 0, answer (sides 16 0) 0 4 ∷ probe (sides 16 0) 0 1 ∷ [])
  -- a sender that says that it failed is probed
  pub sender-probed : made (plan_take_probe (six 1) six_ids 0 (node 10 Wait 2 32 0 0 1 0 0) (ls_probe 1 no_sides 2))
      ≡ (node 10 Wait 2 32 2 0 3 0 0, answer (sides 2 32) 0 1 ∷ probe (sides 2 32) 0 1 ∷ [])
  -- L = 2: 40 comes on the left and not on the right, and what it tells is not added
  pub wider : made (plan_take_probe (six 2) six_ids 0 (node 10 Ok 12 48 0 0 1 0 0) (ls_probe 1 (sides 12 33) 0))
      ≡ (node 10 Ok 6 48 0 0 3 0 0, answer (sides 6 48) 0 1 ∷ [])

pub probe-taken : ProbeTaken
unfolding opened
probe-taken =
    record {
      two = refl;
      four = refl;
      not-four = refl;
      five = refl;
      four-first = refl;
      done = refl;
      probing-left-out = refl;
      failed-left-out = refl;
      before-adding = refl;
      not-the-old-failed = refl;
      sender-probed = refl;
      wider = refl;
    }

-- ---- 5. As 4, but 5 also if j is not in probing, and no reply is sent. Probing becomes the union of probing and P, without members of the old failed and
-- without j. If i is wait, this is empty, and S overlaps or is complete, i becomes ok.

-- the reply of 40, that carries the same
abbrev told : ℕ → ℕ → Planned
told probing failed = plan_take_probe_reply (six 1) six_ids 0 (node 10 Wait 4 16 probing failed 1 16 4) (ls_probe_reply 1 (sides 8 32) 21)

-- the reply of j, with no side, by sides, probing and status
abbrev told_by : ℕ → ℕ → ℕ → ℕ → Status → Planned
told_by left right probing j s = plan_take_probe_reply (six 1) six_ids 0 (node 10 s left right probing 8 1 0 0) (ls_probe_reply j no_sides 0)

-- L = 2: the reply of 200, the last that is probed
abbrev told_last : ℕ → ℕ → Planned
told_last left right = plan_take_probe_reply (six 2) six_ids 0 (node 10 Wait left right 32 8 1 0 0) (ls_probe_reply 5 no_sides 0)

pub record ProbeReplyTaken : Type 0 where
  pub two : at_each (told_by 4 16 2 1) ≡ 2 ∷ 0 ∷ 0 ∷ 0 ∷ []
  pub four : at_each (told_by 0 0 2 1) ≡ 2 ∷ 4 ∷ 0 ∷ 0 ∷ []
  -- 2 before 4 before 5
  pub five : at_each (told_by 4 16 4 1) ≡ 2 ∷ 5 ∷ 5 ∷ 5 ∷ []
  pub five-itself : at_each (told_by 4 16 3 0) ≡ 2 ∷ 5 ∷ 5 ∷ 5 ∷ []
  pub four-first : at_each (told_by 0 0 4 1) ≡ 2 ∷ 4 ∷ 5 ∷ 5 ∷ []
  -- probing {1, 3}, failed {1, 3}: F, S and P are those of the probe; no reply; 40 answered, and 120 is of the old failed
  pub done : made (told 10 10) ≡ (node 10 Wait 2 16 48 8 3 16 4, probe (sides 2 16) 8 4 ∷ probe (sides 2 16) 8 5 ∷ [])
  -- what is still probed stays
  pub stays : made (told 38 10) ≡ (node 10 Wait 2 16 52 8 3 16 4, probe (sides 2 16) 8 4 ∷ [])
  -- as of the probe: F is left out before adding, and a sender that was failed is not
  pub before-adding : made (plan_take_probe_reply (six 1) six_ids 0 (node 10 Ok 8 16 8 2 1 0 0) (ls_probe_reply 3 (sides 2 4) 0))
      ≡ (node 10 Ok 8 16 4 2 9 0 0, probe (sides 8 16) 2 2 ∷ [])
  pub not-the-old-failed : made (plan_take_probe_reply (six 1) six_ids 0 (node 10 Ok 16 0 16 16 1 0 0) (ls_probe_reply 4 (sides 2 4) 0))
      ≡ (node 10 Ok 16 0 2 0 17 0 0, probe (sides 16 0) 0 1 ∷ [])
  -- 200 makes the leaf set complete, and 120 is of the old failed: probing is empty, and the node is ok; failed stays
  pub becomes-ok : made (told_by 2 0 40 5 Wait) ≡ (node 10 Ok 2 32 0 8 33 0 0, [])
  pub still-probing : made (told_by 2 0 44 5 Wait) ≡ (node 10 Wait 2 32 4 8 33 0 0, [])
  pub stays-ready : made (told_by 2 0 40 5 Ready) ≡ (node 10 Ready 2 32 0 8 33 0 0, [])
  -- L = 2: neither overlapping nor complete; overlapping; complete
  pub short : made (told_last 2 32) ≡ (node 10 Wait 2 32 0 8 33 0 0, [])
  pub overlapping : made (told_last 32 32) ≡ (node 10 Ok 32 32 0 8 33 0 0, [])
  pub complete : made (told_last 6 48) ≡ (node 10 Ok 6 48 0 8 33 0 0, [])

pub probe-reply-taken : ProbeReplyTaken
unfolding opened
probe-reply-taken =
    record {
      two = refl;
      four = refl;
      five = refl;
      five-itself = refl;
      four-first = refl;
      done = refl;
      stays = refl;
      before-adding = refl;
      not-the-old-failed = refl;
      becomes-ok = refl;
      still-probing = refl;
      stays-ready = refl;
      short = refl;
      overlapping = refl;
      complete = refl;
    }
