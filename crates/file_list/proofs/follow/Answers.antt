-- The answers. A lookup that waits is one alone (`lone`), each turn is that of the rules (`told`), and so the way's end is the trip's. Assumes nothing.
use borrow.Author.Rules.{rules}
use mathlib.Core.Path.{◌≡◌, refl, sym, ◌∙◌}
use mathlib.Core.List.{List}
use Prim.Native.Nat.{ℕ, ◌<◌}
use native.Mathlib.Omega.{arith}
use lib.ListN.{length, take}
use Rattle.rules.specs.declared.Ring.{Ring}
use Rattle.rules.specs.Pool.{message_at}
use Rattle.table_type.specs.declared.Table.{Table}
use Rattle.table_type.specs.Table.{ring_of, ids_of, node_at}
use Rattle.table_type.proofs.Laws.{length-mapped}
use Rattle.table.specs.Settled.{dead_set}
use Rattle.table_laws.proofs.Sound.{sound}
use Rattle.words.proofs.Puts.{stay}
use Rattle.file_list.specs.declared.Turn.{Turn}
use Rattle.listing.specs.Trip.{ended, follow_of}
use Rattle.listing.specs.Print.{lines_of}
use Rattle.file_list.proofs.Following.{lone, lone-listed, lone-slot}
use Rattle.file_list.specs.InnerFollow.{turn_of, turn_at}
use Rattle.file_list.proofs.Text.{line-short}
use Rattle.file_list.proofs.Runs.{lines_end, lines-line, lines-skip}
use Rattle.file_list.proofs.Hops.{same_turn, sets-out, goes_on, inside, asked, delivered, stopped, unended, trip-ends, line-told}
use Rattle.file_list.proofs.follow.Goals as goal
use Rattle.file_list.proofs.follow.Goals.{then-m-eq1, else-hops-test, then-hops-test+in-Delivers, then-hops-test+in-Stops, else-m-eq1}

-- the node's turn is that of the rules
told : (t : Table) {g : Ring} {ids : List ℕ} {dead : ℕ} → g ≡ ring_of t → ids ≡ ids_of t → dead ≡ dead_set t
    → (i k : ℕ) (x y : Turn) → x ≡ turn_of g ids dead i (node_at t i) k → x ≡ y → turn_at t k i ≡ y
told t p q r i k x y e is = sym (e ∙ same_turn i (node_at t i) k p q r) ∙ is

pub roster-r-requires : goal.roster-r-requires
roster-r-requires c = (sound c.args.t c.args.p c.requires.0).listed

pub dead_set-dead-requires : goal.dead_set-dead-requires
dead_set-dead-requires c = (sound c.args.t c.args.p c.requires.0).listed.n-high

pub lookups-init : goal.lookups-init
unfolding lines_of
lookups-init c = stay _ _ (omega (arith, c.requires.1))

pub offset_bounds-p-q : goal.offset_bounds-p-q
offset_bounds-p-q c = omega (arith, (sound c.args.t c.args.p c.requires.0).counted)

pub bounds-p-q : goal.bounds-p-q
bounds-p-q c = omega (arith, (sound c.args.t c.args.p c.requires.0).counted)

pub hops-init : goal.hops-init
hops-init c = (refl, sets-out (lone c.args.t c.args.p c.requires.0 c.lookups.q c.lookups-test.true c.if-m-eq1.true) _ refl)

pub offset_bounds-t-i : goal.offset_bounds-t-i
offset_bounds-t-i c =
    let w = inside (lone c.args.t c.args.p c.requires.0 c.lookups.q c.lookups-test.true c.if-m-eq1.true) c.hops.invariant.1 in
    omega arith

pub bounds-t-i : goal.bounds-t-i
bounds-t-i c = inside (lone c.args.t c.args.p c.requires.0 c.lookups.q c.lookups-test.true c.if-m-eq1.true) c.hops.invariant.1

pub turn_at-turn-requires : goal.turn_at-turn-requires
turn_at-turn-requires c =
    asked (lone c.args.t c.args.p c.requires.0 c.lookups.q c.lookups-test.true c.if-m-eq1.true) c.roster-r.ensures.ring c.hops.invariant.1

pub hops-preserved : goal.hops-preserved
hops-preserved c =
    let a = c.args in
    let goes =
    told a.t c.roster-r.ensures.ring c.roster-r.ensures.ids c.dead_set-dead.ensures c.hops.i (message_at a.p c.lookups.q).word
    _ _ c.turn_at-turn.ensures c.in-Goes.is in
    let same = c.hops.invariant.0 in (
      refl,
      rw (c.letter_of.ensures, same)
          (goes_on (lone a.t a.p c.requires.0 c.lookups.q c.lookups-test.true c.if-m-eq1.true) c.hops.invariant.1 (omega (arith, same)) goes),
    )

pub put_line-at-requires : goal.put_line-at-requires
put_line-at-requires c =
    let a = c.args in
    let m = message_at a.p c.lookups.q in
    let one = lone a.t a.p c.requires.0 c.lookups.q c.lookups-test.true c.if-m-eq1.true in
    let way = c.hops.invariant.1 in
    let turns = c.hops.invariant.0 in
    let same = told a.t c.roster-r.ensures.ring c.roster-r.ensures.ids c.dead_set-dead.ensures c.hops.i m.word in
    let trip : ended c.hops-test.end (take c.hops.hops c.hops.letters) ≡ follow_of a.t m =
    elim c.hops-test.branch [
      | else-hops-test w ↦ rw w.end-is (unended way (omega (arith, turns, w.hops-test.false)))
      | then-hops-test+in-Delivers w ↦ rw w.end-is (delivered way (omega (arith, turns, w.hops-test.true)) (same _ _ w.turn_at-turn.ensures w.in-Delivers.is))
      | then-hops-test+in-Stops w ↦ rw w.end-is (stopped way (omega (arith, turns, w.hops-test.true)) (same _ _ w.turn_at-turn.ensures w.in-Stops.is))
    ] in
    let line = line-told a.t m c.roster-r.ensures.ids trip in (
      omega (arith, lone-slot one, (lone-listed one).n-high),
      (trip-ends one trip).0,
      (trip-ends one trip).1,
      rw line (omega (
        arith,
        line-short one,
        lines_end a.t a.p c.requires.0 c.lookups.q (omega arith) c.lookups.invariant,
        (sound a.t a.p c.requires.0).counted,
        c.requires.1,
      )),
    )

pub lookups-preserved : goal.lookups-preserved
lookups-preserved c =
    let a = c.args in
    let m = message_at a.p c.lookups.q in
    let full : length a.p.places ≡ 256 = search (length-mapped, rules) in
    let h : c.lookups.q < length a.p.places = omega (arith, full, (sound a.t a.p c.requires.0).counted) in
    elim c.if-m-eq1.branch [
      | then-m-eq1 w ↦
          let way = w.hops.invariant.1 in
          let turns = w.hops.invariant.0 in
          let same = told a.t c.roster-r.ensures.ring c.roster-r.ensures.ids c.dead_set-dead.ensures w.hops.i m.word in
          let trip : ended w.hops-test.end (take w.hops.hops w.hops.letters) ≡ follow_of a.t m =
          elim w.hops-test.branch [
            | else-hops-test v ↦ rw v.end-is (unended way (omega (arith, turns, v.hops-test.false)))
            | then-hops-test+in-Delivers v ↦
                rw v.end-is (delivered way (omega (arith, turns, v.hops-test.true)) (same _ _ v.turn_at-turn.ensures v.in-Delivers.is))
            | then-hops-test+in-Stops v ↦ rw v.end-is (stopped way (omega (arith, turns, v.hops-test.true)) (same _ _ v.turn_at-turn.ensures v.in-Stops.is))
          ] in
          rw (w.b-is, w.at-is)
          (lines-line a.t a.p.places c.lookups.q h w.if-m-eq1.true c.lookups.invariant
          (rw (line-told a.t m c.roster-r.ensures.ids trip) at w.put_line-at.ensures))
      | else-m-eq1 w ↦ rw (w.b-is, w.at-is) (lines-skip a.t a.p.places c.lookups.q h w.if-m-eq1.false c.lookups.invariant)
    ]
