-- Proved, by name: each statement of Claims (demand 3), then each of Pair (T-05), each of Carried (T-07), and each of Joining (T-08). Assumes nothing.
use Rattle.table_laws.proofs.Sound.{sound}
use Rattle.lookup_laws.specs.Claims.{EveryLookup, FatesHold, GoesNearer, FewRoutings, SettledArrives, TieBelow, CoversNearest}
use Rattle.lookup_laws.specs.Pair.{ReadyOne, OthersTwo, TakeFive, OtherKinds, Unjudged, GatewayHolds}
use Rattle.lookup_laws.specs.Carried.{CountsRoutings, IssuedAtNone, SinceIssue, FewCarried}
use Rattle.lookup_laws.specs.Joining.{OneHolder, HolderNearest, SettledFlanked, SettledHeld, SettledBeside}
use Rattle.lookup_laws.proofs.Stands as stands
use Rattle.lookup_laws.proofs.Tracks as tracks
use Rattle.lookup_laws.proofs.Routings as routings
use Rattle.lookup_laws.proofs.Arrives as arrives
use Rattle.lookup_laws.proofs.Pair as pair
use Rattle.lookup_laws.proofs.Carried as carried
use Rattle.lookup_laws.proofs.Joined as joined
use Rattle.lookup_laws.proofs.Holder as holder

pub every-lookup : EveryLookup
every-lookup t p q e h one = stands.lookup-at (sound t p e) q h one

pub fates-hold : FatesHold
fates-hold = tracks.tracked

pub goes-nearer : GoesNearer
goes-nearer = routings.goes-nearer

pub few-routings : FewRoutings
few-routings = routings.few-routings

pub settled-arrives : SettledArrives
settled-arrives = arrives.settled-arrives

pub tie-below-key : TieBelow
tie-below-key = holder.tie-below-key

pub covers-nearest-ready : CoversNearest
covers-nearest-ready = holder.covers-nearest-ready

pub ready-one : ReadyOne
ready-one = pair.ready-one

pub others-two : OthersTwo
others-two = pair.others-two

pub take-refused : TakeFive
take-refused = pair.take-refused

pub other-kinds : OtherKinds
other-kinds = pair.other-kinds

pub unjudged : Unjudged
unjudged = pair.unjudged

pub gateway-holds : GatewayHolds
gateway-holds = pair.gateway-holds

pub counts-routings : CountsRoutings
counts-routings = carried.counts-routings

pub issued-at-none : IssuedAtNone
issued-at-none = carried.issued-at-none

pub since-issue : SinceIssue
since-issue = carried.since-issue

pub few-carried : FewCarried
few-carried = carried.few-carried

pub one-holder : OneHolder
one-holder = joined.one-holder

pub holder-nearest : HolderNearest
holder-nearest = joined.holder-nearest

pub settled-flanked : SettledFlanked
settled-flanked = holder.settled-flanked

pub settled-held : SettledHeld
settled-held = holder.settled-held

pub settled-beside : SettledBeside
settled-beside = holder.settled-beside
