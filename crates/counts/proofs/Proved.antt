-- Proved, by name: each statement of Polls. Assumes nothing.
use Rattle.counts.specs.Claims.{TrueAfter, GoodAfter, SoundExactly, RefusedKeeps, StayTrue}
use Rattle.counts.specs.Claims.{StepAsPlain, StepInvalidExactly, LoadAsPlain, StartAsPlain, LoadsBack}
use Rattle.counts.specs.Claims.{WriteInvalidExactly, WriteAsPlain, WriteRefusedKeeps, RestInvalidExactly, RestAsPlain}
use Rattle.counts.specs.Claims.{AskedInvalidExactly, AskedOutOfRangeExactly, HasExactly, HasNotExactly, FirstExactly, FirstNoneExactly}
use Rattle.counts.specs.Claims.{PolledExactly, CountTells}
use Rattle.counts.proofs.Truth as truth
use Rattle.counts.proofs.Plain as plain
use Rattle.counts.proofs.Asked as asked

pub true-after : TrueAfter
true-after = truth.true-after

pub good-after : GoodAfter
good-after = truth.good-after

pub sound-exactly : SoundExactly
sound-exactly = truth.sound-exactly

pub refused-keeps : RefusedKeeps
refused-keeps = truth.refused-keeps

pub stay-true : StayTrue
stay-true = truth.stay-true

pub step-as-plain : StepAsPlain
step-as-plain = plain.step-as-plain

pub step-invalid-exactly : StepInvalidExactly
step-invalid-exactly = plain.step-invalid-exactly

pub load-as-plain : LoadAsPlain
load-as-plain = plain.load-as-plain

pub start-as-plain : StartAsPlain
start-as-plain = plain.start-as-plain

pub loads-back : LoadsBack
loads-back = plain.loads-back

pub write-invalid-exactly : WriteInvalidExactly
write-invalid-exactly = plain.write-invalid-exactly

pub write-as-plain : WriteAsPlain
write-as-plain = plain.write-as-plain

pub write-refused-keeps : WriteRefusedKeeps
write-refused-keeps = plain.write-refused-keeps

pub rest-invalid-exactly : RestInvalidExactly
rest-invalid-exactly = plain.rest-invalid-exactly

pub rest-as-plain : RestAsPlain
rest-as-plain = plain.rest-as-plain

pub asked-invalid-exactly : AskedInvalidExactly
asked-invalid-exactly = asked.asked-invalid-exactly

pub asked-out-of-range-exactly : AskedOutOfRangeExactly
asked-out-of-range-exactly = asked.asked-out-of-range-exactly

pub has-exactly : HasExactly
has-exactly = asked.has-exactly

pub has-not-exactly : HasNotExactly
has-not-exactly = asked.has-not-exactly

pub first-exactly : FirstExactly
first-exactly = asked.first-exactly

pub first-none-exactly : FirstNoneExactly
first-none-exactly = asked.first-none-exactly

pub polled-exactly : PolledExactly
polled-exactly = asked.polled-exactly

pub count-tells : CountTells
count-tells = asked.count-tells
