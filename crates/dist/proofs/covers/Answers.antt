-- `dist::covers` meets its contract: both ends of the arc are remainders, so below 2^m. Assumes nothing.
use Rattle.std.proofs.Common.{mod-lt, pow_pos}
use Rattle.ring.specs.Distance.{covers_key, left_cover_of, right_cover_of}
use Rattle.dist.proofs.covers.Goals as goal

pub fall-requires : goal.fall-requires
unfolding left_cover_of
fall-requires c = let h = c.requires in
    record { width = h.0.width; first = rw c.left_cover-from.ensures (mod-lt _ (pow_pos _)); second = h.1.second }

pub fall-requires-2 : goal.fall-requires-2
unfolding left_cover_of right_cover_of
fall-requires-2 c = record {
  width = c.requires.0.width;
  first = rw c.left_cover-from.ensures (mod-lt _ (pow_pos _));
  second = rw c.right_cover-to.ensures (mod-lt _ (pow_pos _));
}

pub returns : goal.returns
unfolding covers_key
returns c = rw (c.fall-2.ensures, c.fall.ensures, c.right_cover-to.ensures, c.left_cover-from.ensures)
