-- What callers outside are told, computed by the checker: 01's worked values through the answers, the sign of the distance, the tie, and what is out of range.
-- Assumes nothing.
use mathlib.Core.Path.{◌≡◌, refl}
use lib.IntN.{pos, neg_ℤ}
use Rattle.ring.specs.Distance.{fall_of, signed_of, abs_dist_of, rises_to, nearer, left_cover_of, right_cover_of, covers_key}
use Rattle.std.specs.Prelude.{Bool, ℤ, true, false, Some, None}
use Rattle.face_dist.specs.Dist.{ask_fall, ask_signed, ask_abs_dist, ask_nearer, ask_covers, asked_number}

pub record Answers : Type 0 where
  -- P1, P2, and M = 32
  pub fall : (ask_fall 8 18 17 ≡ Some (pos 1)) × (ask_fall 8 17 18 ≡ Some (pos 255)) × (ask_fall 32 0 4294967295 ≡ Some (pos 1))
  -- P3
  pub signed : (ask_signed 8 0 128 ≡ Some (neg_ℤ (pos 128))) × (ask_signed 8 128 0 ≡ Some (pos 128)) × (ask_signed 8 18 17 ≡ Some (pos 1))
      × (ask_signed 8 17 18 ≡ Some (neg_ℤ (pos 1)))
  pub size : (ask_abs_dist 8 17 18 ≡ Some (pos 1)) × (ask_abs_dist 8 0 200 ≡ Some (pos 56))
  -- P8: 65 and 95 are as far from 80, and the one below it is the nearer
  pub nearest : (ask_nearer 8 80 65 95 ≡ Some true) × (ask_nearer 8 80 95 65 ≡ Some false) × (ask_nearer 8 80 18 65 ≡ Some false)
  -- P4 to P7 at their ends, left neighbour before right, and P10
  pub covers : (ask_covers 8 17 18 95 185 ≡ Some true) × (ask_covers 8 17 18 95 184 ≡ Some false) × (ask_covers 8 18 65 17 41 ≡ Some true) × (ask_covers 8 18 65 17 42 ≡ Some false)
      × (ask_covers 8 65 95 18 80 ≡ Some true) × (ask_covers 8 95 17 65 184 ≡ Some true) × (ask_covers 8 95 17 65 80 ≡ Some false) × (ask_covers 8 17 17 17 200 ≡ Some true)
  -- M outside 2 to 32, and an id or a key at 2^M
  pub out_of_range : (ask_fall 1 0 0 ≡ None) × (ask_fall 33 0 0 ≡ None) × (ask_fall 8 256 0 ≡ None) × (ask_fall 8 0 256 ≡ None)
      × (ask_signed 8 0 256 ≡ None) × (ask_abs_dist 8 256 0 ≡ None) × (ask_nearer 8 256 0 1 ≡ None) × (ask_covers 8 0 0 0 256 ≡ None)
  pub numbers : (asked_number {A = ℤ} None ≡ 1)
      × (asked_number (Some (pos 7)) ≡ 0) × (asked_number {A = Bool} None ≡ 1) × (asked_number (Some true) ≡ 0) × (asked_number (Some false) ≡ 0)

pub answers : Answers
unfolding fall_of signed_of abs_dist_of rises_to nearer left_cover_of right_cover_of covers_key
answers =
    record {
      fall = (refl, refl, refl);
      signed = (refl, refl, refl, refl);
      size = (refl, refl);
      nearest = (refl, refl, refl);
      covers = (refl, refl, refl, refl, refl, refl, refl, refl);
      out_of_range = (refl, refl, refl, refl, refl, refl, refl, refl);
      numbers = (refl, refl, refl, refl, refl);
    }
