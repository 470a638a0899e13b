-- A result that is written from the start of the buffer on is said, and so is 11 where there is no room for it. Assumes nothing.
use mathlib.Core.Path.{◌≡◌}
use mathlib.Core.List.{List, ◌∷◌, ◌++◌}
use Prim.Native.Nat.{ℕ, ◌<◌}
use native.Mathlib.Nat.{zero-add}
use native.Mathlib.Omega.{arith}
use borrow.Author.Tests.{lt-ltb, le-ltb}
use lib.ListN.{length, length-append}
use Rattle.words.specs.Bytes.{bytes_of}
use Rattle.words.specs.InnerPut.{Put}
use Rattle.words.proofs.Codec.{bytes-length}
use Rattle.run_driver.specs.declared.told.Reply.{Reply}
use Rattle.run_driver.specs.Replies.{Says, numbered, result_of}

module _ (bs out : List ℕ) where
  pub no_room_lem : (n : ℕ) → length bs ≡ n → length out < n → {r : Reply} → r ≡ numbered 11 → Says (result_of bs out) r out
  unfolding result_of
  no_room_lem n l h e =
      let t = lt-ltb (length out) (length bs) (rw l h) in
      record { reply-is = rw (t, e); left_is = rw t }

  pub put-says : {size next : ℕ} {new : List ℕ} → Put size out 0 bs next new → Says (result_of bs out) (record { number = 0; count = next }) new
  unfolding result_of
  put-says p =
      let t = le-ltb (length out) (length bs) (omega (arith, p.inside, p.sized)) in
      record { reply-is = rw (t, p.next-is, p.sized, zero-add); left_is = rw (t, p.new_is, p.sized, zero-add) }

-- ---- how long the results are

pub flag-word-size : (x y : ℕ) → length (x ∷ bytes_of 4 y) ≡ 5
flag-word-size x y = rw bytes-length

pub two_size : (x y : ℕ) → length (bytes_of 4 x ++ bytes_of 8 y) ≡ 12
two_size x y = rw (length-append, bytes-length, bytes-length)

pub three-size : (x y z : ℕ) → length (bytes_of 4 x ++ (bytes_of 8 y ++ bytes_of 8 z)) ≡ 20
three-size x y z = rw (length-append, length-append, bytes-length, bytes-length, bytes-length)
