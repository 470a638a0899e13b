-- The listing of any file, in a buffer of the caller's: what `list` leaves, for every file and buffer. Definitions only. Assumes nothing.
use Rattle.std.specs.Prelude.{cond, List, ◌++◌, ℕ, ltb, length, drop, Ok, Err}
use Rattle.rules.specs.declared.Refusal.TheVariants as no
use Rattle.file.specs.Write.{Wrote}
use Rattle.listing.specs.Print.{listing_of}

-- 11 for a buffer of fewer bytes than this, which is more than any listing has
abbrev pub room : ℕ
room = 65536

unfoldable pub list_of : List ℕ → List ℕ → Wrote
list_of file out = cond (ltb (length out) room) (Err no.NoRoom) (Ok (length (listing_of file)))

-- the listing stands in the first bytes; the rest is as before
unfoldable pub listed_of : List ℕ → List ℕ → List ℕ
listed_of file out = cond (ltb (length out) room) out (listing_of file ++ drop (length (listing_of file)) out)
