-- `list` has one reply for every file and buffer, and leaves one content of the buffer: any two that its contract allows are equal. Assumes nothing.
use mathlib.Core.Path.{◌≡◌}
use mathlib.Core.List.{List}
use Prim.Native.Nat.{ℕ}
use Rattle.file.specs.Write.{Wrote}
use Rattle.file.proofs.Replies.{both-same}
use Rattle.listing.specs.List.{list_of, listed_of}

-- what the caller has: the answer with the number of bytes, and the buffer that held out holds cs
abbrev pub Filed : List ℕ → List ℕ → List ℕ → Wrote → Type 0
Filed file out cs r = (r ≡ list_of file out) × (cs ≡ listed_of file out)

pub list-unique : (file out cs cs' : List ℕ) (r r' : Wrote) → Filed file out cs r → Filed file out cs' r' → (r ≡ r') × (cs ≡ cs')
list-unique file out cs cs' r r' h h' = both-same h h'
