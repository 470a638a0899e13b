-- A count of written bytes is small, and so are the numbers of answers and letters, so that they fit one word. Assumes nothing.
use Rattle.rules.specs.Shapes.{Answer}
use mathlib.Core.Path.{◌≡◌, refl}
use mathlib.Core.Bool.{Bool, true, false, cond}
use mathlib.Core.List.{List}
use Prim.Native.Nat.{ℕ, ◌≤◌}
use native.Mathlib.Omega.{arith}
use lib.Dec.{ltb}
use lib.ListN.{length}
use Rattle.rules.specs.declared.Refusal.{Refusal}
use Rattle.rules.specs.declared.Refusal.TheVariants as no
use Rattle.rules.specs.declared.Pool.{Pool}
use Rattle.rules.specs.declared.Via.{Via}
use Rattle.rules.specs.declared.Via.TheVariants.{Unrouted, Leaf, Routing}
use Rattle.rules.specs.Numbers.{refusal_number, via_number}
use Rattle.table_type.specs.declared.Table.{Table}
use Rattle.table_type.specs.declared.Stepped.{Stepped}
use Rattle.step.specs.Step.{is_sound}
use Rattle.table.specs.Valid.{valid_of}
use Rattle.file.proofs.Theorems.{total-most}
use Rattle.std.specs.Prelude.{Ok, Err}
use Rattle.file.specs.Format.{total_of}
use Rattle.file.specs.Write.{Wrote, count_of, wrote_of}
use Rattle.face.specs.Calls.{wrote_by, moved_of, moved_by}
use Rattle.face_c.specs.Words.{wrote_in}
use Rattle.listing.specs.Print.{listing_of}
use Rattle.listing.specs.List.{room, list_of}
use Rattle.file_list.proofs.Length.{listing-short}

pub number-few : (why : Refusal) → refusal_number why ≤ 11
number-few no.OutOfRange = omega arith
number-few no.Status = omega arith
number-few no.Waits = omega arith
number-few no.LeafSet = omega arith
number-few no.Partner = omega arith
number-few no.Full = omega arith
number-few no.Short = omega arith
number-few no.Header = omega arith
number-few no.Offsets = omega arith
number-few no.Invalid = omega arith
number-few no.NoRoom = omega arith

pub letter-few : (via : Via) → via_number via ≤ 114
letter-few Unrouted = omega arith
letter-few Leaf = omega arith
letter-few Routing = omega arith

pub wrote-small : (t : Table) (p : Pool) (out : List ℕ) → count_of (wrote_of t p 256 out) ≤ 65536
unfolding wrote_of is_sound
wrote-small t p out = go (valid_of t p) refl (ltb (length out) (total_of t.n p.count)) refl
  where
    go : (v : Bool) → valid_of t p ≡ v → (b : Bool) → ltb (length out) (total_of t.n p.count) ≡ b → count_of (wrote_of t p 256 out) ≤ 65536
    go false e b h = rw e (omega arith)
    go true e true h = rw (e, h) (omega arith)
    go true e false h = rw (e, h) (omega (arith, total-most t p e))

pub wrote-by-small : (s : Stepped) (out : List ℕ) → count_of (wrote_by s out) ≤ 65536
unfolding wrote_by
wrote-by-small s out = go s.answer refl
  where
    go : (a : Answer) → s.answer ≡ a → count_of (wrote_by s out) ≤ 65536
    go (Ok tt) e = rw e (wrote-small s.table s.pool out)
    go (Err why) e = rw e (omega arith)

-- a step that says where its hop came from wrote what the same step writes
moved-wrote : (w : Wrote) (via : Via) → wrote_in (moved_of w via) ≡ w
moved-wrote (Ok count) via = refl
moved-wrote (Err why) via = refl

pub moved-is : (s : Stepped) (out : List ℕ) → wrote_in (moved_by s out) ≡ wrote_by s out
unfolding moved_by
moved-is s out = moved-wrote (wrote_by s out) s.via

pub moved-small : (s : Stepped) (out : List ℕ) → count_of (wrote_in (moved_by s out)) ≤ 65536
moved-small s out = rw (moved-is s out) (wrote-by-small s out)

-- a listing has at most 256 lines below its header
pub list-small : (file out : List ℕ) → count_of (list_of file out) ≤ 65536
unfolding list_of
list-small file out = go (ltb (length out) room)
  where
    go : (b : Bool) → count_of (cond b (Err no.NoRoom) (Ok (length (listing_of file)))) ≤ 65536
    go true = omega arith
    go false = omega (arith, listing-short file)
