-- The new messages of a plan: what waits after it is what was left, then the new first message, then the new copies. So their number says
-- whether the pool has room for all. Assumes nothing.
use Rattle.marks.specs.Marks.{Found}
use Rattle.std.specs.Prelude.{Some, None}
use mathlib.Core.Path.{◌≡◌, refl, sym, ◌∙◌, ap}
use mathlib.Core.Bool.{Bool, true, false, cond}
use mathlib.Core.List.{List, [], ◌∷◌, ◌++◌, append-nil}
use Prim.Native.Nat.{ℕ, ◌+◌}
use native.Mathlib.Omega.{arith}
use lib.Dec.{leb}
use lib.ListN.{length, length-append}
use Rattle.rules.specs.declared.Message.{Message}
use Rattle.rules.specs.declared.Pool.{Pool}
use Rattle.rules.specs.declared.Plan.{Plan}
use Rattle.rules.specs.Nodes.{placed}
use Rattle.rules.specs.Pool.{waiting}
use Rattle.rules.specs.Mail.{waits}
use Rattle.rules.specs.Plans.{added_to, mailed}
use Rattle.pool_laws.specs.InnerSending.{left_of, left_count, slotted, copy_to, copies, new_to, new_one, new_all, news_of, one_or_none, new_count, room_of}
use Rattle.pool_laws.proofs.Equal.{added_is}
use Rattle.pool_laws.proofs.Laid.{left-length}
use Rattle.pool_laws.proofs.Sending.{sent_is, copies_length}

-- ---- the first message

pub new-slotted : (m : Message) (to : Found) (ys : List Message) → slotted to ≡ true → slotted (new_to m to ys) ≡ true
new-slotted m (Some s) ys e = go (waits ys (placed m s))
  where
    go : (b : Bool) → slotted (cond b None (Some s)) ≡ true
    go true = refl
    go false = e
new-slotted m None ys e = refl

pub added-to-is : (to : Found) (m : Message) (ys : List Message) → added_to to m ys ≡ ys ++ copy_to m (new_to m to ys)
added-to-is (Some s) m ys = added_is ys (placed m s) ∙ go (waits ys (placed m s))
  where
    go : (b : Bool) → cond b ys (ys ++ (placed m s ∷ [])) ≡ ys ++ copy_to m (cond b None (Some s))
    go true = sym (append-nil ys)
    go false = refl
added-to-is None m ys = sym (append-nil ys)

copy-length : (m : Message) (to : Found) → length (copy_to m to) ≡ one_or_none to
copy-length m (Some s) = refl
copy-length m None = refl

-- ---- all of them

pub mailed-news : (x : Plan) (ys : List Message) → mailed x ys ≡ (ys ++ new_one x ys) ++ copies x.each (new_all x ys)
unfolding mailed new_one new_all
mailed-news x ys =
    rw (added-to-is x.to x.first ys) (sent_is x.each x.all (ys ++ copy_to x.first (new_to x.first x.to ys)))

pub news-size : (x : Plan) (ys : List Message) → length (mailed x ys) ≡ length ys + new_count (news_of x ys)
unfolding new_one
news-size x ys =
    let one : length (new_one x ys) ≡ one_or_none (new_to x.first x.to ys) = copy-length x.first (new_to x.first x.to ys) in
    let all = copies_length x.each (new_all x ys) in
    rw (mailed-news x ys, length-append, length-append) (omega arith)

-- 6 is judged on the pool after the step
pub news-room : (p : Pool) (gone : ℕ) (x : Plan) → length (waiting p) ≡ p.count
    → room_of p.count gone (news_of x (left_of p gone)) ≡ leb (length (mailed x (left_of p gone))) 256
news-room p gone x e =
    let size : length (mailed x (left_of p gone)) ≡ left_count p.count gone + new_count (news_of x (left_of p gone)) =
    news-size x (left_of p gone) ∙ ap (λ (n : ℕ). n + new_count (news_of x (left_of p gone))) (left-length p gone e) in
    ap (λ (n : ℕ). leb n 256) (sym size)
