-- A message's record written behind those that wait. Assumes nothing.
use mathlib.Core.Path.{◌≡◌, sym, ◌∙◌, ap}
use mathlib.Core.List.{List, [], ◌∷◌, ◌++◌}
use Prim.Native.Nat.{ℕ, ◌+◌, ◌*◌}
use native.Mathlib.Omega.{arith}
use lib.ListN.{take, drop}
use lib.Seq.{paste, take_all}
use Rattle.rules.specs.declared.Message.{Message}
use Rattle.words.specs.Bytes.{encode}
use Rattle.words.specs.InnerPut.{Put}
use Rattle.file.specs.Format.{message_widths, message_row}
use Rattle.file.specs.Held.{HeldMessage}
use Rattle.image.specs.InnerRecords.{message_of, messages_in}
use Rattle.image.proofs.Records.{put-behind}
use Rattle.image.proofs.Messages.{one_more_lem, read_back}

pub appended : (n : ℕ) (bs new : List ℕ) (next : ℕ) (m : Message) → HeldMessage m
    → Put 56 bs (56 * n) (encode message_widths (message_row m)) next new → messages_in (n + 1) new ≡ messages_in n bs ++ (m ∷ [])
appended n bs new next m f put =
    let vs = encode message_widths (message_row m) in
    let own : take 56 vs ≡ vs = take_all 56 vs (omega (arith, put.sized)) in
    let pasted : new ≡ paste bs (56 * n) vs 56 = put.new_is ∙ ap (λ (t : List ℕ). (take (56 * n) bs ++ t) ++ drop (56 * n + 56) bs) (sym own) in
    one_more_lem n _ bs new (put-behind 56 n bs vs new put.inside (omega (arith, put.sized)) pasted)
    ∙ ap (λ (x : Message). messages_in n bs ++ (x ∷ [])) (ap message_of own ∙ read_back m f)
