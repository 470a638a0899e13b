-- `file_write::write` meets its contract: each of its four returns is one of the ways in which a write ends. Assumes nothing.
use mathlib.Core.Path.{◌≡◌, sym, ◌∙◌}
use mathlib.Core.Bool.{true}
use native.Mathlib.Omega.{arith}
use Rattle.table.specs.Valid.{valid_of}
use Rattle.file_write.proofs.Ends.{counts, ends-places, ends-invalid, ends-room, ends-done}
use Rattle.file_write.proofs.write.Goals as goal

pub returns-then-len-ne256 : goal.returns-then-len-ne256
returns-then-len-ne256 c = let a = c.args in
    ends-places a.t a.p a.len a.buf.now c.if-len-ne256.true

pub returns-then-not-is_valid : goal.returns-then-not-is_valid
returns-then-not-is_valid c = let a = c.args in
    ends-invalid a.t a.p a.len a.buf.now (sym c.is_valid.ensures ∙ c.if-not-is_valid.true)

pub total_of-requires : goal.total_of-requires
total_of-requires c = let told : valid_of c.args.t c.args.p ≡ true = sym c.is_valid.ensures ∙ c.if-not-is_valid.false in
    counts _ _ (told)

pub returns-then-buf-total_of : goal.returns-then-buf-total_of
returns-then-buf-total_of c = let told : valid_of c.args.t c.args.p ≡ true = sym c.is_valid.ensures ∙ c.if-not-is_valid.false in
    let a = c.args in
    ends-room a.t a.p a.len a.buf.now c.if-len-ne256.false (told) (omega arith)

pub put_file-requires : goal.put_file-requires
put_file-requires c = let told : valid_of c.args.t c.args.p ≡ true = sym c.is_valid.ensures ∙ c.if-not-is_valid.false in
    let k = counts _ _ (told) in
    (k.0, k.1, omega arith)

pub returns : goal.returns
returns c = let told : valid_of c.args.t c.args.p ≡ true = sym c.is_valid.ensures ∙ c.if-not-is_valid.false in
    let a = c.args in
    ends-done a.t a.p a.len a.buf.now c.if-len-ne256.false (told) (omega arith) _ _ c.put_file.ensures
