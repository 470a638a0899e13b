-- `file_list::put_refused` meets its contract: the word, then the number. Assumes nothing.
use native.Mathlib.Omega.{arith}
use Rattle.text.proofs.Digits.{decimal-word}
use Rattle.text.proofs.Runs.{text-end}
use Rattle.file_list.proofs.Runs.{refused-run}
use Rattle.file_list.proofs.put_refused.Goals as goal

pub put_field-requires : goal.put_field-requires
put_field-requires c = omega (arith, text-end c.put_text-at.ensures, decimal-word c.answer_number-number.result (omega arith))

pub returns : goal.returns
returns c = refused-run c.args.why c.answer_number-number.ensures c.put_text-at.ensures c.put_field.ensures
