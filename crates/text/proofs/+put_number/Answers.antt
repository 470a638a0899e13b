-- `text::put_number` meets its contract: the digits of the tenth, and the last one behind them. Assumes nothing.
use Rattle.std.proofs.Common.{arith}
use Rattle.text.proofs.Digits.{decimal-longer}
use Rattle.text.proofs.Runs.{one-digit, last-digit, more-digits}
use Rattle.text.proofs.+put_number.Goals as goal

pub put_byte-requires : goal.put_byte-requires
put_byte-requires t c = omega (arith, one-digit c.args.x c.if-x-lt10.true)

pub returns-then-x-lt10 : goal.returns-then-x-lt10
returns-then-x-lt10 t c = last-digit c.args.x c.if-x-lt10.true c.put_byte.ensures

pub put_number-next-requires : goal.put_number-next-requires
put_number-next-requires t c = (omega arith, omega (arith, decimal-longer c.args.x c.if-x-lt10.false))

pub put_byte-requires-2 : goal.put_byte-requires-2
put_byte-requires-2 t c = omega (arith, decimal-longer c.args.x c.if-x-lt10.false)

pub returns : goal.returns
returns t c = more-digits c.args.x c.if-x-lt10.false c.put_number-next.ensures c.put_byte-2.ensures
