-- What a call answers with the table and the pool that it leaves. Definitions only. Assumes nothing.
use Rattle.rules.specs.Shapes.{Answer}
use Rattle.rules.specs.declared.Pool.{Pool}
use Rattle.rules.specs.declared.Via.{Via}
use Rattle.table_type.specs.declared.Stepped.{Stepped}
use Rattle.table_type.specs.declared.Table.{Table}

abbrev pub answered_by : Via → Table → Pool → Answer → Stepped
answered_by via t p answer = record { answer = answer; table = t; pool = p; via = via }
