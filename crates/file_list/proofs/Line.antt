-- The line of a lookup that ended so, from the ids by slot: with those of a table it is the listing's (`line-is`). Assumes nothing.
use Rattle.marks.specs.Marks.{Found}
use Rattle.std.specs.Prelude.{Some, None}
use mathlib.Core.Path.{◌≡◌, refl}
use Rattle.rules.specs.declared.Message.{Message}
use Rattle.table_type.specs.declared.Table.{Table}
use Rattle.table_type.specs.Table.{ids_of}
use Rattle.table_type.proofs.IdLaws.{ids_at}
use Rattle.listing.specs.Trip.{follow_of}
use Rattle.listing.specs.Print.{end_text, line_of}
use Rattle.file_list.specs.InnerLine.{end_in, line_in}

end_is : (t : Table) (end : Found) → end_in (ids_of t) end ≡ end_text t end
end_is t (Some e) = rw (ids_at t.nodes e)
end_is t None = refl

pub line-is : (t : Table) (m : Message) → let trip = follow_of t m in line_in (ids_of t) m trip.end trip.letters ≡ line_of t m
unfolding line_of
line-is t m = rw (ids_at t.nodes m.dest, end_is t (follow_of t m).end)
