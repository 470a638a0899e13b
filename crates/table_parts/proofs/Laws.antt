-- A plan whose new messages have room is done, and one whose new messages have none is refused with 6. Assumes nothing.
use mathlib.Core.Path.{◌≡◌, sym, ◌∙◌, ap}
use mathlib.Core.Bool.{true, false}
use Prim.Native.Nat.{ℕ}
use lib.Dec.{leb}
use lib.ListN.{length}
use Rattle.rules.specs.declared.Pool.{Pool}
use Rattle.rules.specs.declared.Plan.{Plan}
use Rattle.rules.specs.declared.Refusal.TheVariants as no
use Rattle.rules.specs.Plans.{mailed}
use Rattle.rules.specs.Pool.{waiting, laid}
use Rattle.pool_laws.specs.declared.New.{New}
use Rattle.pool_laws.proofs.NewOnes.{news-room}
use Rattle.pool_laws.specs.InnerSending.{left_of, news_of, room_of}
use Rattle.table_type.specs.declared.Table.{Table}
use Rattle.table_type.specs.Table.{with_node}
use Rattle.table.specs.Settle.{refused_of, done_by, carried_out}

module _ (t : Table) (p : Pool) (gone i : ℕ) (x : Plan) (w : New) (whole : length (waiting p) ≡ p.count) (told : w ≡ news_of x (left_of p gone)) where
  room-is : room_of p.count gone w ≡ leb (length (mailed x (left_of p gone))) 256
  room-is = ap (room_of p.count gone) told ∙ news-room p gone x whole

  pub fits : room_of p.count gone w ≡ true → done_by x.via (with_node t i x.node) (laid (mailed x (left_of p gone))) ≡ carried_out t p (left_of p gone) i x
  unfolding carried_out
  fits e = rw (sym room-is ∙ e)

  pub full : room_of p.count gone w ≡ false → refused_of t p no.Full ≡ carried_out t p (left_of p gone) i x
  unfolding carried_out
  full e = rw (sym room-is ∙ e)
