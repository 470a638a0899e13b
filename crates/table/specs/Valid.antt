-- A table is valid: all numbers are in range, every slot and every message obeys its rule (Fits of crate rules), and no two messages are equal. Assumes nothing.
use Rattle.std.specs.Prelude.{Bool, ◌&&◌, leb}
use Rattle.marks.specs.Marks.{all_to}
use Rattle.rules.specs.Names.{Ids}
use Rattle.rules.specs.declared.Ring.{Ring}
use Rattle.rules.specs.declared.Pool.{Pool}
use Rattle.rules.specs.Limits.{messages_high}
use Rattle.rules.specs.Fits.{numbers_fit, slot_fits, message_fits, hops_fit}
use Rattle.rules.specs.Mail.{all_different}
use Rattle.rules.specs.Pool.{message_at, waiting}
use Rattle.table_type.specs.declared.Table.{Table}
use Rattle.table_type.specs.Table.{node_at, ids_of, ring_of}

unfoldable pub nodes_fit : Table → Bool
nodes_fit t = all_to 64 (λ s. slot_fits (ring_of t) (ids_of t) s (node_at t s))

unfoldable pub messages_fit : Ring → Ids → Pool → Bool
messages_fit g ids p = all_to p.count (λ q. message_fits g (message_at p q) && hops_fit g ids (message_at p q))

-- at most 256 messages
unfoldable pub pool_fits : Ring → Ids → Pool → Bool
pool_fits g ids p = leb p.count messages_high && (messages_fit g ids p && all_different (waiting p))

unfoldable pub valid_of : Table → Pool → Bool
valid_of t p = numbers_fit (ring_of t) && (nodes_fit t && pool_fits (ring_of t) (ids_of t) p)
