-- What the machine's types hold of every table and pool: each number fits its width. Definitions only. Assumes nothing.
use Rattle.std.specs.Prelude.{◌≡◌, ℕ, ◌^◌, ◌<◌, length}
use Rattle.rules.specs.declared.Node.{Node}
use Rattle.rules.specs.declared.Message.{Message}
use Rattle.rules.specs.declared.Pool.{Pool}
use Rattle.rules.specs.Pool.{message_at}
use Rattle.table_type.specs.declared.Table.{Table}
use Rattle.table_type.specs.Table.{node_at}

pub record HeldNode (v : Node) : Type 0 where
  pub id : v.id < 2 ^ 32
  pub left : v.left < 2 ^ 64
  pub right : v.right < 2 ^ 64
  pub probing : v.probing < 2 ^ 64
  pub failed : v.failed < 2 ^ 64
  pub routing : v.routing < 2 ^ 64
  pub lease : v.lease < 2 ^ 64
  pub grant : v.grant < 2 ^ 64

pub record HeldMessage (m : Message) : Type 0 where
  pub kind : m.kind < 2 ^ 32
  pub dest : m.dest < 2 ^ 32
  pub word : m.word < 2 ^ 32
  pub flag : m.flag < 2 ^ 32
  pub owner : m.owner < 2 ^ 32
  pub hops : m.hops < 2 ^ 32
  pub routing : m.routing < 2 ^ 64
  pub left : m.left < 2 ^ 64
  pub right : m.right < 2 ^ 64
  pub failed : m.failed < 2 ^ 64

pub record Held (t : Table) (p : Pool) : Type 0 where
  pub slots : length t.nodes ≡ 64
  pub places : length p.places ≡ 256
  pub nodes : (s : ℕ) → HeldNode (node_at t s)
  pub messages : (q : ℕ) → HeldMessage (message_at p q)
