-- The limits of a table: M from 2 to 32, L from 1 to 8, n from 1 to 64 nodes, at most 256 messages. Assumes nothing.
use Rattle.std.specs.Prelude.{ℕ}

abbrev pub m_low : ℕ
m_low = 2

abbrev pub m_high : ℕ
m_high = 32

abbrev pub l_low : ℕ
l_low = 1

abbrev pub l_high : ℕ
l_high = 8

abbrev pub nodes_high : ℕ
nodes_high = 64

abbrev pub messages_high : ℕ
messages_high = 256
