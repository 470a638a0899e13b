-- The pool as its list of waiting messages, oldest first, and the messages that stand in it. Assumes nothing.
use Rattle.std.specs.Prelude.{List, ◌++◌, ◌-◌, get_or, take, length, replicate}
use Rattle.rules.specs.Names.{Place}
use Rattle.rules.specs.declared.Message.{Message}
use Rattle.rules.specs.declared.Pool.{Pool}

-- blank: all fields 0
abbrev pub blank : Message
blank = record { kind = 0; dest = 0; word = 0; flag = 0; owner = 0; hops = 0; routing = 0; left = 0; right = 0; failed = 0 }

abbrev pub message_at : Pool → Place → Message
message_at p place = get_or p.places place blank

-- the messages that wait; places past the count are no part of the table
abbrev pub waiting : Pool → List Message
waiting p = take p.count p.places

-- 256 places that begin with these; places past the count are blank
abbrev pub lay : List Message → List Message
lay xs = xs ++ replicate (256 - length xs) blank

-- the pool in which exactly these wait
abbrev pub laid : List Message → Pool
laid xs = record { count = length xs; places = lay xs }
