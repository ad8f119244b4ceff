-- What the ports in memory tell: everything.
use Rattle.std.specs.Prelude.{ℕ, List, Option, Some, drop}
use Rattle.gql_ports.specs.Told.{Content}
use Rattle.gql_ports.specs.Held.{Holding}
use Rattle.gql_ports.specs.declared.memory.mem_source.MemSource.{MemSource}
use Rattle.gql_ports.specs.declared.memory.mem_sink.MemSink.{MemSink}
use Rattle.gql_ports.specs.declared.memory.mem_keeper.MemKeeper.{MemKeeper}

-- the name, whether it is ready, and the bytes that were not taken
abbrev pub told_of : MemSource → Option Content
told_of s = Some (record { name = s.name; ready = s.ready; left = drop s.taken s.bytes })

-- all the bytes
abbrev pub written_to : MemSink → Option (List ℕ)
written_to s = Some s.bytes

-- the name and the records
abbrev pub held_by : MemKeeper → Option Holding
held_by k = Some (record { name = k.name; records = k.records })
