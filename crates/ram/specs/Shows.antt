-- What memory shows as a slave.
use Rattle.std.specs.Prelude.{ℕ, true, false, if◌then◌else◌, List, length, vec_items, ◌==◌}
use Rattle.std.specs.Global.{Vec}
use Rattle.burst.specs.Rules.{width_bytes}
use Rattle.slave.specs.declared.response.Response.{Response}
use Rattle.slave.specs.declared.response.Response.TheVariants.{Okay}
use Rattle.slave.specs.Channels.{worst_at}
use Rattle.slave.specs.Meaning.{Meaning, Stand, idle, dead, told}
use Rattle.ram.specs.declared.port.Port.{Port}
use Rattle.ram.specs.declared.ram.Ram.{Ram}
use Rattle.ram.specs.Memory.{kind_at, memory_board}
use Rattle.ram.specs.Making.{make_refusal}

-- live memory of these bytes, simple, with a width and a most
abbrev pub shows : List ℕ → ℕ → ℕ → Stand → Response → Stand → Meaning
shows xs w most write worst read = record {
  live = true;
  width = w;
  most = most;
  full = false;
  bytes = (memory_board xs).bytes;
  kinds = kind_at xs;
  write = write;
  worst = worst_at write worst;
  read = read;
}

-- what memory of these bytes shows through a port
abbrev pub through : Port → List ℕ → Meaning
through p xs = shows xs (width_bytes p.width) p.most (told p.channels.write.place) p.channels.write.worst (told p.channels.read.place)

-- what memory shows
abbrev pub ram_meaning : Ram → Meaning
ram_meaning r = through r.port (vec_items r.memory)

-- the memory itself
abbrev pub memory_of : Ram → Vec ℕ
memory_of r = r.memory

-- what is made of memory: idle, and dead where the check refuses
abbrev pub ram_made : List ℕ → ℕ → ℕ → Meaning
ram_made xs w most = if make_refusal w most (length xs) == 0 then shows xs w most idle Okay idle else dead
