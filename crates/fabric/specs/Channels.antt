-- What a fabric holds: for each channel the waiting requests and the open one.
use Rattle.std.specs.Prelude.{List, [], None, Option}
use Rattle.slave.specs.declared.channels.Channel.{Channel}
use Rattle.slave.specs.declared.channels.Channel.TheVariants.{Write, Read}
use Rattle.fabric.specs.declared.row.Row.{Row}
use Rattle.fabric.specs.declared.row.Open.{Open}
use Rattle.fabric.specs.declared.queue.ChannelQueue.{ChannelQueue}
use Rattle.fabric.specs.declared.fabric.Fabric.{Fabric}
use Rattle.fabric.specs.Waits.{rows_of}

-- the waiting requests of a channel, in order of acceptance, and its open one
pub record Queue : Type 0 where
  pub rows : List Row
  pub current : Option Open

-- both channels
pub record Channels : Type 0 where
  pub write : Queue
  pub read : Queue

-- what a channel of the fabric holds
abbrev pub queue_of : ChannelQueue → Queue
queue_of q = record { rows = rows_of q.waiting; current = q.current }

-- what the fabric holds
abbrev pub channels_of : Fabric → Channels
channels_of f = record { write = queue_of f.write; read = queue_of f.read }

-- one of the channels
abbrev pub queue_at : Channels → Channel → Queue
queue_at c Write = c.write
queue_at c Read = c.read

-- one of the channels of the fabric
abbrev pub queue_in : Fabric → Channel → Queue
queue_in f ch = queue_at (channels_of f) ch

-- the channels with one of them changed
abbrev pub with_queue : Channel → Queue → Channels → Channels
with_queue Write q c = record c { write = q }
with_queue Read q c = record c { read = q }

-- the channel with another open request
abbrev pub with_open : Option Open → Queue → Queue
with_open o q = record q { current = o }

-- a channel without requests
abbrev pub no_requests : Queue
no_requests = record { rows = []; current = None }

-- an empty fabric
abbrev pub no_channels : Channels
no_channels = record { write = no_requests; read = no_requests }
