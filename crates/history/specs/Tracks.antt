-- What a fabric and its slave are after the history of a run: what the history says, and nothing else.
use Rattle.std.specs.Prelude.{◌≡◌, min, true, ◌∷◌, map, Some, None, Option, Result}
use Rattle.slave.specs.declared.response.Response.{Response}
use Rattle.slave.specs.declared.response.Response.TheVariants.{Okay}
use Rattle.slave.specs.declared.channels.Channel.{Channel}
use Rattle.slave.specs.declared.channels.Channel.TheVariants.{Write, Read}
use Rattle.slave.specs.Meaning.{Meaning, Stand, idle, busy, Board}
use Rattle.fabric.specs.declared.types.Act.{Act}
use Rattle.fabric.specs.declared.types.Act.TheVariants.{Request as Ask, Grant, Put, Take}
use Rattle.fabric.specs.declared.types.Answer.{Answer}
use Rattle.fabric.specs.declared.types.FabricFault.{FabricFault}
use Rattle.fabric.specs.declared.row.Row.{Row}
use Rattle.fabric.specs.declared.row.Open.{Open}
use Rattle.fabric.specs.Channels.{Queue, Channels, queue_at, with_queue}
use Rattle.fabric.specs.Acts.{request_answer, request_after, grant_answer, grant_after, grant_slave, put_answer, put_after, put_slave, take_answer, take_after, take_slave}
use Rattle.history.specs.History.{History, Filed, age, waiting, Going, burst_of, opened}
use Rattle.history.specs.Bytes.{BytesSmall, stored, worst}
use Rattle.history.specs.Owed.{Run}
use Rattle.history.specs.Law.{Holds}

-- a waiting request as the fabric keeps it: no age above 15, since the rank is then the highest
abbrev pub row_of : Channel → History → Filed → Row
row_of ch h q = record { request = q.request; age = min 15 (age ch q.at h) }

-- an open request as the fabric keeps it
abbrev pub open_of : Option Going → Option Open
open_of None = None
open_of (Some g) = Some (record { request = g.from.request; taken = g.beats })

-- and as the slave has it
abbrev pub stand_of : Option Going → Stand
stand_of None = idle
stand_of (Some g) = busy (burst_of g) g.beats

-- the worst response that the slave keeps while a write is open
abbrev pub worst_kept : Option Going → Response → Response
worst_kept None r = Okay
worst_kept (Some g) r = r

-- a channel of the fabric after a history
unfoldable pub queue_after : Channel → History → Queue
queue_after ch h = record { rows = map (row_of ch h) (waiting ch h); current = open_of (opened ch h) }

-- the fabric after a history
abbrev pub channels_after : History → Channels
channels_after h = record { write = queue_after Write h; read = queue_after Read h }

-- the slave after a history, where it had the bytes and kinds m at the creation
abbrev pub slave_after : Board → History → Meaning
slave_after m h = record {
  live = true;
  width = 8;
  most = 256;
  full = true;
  bytes = stored m h;
  kinds = m.kinds;
  write = stand_of (opened Write h);
  worst = worst_kept (opened Write h) (worst m h);
  read = stand_of (opened Read h);
}

-- a fabric and a slave are in a run with this history
pub record Tracks (m : Board) (h : History) (c : Channels) (s : Meaning) : Type 0 where
  -- what the slave showed at the creation are bytes
  pub small : BytesSmall m
  -- the acts have the answers that are owed to them
  pub run : Run m h
  -- the fabric and the slave are what the history says
  pub fabric : c ≡ channels_after h
  pub slave : s ≡ slave_after m h

-- what one act on a fabric and a slave answers, in a run or not
abbrev pub act_answer : Channels → Meaning → Act → Result Answer FabricFault
act_answer c s (Ask ch q) = request_answer (queue_at c ch) q
act_answer c s (Grant ch) = grant_answer (queue_at c ch) s ch
act_answer c s (Put p w b l) = put_answer c.write s p w b l
act_answer c s Take = take_answer c.read s

-- the fabric after it
abbrev pub act_after : Channels → Meaning → Act → Channels
act_after c s (Ask ch q) = with_queue ch (request_after (queue_at c ch) q) c
act_after c s (Grant ch) = with_queue ch (grant_after (queue_at c ch) s ch) c
act_after c s (Put p w b l) = with_queue Write (put_after c.write s p w b l) c
act_after c s Take = with_queue Read (take_after c.read s) c

-- the slave after it
abbrev pub act_slave : Channels → Meaning → Act → Meaning
act_slave c s (Ask ch q) = s
act_slave c s (Grant ch) = grant_slave (queue_at c ch) s ch
act_slave c s (Put p w b l) = put_slave c.write s p w b l
act_slave c s Take = take_slave c.read s

-- the act a with the answer r takes every run over the fabric c and the slave s on to c' and s', and the law holds of the longer run
pub record Extends (c : Channels) (s : Meaning) (a : Act) (r : Result Answer FabricFault) (c' : Channels) (s' : Meaning) : Type 0 where
  pub run : (m : Board) (h : History) → Tracks m h c s → Tracks m (record { act = a; answer = r } ∷ h) c' s'
  pub law : (m : Board) (h : History) → Tracks m h c s → Holds m (record { act = a; answer = r } ∷ h)

-- what an act of the fabric answers and leaves extends every run
abbrev pub GoesOn : Type 0
GoesOn =
    (c : Channels) (s : Meaning) (a : Act) (r : Result Answer FabricFault) (c' : Channels) (s' : Meaning)
    → r ≡ act_answer c s a → c' ≡ act_after c s a → s' ≡ act_slave c s a → Extends c s a r c' s'
