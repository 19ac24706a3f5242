-- What a slave answers to its questions, kept beside it.
use Rattle.std.specs.Prelude.{Bool, Option, ◌&&◌, ◌==◌}
use Rattle.std.specs.Bool.{beq}
use Rattle.burst.specs.Rules.{width_bytes}
use Rattle.slave.specs.declared.channels.Channel.{Channel}
use Rattle.slave.specs.declared.channels.Channel.TheVariants.{Write, Read}
use Rattle.slave.specs.declared.open_burst.OpenBurst.{OpenBurst}
use Rattle.slave.specs.declared.snapshot.Snapshot.{Snapshot}
use Rattle.slave.specs.Meaning.{Meaning, told, same_stand}

-- these are the answers of a live slave that shows m
abbrev pub answers_for : Snapshot → Meaning → Bool
answers_for s m =
    (m.live && (width_bytes s.width == m.width && (s.most == m.most && beq s.full m.full)))
    && (same_stand (told s.write) m.write && same_stand (told s.read) m.read)

-- the answer where a channel stands
abbrev pub place_at : Snapshot → Channel → Option OpenBurst
place_at s Write = s.write
place_at s Read = s.read

-- the answers once a channel stands elsewhere
abbrev pub with_place : Channel → Option OpenBurst → Snapshot → Snapshot
with_place Write p s = record s { write = p }
with_place Read p s = record s { read = p }
