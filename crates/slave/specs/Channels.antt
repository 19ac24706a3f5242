-- Both channels of a slave.
use Rattle.slave.specs.declared.response.Response.{Response}
use Rattle.slave.specs.declared.response.Response.TheVariants.{Okay}
use Rattle.slave.specs.declared.channels.Channel.{Channel}
use Rattle.slave.specs.declared.channels.Channel.TheVariants.{Write, Read}
use Rattle.slave.specs.declared.channels.ChannelState.{ChannelState}
use Rattle.slave.specs.declared.channels.Channels.{Channels}
use Rattle.slave.specs.Meaning.{Stand, idle, busy}

-- the worst response of a channel, OKAY where it is idle
abbrev pub worst_at : Stand → Response → Response
worst_at idle r = Okay
worst_at (busy b k) r = r

-- a channel of the two
abbrev pub state_at : Channel → Channels → ChannelState
state_at Write c = c.write
state_at Read c = c.read

-- the other channel
abbrev pub other : Channel → Channel
other Write = Read
other Read = Write
