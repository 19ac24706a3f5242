-- What a converter shows, and the words by which others read it.
use Rattle.std.specs.Prelude.{ℕ, true}
use Rattle.burst.specs.declared.width.Width.{Width}
use Rattle.burst.specs.Rules.{width_bytes}
use Rattle.slave.specs.declared.response.Response.{Response}
use Rattle.slave.specs.declared.channels.Channels.{Channels}
use Rattle.slave.specs.Channels.{worst_at}
use Rattle.slave.specs.Meaning.{Meaning, Stand, told}
use Rattle.converter.specs.declared.converter.Converter.{Converter}

-- a full slave of width w over the bytes of m
abbrev pub shows : ℕ → Stand → Response → Stand → Meaning → Meaning
shows w write worst read m =
    record m { live = true; width = w; most = 256; full = true; write = write; worst = worst_at write worst; read = read }

-- what a converter shows, by its width, its channels and what the slave below shows
abbrev pub converted : Width → Channels → Meaning → Meaning
converted w c m = shows (width_bytes w) (told c.write.place) c.write.worst (told c.read.place) m

-- what it shows
abbrev pub converter_shows : {S : Type 0} {g : _} → (S → Meaning) → Converter S g → Meaning
converter_shows meaning c = converted c.width c.channels (meaning c.below)

-- the slave below it
abbrev pub below_of : {S : Type 0} {g : _} → Converter S g → S
below_of c = c.below

-- its width
abbrev pub width_of : {S : Type 0} {g : _} → Converter S g → Width
width_of c = c.width
