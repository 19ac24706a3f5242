-- What holds of a converter and of a beat's pieces at all times.
use Rattle.std.specs.Prelude.{◌≡◌, ℕ, ◌^◌, ◌≤◌, true}
use Rattle.burst.specs.declared.width.Width.{Width}
use Rattle.burst.specs.Beats.{last_from}
use Rattle.burst.specs.Rules.{width_bytes, KeepsPage}
use Rattle.slave.specs.declared.channels.Channel.{Channel}
use Rattle.slave.specs.declared.channels.Channels.{Channels}
use Rattle.slave.specs.Channels.{state_at}
use Rattle.slave.specs.Meaning.{told, sound_stand}
use Rattle.converter.specs.Pieces.{piece_end}

-- each open burst is lawful for the width, and a beat of it is left
abbrev pub OpensFit : Width → Channels → Type 0
OpensFit w c = (ch : Channel) → sound_stand (width_bytes w) (told (state_at ch c).place) ≡ true

-- what is left of a beat, from a to l, goes down over a bus of v bytes in pieces with the size code c
abbrev pub Cuttable : ℕ → ℕ → ℕ → ℕ → Type 0
Cuttable v c l a = (a ≤ l) × KeepsPage a (2 ^ c) 1 × ((x : ℕ) → a ≤ x → x ≤ l → piece_end v l x ≡ last_from x (2 ^ c))
