-- The pile over memory, and what it shows.
use Rattle.std.specs.Prelude.{◌≡◌, ℕ, ◌-◌, List, ◌++◌, length, replicate}
use Rattle.slave.specs.Meaning.{Meaning, Board}
use Rattle.ram.specs.declared.ram.Ram.{Ram}
use Rattle.ram.specs.Memory.{memory_board}
use Rattle.ram.specs.Shows.{ram_made, ram_meaning}
use Rattle.splitter.specs.declared.splitter.Splitter.{Splitter}
use Rattle.splitter.specs.Making.{make_answer, made_as}
use Rattle.splitter.specs.Shows.{number_of, shows as split_shows, below_of as splitter_below}
use Rattle.converter.specs.declared.converter.Converter.{Converter}
use Rattle.converter.specs.Making.{converted_made}
use Rattle.converter.specs.Shows.{converter_shows as converted_shows, below_of as converter_below}
use Rattle.register.specs.declared.register.RegisterSlice.{RegisterSlice}
use Rattle.register.specs.Making.{slice_made}
use Rattle.register.specs.Shows.{shows as slice_shows, below_of as slice_below}

-- n bytes of memory: the image and then zeros
abbrev pub loaded : List ℕ → ℕ → List ℕ
loaded image n = image ++ replicate (n - length image) 0

-- what the pile shows over memory of 8,192 bytes that holds an image
abbrev pub image_board : List ℕ → Board
image_board image = memory_board (loaded image 8192)

-- the splitter of a pile
abbrev pub splitter_of : {a : _} {b : _} {c : _} → RegisterSlice (Converter (Splitter Ram a) b) c → Splitter Ram a
splitter_of p = converter_below (slice_below p)

-- what it shows
abbrev pub splitter_shows : {a : _} → Splitter Ram a → Meaning
splitter_shows = split_shows ram_meaning

-- what the converter over it shows
abbrev pub converter_shows : {a : _} {b : _} → Converter (Splitter Ram a) b → Meaning
converter_shows = converted_shows splitter_shows

-- what the whole pile shows
abbrev pub pile_shows : {a : _} {b : _} {c : _} → RegisterSlice (Converter (Splitter Ram a) b) c → Meaning
pile_shows = slice_shows converter_shows

-- a pile is the bench's over these bytes: each of its parts is made over the one below, with its own number
pub record Piled {a : _} {b : _} {c : _} (p : RegisterSlice (Converter (Splitter Ram a) b) c) (xs : List ℕ) : Type 0 where
  -- memory of width 4 that takes 8 beats at most
  pub memory : ram_meaning (splitter_below (splitter_of p)) ≡ ram_made xs 4 8
  -- a splitter in runs of 8
  pub number : number_of (splitter_of p) ≡ 8
  pub split : splitter_shows (splitter_of p) ≡ made_as (make_answer 8 (ram_made xs 4 8)) (ram_made xs 4 8)
  -- a converter of width 8
  pub converted : converter_shows (slice_below p) ≡ converted_made (splitter_shows (splitter_of p)) 8
  -- and a slice
  pub sliced : pile_shows p ≡ slice_made (converter_shows (slice_below p))
