-- Bytes over a history: what the puts have written, what a read shows, and the responses.
use Rattle.std.specs.Prelude.{◌≡◌, ℕ, ◌%◌, ◌<◌, Bool, true, false, if◌then◌else◌, ◌&&◌, ◌⊎◌, List, [], ◌∷◌, ◌++◌, Some, None, Option}
use Rattle.burst.specs.declared.raw.RawBurst.{RawBurst}
use Rattle.burst.specs.Beats.{cover_of, bit}
use Rattle.burst.specs.Laws.{covered}
use Rattle.slave.specs.declared.response.Response.{Response}
use Rattle.slave.specs.declared.response.Response.TheVariants.{Okay}
use Rattle.slave.specs.declared.channels.Channel.TheVariants.{Write}
use Rattle.slave.specs.Meaning.{Board}
use Rattle.slave.specs.Lanes.{lane_byte, worse, is_plain, read_word, read_worst, write_worst}
use Rattle.slave.specs.Lanes.{shown as byte_shown}
use Rattle.fabric.specs.declared.types.Act.{Act}
use Rattle.fabric.specs.declared.types.Act.TheVariants.{Request as Ask, Grant, Put, Take}
use Rattle.history.specs.History.{Event, History, Throughout, accepted, granting, moving, Going, current, burst_of}

-- bytes are below 256
abbrev pub BytesSmall : Board → Type 0
BytesSmall m = (a : ℕ) → m.bytes a < 256

-- a put with a beat of the write strobes the addresses that the beat covers and whose lane's bit is 1
abbrev pub strobes_at : Option Going → Act → ℕ → Bool
strobes_at None x a = false
strobes_at (Some g) (Ask c q) a = false
strobes_at (Some g) (Grant c) a = false
strobes_at (Some g) (Put m w s l) a = covered (burst_of g) g.beats a && bit s (a % 8)
strobes_at (Some g) Take a = false

-- an event is an accepted put that strobes the address a
unfoldable pub strobes : History → Event → ℕ → Bool
strobes before x a = accepted x.answer && strobes_at (current Write before) x.act a

-- the word of a put
abbrev pub word_in : Act → ℕ
word_in (Ask c q) = 0
word_in (Grant c) = 0
word_in (Put m w s l) = w
word_in Take = 0

-- the byte that a put has for the address a
abbrev pub byte_in : Event → ℕ → ℕ
byte_in x a = lane_byte (word_in x.act) (a % 8)

-- no put of the history strobes the address a
abbrev pub NeverStrobed : History → ℕ → Type 0
NeverStrobed h a = Throughout (λ x before. strobes before x a ≡ false) h

-- the latest accepted put that strobed the address a had the byte v: a put in the history that strobes it, and none after it does
pub record Latest (h : History) (a v : ℕ) : Type 0 where
  pub after : List Event
  pub put : Event
  pub before : History
  pub here : h ≡ after ++ put ∷ before
  pub strobed : strobes before put a ≡ true
  pub byte : byte_in put a ≡ v
  pub none_after : (later : List Event) (x : Event) (between : List Event) → after ≡ later ++ x ∷ between → strobes (between ++ put ∷ before) x a ≡ false

-- the byte held at the address a: at a plain one that of the latest put, else that of the creation
unfoldable pub stored : Board → History → ℕ → ℕ
stored m [] a = m.bytes a
stored m (x ∷ before) a = if strobes before x a && is_plain (m.kinds a) then byte_in x a else stored m before a

-- the bytes and kinds after a history
abbrev pub board_after : Board → History → Board
board_after m h = record m { bytes = stored m h }

-- what a read shows of the address a
unfoldable pub shown : Board → History → ℕ → ℕ
shown m h a = byte_shown (board_after m h) a

-- the word of beat j of a read: each covered byte in its lane, all other lanes 0
unfoldable pub word_read : Board → History → RawBurst → ℕ → ℕ
word_read m h b j = read_word (board_after m h) 8 (cover_of b j)

-- its response, the worst over the covered bytes
unfoldable pub response_read : Board → RawBurst → ℕ → Response
response_read m b j = read_worst m 8 (cover_of b j)

-- the response of beat j of a write with the strobe s, the worst over the strobed bytes
unfoldable pub response_written : Board → RawBurst → ℕ → ℕ → Response
response_written m b j s = write_worst m 8 (cover_of b j) s

-- the response of a put with the next beat of the write
abbrev pub response_at : Board → Option Going → Act → Response
response_at m None x = Okay
response_at m (Some g) (Ask c q) = Okay
response_at m (Some g) (Grant c) = Okay
response_at m (Some g) (Put p w s l) = response_written m (burst_of g) g.beats s
response_at m (Some g) Take = Okay

-- the worst response of the puts accepted since the last accepted grant of a write
unfoldable pub worst : Board → History → Response
worst m [] = Okay
worst m (x ∷ before) =
    if granting Write x then Okay
    else (if moving Write x then worse (worst m before) (response_at m (current Write before) x.act) else worst m before)

-- P holds of each put accepted since the last accepted grant of a write
abbrev pub EachPutSince : (Event → History → Type 0) → History → Type 0
EachPutSince P [] = Unit {0}
EachPutSince P (x ∷ before) = granting Write x ≡ false → (moving Write x ≡ true → P x before) × EachPutSince P before

-- P holds of one of them
abbrev pub SomePutSince : (Event → History → Type 0) → History → Type 0
SomePutSince P [] = ⊥
SomePutSince P (x ∷ before) = (granting Write x ≡ false) × (((moving Write x ≡ true) × P x before) ⊎ SomePutSince P before)
