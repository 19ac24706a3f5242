-- The parts of a script file: a header of 8 bytes, records of 24 bytes, and the image.
use Rattle.std.specs.Prelude.{◌≡◌, ℕ, ◌+◌, ◌*◌, ◌/◌, ◌<◌, ◌≤◌, Bool, true, false, if◌then◌else◌, ◌&&◌, ◌||◌, List, length, take, drop, Some, None, Option, Result, MatchResult, ◌==◌, nat_le, nat_lt}
use Rattle.std.specs.Borrow.{Bor}
use Rattle.std.specs.Int.{w32, from_le_bytes}
use Rattle.script.specs.declared.fault.ScriptFault.{ScriptFault}
use Rattle.script.specs.declared.fault.ScriptFault.TheVariants.{Header as BadHeader}
use Rattle.script.specs.declared.script.Script.{Script}
use Rattle.script.specs.declared.script.calls.Header.{Header}

-- the header: the count of acts and the length of the image, four bytes each, low byte first
abbrev pub header_of : List ℕ → Header
header_of file = record { acts = from_le_bytes w32 (take 4 file); image = from_le_bytes w32 (take 4 (drop 4 file)) }

-- a header may stand before so many bytes: at most 2,048 acts, an image of at most 8,192 bytes, and just these bytes
abbrev pub fits : Header → ℕ → Bool
fits h n = nat_le h.acts 2048 && (nat_le h.image 8192 && n == 24 * h.acts + h.image)

-- a header may stand before so many bytes or more
abbrev pub allows : Header → ℕ → Bool
allows h n = nat_le h.acts 2048 && (nat_le h.image 8192 && nat_le n (24 * h.acts + h.image))

-- so many bytes are read behind a header: those that it tells and one more, and none where no script has it
abbrev pub wants : Header → ℕ
wants h = if nat_le h.acts 2048 && nat_le h.image 8192 then 24 * h.acts + h.image + 1 else 0

-- a script may begin with these bytes: the header is not whole yet, or it allows what follows
abbrev pub begins : List ℕ → Bool
begins file = nat_lt (length file) 8 || allows (header_of file) (length (drop 8 file))

-- the file is a script
abbrev pub opens : List ℕ → Bool
opens file = nat_le 8 (length file) && fits (header_of file) (length (drop 8 file))

-- the records: what follows the header, as long as there are acts
abbrev pub records_of : List ℕ → List ℕ
records_of file = take (24 * (header_of file).acts) (drop 8 file)

-- the image: what follows the records
abbrev pub image_of : List ℕ → List ℕ
image_of file = drop (24 * (header_of file).acts) (drop 8 file)

-- record i of the records, none past the last
abbrev pub record_at : List ℕ → ℕ → Option (List ℕ)
record_at records i = if nat_lt i (length records / 24) then Some (take 24 (drop (24 * i) records)) else None

-- what splitting a header off a file answers: the header and what follows, or that the file has not 8 bytes
abbrev pub Split : List ℕ → Result (Header × Bor (List ℕ)) ScriptFault → Type 0
Split file r = MatchResult r (λ p. (8 ≤ length file) × (p.0 ≡ header_of file) × (p.1.now ≡ drop 8 file)) (λ e. (length file < 8) × (e ≡ BadHeader))

-- what opening a file answers: its records and its image where it is a script, and no other file opens
abbrev pub Opened : List ℕ → Result Script ScriptFault → Type 0
Opened file r = MatchResult r (λ s. (opens file ≡ true) × (s.records.now ≡ records_of file) × (s.image.now ≡ image_of file)) (λ e. (opens file ≡ false) × (e ≡ BadHeader))
