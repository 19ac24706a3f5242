-- The bytes of a report line.
use Rattle.std.specs.Prelude.{ℕ, zero, suc, ◌/◌, ◌%◌, true, if◌then◌else◌, List, [], ◌∷◌, ◌++◌, length, drop, codes, decimal, Ok, Err, ◌==◌, nat_le}
use Rattle.std.specs.Fmt.{digit_glyph}
use Rattle.slave.specs.declared.response.Response.{Response}
use Rattle.slave.specs.declared.response.Response.TheVariants.{Okay, SlvErr, DecErr}
use Rattle.fabric.specs.declared.types.Answer.{Answer}
use Rattle.fabric.specs.declared.types.Answer.TheVariants.{Accepted, Granted, More, Done, Beat}
use Rattle.report.specs.declared.told.Layer.{Layer}
use Rattle.report.specs.declared.told.Layer.TheVariants.{Slave, Fabric, Bench}
use Rattle.report.specs.Outcomes.{Told}

-- a byte in two capital hexadecimal digits
abbrev pub hex2 : ℕ → List ℕ
hex2 b = digit_glyph true (b / 16) ∷ digit_glyph true (b % 16) ∷ []

-- the lowest k bytes of a number in hexadecimal, the highest of them first
abbrev pub hex_bytes : ℕ → ℕ → List ℕ
hex_bytes zero w = []
hex_bytes (suc k) w = hex_bytes k (w / 256) ++ hex2 (w % 256)

-- the name of a response
abbrev pub response_name : Response → List ℕ
response_name Okay = codes "OKAY"
response_name SlvErr = codes "SLVERR"
response_name DecErr = codes "DECERR"

-- the letter of a layer: S, F or B
abbrev pub layer_letter : Layer → ℕ
layer_letter Slave = 83
layer_letter Fabric = 70
layer_letter Bench = 66

-- a master in decimal, a blank, and an ID in two hexadecimal digits
abbrev pub source : ℕ → ℕ → List ℕ
source master id = decimal master ++ (32 ∷ hex2 id)

-- LAST behind a read beat after which none is left
abbrev pub last_word : ℕ → List ℕ
last_word left = if left == 0 then codes " LAST" else []

-- the words of an answer
abbrev pub answer_words : Answer → List ℕ
answer_words Accepted = codes "ACC"
answer_words (Granted master id) = codes "GRT " ++ source master id
answer_words (More left) = codes "MORE " ++ decimal left
answer_words (Done master id r) = codes "B " ++ (source master id ++ (32 ∷ response_name r))
answer_words (Beat master id word r left) = codes "R " ++ (source master id ++ (32 ∷ (hex_bytes 8 word ++ (32 ∷ (response_name r ++ last_word left)))))

-- the words of an outcome
abbrev pub words : Told → List ℕ
words (Ok a) = answer_words a
words (Err r) = codes "ERR " ++ (layer_letter r.layer ∷ (32 ∷ decimal r.number))

-- a whole line: the act's number, a blank, the outcome's words, the end of the line
abbrev pub line : ℕ → Told → List ℕ
line act told = decimal act ++ (32 ∷ (words told ++ 10 ∷ []))

-- a buffer after a line went to its front, or as it was where the line is longer
abbrev pub written : List ℕ → List ℕ → List ℕ
written l out = if nat_le (length l) (length out) then l ++ drop (length l) out else out
