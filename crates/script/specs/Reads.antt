-- What is read of an input that is to be a script.
use Rattle.std.specs.Prelude.{◌≡◌, ℕ, ◌<◌, true, false, List, [], ◌∷◌, ◌++◌, length, take, Option, MatchOption}
use Rattle.std.specs.Io.KnownBytes.{Consumes, IsAtEnd}
use Rattle.script.specs.Files.{begins, opens}

-- what an input has left before and after its next byte is read, which is none at the end
abbrev pub NextByte : Option (List ℕ) → Option (List ℕ) → Option ℕ → Type 0
NextByte old new next = MatchOption next (Consumes old new [] × IsAtEnd new) (λ b. Consumes old new (b ∷ []))

-- of an input this file is read
pub record Reads (file input : List ℕ) : Type 0 where
  -- the input begins with it
  pub start : (rest : List ℕ) × (input ≡ file ++ rest)
  -- it is the whole input as long as a script may begin with it
  pub whole : begins file ≡ true → input ≡ file
  -- a byte is read only while a script may begin with those before it
  pub needed : (k : ℕ) → k < length file → begins (take k file) ≡ true

-- what begins no script is none, however it goes on
abbrev pub HopelessStay : Type 0
HopelessStay = (file rest : List ℕ) → begins file ≡ false → opens (file ++ rest) ≡ false
