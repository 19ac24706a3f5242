-- A script's parts make up its file; acts and records tell each other.
use Rattle.std.specs.Prelude.{◌≡◌, ℕ, ◌*◌, ◌^◌, ◌<◌, ◌≤◌, true, List, ◌++◌, length, take, slice_index, Ok}
use Rattle.fabric.specs.declared.types.Act.{Act}
use Rattle.fabric.specs.declared.types.Act.TheVariants.{Request, Grant, Put, Take}
use Rattle.script.specs.Files.{header_of, image_of, opens, records_of}
use Rattle.script.specs.Acts.{act_bytes, read_act, writable}

-- the parts of a script
pub record Parts (file : List ℕ) : Type 0 where
  -- the file is its header, its records and its image, in this order
  pub whole : file ≡ take 8 file ++ (records_of file ++ image_of file)
  -- a record of 24 bytes for each act
  pub records : length (records_of file) ≡ 24 * (header_of file).acts
  -- as many bytes of image as the header says
  pub image : length (image_of file) ≡ (header_of file).image
  -- at most 2,048 acts
  pub most_acts : (header_of file).acts ≤ 2048
  -- at most 8,192 bytes of image
  pub most_image : (header_of file).image ≤ 8192

-- every file that opens is made up of these parts
pub record FilesParted : Type 0 where
  pub parts : (file : List ℕ) → opens file ≡ true → Parts file

-- an act's address and word are as large as their fields can hold
abbrev pub ActFits : Act → Type 0
ActFits (Request channel q) = q.burst.start < 2 ^ 32
ActFits (Grant channel) = Unit {0}
ActFits (Put master word strobe last) = word < 2 ^ 64
ActFits Take = Unit {0}

-- every element is a byte
abbrev pub Bytes : List ℕ → Type 0
Bytes bytes = (k : ℕ) → k < length bytes → slice_index bytes k < 256

-- reading and writing undo each other
pub record ActsKept : Type 0 where
  -- what is written reads back as the same act
  pub back : (a : Act) → ActFits a → writable a ≡ true → read_act (act_bytes a) ≡ Ok a
  -- a record that is read is written back to the same bytes
  pub again : (bytes : List ℕ) (a : Act) → Bytes bytes → read_act bytes ≡ Ok a → (writable a ≡ true) × (act_bytes a ≡ bytes)
