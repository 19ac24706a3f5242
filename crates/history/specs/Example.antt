-- A worked history: a write of two bytes, and a read of the word around them.
use Rattle.std.specs.Prelude.{◌≡◌, ℕ, true, if◌then◌else◌, List, [], ◌∷◌, Ok, Err, Result, nat_lt, slice_index}
use Rattle.burst.specs.declared.raw.RawBurst.{RawBurst}
use Rattle.slave.specs.declared.response.Response.TheVariants.{Okay}
use Rattle.slave.specs.declared.channels.Channel.TheVariants.{Write, Read}
use Rattle.slave.specs.Meaning.{plain, unmapped, Board}
use Rattle.fabric.specs.declared.types.Request.{Request}
use Rattle.fabric.specs.declared.types.Act.{Act}
use Rattle.fabric.specs.declared.types.Act.TheVariants.{Request as Ask, Grant, Put, Take}
use Rattle.fabric.specs.declared.types.Answer.{Answer}
use Rattle.fabric.specs.declared.types.Answer.TheVariants.{Accepted, Granted, Done, Beat}
use Rattle.fabric.specs.declared.types.FabricFault.{FabricFault}
use Rattle.fabric.specs.declared.types.FabricFault.TheVariants.{NotOpen, AlreadyOpen, OtherMaster}
use Rattle.history.specs.Runs.{answers_of}

-- 8,192 plain bytes that begin with 11 22 33 44 (hexadecimal)
abbrev pub example_board : Board
example_board = record { bytes = λ a. slice_index (0x11 ∷ 0x22 ∷ 0x33 ∷ 0x44 ∷ []) a; kinds = λ a. if nat_lt a 8192 then plain else unmapped }

-- one beat of four bytes at address 0
abbrev pub word_burst : RawBurst
word_burst = record { kind = 1; start = 0; size = 2; count = 1 }

-- a request of it with QoS 0
abbrev pub word_request : ℕ → ℕ → Request
word_request master id = record { master = master; id = id; qos = 0; burst = word_burst }

-- master 1 writes with ID 7, master 0 reads with ID 5
abbrev pub example_acts : List Act
example_acts =
    Ask Write (word_request 1 7) ∷ Ask Read (word_request 0 5)
    ∷ Grant Write ∷ Grant Write ∷ Put 0 0xaabbccdd 6 true ∷ Put 1 0xaabbccdd 6 true
    ∷ Grant Read ∷ Take ∷ Take ∷ []

-- lanes 1 and 2 were strobed, so the read shows 11 CC BB 44; a second grant, a put of another master and a second take are refused
abbrev pub example_answers : List (Result Answer FabricFault)
example_answers =
    Ok Accepted ∷ Ok Accepted
    ∷ Ok (Granted 1 7) ∷ Err AlreadyOpen ∷ Err OtherMaster ∷ Ok (Done 1 7 Okay)
    ∷ Ok (Granted 0 5) ∷ Ok (Beat 0 5 0x44bbcc11 Okay 0) ∷ Err NotOpen ∷ []

-- these are the answers
abbrev pub Example : Type 0
Example = answers_of example_board example_acts ≡ example_answers
