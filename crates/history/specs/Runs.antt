-- Whole runs: a list of acts, the answers that are owed to them, and what a call that performs them answers and leaves.
use Rattle.std.specs.Prelude.{◌≡◌, ℕ, if◌then◌else◌, List, [], ◌∷◌, ◌++◌, length, take, drop, Ok, Err, Result, nat_lt}
use Rattle.slave.specs.Meaning.{Meaning, Board}
use Rattle.fabric.specs.declared.types.Act.{Act}
use Rattle.fabric.specs.declared.types.Answer.{Answer}
use Rattle.fabric.specs.declared.types.FabricFault.{FabricFault}
use Rattle.fabric.specs.Channels.{Channels}
use Rattle.fabric.specs.Acts.{fits_below}
use Rattle.history.specs.declared.runs.RunFault.{RunFault}
use Rattle.history.specs.declared.runs.RunFault.TheVariants.{Short, Below}
use Rattle.history.specs.History.{History}
use Rattle.history.specs.Owed.{owed}
use Rattle.history.specs.Law.{Holds}
use Rattle.history.specs.Tracks.{Tracks}

-- acts with their answers, both oldest first, after a history
abbrev pub history_from : History → List Act → List (Result Answer FabricFault) → History
history_from h [] rs = h
history_from h (a ∷ acts) [] = h
history_from h (a ∷ acts) (r ∷ rs) = history_from (record { act = a; answer = r } ∷ h) acts rs

-- the history of acts with their answers
abbrev pub history_of : List Act → List (Result Answer FabricFault) → History
history_of acts rs = history_from [] acts rs

-- the answers that are owed to acts, one after the other
abbrev pub answers_from : Board → History → List Act → List (Result Answer FabricFault)
answers_from m h [] = []
answers_from m h (a ∷ acts) = owed m h a ∷ answers_from m (record { act = a; answer = owed m h a } ∷ h) acts

-- the answers of a run
unfoldable pub answers_of : Board → List Act → List (Result Answer FabricFault)
answers_of m acts = answers_from m [] acts

-- the number of a refusal to begin a run
abbrev pub run_number : RunFault → ℕ
run_number Below = 18
run_number Short = 22

-- a run begins over a live, idle and full slave of width 8
abbrev pub begin_answer : Meaning → Result (Unit {0}) RunFault
begin_answer s = if fits_below s then Ok tt else Err Below

-- and where there is room for so many answers
abbrev pub run_answer : ℕ → ℕ → Meaning → Result (Unit {0}) RunFault
run_answer acts room s = if nat_lt room acts then Err Short else begin_answer s

-- what a call leaves that performs acts over a slave with the bytes and kinds m at the creation:
-- the answers held before and after, the fabric and the slave
pub record Performed (m : Board) (acts : List Act) (before after : List (Result Answer FabricFault)) (c : Channels) (s : Meaning) : Type 0 where
  -- every act has the answer that is owed to it, and what stands behind the answers stays
  pub answers : after ≡ answers_of m acts ++ drop (length acts) before
  -- the fabric and the slave are what this history says
  pub run : Tracks m (history_of acts (take (length acts) after)) c s
  -- and the law holds of it
  pub law : Holds m (history_of acts (take (length acts) after))
