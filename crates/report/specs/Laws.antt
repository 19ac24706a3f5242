-- A line tells its act's number and outcome.
use Rattle.std.specs.Prelude.{◌≡◌, ℕ, ◌^◌, ◌<◌, if◌then◌else◌, List, ◌++◌, Ok, Err, ◌==◌}
use Rattle.fabric.specs.declared.types.Answer.{Answer}
use Rattle.fabric.specs.declared.types.Answer.TheVariants.{Accepted, Granted, More, Done, Beat}
use Rattle.report.specs.Outcomes.{Told}
use Rattle.report.specs.Lines.{line}

-- an answer's numbers are as large as its fields can hold
abbrev pub AnswerFits : Answer → Type 0
AnswerFits Accepted = Unit {0}
AnswerFits (Granted master id) = (master < 2 ^ 8) × (id < 2 ^ 8)
AnswerFits (More left) = left < 2 ^ 16
AnswerFits (Done master id r) = (master < 2 ^ 8) × (id < 2 ^ 8)
AnswerFits (Beat master id word r left) = (master < 2 ^ 8) × (id < 2 ^ 8) × (word < 2 ^ 64)

-- an outcome's numbers are as large as its fields can hold
abbrev pub ToldFits : Told → Type 0
ToldFits (Ok a) = AnswerFits a
ToldFits (Err r) = r.number < 2 ^ 8

-- an answer as far as a line tells it: of a read beat only whether some beat is left
abbrev pub answer_shown : Answer → Answer
answer_shown Accepted = Accepted
answer_shown (Granted master id) = Granted master id
answer_shown (More left) = More left
answer_shown (Done master id r) = Done master id r
answer_shown (Beat master id word r left) = Beat master id word r (if left == 0 then 0 else 1)

-- an outcome as far as a line tells it
abbrev pub shown : Told → Told
shown (Ok a) = Ok (answer_shown a)
shown (Err r) = Err r

-- what two lines that read the same say of their acts, whatever bytes follow them
pub record SameLine (n m : ℕ) (t u : Told) (x y : List ℕ) : Type 0 where
  -- the same number
  pub act : n ≡ m
  -- the same outcome, but for how many beats are left after a read beat that is not the last
  pub outcome : shown t ≡ shown u
  -- the same bytes follow: a line's end is told by the line
  pub rest : x ≡ y

-- different acts or outcomes have different lines, and no line begins another
pub record LinesTell : Type 0 where
  pub apart : (n m : ℕ) (t u : Told) (x y : List ℕ) → n < 2 ^ 32 → m < 2 ^ 32 → ToldFits t → ToldFits u → line n t ++ x ≡ line m u ++ y → SameLine n m t u x y
  -- what a line does not tell does not show in it
  pub alike : (n : ℕ) (t u : Told) → shown t ≡ shown u → line n t ≡ line n u
