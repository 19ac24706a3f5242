-- What a sink answers to a text, and what it holds afterwards.
use Rattle.std.specs.Prelude.{ℕ, ◌<◌, ◌≤◌, List, length, Result, MatchResult}
use Rattle.report.specs.declared.told.ReportFault.{ReportFault}

-- a text is taken where there is room for it, and then the sink holds it; else it is refused
abbrev pub Takes : {A : Type 0} → (List ℕ → Type 0) → ℕ → List ℕ → Result A ReportFault → Type 0
Takes holds room text r = MatchResult r (λ _. (length text ≤ room) × holds text) (λ _. room < length text)
