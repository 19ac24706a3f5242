-- The whole case has its report.
use Rattle.std.proofs.Common.{◌≡◌, ℕ, List, [], ◌∷◌, ◌++◌, codes, decimal, refl, ap, ◌∙◌, lit<}
use Rattle.std.proofs.lemmas.Fmt.{decimal_digit}
use Rattle.burst.specs.Beats.{address_of, last_of, any_below, mask_below, lane_mask}
use Rattle.slave.specs.Lanes.{worst_lane}
use Rattle.history.specs.History.{tally, requests, age, blocked, candidates, rank, best, pick, among, unpicked, picked, waiting, own, current, opened}
use Rattle.history.specs.Bytes.{strobes, stored, shown, word_read, response_read, response_written, worst}
use Rattle.history.specs.Owed.{owed, owed_request, owed_grant}
use Rattle.report.specs.Lines.{hex2, hex_bytes}
use Rattle.bench.specs.Reports.{history_until, report_until}
use Rattle.bench.specs.Runs.{report_of}
use Rattle.bench.specs.Example.{WholeCase, case_file}

-- the lines, with the figures of their numbers
abbrev lines : (zero one two three four nine : List ℕ) → List ℕ
lines zero one two three four nine =
    (((one ++ (32 ∷ (codes "ACC" ++ 10 ∷ [])))
    ++ (two ++ (32 ∷ ((codes "GRT " ++ (zero ++ (32 ∷ hex2 5))) ++ 10 ∷ []))))
    ++ (three ++ (32 ∷ ((codes "R " ++ ((zero ++ (32 ∷ hex2 5)) ++ (32 ∷ (hex_bytes 8 0x44332211 ++ (32 ∷ (codes "OKAY" ++ codes " LAST")))))) ++ 10 ∷ []))))
    ++ (four ++ (32 ∷ ((codes "ERR " ++ (70 ∷ (32 ∷ nine))) ++ 10 ∷ [])))

-- by working it out
worked : report_of case_file ≡ lines (decimal 0) (decimal 1) (decimal 2) (decimal 3) (decimal 4) (decimal 9)
unfolding history_until report_until owed owed_request owed_grant tally requests age blocked candidates rank best pick among unpicked picked waiting own current opened strobes stored shown word_read response_read response_written worst address_of last_of any_below mask_below lane_mask worst_lane
worked = refl

pub whole_case : WholeCase
whole_case =
    worked
    ∙ ap (λ (d : List ℕ). lines d (decimal 1) (decimal 2) (decimal 3) (decimal 4) (decimal 9)) (decimal_digit 0 (lit< tt))
    ∙ ap (λ (d : List ℕ). lines (48 ∷ []) d (decimal 2) (decimal 3) (decimal 4) (decimal 9)) (decimal_digit 1 (lit< tt))
    ∙ ap (λ (d : List ℕ). lines (48 ∷ []) (49 ∷ []) d (decimal 3) (decimal 4) (decimal 9)) (decimal_digit 2 (lit< tt))
    ∙ ap (λ (d : List ℕ). lines (48 ∷ []) (49 ∷ []) (50 ∷ []) d (decimal 4) (decimal 9)) (decimal_digit 3 (lit< tt))
    ∙ ap (λ (d : List ℕ). lines (48 ∷ []) (49 ∷ []) (50 ∷ []) (51 ∷ []) d (decimal 9)) (decimal_digit 4 (lit< tt))
    ∙ ap (λ (d : List ℕ). lines (48 ∷ []) (49 ∷ []) (50 ∷ []) (51 ∷ []) (52 ∷ []) d) (decimal_digit 9 (lit< tt))
