-- What is run and reported of a script, by the cases of the call.
use Rattle.std.proofs.Common.{◌≡◌, ℕ, ◌+◌, ◌-◌, ◌/◌, ◌≤◌, Bool, true, false, cond, ◌&&◌, eqb, leb, List, length, replicate, refl, sym, ap, ◌∙◌, subst, arith, length-append}
use lib.ListN.{length-replicate}
use Rattle.history.specs.Law.{Holds}
use Rattle.script.specs.Files.{header_of, opens, records_of, image_of}
use Rattle.script.specs.Laws.{FilesParted}
use Rattle.bench.specs.Reports.{history_until, report_until, script_history, script_report}
use Rattle.ram.specs.Memory.{memory_board}
use Rattle.bench.specs.Piles.{loaded}
use Rattle.bench.specs.Runs.{runs, report_of, file_board, file_history, header_line}

-- as many records as acts
pub acts_are : (f rs : List ℕ) → FilesParted → opens f ≡ true → rs ≡ records_of f → length rs / 24 ≡ (header_of f).acts
acts_are f rs law o e =
    let p = (law.parts f o).records in
    let n = ap length e in
    omega arith

-- equal memory and records have the same report
pub same_report : (mem mem' rs rs' : List ℕ) (n n' : ℕ) → mem ≡ mem' → rs ≡ rs' → n ≡ n' → report_until (memory_board mem) rs n ≡ report_until (memory_board mem') rs' n'
same_report mem mem' rs rs' n n' a b c =
    ap (λ (z : List ℕ). report_until (memory_board z) rs n) a ∙ ap (λ (z : List ℕ). report_until (memory_board mem') z n) b ∙ ap (report_until (memory_board mem') rs') c

-- and the same law
pub same_law : (mem mem' rs rs' : List ℕ) (n n' : ℕ) → mem ≡ mem' → rs ≡ rs' → n ≡ n' → Holds (memory_board mem) (history_until (memory_board mem) rs n)
    → Holds (memory_board mem') (history_until (memory_board mem') rs' n')
same_law mem mem' rs rs' n n' a b c h =
    subst (λ (z : ℕ). Holds (memory_board mem') (history_until (memory_board mem') rs' z)) c
    (subst (λ (z : List ℕ). Holds (memory_board mem') (history_until (memory_board mem') z n)) b
    (subst (λ (z : List ℕ). Holds (memory_board z) (history_until (memory_board z) rs n)) a h))

-- whether the acts are run
pub runs_is : (f : List ℕ) (M room : ℕ) (rep : List ℕ) → M ≡ 8192 → opens f ≡ true → report_of f ≡ rep → runs f M room ≡ leb (length rep) room
runs_is f M room rep e o r = ap (λ (k : ℕ). runs f k room) e ∙ ap (λ (t : Bool). t && leb (length (report_of f)) room) o ∙ ap (λ (t : List ℕ). leb (length t) room) r

-- the report of a script is that of its records
pub script_is : (f mem rs : List ℕ) → FilesParted → opens f ≡ true → mem ≡ loaded (image_of f) 8192 → rs ≡ records_of f → report_of f ≡ script_report (memory_board mem) rs
script_is f mem rs law o e r =
    ap (λ (t : Bool). cond t (report_until (file_board f) (records_of f) (header_of f).acts) header_line) o
    ∙ sym (same_report mem (loaded (image_of f) 8192) rs (records_of f) (length rs / 24) (header_of f).acts e r (acts_are f rs law o r))

-- and its history is theirs, so that the law holds of it
pub script_holds : (f mem rs : List ℕ) → FilesParted → opens f ≡ true → mem ≡ loaded (image_of f) 8192 → rs ≡ records_of f
    → Holds (memory_board mem) (script_history (memory_board mem) rs) → Holds (file_board f) (file_history f)
script_holds f mem rs law o e r = same_law mem (loaded (image_of f) 8192) rs (records_of f) (length rs / 24) (header_of f).acts e r (acts_are f rs law o r)

-- loaded memory keeps its length
pub length_loaded : (image : List ℕ) (n : ℕ) → length image ≤ n → length (loaded image n) ≡ n
length_loaded image n l =
    let fill : length image + (n - length image) ≡ n = omega arith in
    length-append image (replicate (n - length image) 0) ∙ ap (λ (k : ℕ). length image + k) (length-replicate (n - length image) 0) ∙ fill

-- memory of another length is refused
never : (b : Bool) → b && false ≡ false
never true = refl
never false = refl

-- and nothing is run over it
pub never_runs : (f : List ℕ) (M room : ℕ) → eqb M 8192 ≡ false → runs f M room ≡ false
never_runs f M room e = ap (λ (t : Bool). opens f && (t && leb (length (report_of f)) room)) e ∙ never (opens f)
