-- One record more in a run.
use Rattle.std.proofs.Common.{◌≡◌, ℕ, zero, suc, ◌+◌, ◌*◌, ◌/◌, ◌<◌, ◌≤◌, get_or, slice_get, List, [], ◌++◌, length, Result, sym, refl, ap, ◌∙◌, subst, arith, length-append, ⊎_elim}
use Rattle.std.proofs.lemmas.Bool.{cases_lt}
use Rattle.std.proofs.lemmas.Option.{slice_get-get_or}
use Rattle.script.specs.Acts.{read_act}
use Rattle.script.specs.Files.{record_at}
use Rattle.slave.specs.Meaning.{Meaning, Board}
use Rattle.fabric.specs.declared.types.Act.{Act}
use Rattle.fabric.specs.declared.types.Answer.{Answer}
use Rattle.fabric.specs.Channels.{Channels}
use Rattle.history.specs.History.{History}
use Rattle.history.specs.Tracks.{Tracks}
use Rattle.history.proofs.Whole.{runs_hold}
use Rattle.report.specs.declared.line.TheConstants.{LINE_BYTES}
use Rattle.script.specs.declared.fault.ScriptFault.{ScriptFault}
use Rattle.bench.specs.declared.fault.BenchFault.{BenchFault}
use Rattle.bench.specs.Outcomes.{act_at, act_in_record, ends, goes, outcome_line}
use Rattle.bench.specs.Reports.{EndsRight, Ran, history_until, report_until, line_at, script_history, script_report}

-- nothing is done before the first record
pub until_none : (m : Board) (records : List ℕ) → (history_until m records 0 ≡ []) × (report_until m records 0 ≡ [])
unfolding history_until report_until
until_none m records = (refl, refl)

-- the history of one record more
pub history_until_more : (m : Board) (records : List ℕ) (i : ℕ) → history_until m records (suc i) ≡ goes m (history_until m records i) (act_at records i)
unfolding history_until
history_until_more m records i = refl

-- the report of one record more
pub report_until_more : (m : Board) (records : List ℕ) (i : ℕ) → report_until m records (suc i) ≡ report_until m records i ++ line_at m records i
unfolding report_until
report_until_more m records i = refl

-- as many records have no shorter report
same_length : (m : Board) (records : List ℕ) (i n : ℕ) → i ≡ n → length (report_until m records i) ≤ length (report_until m records n)
same_length m records i n e = let l = ap (λ k. length (report_until m records k)) e in omega arith

-- nor have more records
pub longer : (m : Board) (records : List ℕ) (i n : ℕ) → i ≤ n → length (report_until m records i) ≤ length (report_until m records n)
longer m records i zero l = let e : i ≡ 0 = omega arith in same_length m records i 0 e
longer m records i (suc n) l =
    ⊎_elim
    (λ (s : i < suc n).
    let shorter = longer m records i n (omega arith) in
    let more = ap length (report_until_more m records n) ∙ length-append (report_until m records n) (line_at m records n) in
    omega arith)
    (λ (e : suc n ≤ i). same_length m records i (suc n) (omega arith))
    (cases_lt i (suc n))

-- what stands after the first i records: their run, and their lines, which the sink has room for and holds
pub record Sofar (m : Board) (records : List ℕ) (i : ℕ) (c : Channels) (s : Meaning) (room : ℕ) (holds : List ℕ → Type 0) : Type 0 where
  pub run : Tracks m (history_until m records i) c s
  pub lines : holds (report_until m records i)
  pub fits : length (report_until m records i) ≤ room
  pub most : length (report_until m records i) ≤ LINE_BYTES * i

-- the act that was read from an item of the records is that of record i
pub record_read : (records : List ℕ) (items : List (List ℕ)) (i : ℕ) (act : Result Act ScriptFault)
    → act ≡ read_act (get_or items i []) → i < length items → ((j : ℕ) → slice_get items j ≡ record_at records j) → act ≡ act_at records i
record_read records items i act e l each = e ∙ ap act_in_record (sym (slice_get-get_or items i [] l) ∙ each i)

-- before the first record
pub sofar_none : (m : Board) (records : List ℕ) (c : Channels) (s : Meaning) (room : ℕ) (holds : List ℕ → Type 0) → Tracks m [] c s → holds [] → Sofar m records 0 c s room holds
sofar_none m records c s room holds t l =
    let none = until_none m records in
    let e = ap length none.1 in
    record {
      run = subst (λ (h : History). Tracks m h c s) (sym none.0) t;
      lines = subst holds (sym none.1) l;
      fits = omega arith;
      most = omega arith;
    }

-- the report of one record more has its line behind the others
pub line_more : (m : Board) (records : List ℕ) (i n : ℕ) (act : Result Act ScriptFault) (r : Result Answer BenchFault) (c : Channels) (s : Meaning) (c' : Channels) (s' : Meaning)
    → n ≡ suc i → act ≡ act_at records i → EndsRight c s n act r c' s' → Tracks m (history_until m records i) c s → report_until m records n ≡ report_until m records i ++ outcome_line n r
line_more m records i n act r c s c' s' up a x t =
    let h : History = history_until m records i in
    let ended : r ≡ ends m h (suc i) (act_at records i) = x.outcome m h t ∙ ap (λ k. ends m h k act) up ∙ ap (ends m h (suc i)) a in
    let line-is : outcome_line n r ≡ line_at m records i = ap (λ k. outcome_line k r) up ∙ ap (outcome_line (suc i)) ended in
    ap (report_until m records) up ∙ report_until_more m records i ∙ ap (λ z. report_until m records i ++ z) (sym line-is)

-- after one record more, whose line was taken
pub sofar_more : (m : Board) (records : List ℕ) (i n : ℕ) (act : Result Act ScriptFault) (r : Result Answer BenchFault) (c : Channels) (s : Meaning) (c' : Channels) (s' : Meaning) (room : ℕ) (holds holds' : List ℕ → Type 0)
    → n ≡ suc i → act ≡ act_at records i → EndsRight c s n act r c' s' → Sofar m records i c s room holds → length (outcome_line n r) ≤ LINE_BYTES
    → (length (report_until m records i ++ outcome_line n r) ≤ room) × holds' (report_until m records i ++ outcome_line n r) → Sofar m records n c' s' room holds'
sofar_more m records i n act r c s c' s' room holds holds' up a x f short l =
    let h : History = history_until m records i in
    let more = line_more m records i n act r c s c' s' up a x f.run in
    let size = ap length more ∙ length-append (report_until m records i) (outcome_line n r) in
    let before = f.most in
    let fits = l.0 in
    let long = ap length more in
    record {
      run = subst (λ (k : History). Tracks m k c' s') (ap (goes m h) a ∙ sym (history_until_more m records i) ∙ ap (history_until m records) (sym up)) (x.run m h f.run);
      lines = subst holds' (sym more) l.1;
      fits = omega arith;
      most = omega arith;
    }

-- where the line of one record more does not fit, the report of all does not, and there is less room than for the lines of n acts
pub no_room : (m : Board) (records : List ℕ) (i n : ℕ) (act : Result Act ScriptFault) (r : Result Answer BenchFault) (c : Channels) (s : Meaning) (c' : Channels) (s' : Meaning) (room : ℕ) (holds : List ℕ → Type 0)
    → n ≡ suc i → act ≡ act_at records i → EndsRight c s n act r c' s' → Sofar m records i c s room holds → length (outcome_line n r) ≤ LINE_BYTES → n ≤ length records / 24
    → room < length (report_until m records i ++ outcome_line n r) → (room < length (script_report m records)) × (room < LINE_BYTES * n)
no_room m records i n act r c s c' s' room holds up a x f short few l =
    let more = ap length (line_more m records i n act r c s c' s' up a x f.run) in
    let whole = longer m records n (length records / 24) few in
    let size = length-append (report_until m records i) (outcome_line n r) in
    let before = f.most in
    (omega arith, omega arith)

-- after the last record
pub ran : (m : Board) (records : List ℕ) (i : ℕ) (c : Channels) (s : Meaning) (room : ℕ) (holds : List ℕ → Type 0) → i ≡ length records / 24 → Sofar m records i c s room holds
    → (length (script_report m records) ≤ room) × holds (script_report m records) × Ran m records c s
ran m records i c s room holds e f =
    let t : Tracks m (script_history m records) c s = subst (λ (k : ℕ). Tracks m (history_until m records k) c s) e f.run in (
      subst (λ (k : ℕ). length (report_until m records k) ≤ room) e f.fits,
      subst (λ (k : ℕ). holds (report_until m records k)) e f.lines,
      record { run = t; law = runs_hold m t.small (script_history m records) t.run },
    )
