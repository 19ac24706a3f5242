-- A whole case: a script file, and the report that it has.
use Rattle.std.specs.Prelude.{◌≡◌, ℕ, List, [], ◌∷◌, ◌++◌, codes}
use Rattle.bench.specs.Runs.{report_of}

-- the last sixteen bytes of a record that has neither address, strobe nor word
abbrev pub no_beat : List ℕ
no_beat = 0 ∷ 0 ∷ 0 ∷ 0 ∷ 0 ∷ 0 ∷ 0 ∷ 0 ∷ 0 ∷ 0 ∷ 0 ∷ 0 ∷ 0 ∷ 0 ∷ 0 ∷ 0 ∷ []

-- a read request of master 0, ID 5, QoS 0: INCR, size code 2, one beat at 0
abbrev pub request_record : List ℕ
request_record = 1 ∷ 0 ∷ 5 ∷ 0 ∷ 1 ∷ 2 ∷ 0 ∷ 0 ∷ no_beat

-- a record of which the code tells all: 3 grants a read, 5 takes a beat
abbrev pub bare_record : ℕ → List ℕ
bare_record code = code ∷ 0 ∷ 0 ∷ 0 ∷ 0 ∷ 0 ∷ 0 ∷ 0 ∷ no_beat

-- four acts and an image of four bytes: the request, the grant and two takes; 11 22 33 44 (hexadecimal)
abbrev pub case_file : List ℕ
case_file =
    4 ∷ 0 ∷ 0 ∷ 0 ∷ 4 ∷ 0 ∷ 0 ∷ 0
    ∷ (request_record ++ (bare_record 3 ++ (bare_record 5 ++ (bare_record 5 ++ (0x11 ∷ 0x22 ∷ 0x33 ∷ 0x44 ∷ [])))))

-- the four lines, each with its end
abbrev pub case_report : List ℕ
case_report =
    codes "1 ACC" ++ (10 ∷ (codes "2 GRT 0 05" ++ (10 ∷ (codes "3 R 0 05 0000000044332211 OKAY LAST" ++ (10 ∷ (codes "4 ERR F 9" ++ 10 ∷ []))))))

-- this is the report
abbrev pub WholeCase : Type 0
WholeCase = report_of case_file ≡ case_report
