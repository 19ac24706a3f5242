-- The runs that a burst goes down in: INCR bursts of at most M beats each.
use Rattle.std.specs.Prelude.{ℕ, zero, suc, ◌+◌, ◌-◌, ◌*◌, ◌/◌, ◌^◌, min, if◌then◌else◌, ◌&&◌, List, [], ◌∷◌, ◌++◌, Some, None, Option, ◌==◌, nat_lt}
use Rattle.burst.specs.declared.raw.RawBurst.{RawBurst}
use Rattle.burst.specs.declared.cover.Cover.{Cover}
use Rattle.burst.specs.Beats.{address_of, cover_of, turn_of, incr_burst}

-- how many beats of a WRAP burst come before it turns back to its container's start
abbrev pub turn : RawBurst → ℕ
turn b = turn_of b.start (2 ^ b.size) b.count

-- the part that beat j lies in, its first beat and the beat behind its last: a FIXED beat is alone, an INCR burst of n beats is one part,
-- a WRAP burst with t beats before its turn has two; k is the kind
abbrev pub part_of : ℕ → ℕ → ℕ → ℕ → ℕ × ℕ
part_of k t n j = if k == 0 then (j, j + 1) else (if k == 1 then (0, n) else (if nat_lt j t then (0, t) else (t, n)))

-- the first beat of the part that beat j lies in
unfoldable pub part_first : RawBurst → ℕ → ℕ
part_first b j = (part_of b.kind (turn b) b.count j).0

-- the beat behind the last one of that part
unfoldable pub part_end : RawBurst → ℕ → ℕ
part_end b j = (part_of b.kind (turn b) b.count j).1

-- the first beat of the run that beat j lies in: each part goes in runs of M
unfoldable pub run_first : ℕ → RawBurst → ℕ → ℕ
run_first M b j = part_first b j + (j - part_first b j) / M * M

-- the run of beat j; the last run of a part may be shorter
unfoldable pub run_of : ℕ → RawBurst → ℕ → RawBurst
run_of M b j = incr_burst (address_of b (run_first M b j)) b.size (min M (part_end b j - run_first M b j))

-- which beat of its run beat j is
unfoldable pub beat_in : ℕ → RawBurst → ℕ → ℕ
beat_in M b j = j - run_first M b j

-- the run of beat j and which beat of it; none from the count on, and none in runs of no beats
abbrev pub run_answer : ℕ → RawBurst → ℕ → Option (RawBurst × ℕ)
run_answer M b j = if nat_lt 0 M && nat_lt j b.count then Some (run_of M b j, beat_in M b j) else None

-- at most f runs, in order, from the one that begins with beat j
unfoldable pub runs_from : ℕ → ℕ → RawBurst → ℕ → List RawBurst
runs_from zero M b j = []
runs_from (suc f) M b j = if nat_lt j b.count then (run_of M b j ∷ runs_from f M b (j + (run_of M b j).count)) else []

-- the runs of a burst, in order
abbrev pub runs : ℕ → RawBurst → List RawBurst
runs M b = runs_from b.count M b 0

-- n beats of a burst from beat j on: the bytes that each covers
unfoldable pub beats_from : RawBurst → ℕ → ℕ → List Cover
beats_from b j zero = []
beats_from b j (suc n) = cover_of b j ∷ beats_from b (j + 1) n

-- the beats of a burst, in order
abbrev pub beats : RawBurst → List Cover
beats b = beats_from b 0 b.count

-- the beats of several bursts, one burst after the other
unfoldable pub joined : List RawBurst → List Cover
joined [] = []
joined (r ∷ rs) = beats r ++ joined rs
