-- What holds of the runs of every lawful burst, and one split worked out.
use Rattle.std.specs.Prelude.{◌≡◌, ℕ, ◌<◌, ◌≤◌, true, [], ◌∷◌, Ok}
use Rattle.burst.specs.declared.raw.RawBurst.{RawBurst}
use Rattle.burst.specs.Beats.{IsLawful, address_of, last_of, incr_burst}
use Rattle.burst.specs.Edges.{burst}
use Rattle.slave.specs.declared.channels.Channel.{Channel}
use Rattle.slave.specs.Meaning.{Meaning, idle, stand_at}
use Rattle.slave.specs.Acts.{open_answer}
use Rattle.splitter.specs.Runs.{run_of, beat_in, runs, beats, joined}

-- the run of beat j in runs of at most M beats
pub record RunStands (M : ℕ) (b : RawBurst) (j : ℕ) : Type 0 where
  -- it is an INCR burst of one beat at least and M at most
  pub incr : (run_of M b j).kind ≡ 1
  pub some : 0 < (run_of M b j).count
  pub few : (run_of M b j).count ≤ M
  -- it is lawful for every width that the burst is lawful for
  pub lawful : (w : ℕ) → IsLawful w b → IsLawful w (run_of M b j)
  -- beat j is a beat of it, and covers the same bytes there
  pub has : beat_in M b j < (run_of M b j).count
  pub first : address_of (run_of M b j) (beat_in M b j) ≡ address_of b j
  pub last : last_of (run_of M b j) (beat_in M b j) ≡ last_of b j
  -- no live slave that takes M beats at once refuses it at an idle channel
  pub taken : (m : Meaning) (ch : Channel) → m.live ≡ true → stand_at m ch ≡ idle → IsLawful m.width b → M ≤ m.most
      → open_answer m ch (run_of M b j) ≡ Ok tt

-- the runs of a burst in runs of at most M beats
pub record RunsStand (M : ℕ) (b : RawBurst) : Type 0 where
  -- joined, they have the burst's beats in order
  pub join : joined (runs M b) ≡ beats b
  pub run : (j : ℕ) → j < b.count → RunStands M b j

-- a WRAP burst of eight beats of 4 bytes from 0Ch, in runs of four: up to its turn 0Ch with 4 and 1Ch with 1, then 0 with 3
abbrev pub WorkedSplit : Type 0
WorkedSplit = runs 4 (burst 2 0x0c 2 8) ≡ (incr_burst 0x0c 2 4 ∷ incr_burst 0x1c 2 1 ∷ incr_burst 0 2 3 ∷ [])
