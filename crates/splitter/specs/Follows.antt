-- What each call of a splitter does to the slave below. A call that is refused here is refused below or never made there, and
-- the slave below stands where the place implies: nothing is opened, and it is as it was.
use Rattle.std.specs.Prelude.{ℕ, if◌then◌else◌, Some, None, Option}
use Rattle.burst.specs.declared.raw.RawBurst.{RawBurst}
use Rattle.slave.specs.declared.channels.Channel.{Channel}
use Rattle.slave.specs.declared.channels.Channel.TheVariants.{Write, Read}
use Rattle.slave.specs.Meaning.{Meaning, Stand, is_idle, stand_at}
use Rattle.slave.specs.Acts.{open_after, give_after, take_after}
use Rattle.splitter.specs.declared.splitter.Splitter.{Splitter}
use Rattle.splitter.specs.Fits.{run_below}
use Rattle.splitter.specs.Shows.{shows, number_of, below_of}

-- the slave below with a run opened
abbrev pub with_run : Channel → Option (RawBurst × ℕ) → Meaning → Meaning
with_run ch (Some x) m = open_after m ch x.0
with_run ch None m = m

-- the slave below made to follow the splitter's own place p: an idle channel opens the run that p implies
abbrev pub follow_after : ℕ → Channel → Stand → Meaning → Meaning
follow_after M ch p m = if is_idle (stand_at m ch) then with_run ch (run_below M p) m else m

-- the slave below after an open: it follows, so the burst's first run is opened
abbrev pub below_open : {S : Type 0} {g : _} → (S → Meaning) → Splitter S g → Channel → RawBurst → Meaning
below_open meaning x ch b =
    follow_after (number_of x) ch (stand_at (open_after (shows meaning x) ch b) ch) (meaning (below_of x))

-- after a give: it is given that word and strobe, and follows
abbrev pub below_give : {S : Type 0} {g : _} → (S → Meaning) → Splitter S g → ℕ → ℕ → Meaning
below_give meaning x word strobe =
    follow_after (number_of x) Write (give_after (shows meaning x) word strobe).write (give_after (meaning (below_of x)) word strobe)

-- after a take: one beat is taken from it, and it follows
abbrev pub below_take : {S : Type 0} {g : _} → (S → Meaning) → Splitter S g → Meaning
below_take meaning x =
    follow_after (number_of x) Read (take_after (shows meaning x)).read (take_after (meaning (below_of x)))
