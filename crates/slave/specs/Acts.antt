-- What open, give and take answer, and the slave after each. A refused call leaves the slave as it was.
use Rattle.std.specs.Prelude.{ℕ, ◌+◌, ◌-◌, Bool, true, false, if◌then◌else◌, not, ◌&&◌, ◌||◌, Ok, Err, Result, ◌==◌, nat_lt}
use Rattle.burst.specs.declared.raw.RawBurst.{RawBurst}
use Rattle.burst.specs.Rules.{fault_number, fault_at}
use Rattle.burst.specs.Beats.{raw_of, first_refusal, address_of, last_of, cover_of}
use Rattle.slave.specs.declared.response.Response.{Response}
use Rattle.slave.specs.declared.response.Response.TheVariants.{Okay}
use Rattle.slave.specs.declared.fault.SlaveFault.{SlaveFault}
use Rattle.slave.specs.declared.fault.SlaveFault.TheVariants.{Unlawful, Simple, Strobe, NotOpen, AlreadyOpen, Dead}
use Rattle.slave.specs.declared.channels.Channel.{Channel}
use Rattle.slave.specs.declared.channels.Channel.TheVariants.{Write, Read}
use Rattle.slave.specs.declared.channels.Step.{Step}
use Rattle.slave.specs.declared.channels.Step.TheVariants.{Open as StepOpen, Beat}
use Rattle.slave.specs.declared.given.Given.{Given}
use Rattle.slave.specs.declared.given.Given.TheVariants.{More, Done}
use Rattle.slave.specs.Meaning.{Meaning, board, Stand, idle, busy, with_read, with_write, stand_at, is_idle}
use Rattle.slave.specs.Lanes.{worse, stray, read_word, read_worst, write_worst, written}

-- the number of a slave's refusal
abbrev pub number : SlaveFault → ℕ
number (Unlawful e) = fault_number e
number Simple = 6
number Strobe = 7
number NotOpen = 9
number AlreadyOpen = 10
number Dead = 19

-- a simple slave takes INCR bursts of at most so many beats
abbrev pub too_much : Bool → ℕ → RawBurst → Bool
too_much full most b = not full && (not (b.kind == 1) || nat_lt most b.count)

-- whether an idle channel of a live slave takes a burst
abbrev pub admission : ℕ → ℕ → Bool → RawBurst → Result (Unit {0}) SlaveFault
admission w most full b =
    if first_refusal w b == 0 then (if too_much full most b then Err Simple else Ok tt) else Err (Unlawful (fault_at (first_refusal w b)))

-- what open answers
abbrev pub open_answer : Meaning → Channel → RawBurst → Result (Unit {0}) SlaveFault
open_answer m ch b =
    if m.live then (if is_idle (stand_at m ch) then admission m.width m.most m.full b else Err AlreadyOpen) else Err Dead

-- the slave with a burst opened
abbrev pub opened : Channel → RawBurst → Meaning → Meaning
opened Write b m = with_write (busy b 0) Okay m.bytes m
opened Read b m = with_read (busy b 0) m

-- an answer's value put to use, with another where there is none
abbrev pub on_ok : {A B : Type 0} → Result A SlaveFault → B → (A → B) → B
on_ok (Ok x) other f = f x
on_ok (Err e) other f = other

-- an answer's value changed
abbrev pub map_ok : {A B : Type 0} → Result A SlaveFault → (A → B) → Result B SlaveFault
map_ok (Ok x) f = Ok (f x)
map_ok (Err e) f = Err e

-- an answer that a further test may refuse
abbrev pub then_ok : {A B : Type 0} → Result A SlaveFault → (A → Result B SlaveFault) → Result B SlaveFault
then_ok (Ok x) f = f x
then_ok (Err e) f = Err e

-- the slave after an open
abbrev pub open_after : Meaning → Channel → RawBurst → Meaning
open_after m ch b = on_ok (open_answer m ch b) m (λ _. opened ch b m)

-- the next beat of a channel: its burst and number
abbrev pub beat_at : Bool → Stand → Result (RawBurst × ℕ) SlaveFault
beat_at false p = Err Dead
beat_at true idle = Err NotOpen
beat_at true (busy b k) = Ok (b, k)

-- where a channel stands after beat k
abbrev pub past : RawBurst → ℕ → Stand
past b k = if nat_lt (k + 1) b.count then busy b (k + 1) else idle

-- the beats left after beat k
abbrev pub left : RawBurst → ℕ → ℕ
left b k = b.count - (k + 1)

-- the beat that a give is for
abbrev pub give_beat : Meaning → ℕ → Result (RawBurst × ℕ) SlaveFault
give_beat m s =
    then_ok (beat_at m.live m.write) (λ x. if stray m.width (address_of x.0 x.1) (last_of x.0 x.1) s then Err Strobe else Ok x)

-- the worst response once beat k of b is given
abbrev pub worst_after : Meaning → RawBurst → ℕ → ℕ → Response
worst_after m b k s = worse m.worst (write_worst (board m) m.width (cover_of b k) s)

-- the response in a give's answer: OKAY while beats are left
abbrev pub given_response : Given → Response
given_response (More n) = Okay
given_response (Done r) = r

-- the beats left in a give's answer
abbrev pub given_left : Given → ℕ
given_left (More n) = n
given_left (Done r) = 0

-- what the give of beat k answers
abbrev pub gave_answer : Meaning → RawBurst → ℕ → ℕ → Given
gave_answer m b k s = if nat_lt (k + 1) b.count then More (left b k) else Done (worst_after m b k s)

-- the slave after the give of beat k
abbrev pub gave_after : Meaning → RawBurst → ℕ → ℕ → ℕ → Meaning
gave_after m b k w s =
    with_write (past b k) (if nat_lt (k + 1) b.count then worst_after m b k s else Okay) (written (board m) m.width (cover_of b k) w s) m

-- what give answers
abbrev pub give_answer : Meaning → ℕ → ℕ → Result Given SlaveFault
give_answer m w s = map_ok (give_beat m s) (λ x. gave_answer m x.0 x.1 s)

-- the slave after a give
abbrev pub give_after : Meaning → ℕ → ℕ → Meaning
give_after m w s = on_ok (give_beat m s) m (λ x. gave_after m x.0 x.1 w s)

-- the word, the response and the beats left of read beat k
abbrev pub took_answer : Meaning → RawBurst → ℕ → ℕ × Response × ℕ
took_answer m b k = (read_word (board m) m.width (cover_of b k), read_worst (board m) m.width (cover_of b k), left b k)

-- what take answers
abbrev pub take_answer : Meaning → Result (ℕ × Response × ℕ) SlaveFault
take_answer m = map_ok (beat_at m.live m.read) (λ x. took_answer m x.0 x.1)

-- the slave after a take
abbrev pub take_after : Meaning → Meaning
take_after m = on_ok (beat_at m.live m.read) m (λ x. with_read (past x.0 x.1) m)

-- an answer without its value
abbrev pub bare : {A : Type 0} → Result A SlaveFault → Result (Unit {0}) SlaveFault
bare r = map_ok r (λ _. tt)

-- how a call that opens a burst or takes a beat moves a channel: its answer, the place and the worst response after it
abbrev pub step_answer : Stand → Response → Step → Result Given SlaveFault
step_answer idle r (StepOpen b) = Ok (More b.count)
step_answer idle r (Beat x) = Err NotOpen
step_answer (busy b k) r (StepOpen c) = Err AlreadyOpen
step_answer (busy b k) r (Beat x) = Ok (if nat_lt (k + 1) b.count then More (left b k) else Done (worse r x))

-- the last beat makes the channel idle
abbrev pub step_place : Stand → Step → Stand
step_place idle (StepOpen b) = busy (raw_of b) 0
step_place idle (Beat x) = idle
step_place (busy b k) (StepOpen c) = busy b k
step_place (busy b k) (Beat x) = past b k

-- the worst response is that of the open burst
abbrev pub step_worst : Stand → Response → Step → Response
step_worst idle r (StepOpen b) = Okay
step_worst idle r (Beat x) = r
step_worst (busy b k) r (StepOpen c) = r
step_worst (busy b k) r (Beat x) = if nat_lt (k + 1) b.count then worse r x else Okay
