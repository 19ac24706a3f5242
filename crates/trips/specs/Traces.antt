-- Traces: calls on an adapter, and the calls that go down by it.
use Rattle.std.specs.Prelude.{◌≡◌, ℕ, zero, suc, ◌*◌, Bool, true, false, List, [], ◌∷◌, ◌++◌, Option, Some, None, is_ok, unwrap_or, option_to_list, nat_lt, ◌&&◌, ◌==◌, if◌then◌else◌}
use Rattle.burst.specs.declared.raw.RawBurst.{RawBurst}
use Rattle.burst.specs.Beats.{lanes_answer}
use Rattle.slave.specs.declared.channels.Channel.{Channel}
use Rattle.slave.specs.declared.channels.Channel.TheVariants.{Write, Read}
use Rattle.slave.specs.Acts.{open_answer, open_after, give_answer, give_after, take_answer, take_after}
use Rattle.slave.specs.Meaning.{Meaning}
use Rattle.splitter.specs.Runs.{run_of, beat_in}
use Rattle.arrayvec.specs.ArrayVec.{array_vec_len}
use Rattle.recorder.specs.Record.{recorded}
use Rattle.recorder.specs.declared.record.Recorder.{Recorder}
use Rattle.recorder.specs.declared.record.Call.{Call}
use Rattle.recorder.specs.declared.record.Call.TheVariants.{Open, Give, Take}
use Rattle.trips.specs.declared.trace.Event.{Event}
use Rattle.trips.specs.declared.trace.Event.TheVariants.{Above, Refused, Below}

-- whether a slave takes a call
abbrev pub is_taken : Meaning → Call → Bool
is_taken m (Open channel burst) = is_ok (open_answer m channel burst)
is_taken m (Give word strobe) = is_ok (give_answer m word strobe)
is_taken m Take = is_ok (take_answer m)

-- a slave after a call
abbrev pub after_call : Meaning → Call → Meaning
after_call m (Open channel burst) = open_after m channel burst
after_call m (Give word strobe) = give_after m word strobe
after_call m Take = take_after m

-- an adapter after an event: the calls below are its own
abbrev pub after_event : Meaning → Event → Meaning
after_event m (Above call) = after_call m call
after_event m (Refused call) = after_call m call
after_event m (Below call) = m

-- the event comes next, where a recorder below has told so many calls already
abbrev pub IsNext : {S : Type 0} → Recorder S → Meaning → ℕ → Event → Type 0
IsNext r m seen (Above call) = (array_vec_len r.calls ≡ seen) × (is_taken m call ≡ true)
IsNext r m seen (Refused call) = (array_vec_len r.calls ≡ seen) × (is_taken m call ≡ false)
IsNext r m seen (Below call) = recorded r.calls.items seen ≡ Some call

-- an adapter after a trace
abbrev pub after_trace : Meaning → List Event → Meaning
after_trace m [] = m
after_trace m (e ∷ es) = after_trace (after_event m e) es

-- the call that moves beat j of a burst: a write gives every beat another word
abbrev pub beat_call : Channel → RawBurst → ℕ → Call
beat_call Write b j = Give (j * 0x000100010001) (unwrap_or (lanes_answer 8 b j) 0)
beat_call Read b j = Take

-- the event that opens a run below before beat j, if one begins with it
abbrev pub run_opened : ℕ → Channel → RawBurst → ℕ → Option Event
run_opened number channel b j =
    if nat_lt 0 number && nat_lt j b.count
    then (if beat_in number b j == 0 then Some (Below (Open channel (run_of number b j))) else None)
    else None

-- the first n beats of a burst over a splitter: each goes down once, and its run is opened before its first beat
unfoldable pub beats_until : ℕ → Channel → RawBurst → ℕ → List Event
beats_until number channel b zero = []
beats_until number channel b (suc j) =
    beats_until number channel b j ++ option_to_list (run_opened number channel b j)
    ++ (Above (beat_call channel b j) ∷ Below (beat_call channel b j) ∷ [])

-- a whole burst over a splitter
abbrev pub split_trace : ℕ → Channel → RawBurst → List Event
split_trace number channel b = (Above (Open channel b) ∷ []) ++ beats_until number channel b b.count
