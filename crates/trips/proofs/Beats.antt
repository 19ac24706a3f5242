-- One beat more of a burst over a splitter.
use Rattle.std.proofs.Common.{◌≡◌, ℕ, ◌+◌, List, [], ◌∷◌, ◌++◌, Option, refl, add-one, append_assoc}
use Rattle.std.specs.Prelude.{option_to_list}
use Rattle.burst.specs.declared.raw.RawBurst.{RawBurst}
use Rattle.slave.specs.declared.channels.Channel.{Channel}
use Rattle.recorder.specs.declared.record.Call.{Call}
use Rattle.trips.specs.declared.trace.Event.{Event}
use Rattle.trips.specs.declared.trace.Event.TheVariants.{Above, Below}
use Rattle.trips.specs.Traces.{beat_call, run_opened, beats_until}

pub beats_none : (number : ℕ) (channel : Channel) (b : RawBurst) → beats_until number channel b 0 ≡ []
unfolding beats_until
beats_none number channel b = refl

pub beats_more :
    (number : ℕ) (channel : Channel) (b : RawBurst) (j : ℕ)
    → beats_until number channel b (j + 1)
    ≡ beats_until number channel b j ++ option_to_list (run_opened number channel b j)
    ++ (Above (beat_call channel b j) ∷ Below (beat_call channel b j) ∷ [])
unfolding beats_until
beats_more number channel b j = rw add-one

-- a trace to which the run that a beat opens and the beat itself are added
pub grown :
    (number : ℕ) (channel : Channel) (b : RawBurst) (j : ℕ) (start t t' t'' t''' : List Event) (o : Option Event) (k : Call)
    → t ≡ start ++ beats_until number channel b j → o ≡ run_opened number channel b j → k ≡ beat_call channel b j
    → t' ≡ t ++ option_to_list o → t'' ≡ t' ++ (Above k ∷ []) → t''' ≡ t'' ++ (Below k ∷ [])
    → t''' ≡ start ++ beats_until number channel b (j + 1)
grown number channel b j start t t' t'' t''' o k e f h p q r =
    let one : t' ≡ (start ++ beats_until number channel b j) ++ option_to_list (run_opened number channel b j) = cc in
    let two : t'' ≡ t' ++ (Above (beat_call channel b j) ∷ []) = cc in
    let three : t''' ≡ t'' ++ (Below (beat_call channel b j) ∷ []) = cc in
    rw (three, two, one, beats_more) (simp append_assoc)
