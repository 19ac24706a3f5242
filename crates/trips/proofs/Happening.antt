-- One event more of a trace.
use Rattle.std.proofs.Common.{◌≡◌, ℕ, suc, ◌+◌, ◌<◌, List, ◌∷◌, length, get_or, drop, ap, sym, add-one, drop-cons}
use Rattle.slave.specs.Meaning.{Meaning}
use Rattle.trips.specs.declared.trace.Event.{Event}
use Rattle.trips.specs.Traces.{after_event, after_trace}

pub after_next :
    (m : Meaning) (es : List Event) (i : ℕ) (e : Event) → i < length es → e ≡ get_or es i e
    → after_trace m (drop i es) ≡ after_trace (after_event m e) (drop (i + 1) es)
after_next m es i e h s =
    let next : drop i es ≡ get_or es i e ∷ drop (suc i) es = drop-cons es i e h in
    rw (next, add-one) (ap (λ x. after_trace (after_event m x) (drop (suc i) es)) (sym s))
