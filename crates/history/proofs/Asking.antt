-- A request of the fabric in a run.
use Rattle.std.proofs.lemmas.Bool.Decides.{nat_tests}
use Rattle.std.proofs.Common.{◌≡◌, ℕ, Bool, true, false, cond, ◌||◌, eqb, ltb, leb, [], ◌∷◌, ◌++◌, length, Ok, Err, Result, refl, ap, ◌∙◌, arith}
use Rattle.burst.specs.Beats.{first_refusal}
use Rattle.slave.specs.declared.channels.Channel.{Channel}
use Rattle.slave.specs.declared.channels.Channel.TheVariants.{Write, Read}
use Rattle.fabric.specs.declared.types.Request.{Request}
use Rattle.fabric.specs.declared.types.Act.TheVariants.{Request as Ask}
use Rattle.fabric.specs.declared.types.Answer.TheVariants.{Accepted}
use Rattle.fabric.specs.declared.types.FabricFault.{FabricFault}
use Rattle.std.proofs.lemmas.List.{length-map, map-append}
use Rattle.fabric.specs.Channels.{with_queue}
use Rattle.history.specs.Tracks.{row_of, queue_after, channels_after, slave_after}
use Rattle.burst.specs.Rules.{fault_at}
use Rattle.fabric.specs.declared.types.FabricFault.TheVariants.{Unlawful, Source, Full}
use Rattle.fabric.specs.Rows.{fresh}
use Rattle.fabric.specs.Acts.{passed, where_passed, request_test, request_answer, request_after}
use Rattle.history.specs.History.{Event, History, tally, same, waiting}
use Rattle.slave.specs.Meaning.{Board}
use Rattle.history.specs.Owed.{owed_request}
use Rattle.history.proofs.Waits.{waiting_arrives}
use Rattle.history.proofs.Bound.{since_none}
use Rattle.history.proofs.Quiet.{event, Still, Quiet, opened_quiet, row_quiet, channels_with, slave_quiet, channels_refused, slave_refused, same_queue}

-- the tests of a request by what they ask: whether the source is none, the number of the burst's refusal, and how many wait
abbrev tests : Bool → ℕ → ℕ → FabricFault → Result (Unit {0}) FabricFault
tests s n k f = passed {A = Unit {0}} (cond s (Err Source) (Ok tt)) (λ _. passed {A = Unit {0}} (cond (eqb n 0) (Ok tt) (Err f)) (λ _. cond (ltb k 16) (Ok tt) (Err Full)))

-- the fabric's tests are those of the rules
tests_are : (s : Bool) (n k : ℕ) (f : FabricFault) → passed (tests s n k f) (λ _. Ok Accepted) ≡ cond s (Err Source) (cond (ltb 0 n) (Err f) (cond (leb 16 k) (Err Full) (Ok Accepted)))
tests_are s n k f = grind (arith, nat_tests)

-- a request is answered by the rules
pub request_owed : (ch : Channel) (h : History) (q : Request) → request_answer (queue_after ch h) q ≡ owed_request ch h q
unfolding owed_request queue_after
request_owed ch h q =
    ap (λ n. passed (tests (ltb 3 q.master || ltb 15 q.qos) (first_refusal 8 q.burst) n (Unlawful (fault_at (first_refusal 8 q.burst)))) (λ _. Ok Accepted)) (length-map (waiting ch h) (row_of ch h))
    ∙ tests_are (ltb 3 q.master || ltb 15 q.qos) (first_refusal 8 q.burst) (length (waiting ch h)) (Unlawful (fault_at (first_refusal 8 q.burst)))

-- a channel is itself
pub same_self : (ch : Channel) → same ch ch ≡ true
same_self Write = refl
same_self Read = refl

-- the other channel does not notice a request
ask_quiet : (d c : Channel) (q : Request) → same d c ≡ false → Quiet d (event (Ask c q) (Ok Accepted))
ask_quiet d c q e = record { no_ask = rw e; still = record { no_grant = refl; no_beat = refl } }

-- a request grants and moves nothing
ask_still : (d c : Channel) (q : Request) → Still d (event (Ask c q) (Ok Accepted))
ask_still d c q = record { no_grant = refl; no_beat = refl }

-- an accepted request waits behind all others
entered : (ch : Channel) (h : History) (q : Request)
    → queue_after ch (event (Ask ch q) (Ok Accepted) ∷ h) ≡ record { rows = (queue_after ch h).rows ++ (fresh q ∷ []); current = (queue_after ch h).current }
unfolding queue_after
entered ch h q =
    rw (waiting_arrives ch x h q refl (rw (same_self ch)), row_quiet ch x h refl, map-append, since_none ch h (tally h) (omega arith), opened_quiet ch x h (ask_still ch ch q))
  where
    x : Event
    x = event (Ask ch q) (Ok Accepted)

-- the fabric and the slave after a request
module _ (m : Board) (ch : Channel) (h : History) (q : Request) where
  -- the fabric by the outcome of the tests
  with_answer : (t : Result (Unit {0}) FabricFault)
      → with_queue ch (where_passed t (queue_after ch h) (λ _. record { rows = (queue_after ch h).rows ++ (fresh q ∷ []); current = (queue_after ch h).current })) (channels_after h)
      ≡ channels_after (event (Ask ch q) (passed t (λ _. Ok Accepted)) ∷ h)
  with_answer (Ok u) = channels_with ch (event (Ask ch q) (Ok Accepted)) h _ (entered ch h q) (λ d n. ask_quiet d ch q n)
  with_answer (Err f) = rw (same_queue ch h) (channels_refused (Ask ch q) f h)

  -- the fabric after a request
  pub request_leaves : with_queue ch (request_after (queue_after ch h) q) (channels_after h) ≡ channels_after (event (Ask ch q) (owed_request ch h q) ∷ h)
  request_leaves = rw (← request_owed ch h q) (with_answer (request_test (queue_after ch h) q))

  -- the slave does not notice a request
  pub request_slave : slave_after m h ≡ slave_after m (event (Ask ch q) (owed_request ch h q) ∷ h)
  request_slave = rw (← request_owed ch h q) (go (request_test (queue_after ch h) q))
    where
      go : (t : Result (Unit {0}) FabricFault) → slave_after m h ≡ slave_after m (event (Ask ch q) (passed t (λ _. Ok Accepted)) ∷ h)
      go (Ok u) = slave_quiet m (event (Ask ch q) (Ok Accepted)) h (ask_still Write ch q) (ask_still Read ch q)
      go (Err f) = slave_refused m (Ask ch q) f h
