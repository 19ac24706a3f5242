-- Refused acts change nothing that any later answer depends on.
use Rattle.std.proofs.Common.{◌≡◌, ℕ, ◌+◌, Bool, true, false, [], ◌∷◌, Some, None, Option, refl, ap, ◌∙◌, ⊎_elim, append-nil, arith}
use mathlib.Core.Path.{fun_ext}
use Rattle.std.proofs.lemmas.Bool.{cases_Bool}
use Rattle.slave.specs.declared.channels.Channel.{Channel}
use Rattle.slave.specs.declared.channels.Channel.TheVariants.{Write, Read}
use Rattle.fabric.specs.declared.types.Act.{Act}
use Rattle.fabric.specs.declared.types.Act.TheVariants.{Request as Ask, Grant, Put, Take}
use Rattle.history.specs.History.{Event, History, accepted, tally, accepted_acts, requests, age, rank, pick, picked, waiting, own, Going, current, opened}
use Rattle.slave.specs.Meaning.{Board}
use Rattle.history.specs.Bytes.{strobes, stored, shown, word_read, worst}
use Rattle.history.specs.Owed.{owed, owed_request, owed_grant, owed_put_at, owed_take_at, Run}
use Rattle.history.specs.Law.{RefusedForgotten}

-- two histories tell the same of requests, open bursts, bytes and responses
pub record Alike (m : Board) (h k : History) : Type 0 where
  pub tallies : tally h ≡ tally k
  pub asked_same : (ch : Channel) → requests ch h ≡ requests ch k
  pub ages : (ch : Channel) (t : ℕ) → age ch t h ≡ age ch t k
  pub picks : (ch : Channel) → picked ch h ≡ picked ch k
  pub goes : (ch : Channel) → current ch h ≡ current ch k
  pub holds : (a : ℕ) → stored m h a ≡ stored m k a
  pub worsts : worst m h ≡ worst m k

module _ (m : Board) (h k : History) (e : Alike m h k) where
  -- the same wait
  pub waiting_alike : (ch : Channel) → waiting ch h ≡ waiting ch k
  unfolding waiting
  waiting_alike ch = rw (e.picks ch, e.asked_same ch)

  -- with the same ranks
  rank_alike : (ch : Channel) → rank ch h ≡ rank ch k
  unfolding rank
  rank_alike ch = fun_ext (λ q. ap (λ n. Prim.Native.Nat.min 15 (q.request.qos + n)) (e.ages ch q.at))

  -- so a grant picks the same
  own_alike : (ch : Channel) → own ch h ≡ own ch k
  unfolding own pick
  own_alike ch = rw (rank_alike ch, waiting_alike ch)

  -- the same is open
  pub opened_alike : (ch : Channel) → opened ch h ≡ opened ch k
  unfolding opened
  opened_alike ch = rw (e.goes ch)

  -- with the same event behind both
  alike_both : (x : Event) → Alike m (x ∷ h) (x ∷ k)
  unfolding tally requests age picked current stored strobes worst own waiting
  alike_both x = record {
    tallies = rw e.tallies;
    asked_same = λ ch. rw (e.asked_same ch, e.tallies);
    ages = λ ch t. rw (e.tallies, e.ages ch t);
    picks = λ ch. rw (own_alike ch, e.picks ch);
    goes = λ ch. rw (own_alike ch, e.goes ch);
    holds = λ a. rw (e.goes Write, e.holds a);
    worsts = rw (e.goes Write, e.worsts);
  }

  -- with a refused act behind the first
  pub alike_left : (x : Event) → accepted x.answer ≡ false → Alike m (x ∷ h) k
  unfolding tally requests age picked current stored strobes worst
  alike_left x f = record {
    tallies = rw f (omega (arith, e.tallies));
    asked_same = λ ch. rw (f, append-nil) (e.asked_same ch);
    ages = λ ch t. rw f (omega (arith, e.ages ch t));
    picks = λ ch. rw f (e.picks ch);
    goes = λ ch. rw f (e.goes ch);
    holds = λ a. rw f (e.holds a);
    worsts = rw f e.worsts;
  }

  -- a put is owed the same
  put_alike : (o : Option Going) (p s : ℕ) (l : Bool) → owed_put_at m h o p s l ≡ owed_put_at m k o p s l
  put_alike None p s l = refl
  put_alike (Some g) p s l = rw e.worsts

  -- and a take
  take_alike : (o : Option Going) → owed_take_at m h o ≡ owed_take_at m k o
  unfolding word_read shown
  take_alike None = refl
  take_alike (Some g) = rw (fun_ext (λ a. e.holds a))

  -- and every act
  owed_alike : (a : Act) → owed m h a ≡ owed m k a
  unfolding owed owed_request owed_grant
  owed_alike (Ask ch q) = rw (waiting_alike ch)
  owed_alike (Grant ch) = rw (opened_alike ch, own_alike ch)
  owed_alike (Put p w s l) = rw (opened_alike Write) (put_alike (opened Write k) p s l)
  owed_alike Take = rw (opened_alike Read) (take_alike (opened Read k))

-- an accepted act stays
acts_kept : (x : Event) (h : History) → accepted x.answer ≡ true → accepted_acts (x ∷ h) ≡ x ∷ accepted_acts h
unfolding accepted_acts
acts_kept x h e = rw e

-- a refused one goes
acts_dropped : (x : Event) (h : History) → accepted x.answer ≡ false → accepted_acts (x ∷ h) ≡ accepted_acts h
unfolding accepted_acts
acts_dropped x h e = rw e

-- a history is like the one without its refused acts
alike : (m : Board) (h : History) → Alike m h (accepted_acts h)
unfolding accepted_acts
alike m [] = record { tallies = refl; asked_same = λ ch. refl; ages = λ ch t. refl; picks = λ ch. refl; goes = λ ch. refl; holds = λ a. refl; worsts = refl }
alike m (x ∷ h) =
    ⊎_elim (λ t. rw (acts_kept x h t) (alike_both m h (accepted_acts h) (alike m h) x)) (λ f. rw (acts_dropped x h f) (alike_left m h (accepted_acts h) (alike m h) x f)) (cases_Bool (accepted x.answer))

-- which is a run too
run_alone : (m : Board) (h : History) → Run m h → Run m (accepted_acts h)
unfolding accepted_acts
run_alone m [] r = tt
run_alone m (x ∷ h) r =
    ⊎_elim (λ t. rw (acts_kept x h t) (r.0 ∙ owed_alike m h (accepted_acts h) (alike m h) x.act, run_alone m h r.1)) (λ f. rw (acts_dropped x h f) (run_alone m h r.1)) (cases_Bool (accepted x.answer))

-- refused acts are forgotten
pub forgets : (m : Board) (h : History) → Run m h → RefusedForgotten m h
forgets m h r = record { same = owed_alike m h (accepted_acts h) (alike m h); alone = run_alone m h r }
