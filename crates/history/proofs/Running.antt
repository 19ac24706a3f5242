-- Whole runs: how they begin, and what a list of acts leaves.
use Rattle.std.proofs.Common.{is_ok, ⊎_elim, false, ◌≡◌, ℕ, ◌+◌, ◌<◌, ◌≤◌, true, cond, ◌&&◌, eqb, List, [], ◌∷◌, ◌++◌, length, get_or, take, drop, OnOk, Ok, Err, Result, sym, refl, ap, ◌∙◌, subst, arith, take-append-drop, drop-set-lt}
use Rattle.std.proofs.lemmas.Bool.{true≢false, cases_Bool, eqb-true, and_parts, cond-true, cond_both}
use Rattle.slave.specs.declared.channels.Channel.{Channel}
use Rattle.slave.specs.declared.channels.Channel.TheVariants.{Write, Read}
use Rattle.fabric.specs.declared.types.Act.{Act}
use Rattle.fabric.specs.declared.types.Answer.{Answer}
use Rattle.fabric.specs.declared.types.FabricFault.{FabricFault}
use Rattle.slave.specs.Meaning.{Meaning, is_idle, Board, board}
use Rattle.fabric.specs.Channels.{Channels}
use Rattle.history.specs.Tracks.{queue_after, slave_after}
use Rattle.std.proofs.lemmas.List.{take_all, take_more, take_more_set, length-take-le}
use Rattle.std.proofs.lemmas.Grind.{drop_more_same}
use Rattle.slave.specs.Meaning.{Sound}
use Rattle.slave.specs.Making.{ready}
use Rattle.slave.proofs.Calls.{idle_is}
use Rattle.history.specs.declared.runs.RunFault.{RunFault}
use Rattle.history.specs.declared.runs.RunFault.TheVariants.{Below}
use Rattle.fabric.specs.Channels.{no_channels, no_requests}
use Rattle.fabric.specs.Acts.{fits_below, create_answer}
use Rattle.history.specs.History.{History, requests, picked, unpicked, waiting, current, opened}
use Rattle.history.specs.Bytes.{stored, worst}
use Rattle.history.specs.Owed.{Run}
use Rattle.history.specs.Tracks.{Tracks, Extends}
use Rattle.history.specs.Runs.{history_from, history_of, answers_from, answers_of, begin_answer, Performed}
use Rattle.history.proofs.Whole.{runs_hold}
use Rattle.history.proofs.Quiet.{event}

-- an empty history leaves empty channels
queue_empty : (ch : Channel) → queue_after ch [] ≡ no_requests
unfolding queue_after waiting unpicked picked requests opened current
queue_empty ch = refl

-- a slave that a fabric may stand over shows what an empty history says
slave_begins : (n : Meaning) → Sound n → fits_below n ≡ true → n ≡ slave_after (board n) []
unfolding opened current stored worst
slave_begins n s e =
    let p = and_parts (ready n) (n.full && eqb n.width 8) e in
    let r = and_parts n.live (is_idle n.write && is_idle n.read) p.0 in
    let i = and_parts (is_idle n.write) (is_idle n.read) r.1 in
    let f = and_parts n.full (eqb n.width 8) p.1 in
    rw (r.0, eqb-true n.width 8 f.1, s.whole f.0, f.0, idle_is n.write i.0, s.quiet i.0, idle_is n.read i.1)

-- where the fabric is emptied over such a slave, a run begins
pub begins : (n : Meaning) → Sound n → (c c' : Channels) → c' ≡ cond (fits_below n) no_channels c → (r : Result (Unit {0}) RunFault) → r ≡ begin_answer n → OnOk r (Tracks (board n) [] c' n)
begins n s c c' y r x =
    rw x
    (cond_both (fits_below n) (Ok tt) (Err Below) (λ t. OnOk t (Tracks (board n) [] c' n))
    (λ e. record {
      small = s.small;
      run = tt;
      fabric = y ∙ cond-true (fits_below n) no_channels c e ∙ sym (ap (λ q. record { write = q; read = queue_after Read [] }) (queue_empty Write) ∙ ap (λ q. record { write = no_requests; read = q }) (queue_empty Read));
      slave = slave_begins n s e;
    })
    (λ _. tt))

-- a run that does not begin was refused for its slave
pub unfit : (n : Meaning) (r : Result (Unit {0}) FabricFault) → r ≡ create_answer n → is_ok r ≡ false → fits_below n ≡ false
unfit n r e f =
    ⊎_elim (λ t. absurd (true≢false (sym (ap is_ok (e ∙ cond-true (fits_below n) _ _ t)) ∙ f))) (λ no. no) (cases_Bool (fits_below n))

-- one act more
history_push : (h : History) (acts : List Act) (rs : List (Result Answer FabricFault)) (a : Act) (r : Result Answer FabricFault) → length acts ≡ length rs
    → history_from h (acts ++ a ∷ []) (rs ++ r ∷ []) ≡ event a r ∷ history_from h acts rs
history_push h [] [] a r e = refl
history_push h [] (s ∷ rs) a r e = absurd (omega arith)
history_push h (b ∷ acts) [] a r e = absurd (omega arith)
history_push h (b ∷ acts) (s ∷ rs) a r e = history_push (event b s ∷ h) acts rs a r (omega arith)

-- the first i acts are performed over a slave with the bytes and kinds m at the creation: they are a run, and the answers behind theirs stay
pub record PerformedTo (m : Board) (acts : List Act) (before : List (Result Answer FabricFault)) (i : ℕ) (after : List (Result Answer FabricFault)) (c : Channels) (s : Meaning) : Type 0 where
  pub run : Tracks m (history_of (take i acts) (take i after)) c s
  pub rest : drop i after ≡ drop i before

-- so are they with one act more
pub performed_more : (m : Board) (acts : List Act) (before : List (Result Answer FabricFault)) (i : ℕ) (after : List (Result Answer FabricFault)) (c : Channels) (s : Meaning)
    (d : Act) (r : Result Answer FabricFault) (c' : Channels) (s' : Meaning)
    → PerformedTo m acts before i after c s → Extends c s (get_or acts i d) r c' s' → i < length acts → i < length after
    → PerformedTo m acts before (i + 1) (lib.ListN.set after i r) c' s'
performed_more m acts before i after c s d r c' s' p x l k = record {
  run = subst (λ (h : History). Tracks m h c' s')
      (sym (ap (λ xs. history_of xs (take (i + 1) (lib.ListN.set after i r))) (take_more acts i d l)
      ∙ ap (history_of (take i acts ++ get_or acts i d ∷ [])) (take_more_set after i r k)
      ∙ history_push [] (take i acts) (take i after) (get_or acts i d) r (length-take-le i acts (omega arith) ∙ sym (length-take-le i after (omega arith)))))
      (x.run m (history_of (take i acts) (take i after)) p.run);
  rest = drop-set-lt (i + 1) after i r (omega arith) ∙ drop_more_same after before i p.rest;
}

-- the history before the acts is a run too
before_runs : (m : Board) (h : History) (acts : List Act) (rs : List (Result Answer FabricFault)) → Run m (history_from h acts rs) → Run m h
before_runs m h [] rs r = r
before_runs m h (a ∷ acts) [] r = r
before_runs m h (a ∷ acts) (x ∷ rs) r = (before_runs m (event a x ∷ h) acts rs r).1

-- there is only one run with these acts
answers_are : (m : Board) (h : History) (acts : List Act) (rs : List (Result Answer FabricFault)) → length rs ≡ length acts → Run m (history_from h acts rs) → rs ≡ answers_from m h acts
answers_are m h [] [] e r = refl
answers_are m h [] (x ∷ rs) e r = absurd (omega arith)
answers_are m h (a ∷ acts) [] e r = absurd (omega arith)
answers_are m h (a ∷ acts) (x ∷ rs) e r =
    ap (λ ys. x ∷ ys) (answers_are m (event a x ∷ h) acts rs (omega arith) r)
    ∙ ap (λ v. v ∷ answers_from m (event a v ∷ h) acts) (before_runs m (event a x ∷ h) acts rs r).0

-- what is left when every act was performed
pub performed : (m : Board) (acts : List Act) (before : List (Result Answer FabricFault)) (i : ℕ) (after : List (Result Answer FabricFault)) (c : Channels) (s : Meaning)
    → PerformedTo m acts before i after c s → i ≡ length acts → length acts ≤ length after → Performed m acts before after c s
unfolding answers_of
performed m acts before i after c s p e l = record {
  answers = sym (take-append-drop (length acts) after)
      ∙ ap (λ xs. xs ++ drop (length acts) after) (answers_are m [] acts (take (length acts) after) (length-take-le (length acts) after l) t.run)
      ∙ ap (λ xs. answers_from m [] acts ++ xs) (subst (λ (k : ℕ). drop k after ≡ drop k before) e p.rest);
  run = t;
  law = runs_hold m t.small (history_of acts (take (length acts) after)) t.run;
}
  where
    t : Tracks m (history_of acts (take (length acts) after)) c s
    t = subst (λ (xs : List Act). Tracks m (history_of xs (take (length acts) after)) c s) (take_all (length acts) acts (omega arith))
        (subst (λ (k : ℕ). Tracks m (history_of (take k acts) (take k after)) c s) e p.run)
