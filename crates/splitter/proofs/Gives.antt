-- What a give answers and leaves.
use Rattle.std.proofs.Common.{◌≡◌, ℕ, ◌+◌, ◌<◌, ◌≤◌, Bool, true, false, cond, ltb, Option, Some, None, Ok, Err, is_ok, sym, refl, ap, ◌∙◌, subst, ⊎_elim}
use Rattle.std.proofs.lemmas.Bool.{cases_Bool, le-ltb, ltb-false}
use Rattle.burst.specs.declared.raw.RawBurst.{RawBurst}
use Rattle.burst.specs.declared.cover.Cover.{Cover}
use Rattle.burst.specs.Beats.{IsLawful, address_of, last_of, cover_of, raw_of}
use Rattle.slave.specs.declared.response.Response.{Response}
use Rattle.slave.specs.declared.response.Response.TheVariants.{Okay}
use Rattle.slave.specs.declared.fault.SlaveFault.{SlaveFault}
use Rattle.slave.specs.declared.fault.SlaveFault.TheVariants.{NotOpen}
use Rattle.slave.specs.declared.given.Given.{Given}
use Rattle.slave.specs.declared.given.Given.TheVariants.{More, Done}
use Rattle.slave.specs.declared.channels.Channels.{Channels}
use Rattle.slave.specs.declared.open_burst.OpenBurst.{OpenBurst}
use Rattle.slave.specs.declared.channels.Channel.TheVariants.{Write}
use Rattle.slave.specs.declared.channels.Step.TheVariants.{Beat}
use Rattle.slave.specs.Channels.{worst_at}
use Rattle.slave.specs.Meaning.{Meaning, board, Stand, idle, busy, Sound, sound_stand, with_write, told}
use Rattle.slave.specs.Lanes.{worse, stray, written, write_worst}
use Rattle.slave.specs.Acts.{past, left, give_answer, give_after, given_response, gave_answer, gave_after, step_answer, step_place, step_worst}
use Rattle.slave.proofs.Calls.{give_stray, give_taken, open_lawful, open_left}
use Rattle.slave.proofs.Soundness.{gave_sound}
use Rattle.slave.proofs.Worst.{worse_assoc, worse_left}
use Rattle.splitter.specs.Runs.{run_of, beat_in}
use Rattle.splitter.specs.Fits.{stand_below}
use Rattle.splitter.specs.Shows.{split_shows, splits}
use Rattle.splitter.specs.Follows.{follow_after}
use Rattle.splitter.proofs.Walks.{run_cover, next_none}
use Rattle.splitter.proofs.Places.{stand_at_beat, Fitting, with_stand, Quiet, goes_on}
use Rattle.splitter.proofs.Opens.{Holds, Leaves, leaves_by, beat_sound}

-- a give where no write is open
give_none : (m : Meaning) (w s : ℕ) → m.live ≡ true → m.write ≡ idle → give_answer m w s ≡ Err NotOpen
give_none m w s l e = cc

-- the response of a beat below, by whether the run goes on
response_of : (t : Bool) (k : ℕ) (v : Response) → given_response (cond t (More k) (Done v)) ≡ cond t Okay v
response_of true k v = refl
response_of false k v = refl

-- the worst response shown is that of the runs that are over and of the open one, in either case
worst_joined : (t u : Bool) (b : RawBurst) (k : ℕ) (kept here v : Response)
    → worst_at (cond u (busy b k) idle) (worse (cond u (worse kept (cond t Okay (worse here v))) Okay) (cond t (worse here v) Okay)) ≡ cond u (worse (worse kept here) v) Okay
worst_joined true true b k kept here v = ap (λ x. worse x (worse here v)) (worse_left kept) ∙ worse_assoc kept here v
worst_joined false true b k kept here v = worse_left (worse kept (worse here v)) ∙ worse_assoc kept here v
worst_joined t false b k kept here v = refl

done_joined : (t u : Bool) (k : ℕ) (kept here v : Response) → (u ≡ false → t ≡ false)
    → cond u (More k) (Done (worse kept (cond t Okay (worse here v)))) ≡ cond u (More k) (Done (worse (worse kept here) v))
done_joined t true k kept here v h = refl
done_joined t false k kept here v h = ap (λ t. Done (worse kept (cond t Okay (worse here v)))) (h refl) ∙ ap Done (worse_assoc kept here v)

-- giving beat j
module _ (M : ℕ) (b : RawBurst) (j : ℕ) (kept : Response) (r : Stand) (m : Meaning) (w s : ℕ) (sound : Sound m) (law8 : IsLawful 8 b)
    (live : m.live ≡ true) (some : 0 < M) (stand : m.write ≡ stand_below M (busy b j)) (opens : sound_stand m.width (busy b j) ≡ true) where
  abbrev run : RawBurst
  run = run_of M b j

  abbrev i : ℕ
  i = beat_in M b j

  abbrev X : Meaning
  X = split_shows (busy b j) kept r m

  abbrev here : j < b.count
  here = open_left m.width (busy b j) b j opens refl

  abbrev at : m.write ≡ busy run i
  at = stand ∙ stand_at_beat M b j some here

  same : cover_of run i ≡ cover_of b j
  same = run_cover M b j law8 some here

  abbrev out : Bool
  out = stray m.width (address_of b j) (last_of b j) s

  same_stray : stray m.width (address_of run i) (last_of run i) s ≡ out
  same_stray = ap (λ k. stray m.width k.first k.last s) same

  -- the strobe is refused below as it would be here
  give_strays : out ≡ true → give_answer m w s ≡ give_answer X w s
  give_strays t = (give_stray m run i w s live at (same_stray ∙ t)).0 ∙ sym (give_stray X b j w s refl refl t).0

  -- the run goes on
  abbrev on : Bool
  on = ltb (i + 1) run.count

  -- the burst goes on
  abbrev more : Bool
  more = ltb (j + 1) b.count

  abbrev v : Response
  v = write_worst (board m) m.width (cover_of b j) s

  -- the slave below after the beat, by the bytes that it covers
  abbrev gone : Cover → Meaning
  gone k = with_write (past run i) (cond on (worse m.worst (write_worst (board m) m.width k s)) Okay) (written (board m) m.width k w s) m

  abbrev n : Meaning
  n = gone (cover_of b j)

  module _ (t : out ≡ false) where
    taken : (give_answer m w s ≡ Ok (gave_answer m run i s)) × (give_after m w s ≡ gave_after m run i w s)
    taken = give_taken m run i w s live at (same_stray ∙ t)

    below_answer : give_answer m w s ≡ Ok (cond on (More (left run i)) (Done (worse m.worst v)))
    below_answer = taken.0 ∙ ap (λ k. Ok (cond on (More (left run i)) (Done (worse m.worst (write_worst (board m) m.width k s))))) same

    below_after : give_after m w s ≡ n
    below_after = taken.1 ∙ ap gone same

    quiet_after : Quiet n
    quiet_after = subst Quiet (ap gone same) (gave_sound m run i w s sound live at).quiet

    own : (give_answer X w s ≡ Ok (gave_answer X b j s)) × (give_after X w s ≡ gave_after X b j w s)
    own = give_taken X b j w s refl refl t

    over : more ≡ false → on ≡ false
    over e = le-ltb (i + 1) run.count (next_none M b j law8 some here (ltb-false (j + 1) b.count e))

    module _ (most : M ≤ m.most) (given : Given) (h : Ok given ≡ give_answer m w s) where
      response : given_response given ≡ cond on Okay (worse m.worst v)
      response =
          let e = h ∙ below_answer in
          let is : given ≡ cond on (More (left run i)) (Done (worse m.worst v)) = cc in
          ap given_response is ∙ response_of on (left run i) (worse m.worst v)

      pub answers : step_answer (busy b j) kept (Beat (given_response given)) ≡ give_answer X w s
      answers =
          ap (λ x. step_answer (busy b j) kept (Beat x)) response ∙ ap Ok (done_joined on more (left b j) kept m.worst v over) ∙ sym own.0

      pub follows : follow_after M Write (past b j) (give_after m w s) ≡ with_stand Write (stand_below M (past b j)) n
      follows =
          ap (follow_after M Write (past b j)) below_after
          ∙ goes_on M Write b j n law8 some most here live quiet_after refl (open_lawful m.width (busy b j) b j opens refl)

      pub shown : (q : Stand) → split_shows (past b j) (step_worst (busy b j) kept (Beat (given_response given))) r (with_stand Write q n) ≡ give_after X w s
      shown q =
          ap (λ x. split_shows (past b j) (step_worst (busy b j) kept (Beat x)) r (with_stand Write q n)) response
          ∙ ap (λ x. with_write (past b j) x (written (board m) m.width (cover_of b j) w s) X) (worst_joined on more b (j + 1) kept m.worst v) ∙ sym own.1

-- a give at any place
module _ {M W : ℕ} {c : Channels} {m : Meaning} (own : Holds M W c m) (w s : ℕ) where
  abbrev f : Fitting M c m
  f = own.fits

  abbrev sound : Sound m
  sound = own.sound

  abbrev kept : Response
  kept = c.write.worst

  abbrev r : Stand
  r = told c.read.place

  lawful : sound_stand m.width (told c.write.place) ≡ true
  lawful = subst (λ n. sound_stand n (told c.write.place) ≡ true) own.wide (own.opens Write)

  -- what is refused below would be here
  pub gave_refused : (e : SlaveFault) → Err e ≡ give_answer m w s → Err e ≡ give_answer (splits c m) w s
  gave_refused e h = by c.write.place (f.stand Write) lawful
    where
      by : (p : Option OpenBurst) → m.write ≡ stand_below M (told p) → sound_stand m.width (told p) ≡ true → Err e ≡ give_answer (split_shows (told p) kept r m) w s
      by None q o = h ∙ give_none m w s f.live q ∙ sym (give_none (split_shows idle kept r m) w s refl refl)
      by (Some x) q o =
          let b = raw_of x.burst in
          ⊎_elim
          (λ t. h ∙ give_strays M b x.taken kept r m w s sound x.burst.lawful f.live f.some q o t)
          (λ t. let e = h ∙ below_answer M b x.taken kept r m w s sound x.burst.lawful f.live f.some q o t in cc)
          (cases_Bool (stray m.width (address_of b x.taken) (last_of b x.taken) s))

  module _ (given : Given) (h : Ok given ≡ give_answer m w s) where
    -- a write is open where the slave below takes a beat
    pub gave_open : (x : Response) → is_ok (step_answer (told c.write.place) kept (Beat x)) ≡ true
    gave_open x = by c.write.place (f.stand Write)
      where
        by : (p : Option OpenBurst) → m.write ≡ stand_below M (told p) → is_ok (step_answer (told p) kept (Beat x)) ≡ true
        by None q = let e = h ∙ give_none m w s f.live q in cc
        by (Some o) q = refl

    -- what is taken below is taken here: d is the record after the beat, over the slave below n
    pub gave : (x : Response) → x ≡ given_response given → (d : Channels) → told d.write.place ≡ step_place (told c.write.place) (Beat x)
        → d.write.worst ≡ step_worst (told c.write.place) kept (Beat x) → d.read ≡ c.read
        → (n : Meaning) → n ≡ follow_after M Write (told d.write.place) (give_after m w s)
        → (step_answer (told c.write.place) kept (Beat x) ≡ give_answer (splits c m) w s)
        × Leaves M W Write d (give_after m w s) n (give_after (splits c m) w s)
    gave x is d place worst same n e = by c.write.place (f.stand Write) lawful place worst
      where
        after : sound_stand W (told d.write.place) ≡ true
        after = ap (sound_stand W) place ∙ beat_sound W (told c.write.place) x (own.opens Write)

        by : (p : Option OpenBurst) → m.write ≡ stand_below M (told p) → sound_stand m.width (told p) ≡ true → told d.write.place ≡ step_place (told p) (Beat x)
            → d.write.worst ≡ step_worst (told p) kept (Beat x)
            → (step_answer (told p) kept (Beat x) ≡ give_answer (split_shows (told p) kept r m) w s)
            × Leaves M W Write d (give_after m w s) n (give_after (split_shows (told p) kept r m) w s)
        by None q o place worst = let e = h ∙ give_none m w s f.live q in cc
        by (Some y) q o place worst =
            let b = raw_of y.burst in
            let j = y.taken in
            let X : Meaning = split_shows (busy b j) kept r m in
            ⊎_elim
            (λ t. let e = h ∙ give_strays M b j kept r m w s sound y.burst.lawful f.live f.some q o t ∙ (give_stray X b j w s refl refl t).0 in cc)
            (λ t. let z : Meaning = gone M b j kept r m w s sound y.burst.lawful f.live f.some q o (cover_of b j) in
            let p : Stand = stand_below M (told d.write.place) in (
              ap (λ v. step_answer (busy b j) kept (Beat v)) is ∙ answers M b j kept r m w s sound y.burst.lawful f.live f.some q o t f.most given h,
              leaves_by own Write d (give_after m w s) n (give_after X w s) z after same refl refl refl refl e
                  (ap (λ v. follow_after M Write v (give_after m w s)) place ∙ follows M b j kept r m w s sound y.burst.lawful f.live f.some q o t f.most given h
                  ∙ ap (λ v. with_stand Write (stand_below M v) z) (sym place))
                  (ap (λ v. split_shows v d.write.worst (told d.read.place) (with_stand Write p z)) place
                  ∙ ap (λ v. split_shows (past b j) v (told d.read.place) (with_stand Write p z)) (worst ∙ ap (λ v. step_worst (busy b j) kept (Beat v)) is)
                  ∙ ap (λ v. split_shows (past b j) (step_worst (busy b j) kept (Beat (given_response given))) (told v.place) (with_stand Write p z)) same
                  ∙ shown M b j kept r m w s sound y.burst.lawful f.live f.some q o t f.most given h p),
            ))
            (cases_Bool (stray m.width (address_of b j) (last_of b j) s))
