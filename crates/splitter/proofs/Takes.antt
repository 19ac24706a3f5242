-- What a take answers and leaves.
use Rattle.std.proofs.Common.{◌≡◌, ℕ, ◌+◌, ◌<◌, ◌≤◌, true, cond, ltb, Option, Some, None, Ok, Err, Result, sym, refl, ap, ◌∙◌, subst, arith}
use Rattle.std.proofs.lemmas.Bool.Decides.{nat_tests}
use Rattle.burst.specs.declared.raw.RawBurst.{RawBurst}
use Rattle.burst.specs.Beats.{IsLawful, cover_of, raw_of}
use Rattle.slave.specs.declared.response.Response.{Response}
use Rattle.slave.specs.declared.fault.SlaveFault.{SlaveFault}
use Rattle.slave.specs.declared.fault.SlaveFault.TheVariants.{NotOpen}
use Rattle.slave.specs.declared.given.Given.{Given}
use Rattle.slave.specs.declared.given.Given.TheVariants.{More, Done}
use Rattle.slave.specs.declared.channels.Channels.{Channels}
use Rattle.slave.specs.declared.open_burst.OpenBurst.{OpenBurst}
use Rattle.slave.specs.declared.channels.Channel.TheVariants.{Read}
use Rattle.slave.specs.declared.channels.Step.TheVariants.{Beat}
use Rattle.slave.specs.Meaning.{Meaning, board, Stand, idle, busy, Sound, sound_stand, with_read, told}
use Rattle.slave.specs.Lanes.{worse, read_word, read_worst}
use Rattle.slave.specs.Acts.{past, left, take_answer, take_after, given_left, took_answer, step_answer, step_place}
use Rattle.slave.proofs.Calls.{take_taken, open_lawful, open_left}
use Rattle.splitter.specs.Runs.{run_of, beat_in}
use Rattle.splitter.specs.Fits.{stand_below}
use Rattle.splitter.specs.Shows.{split_shows, splits}
use Rattle.splitter.specs.Follows.{follow_after}
use Rattle.splitter.proofs.Walks.{run_cover}
use Rattle.splitter.proofs.Places.{stand_at_beat, Fitting, with_stand, goes_on}
use Rattle.splitter.proofs.Opens.{Holds, Leaves, leaves_by, beat_sound}

-- a take where no read is open
take_none : (m : Meaning) → m.live ≡ true → m.read ≡ idle → take_answer m ≡ Err NotOpen
take_none m l e = cc

left_is : (b : RawBurst) (j : ℕ) (v : Response) → given_left (cond (ltb (j + 1) b.count) (More (left b j)) (Done v)) ≡ left b j
left_is b j v = grind (arith, nat_tests)

triple : (p q : ℕ × Response) (l k : ℕ) → p ≡ q → l ≡ k → ◌≡◌ {A = Result (ℕ × Response × ℕ) SlaveFault} (Ok (p.0, p.1, l)) (Ok (q.0, q.1, k))
triple p q l k e f = ap (λ x. Ok (x.0, x.1, l)) e ∙ ap (λ y. Ok (q.0, q.1, y)) f

-- taking beat j
module _ (M : ℕ) (w : Stand) (kept : Response) (b : RawBurst) (j : ℕ) (m : Meaning) (sound : Sound m) (law8 : IsLawful 8 b)
    (live : m.live ≡ true) (some : 0 < M) (stand : m.read ≡ stand_below M (busy b j)) (opens : sound_stand m.width (busy b j) ≡ true) where
  abbrev run : RawBurst
  run = run_of M b j

  abbrev i : ℕ
  i = beat_in M b j

  abbrev here : j < b.count
  here = open_left m.width (busy b j) b j opens refl

  taken : (take_answer m ≡ Ok (took_answer m run i)) × (take_after m ≡ with_read (past run i) m)
  taken = take_taken m run i live (stand ∙ stand_at_beat M b j some here)

  answers : (word : ℕ) (resp : Response) (lf : ℕ) (v y : Response) → Ok (word, resp, lf) ≡ take_answer m → (given : Given) → Ok given ≡ step_answer (busy b j) v (Beat y)
      → Ok (word, resp, given_left given) ≡ take_answer (split_shows w kept (busy b j) m)
  answers word resp lf v y h given s =
      let e = h ∙ taken.0 in
      let parts : ◌≡◌ {A = ℕ × Response × ℕ} (word, resp, lf) (took_answer m run i) = cc in
      let given_is : given ≡ cond (ltb (j + 1) b.count) (More (left b j)) (Done (worse v y)) = cc in
      let last : given_left given ≡ left b j = ap given_left given_is ∙ left_is b j (worse v y) in
      let shown : ◌≡◌ {A = ℕ × Response} (word, resp) (read_word (board m) m.width (cover_of b j), read_worst (board m) m.width (cover_of b j)) =
      subst (λ k. ◌≡◌ {A = ℕ × Response} (word, resp) (read_word (board m) m.width k, read_worst (board m) m.width k)) (run_cover M b j law8 some here) (ap (λ x. (x.0, x.1)) parts) in
      triple (word, resp) (read_word (board m) m.width (cover_of b j), read_worst (board m) m.width (cover_of b j)) (given_left given) (left b j) shown last

  follows : M ≤ m.most → follow_after M Read (past b j) (take_after m) ≡ with_stand Read (stand_below M (past b j)) (with_read (past run i) m)
  follows most =
      ap (follow_after M Read (past b j)) taken.1
      ∙ goes_on M Read b j (with_read (past run i) m) law8 some most here live sound.quiet refl (open_lawful m.width (busy b j) b j opens refl)

-- a take at any place
module _ {M W : ℕ} {c : Channels} {m : Meaning} (own : Holds M W c m) where
  abbrev f : Fitting M c m
  f = own.fits

  abbrev sound : Sound m
  sound = own.sound

  abbrev w : Stand
  w = told c.write.place

  abbrev kept : Response
  kept = c.write.worst

  lawful : sound_stand m.width (told c.read.place) ≡ true
  lawful = subst (λ n. sound_stand n (told c.read.place) ≡ true) own.wide (own.opens Read)

  -- what is refused below would be here
  pub took_refused : (e : SlaveFault) → Err e ≡ take_answer m → Err e ≡ take_answer (splits c m)
  took_refused e h = by c.read.place (f.stand Read) lawful
    where
      by : (p : Option OpenBurst) → m.read ≡ stand_below M (told p) → sound_stand m.width (told p) ≡ true → Err e ≡ take_answer (split_shows w kept (told p) m)
      by None q o = h ∙ take_none m f.live q ∙ sym (take_none (split_shows w kept idle m) refl refl)
      by (Some x) q o = let e = h ∙ (taken M w kept (raw_of x.burst) x.taken m sound x.burst.lawful f.live f.some q o).0 in cc

  module _ (word : ℕ) (resp : Response) (lf : ℕ) (v y : Response) (h : Ok (word, resp, lf) ≡ take_answer m) where
    -- where the slave below takes it, a read is open here
    pub took_open : (e : SlaveFault) → Err e ≡ step_answer (told c.read.place) v (Beat y) → ⊥
    took_open e s = by c.read.place (f.stand Read) s
      where
        by : (p : Option OpenBurst) → m.read ≡ stand_below M (told p) → Err e ≡ step_answer (told p) v (Beat y) → ⊥
        by None q s = let e = h ∙ take_none m f.live q in cc
        by (Some o) q s = cc

    -- what is taken below is taken here: d is the record after the beat, over the slave below n
    pub took : (d : Channels) → told d.read.place ≡ step_place (told c.read.place) (Beat y) → d.write ≡ c.write → (n : Meaning) → n ≡ follow_after M Read (told d.read.place) (take_after m)
        → ((given : Given) → Ok given ≡ step_answer (told c.read.place) v (Beat y) → Ok (word, resp, given_left given) ≡ take_answer (splits c m))
        × Leaves M W Read d (take_after m) n (take_after (splits c m))
    took d place same n e = by c.read.place (f.stand Read) lawful place
      where
        after : sound_stand W (told d.read.place) ≡ true
        after = ap (sound_stand W) place ∙ beat_sound W (told c.read.place) y (own.opens Read)

        by : (p : Option OpenBurst) → m.read ≡ stand_below M (told p) → sound_stand m.width (told p) ≡ true → told d.read.place ≡ step_place (told p) (Beat y)
            → ((given : Given) → Ok given ≡ step_answer (told p) v (Beat y) → Ok (word, resp, given_left given) ≡ take_answer (split_shows w kept (told p) m))
            × Leaves M W Read d (take_after m) n (take_after (split_shows w kept (told p) m))
        by None q o place = let e = h ∙ take_none m f.live q in cc
        by (Some t) q o place =
            let b = raw_of t.burst in
            let j = t.taken in
            let x : Meaning = split_shows w kept (busy b j) m in
            let z : Meaning = with_read (past (run_of M b j) (beat_in M b j)) m in (
              answers M w kept b j m sound t.burst.lawful f.live f.some q o word resp lf v y h,
              leaves_by own Read d (take_after m) n (take_after x) z after same refl refl refl refl e
                  (ap (λ u. follow_after M Read u (take_after m)) place ∙ follows M w kept b j m sound t.burst.lawful f.live f.some q o f.most
                  ∙ ap (λ u. with_stand Read (stand_below M u) z) (sym place))
                  (ap (λ u. split_shows (told u.place) u.worst (told d.read.place) m) same ∙ ap (λ u. split_shows w kept u m) place ∙ sym (take_taken x b j refl refl).1),
            )
