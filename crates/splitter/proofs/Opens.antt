-- What a step leaves, and what an open leaves.
use Rattle.std.proofs.Common.{◌≡◌, ℕ, true, cond, Option, Some, None, is_some, Err, arith, refl, sym, ◌∙◌, ap, subst}
use Rattle.std.proofs.lemmas.Bool.{true≢false}
use Rattle.std.proofs.lemmas.Bool.Decides.{nat_tests}
use Rattle.std.proofs.Math.Bool.{Bool-set}
use Rattle.std.proofs.Props.{props}
use mathlib.Core.HLevel.{is_prop→PathP}
use Rattle.burst.specs.Rules.{width_bytes}
use Rattle.burst.specs.declared.raw.RawBurst.{RawBurst}
use Rattle.burst.specs.declared.burst.Burst.{Burst}
use Rattle.burst.specs.Beats.{IsLawful, raw_of}
use Rattle.burst.proofs.Facts.{facts}
use Rattle.slave.specs.declared.response.Response.{Response}
use Rattle.slave.specs.declared.response.Response.TheVariants.{Okay}
use Rattle.slave.specs.declared.channels.Channel.{Channel}
use Rattle.slave.specs.declared.channels.Channel.TheVariants.{Write, Read}
use Rattle.slave.specs.declared.channels.Channels.{Channels}
use Rattle.slave.specs.declared.channels.Step.TheVariants.{Open, Beat}
use Rattle.slave.specs.Channels.{state_at, other}
use Rattle.slave.specs.Meaning.{Meaning, Stand, idle, busy, Sound, sound_stand, with_write, stand_at, is_idle, told}
use Rattle.slave.specs.Lanes.{worse}
use Rattle.slave.specs.declared.open_burst.OpenBurst.{OpenBurst}
use Rattle.slave.specs.declared.fault.SlaveFault.TheVariants.{AlreadyOpen, Dead}
use Rattle.slave.specs.Acts.{on_ok, admission, open_after, opened, step_place, step_worst}
use Rattle.slave.proofs.Calls.{idle_is}
use Rattle.slave.proofs.Soundness.{past_sound}
use Rattle.splitter.specs.declared.splitter.Splitter.{Splitter}
use Rattle.splitter.specs.Fits.{stand_below, stands}
use Rattle.splitter.specs.Shows.{split_shows, splits}
use Rattle.splitter.specs.Follows.{follow_after}
use Rattle.splitter.proofs.Walks.{run_base}
use Rattle.splitter.proofs.Places.{Fitting, fitting, with_stand, fits_with_stand, starts, stays}

-- the splitter's own place on a channel
pub stand_is : (c : Channels) (m : Meaning) (ch : Channel) → stand_at (splits c m) ch ≡ told (state_at ch c).place
stand_is c m Write = refl
stand_is c m Read = refl

-- what holds of a splitter by its number, its width in bytes, its record and what the slave below shows
pub record Holds (M w : ℕ) (c : Channels) (m : Meaning) : Type 0 where
  pub sound : Sound m
  pub fits : Fitting M c m
  pub wide : w ≡ m.width
  pub opens : (i : Channel) → sound_stand w (told (state_at i c).place) ≡ true

pub holds_of : {S : Type 0} {g : _} (x : Splitter S g) → Sound (g.meaning x.below) → Holds x.number (width_bytes x.width) x.channels (g.meaning x.below)
holds_of {g = g} x s = record { sound = s; fits = fitting x.number x.channels (g.meaning x.below) x.placed; wide = x.wide; opens = x.opens }

-- what a step on a channel leaves: the record d over the slave below n, which followed from k, shows x
pub record Leaves (M w : ℕ) (ch : Channel) (d : Channels) (k n x : Meaning) : Type 0 where
  pub shown : splits d n ≡ x
  pub placed : stands M d n ≡ true
  pub wide : w ≡ n.width
  pub opens : (i : Channel) → sound_stand w (told (state_at i d).place) ≡ true
  pub below : n ≡ follow_after M ch (stand_at x ch) k

-- every channel is lawful after a step on one
still_opens : (w : ℕ) (c d : Channels) (ch : Channel) → ((k : Channel) → sound_stand w (told (state_at k c).place) ≡ true)
    → sound_stand w (told (state_at ch d).place) ≡ true → state_at (other ch) d ≡ state_at (other ch) c → (k : Channel) → sound_stand w (told (state_at k d).place) ≡ true
still_opens w c d Write h s e Write = s
still_opens w c d Write h s e Read = ap (λ x. sound_stand w (told x.place)) e ∙ h Read
still_opens w c d Read h s e Write = ap (λ x. sound_stand w (told x.place)) e ∙ h Write
still_opens w c d Read h s e Read = s

pub beat_sound : (w : ℕ) (p : Stand) (x : Response) → sound_stand w p ≡ true → sound_stand w (step_place p (Beat x)) ≡ true
beat_sound w idle x h = refl
beat_sound w (busy b k) x h = past_sound w b k h

pub begin_sound : (w : ℕ) (b : Burst) → IsLawful w (raw_of b) → sound_stand w (busy (raw_of b) 0) ≡ true
begin_sound w b law =
    let some = (facts (raw_of b).kind (raw_of b).start (raw_of b).size (raw_of b).count b.lawful).low in
    grind (arith, nat_tests)

with_stand_width : (ch : Channel) (q : Stand) (m : Meaning) → (with_stand ch q m).width ≡ m.width
with_stand_width Write q m = refl
with_stand_width Read q m = refl

-- c is the record before over m; z is k with the channel still where its own step left it
pub leaves_by : {M w : ℕ} {c : Channels} {m : Meaning} (s : Holds M w c m) (ch : Channel) (d : Channels) (k n x z : Meaning) → sound_stand w (told (state_at ch d).place) ≡ true
    → state_at (other ch) d ≡ state_at (other ch) c → z.live ≡ m.live → z.most ≡ m.most → z.width ≡ m.width → stand_at z (other ch) ≡ stand_at m (other ch)
    → n ≡ follow_after M ch (told (state_at ch d).place) k → follow_after M ch (told (state_at ch d).place) k ≡ with_stand ch (stand_below M (told (state_at ch d).place)) z
    → splits d (with_stand ch (stand_below M (told (state_at ch d).place)) z) ≡ x → Leaves M w ch d k n x
leaves_by {M = M} {w = w} {c = c} {m = m} s ch d k n x z sound same live most width stays e go shows =
    let q : Stand = stand_below M (told (state_at ch d).place) in
    let shown = ap (splits d) (e ∙ go) ∙ shows in
    record {
      shown = shown;
      placed = ap (stands M d) (e ∙ go) ∙ fits_with_stand M ch c d m z s.fits live most stays same;
      wide = s.wide ∙ sym (ap (λ y. y.width) (e ∙ go) ∙ with_stand_width ch q z ∙ width);
      opens = still_opens w c d ch s.opens sound same;
      below = e ∙ ap (λ p. follow_after M ch p k) (sym (stand_is d n ch) ∙ ap (λ y. stand_at y ch) shown);
    }

-- opening a burst at an idle channel: c is the record before, and d after
module _ {M w : ℕ} {c : Channels} {m : Meaning} (s : Holds M w c m) (d : Channels) (n : Meaning) (b : Burst) where
  shows_opened : (ch : Channel) (q : Stand) → is_idle (stand_at m ch) ≡ true → told (state_at ch d).place ≡ busy (raw_of b) 0 → (state_at ch d).worst ≡ step_worst idle (state_at ch c).worst (Open b)
      → state_at (other ch) d ≡ state_at (other ch) c → splits d (with_stand ch q m) ≡ opened ch (raw_of b) (splits c m)
  shows_opened Write q free place none same =
      ap (λ p. split_shows p d.write.worst (told d.read.place) m) place ∙ ap (λ k. split_shows (busy (raw_of b) 0) k (told d.read.place) m) none
      ∙ ap (λ s. split_shows (busy (raw_of b) 0) Okay (told s.place) m) same ∙ ap (λ x. with_write (busy (raw_of b) 0) (worse Okay x) m.bytes (splits c m)) (s.sound.quiet free)
  shows_opened Read q free place none same =
      ap (λ s. split_shows (told s.place) s.worst (told d.read.place) m) same ∙ ap (λ p. split_shows (told c.write.place) c.write.worst p m) place

  -- the slave below follows to the first run
  pub begins : (ch : Channel) → is_idle (stand_at (splits c m) ch) ≡ true → IsLawful m.width (raw_of b)
      → told (state_at ch d).place ≡ step_place (told (state_at ch c).place) (Open b)
      → (state_at ch d).worst ≡ step_worst (told (state_at ch c).place) (state_at ch c).worst (Open b) → state_at (other ch) d ≡ state_at (other ch) c
      → n ≡ follow_after M ch (told (state_at ch d).place) m → Leaves M w ch d m n (opened ch (raw_of b) (splits c m))
  begins ch free law place worst same e =
      let f = s.fits in
      let own : told (state_at ch c).place ≡ idle = sym (stand_is c m ch) ∙ idle_is (stand_at (splits c m) ch) free in
      let at : told (state_at ch d).place ≡ busy (raw_of b) 0 = place ∙ ap (λ p. step_place p (Open b)) own in
      let some = (facts (raw_of b).kind (raw_of b).start (raw_of b).size (raw_of b).count b.lawful).low in
      let free_below : stand_at m ch ≡ idle = f.stand ch ∙ ap (stand_below M) own in
      let p : Stand = told (state_at ch d).place in
      leaves_by s ch d m n (opened ch (raw_of b) (splits c m)) m
      (ap (sound_stand w) at ∙ begin_sound w b (subst (λ i. IsLawful i (raw_of b)) (sym s.wide) law)) same refl refl refl refl e
      (ap (λ q. follow_after M ch q m) at
      ∙ starts M ch (raw_of b) 0 m b.lawful f.some f.most some (omega (arith, run_base M (raw_of b) 0 b.lawful f.some some)) f.live s.sound.quiet free_below law
      ∙ ap (λ q. with_stand ch (stand_below M q) m) (sym at))
      (shows_opened ch (stand_below M p) (ap is_idle free_below) at (worst ∙ ap (λ q. step_worst q (state_at ch c).worst (Open b)) own) same)

-- a refused call leaves the slave below where it stands
pub stays_at : {M w : ℕ} {c : Channels} {m : Meaning} → Holds M w c m → (ch : Channel) (n x : Meaning) → x ≡ splits c m → n ≡ m → m ≡ follow_after M ch (stand_at x ch) n
stays_at {M = M} {c = c} {m = m} s ch n x own same =
    sym (ap (λ y. follow_after M ch (stand_at y ch) n) own ∙ ap (λ p. follow_after M ch p n) (stand_is c m ch) ∙ ap (follow_after M ch (told (state_at ch c).place)) same
    ∙ stays M ch (told (state_at ch c).place) m (s.fits.stand ch))

-- an open at a busy channel
pub open_busy : (m : Meaning) (ch : Channel) (b : RawBurst) (p : Option OpenBurst) → m.live ≡ true → told p ≡ stand_at m ch → is_some p ≡ true → open_after m ch b ≡ m
open_busy m ch b None l e s = absurd (true≢false (sym s))
open_busy m ch b (Some o) l e s =
    ap (λ t. on_ok (cond t (cond (is_idle (stand_at m ch)) (admission m.width m.most m.full b) (Err AlreadyOpen)) (Err Dead)) m (λ _. opened ch b m)) l
    ∙ ap (λ q. on_ok (cond (is_idle q) (admission m.width m.most m.full b) (Err AlreadyOpen)) m (λ _. opened ch b m)) (sym e)

-- splitters with the same parts are the same
pub splitter_same : {S : Type 0} {g : _} (p q : Splitter S g) → p.below ≡ q.below → p.number ≡ q.number → p.width ≡ q.width → p.channels ≡ q.channels → p ≡ q
splitter_same {g = g} p q e n w c = λ i. record {
  below = e i;
  number = n i;
  width = w i;
  channels = c i;
  placed = is_prop→PathP (λ j. stands (n j) (c j) (g.meaning (e j)) ≡ true) (λ j. Bool-set (stands (n j) (c j) (g.meaning (e j))) true) p.placed q.placed i;
  wide = is_prop→PathP (λ j. width_bytes (w j) ≡ (g.meaning (e j)).width) (λ j. hlevel props) p.wide q.wide i;
  opens = is_prop→PathP (λ j. (ch : Channel) → sound_stand (width_bytes (w j)) (told (state_at ch (c j)).place) ≡ true) (λ j. hlevel props) p.opens q.opens i;
}
