-- Every call keeps a slave sound.
use Rattle.std.proofs.Common.{◌≡◌, ℕ, ◌+◌, ◌*◌, ◌/◌, ◌%◌, ◌^◌, ◌<◌, Bool, true, false, cond, ◌&&◌, ltb, Ok, Err, sym, refl, ap, ◌∙◌, subst, ⊎_elim, arith}
use Rattle.std.proofs.lemmas.Bool.{cond_both, cond-false, cases_Bool, true≢false}
use Rattle.std.proofs.lemmas.Nat.{mod_below}
use Rattle.std.proofs.lemmas.Bool.Decides.{nat_tests}
use Rattle.burst.specs.declared.raw.RawBurst.{RawBurst}
use Rattle.burst.specs.Beats.{address_of, last_of, covers, bit}
use Rattle.slave.specs.declared.response.Response.{Response}
use Rattle.slave.specs.declared.response.Response.TheVariants.{Okay}
use Rattle.slave.specs.declared.fault.SlaveFault.{SlaveFault}
use Rattle.slave.specs.declared.fault.SlaveFault.TheVariants.{Strobe, Dead, NotOpen}
use Rattle.slave.specs.Meaning.{Meaning, ByteKind, plain, read_only, absent, unmapped, Stand, idle, busy, Sound, sound_stand, is_there, is_idle, with_read}
use Rattle.slave.specs.Channels.{worst_at}
use Rattle.slave.specs.Lanes.{stray, lane_byte, is_plain}
use Rattle.slave.specs.Acts.{on_ok, then_ok, beat_at, past, give_beat, give_after, gave_after, worst_after}
use Rattle.slave.proofs.Calls.{give_stray, give_taken}

-- a channel is sound after a beat where it was before
pub past_sound : (w : ℕ) (b : RawBurst) (k : ℕ) → sound_stand w (busy b k) ≡ true → sound_stand w (past b k) ≡ true
past_sound w b k h = grind (arith, nat_tests)

-- a byte that is not there takes no write
not_plain : (k : ByteKind) → is_there k ≡ false → is_plain k ≡ false
not_plain plain h = absurd (true≢false h)
not_plain read_only h = refl
not_plain absent h = refl
not_plain unmapped h = refl

and_false : (p q : Bool) → q ≡ false → (p && q) ≡ false
and_false true q h = h
and_false false q h = refl

-- what a beat leaves of the worst response where it was the last
quiet_past : (b : RawBurst) (k : ℕ) (r : Response) → is_idle (past b k) ≡ true → cond (ltb (k + 1) b.count) r Okay ≡ Okay
quiet_past b k r h = by (ltb (k + 1) b.count) h
  where
    by : (t : Bool) → is_idle (cond t (busy b (k + 1)) idle) ≡ true → cond t r Okay ≡ Okay
    by true e = absurd (true≢false (sym e))
    by false e = refl

pub gave_sound : (m : Meaning) (b : RawBurst) (k w s : ℕ) → Sound m → m.live ≡ true → m.write ≡ busy b k → Sound (gave_after m b k w s)
gave_sound m b k w s h l e =
    record {
      small = λ a. cond_both _ (lane_byte w (a % m.width)) (m.bytes a) (λ x. x < 256) (λ _. mod_below (w / 2 ^ (8 * (a % m.width))) 256 (omega arith)) (λ _. h.small a);
      void = λ a v. cond-false ((covers (address_of b k) (last_of b k) a && bit s (a % m.width)) && is_plain (m.kinds a)) (lane_byte w (a % m.width)) (m.bytes a)
          (and_false (covers (address_of b k) (last_of b k) a && bit s (a % m.width)) (is_plain (m.kinds a)) (not_plain (m.kinds a) v)) ∙ h.void a v;
      wide = h.wide;
      some = h.some;
      few = h.few;
      whole = h.whole;
      write = past_sound m.width b k (subst (λ p. sound_stand m.width p ≡ true) e h.write);
      read = h.read;
      quiet = quiet_past b k (worst_after m b k s);
      gone = λ d. absurd (true≢false (sym l ∙ d));
    }

-- a give keeps a slave sound
pub give_sound : (m : Meaning) (w s : ℕ) → Sound m → Sound (give_after m w s)
give_sound m w s h = by m.live refl m.write refl
  where
    same : (f : SlaveFault) → give_beat m s ≡ Err f → Sound (give_after m w s)
    same f e = subst Sound (sym (ap (λ z. on_ok z m (λ x. gave_after m x.0 x.1 w s)) e)) h

    at : (l : Bool) (p : Stand) → m.live ≡ l → m.write ≡ p
        → give_beat m s ≡ then_ok (beat_at l p) (λ x. cond (stray m.width (address_of x.0 x.1) (last_of x.0 x.1) s) (Err Strobe) (Ok x))
    at l p e f =
        ap (λ t. then_ok (beat_at t m.write) (λ x. cond (stray m.width (address_of x.0 x.1) (last_of x.0 x.1) s) (Err Strobe) (Ok x))) e
        ∙ ap (λ q. then_ok (beat_at l q) (λ x. cond (stray m.width (address_of x.0 x.1) (last_of x.0 x.1) s) (Err Strobe) (Ok x))) f

    by : (l : Bool) → m.live ≡ l → (p : Stand) → m.write ≡ p → Sound (give_after m w s)
    by false e p f = same Dead (at false p e f)
    by true e idle f = same NotOpen (at true idle e f)
    by true e (busy b k) f =
        ⊎_elim (λ t. subst Sound (sym (give_stray m b k w s e f t).1) h)
        (λ t. subst Sound (sym (give_taken m b k w s e f t).1) (gave_sound m b k w s h e f))
        (cases_Bool (stray m.width (address_of b k) (last_of b k) s))

-- with the read channel elsewhere, if that is a sound place
pub read_sound : (p : Stand) (m : Meaning) → Sound m → m.live ≡ true → sound_stand m.width p ≡ true → Sound (with_read p m)
read_sound p m h l s = record {
  small = h.small;
  void = h.void;
  wide = h.wide;
  some = h.some;
  few = h.few;
  whole = h.whole;
  write = h.write;
  read = s;
  quiet = h.quiet;
  gone = λ d. absurd (true≢false (sym l ∙ d));
}

-- the place that a beat leaves is sound
pub step_sound : (w : ℕ) (p q : Stand) (b : RawBurst) (k : ℕ) → sound_stand w p ≡ true → p ≡ busy b k → q ≡ past b k → sound_stand w q ≡ true
step_sound w p q b k h e f = subst (λ x. sound_stand w x ≡ true) (sym f) (past_sound w b k (subst (λ x. sound_stand w x ≡ true) e h))

-- an idle channel has no response
pub quiet_at : (p : Stand) (r : Response) → is_idle p ≡ true → worst_at p r ≡ Okay
quiet_at idle r h = refl
quiet_at (busy b k) r h = absurd (true≢false (sym h))

-- the worst response that a beat leaves
pub worst_past : (b : RawBurst) (k : ℕ) (v : Response) → worst_at (past b k) (cond (ltb (k + 1) b.count) v Okay) ≡ cond (ltb (k + 1) b.count) v Okay
worst_past b k v = elim (ltb (k + 1) b.count) as (λ t. worst_at (cond t (busy b (k + 1)) idle) (cond t v Okay) ≡ cond t v Okay) [ true ↦ refl | false ↦ refl ]
