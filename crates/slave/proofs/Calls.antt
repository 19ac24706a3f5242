-- Calls of a slave by what it shows: which answer they get, and what they leave as it is.
use Rattle.std.proofs.Common.{ltb-true, ◌<◌, ◌≡◌, ℕ, ◌≤◌, Bool, true, false, cond, not, ◌&&◌, ◌||◌, eqb, ltb, Ok, Err, Result, sym, refl, ap, ◌∙◌, subst, arith}
use Rattle.std.proofs.lemmas.Bool.{cond-true, cond-false, true≢false, and_parts, and_from, eqb-true, eq-eqb, le-ltb}
use Rattle.burst.specs.declared.raw.RawBurst.{RawBurst}
use Rattle.burst.specs.Rules.{fault_at}
use Rattle.burst.specs.Beats.{address_of, last_of, first_refusal, IsLawful}
use Rattle.slave.specs.declared.channels.Channel.{Channel}
use Rattle.slave.specs.declared.fault.SlaveFault.{SlaveFault}
use Rattle.slave.specs.declared.fault.SlaveFault.TheVariants.{Unlawful, Simple, Strobe, Dead, AlreadyOpen}
use Rattle.slave.specs.Meaning.{Meaning, Stand, idle, busy, with_read, stand_at, is_idle, is_at, same_burst, sound_stand}
use Rattle.slave.specs.Lanes.{stray}
use Rattle.slave.specs.Acts.{on_ok, map_ok, then_ok, beat_at, past, too_much, admission, open_answer, open_after, opened, give_beat, give_answer, give_after, gave_answer, gave_after, take_answer, take_after, took_answer}
use Rattle.slave.specs.Making.{ready}

-- bursts that pass for the same are the same
pub same_burst_is : (b c : RawBurst) → same_burst b c ≡ true → c ≡ b
same_burst_is b c h =
    let p = and_parts (eqb b.kind c.kind && eqb b.start c.start) (eqb b.size c.size && eqb b.count c.count) h in
    let q = and_parts (eqb b.kind c.kind) (eqb b.start c.start) p.0 in
    let r = and_parts (eqb b.size c.size) (eqb b.count c.count) p.1 in
    ap (λ x. record { kind = x; start = c.start; size = c.size; count = c.count }) (sym (eqb-true b.kind c.kind q.0))
    ∙ ap (λ x. record { kind = b.kind; start = x; size = c.size; count = c.count }) (sym (eqb-true b.start c.start q.1))
    ∙ ap (λ x. record { kind = b.kind; start = b.start; size = x; count = c.count }) (sym (eqb-true b.size c.size r.0))
    ∙ ap (λ x. record { kind = b.kind; start = b.start; size = b.size; count = x }) (sym (eqb-true b.count c.count r.1))

pub burst_same : (b : RawBurst) → same_burst b b ≡ true
burst_same b =
    and_from _ _ (and_from _ _ (eq-eqb b.kind b.kind refl) (eq-eqb b.start b.start refl)) (and_from _ _ (eq-eqb b.size b.size refl) (eq-eqb b.count b.count refl))

-- a channel that passes for standing at a beat stands there
pub at_is : (b : RawBurst) (k : ℕ) (q : Stand) → is_at b k q ≡ true → q ≡ busy b k
at_is b k idle h = absurd (true≢false (sym h))
at_is b k (busy c i) h =
    let p = and_parts (same_burst b c) (eqb k i) h in
    ap (λ x. busy x i) (same_burst_is b c p.0) ∙ ap (busy b) (sym (eqb-true k i p.1))

pub is_at_self : (b : RawBurst) (k : ℕ) → is_at b k (busy b k) ≡ true
is_at_self b k = and_from (same_burst b b) (eqb k k) (burst_same b) (eq-eqb k k refl)

pub idle_is : (q : Stand) → is_idle q ≡ true → q ≡ idle
idle_is idle h = refl
idle_is (busy b k) h = absurd (true≢false (sym h))

pub open_lawful : (w : ℕ) (p : Stand) (b : RawBurst) (k : ℕ) → sound_stand w p ≡ true → p ≡ busy b k → IsLawful w b
open_lawful w p b k h e = eqb-true (first_refusal w b) 0 (and_parts (ltb k b.count) (eqb (first_refusal w b) 0) (subst (λ q. sound_stand w q ≡ true) e h)).1

-- a live slave takes a lawful INCR burst of at most its most beats at an idle channel
admits : (w most : ℕ) (full : Bool) (b : RawBurst) → IsLawful w b → too_much full most b ≡ false → admission w most full b ≡ Ok tt
admits w most full b h t =
    ap (λ n. cond (eqb n 0) (cond (too_much full most b) (Err Simple) (Ok tt)) (Err (Unlawful (fault_at n)))) h
    ∙ ap (λ x. cond x (Err Simple) (Ok tt)) t

pub short_incr : (full : Bool) (most : ℕ) (b : RawBurst) → b.kind ≡ 1 → b.count ≤ most → too_much full most b ≡ false
short_incr true most b k l = refl
short_incr false most b k l = ap (λ x. not (eqb x 1) || ltb most b.count) k ∙ le-ltb most b.count l

opens : (m : Meaning) (ch : Channel) (b : RawBurst) → m.live ≡ true → stand_at m ch ≡ idle → IsLawful m.width b → too_much m.full m.most b ≡ false → open_answer m ch b ≡ Ok tt
opens m ch b live free law fits =
    ap (λ l. cond l (cond (is_idle (stand_at m ch)) (admission m.width m.most m.full b) (Err AlreadyOpen)) (Err Dead)) live
    ∙ ap (λ p. cond (is_idle p) (admission m.width m.most m.full b) (Err AlreadyOpen)) free
    ∙ admits m.width m.most m.full b law fits

pub open_taken : (m : Meaning) (ch : Channel) (b : RawBurst) → m.live ≡ true → stand_at m ch ≡ idle → IsLawful m.width b → too_much m.full m.most b ≡ false
    → (open_answer m ch b ≡ Ok tt) × (open_after m ch b ≡ opened ch b m)
open_taken m ch b live free law fits =
    let e = opens m ch b live free law fits in
    (e, ap (λ z. on_ok z m (λ _. opened ch b m)) e)

-- what a give leaves as it is
module _ (m : Meaning) (w s : ℕ) where
  kept_by : {A : Type 0} (f : Meaning → A) → ((b : RawBurst) (k : ℕ) → f (gave_after m b k w s) ≡ f m) → (r : Result (RawBurst × ℕ) SlaveFault)
      → f (on_ok r m (λ x. gave_after m x.0 x.1 w s)) ≡ f m
  kept_by f h (Ok x) = h x.0 x.1
  kept_by f h (Err e) = refl

  pub give_live : (give_after m w s).live ≡ m.live
  give_live = kept_by (λ n. n.live) (λ _ _. refl) (give_beat m s)

  pub give_width : (give_after m w s).width ≡ m.width
  give_width = kept_by (λ n. n.width) (λ _ _. refl) (give_beat m s)

  pub give_most : (give_after m w s).most ≡ m.most
  give_most = kept_by (λ n. n.most) (λ _ _. refl) (give_beat m s)

  pub give_full : (give_after m w s).full ≡ m.full
  give_full = kept_by (λ n. n.full) (λ _ _. refl) (give_beat m s)

  pub give_kinds : (give_after m w s).kinds ≡ m.kinds
  give_kinds = kept_by (λ n. n.kinds) (λ _ _. refl) (give_beat m s)

  pub give_read : (give_after m w s).read ≡ m.read
  give_read = kept_by (λ n. n.read) (λ _ _. refl) (give_beat m s)

-- the beat that a give at an open write is for
give_at : (m : Meaning) (b : RawBurst) (k s : ℕ) → m.live ≡ true → m.write ≡ busy b k
    → give_beat m s ≡ cond (stray m.width (address_of b k) (last_of b k) s) (Err Strobe) (Ok (b, k))
give_at m b k s h e =
    ap (λ l. then_ok (beat_at l m.write) (λ x. cond (stray m.width (address_of x.0 x.1) (last_of x.0 x.1) s) (Err Strobe) (Ok x))) h
    ∙ ap (λ p. then_ok (beat_at true p) (λ x. cond (stray m.width (address_of x.0 x.1) (last_of x.0 x.1) s) (Err Strobe) (Ok x))) e

-- a stray strobe is refused
pub give_stray : (m : Meaning) (b : RawBurst) (k w s : ℕ) → m.live ≡ true → m.write ≡ busy b k → stray m.width (address_of b k) (last_of b k) s ≡ true
    → (give_answer m w s ≡ Err Strobe) × (give_after m w s ≡ m)
give_stray m b k w s h e t =
    let g : give_beat m s ≡ Err Strobe = give_at m b k s h e ∙ cond-true (stray m.width (address_of b k) (last_of b k) s) (Err Strobe) (Ok (b, k)) t in
    (ap (λ z. map_ok z (λ x. gave_answer m x.0 x.1 s)) g, ap (λ z. on_ok z m (λ x. gave_after m x.0 x.1 w s)) g)

-- any other beat is taken
pub give_taken : (m : Meaning) (b : RawBurst) (k w s : ℕ) → m.live ≡ true → m.write ≡ busy b k → stray m.width (address_of b k) (last_of b k) s ≡ false
    → (give_answer m w s ≡ Ok (gave_answer m b k s)) × (give_after m w s ≡ gave_after m b k w s)
give_taken m b k w s h e t =
    let g : give_beat m s ≡ Ok (b, k) = give_at m b k s h e ∙ cond-false (stray m.width (address_of b k) (last_of b k) s) (Err Strobe) (Ok (b, k)) t in
    (ap (λ z. map_ok z (λ x. gave_answer m x.0 x.1 s)) g, ap (λ z. on_ok z m (λ x. gave_after m x.0 x.1 w s)) g)

-- a take at an open read
pub take_taken : (m : Meaning) (b : RawBurst) (k : ℕ) → m.live ≡ true → m.read ≡ busy b k
    → (take_answer m ≡ Ok (took_answer m b k)) × (take_after m ≡ with_read (past b k) m)
take_taken m b k h e =
    let g : beat_at m.live m.read ≡ Ok (b, k) = ap (λ l. beat_at l m.read) h ∙ ap (beat_at true) e in
    (ap (λ z. map_ok z (λ x. took_answer m x.0 x.1)) g, ap (λ z. on_ok z m (λ x. with_read (past x.0 x.1) m)) g)

-- a give and a change of the read place do not touch each other
pub give_with_read : (p : Stand) (m : Meaning) (w s : ℕ) → give_after (with_read p m) w s ≡ with_read p (give_after m w s)
give_with_read p m w s = by (give_beat m s)
  where
    by : (r : Result (RawBurst × ℕ) SlaveFault)
        → on_ok r (with_read p m) (λ x. gave_after (with_read p m) x.0 x.1 w s) ≡ with_read p (on_ok r m (λ x. gave_after m x.0 x.1 w s))
    by (Ok x) = refl
    by (Err e) = refl

-- a refused answer is no other
no_err : {A : Type 0} (x : A) (f : SlaveFault) → ◌≡◌ {A = Result A SlaveFault} (Ok x) (Err f) → ⊥
no_err x f h = let z : ◌≡◌ {A = ℕ} 0 1 = cc in omega arith

refused_by : {A B : Type 0} (r : Result A SlaveFault) (g : A → B) (m : Meaning) (after : A → Meaning) (f : SlaveFault) → map_ok r g ≡ Err f → on_ok r m after ≡ m
refused_by (Ok x) g m after f h = absurd (no_err (g x) f h)
refused_by (Err e) g m after f h = refl

-- a refused call changes nothing
pub give_refused : (m : Meaning) (w s : ℕ) (f : SlaveFault) → give_answer m w s ≡ Err f → give_after m w s ≡ m
give_refused m w s f h = refused_by (give_beat m s) (λ x. gave_answer m x.0 x.1 s) m (λ x. gave_after m x.0 x.1 w s) f h

pub take_refused : (m : Meaning) (f : SlaveFault) → take_answer m ≡ Err f → take_after m ≡ m
take_refused m f h = refused_by (beat_at m.live m.read) (λ x. took_answer m x.0 x.1) m (λ x. with_read (past x.0 x.1) m) f h

-- what makes a slave ready
pub ready_parts : (m : Meaning) → ready m ≡ true → (m.live ≡ true) × (m.write ≡ idle) × (m.read ≡ idle)
ready_parts m h =
    let p = and_parts m.live (is_idle m.write && is_idle m.read) h in
    let q = and_parts (is_idle m.write) (is_idle m.read) p.1 in
    (p.0, idle_is m.write q.0, idle_is m.read q.1)

-- an open burst has a beat left and is lawful for the width
pub open_left : (w : ℕ) (p : Stand) (b : RawBurst) (k : ℕ) → sound_stand w p ≡ true → p ≡ busy b k → k < b.count
open_left w p b k h e = ltb-true k b.count (and_parts (ltb k b.count) (eqb (first_refusal w b) 0) (subst (λ q. sound_stand w q ≡ true) e h)).0
