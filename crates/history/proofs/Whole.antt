-- Every run keeps the law.
use Rattle.std.proofs.Common.{⊎_elim, ◌≡◌, ◌+◌, Bool, true, cond, not, eqb, ltb, [], ◌∷◌, Some, None, Ok, Err, Option, sym, refl, ◌∙◌, arith}
use mathlib.Core.Bool.{beq}
use Rattle.std.proofs.lemmas.Bool.{or_right, both_ways, ltb-false, eq-eqb, ne_eqb, cases_Bool, not-true}
use Rattle.burst.specs.Beats.{address_of, last_of}
use Rattle.slave.specs.declared.channels.Channel.{Channel}
use Rattle.slave.specs.declared.channels.Channel.TheVariants.{Write}
use Rattle.fabric.specs.declared.types.Act.{Act}
use Rattle.fabric.specs.declared.types.Act.TheVariants.{Request as Ask, Grant, Put, Take}
use Rattle.fabric.specs.declared.types.Answer.{Answer}
use Rattle.fabric.specs.declared.types.Answer.TheVariants.{More, Done}
use Rattle.slave.specs.declared.fault.SlaveFault.TheVariants.{Strobe}
use Rattle.slave.specs.Lanes.{stray, worse}
use Rattle.slave.specs.Acts.{left}
use Rattle.fabric.specs.declared.types.FabricFault.TheVariants.{LastMark, OtherMaster, Place, Slave}
use Rattle.history.specs.History.{Event, History, Throughout, accepted, granting, moving, Filed, among, with_one, picked, own, Going, current, burst_of, unfinished, opened}
use Rattle.slave.specs.Meaning.{Board}
use Rattle.history.specs.Bytes.{BytesSmall, response_at, worst}
use Rattle.history.specs.Owed.{owed, owed_request, owed_grant, is_last, Run}
use Rattle.history.specs.Law.{GrantedIn, Whole, GrantRight, BeatRight, PutRight, TakeRight, Holds, WorstAgrees}
use Rattle.history.proofs.EventActs.{put_act}
use Rattle.history.proofs.Waits.{waiting_in, picked_grant, picked_other, own_picks, picks_once}
use Rattle.history.proofs.Bound.{waits_or_granted, thirty, grant_own}
use Rattle.history.proofs.Beats.{WithinIf, within_burst, moving_open, opened_current, beat_right}
use Rattle.history.proofs.Latest.{latest_agrees}
use Rattle.history.proofs.Takes.{take_right}
use Rattle.history.proofs.Forgets.{forgets}
use Rattle.history.proofs.Responses.{worst_beat, worst_agrees}

-- a request that was granted waits no more
granted_among : (ch : Channel) (h : History) (q : Filed) → GrantedIn ch h q → among (picked ch h) q ≡ true
unfolding among
granted_among ch [] q k = absurd k
granted_among ch (x ∷ h) q k =
    ⊎_elim (λ g. rw (picked_grant ch x h g.0, g.2, eq-eqb q.at q.at refl))
    (λ i. let j = granted_among ch h q i in ⊎_elim (λ c. rw (picked_grant ch x h c) (more (own ch h) j)) (λ c. rw (picked_other ch x h c) j) (cases_Bool (granting ch x)))
    k
  where
    more : (o : Option Filed) → among (picked ch h) q ≡ true → among (with_one o (picked ch h)) q ≡ true
    more None e = e
    more (Some p) e = or_right (eqb p.at q.at) (among (picked ch h) q) e

-- with no open request, the last one was moved whole
grant_whole : (m : Board) (ch : Channel) (h : History) → Run m h → opened ch h ≡ None → Whole (current ch h)
unfolding opened
grant_whole m ch h r e = go (current ch h) (within_burst m ch h r) e
  where
    go : (o : Option Going) → WithinIf o → unfinished o ≡ None → Whole o
    go None s e = tt
    go (Some g) s e =
        ⊎_elim (λ t. let z : Some g ≡ None = rw t at e in cc) (λ t. omega (arith, ltb-false g.beats (burst_of g).count t, s.within)) (cases_Bool (ltb g.beats (burst_of g).count))

-- every accepted grant is right
grant_right : (m : Board) (ch : Channel) (x : Event) (h : History) → Run m (x ∷ h) → GrantRight ch x h
grant_right m ch x h r e =
    let p = grant_own m ch x h r.0 e in
    let k = own_picks ch h p.0 p.1 in (
      p.0,
      record { picks = p.1; rule = k; only = λ q j. picks_once ch h q p.0 j k; answers = p.2 },
      record {
        earlier_ones = λ q n l s. ⊎_elim (λ g. g) (λ w. absurd (k.first q w l s)) (waits_or_granted m ch h r.1 q n);
        once = λ g. both_ways (among (picked ch h) p.0) (not-true (among (picked ch h) p.0) (waiting_in ch h k.waits).1) (granted_among ch h p.0 g);
      },
      grant_whole m ch h r.1 p.3,
    )

-- a put that is accepted passes every test
passed : (a b c : Bool) (y : Answer) → accepted (cond a (Err OtherMaster) (cond b (Err LastMark) (cond c (Err (Slave Strobe)) (Ok y)))) ≡ true
    → cond a (Err OtherMaster) (cond b (Err LastMark) (cond c (Err (Slave Strobe)) (Ok y))) ≡ Ok y
passed a b c y e = grind arith

-- a put, which is no grant, counts in the worst response
pub worst_put : (m : Board) (x : Event) (h : History) → moving Write x ≡ true → worst m (x ∷ h) ≡ worse (worst m h) (response_at m (current Write h) x.act)
worst_put m x h e = let a = put_act x e in worst_beat m x h (rw (a.0, a.1.is)) e

-- every accepted put is right
put_right : (m : Board) (x : Event) (h : History) → Run m (x ∷ h) → PutRight m x h
unfolding owed
put_right m x h r e =
    let g = moving_open m Write x h r.0 e in
    let c = opened_current Write h g.0 g.1 in
    let w : worse (worst m h) (response_at m (Some g.0) x.act) ≡ worst m (x ∷ h) = rw (worst_put m x h e, c.0) in
    let a = r.0 ∙ says g.0 g.1 in (
      g.0,
      c.0,
      (
        λ k. a ∙ rw (eq-eqb (g.0.beats + 1) (burst_of g.0).count k, w),
        λ k. a ∙ rw (ne_eqb (g.0.beats + 1) (burst_of g.0).count (λ i. omega arith)),
      ),
    )
  where
    -- what the rules owe to the act
    says : (g : Going) → opened Write h ≡ Some g
        → owed m h x.act ≡ Ok (cond (is_last g) (Done g.from.request.master g.from.request.id (worse (worst m h) (response_at m (Some g) x.act))) (More (left (burst_of g) g.beats)))
    says g o =
        let p = put_act x e in
        rw (p.1.is, o) (passed (not (eqb g.from.request.master p.1.master)) (not (beq p.1.mark (is_last g))) (stray 8 (address_of (burst_of g) g.beats) (last_of (burst_of g) g.beats) p.1.strobe) _ (rw (r.0, p.1.is, o) at p.0))

-- no rule owes the refusal that the slave stands elsewhere
never_elsewhere : (m : Board) (h : History) (a : Act) → owed m h a ≡ Err Place → ⊥
unfolding owed owed_request owed_grant
never_elsewhere m h (Ask ch q) e = grind arith
never_elsewhere m h (Grant ch) e = grind arith
never_elsewhere m h (Put p w s l) e = grind arith
never_elsewhere m h Take e = grind arith

-- what holds of the newest event of every run holds of each event
throughout : (m : Board) (P : Event → History → Type 0) → ((x : Event) (h : History) → Run m (x ∷ h) → P x h) → (h : History) → Run m h → Throughout P h
throughout m P f [] r = tt
throughout m P f (x ∷ h) r = (f x h r, throughout m P f h r.1)

-- every run keeps the law
pub runs_hold : (m : Board) → BytesSmall m → (h : History) → Run m h → Holds m h
runs_hold m s h r = record {
  answered = r;
  in_place = throughout m (λ x before. x.answer ≡ Err Place → ⊥) (λ x before q e. never_elsewhere m before x.act (sym q.0 ∙ e)) h r;
  refused = forgets m h r;
  takes = throughout m (TakeRight m) (take_right m s) h r;
  latest = latest_agrees m h;
  grants = λ ch. throughout m (GrantRight ch) (grant_right m ch) h r;
  beats = λ ch. throughout m (BeatRight ch) (beat_right m ch) h r;
  puts = throughout m (PutRight m) (put_right m) h r;
  worsts = throughout m (λ x before. WorstAgrees m (x ∷ before)) (λ x before _. worst_agrees m (x ∷ before)) h r;
  thirty = λ ch. thirty m ch h r;
}
