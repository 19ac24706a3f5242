-- The open bursts of a run: lawful ones, with the beats counted.
use Rattle.std.proofs.Common.{◌≡◌, ℕ, ◌<◌, ◌≤◌, Bool, true, false, cond, ◌||◌, ltb, leb, ◌⊎◌, [], ◌∷◌, length, Some, None, Ok, Err, Option, refl, ◌∙◌, subst, inl, inr, arith}
use Rattle.std.specs.List.{AllByRecursion as All}
use Rattle.std.proofs.ByRecursion.{All-append}
use Rattle.std.proofs.lemmas.Bool.{ltb-true, cases_Bool}
use Rattle.std.proofs.lemmas.Bool.Decides.{nat_tests}
use Rattle.burst.specs.Beats.{first_refusal, IsLawful}
use Rattle.slave.specs.declared.channels.Channel.{Channel}
use Rattle.slave.specs.declared.channels.Channel.TheVariants.{Write, Read}
use Rattle.fabric.specs.declared.types.Request.{Request}
use Rattle.fabric.specs.declared.types.Answer.TheVariants.{Accepted, Granted}
use Rattle.fabric.specs.declared.types.FabricFault.{FabricFault}
use Rattle.fabric.specs.declared.types.FabricFault.TheVariants.{Source, Full}
use Rattle.history.specs.History.{Event, History, accepted, tally, asked, granting, moving, Filed, filed, requests, waiting, own, Going, started, one_more, current, burst_of, unfinished, opened}
use Rattle.slave.specs.Meaning.{Board}
use Rattle.history.specs.Owed.{owed, owed_request, owed_put_at, owed_take_at, Run}
use Rattle.history.specs.Law.{BeatRight}
use Rattle.history.proofs.EventActs.{cond_some, asked_act, put_act, take_act}
use Rattle.history.proofs.Filing.{all_mem}
use Rattle.history.proofs.Waits.{waiting_in, own_picks}
use Rattle.history.proofs.Bound.{grant_own}

-- accepted requests have lawful bursts
abbrev pub Lawful : Filed → Type 0
Lawful q = IsLawful 8 q.request.burst

-- a request that passes the tests has a lawful burst
ask_passes : (a : Bool) (n : ℕ) (c : Bool) (f : FabricFault) → accepted (cond a (Err Source) (cond (ltb 0 n) (Err f) (cond c (Err Full) (Ok Accepted)))) ≡ true → n ≡ 0
ask_passes a n c f e = grind (arith, nat_tests)

-- so has one that is accepted
pub ask_lawful : (ch : Channel) (h : History) (q : Request) → accepted (owed_request ch h q) ≡ true → IsLawful 8 q.burst
unfolding owed_request
ask_lawful ch h q e = ask_passes (ltb 3 q.master || ltb 15 q.qos) (first_refusal 8 q.burst) (leb 16 (length (waiting ch h))) _ e

-- and the one that an event has accepted
pub asked_lawful : (m : Board) (ch : Channel) (x : Event) (h : History) (q : Request) → x.answer ≡ owed m h x.act → asked ch x ≡ Some q → IsLawful 8 q.burst
unfolding owed
asked_lawful m ch x h q r e =
    let a = asked_act ch x q e in
    ask_lawful ch h q (rw (r, a.1) at a.0)

-- all accepted requests have lawful bursts
pub requests_lawful : (m : Board) (ch : Channel) (h : History) → Run m h → All Lawful (requests ch h)
unfolding requests
requests_lawful m ch [] r = tt
requests_lawful m ch (x ∷ h) r = All-append Lawful (requests ch h) (filed (tally h) (asked ch x)) (requests_lawful m ch h r.1) (go (asked ch x) refl)
  where
    go : (o : Option Request) → asked ch x ≡ o → All Lawful (filed (tally h) o)
    go None e = tt
    go (Some q) e = (asked_lawful m ch x h q r.0 e, tt)

-- the burst of the channel's last grant
pub record Within (g : Going) : Type 0 where
  pub lawful : IsLawful 8 (burst_of g)
  pub within : g.beats ≤ (burst_of g).count

abbrev pub WithinIf : Option Going → Type 0
WithinIf None = Unit {0}
WithinIf (Some g) = Within g

-- an accepted put or take finds an open burst
pub moving_open : (m : Board) (ch : Channel) (x : Event) (h : History) → x.answer ≡ owed m h x.act → moving ch x ≡ true → (g : Going) × (opened ch h ≡ Some g)
unfolding owed
moving_open m Write x h r e =
    let a = put_act x e in
    go (opened Write h) refl a.1.master a.1.strobe a.1.mark (rw (r, a.1.is) at a.0)
  where
    go : (o : Option Going) → opened Write h ≡ o → (p w : ℕ) (l : Bool) → accepted (owed_put_at m h o p w l) ≡ true → (g : Going) × (opened Write h ≡ Some g)
    go None f p w l t = cc
    go (Some g) f p w l t = (g, f)
moving_open m Read x h r e =
    let a = take_act x e in
    go (opened Read h) refl (rw (r, a.1) at a.0)
  where
    go : (o : Option Going) → opened Read h ≡ o → accepted (owed_take_at m h o) ≡ true → (g : Going) × (opened Read h ≡ Some g)
    go None f t = cc
    go (Some g) f t = (g, f)

-- an open burst is the last grant's, with a beat left
pub opened_current : (ch : Channel) (h : History) (g : Going) → opened ch h ≡ Some g → (current ch h ≡ Some g) × (g.beats < (burst_of g).count)
unfolding opened
opened_current ch h g e = go (current ch h) refl e
  where
    go : (o : Option Going) → current ch h ≡ o → unfinished o ≡ Some g → (current ch h ≡ Some g) × (g.beats < (burst_of g).count)
    go None f u = cc
    go (Some k) f u =
        let s = cond_some (ltb k.beats (burst_of k).count) (Some k) u in
        (f ∙ s.1, let j : k ≡ g = cc in subst (λ (v : Going). v.beats < (burst_of v).count) j (ltb-true k.beats (burst_of k).count s.0))

-- no more beats were moved than the burst has
pub within_burst : (m : Board) (ch : Channel) (h : History) → Run m h → WithinIf (current ch h)
unfolding current
within_burst m ch [] r = tt
within_burst m ch (x ∷ h) r = go (cases_Bool (granting ch x)) (cases_Bool (moving ch x)) (within_burst m ch h r.1)
  where
    grant : granting ch x ≡ true → (p : Filed) × (own ch h ≡ Some p) × (x.answer ≡ Ok (Granted p.request.master p.request.id)) × (opened ch h ≡ None) → WithinIf (started (own ch h))
    grant g p = rw p.1 record { lawful = all_mem Lawful (requests ch h) (requests_lawful m ch h r.1) (waiting_in ch h (own_picks ch h p.0 p.1).waits).0; within = omega arith }

    move : (g : Going) × (opened ch h ≡ Some g) → WithinIf (current ch h) → WithinIf (one_more (current ch h))
    move g i =
        let c = opened_current ch h g.0 g.1 in
        let j : Within g.0 = subst WithinIf c.0 i in
        rw c.0 record { lawful = j.lawful; within = omega (arith, c.1) }

    go : (granting ch x ≡ true) ⊎ (granting ch x ≡ false) → (moving ch x ≡ true) ⊎ (moving ch x ≡ false) → WithinIf (current ch h)
        → WithinIf (cond (granting ch x) (started (own ch h)) (cond (moving ch x) (one_more (current ch h)) (current ch h)))
    go (inl g) v i = rw g (grant g (grant_own m ch x h r.0 g))
    go (inr g) (inl v) i = rw (g, v) (move (moving_open m ch x h r.0 v) i)
    go (inr g) (inr v) i = rw (g, v) i

-- an accepted put or take has a beat of the last granted request
pub beat_right : (m : Board) (ch : Channel) (x : Event) (h : History) → Run m (x ∷ h) → BeatRight ch x h
beat_right m ch x h r e = let g = moving_open m ch x h r.0 e in let c = opened_current ch h g.0 g.1 in (g.0, c.0, c.1)
