-- What kept answers say of a slave, and that they follow it.
use Rattle.std.proofs.Common.{◌≡◌, Bool, true, false, ◌&&◌, ℕ, Option, Ok, Err, Result, eqb, refl, sym, ◌∙◌, subst}
use Rattle.std.specs.Bool.{beq}
use Rattle.std.proofs.lemmas.Bool.{true≢false, and_parts, and_from, eqb-true, eq-eqb}
use Rattle.burst.specs.Rules.{width_bytes}
use Rattle.slave.specs.declared.channels.Channel.{Channel}
use Rattle.slave.specs.declared.channels.Channel.TheVariants.{Write, Read}
use Rattle.slave.specs.declared.open_burst.OpenBurst.{OpenBurst}
use Rattle.slave.specs.declared.snapshot.Snapshot.{Snapshot}
use Rattle.slave.specs.Channels.{other}
use Rattle.slave.specs.Meaning.{Meaning, Stand, idle, busy, stand_at, told, same_stand, with_read}
use Rattle.slave.specs.Snapshots.{answers_for, place_at, with_place}
use Rattle.slave.specs.Acts.{give_after, take_after, open_after, open_answer, opened, beat_at, on_ok, past}
use Rattle.slave.specs.declared.fault.SlaveFault.{SlaveFault}
use Rattle.burst.specs.declared.raw.RawBurst.{RawBurst}
use Rattle.slave.proofs.Calls.{idle_is, at_is, is_at_self, give_live, give_width, give_most, give_full, give_read}

-- channels that pass for standing alike do
pub same_stand_is : (p q : Stand) → same_stand p q ≡ true → p ≡ q
same_stand_is idle q h = sym (idle_is q h)
same_stand_is (busy b k) q h = sym (at_is b k q h)

pub stand_same : (p q : Stand) → p ≡ q → same_stand p q ≡ true
stand_same p q e = subst (λ x. same_stand p x ≡ true) e (by p)
  where
    by : (p : Stand) → same_stand p p ≡ true
    by idle = refl
    by (busy b k) = is_at_self b k

beq_is : (a b : Bool) → beq a b ≡ true → a ≡ b
beq_is true true h = refl
beq_is true false h = absurd (true≢false (sym h))
beq_is false true h = absurd (true≢false (sym h))
beq_is false false h = refl

is_beq : (a b : Bool) → a ≡ b → beq a b ≡ true
is_beq a b e = subst (λ x. beq a x ≡ true) e (by a)
  where
    by : (a : Bool) → beq a a ≡ true
    by true = refl
    by false = refl

-- what the answers say
pub record Known (s : Snapshot) (m : Meaning) : Type 0 where
  pub live : m.live ≡ true
  pub width : width_bytes s.width ≡ m.width
  pub most : s.most ≡ m.most
  pub full : s.full ≡ m.full
  pub write : told s.write ≡ m.write
  pub read : told s.read ≡ m.read

pub known : (s : Snapshot) (m : Meaning) → answers_for s m ≡ true → Known s m
known s m h =
    let p = and_parts (m.live && (eqb (width_bytes s.width) m.width && (eqb s.most m.most && beq s.full m.full))) (same_stand (told s.write) m.write && same_stand (told s.read) m.read) h in
    let q = and_parts m.live (eqb (width_bytes s.width) m.width && (eqb s.most m.most && beq s.full m.full)) p.0 in
    let r = and_parts (eqb (width_bytes s.width) m.width) (eqb s.most m.most && beq s.full m.full) q.1 in
    let t = and_parts (eqb s.most m.most) (beq s.full m.full) r.1 in
    let u = and_parts (same_stand (told s.write) m.write) (same_stand (told s.read) m.read) p.1 in
    record {
      live = q.0;
      width = eqb-true (width_bytes s.width) m.width r.0;
      most = eqb-true s.most m.most t.0;
      full = beq_is s.full m.full t.1;
      write = same_stand_is (told s.write) m.write u.0;
      read = same_stand_is (told s.read) m.read u.1;
    }

pub answers_from : (s : Snapshot) (m : Meaning) → Known s m → answers_for s m ≡ true
answers_from s m k =
    and_from _ _
    (and_from _ _ k.live (and_from _ _ (eq-eqb _ _ k.width) (and_from _ _ (eq-eqb _ _ k.most) (is_beq _ _ k.full))))
    (and_from _ _ (stand_same _ _ k.write) (stand_same _ _ k.read))

-- where a channel stands is known
pub known_place : (s : Snapshot) (m : Meaning) (ch : Channel) → answers_for s m ≡ true → told (place_at s ch) ≡ stand_at m ch
known_place s m Write h = (known s m h).write
known_place s m Read h = (known s m h).read

-- a slave that stands elsewhere on one channel, and is else the same
pub record Moved (ch : Channel) (m n : Meaning) : Type 0 where
  pub live : n.live ≡ m.live
  pub width : n.width ≡ m.width
  pub most : n.most ≡ m.most
  pub full : n.full ≡ m.full
  pub stays : stand_at n (other ch) ≡ stand_at m (other ch)

-- answers that follow it there
pub follows : (s : Snapshot) (m n : Meaning) (ch : Channel) (p : Option OpenBurst) → answers_for s m ≡ true → Moved ch m n → told p ≡ stand_at n ch → answers_for (with_place ch p s) n ≡ true
follows s m n Write p h k e =
    let x = known s m h in
    answers_from _ n (record { live = k.live ∙ x.live; width = x.width ∙ sym k.width; most = x.most ∙ sym k.most; full = x.full ∙ sym k.full; write = e; read = x.read ∙ sym k.stays })
follows s m n Read p h k e =
    let x = known s m h in
    answers_from _ n (record { live = k.live ∙ x.live; width = x.width ∙ sym k.width; most = x.most ∙ sym k.most; full = x.full ∙ sym k.full; write = x.write ∙ sym k.stays; read = e })

-- what each call moves
pub give_moves : (m : Meaning) (w s : ℕ) → Moved Write m (give_after m w s)
give_moves m w s = record { live = give_live m w s; width = give_width m w s; most = give_most m w s; full = give_full m w s; stays = give_read m w s }

pub take_moves : (m : Meaning) → Moved Read m (take_after m)
take_moves m = by (beat_at m.live m.read)
  where
    by : (r : Result (RawBurst × ℕ) SlaveFault) → Moved Read m (on_ok r m (λ x. with_read (past x.0 x.1) m))
    by (Ok x) = record { live = refl; width = refl; most = refl; full = refl; stays = refl }
    by (Err e) = record { live = refl; width = refl; most = refl; full = refl; stays = refl }

pub open_moves : (m : Meaning) (ch : Channel) (b : RawBurst) → Moved ch m (open_after m ch b)
open_moves m ch b = by ch (open_answer m ch b)
  where
    by : (ch : Channel) (r : Result (Unit {0}) SlaveFault) → Moved ch m (on_ok r m (λ _. opened ch b m))
    by Write (Ok x) = record { live = refl; width = refl; most = refl; full = refl; stays = refl }
    by Write (Err e) = record { live = refl; width = refl; most = refl; full = refl; stays = refl }
    by Read (Ok x) = record { live = refl; width = refl; most = refl; full = refl; stays = refl }
    by Read (Err e) = record { live = refl; width = refl; most = refl; full = refl; stays = refl }
