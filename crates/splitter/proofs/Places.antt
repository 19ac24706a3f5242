-- Where a splitter and the slave below it stand, and how the slave below is made to follow.
use Rattle.std.proofs.Common.{◌≡◌, ℕ, ◌+◌, ◌<◌, ◌≤◌, Bool, true, false, cond, ◌&&◌, Option, Some, None, ltb, arith, refl, sym, ◌∙◌, ap, subst, ⊎_elim}
use Rattle.std.proofs.lemmas.Bool.{cases_lt, lt-ltb, le-ltb, and_parts, and_from}
use Rattle.std.proofs.lemmas.Bool.Decides.{nat_tests}
use Rattle.burst.specs.declared.raw.RawBurst.{RawBurst}
use Rattle.burst.specs.Beats.{IsLawful}
use Rattle.slave.specs.declared.response.Response.TheVariants.{Okay}
use Rattle.slave.specs.declared.channels.Channel.{Channel}
use Rattle.slave.specs.declared.channels.Channel.TheVariants.{Write, Read}
use Rattle.slave.specs.declared.channels.Channels.{Channels}
use Rattle.slave.specs.Channels.{state_at, other}
use Rattle.slave.specs.Meaning.{Meaning, Stand, idle, busy, with_read, with_write, stand_at, is_idle, same_stand, told}
use Rattle.slave.specs.Acts.{opened, past}
use Rattle.slave.proofs.Calls.{at_is, idle_is, is_at_self}
use Rattle.splitter.specs.Runs.{run_of, beat_in, run_answer}
use Rattle.splitter.specs.Fits.{run_stand, run_below, stand_below, numbered, stands}
use Rattle.splitter.specs.Follows.{follow_after, with_run}
use Rattle.splitter.proofs.Walks.{next_left, next_run, next_beat, next_new}
use Rattle.splitter.proofs.Joined.{run_stands}

-- channels that pass for standing alike do
same_is : (p q : Stand) → same_stand p q ≡ true → q ≡ p
same_is idle q h = idle_is q h
same_is (busy b k) q h = at_is b k q h

same_self : (p q : Stand) → q ≡ p → same_stand p q ≡ true
same_self idle q e = ap is_idle e
same_self (busy b k) q e = ap (same_stand (busy b k)) e ∙ is_at_self b k

-- the place below of a beat that is left
pub run_at_beat : (M : ℕ) (b : RawBurst) (j : ℕ) → 0 < M → j < b.count → run_answer M b j ≡ Some (run_of M b j, beat_in M b j)
run_at_beat M b j some left = grind (arith, nat_tests)

pub stand_at_beat : (M : ℕ) (b : RawBurst) (j : ℕ) → 0 < M → j < b.count → stand_below M (busy b j) ≡ busy (run_of M b j) (beat_in M b j)
stand_at_beat M b j some left = ap run_stand (run_at_beat M b j some left)

-- what a fitting record says
pub record Fitting (M : ℕ) (c : Channels) (m : Meaning) : Type 0 where
  pub live : m.live ≡ true
  pub number : numbered M m ≡ true
  pub some : 0 < M
  pub most : M ≤ m.most
  pub stand : (ch : Channel) → stand_at m ch ≡ stand_below M (told (state_at ch c).place)

pub fitting : (M : ℕ) (c : Channels) (m : Meaning) → stands M c m ≡ true → Fitting M c m
fitting M c m h =
    let w = stand_below M (told c.write.place) in
    let r = stand_below M (told c.read.place) in
    let p = and_parts (m.live && numbered M m) (same_stand w m.write && same_stand r m.read) h in
    let q = and_parts m.live (numbered M m) p.0 in
    let o = and_parts (same_stand w m.write) (same_stand r m.read) p.1 in
    let number = q.1 in
    record { live = q.0; number = number; some = grind (arith, nat_tests); most = grind (arith, nat_tests); stand = by o.0 o.1 }
  where
    by : same_stand (stand_below M (told c.write.place)) m.write ≡ true → same_stand (stand_below M (told c.read.place)) m.read ≡ true
        → (ch : Channel) → stand_at m ch ≡ stand_below M (told (state_at ch c).place)
    by w r Write = same_is (stand_below M (told c.write.place)) m.write w
    by w r Read = same_is (stand_below M (told c.read.place)) m.read r

pub fits_from : (M : ℕ) (c : Channels) (m : Meaning) → m.live ≡ true → numbered M m ≡ true
    → ((ch : Channel) → stand_at m ch ≡ stand_below M (told (state_at ch c).place)) → stands M c m ≡ true
fits_from M c m l n at =
    and_from _ _ (and_from _ _ l n)
    (and_from _ _ (same_self (stand_below M (told c.write.place)) m.write (at Write)) (same_self (stand_below M (told c.read.place)) m.read (at Read)))

-- the slave below with one channel standing elsewhere
abbrev pub with_stand : Channel → Stand → Meaning → Meaning
with_stand Write q m = with_write q m.worst m.bytes m
with_stand Read q m = with_read q m

with_stand_self : (ch : Channel) (m : Meaning) → m ≡ with_stand ch (stand_at m ch) m
with_stand_self Write m = refl
with_stand_self Read m = refl

abbrev pub Quiet : Meaning → Type 0
Quiet m = is_idle m.write ≡ true → m.worst ≡ Okay

opened_with_stand : (ch : Channel) (b : RawBurst) (m : Meaning) → Quiet m → stand_at m ch ≡ idle → opened ch b m ≡ with_stand ch (busy b 0) m
opened_with_stand Write b m quiet e = ap (λ r. with_write (busy b 0) r m.bytes m) (sym (quiet (ap is_idle e)))
opened_with_stand Read b m quiet e = refl

-- it fits a record with that channel's place, where the other channel stays
pub fits_with_stand : (M : ℕ) (ch : Channel) (c d : Channels) (m n : Meaning) → Fitting M c m → n.live ≡ m.live → n.most ≡ m.most
    → stand_at n (other ch) ≡ stand_at m (other ch) → state_at (other ch) d ≡ state_at (other ch) c
    → stands M d (with_stand ch (stand_below M (told (state_at ch d).place)) n) ≡ true
fits_with_stand M Write c d m n f live most stays same =
    fits_from M d (with_stand Write (stand_below M (told d.write.place)) n) (live ∙ f.live) (ap (λ k. numbered M (record m { most = k })) most ∙ f.number)
    (at (stays ∙ f.stand Read ∙ ap (λ s. stand_below M (told s.place)) (sym same)))
  where
    at : n.read ≡ stand_below M (told d.read.place) → (ch : Channel) → stand_at (with_stand Write (stand_below M (told d.write.place)) n) ch ≡ stand_below M (told (state_at ch d).place)
    at e Write = refl
    at e Read = e
fits_with_stand M Read c d m n f live most stays same =
    fits_from M d (with_stand Read (stand_below M (told d.read.place)) n) (live ∙ f.live) (ap (λ k. numbered M (record m { most = k })) most ∙ f.number)
    (at (stays ∙ f.stand Write ∙ ap (λ s. stand_below M (told s.place)) (sym same)))
  where
    at : n.write ≡ stand_below M (told d.write.place) → (ch : Channel) → stand_at (with_stand Read (stand_below M (told d.read.place)) n) ch ≡ stand_below M (told (state_at ch d).place)
    at e Write = e
    at e Read = refl

-- nothing is done where the slave below stands right
pub stays : (M : ℕ) (ch : Channel) (p : Stand) (m : Meaning) → stand_at m ch ≡ stand_below M p → follow_after M ch p m ≡ m
stays M ch p m h = by (run_below M p) h
  where
    by : (o : Option (RawBurst × ℕ)) → stand_at m ch ≡ run_stand o → cond (is_idle (stand_at m ch)) (with_run ch o m) m ≡ m
    by None e = elim (is_idle (stand_at m ch)) as (λ t. cond t m m ≡ m) [ true ↦ refl | false ↦ refl ]
    by (Some x) e = ap (λ q. cond (is_idle q) (with_run ch (Some x) m) m) e

stays_stand : (M : ℕ) (ch : Channel) (p : Stand) (m : Meaning) → stand_at m ch ≡ stand_below M p → follow_after M ch p m ≡ with_stand ch (stand_below M p) m
stays_stand M ch p m h = stays M ch p m h ∙ with_stand_self ch m ∙ ap (λ q. with_stand ch q m) h

-- the first run of a burst, and each run after another, is opened
pub starts : (M : ℕ) (ch : Channel) (b : RawBurst) (j : ℕ) (m : Meaning) → IsLawful 8 b → 0 < M → M ≤ m.most → j < b.count → beat_in M b j ≡ 0
    → m.live ≡ true → Quiet m → stand_at m ch ≡ idle → IsLawful m.width b → follow_after M ch (busy b j) m ≡ with_stand ch (stand_below M (busy b j)) m
starts M ch b j m law some most left zero live quiet free fit =
    let run = run_of M b j in
    let taken = (run_stands M b j law some left).taken m ch live free fit most in
    let told = run_at_beat M b j some left in
    let place : stand_below M (busy b j) ≡ busy run 0 = stand_at_beat M b j some left ∙ ap (busy run) zero in
    let first = opened_with_stand ch run m quiet free in
    cc

-- after beat j the slave below follows to beat j + 1, or both are idle
pub goes_on : (M : ℕ) (ch : Channel) (b : RawBurst) (j : ℕ) (m : Meaning) → IsLawful 8 b → 0 < M → M ≤ m.most → j < b.count
    → m.live ≡ true → Quiet m → stand_at m ch ≡ past (run_of M b j) (beat_in M b j) → IsLawful m.width b
    → follow_after M ch (past b j) m ≡ with_stand ch (stand_below M (past b j)) m
goes_on M ch b j m law some most left live quiet at fit =
    let run = run_of M b j in
    let i = beat_in M b j in
    let own : Bool → Stand = λ t. cond t (busy b (j + 1)) idle in
    let there : Bool → Stand = λ t. cond t (busy run (i + 1)) idle in
    let turned : (t : Bool) → ltb (j + 1) b.count ≡ t → follow_after M ch (own t) m ≡ with_stand ch (stand_below M (own t)) m
    → follow_after M ch (past b j) m ≡ with_stand ch (stand_below M (past b j)) m =
    λ t e. subst (λ u. follow_after M ch (own u) m ≡ with_stand ch (stand_below M (own u)) m) (sym e) in
    ⊎_elim
    (λ lt. let nl = next_left M b j law some left lt in
    let place : busy run (i + 1) ≡ busy (run_of M b (j + 1)) (beat_in M b (j + 1)) =
    ap (λ x. busy x (i + 1)) (sym (next_run M b j law some left lt)) ∙ ap (busy (run_of M b (j + 1))) (sym (next_beat M b j law some left lt)) in
    turned true (lt-ltb (j + 1) b.count nl)
    (stays_stand M ch (busy b (j + 1)) m (at ∙ ap there (lt-ltb (i + 1) run.count lt) ∙ place ∙ sym (stand_at_beat M b (j + 1) some nl))))
    (λ ge. let free : stand_at m ch ≡ idle = at ∙ ap there (le-ltb (i + 1) run.count ge) in
    ⊎_elim
    (λ nl. turned true (lt-ltb (j + 1) b.count nl) (starts M ch b (j + 1) m law some most nl (next_new M b j law some left ge nl) live quiet free fit))
    (λ end. turned false (le-ltb (j + 1) b.count end) (stays_stand M ch idle m free))
    (cases_lt (j + 1) b.count))
    (cases_lt (i + 1) run.count)
