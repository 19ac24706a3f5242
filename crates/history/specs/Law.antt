-- The law over whole runs. It speaks of acts, their answers, and the bytes and kinds m at the creation.
use Rattle.std.specs.Prelude.{◌≡◌, ℕ, ◌+◌, ◌%◌, ◌^◌, ◌<◌, ◌≤◌, true, false, ◌⊎◌, ◌∷◌, Some, None, Ok, Err, Option, ◌≢◌}
use mathlib.Core.List.{Memᴰ}
use Rattle.burst.specs.Laws.{covered}
use Rattle.slave.specs.declared.response.Response.TheVariants.{Okay}
use Rattle.slave.specs.declared.channels.Channel.{Channel}
use Rattle.slave.specs.declared.channels.Channel.TheVariants.{Write, Read}
use Rattle.slave.specs.Meaning.{plain, read_only, is_there, Board}
use Rattle.slave.specs.Lanes.{lane_byte, is_plain}
use Rattle.slave.specs.Lanes.{rank as response_rank}
use Rattle.slave.specs.Acts.{left}
use Rattle.fabric.specs.declared.types.Act.{Act}
use Rattle.fabric.specs.declared.types.Answer.TheVariants.{Granted, More, Done, Beat}
use Rattle.fabric.specs.declared.types.FabricFault.TheVariants.{Place}
use Rattle.history.specs.History.{Event, History, Throughout, Sometime, tally, accepted_acts, granting, moving, Filed, requests, age, same_source, own, Picks, Going, current, burst_of}
use Rattle.history.specs.Bytes.{NeverStrobed, Latest, stored, response_read, response_at, worst, EachPutSince, SomePutSince}
use Rattle.history.specs.Owed.{owed, Run}

-- what the word of a take shows
pub record Shows (m : Board) (before : History) (g : Going) (word : ℕ) : Type 0 where
  -- at a plain address that the beat covers, the byte of the latest accepted put that had strobed it
  pub latest : (a v : ℕ) → covered (burst_of g) g.beats a ≡ true → m.kinds a ≡ plain → Latest before a v → lane_byte word (a % 8) ≡ v
  -- without such a put, the byte of the creation
  pub untouched : (a : ℕ) → covered (burst_of g) g.beats a ≡ true → m.kinds a ≡ plain → NeverStrobed before a → lane_byte word (a % 8) ≡ m.bytes a
  -- at a read-only address, the byte of the creation
  pub fixed : (a : ℕ) → covered (burst_of g) g.beats a ≡ true → m.kinds a ≡ read_only → lane_byte word (a % 8) ≡ m.bytes a
  -- all else is zero: the lanes without a covered byte that is there, and what is above the eight lanes
  pub zero : (i : ℕ) → i < 8 → ((a : ℕ) → covered (burst_of g) g.beats a ≡ true → a % 8 ≡ i → is_there (m.kinds a) ≡ false) → lane_byte word i ≡ 0
  pub fits : word < 2 ^ 64

-- an accepted take answers the open read's master and ID, the word with its response, and the beats left
abbrev pub TakeRight : Board → Event → History → Type 0
TakeRight m x before =
    moving Read x ≡ true
    → (g : Going) × (word : ℕ) × (current Read before ≡ Some g)
    × (x.answer ≡ Ok (Beat g.from.request.master g.from.request.id word (response_read m (burst_of g) g.beats) (left (burst_of g) g.beats)))
    × Shows m before g word

-- the held byte is that of the latest put, as a relation says it
pub record LatestAgrees (m : Board) (h : History) (a : ℕ) : Type 0 where
  pub found : (v : ℕ) → m.kinds a ≡ plain → Latest h a v → stored m h a ≡ v
  pub untouched : NeverStrobed h a → stored m h a ≡ m.bytes a
  pub kept : is_plain (m.kinds a) ≡ false → stored m h a ≡ m.bytes a
  -- there is a latest put, or none ever
  pub either : ((v : ℕ) × Latest h a v) ⊎ NeverStrobed h a

-- the request q is the one that the rule picks from the waiting, and the grant answers its master and ID
pub record OwnRequest (ch : Channel) (x : Event) (before : History) (q : Filed) : Type 0 where
  pub picks : own ch before ≡ Some q
  pub rule : Picks ch before q
  -- and it picks no other
  pub only : (p : Filed) → Picks ch before p → p ≡ q
  pub answers : x.answer ≡ Ok (Granted q.request.master q.request.id)

-- a grant of the channel picked the request after its acceptance
abbrev pub GrantedIn : Channel → History → Filed → Type 0
GrantedIn ch h q = Sometime (λ x before. (granting ch x ≡ true) × (q.at < tally before) × (own ch before ≡ Some q)) h

-- the request comes behind all earlier ones of its master, channel and ID, and was not granted before
pub record InOrder (ch : Channel) (before : History) (q : Filed) : Type 0 where
  pub earlier_ones : (p : Filed) → Memᴰ p (requests ch before) → p.at < q.at → same_source p q ≡ true → GrantedIn ch before p
  pub once : GrantedIn ch before q → ⊥

-- every beat of the last granted request was moved
abbrev pub Whole : Option Going → Type 0
Whole None = Unit {0}
Whole (Some g) = g.beats ≡ (burst_of g).count

-- an accepted grant has its own request, in order, and comes when the one before is moved whole
abbrev pub GrantRight : Channel → Event → History → Type 0
GrantRight ch x before = granting ch x ≡ true → (q : Filed) × OwnRequest ch x before q × InOrder ch before q × Whole (current ch before)

-- an accepted put or take comes only where a beat of the last granted request is left
abbrev pub BeatRight : Channel → Event → History → Type 0
BeatRight ch x before = moving ch x ≡ true → (g : Going) × (current ch before ≡ Some g) × (g.beats < (burst_of g).count)

-- the last beat of a write has its single answer, the worst of the responses of its puts; an earlier one has the beats left
abbrev pub PutRight : Board → Event → History → Type 0
PutRight m x before =
    moving Write x ≡ true
    → (g : Going) × (current Write before ≡ Some g)
    × ((g.beats + 1 ≡ (burst_of g).count → x.answer ≡ Ok (Done g.from.request.master g.from.request.id (worst m (x ∷ before))))
    × (g.beats + 1 < (burst_of g).count → x.answer ≡ Ok (More (left (burst_of g) g.beats))))

-- the worst response of the puts since the last grant of a write, as a relation says it
pub record WorstAgrees (m : Board) (h : History) : Type 0 where
  -- none of them went worse
  pub none_worse : EachPutSince (λ x before. response_rank (response_at m (current Write before) x.act) ≤ response_rank (worst m h)) h
  -- one of them went so, unless it is OKAY
  pub one_so : (worst m h ≡ Okay) ⊎ SomePutSince (λ x before. response_at m (current Write before) x.act ≡ worst m h) h

-- if 30 grants of its channel were accepted after an accepted request, one of them was its own
abbrev pub Thirty : Channel → History → Type 0
Thirty ch h = (q : Filed) → Memᴰ q (requests ch h) → 30 ≤ age ch q.at h → GrantedIn ch h q

-- what is owed to any act is the same without the refused acts, and what is left is a run with the same answers
pub record RefusedForgotten (m : Board) (h : History) : Type 0 where
  pub same : (a : Act) → owed m h a ≡ owed m (accepted_acts h) a
  pub alone : Run m (accepted_acts h)

-- the promises of a run
pub record Holds (m : Board) (h : History) : Type 0 where
  -- every act is answered, or refused with its number and layer, as the rules give it for the history before it
  pub answered : Run m h
  -- a slave that stands elsewhere than recorded is never met
  pub in_place : Throughout (λ x before. x.answer ≢ Err Place) h
  -- refused acts change nothing that any later answer depends on
  pub refused : RefusedForgotten m h
  -- accepted takes show the latest writes
  pub takes : Throughout (TakeRight m) h
  -- the held byte of every address is that of the latest put
  pub latest : (a : ℕ) → LatestAgrees m h a
  -- accepted grants answer their own requests, in order, each request at most once, and between two of them all beats were moved
  pub grants : (ch : Channel) → Throughout (GrantRight ch) h
  -- accepted puts and takes are beats of the request granted last, and no more than it has
  pub beats : (ch : Channel) → Throughout (BeatRight ch) h
  -- a write has one answer, the worst response of its puts
  pub puts : Throughout (PutRight m) h
  pub worsts : Throughout (λ x before. WorstAgrees m (x ∷ before)) h
  -- nobody waits for more than 30 grants
  pub thirty : (ch : Channel) → Thirty ch h
