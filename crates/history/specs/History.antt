-- Histories of acts with their answers: which requests wait, which one a grant picks, and which beat comes next.
use Rattle.std.specs.Prelude.{◌≡◌, ℕ, ◌+◌, ◌<◌, ◌≤◌, min, Bool, true, false, if◌then◌else◌, not, ◌&&◌, ◌||◌, ◌⊎◌, List, [], ◌∷◌, ◌++◌, Some, None, Ok, Err, filter, Option, Result, ◌==◌, ◌≢◌, nat_lt}
use mathlib.Core.List.{Memᴰ}
use Rattle.burst.specs.declared.raw.RawBurst.{RawBurst}
use Rattle.slave.specs.declared.channels.Channel.{Channel}
use Rattle.slave.specs.declared.channels.Channel.TheVariants.{Write, Read}
use Rattle.fabric.specs.declared.types.Request.{Request}
use Rattle.fabric.specs.declared.types.Act.{Act}
use Rattle.fabric.specs.declared.types.Act.TheVariants.{Request as Ask, Grant, Put, Take}
use Rattle.fabric.specs.declared.types.Answer.{Answer}
use Rattle.fabric.specs.declared.types.FabricFault.{FabricFault}

-- an act with its answer
pub record Event : Type 0 where
  pub act : Act
  pub answer : Result Answer FabricFault

-- what happened since the creation, the newest event first
abbrev pub History : Type 0
History = List Event

-- P holds of each event with the history before it
abbrev pub Throughout : (Event → History → Type 0) → History → Type 0
Throughout P [] = Unit {0}
Throughout P (x ∷ before) = P x before × Throughout P before

-- P holds of some event with the history before it
abbrev pub Sometime : (Event → History → Type 0) → History → Type 0
Sometime P [] = ⊥
Sometime P (x ∷ before) = P x before ⊎ Sometime P before

-- an act is accepted if it is not refused
abbrev pub accepted : Result Answer FabricFault → Bool
accepted (Ok a) = true
accepted (Err e) = false

-- how many acts were accepted; an accepted act's number is how many were accepted before it
unfoldable pub tally : History → ℕ
tally [] = 0
tally (x ∷ before) = (if accepted x.answer then 1 else 0) + tally before

-- a history without its refused acts
unfoldable pub accepted_acts : History → History
accepted_acts h = filter (λ x. accepted x.answer) h

-- two channels are one
abbrev pub same : Channel → Channel → Bool
same Write Write = true
same Write Read = false
same Read Write = false
same Read Read = true

-- what an act requests of a channel
abbrev pub asks : Channel → Act → Option Request
asks ch (Ask c q) = if same ch c then Some q else None
asks ch (Grant c) = None
asks ch (Put m w s l) = None
asks ch Take = None

-- the request that an event has accepted in a channel
abbrev pub asked : Channel → Event → Option Request
asked ch x = if accepted x.answer then asks ch x.act else None

-- the act is a grant of the channel
abbrev pub grants : Channel → Act → Bool
grants ch (Ask c q) = false
grants ch (Grant c) = same ch c
grants ch (Put m w s l) = false
grants ch Take = false

-- the event is an accepted grant of the channel
abbrev pub granting : Channel → Event → Bool
granting ch x = accepted x.answer && grants ch x.act

-- the act is a put, for the write channel, or a take, for the read channel
abbrev pub moves : Channel → Act → Bool
moves ch (Ask c q) = false
moves ch (Grant c) = false
moves ch (Put m w s l) = same ch Write
moves ch Take = same ch Read

-- the event is an accepted put or take of the channel
abbrev pub moving : Channel → Event → Bool
moving ch x = accepted x.answer && moves ch x.act

-- an accepted request with its act's number
pub record Filed : Type 0 where
  pub at : ℕ
  pub request : Request

-- what an event with the number t adds to the accepted requests
abbrev pub filed : ℕ → Option Request → List Filed
filed t None = []
filed t (Some q) = record { at = t; request = q } ∷ []

-- the accepted requests of a channel, in order of acceptance
unfoldable pub requests : Channel → History → List Filed
requests ch [] = []
requests ch (x ∷ before) = requests ch before ++ filed (tally before) (asked ch x)

-- the age of a request with the number t: its channel's grants that were accepted since
unfoldable pub age : Channel → ℕ → History → ℕ
age ch t [] = 0
age ch t (x ∷ before) = (if granting ch x && nat_lt t (tally before) then 1 else 0) + age ch t before

-- two requests are of one master and ID
abbrev pub same_source : Filed → Filed → Bool
same_source p q = p.request.master == q.request.master && p.request.id == q.request.id

-- an earlier one of the same master and ID waits before q
unfoldable pub blocked : List Filed → Filed → Bool
blocked [] q = false
blocked (p ∷ ps) q = (nat_lt p.at q.at && same_source p q) || blocked ps q

-- the candidates among the waiting
unfoldable pub candidates : List Filed → List Filed
candidates ws = filter (λ q. not (blocked ws q)) ws

-- the rank is the smaller of 15 and QoS + age
unfoldable pub rank : Channel → History → Filed → ℕ
rank ch h q = min 15 (q.request.qos + age ch q.at h)

-- p, unless a later one is higher
abbrev pub better : (Filed → ℕ) → Filed → Option Filed → Filed
better r p None = p
better r p (Some q) = if nat_lt (r p) (r q) then q else p

-- the highest of a list, among equals the first
unfoldable pub best : (Filed → ℕ) → List Filed → Option Filed
best r [] = None
best r (p ∷ ps) = Some (better r p (best r ps))

-- the request that a grant picks from the waiting ones
unfoldable pub pick : Channel → History → List Filed → Option Filed
pick ch h ws = best (rank ch h) (candidates ws)

-- q is one of these
unfoldable pub among : List Filed → Filed → Bool
among [] q = false
among (p ∷ ps) q = p.at == q.at || among ps q

-- the requests qs without those that were picked
unfoldable pub unpicked : List Filed → List Filed → List Filed
unpicked ps qs = filter (λ q. not (among ps q)) qs

-- one more, if there is one
abbrev pub with_one : Option Filed → List Filed → List Filed
with_one None ps = ps
with_one (Some p) ps = p ∷ ps

-- the requests that the accepted grants of a channel have picked
unfoldable pub picked : Channel → History → List Filed
picked ch [] = []
picked ch (x ∷ before) =
    let ps = picked ch before in
    if granting ch x then with_one (pick ch before (unpicked ps (requests ch before))) ps else ps

-- waiting are the accepted requests that no accepted grant has picked yet
unfoldable pub waiting : Channel → History → List Filed
waiting ch h = unpicked (picked ch h) (requests ch h)

-- the own request of a grant that is accepted after the history h
unfoldable pub own : Channel → History → Option Filed
own ch h = pick ch h (waiting ch h)

-- the rule of a grant as a relation: it picks q
pub record Picks (ch : Channel) (h : History) (q : Filed) : Type 0 where
  -- q waits, and no earlier one of its master and ID does
  pub waits : Memᴰ q (waiting ch h)
  pub first : (p : Filed) → Memᴰ p (waiting ch h) → p.at < q.at → same_source p q ≢ true
  -- no candidate has a higher rank, and none of the same rank was accepted earlier
  pub highest : (p : Filed) → Memᴰ p (waiting ch h)
      → ((o : Filed) → Memᴰ o (waiting ch h) → o.at < p.at → same_source o p ≢ true)
      → (rank ch h p < rank ch h q) ⊎ ((rank ch h p ≡ rank ch h q) × (q.at ≤ p.at))

-- the own request of a channel's last accepted grant, and how many of the channel's puts or takes were accepted since
pub record Going : Type 0 where
  pub from : Filed
  pub beats : ℕ

-- a request that was granted just now
abbrev pub started : Option Filed → Option Going
started None = None
started (Some q) = Some (record { from = q; beats = 0 })

-- one beat more
abbrev pub one_more : Option Going → Option Going
one_more None = None
one_more (Some g) = Some (record g { beats = g.beats + 1 })

-- what goes on in a channel since its last accepted grant: put or take number j has beat j of the own request's burst
unfoldable pub current : Channel → History → Option Going
current ch [] = None
current ch (x ∷ before) =
    if granting ch x then started (own ch before)
    else if moving ch x then one_more (current ch before) else current ch before

-- its burst
abbrev pub burst_of : Going → RawBurst
burst_of g = g.from.request.burst

-- unless all of its beats were moved
abbrev pub unfinished : Option Going → Option Going
unfinished None = None
unfinished (Some g) = if nat_lt g.beats (burst_of g).count then Some g else None

-- the open request of a channel
unfoldable pub opened : Channel → History → Option Going
opened ch h = unfinished (current ch h)
