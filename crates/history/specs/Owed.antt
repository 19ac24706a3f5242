-- The answer that is owed to each act after a history, over a slave with the bytes and kinds m at the creation.
use Rattle.std.specs.Prelude.{◌≡◌, ℕ, ◌+◌, Bool, if◌then◌else◌, not, ◌||◌, length, is_some, Some, None, Ok, Err, Option, Result, ◌==◌, nat_le, nat_lt}
use Rattle.std.specs.Bool.{beq}
use Rattle.burst.specs.Rules.{fault_at}
use Rattle.burst.specs.Beats.{first_refusal, address_of, last_of}
use Rattle.slave.specs.declared.fault.SlaveFault.TheVariants.{Strobe}
use Rattle.slave.specs.declared.channels.Channel.{Channel}
use Rattle.slave.specs.declared.channels.Channel.TheVariants.{Write, Read}
use Rattle.slave.specs.Lanes.{stray, worse}
use Rattle.slave.specs.Acts.{left}
use Rattle.fabric.specs.declared.types.Request.{Request}
use Rattle.fabric.specs.declared.types.Act.{Act}
use Rattle.fabric.specs.declared.types.Act.TheVariants.{Request as Ask, Grant, Put, Take}
use Rattle.fabric.specs.declared.types.Answer.{Answer}
use Rattle.fabric.specs.declared.types.Answer.TheVariants.{Accepted, Granted, More, Done, Beat}
use Rattle.fabric.specs.declared.types.FabricFault.{FabricFault}
use Rattle.fabric.specs.declared.types.FabricFault.TheVariants.{Unlawful, LastMark, NotOpen, AlreadyOpen, Source, Full, NoneWaiting, OtherMaster, Slave}
use Rattle.history.specs.History.{History, Throughout, Filed, waiting, own, Going, burst_of, opened}
use Rattle.slave.specs.Meaning.{Board}
use Rattle.history.specs.Bytes.{word_read, response_read, response_written, worst}

-- a request of a master above 3 or with a QoS above 15, with an unlawful burst, or where sixteen wait, is refused
unfoldable pub owed_request : Channel → History → Request → Result Answer FabricFault
owed_request ch h q =
    if nat_lt 3 q.master || nat_lt 15 q.qos then Err Source
    else (if nat_lt 0 (first_refusal 8 q.burst) then Err (Unlawful (fault_at (first_refusal 8 q.burst)))
    else (if nat_le 16 (length (waiting ch h)) then Err Full
    else Ok Accepted))

-- a grant answers the master and the ID of the request that it picks
abbrev pub grant_of : Option Filed → Result Answer FabricFault
grant_of None = Err NoneWaiting
grant_of (Some q) = Ok (Granted q.request.master q.request.id)

-- one that finds an open request is refused
unfoldable pub owed_grant : Channel → History → Result Answer FabricFault
owed_grant ch h = if is_some (opened ch h) then Err AlreadyOpen else grant_of (own ch h)

-- the next beat is the burst's last
abbrev pub is_last : Going → Bool
is_last g = g.beats + 1 == (burst_of g).count

-- what a put answers that is not refused: the beats left, or after the last one the worst response
abbrev pub put_of : Board → History → Going → ℕ → Answer
put_of m h g s =
    if is_last g
    then Done g.from.request.master g.from.request.id (worse (worst m h) (response_written m (burst_of g) g.beats s))
    else More (left (burst_of g) g.beats)

-- a put without an open write, of another master, with a wrong last mark, or with a strobe outside the beat's lanes is refused
abbrev pub owed_put_at : Board → History → Option Going → ℕ → ℕ → Bool → Result Answer FabricFault
owed_put_at m h None master s mark = Err NotOpen
owed_put_at m h (Some g) master s mark =
    if not (g.from.request.master == master) then Err OtherMaster
    else (if not (beq mark (is_last g)) then Err LastMark
    else (if stray 8 (address_of (burst_of g) g.beats) (last_of (burst_of g) g.beats) s then Err (Slave Strobe)
    else Ok (put_of m h g s)))

-- what a take answers
abbrev pub take_of : Board → History → Going → Answer
take_of m h g =
    Beat g.from.request.master g.from.request.id (word_read m h (burst_of g) g.beats) (response_read m (burst_of g) g.beats)
    (left (burst_of g) g.beats)

-- a take without an open read is refused
abbrev pub owed_take_at : Board → History → Option Going → Result Answer FabricFault
owed_take_at m h None = Err NotOpen
owed_take_at m h (Some g) = Ok (take_of m h g)

-- the answer that is owed to an act
unfoldable pub owed : Board → History → Act → Result Answer FabricFault
owed m h (Ask ch q) = owed_request ch h q
owed m h (Grant ch) = owed_grant ch h
owed m h (Put master w s mark) = owed_put_at m h (opened Write h) master s mark
owed m h Take = owed_take_at m h (opened Read h)

-- a run: each act has the answer that is owed to it after what came before
abbrev pub Run : Board → History → Type 0
Run m h = Throughout (λ x before. x.answer ≡ owed m before x.act) h
