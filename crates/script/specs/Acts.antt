-- Acts as records: what each code uses, and that nothing else stands.
use Rattle.std.specs.Prelude.{ℕ, ◌+◌, ◌-◌, Bool, true, if◌then◌else◌, ◌&&◌, List, ◌++◌, length, drop, Some, None, Ok, Err, Option, Result, ◌==◌, nat_le}
use Rattle.slave.specs.declared.channels.Channel.{Channel}
use Rattle.slave.specs.declared.channels.Channel.TheVariants.{Write, Read}
use Rattle.fabric.specs.declared.types.Act.{Act}
use Rattle.fabric.specs.declared.types.Act.TheVariants.{Request, Grant, Put, Take}
use Rattle.fabric.specs.declared.types.Request.{Request as Asked}
use Rattle.script.specs.declared.fault.ScriptFault.{ScriptFault}
use Rattle.script.specs.declared.fault.ScriptFault.TheVariants.{Record as BadRecord, Short}
use Rattle.script.specs.declared.code.Code.{Code}
use Rattle.script.specs.declared.code.Code.TheVariants.{RequestWrite, RequestRead, GrantWrite, GrantRead, Put as PutCode, Take as TakeCode}
use Rattle.script.specs.declared.record.Record.{Record}
use Rattle.script.specs.Codes.{code_number, code_of}
use Rattle.script.specs.Records.{read_record, record_bytes}

-- the request of a record
abbrev pub request_of : Record → Asked
request_of r = record { master = r.master; id = r.id; qos = r.qos; burst = record { kind = r.kind; start = r.address; size = r.size; count = r.further + 1 } }

-- the act of a code and the fields that it uses
abbrev pub act_given : Code → Record → Act
act_given RequestWrite r = Request Write (request_of r)
act_given RequestRead r = Request Read (request_of r)
act_given GrantWrite r = Grant Write
act_given GrantRead r = Grant Read
act_given PutCode r = Put r.master r.word r.strobe (r.last == 1)
act_given TakeCode r = Take

-- nothing of a request's burst stands, but for the master
abbrev pub no_burst : Record → Bool
no_burst r = r.id == 0 && (r.qos == 0 && (r.kind == 0 && (r.size == 0 && (r.further == 0 && r.address == 0))))

-- nothing of a put's beat stands, but for the master
abbrev pub no_beat : Record → Bool
no_beat r = r.last == 0 && (r.strobe == 0 && r.word == 0)

-- nothing stands that the code does not use, and a last mark is 0 or 1
abbrev pub fits_code : Code → Record → Bool
fits_code RequestWrite r = no_beat r && r.zeros == 0
fits_code RequestRead r = no_beat r && r.zeros == 0
fits_code PutCode r = no_burst r && (r.zeros == 0 && nat_le r.last 1)
fits_code GrantWrite r = r.master == 0 && (no_burst r && (no_beat r && r.zeros == 0))
fits_code GrantRead r = r.master == 0 && (no_burst r && (no_beat r && r.zeros == 0))
fits_code TakeCode r = r.master == 0 && (no_burst r && (no_beat r && r.zeros == 0))

-- a record that codes 0 and 1 take: a request
abbrev pub request_answer : Channel → Record → Result Act ScriptFault
request_answer channel r = if no_beat r && r.zeros == 0 then Ok (Request channel (request_of r)) else Err BadRecord

-- a record that code 4 takes: a put, with a last mark of 0 or 1
abbrev pub put_answer : Record → Result Act ScriptFault
put_answer r = if no_burst r && (r.zeros == 0 && nat_le r.last 1) then Ok (Put r.master r.word r.strobe (r.last == 1)) else Err BadRecord

-- a record that codes 2, 3 and 5 take: nothing but the code
abbrev pub bare_answer : Act → Record → Result Act ScriptFault
bare_answer act r = if r.master == 0 && (no_burst r && (no_beat r && r.zeros == 0)) then Ok act else Err BadRecord

-- the act of a record by its code
abbrev pub act_of : Record → Result Act ScriptFault
act_of r =
    if r.code == 0 then request_answer Write r
    else (if r.code == 1 then request_answer Read r
    else (if r.code == 2 then bare_answer (Grant Write) r
    else (if r.code == 3 then bare_answer (Grant Read) r
    else (if r.code == 4 then put_answer r
    else (if r.code == 5 then bare_answer Take r
    else Err BadRecord)))))

-- the act of a record, if bytes are one
abbrev pub act_in : Option Record → Result Act ScriptFault
act_in (Some r) = act_of r
act_in None = Err BadRecord

-- what reading an act answers
abbrev pub read_act : List ℕ → Result Act ScriptFault
read_act bytes = act_in (read_record bytes)

-- a record can hold the act: a request has 1 to 256 beats; a last mark is 0 or 1 by its type
abbrev pub writable : Act → Bool
writable (Request channel q) = nat_le 1 q.burst.count && nat_le q.burst.count 256
writable (Grant channel) = true
writable (Put master word strobe last) = true
writable Take = true

-- a record with a code and nothing else
abbrev pub only : Code → Record
only code = record { code = code_number code; master = 0; id = 0; qos = 0; kind = 0; size = 0; further = 0; last = 0; address = 0; strobe = 0; zeros = 0; word = 0 }

-- the record of an act
abbrev pub act_record : Act → Record
act_record (Request channel q) =
    record (only (code_of (Request channel q))) {
      master = q.master;
      id = q.id;
      qos = q.qos;
      kind = q.burst.kind;
      size = q.burst.size;
      further = q.burst.count - 1;
      address = q.burst.start;
    }
act_record (Grant channel) = only (code_of (Grant channel))
act_record (Put master word strobe last) = record (only PutCode) { master = master; last = if last then 1 else 0; strobe = strobe; word = word }
act_record Take = only TakeCode

-- the record of an act, if one can hold it
abbrev pub record_answer : Act → Result Record ScriptFault
record_answer act = if writable act then Ok (act_record act) else Err BadRecord

-- the 24 bytes of an act
abbrev pub act_bytes : Act → List ℕ
act_bytes act = record_bytes (act_record act)

-- what writing an act into a buffer answers: first the act is tested, then the buffer
abbrev pub write_answer : Act → List ℕ → Result ℕ ScriptFault
write_answer act out = if writable act then (if nat_le 24 (length out) then Ok 24 else Err Short) else Err BadRecord

-- a buffer after an act was written to its front, or as it was
abbrev pub written : Act → List ℕ → List ℕ
written act out = if writable act && nat_le 24 (length out) then act_bytes act ++ drop 24 out else out
