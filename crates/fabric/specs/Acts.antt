-- What each call of the fabric answers, and the channel and the slave after it. A refused call leaves both as they were.
use Rattle.std.specs.Prelude.{ℕ, Bool, if◌then◌else◌, not, ◌&&◌, ◌||◌, [], ◌∷◌, ◌++◌, map, Some, None, Ok, Err, Option, Result, ◌==◌, nat_lt}
use Rattle.std.specs.Bool.{beq}
use Rattle.std.specs.List.{remove}
use Rattle.burst.specs.declared.raw.RawBurst.{RawBurst}
use Rattle.burst.specs.Rules.{fault_at}
use Rattle.burst.specs.Beats.{first_refusal}
use Rattle.slave.specs.declared.response.Response.{Response}
use Rattle.slave.specs.declared.fault.SlaveFault.{SlaveFault}
use Rattle.slave.specs.declared.channels.Channel.{Channel}
use Rattle.slave.specs.declared.channels.Channel.TheVariants.{Write, Read}
use Rattle.slave.specs.declared.given.Given.{Given}
use Rattle.slave.specs.declared.given.Given.TheVariants.{More as GivenMore, Done as GivenDone}
use Rattle.slave.specs.Meaning.{Meaning, stand_at, is_idle, is_at}
use Rattle.slave.specs.Making.{ready}
use Rattle.slave.specs.Acts.{open_answer, open_after, give_answer, give_after}
use Rattle.slave.specs.Acts.{take_answer as slave_take_answer, take_after as slave_take_after}
use Rattle.fabric.specs.declared.types.Request.{Request}
use Rattle.fabric.specs.declared.types.Answer.{Answer}
use Rattle.fabric.specs.declared.types.Answer.TheVariants.{Accepted, Granted, More, Done, Beat}
use Rattle.fabric.specs.declared.types.FabricFault.{FabricFault}
use Rattle.fabric.specs.declared.types.FabricFault.TheVariants.{Unlawful, LastMark, NotOpen, AlreadyOpen, Source, NoneWaiting, OtherMaster, Place, Below, Slave}
use Rattle.fabric.specs.declared.row.Open.{Open}
use Rattle.fabric.specs.Rows.{row_at, fresh, older, opening, is_last, moved}
use Rattle.fabric.specs.Picking.{choice}
use Rattle.fabric.specs.Waits.{room_answer}
use Rattle.fabric.specs.Channels.{Queue, with_open}

-- an answer that further tests may refuse
abbrev pub passed : {A B : Type 0} → Result A FabricFault → (A → Result B FabricFault) → Result B FabricFault
passed (Ok x) f = f x
passed (Err e) f = Err e

-- what stands where the tests are passed, and what stood before where they are not
abbrev pub where_passed : {A B : Type 0} → Result A FabricFault → B → (A → B) → B
where_passed (Ok x) before f = f x
where_passed (Err e) before f = before

-- a slave's answer as the fabric carries it: its fault whole
abbrev pub carried : {A : Type 0} → Result A SlaveFault → Result A FabricFault
carried (Ok x) = Ok x
carried (Err e) = Err (Slave e)

-- a fabric may stand over this slave: live, idle, full and of width 8
abbrev pub fits_below : Meaning → Bool
fits_below m = ready m && (m.full && m.width == 8)

-- what create answers
abbrev pub create_answer : Meaning → Result (Unit {0}) FabricFault
create_answer m = if fits_below m then Ok tt else Err Below

-- a burst that is lawful for width 8
abbrev pub lawful_answer : RawBurst → Result (Unit {0}) FabricFault
lawful_answer b = if first_refusal 8 b == 0 then Ok tt else Err (Unlawful (fault_at (first_refusal 8 b)))

-- a master above 3 or a QoS above 15 is no source of requests
abbrev pub source_answer : Request → Result (Unit {0}) FabricFault
source_answer r = if nat_lt 3 r.master || nat_lt 15 r.qos then Err Source else Ok tt

-- the tests of a request: its source, its burst, then the room
abbrev pub request_test : Queue → Request → Result (Unit {0}) FabricFault
request_test q r = passed (source_answer r) (λ _. passed (lawful_answer r.burst) (λ _. room_answer q.rows))

-- what request answers
abbrev pub request_answer : Queue → Request → Result Answer FabricFault
request_answer q r = passed (request_test q r) (λ _. Ok Accepted)

-- the channel after a request: it waits behind all others
abbrev pub request_after : Queue → Request → Queue
request_after q r = where_passed (request_test q r) q (λ _. record q { rows = q.rows ++ (fresh r ∷ []) })

-- the row that a grant picks where no request is open
abbrev pub grant_row : Option Open → Option ℕ → Result ℕ FabricFault
grant_row (Some o) k = Err AlreadyOpen
grant_row None None = Err NoneWaiting
grant_row None (Some k) = Ok k

-- the tests of a grant: no open request, a picked one, the slave's idle place
abbrev pub grant_test : Queue → Meaning → Channel → Result ℕ FabricFault
grant_test q m ch = passed (grant_row q.current (choice q.rows)) (λ k. if is_idle (stand_at m ch) then Ok k else Err Place)

-- the request of row k
abbrev pub request_at : Queue → ℕ → Request
request_at q k = (row_at q.rows k).request

-- what the slave answers where row k is opened, carried
abbrev pub opens : Queue → Meaning → Channel → ℕ → Result (Unit {0}) FabricFault
opens q m ch k = carried (open_answer m ch (request_at q k).burst)

-- the answer where row k is opened: its master and ID
abbrev pub open_row_answer : Queue → Meaning → Channel → ℕ → Result Answer FabricFault
open_row_answer q m ch k = passed (opens q m ch k) (λ _. Ok (Granted (request_at q k).master (request_at q k).id))

-- the channel then: row k is open, and those still waiting get one more age
abbrev pub open_row_after : Queue → Meaning → Channel → ℕ → Queue
open_row_after q m ch k = where_passed (opens q m ch k) q (λ _. record { rows = map older (remove q.rows k); current = Some (opening (request_at q k)) })

-- the slave then
abbrev pub open_row_slave : Queue → Meaning → Channel → ℕ → Meaning
open_row_slave q m ch k = open_after m ch (request_at q k).burst

-- what grant answers
abbrev pub grant_answer : Queue → Meaning → Channel → Result Answer FabricFault
grant_answer q m ch = passed (grant_test q m ch) (open_row_answer q m ch)

-- the channel after a grant
abbrev pub grant_after : Queue → Meaning → Channel → Queue
grant_after q m ch = where_passed (grant_test q m ch) q (open_row_after q m ch)

-- the slave after a grant
abbrev pub grant_slave : Queue → Meaning → Channel → Meaning
grant_slave q m ch = where_passed (grant_test q m ch) m (open_row_slave q m ch)

-- the slave stands at the recorded burst and beat of a channel
abbrev pub stands : Open → Meaning → Channel → Bool
stands o m ch = is_at o.request.burst o.taken (stand_at m ch)

-- the tests of a put: an open write, its master, the slave's place, the last mark
abbrev pub put_test : Option Open → Meaning → ℕ → Bool → Result Open FabricFault
put_test None m master last = Err NotOpen
put_test (Some o) m master last =
    if not (o.request.master == master) then Err OtherMaster
    else if not (stands o m Write) then Err Place
    else if beq last (is_last o) then Ok o else Err LastMark

-- what the fabric makes of a give's answer
abbrev pub put_given : Open → Given → Answer
put_given o (GivenMore n) = More n
put_given o (GivenDone r) = Done o.request.master o.request.id r

-- what put answers
abbrev pub put_answer : Queue → Meaning → ℕ → ℕ → ℕ → Bool → Result Answer FabricFault
put_answer q m master w s last = passed (put_test q.current m master last) (λ o. passed (carried (give_answer m w s)) (λ g. Ok (put_given o g)))

-- the channel after a put
abbrev pub put_after : Queue → Meaning → ℕ → ℕ → ℕ → Bool → Queue
put_after q m master w s last =
    where_passed (put_test q.current m master last) q (λ o. where_passed (carried (give_answer m w s)) q (λ _. with_open (moved o) q))

-- the slave after a put
abbrev pub put_slave : Queue → Meaning → ℕ → ℕ → ℕ → Bool → Meaning
put_slave q m master w s last = where_passed (put_test q.current m master last) m (λ _. give_after m w s)

-- the tests of a take: an open read, and the slave's place
abbrev pub take_test : Option Open → Meaning → Result Open FabricFault
take_test None m = Err NotOpen
take_test (Some o) m = if stands o m Read then Ok o else Err Place

-- what the fabric makes of a beat that the slave shows
abbrev pub take_shown : Open → ℕ × Response × ℕ → Answer
take_shown o x = Beat o.request.master o.request.id x.0 x.1 x.2

-- what take answers
abbrev pub take_answer : Queue → Meaning → Result Answer FabricFault
take_answer q m = passed (take_test q.current m) (λ o. passed (carried (slave_take_answer m)) (λ x. Ok (take_shown o x)))

-- the channel after a take
abbrev pub take_after : Queue → Meaning → Queue
take_after q m = where_passed (take_test q.current m) q (λ o. where_passed (carried (slave_take_answer m)) q (λ _. with_open (moved o) q))

-- the slave after a take
abbrev pub take_slave : Queue → Meaning → Meaning
take_slave q m = where_passed (take_test q.current m) m (λ _. slave_take_after m)
