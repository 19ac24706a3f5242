-- Eight bursts of 16 beats of 8 bytes, one behind the other, each written and then read back.
use Rattle.std.specs.Prelude.{ℕ, zero, suc, ◌+◌, ◌*◌, ◌%◌, ◌^◌, Bool, false, Ok, Err, Result, ◌==◌, if◌then◌else◌}
use Rattle.burst.specs.declared.raw.RawBurst.{RawBurst}
use Rattle.slave.specs.declared.channels.Channel.TheVariants.{Write, Read}
use Rattle.slave.specs.declared.response.Response.{Response}
use Rattle.slave.specs.declared.fault.SlaveFault.{SlaveFault}
use Rattle.slave.specs.Acts.{open_after, give_after, take_answer, take_after}
use Rattle.slave.specs.Meaning.{Meaning}

-- the burst at a start
abbrev pub burst_of : ℕ → RawBurst
burst_of start = record { kind = 1; start = start; size = 3; count = 16 }

-- the word of its beat j: no two beats have the same
abbrev pub word_of : ℕ → ℕ → ℕ
word_of start j = (start + j + 1) * 0x0123456789abcdef % 2 ^ 64

-- a slave that was given n beats of the burst
unfoldable pub given : Meaning → ℕ → ℕ → Meaning
given m start zero = m
given m start (suc j) = give_after (given m start j) (word_of start j) 255

-- a slave with the whole burst written
abbrev pub written : Meaning → ℕ → Meaning
written m start = given (open_after m Write (burst_of start)) start 16

-- a slave of which n beats were taken
unfoldable pub taken : Meaning → ℕ → Meaning
taken m zero = m
taken m (suc j) = take_after (taken m j)

-- a beat was taken, and its word is this one
abbrev pub brings : Result (ℕ × Response × ℕ) SlaveFault → ℕ → Bool
brings (Ok x) word = x.0 == word
brings (Err e) word = false

-- how many of n beats that are taken bring the words of the burst at a start
unfoldable pub count_back : Meaning → ℕ → ℕ → ℕ
count_back m start zero = 0
count_back m start (suc j) =
    count_back m start j + (if brings (take_answer (taken m j)) (word_of start j) then 1 else 0)

-- a slave with the burst opened to be read
abbrev pub asked : Meaning → ℕ → Meaning
asked m start = open_after m Read (burst_of start)

-- a slave that n bursts were moved over, from the address 0 on
unfoldable pub moved : Meaning → ℕ → Meaning
moved m zero = m
moved m (suc k) = taken (asked (written (moved m k) (128 * k)) (128 * k)) 16

-- how many beats of n bursts came back as they were given
unfoldable pub beats_back : Meaning → ℕ → ℕ
beats_back m zero = 0
beats_back m (suc k) = beats_back m k + count_back (asked (written (moved m k) (128 * k)) (128 * k)) (128 * k) 16
