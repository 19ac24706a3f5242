-- Acts that move a frame in beats of eight bytes.
use Rattle.std.specs.Prelude.{ℕ, ◌+◌, ◌*◌, List, map, replicate, ◌==◌}
use Rattle.std.specs.List.{range_with_len}
use Rattle.slave.specs.declared.channels.Channel.{Channel}
use Rattle.fabric.specs.declared.types.Act.{Act}
use Rattle.fabric.specs.declared.types.Act.TheVariants.{Request as Ask, Put, Take}
use Rattle.workload.specs.declared.step.Puts.{Puts}
use Rattle.workload.specs.Carried.{frame_word, frame_strobe}

-- the request of an INCR burst of n beats of eight bytes
abbrev pub row_request : Channel → ℕ → ℕ → ℕ → ℕ → ℕ → Act
row_request ch master id qos start n = Ask ch (record { master = master; id = id; qos = qos; burst = record { kind = 1; start = start; size = 3; count = n } })

-- the put of beat j, which carries the frame's bytes of block number block + j
abbrev pub put_of : List ℕ → Puts → ℕ → Act
put_of frame p j =
    Put p.master (frame_word frame p.start ((p.block + j) * 8)) (frame_strobe frame p.start ((p.block + j) * 8)) (j + 1 == p.beats)

-- the puts of all beats, in order
abbrev pub puts_of : List ℕ → Puts → List Act
puts_of frame p = map (put_of frame p) (range_with_len 0 p.beats)

-- n takes
abbrev pub takes_of : ℕ → List Act
takes_of n = replicate n Take
