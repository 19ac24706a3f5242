-- Words by their lanes, responses, and what a beat reads and writes.
use Rattle.std.specs.Prelude.{ℕ, zero, suc, ◌+◌, ◌*◌, ◌/◌, ◌%◌, ◌^◌, Bool, true, false, if◌then◌else◌, not, ◌&&◌, nat_lt}
use Rattle.burst.specs.declared.cover.Cover.{Cover}
use Rattle.burst.specs.Beats.{covers, lane_address, lane_mask, bit, any_below}
use Rattle.slave.specs.declared.response.Response.{Response}
use Rattle.slave.specs.declared.response.Response.TheVariants.{Okay, SlvErr, DecErr}
use Rattle.slave.specs.Meaning.{ByteKind, plain, read_only, absent, unmapped, Board}

-- the byte in lane i of a word
abbrev pub lane_byte : ℕ → ℕ → ℕ
lane_byte w i = w / 2 ^ (8 * i) % 256

-- the word with the byte f i in lane i
abbrev pub word_of : (ℕ → ℕ) → ℕ
word_of f = f 0 + f 1 * 256 + f 2 * 65536 + f 3 * 16777216 + f 4 * 4294967296 + f 5 * 1099511627776 + f 6 * 281474976710656 + f 7 * 72057594037927936

-- the number of a response; worse is larger
abbrev pub rank : Response → ℕ
rank Okay = 0
rank SlvErr = 2
rank DecErr = 3

-- the worse of two responses
abbrev pub worse : Response → Response → Response
worse a b = if nat_lt (rank a) (rank b) then b else a

-- the worst response of the lanes below n
unfoldable pub worst_lane : (ℕ → Response) → ℕ → Response
worst_lane f zero = Okay
worst_lane f (suc i) = worse (worst_lane f i) (f i)

-- a strobe has a bit outside the lanes of a mask
abbrev pub outside : ℕ → ℕ → Bool
outside mask s = any_below (λ i. bit s i && not (bit mask i)) 8

-- a strobe bit lies outside the lanes that the beat covering f to l uses on a bus of w bytes
abbrev pub stray : ℕ → ℕ → ℕ → ℕ → Bool
stray w f l s = outside (lane_mask w f l) s

-- how a write of a byte of this kind goes
abbrev pub write_response : ByteKind → Response
write_response plain = Okay
write_response read_only = SlvErr
write_response absent = SlvErr
write_response unmapped = DecErr

-- how a read of a byte of this kind goes
abbrev pub read_response : ByteKind → Response
read_response plain = Okay
read_response read_only = Okay
read_response absent = SlvErr
read_response unmapped = DecErr

-- the byte takes writes
abbrev pub is_plain : ByteKind → Bool
is_plain plain = true
is_plain read_only = false
is_plain absent = false
is_plain unmapped = false

-- what a read shows of a byte of this kind
abbrev pub shown_of : ByteKind → ℕ → ℕ
shown_of plain b = b
shown_of read_only b = b
shown_of absent b = 0
shown_of unmapped b = 0

-- what a read shows of the byte at a
abbrev pub shown : Board → ℕ → ℕ
shown d a = shown_of (d.kinds a) (d.bytes a)

-- the word of a read beat that covers c, on a bus of w bytes: each covered byte in its lane, all other lanes 0
abbrev pub read_word : Board → ℕ → Cover → ℕ
read_word d w c =
    word_of (λ i. if covers c.first c.last (lane_address w c.first i) then shown d (lane_address w c.first i) else 0)

-- its response, the worst over the covered bytes
abbrev pub read_worst : Board → ℕ → Cover → Response
read_worst d w c =
    worst_lane (λ i. if covers c.first c.last (lane_address w c.first i) then read_response (d.kinds (lane_address w c.first i)) else Okay) 8

-- the response of a write beat that covers c with the strobe s, the worst over the strobed bytes
abbrev pub write_worst : Board → ℕ → Cover → ℕ → Response
write_worst d w c s = worst_lane (λ i. if bit s i then write_response (d.kinds (lane_address w c.first i)) else Okay) 8

-- the bytes after it: each strobed byte at a plain address takes its lane's byte of the word
abbrev pub written : Board → ℕ → Cover → ℕ → ℕ → (ℕ → ℕ)
written d w c word s = λ a.
    if (covers c.first c.last a && bit s (a % w)) && is_plain (d.kinds a) then lane_byte word (a % w) else d.bytes a
