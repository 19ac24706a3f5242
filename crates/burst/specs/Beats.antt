-- Where the beats of a burst lie: addresses, the bytes that a beat covers, and the lanes that they travel in.
use Rattle.std.specs.Prelude.{◌≡◌, ℕ, zero, suc, ◌+◌, ◌-◌, ◌*◌, ◌/◌, ◌%◌, ◌^◌, Bool, false, if◌then◌else◌, ◌&&◌, ◌||◌, Some, None, Ok, Err, Option, Result, ◌==◌, nat_le, nat_lt}
use Rattle.burst.specs.declared.raw.BurstFault.{BurstFault}
use Rattle.burst.specs.declared.raw.RawBurst.{RawBurst}
use Rattle.burst.specs.declared.cover.Cover.{Cover}
use Rattle.burst.specs.declared.burst.Burst.{Burst}
use Rattle.burst.specs.Rules.{kind_code, fault_number, refusal}

-- a checked burst as it was asked for
abbrev pub raw_of : Burst → RawBurst
raw_of b = record { kind = kind_code b.kind; start = b.start; size = b.size; count = b.count }

-- the number of the first rule that a burst breaks on a bus of w bytes, or 0
abbrev pub first_refusal : ℕ → RawBurst → ℕ
first_refusal w r = refusal w r.kind r.start r.size r.count

-- no rule is broken on a bus of w bytes
abbrev pub IsLawful : ℕ → RawBurst → Type 0
IsLawful w b = first_refusal w b ≡ 0

-- the INCR burst of n beats of 2 ^ s bytes from the address a on
abbrev pub incr_burst : ℕ → ℕ → ℕ → RawBurst
incr_burst a s n = record { kind = 1; start = a; size = s; count = n }

-- the number that an answer of a check stands for, 0 where the burst is lawful
abbrev pub answered : {A : Type 0} → Result A BurstFault → ℕ
answered (Ok x) = 0
answered (Err e) = fault_number e

-- INCR: beat 0 is at the start a, and beat j at floor(a / N) × N + j × N
abbrev pub incr_address : ℕ → ℕ → ℕ → ℕ
incr_address a N j = if j == 0 then a else (a / N * N + j * N)

-- the start of the container of C bytes that a WRAP burst goes round in
abbrev pub container : ℕ → ℕ → ℕ
container a C = a / C * C

-- WRAP, n beats: with C = n × N and L the container's start, beat j is at L + ((a − L + j × N) mod C)
abbrev pub wrap_address : ℕ → ℕ → ℕ → ℕ → ℕ
wrap_address a N n j = container a (n * N) + (a - container a (n * N) + j * N) % (n * N)

-- how many beats of a WRAP burst of n beats come before it turns back to its container's start
abbrev pub turn_of : ℕ → ℕ → ℕ → ℕ
turn_of a N n = n - a / N % n

-- the address of beat j; every beat of a FIXED burst is at its start
unfoldable pub address_of : RawBurst → ℕ → ℕ
address_of b j =
    if b.kind == 0 then b.start
    else (if b.kind == 1 then incr_address b.start (2 ^ b.size) j else wrap_address b.start (2 ^ b.size) b.count j)

-- the last byte that a beat of N bytes at the address a covers
abbrev pub last_from : ℕ → ℕ → ℕ
last_from a N = a / N * N + N - 1

-- the last byte that beat j covers; its first is its address
unfoldable pub last_of : RawBurst → ℕ → ℕ
last_of b j = last_from (address_of b j) (2 ^ b.size)

-- the bytes that beat j covers
abbrev pub cover_of : RawBurst → ℕ → Cover
cover_of b j = record { first = address_of b j; last = last_of b j }

-- the address of beat j, none from the count on
abbrev pub address_answer : RawBurst → ℕ → Option ℕ
address_answer b j = if nat_lt j b.count then Some (address_of b j) else None

-- the bytes that beat j covers, none from the count on
abbrev pub cover_answer : RawBurst → ℕ → Option Cover
cover_answer b j = if nat_lt j b.count then Some (cover_of b j) else None

-- whether the address a lies between f and l
abbrev pub covers : ℕ → ℕ → ℕ → Bool
covers f l a = nat_le f a && nat_le a l

-- the container that a WRAP burst goes round in
abbrev pub container_of : RawBurst → Cover
container_of b = record {
  first = container b.start (b.count * 2 ^ b.size);
  last = container b.start (b.count * 2 ^ b.size) + b.count * 2 ^ b.size - 1;
}

-- the span that the beats lie in: the container of a WRAP burst
abbrev pub span_of : RawBurst → Cover
span_of b = if b.kind == 2 then container_of b else record { first = b.start; last = last_of b (b.count - 1) }

-- bit i of a number
abbrev pub bit : ℕ → ℕ → Bool
bit s i = s / 2 ^ i % 2 == 1

-- whether p holds of some number below n
unfoldable pub any_below : (ℕ → Bool) → ℕ → Bool
any_below p zero = false
any_below p (suc i) = any_below p i || p i

-- the number whose bit i, for each i below n, says whether p holds of i
unfoldable pub mask_below : (ℕ → Bool) → ℕ → ℕ
mask_below p zero = 0
mask_below p (suc i) = mask_below p i + (if p i then 2 ^ i else 0)

-- whether one of the bytes f to l, at most eight, travels in lane i of a bus of w bytes: the byte at a travels in lane a mod w
abbrev pub lane_used : ℕ → ℕ → ℕ → ℕ → Bool
lane_used w f l i = any_below (λ k. nat_le (f + k) l && (f + k) % w == i) 8

-- the lanes that a beat covering f to l uses on a bus of w bytes, a bit for each
unfoldable pub lane_mask : ℕ → ℕ → ℕ → ℕ
lane_mask w f l = mask_below (lane_used w f l) 8

-- the lanes of beat j, none from the count on
abbrev pub lanes_answer : ℕ → RawBurst → ℕ → Option ℕ
lanes_answer w b j = if nat_lt j b.count then Some (lane_mask w (address_of b j) (last_of b j)) else None

-- the address whose byte travels in lane i beside the byte at f, on a bus of w bytes
abbrev pub lane_address : ℕ → ℕ → ℕ → ℕ
lane_address w f i = f / w * w + i
