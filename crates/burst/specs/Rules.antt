-- Which bursts are lawful, and the number of each refusal.
use Rattle.std.specs.Prelude.{ℕ, ◌+◌, ◌*◌, ◌%◌, ◌^◌, ◌≤◌, Bool, if◌then◌else◌, not, ◌&&◌, ◌||◌, ◌==◌, nat_lt}
use Rattle.burst.specs.declared.raw.BurstKind.{BurstKind}
use Rattle.burst.specs.declared.raw.BurstKind.TheVariants.{Fixed, Incr, Wrap}
use Rattle.burst.specs.declared.width.Width.{Width}
use Rattle.burst.specs.declared.width.Width.TheVariants.{One, Two, Four, Eight}
use Rattle.burst.specs.declared.raw.BurstFault.{BurstFault}
use Rattle.burst.specs.declared.raw.BurstFault.TheVariants.{Kind, Size, Count, Start, Page}

-- the bytes that a bus carries at once
abbrev pub width_bytes : Width → ℕ
width_bytes One = 1
width_bytes Two = 2
width_bytes Four = 4
width_bytes Eight = 8

-- the number of a kind
abbrev pub kind_code : BurstKind → ℕ
kind_code Fixed = 0
kind_code Incr = 1
kind_code Wrap = 2

-- the number of a refusal
abbrev pub fault_number : BurstFault → ℕ
fault_number Kind = 1
fault_number Size = 2
fault_number Count = 3
fault_number Start = 4
fault_number Page = 5

-- the counts that a WRAP burst may have
abbrev pub wrap_count : ℕ → Bool
wrap_count n = n == 2 || (n == 4 || (n == 8 || n == 16))

-- n beats are none or over 256, over 16 for FIXED, or not 2, 4, 8 or 16 for WRAP; k is the kind
abbrev pub bad_count : ℕ → ℕ → Bool
bad_count k n = (n == 0 || nat_lt 256 n) || ((k == 0 && nat_lt 16 n) || (k == 2 && not (wrap_count n)))

-- a WRAP burst starts off a multiple of its 2 ^ s bytes
abbrev pub bad_start : ℕ → ℕ → ℕ → Bool
bad_start k a s = k == 2 && not (a % 2 ^ s == 0)

-- m beats of N bytes from the address a on pass the end of its page of 4,096 bytes
abbrev pub leaves_page : ℕ → ℕ → ℕ → Bool
leaves_page a N m = nat_lt 4096 (a % 4096 + m * N)

-- the same beats keep to that page
abbrev pub KeepsPage : ℕ → ℕ → ℕ → Type 0
KeepsPage a N m = a % 4096 + m * N ≤ 4096

-- the page rule counts every beat of an INCR burst, and one of a FIXED burst; a WRAP burst never leaves its page
abbrev pub bad_page : ℕ → ℕ → ℕ → ℕ → Bool
bad_page k a s n = (k == 1 && leaves_page a (2 ^ s) n) || (k == 0 && leaves_page a (2 ^ s) 1)

-- the number of the first rule that a burst breaks on a bus of w bytes, or 0: kind k, start a, beats of 2 ^ s bytes, n beats
abbrev pub refusal : ℕ → ℕ → ℕ → ℕ → ℕ → ℕ
refusal w k a s n =
    if nat_lt 2 k then 1
    else (if nat_lt w (2 ^ s) then 2
    else (if bad_count k n then 3
    else (if bad_start k a s then 4
    else (if bad_page k a s n then 5 else 0))))

-- the fault that has a number from 1 to 5
abbrev pub fault_at : ℕ → BurstFault
fault_at n = if n == 1 then Kind else (if n == 2 then Size else (if n == 3 then Count else (if n == 4 then Start else Page)))
