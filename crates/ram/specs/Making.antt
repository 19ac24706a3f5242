-- Which memory may be made a slave.
use Rattle.std.specs.Prelude.{ℕ, ◌%◌, Bool, if◌then◌else◌, ◌&&◌, ◌==◌, nat_le}
use Rattle.slave.specs.Making.{is_width}

-- a most is 1 to 256 beats
abbrev pub is_most : ℕ → Bool
is_most most = nat_le 1 most && nat_le most 256

-- memory has one page to 1,048,576 bytes, in whole pages
abbrev pub is_memory : ℕ → Bool
is_memory n = (n % 4096 == 0 && nat_le 4096 n) && nat_le n 1048576

-- the number of the first rule that the width, the most and the memory's length break, or 0
abbrev pub make_refusal : ℕ → ℕ → ℕ → ℕ
make_refusal w most n = if is_width w && is_most most then (if is_memory n then 0 else 17) else 16
