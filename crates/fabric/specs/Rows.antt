-- Waiting requests in order of acceptance, the rule that picks one of them, and the open request.
use Rattle.std.specs.Prelude.{◌≡◌, ℕ, ◌+◌, ◌<◌, ◌≤◌, min, Bool, true, if◌then◌else◌, ◌&&◌, List, [], length, Some, None, Option, ◌==◌, ◌≢◌, nat_lt, slice_index_or}
use Rattle.fabric.specs.declared.types.Request.{Request}
use Rattle.fabric.specs.declared.row.Row.{Row}
use Rattle.fabric.specs.declared.row.Open.{Open}

-- what stands past the end of a list of rows
abbrev pub no_row : Row
no_row = record { request = record { master = 0; id = 0; qos = 0; burst = record { kind = 0; start = 0; size = 0; count = 0 } }; age = 0 }

-- the waiting request number i, from 0
abbrev pub row_at : List Row → ℕ → Row
row_at rows i = slice_index_or rows i no_row

-- a request as it begins to wait
abbrev pub fresh : Request → Row
fresh r = record { request = r; age = 0 }

-- one more age; at 15 it stays, since the rank is then the highest
abbrev pub older : Row → Row
older r = record r { age = min 15 (r.age + 1) }

-- the smaller of 15 and QoS + age
abbrev pub rank : Row → ℕ
rank r = min 15 (r.request.qos + r.age)

-- two requests are of the same master and ID
abbrev pub alike : Row → Row → Bool
alike a b = a.request.master == b.request.master && a.request.id == b.request.id

-- a waiting request without an earlier waiting one of the same master and ID
pub record Candidate (rows : List Row) (i : ℕ) : Type 0 where
  pub waits : i < length rows
  pub first : (k : ℕ) → k < i → alike (row_at rows k) (row_at rows i) ≢ true

-- the request that a grant picks: no candidate has a higher rank, and no earlier candidate one as high
pub record Picked (rows : List Row) (i : ℕ) : Type 0 where
  pub candidate : Candidate rows i
  pub highest : (k : ℕ) → Candidate rows k → rank (row_at rows k) ≤ rank (row_at rows i)
  pub earliest : (k : ℕ) → k < i → Candidate rows k → rank (row_at rows k) < rank (row_at rows i)

-- an answer to which request is picked; none where none waits
abbrev pub Picks : List Row → Option ℕ → Type 0
Picks rows None = rows ≡ []
Picks rows (Some i) = Picked rows i

-- a request as it is opened
abbrev pub opening : Request → Open
opening r = record { request = r; taken = 0 }

-- the next beat of the open request is its last
abbrev pub is_last : Open → Bool
is_last o = o.taken + 1 == o.request.burst.count

-- the open request after its next beat; the last one closes it
abbrev pub moved : Open → Option Open
moved o = if is_last o then None else Some (record o { taken = o.taken + 1 })

-- an open request has a beat left
abbrev pub beat_left : Option Open → Bool
beat_left None = true
beat_left (Some o) = nat_lt o.taken o.request.burst.count
