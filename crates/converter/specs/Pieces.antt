-- A beat cut at multiples of the width below.
use Rattle.std.specs.Prelude.{◌≡◌, ℕ, zero, suc, ◌+◌, ◌-◌, ◌*◌, ◌/◌, ◌^◌, ◌≤◌, min, if◌then◌else◌, List, [], ◌∷◌, Option, Some, None, ◌==◌, nat_lt}
use Rattle.burst.specs.declared.cover.Cover.{Cover}
use Rattle.burst.specs.Rules.{KeepsPage}
use Rattle.burst.specs.Beats.{last_from, covers}

-- the size code of a bus of so many bytes
abbrev pub code_of : ℕ → ℕ
code_of v = if v == 1 then 0 else (if v == 2 then 1 else (if v == 4 then 2 else 3))

-- where the piece that begins at a ends: before the next multiple of v, or with the beat, at l
abbrev pub piece_end : ℕ → ℕ → ℕ → ℕ
piece_end v l a = min (a / v * v + (v - 1)) l

-- the pieces of what is left of a beat from a to l, at most n of them
unfoldable pub pieces_from : ℕ → ℕ → ℕ → ℕ → List (ℕ × ℕ)
pieces_from zero v l a = []
pieces_from (suc n) v l a =
    (a, piece_end v l a) ∷ (if nat_lt (piece_end v l a) l then pieces_from n v l (piece_end v l a + 1) else [])

-- the pieces of the beat that covers f to l over a bus of v bytes, each by its first and its last byte
abbrev pub pieces : ℕ → ℕ → ℕ → List (ℕ × ℕ)
pieces v f l = pieces_from 8 v l f

-- the bytes from f to l
abbrev pub bytes_from : ℕ → ℕ → Cover
bytes_from f l = record { first = f; last = l }

-- what is left of the bytes up to l behind the byte at e
abbrev pub behind : ℕ → ℕ → Option Cover
behind e l = if nat_lt e l then Some (bytes_from (e + 1) l) else None

-- the pieces of what is left of a beat over a bus of v bytes
abbrev pub pieces_left : ℕ → Option Cover → List (ℕ × ℕ)
pieces_left v None = []
pieces_left v (Some c) = pieces_from (c.last + 1 - c.first) v c.last c.first

-- a beat of 2 ^ s bytes on a bus of w bytes covers f to l, and the page rule lets it go alone
pub record Beat (w f l s : ℕ) : Type 0 where
  pub wide : (k : ℕ) × (k ≤ 3) × (w ≡ 2 ^ k)
  pub fits : 2 ^ s ≤ w
  pub last : l ≡ last_from f (2 ^ s)
  pub page : KeepsPage f (2 ^ s) 1

-- a list of pieces that begins at a and ends with l: each follows the one before, and is one beat with the size code c on a bus of v bytes
abbrev pub InOrder : ℕ → ℕ → ℕ → List (ℕ × ℕ) → ℕ → Type 0
InOrder v c l [] a = a ≡ l + 1
InOrder v c l (p ∷ ps) a = (p.0 ≡ a) × Beat v p.0 p.1 c × InOrder v c l ps (p.1 + 1)

-- how many pieces cover the byte at x
abbrev pub hits : ℕ → List (ℕ × ℕ) → ℕ
hits x [] = 0
hits x (p ∷ ps) = (if covers p.0 p.1 x then 1 else 0) + hits x ps

-- what holds of each piece
abbrev pub Each : (ℕ → ℕ → Type 0) → List (ℕ × ℕ) → Type 0
Each P [] = Unit {0}
Each P (p ∷ ps) = P p.0 p.1 × Each P ps
