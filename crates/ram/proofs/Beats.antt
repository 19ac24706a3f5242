-- What a store of a beat's lanes and a making come to.
use Rattle.std.specs.Prelude.{◌≡◌, ℕ, ◌*◌, ◌/◌, ◌≤◌, false, List, length}
use Rattle.std.specs.declared.vec.Vec.{Vec}
use Rattle.std.specs.Vec.{with_items}
use Rattle.std.proofs.Props.{props}
use mathlib.Core.HLevel.{is_prop→PathP}
use Rattle.std.proofs.lemmas.List.{with_items_is}
use Rattle.std.proofs.Common.{take, drop, ◌++◌}
use Rattle.std.proofs.Common.{sym, ◌∙◌, ap}
use Rattle.std.proofs.Math.Path.{fun_ext}
use Rattle.burst.specs.declared.raw.RawBurst.{RawBurst}
use Rattle.burst.specs.declared.width.Width.{Width}
use Rattle.burst.specs.Rules.{width_bytes}
use Rattle.burst.specs.Beats.{IsLawful, address_of, last_of, cover_of}
use Rattle.burst.proofs.Facts.{beat_in_word}
use Rattle.slave.specs.declared.response.Response.{Response}
use Rattle.slave.specs.declared.response.Response.TheVariants.{Okay}
use Rattle.slave.specs.Channels.{worst_at}
use Rattle.slave.specs.Meaning.{Stand, idle, busy, with_write}
use Rattle.slave.specs.Lanes.{stray, written}
use Rattle.ram.specs.declared.port.Port.{Port}
use Rattle.ram.specs.Memory.{put_lanes, memory_board}
use Rattle.ram.specs.Making.{make_refusal}
use Rattle.ram.specs.Shows.{shows, through, ram_made}
use Rattle.ram.proofs.Stores.{put_written, length_put, kind_same}

-- memory after a beat's lanes are stored, with the write channel standing elsewhere
pub stored_is : (xs : List ℕ) (W : Width) (most : ℕ) (b : RawBurst) (k : ℕ) (worst : Response) (read : Stand) (word s : ℕ)
    → IsLawful (width_bytes W) b → stray (width_bytes W) (address_of b k) (last_of b k) s ≡ false
    → (p : Stand) (v : Response) → worst_at p v ≡ v
    → shows (put_lanes xs (address_of b k / width_bytes W * width_bytes W) word s 8) (width_bytes W) most p v read
    ≡ with_write p v (written (memory_board xs) (width_bytes W) (cover_of b k) word s) (shows xs (width_bytes W) most (busy b k) worst read)
stored_is xs W most b k worst read word s lawful kept p v quiet =
    let w : ℕ = width_bytes W in
    let bytes = fun_ext (put_written xs w (address_of b k) (last_of b k) word s (beat_in_word W b k lawful) kept) in
    let kinds = fun_ext (λ a. kind_same (put_lanes xs (address_of b k / w * w) word s 8) xs a (length_put xs (address_of b k / w * w) word s 8)) in
    rw (bytes, kinds, quiet)

-- what is made of memory follows from the answer of the making
pub made_is : (xs : List ℕ) (w most : ℕ) (p : Port) → 0 ≡ make_refusal w most (length xs)
    → ((ys : List ℕ) → through p ys ≡ shows ys w most idle Okay idle) → through p xs ≡ ram_made xs w most
made_is xs w most p e h = rw (← e) (h xs)

-- a vector with its own items is itself
pub with_same : {X Z : Type 0} (v : Vec X Z) (ws : List X) → ws ≡ v.items → with_items v ws ≡ v
with_same {X = X} {Z = Z} v ws e = ap (with_items v) e ∙ (λ i. record { ptr = v.ptr; len = v.len; cap = v.cap; alloc = v.alloc; items = p i; ok = is_prop→PathP (λ j. (v.len ≡ length (p j)) × (v.len ≤ v.cap)) (λ j. hlevel props) (with_items v v.items).ok v.ok i; small = v.small })
  where
    p : take v.len (v.items ++ drop (length v.items) v.items) ≡ v.items
    p = with_items_is v v.items (sym v.ok.0)
