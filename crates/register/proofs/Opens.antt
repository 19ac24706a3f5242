-- What a slice shows: untouched by a read below.
use Rattle.std.specs.Prelude.{◌≡◌, ℕ, ◌+◌, ◌<◌, true, false, cond, not, Some, None, Ok, Err, Option, Result, nat_lt, refl}
use Rattle.std.proofs.Common.{sym, ◌∙◌, ap, arith}
use Rattle.std.proofs.lemmas.Bool.{true≢false, and_parts, lt-ltb, le-ltb}
use Rattle.std.proofs.lemmas.Bool.Decides.{nat_tests}
use Rattle.std.proofs.Math.Bool.{Bool-set}
use mathlib.Core.HLevel.{is_prop→PathP}
use Rattle.burst.specs.Beats.{address_of, last_of}
use Rattle.burst.specs.declared.raw.RawBurst.{RawBurst}
use Rattle.slave.specs.declared.fault.SlaveFault.{SlaveFault}
use Rattle.slave.specs.declared.given.Given.TheVariants.{More, Done}
use Rattle.slave.specs.declared.channels.Channel.TheVariants.{Read}
use Rattle.slave.specs.Meaning.{Meaning, Stand, idle, busy, with_read}
use Rattle.slave.specs.Lanes.{stray}
use Rattle.slave.specs.Acts.{give_after, give_answer, worst_after, left, open_answer, open_after, on_ok}
use Rattle.slave.proofs.Calls.{give_live, give_width, give_most, give_full, give_read, give_with_read, give_taken}
use Rattle.slave.specs.Snapshots.{answers_for}
use Rattle.register.specs.declared.held.Held.{Held}
use Rattle.register.specs.declared.register.RegisterSlice.{RegisterSlice}
use Rattle.register.specs.Fits.{fits_at, holds_at, behind}

-- opening a read is answered the same after a give
open_read_answer : (m : Meaning) (w s : ℕ) (b : RawBurst) → open_answer (give_after m w s) Read b ≡ open_answer m Read b
open_read_answer m w s b = simp (give_live m w s, give_width m w s, give_most m w s, give_full m w s, give_read m w s)

-- a read may be opened before or after a give
open_read_after : (m : Meaning) (w s : ℕ) (b : RawBurst) → open_after (give_after m w s) Read b ≡ give_after (open_after m Read b) w s
open_read_after m w s b =
    ap (λ z. on_ok z (give_after m w s) (λ _. with_read (busy b 0) (give_after m w s))) (open_read_answer m w s b) ∙ by (open_answer m Read b)
  where
    by : (r : Result (Unit {0}) SlaveFault) → on_ok r (give_after m w s) (λ _. with_read (busy b 0) (give_after m w s)) ≡ give_after (on_ok r m (λ _. with_read (busy b 0) m)) w s
    by (Ok x) = sym (give_with_read (busy b 0) m w s)
    by (Err e) = refl

-- a read is opened below, whether a beat is held or not
pub open_read : (h : Option Held) (m n : Meaning) (r : Result (Unit {0}) SlaveFault) (b : RawBurst)
    → r ≡ open_answer m Read b → n ≡ open_after m Read b
    → (r ≡ open_answer (behind m h) Read b) × (behind n h ≡ open_after (behind m h) Read b)
open_read None m n r b ans aft = (ans, aft)
open_read (Some h) m n r b ans aft =
    (ans ∙ sym (open_read_answer m h.word h.strobe b), ap (λ x. give_after x h.word h.strobe) aft ∙ sym (open_read_after m h.word h.strobe b))

-- what a beat that can be held says of the slave below
pub record Holding (h : Held) (m : Meaning) : Type 0 where
  pub burst : RawBurst
  pub beat : ℕ
  pub live : m.live ≡ true
  pub at : m.write ≡ busy burst beat
  pub next : (beat + 1) < burst.count
  pub kept : stray m.width (address_of burst beat) (last_of burst beat) h.strobe ≡ false

pub holding : (h : Held) (m : Meaning) → holds_at (Some h) m ≡ true → Holding h m
holding h m e =
    let p = and_parts m.live (fits_at m.width m.write h.strobe) e in
    by m.write refl p.0 p.1
  where
    by : (q : Stand) → m.write ≡ q → m.live ≡ true → fits_at m.width q h.strobe ≡ true → Holding h m
    by idle at live fit = absurd (true≢false (sym fit))
    by (busy b k) at live fit =
        let p = and_parts (nat_lt (k + 1) b.count) (not (stray m.width (address_of b k) (last_of b k) h.strobe)) fit in
        record { burst = b; beat = k; live = live; at = at; next = grind (arith, nat_tests); kept = grind (arith, nat_tests) }

-- the burst of a held beat is open behind it
pub held_open : (h : Held) (m : Meaning) (e : holds_at (Some h) m ≡ true) → (behind m (Some h)).write ≡ busy (holding h m e).burst ((holding h m e).beat + 1)
held_open h m e =
    let x = holding h m e in
    let g = (give_taken m x.burst x.beat h.word h.strobe x.live x.at x.kept).1 in
    ap (λ z. z.write) g ∙ ap (λ t. cond t (busy x.burst (x.beat + 1)) idle) (lt-ltb (x.beat + 1) x.burst.count x.next)

-- slices with the same parts are the same
pub slice_same : {S : Type 0} {g : _} (p q : RegisterSlice S g) → p.below ≡ q.below → p.held ≡ q.held → p.snapshot ≡ q.snapshot → p ≡ q
slice_same {g = g} p q e h s = λ i. record {
  below = e i;
  held = h i;
  snapshot = s i;
  placed = is_prop→PathP (λ j. holds_at (h j) (g.meaning (e j)) ≡ true) (λ j. Bool-set (holds_at (h j) (g.meaning (e j))) true) p.placed q.placed i;
  known = is_prop→PathP (λ j. answers_for (s j) (behind (g.meaning (e j)) (h j)) ≡ true) (λ j. Bool-set (answers_for (s j) (behind (g.meaning (e j)) (h j))) true) p.known q.known i;
}

-- a slice is live
pub slice_live : (h : Option Held) (m : Meaning) → holds_at h m ≡ true → (behind m h).live ≡ true
slice_live None m e = e
slice_live (Some h) m e = give_live m h.word h.strobe ∙ (holding h m e).live

-- with the width below
pub slice_width : (h : Option Held) (m : Meaning) → (behind m h).width ≡ m.width
slice_width None m = refl
slice_width (Some h) m = give_width m h.word h.strobe

-- the last beat of an open write is taken
pub last_given : (m : Meaning) (b : RawBurst) (k w s : ℕ) → m.live ≡ true → m.write ≡ busy b k → stray m.width (address_of b k) (last_of b k) s ≡ false → left b k ≡ 0
    → give_answer m w s ≡ Ok (Done (worst_after m b k s))
last_given m b k w s live at kept none =
    (give_taken m b k w s live at kept).0 ∙ ap (λ t. Ok (cond t (More (left b k)) (Done (worst_after m b k s)))) (le-ltb (k + 1) b.count (omega arith))
