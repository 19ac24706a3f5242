-- One more beat of an open request.
use Rattle.std.proofs.Common.{◌≡◌, ℕ, ◌+◌, ◌<◌, true, false, cond, eqb, ltb, ◌⊎◌, ◌∷◌, Some, None, refl, inl, inr, ⊎_elim, arith}
use Rattle.std.proofs.lemmas.Bool.{lt-ltb, le-ltb, eq-eqb, ne_eqb, cases_eq}
use Rattle.slave.specs.declared.channels.Channel.{Channel}
use Rattle.slave.specs.Meaning.{idle, busy}
use Rattle.fabric.specs.declared.row.Open.{Open}
use Rattle.fabric.specs.Channels.{with_open}
use Rattle.history.specs.Tracks.{open_of, stand_of, queue_after}
use Rattle.slave.specs.Acts.{past}
use Rattle.fabric.specs.Rows.{moved}
use Rattle.history.specs.History.{Event, History, asked, granting, moving, Going, current, burst_of, opened}
use Rattle.history.proofs.Beats.{opened_current}
use Rattle.history.proofs.Quiet.{rows_quiet}

-- the open request as the fabric keeps it
abbrev pub open_as : Going → Open
open_as g = record { request = g.from.request; taken = g.beats }

-- one beat further
abbrev pub next : Going → Going
next g = record { from = g.from; beats = g.beats + 1 }

-- with a beat left, another one is left behind it, or it is the last
pub last_or_more : (k n : ℕ) → k < n → ((ltb (k + 1) n ≡ true) × (eqb (k + 1) n ≡ false)) ⊎ ((ltb (k + 1) n ≡ false) × (eqb (k + 1) n ≡ true))
last_or_more k n l =
    ⊎_elim (λ e. inr (le-ltb (k + 1) n (omega arith), eq-eqb (k + 1) n e)) (λ e. inl (lt-ltb (k + 1) n (omega arith), ne_eqb (k + 1) n e)) (cases_eq (k + 1) n)

-- the last beat closes the request
pub opened_moved : (ch : Channel) (x : Event) (h : History) (g : Going) → granting ch x ≡ false → moving ch x ≡ true → opened ch h ≡ Some g
    → opened ch (x ∷ h) ≡ cond (ltb (g.beats + 1) (burst_of g).count) (Some (next g)) None
unfolding opened current
opened_moved ch x h g n v o = rw (n, v, (opened_current ch h g o).0)

-- as the fabric keeps it
pub open_moved : (ch : Channel) (x : Event) (h : History) (g : Going) → granting ch x ≡ false → moving ch x ≡ true → opened ch h ≡ Some g
    → open_of (opened ch (x ∷ h)) ≡ moved (open_as g)
open_moved ch x h g n v o =
    let e = opened_moved ch x h g n v o in
    ⊎_elim (λ t. rw (e, t.0, t.1)) (λ t. rw (e, t.0, t.1)) (last_or_more g.beats (burst_of g).count (opened_current ch h g o).1)

-- and as the slave has it
pub stand_moved : (ch : Channel) (x : Event) (h : History) (g : Going) → granting ch x ≡ false → moving ch x ≡ true → opened ch h ≡ Some g
    → stand_of (opened ch (x ∷ h)) ≡ past (burst_of g) g.beats
stand_moved ch x h g n v o =
    rw (opened_moved ch x h g n v o)
    (elim (ltb (g.beats + 1) (burst_of g).count) as (λ t. stand_of (cond t (Some (next g)) None) ≡ cond t (busy (burst_of g) (g.beats + 1)) idle) [ true ↦ refl | false ↦ refl ])

-- the channel after one more beat
pub queue_moved : (ch : Channel) (x : Event) (h : History) (g : Going) → granting ch x ≡ false → asked ch x ≡ None → moving ch x ≡ true → opened ch h ≡ Some g
    → queue_after ch (x ∷ h) ≡ with_open (moved (open_as g)) (queue_after ch h)
unfolding queue_after
queue_moved ch x h g n a v o = rw (rows_quiet ch x h n a, open_moved ch x h g n v o)
