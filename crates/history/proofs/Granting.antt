-- A grant of the fabric in a run.
use Rattle.std.proofs.Common.{◌≡◌, ℕ, suc, ◌+◌, ◌<◌, true, false, cond, not, eqb, List, [], ◌∷◌, map, get_or, take, drop, Some, None, Ok, Err, filter, Option, refl, ap, ◌∙◌, arith}
use Rattle.std.specs.List.{AllByRecursion as All, remove}
use Rattle.std.proofs.lemmas.Bool.{lt-ltb}
use Rattle.burst.specs.declared.raw.RawBurst.{RawBurst}
use Rattle.burst.specs.Beats.{IsLawful}
use Rattle.slave.specs.declared.channels.Channel.{Channel}
use Rattle.slave.specs.declared.channels.Channel.TheVariants.{Write, Read}
use Rattle.fabric.specs.declared.types.Act.TheVariants.{Grant}
use Rattle.fabric.specs.declared.types.Answer.TheVariants.{Granted}
use Rattle.fabric.specs.declared.types.FabricFault.{FabricFault}
use Rattle.std.proofs.lemmas.List.{take-map, drop-map, map-append}
use Rattle.slave.specs.Meaning.{Meaning, is_idle, Board}
use Rattle.fabric.specs.declared.row.Row.{Row}
use Rattle.fabric.specs.Channels.{Queue, with_queue}
use Rattle.history.specs.Tracks.{row_of, open_of, stand_of, queue_after, channels_after, slave_after}
use Rattle.std.proofs.ByRecursion.{all_kept_by}
use Rattle.burst.proofs.Facts.{facts}
use Rattle.slave.specs.Acts.{open_answer, open_after}
use Rattle.slave.specs.Acts.{opened as slave_opened}
use Rattle.slave.proofs.Calls.{open_taken}
use Rattle.fabric.specs.declared.types.FabricFault.TheVariants.{AlreadyOpen, NoneWaiting, Place}
use Rattle.fabric.specs.Rows.{no_row, row_at, older, Picked, Picks}
use Rattle.fabric.specs.Picking.{choice}
use Rattle.fabric.specs.Acts.{passed, grant_row, grant_test, request_at, grant_answer, grant_after, grant_slave}
use Rattle.fabric.proofs.Rule.{choice_picks}
use Rattle.history.specs.History.{Event, History, tally, same, granting, blocked, candidates, rank, best, pick, requests, Filed, age, waiting, own, Going, current, opened}
use Rattle.history.specs.Owed.{owed, owed_grant, Run}
use Rattle.history.proofs.Responses.{worst_grant}
use Rattle.history.proofs.Filing.{all_mem, without}
use Rattle.history.proofs.Waits.{waiting_ordered, waiting_before, waiting_in, waiting_leaves, since_grant, own_picks}
use Rattle.history.proofs.Beats.{Lawful, requests_lawful}
use Rattle.history.proofs.Indexed.{without_removed, picked_own, picked_row}
use Rattle.history.proofs.Quiet.{event, Quiet, opened_quiet, channels_with, stored_quiet, worst_quiet, same_queue}
use Rattle.history.proofs.Asking.{same_self}
use Rattle.history.proofs.Steps.{Step, ActStep, refused_step, accepted_step, stand_is}

-- an accepted grant that picks p
abbrev granted : Channel → Filed → Event
granted ch p = event (Grant ch) (Ok (Granted p.request.master p.request.id))

-- the other channel does not notice a grant
grant_quiet : (d ch : Channel) (p : Filed) → same d ch ≡ false → Quiet d (granted ch p)
grant_quiet d ch p e = record { no_ask = refl; still = record { no_grant = rw e; no_beat = refl } }

-- it is a grant of its channel
is_grant : (ch : Channel) (p : Filed) → granting ch (granted ch p) ≡ true
is_grant ch p = same_self ch

-- a row is taken out before or after a map
removed_map : {X Y : Type 0} (f : X → Y) (xs : List X) (k : ℕ) → remove (map f xs) k ≡ map f (remove xs k)
removed_map f xs k = rw (take-map f k xs, drop-map f (suc k) xs, map-append f (take k xs) (drop (suc k) xs))

-- where no row waits, a grant has no own request
none_waits : (ch : Channel) (h : History) → map (row_of ch h) (waiting ch h) ≡ [] → own ch h ≡ None
unfolding own pick candidates best
none_waits ch h e = go (waiting ch h) e
  where
    go : (ws : List Filed) → map (row_of ch h) ws ≡ [] → best (rank ch h) (filter (λ q. not (blocked ws q)) ws) ≡ None
    go [] e = refl
    go (w ∷ ws) e = cc

-- every request still waiting gets one more age
rows_older : (ch : Channel) (h : History) (p : Filed) → map older (map (row_of ch h) (without p (waiting ch h))) ≡ map (row_of ch (granted ch p ∷ h)) (without p (waiting ch h))
rows_older ch h p = go (without p (waiting ch h)) (all_kept_by (λ v. not (eqb p.at v.at)) (λ q. q.at < tally h) (waiting ch h) (waiting_before ch h))
  where
    go : (ws : List Filed) → All (λ q. q.at < tally h) ws → map older (map (row_of ch h) ws) ≡ map (row_of ch (granted ch p ∷ h)) ws
    go [] a = refl
    go (w ∷ ws) a =
        let s = since_grant ch (granted ch p) h w.at (is_grant ch p) a.0 in
        let e : Prim.Native.Nat.min 15 (Prim.Native.Nat.min 15 (age ch w.at h) + 1) ≡ Prim.Native.Nat.min 15 (age ch w.at (granted ch p ∷ h)) = omega arith in
        rw (e, go ws a.1)

-- the picked request is open then, with no beat moved
opened_granted : (ch : Channel) (h : History) (p : Filed) → own ch h ≡ Some p → 0 < p.request.burst.count → opened ch (granted ch p ∷ h) ≡ Some (record { from = p; beats = 0 })
unfolding opened current
opened_granted ch h p o l = rw (is_grant ch p, o, lt-ltb 0 p.request.burst.count l)

-- the slave then has the burst open
slave_granted : (m : Board) (ch : Channel) (h : History) (p : Filed) → own ch h ≡ Some p → 0 < p.request.burst.count
    → slave_opened ch p.request.burst (slave_after m h) ≡ slave_after m (granted ch p ∷ h)
slave_granted m Write h p o l =
    let x : Event = granted Write p in
    rw (stored_quiet m x h refl, opened_granted Write h p o l, worst_grant m x h refl, opened_quiet Read x h (grant_quiet Read Write p refl).still)
slave_granted m Read h p o l =
    let x : Event = granted Read p in
    let w = (grant_quiet Write Read p refl).still in
    rw (stored_quiet m x h refl, opened_quiet Write x h w, worst_quiet m x h w, opened_granted Read h p o l)

module _ (m : Board) (ch : Channel) (h : History) (run : Run m h) where
  abbrev q : Queue
  q = queue_after ch h

  abbrev s : Meaning
  s = slave_after m h

  abbrev rows : List Row
  rows = map (row_of ch h) (waiting ch h)

  abbrev GrantStep : Type 0
  GrantStep = Step m h (Grant ch) (grant_answer q s ch) (with_queue ch (grant_after q s ch) (channels_after h)) (grant_slave q s ch)

  -- the tests of the fabric by what the history says
  test_is : (o : Option Going) → opened ch h ≡ o → grant_test q s ch ≡ passed (grant_row (open_of o) (choice rows)) (λ k. cond (is_idle (stand_of o)) (Ok k) (Err Place))
  unfolding queue_after
  test_is o e = rw (stand_is m ch h, e)

  -- refused by a test
  stopped : (e : FabricFault) → owed_grant ch h ≡ Err e → grant_test q s ch ≡ Err e → GrantStep
  unfolding owed
  stopped e o t =
      refused_step m h (Grant ch) e _ _ _ o (rw t) (rw t (same_queue ch h)) (rw t)

  -- the picked request is lawful
  lawful : (p : Filed) → own ch h ≡ Some p → IsLawful 8 p.request.burst
  lawful p o = all_mem Lawful (requests ch h) (requests_lawful m ch h run) (waiting_in ch h (own_picks ch h p o).waits).0

  -- row k is picked, and it is that of p
  module _ (k : ℕ) (p : Filed) (idle-now : opened ch h ≡ None) (own_is : own ch h ≡ Some p) (test : grant_test q s ch ≡ Ok k) (row : row_at rows k ≡ row_of ch h p)
      (others : map older (remove rows k) ≡ map (row_of ch (granted ch p ∷ h)) (waiting ch (granted ch p ∷ h))) where
    abbrev b : RawBurst
    b = p.request.burst

    counts : 0 < b.count
    counts = (facts b.kind b.start b.size b.count (lawful p own_is)).low

    request_is : request_at q k ≡ p.request
    unfolding queue_after
    request_is = ap (λ (r : Row). r.request) row

    taken : (open_answer s ch b ≡ Ok tt) × (open_after s ch b ≡ slave_opened ch b s)
    taken = open_taken s ch b refl (stand_is m ch h ∙ ap stand_of idle-now) (lawful p own_is) refl

    granted_answer : grant_answer q s ch ≡ Ok (Granted p.request.master p.request.id)
    granted_answer = rw (test, request_is, taken.0)

    granted_queue : queue_after ch (granted ch p ∷ h) ≡ grant_after q s ch
    unfolding queue_after
    granted_queue = rw (test, request_is, taken.0, ← others, opened_granted ch h p own_is counts)

    granted_slave : grant_slave q s ch ≡ slave_after m (granted ch p ∷ h)
    granted_slave = rw (test, request_is, taken.1) (slave_granted m ch h p own_is counts)

    moves : GrantStep
    unfolding owed owed_grant
    moves =
        accepted_step m h (Grant ch) (Granted p.request.master p.request.id) _ _ _ (rw (idle-now, own_is)) granted_answer
        (channels_with ch (granted ch p) h _ granted_queue (λ d e. grant_quiet d ch p e)) granted_slave

  -- what stands in for a request past the end
  default : Filed
  default = record { at = 0; request = no_row.request }

  -- the row that the rule picks is granted
  grants_row : (k : ℕ) → opened ch h ≡ None → grant_test q s ch ≡ Ok k → Picked rows k
      → GrantStep
  grants_row k e t c =
      let p : Filed = get_or (waiting ch h) k default in
      let o : own ch h ≡ Some p = picked_own ch h default k c in
      let r = picked_row ch h default k c in
      moves k p e o t r.1
      (rw (removed_map (row_of ch h) (waiting ch h) k, ← without_removed (waiting ch h) k default (waiting_ordered ch h) r.0, rows_older ch h p, waiting_leaves ch (granted ch p) h p (is_grant ch p) refl o))

  -- a grant by what is open and what is picked
  grant_by : (o : Option Going) → opened ch h ≡ o → (c : Option ℕ) → choice rows ≡ c → Picks rows c
      → GrantStep
  unfolding owed_grant
  grant_by (Some g) e c f w = stopped AlreadyOpen (rw e) (test_is (Some g) e)
  grant_by None e None f w = stopped NoneWaiting (rw (e, none_waits ch h w)) (test_is None e ∙ ap (λ z. passed (grant_row None z) (λ k. Ok k)) f)
  grant_by None e (Some k) f w = grants_row k e (test_is None e ∙ ap (λ z. passed (grant_row None z) (λ k. Ok k)) f) w

  -- every grant keeps to the run
  grants : GrantStep
  grants = grant_by (opened ch h) refl (choice rows) refl (choice_picks rows)

-- a grant
pub grant_step : (m : Board) (h : History) (ch : Channel) → Run m h → ActStep m h (Grant ch)
grant_step m h Write run = grants m Write h run
grant_step m h Read run = grants m Read h run
