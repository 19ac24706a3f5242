-- The row that the rule picks is the own request of the grant.
use Rattle.std.proofs.Common.{⊎_elim, ◌≡◌, ℕ, zero, suc, ◌<◌, ◌≤◌, true, not, eqb, ◌⊎◌, List, [], ◌∷◌, map, length, get_or, Some, None, filter, Option, sym, refl, ap, ◌∙◌, subst, inl, inr, arith}
use mathlib.Core.List.{Memᴰ}
use Rattle.std.specs.List.{AllByRecursion as All, remove}
use Rattle.std.proofs.lemmas.Bool.{eq-eqb, ne_eqb, cases_lt, cases_order}
use Rattle.slave.specs.declared.channels.Channel.{Channel}
use Rattle.std.proofs.lemmas.List.{get_or-map, length-map}
use Rattle.fabric.specs.declared.row.Row.{Row}
use Rattle.history.specs.Tracks.{row_of}
use Rattle.fabric.specs.Rows.{no_row, row_at, alike, Candidate, Picked}
use Rattle.fabric.specs.Rows.{rank as row_rank}
use Rattle.history.specs.History.{History, Filed, same_source, rank, waiting, own, Picks}
use Rattle.history.proofs.Filing.{mem_index, Ordered, ordered_head, ordered_tail, without}
use Rattle.history.proofs.Waits.{waiting_ordered, own_picks, picks_once, own_some}

-- what has a place is in the list
pub index_mem : {X : Type 0} (xs : List X) (i : ℕ) (d : X) → i < length xs → Memᴰ (get_or xs i d) xs
index_mem [] i d l = absurd (omega arith)
index_mem (x ∷ xs) zero d l = Memᴰ.head refl
index_mem (x ∷ xs) (suc i) d l = Memᴰ.tail (index_mem xs i d (omega arith))

-- nothing is taken out that is not there
kept_all : (t : ℕ) (xs : List Filed) → All (λ y. t < y.at) xs → filter (λ x. not (eqb t x.at)) xs ≡ xs
kept_all t [] a = refl
kept_all t (x ∷ xs) a = rw (ne_eqb t x.at (λ e. omega (arith, a.0)), kept_all t xs a.1)

-- all but the one at a place
pub without_removed : (xs : List Filed) (k : ℕ) (d : Filed) → Ordered xs → k < length xs → without (get_or xs k d) xs ≡ remove xs k
without_removed [] k d o l = absurd (omega arith)
without_removed (x ∷ xs) zero d o l = rw (eq-eqb x.at x.at refl) (kept_all x.at xs (ordered_head x xs o))
without_removed (x ∷ xs) (suc k) d o l =
    let m = o 0 (suc k) d (omega arith) (omega arith) in
    rw (ne_eqb (get_or xs k d).at x.at (λ e. omega arith), without_removed xs k d (ordered_tail x xs o) (omega arith))

-- a higher number has a later place
pub ordered_index : (xs : List Filed) (i j : ℕ) (d : Filed) → Ordered xs → i < length xs → (get_or xs i d).at < (get_or xs j d).at → j < length xs → i < j
ordered_index xs i j d o a l b = go (cases_order i j)
  where
    go : (i ≡ j) ⊎ ((i < j) ⊎ (j < i)) → i < j
    go (inl e) = absurd (omega (arith, ap (λ (n : ℕ). (get_or xs n d).at) e))
    go (inr (inl m)) = m
    go (inr (inr m)) = let c = o j i d m a in absurd (omega arith)

module _ (ch : Channel) (h : History) (d : Filed) where
  -- the waiting request at a place
  at : ℕ → Filed
  at i = get_or (waiting ch h) i d

  -- the rows of the fabric
  rows : List Row
  rows = map (row_of ch h) (waiting ch h)

  -- a row is that of its request
  row_is : (i : ℕ) → i < length (waiting ch h) → row_at rows i ≡ row_of ch h (at i)
  unfolding rows at
  row_is i l = get_or-map (row_of ch h) (waiting ch h) i d no_row l

  -- of the same rank
  rank_is : (q : Filed) → row_rank (row_of ch h q) ≡ rank ch h q
  unfolding rank
  rank_is q = omega arith

  -- the rule over rows is that over requests
  picked_picks : (k : ℕ) → Picked rows k → (k < length (waiting ch h)) × Picks ch h (at k)
  unfolding rows at
  picked_picks k c = (
    lk,
    record {
      waits = index_mem W k d lk;
      first = λ p m l s. first p l s (mem_index W m);
      highest = λ p m f. high p f (mem_index W m);
    },
  )
    where
      W : List Filed
      W = waiting ch h

      lk : k < length W
      lk = omega (arith, c.candidate.waits, length-map W (row_of ch h))

      first : (p : Filed) → p.at < (at k).at → same_source p (at k) ≡ true → (i : ℕ) × (i < length W) × ((e : Filed) → get_or W i e ≡ p) → ⊥
      first p l s f =
          let i = f.0 in
          let e : at i ≡ p = f.2 d in
          let lt : i < k = ordered_index W i k d (waiting_ordered ch h) f.1 (rw e l) lk in
          c.candidate.first i lt (rw (row_is i f.1, row_is k lk) (subst (λ (v : Filed). same_source v (at k) ≡ true) (sym e) s))

      high : (p : Filed) → ((o : Filed) → Memᴰ o W → o.at < p.at → same_source o p ≡ true → ⊥) → (i : ℕ) × (i < length W) × ((e : Filed) → get_or W i e ≡ p)
          → (rank ch h p < rank ch h (at k)) ⊎ ((rank ch h p ≡ rank ch h (at k)) × ((at k).at ≤ p.at))
      high p f n =
          let i = n.0 in
          let e : at i ≡ p = n.2 d in
          let free : (j : ℕ) → j < i → alike (row_at rows j) (row_at rows i) ≡ true → ⊥ = λ j l s.
          f (at j) (index_mem W j d (omega (arith, n.1))) (rw e at (waiting_ordered ch h j i d l n.1)) (rw (row_is j (omega (arith, n.1)), row_is i n.1, e) at s)
          in
          let ri : row_rank (row_at rows i) ≡ rank ch h p = ap row_rank (row_is i n.1) ∙ rank_is (at i) ∙ ap (rank ch h) e in
          let rk : row_rank (row_at rows k) ≡ rank ch h (at k) = ap row_rank (row_is k lk) ∙ rank_is (at k) in
          let cand : Candidate rows i = record { waits = omega (arith, n.1, length-map W (row_of ch h)); first = free } in
          ⊎_elim (λ u. inl (omega (arith, c.earliest i u cand)))
          (λ u. ⊎_elim (λ v. inl v) (λ v. inr (omega (arith, c.highest i cand), later i e n.1 u)) (cases_lt (rank ch h p) (rank ch h (at k))))
          (cases_lt i k)
        where
          later : (i : ℕ) → at i ≡ p → i < length W → k ≤ i → (at k).at ≤ p.at
          later i e l m =
              ⊎_elim (λ u. let z = waiting_ordered ch h k i d u l in omega (arith, ap (λ (v : Filed). v.at) e))
              (λ u. let z : k ≡ i = omega arith in omega (arith, ap (λ (v : Filed). v.at) e, ap (λ (n : ℕ). (at n).at) z))
              (cases_lt k i)

  -- the row that the rule picks is the grant's own request
  pub picked_own : (k : ℕ) → Picked (map (row_of ch h) (waiting ch h)) k → own ch h ≡ Some (get_or (waiting ch h) k d)
  unfolding rows at
  picked_own k c = let p = picked_picks k c in go p.1 (own ch h) refl
    where
      go : Picks ch h (at k) → (o : Option Filed) → own ch h ≡ o → own ch h ≡ Some (at k)
      go p None e = absurd (own_some ch h p.waits e)
      go p (Some q) e = e ∙ ap (λ (v : Filed). Some v) (picks_once ch h q (at k) (own_picks ch h q e) p)

  -- the picked row is that of a waiting request
  pub picked_row : (k : ℕ) → Picked (map (row_of ch h) (waiting ch h)) k
      → (k < length (waiting ch h)) × (row_at (map (row_of ch h) (waiting ch h)) k ≡ row_of ch h (get_or (waiting ch h) k d))
  unfolding rows at
  picked_row k c = let p = picked_picks k c in (p.0, row_is k p.0)
