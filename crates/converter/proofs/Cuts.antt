-- Where the pieces of a beat lie.
use Rattle.std.specs.Prelude.{◌≡◌, ℕ, ◌+◌, ◌-◌, ◌*◌, ◌/◌, ◌^◌, ◌<◌, ◌≤◌, min, Bool, true, false, cond, Some, None, refl}
use Rattle.std.proofs.Common.{arith, ltb, sym, subst, pow_mono}
use Rattle.std.proofs.lemmas.Bool.{ltb-true}
use Rattle.std.proofs.lemmas.Bool.Decides.{nat_tests}
use Rattle.burst.specs.declared.cover.Cover.{Cover}
use Rattle.std.proofs.lemmas.Nat.{div-add-mod', mod_below, pow_pos}
use Rattle.burst.specs.declared.width.Width.{Width}
use Rattle.burst.specs.declared.width.Width.TheVariants.{One, Two, Four, Eight}
use Rattle.burst.specs.Rules.{width_bytes, KeepsPage}
use Rattle.burst.specs.Beats.{last_from, incr_burst, IsLawful}
use Rattle.burst.proofs.Facts.{InWord, block_in_block, width_some, width_power, code_le, base_le}
use Rattle.converter.specs.declared.beat.BusBeat.{BusBeat}
use Rattle.converter.specs.Fits.{Cuttable}
use Rattle.converter.specs.Pieces.{behind, code_of, piece_end, Beat}
use Rattle.burst.proofs.Masks.{below_4}

-- the size code of a bus of this width
abbrev pub width_code : Width → ℕ
width_code V = code_of (width_bytes V)

-- a bus has 2 to the power of its size code bytes
pub width_is_power : (W : Width) → width_bytes W ≡ 2 ^ width_code W
width_is_power One = refl
width_is_power Two = refl
width_is_power Four = refl
width_is_power Eight = refl

-- and at most eight
pub code_small : (W : Width) → width_code W ≤ 3
code_small One = omega arith
code_small Two = omega arith
code_small Four = omega arith
code_small Eight = omega arith

-- a piece ends where a beat of its own ends
abbrev CutAt : ℕ → ℕ → Type 0
CutAt s k = (f a l : ℕ) → l ≡ last_from f (2 ^ s) → f ≤ a → a ≤ l → piece_end (2 ^ k) l a ≡ last_from a (2 ^ min s k)

-- so it is for every size of a beat and every width below
cut_at : (s : ℕ) → s ≤ 3 → (k : ℕ) → k ≤ 3 → CutAt s k
cut_at s hs k hk =
    below_4 (λ t. CutAt t k)
    (below_4 (CutAt 0) (λ f a l e p q. omega arith) (λ f a l e p q. omega arith) (λ f a l e p q. omega arith) (λ f a l e p q. omega arith) k hk)
    (below_4 (CutAt 1) (λ f a l e p q. omega arith) (λ f a l e p q. omega arith) (λ f a l e p q. omega arith) (λ f a l e p q. omega arith) k hk)
    (below_4 (CutAt 2) (λ f a l e p q. omega arith) (λ f a l e p q. omega arith) (λ f a l e p q. omega arith) (λ f a l e p q. omega arith) k hk)
    (below_4 (CutAt 3) (λ f a l e p q. omega arith) (λ f a l e p q. omega arith) (λ f a l e p q. omega arith) (λ f a l e p q. omega arith) k hk)
    s hs

-- a multiple of a power of two leaves room for it in its page
pub aligned_page : (c : ℕ) → c ≤ 3 → (q : ℕ) → KeepsPage (q * 2 ^ c) (2 ^ c) 1
aligned_page c h = below_4 (λ i. (q : ℕ) → KeepsPage (q * 2 ^ i) (2 ^ i) 1) (λ q. omega arith) (λ q. omega arith) (λ q. omega arith) (λ q. omega arith) c h

-- so does what follows a piece
pub next_page : (a c : ℕ) → c ≤ 3 → KeepsPage (last_from a (2 ^ c) + 1) (2 ^ c) 1
next_page a c h = below_4 (λ i. KeepsPage (last_from a (2 ^ i) + 1) (2 ^ i) 1) (omega arith) (omega arith) (omega arith) (omega arith) c h

-- a piece ends within its beat
pub end_inside : (v l a : ℕ) → piece_end v l a ≤ l
end_inside v l a = omega arith

-- and has one byte at least
pub end_order : (v l a : ℕ) → 0 < v → a ≤ l → a ≤ piece_end v l a
end_order v l a some al = let m = mod_below a v some in let d = div-add-mod' a v in omega arith

-- the size code of a beat is at most that of its bus
pub size_le : (w f l s : ℕ) → Beat w f l s → s ≤ 3
size_le w f l s b =
    let p = b.wide in
    let h : s ≤ p.0 = code_le s p.0 (subst (λ x. 2 ^ s ≤ x) p.2 b.fits) in
    omega (arith, h, p.1)

-- a beat on a bus of some width
pub as_beat : (W : Width) (f l s : ℕ) → 2 ^ s ≤ width_bytes W → l ≡ last_from f (2 ^ s) → KeepsPage f (2 ^ s) 1 → Beat (width_bytes W) f l s
as_beat W f l s fits last page = record { wide = width_power W; fits = fits; last = last; page = page }

pub beat_on : (x : BusBeat) → Beat (width_bytes x.bus) x.cover.first x.cover.last x.size
beat_on x = as_beat x.bus x.cover.first x.cover.last x.size x.fits x.last x.page

-- a beat lies in one word of its bus
pub beat_word : (w f l s : ℕ) → Beat w f l s → InWord w f l
beat_word w f l s b =
    let p = b.wide in
    let k : ℕ = p.0 in
    let sk : s ≤ k = code_le s k (subst (λ x. 2 ^ s ≤ x) p.2 b.fits) in
    let le : l ≡ f / 2 ^ s * 2 ^ s + 2 ^ s - 1 = b.last in
    subst (λ x. InWord x f l) (sym p.2) (record {
      order = omega (arith, le, div-add-mod' f (2 ^ s), mod_below f (2 ^ s) (pow_pos s));
      inside = omega (arith, le, block_in_block f s k sk, pow_pos s);
      positive = pow_pos k;
      small = pow_mono {i = k} {j = 3} p.1;
    })

-- a beat goes down alone as a lawful burst
pub beat_lawful : (w f l s : ℕ) → Beat w f l s → IsLawful w (incr_burst f s 1)
beat_lawful w f l s b = let p = b.fits in let q = b.page in grind (arith, nat_tests)

-- a beat has at most eight bytes
pub eight : (w f l s : ℕ) → Beat w f l s → l < f + 8
eight w f l s b =
    let iw = beat_word w f l s b in
    let q : f / w * w ≤ f = base_le w f in
    omega (arith, iw.inside, iw.small)

-- the size code of a beat's pieces fits the bus below
pub code_fits : (s : ℕ) (V : Width) → 2 ^ min s (width_code V) ≤ width_bytes V
code_fits s V = subst (λ x. 2 ^ min s (width_code V) ≤ x) (sym (width_is_power V)) (pow_mono (let h : min s (width_code V) ≤ width_code V = omega arith in h))

-- before its first piece, the whole of a beat is left
pub whole_cuttable : (w f l s : ℕ) (V : Width) → Beat w f l s → Cuttable (width_bytes V) (min s (width_code V)) l f
whole_cuttable w f l s V b =
    let p : 2 ^ min s (width_code V) ≤ 2 ^ s = pow_mono (let h : min s (width_code V) ≤ s = omega arith in h) in (
      (beat_word w f l s b).order,
      omega (arith, b.page, p),
      λ x lo hi. subst (λ v. piece_end v l x ≡ last_from x (2 ^ min s (width_code V))) (sym (width_is_power V)) (cut_at s (size_le w f l s b) (width_code V) (code_small V) f x l b.last lo hi),
    )

-- what is left from a to l, for a bus that the size code fits
module _ (V : Width) (c l a : ℕ) (fits : 2 ^ c ≤ width_bytes V) (cut : Cuttable (width_bytes V) c l a) where
  -- its first piece is one beat of its own
  pub cut_beat : Beat (width_bytes V) a (piece_end (width_bytes V) l a) c
  cut_beat = record { wide = width_power V; fits = fits; last = cut.2 a (omega arith) cut.0; page = cut.1 }

  -- and what is behind it is left
  pub cut_next : piece_end (width_bytes V) l a < l → Cuttable (width_bytes V) c l (piece_end (width_bytes V) l a + 1)
  cut_next lt = (
    omega arith,
    subst (λ x. KeepsPage (x + 1) (2 ^ c) 1) (sym cut_beat.last) (next_page a c (size_le (width_bytes V) a (piece_end (width_bytes V) l a) c cut_beat)),
    λ x lo hi. cut.2 x (omega (arith, end_order (width_bytes V) l a (width_some V) cut.0)) hi,
  )

  pub cut_behind : (x : Cover) → behind (piece_end (width_bytes V) l a) l ≡ Some x → Cuttable (width_bytes V) c x.last x.first
  cut_behind x h = by (ltb (piece_end (width_bytes V) l a) l) refl h
    where
      by : (t : Bool) → ltb (piece_end (width_bytes V) l a) l ≡ t → cond t (Some (record { first = piece_end (width_bytes V) l a + 1; last = l })) None ≡ Some x → Cuttable (width_bytes V) c x.last x.first
      by true e h =
          let y : record { first = piece_end (width_bytes V) l a + 1; last = l } ≡ x = cc in
          subst (λ (z : Cover). Cuttable (width_bytes V) c z.last z.first) y (cut_next (ltb-true (piece_end (width_bytes V) l a) l e))
      by false e h = cc
