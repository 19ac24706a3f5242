-- Beats of checked bursts keep the page rule, each alone.
use Rattle.std.specs.Prelude.{◌≡◌, ℕ, ◌+◌, ◌-◌, ◌*◌, ◌/◌, ◌%◌, ◌^◌, ◌<◌, ◌≤◌, ◌==◌, refl}
use Rattle.std.proofs.Common.{arith, mul_assoc, add-mul, sym, ◌∙◌, ap, subst}
use Rattle.std.proofs.Math.Arith.{mod-mul}
use Rattle.std.proofs.lemmas.Bool.{cond_both}
use Rattle.std.proofs.lemmas.Nat.{pow_pos, mul-le}
use Rattle.burst.specs.declared.width.Width.{Width}
use Rattle.burst.specs.declared.raw.BurstKind.{BurstKind}
use Rattle.burst.specs.declared.raw.BurstKind.TheVariants.{Fixed, Incr, Wrap}
use Rattle.burst.specs.declared.burst.Burst.{Burst}
use Rattle.burst.specs.Rules.{width_bytes, kind_code, refusal, KeepsPage}
use Rattle.burst.specs.Beats.{address_of, last_of, wrap_address, raw_of, IsLawful}
use Rattle.burst.proofs.Facts.{facts, size_fits, width_power}
use Rattle.converter.specs.Pieces.{Beat}
use Rattle.converter.proofs.Cuts.{aligned_page}
use Rattle.burst.proofs.Masks.{below_4}

-- a multiple of 2 ^ s stays one, whole beats further
stays_aligned : (s : ℕ) → s ≤ 3 → (a t j : ℕ) → a % 2 ^ s ≡ 0 → (a - t * 2 ^ s + j * 2 ^ s) % 2 ^ s ≡ 0
stays_aligned s h =
    below_4 (λ i. (a t j : ℕ) → a % 2 ^ i ≡ 0 → (a - t * 2 ^ i + j * 2 ^ i) % 2 ^ i ≡ 0)
    (λ a t j e. omega arith) (λ a t j e. omega arith) (λ a t j e. omega arith) (λ a t j e. omega arith) s h

-- every beat of a WRAP burst is at a multiple of its size
wrap_aligned : (a s n j : ℕ) → s ≤ 3 → 0 < n → a % 2 ^ s ≡ 0 → (q : ℕ) × (wrap_address a (2 ^ s) n j ≡ q * 2 ^ s)
wrap_aligned a s n j hs hn e =
    let N : ℕ = 2 ^ s in
    let t : ℕ = a / (n * 2 ^ s) * n in
    let L : a / (n * 2 ^ s) * (n * 2 ^ s) ≡ a / (n * 2 ^ s) * n * 2 ^ s = sym (mul_assoc (a / (n * 2 ^ s)) n (2 ^ s)) in
    let x : ℕ = a - a / (n * 2 ^ s) * n * 2 ^ s + j * 2 ^ s in
    let z : (a - a / (n * 2 ^ s) * n * 2 ^ s + j * 2 ^ s) % 2 ^ s ≡ 0 = stays_aligned s hs a (a / (n * 2 ^ s) * n) j e in
    let p : (a - a / (n * 2 ^ s) * n * 2 ^ s + j * 2 ^ s) % (n * 2 ^ s) ≡ ((a - a / (n * 2 ^ s) * n * 2 ^ s + j * 2 ^ s) / 2 ^ s % n) * 2 ^ s + (a - a / (n * 2 ^ s) * n * 2 ^ s + j * 2 ^ s) % 2 ^ s =
    mod-mul (a - a / (n * 2 ^ s) * n * 2 ^ s + j * 2 ^ s) hn (pow_pos s) in (
      a / (n * 2 ^ s) * n + (a - a / (n * 2 ^ s) * n * 2 ^ s + j * 2 ^ s) / 2 ^ s % n,
      ap (λ l. l + (a - l + j * 2 ^ s) % (n * 2 ^ s)) L
          ∙ (let r : a / (n * 2 ^ s) * n * 2 ^ s + (a - a / (n * 2 ^ s) * n * 2 ^ s + j * 2 ^ s) % (n * 2 ^ s)
          ≡ a / (n * 2 ^ s) * n * 2 ^ s + ((a - a / (n * 2 ^ s) * n * 2 ^ s + j * 2 ^ s) / 2 ^ s % n) * 2 ^ s = omega (arith, z, p) in r)
          ∙ sym (add-mul (a / (n * 2 ^ s) * n) ((a - a / (n * 2 ^ s) * n * 2 ^ s + j * 2 ^ s) / 2 ^ s % n) (2 ^ s)),
    )

-- every beat of a checked burst keeps the page rule alone
page_at : (kd : BurstKind) (a s n j : ℕ) → refusal 8 (kind_code kd) a s n ≡ 0 → KeepsPage (address_of (record { kind = kind_code kd; start = a; size = s; count = n }) j) (2 ^ s) 1
unfolding address_of
page_at Fixed a s n j h = omega (arith, (facts 0 a s n h).fixed refl)
page_at Incr a s n j h =
    let F = facts 1 a s n h in
    cond_both (j == 0) a (a / 2 ^ s * 2 ^ s + j * 2 ^ s) (λ x. KeepsPage x (2 ^ s) 1)
    (λ _. omega (arith, F.incr refl, mul-le 1 (2 ^ s) n (2 ^ s) F.low (let r : 2 ^ s ≤ 2 ^ s = omega arith in r)))
    (λ _. subst (λ x. KeepsPage x (2 ^ s) 1) (add-mul (a / 2 ^ s) j (2 ^ s)) (aligned_page s F.size (a / 2 ^ s + j)))
page_at Wrap a s n j h =
    let F = facts 2 a s n h in
    let q = wrap_aligned a s n j F.size F.low (F.aligned refl) in
    subst (λ x. KeepsPage x (2 ^ s) 1) (sym q.1) (aligned_page s F.size q.0)

-- a beat of an open burst
pub beat_of : (W : Width) (b : Burst) (k : ℕ) → IsLawful (width_bytes W) (raw_of b) → Beat (width_bytes W) (address_of (raw_of b) k) (last_of (raw_of b) k) b.size
unfolding last_of
beat_of W b k h =
    record {
      wide = width_power W;
      fits = size_fits (width_bytes W) (kind_code b.kind) b.start b.size b.count h;
      last = refl;
      page = page_at b.kind b.start b.size b.count k b.lawful;
    }
