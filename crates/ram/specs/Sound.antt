-- Memory is a sound slave.
use Rattle.std.specs.Prelude.{◌≡◌, ℕ, ◌%◌, ◌≤◌, true, false, if◌then◌else◌, List, length, vec_items, slice_index}
use Rattle.std.proofs.Common.{arith, sym, ◌∙◌, ap, ⊎_elim}
use Rattle.std.proofs.lemmas.Bool.{true≢false, lt-ltb, cases_lt}
use Rattle.std.proofs.lemmas.List.{get_or_past}
use Rattle.std.proofs.lemmas.Nat.{mod_below}
use Rattle.burst.specs.declared.width.Width.{Width}
use Rattle.burst.specs.Rules.{width_bytes}
use Rattle.burst.proofs.Facts.{width_power}
use Rattle.slave.specs.declared.response.Response.{Response}
use Rattle.slave.specs.Meaning.{plain, unmapped, Stand, told, sound_stand, Sound, is_there}
use Rattle.slave.proofs.Soundness.{quiet_at}
use Rattle.ram.specs.declared.ram.Ram.{Ram}
use Rattle.ram.specs.Memory.{kind_at}
use Rattle.ram.specs.Shows.{shows, ram_meaning}

-- a byte past the memory is 0
void_at : (xs : List ℕ) (a : ℕ) → is_there (kind_at xs a) ≡ false → slice_index xs a % 256 ≡ 0
void_at xs a h =
    ⊎_elim
    (λ lt. absurd (true≢false (sym (ap (λ t. is_there (if t then plain else unmapped)) (lt-ltb a (length xs) lt)) ∙ h)))
    (λ ge. ap (λ n. n % 256) (get_or_past xs a 0 ge))
    (cases_lt a (length xs))

-- memory of these bytes is sound
shows_sound : (xs : List ℕ) (W : Width) (most : ℕ) (write : Stand) (worst : Response) (read : Stand) → 1 ≤ most → most ≤ 256 → sound_stand (width_bytes W) write ≡ true → sound_stand (width_bytes W) read ≡ true
    → Sound (shows xs (width_bytes W) most write worst read)
-- memory of these bytes is sound
shows_sound xs W most write worst read lo hi h k = record {
  small = λ a. mod_below (slice_index xs a) 256 (omega arith);
  void = void_at xs;
  wide = width_power W;
  some = lo;
  few = hi;
  whole = λ e. absurd (true≢false (sym e));
  write = h;
  read = k;
  quiet = quiet_at write worst;
  gone = λ e. absurd (true≢false e);
}

-- so is the slave
pub ram_sound : (r : Ram) → Sound (ram_meaning r)
ram_sound r = let p = r.port in shows_sound (vec_items r.memory) p.width p.most (told p.channels.write.place) p.channels.write.worst (told p.channels.read.place) p.some p.few p.writes p.reads
