-- One beat, or one burst, more.
use Rattle.std.proofs.Common.{◌≡◌, ℕ, ◌+◌, ◌*◌, add-one, refl}
use Rattle.std.specs.Prelude.{if◌then◌else◌}
use Rattle.slave.specs.Acts.{give_after, take_answer, take_after}
use Rattle.slave.specs.Meaning.{Meaning}
use Rattle.depths.specs.Beats.{word_of, given, written, taken, brings, count_back, asked, moved, beats_back}

pub given_none : (m : Meaning) (start : ℕ) → given m start 0 ≡ m
unfolding given
given_none m start = refl

pub given_more : (m : Meaning) (start j : ℕ) → given m start (j + 1) ≡ give_after (given m start j) (word_of start j) 255
unfolding given
given_more m start j = rw add-one

pub taken_none : (m : Meaning) → taken m 0 ≡ m
unfolding taken
taken_none m = refl

pub taken_more : (m : Meaning) (j : ℕ) → taken m (j + 1) ≡ take_after (taken m j)
unfolding taken
taken_more m j = rw add-one

pub count_none : (m : Meaning) (start : ℕ) → count_back m start 0 ≡ 0
unfolding count_back
count_none m start = refl

pub count_more :
    (m : Meaning) (start j : ℕ)
    → count_back m start (j + 1) ≡ count_back m start j + (if brings (take_answer (taken m j)) (word_of start j) then 1 else 0)
unfolding count_back
count_more m start j = rw add-one

pub moved_none : (m : Meaning) → moved m 0 ≡ m
unfolding moved
moved_none m = refl

pub moved_more : (m : Meaning) (k : ℕ) → moved m (k + 1) ≡ taken (asked (written (moved m k) (128 * k)) (128 * k)) 16
unfolding moved
moved_more m k = rw add-one

pub back_none : (m : Meaning) → beats_back m 0 ≡ 0
unfolding beats_back
back_none m = refl

pub back_more :
    (m : Meaning) (k : ℕ)
    → beats_back m (k + 1) ≡ beats_back m k + count_back (asked (written (moved m k) (128 * k)) (128 * k)) (128 * k) 16
unfolding beats_back
back_more m k = rw add-one
