-- Adapters of one kind over one another.
use Rattle.std.specs.Prelude.{ℕ, zero, suc, List, Some, None, Option, nat_le, codes, if◌then◌else◌}
use Rattle.converter.specs.Making.{converted_made}
use Rattle.slave.specs.Meaning.{Meaning}
use Rattle.splitter.specs.Making.{make_answer, made_as}
use Rattle.register.specs.Making.{slice_made}
use Rattle.depths.specs.declared.adapter.Adapter.{Adapter}
use Rattle.depths.specs.declared.adapter.Adapter.TheVariants.{Slice, Splitter, Converter}
use Rattle.depths.specs.Beats.{beats_back}

-- the names of the adapters
abbrev pub name_of : Adapter → List ℕ
name_of Slice = codes "slice"
name_of Splitter = codes "splitter"
name_of Converter = codes "converter"

-- what a slice that is made over a slave shows
unfoldable pub slice_over : Meaning → Meaning
slice_over m = slice_made m

-- what a splitter in runs of 8 that is made over a slave shows
unfoldable pub splitter_over : Meaning → Meaning
splitter_over m = made_as (make_answer 8 m) m

-- what a converter of width 8 that is made over a slave shows
unfoldable pub converter_over : Meaning → Meaning
converter_over m = converted_made m 8

-- what an adapter that is made over a slave shows
abbrev pub made_by : Adapter → Meaning → Meaning
made_by Slice = slice_over
made_by Splitter = splitter_over
made_by Converter = converter_over

-- what a pile of n makings shows, by what one shows over a slave
unfoldable pub nested : (Meaning → Meaning) → ℕ → Meaning → Meaning
nested made zero m = m
nested made (suc n) m = nested made n (made m)

-- the beats that come back over a pile of this depth, of so many at most
abbrev pub over : ℕ → (Meaning → Meaning) → ℕ → Meaning → Option ℕ
over most made depth m = if nat_le depth most then Some (beats_back (nested made depth m) 8) else None
