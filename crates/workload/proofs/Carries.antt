-- The puts of a frame strobe each of its addresses in their blocks once, with its byte, and no other.
use Rattle.std.proofs.Common.{◌≡◌, ℕ, ◌+◌, ◌*◌, ◌/◌, ◌%◌, ◌-◌, ◌<◌, ◌≤◌, Bool, true, false, cond, List, ◌++◌, length, drop, Some, slice_get, slice_index, sym, refl, ap, ◌∙◌, subst, arith}
use Rattle.std.specs.Prelude.{◌==◌}
use Rattle.std.proofs.Math.Seq.{drop-append_seam}
use Rattle.std.proofs.lemmas.Bool.Decides.{nat_tests}
use Rattle.std.proofs.lemmas.Option.{slice_get_read, slice_get_within}
use Rattle.std.proofs.lemmas.List.FromFn.{length-map-range_with_len, get_or-map-range_with_len}
use Rattle.burst.specs.Beats.{bit}
use Rattle.burst.proofs.Masks.{bit_mask}
use Rattle.slave.specs.Lanes.{lane_byte}
use Rattle.slave.proofs.Words.{lane_word}
use Rattle.fabric.specs.declared.types.Act.{Act}
use Rattle.fabric.specs.declared.types.Act.TheVariants.{Put}
use Rattle.workload.specs.declared.step.Puts.{Puts}
use Rattle.workload.specs.Carried.{in_frame, frame_byte, frame_word, frame_strobe}
use Rattle.workload.specs.Moves.{put_of, puts_of}
use Rattle.workload.specs.Law.{Strobes, StrobedOnce, CarriesFrame}

-- an address of the frame is one, and its byte is the frame's
holds : (frame : List ℕ) (s k : ℕ) → k < length frame → in_frame frame s (s + k) ≡ true
holds frame s k l = grind (arith, nat_tests)

byte_is : (frame : List ℕ) (s k : ℕ) → k < length frame → frame_byte frame s (s + k) ≡ slice_index frame k
byte_is frame s k l = rw (holds frame s k l) (ap (slice_index frame) (let z : s + k - s ≡ k = omega arith in z))

-- and only those are
held : (frame : List ℕ) (s a : ℕ) → in_frame frame s a ≡ true → (s ≤ a) × (a - s < length frame)
held frame s a e = grind (arith, nat_tests)

-- what is carried are bytes
small : (frame : List ℕ) → ((k : ℕ) → k < length frame → slice_index frame k < 256) → (s a : ℕ) → frame_byte frame s a < 256
small frame b s a = go (in_frame frame s a) refl
  where
    go : (t : Bool) → in_frame frame s a ≡ t → cond t (slice_index frame (a - s)) 0 < 256
    go true e = b (a - s) (held frame s a e).1
    go false e = omega arith

module _ (frame : List ℕ) (b : (k : ℕ) → k < length frame → slice_index frame k < 256) (p : Puts) where
  -- the put of a beat
  beat_at : (j : ℕ) → j < p.beats → slice_get (puts_of frame p) j ≡ Some (put_of frame p j)
  beat_at j l =
      slice_get_read (puts_of frame p) p.beats j (put_of frame p j) (sym (length-map-range_with_len (put_of frame p) 0 p.beats)) l
      (sym (get_or-map-range_with_len (put_of frame p) 0 p.beats j j (put_of frame p j) l (omega arith)))

  -- its first address
  abbrev first : ℕ → ℕ
  first j = (p.block + j) * 8

  -- its lanes
  bit_at : (j i : ℕ) → i < 8 → bit (frame_strobe frame p.start (first j)) i ≡ in_frame frame p.start (first j + i)
  bit_at j i l = bit_mask (λ n. in_frame frame p.start (first j + n)) i l

  byte_at : (j i : ℕ) → i < 8 → lane_byte (frame_word frame p.start (first j)) i ≡ frame_byte frame p.start (first j + i)
  byte_at j i l = lane_word (λ n. frame_byte frame p.start (first j + n)) (λ n _. small frame b p.start (first j + n)) i l

  -- an address by its block and lane
  by_block : (j a : ℕ) → a / 8 ≡ p.block + j → first j + a % 8 ≡ a
  by_block j a e = omega arith

  each : (k : ℕ) → k < length frame → p.block * 8 ≤ p.start + k → p.start + k < (p.block + p.beats) * 8 → StrobedOnce p (puts_of frame p) (p.start + k) (slice_index frame k)
  each k l low high =
      let a : ℕ = p.start + k in
      let j : ℕ = a / 8 - p.block in
      let e : a / 8 ≡ p.block + j = omega arith in
      let at : first j + a % 8 ≡ a = by_block j a e in
      record {
        beat = j;
        here = record {
          last = j + 1 == p.beats;
          put = record { word = frame_word frame p.start (first j); strobe = frame_strobe frame p.start (first j); is = beat_at j (omega arith) };
          block = e;
          strobed = bit_at j (a % 8) (omega arith) ∙ ap (in_frame frame p.start) at ∙ holds frame p.start k l;
          byte = byte_at j (a % 8) (omega arith) ∙ ap (frame_byte frame p.start) at ∙ byte_is frame p.start k l;
        };
        only = λ i w x. omega (arith, x.block, e);
      }

  no_other : (j a v : ℕ) → Strobes p (puts_of frame p) j a v → (k : ℕ) × (k < length frame) × (a ≡ p.start + k)
  no_other j a v x =
      let lt : j < p.beats = omega (arith, slice_get_within (puts_of frame p) j _ x.put.is, length-map-range_with_len (put_of frame p) 0 p.beats) in
      let same : Some (Put p.master x.put.word x.put.strobe x.last) ≡ Some (put_of frame p j) = sym x.put.is ∙ beat_at j lt in
      let strobe_is : x.put.strobe ≡ frame_strobe frame p.start (first j) = cc in
      let in_it : in_frame frame p.start a ≡ true =
      ap (in_frame frame p.start) (sym (by_block j a x.block)) ∙ sym (bit_at j (a % 8) (omega arith)) ∙ subst (λ n. bit n (a % 8) ≡ true) strobe_is x.strobed
      in
      let h = held frame p.start a in_it in
      (a - p.start, h.1, omega (arith, h.0))

  pub carries : CarriesFrame frame p (puts_of frame p)
  carries = record {
    count = length-map-range_with_len (put_of frame p) 0 p.beats;
    marks = λ j l. record { word = frame_word frame p.start (first j); strobe = frame_strobe frame p.start (first j); is = beat_at j l };
    each = each;
    no_other = no_other;
    whole = λ low high k l. each k l (omega arith) (omega arith);
  }

  -- where they are added to others
  pub carries_added : (old new : List Act) → new ≡ old ++ puts_of frame p → CarriesFrame frame p (drop (length old) new)
  carries_added old new e = subst (CarriesFrame frame p) (sym (ap (drop (length old)) e ∙ drop-append_seam old (puts_of frame p))) carries
