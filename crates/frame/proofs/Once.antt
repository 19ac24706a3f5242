-- Each byte of the frame is put by one of its bursts.
use Rattle.std.proofs.Common.{◌≡◌, ℕ, zero, suc, ◌+◌, ◌-◌, ◌*◌, ◌/◌, ◌<◌, ◌≤◌, List, length, slice_index, refl, arith}
use Rattle.std.proofs.lemmas.Option.{slice_get_within}
use Rattle.workload.specs.Moves.{puts_of}
use Rattle.workload.proofs.Carries.{carries}
use Rattle.frame.specs.Rows.{row_at, row_puts, PutBy, WrittenOnce}

-- the burst that an address lies in has it in its blocks
in_blocks : (i k : ℕ) → k < 640 → i ≡ (257 + k) / 8 / 16 - 2 → ((row_at i).start / 8 * 8 ≤ 257 + k) × (257 + k < ((row_at i).start / 8 + (row_at i).beats) * 8)
in_blocks zero k l e = (omega arith, omega arith)
in_blocks (suc zero) k l e = (omega arith, omega arith)
in_blocks (suc (suc zero)) k l e = (omega arith, omega arith)
in_blocks (suc (suc (suc zero))) k l e = (omega arith, omega arith)
in_blocks (suc (suc (suc (suc zero)))) k l e = (omega arith, omega arith)
in_blocks (suc (suc (suc (suc (suc zero))))) k l e = (omega arith, omega arith)
in_blocks (suc (suc (suc (suc (suc (suc i)))))) k l e = absurd (omega arith)

-- and no other burst has its block
block_of : (j n beat : ℕ) → j < 6 → n ≡ (row_at j).start / 8 + beat → beat < (row_at j).beats → j ≡ n / 16 - 2
block_of zero n beat l e h = omega arith
block_of (suc zero) n beat l e h = omega arith
block_of (suc (suc zero)) n beat l e h = omega arith
block_of (suc (suc (suc zero))) n beat l e h = omega arith
block_of (suc (suc (suc (suc zero)))) n beat l e h = omega arith
block_of (suc (suc (suc (suc (suc zero))))) n beat l e h = omega arith
block_of (suc (suc (suc (suc (suc (suc j)))))) n beat l e h = absurd (omega arith)

module _ (frame : List ℕ) (b : (k : ℕ) → k < length frame → slice_index frame k < 256) (len : length frame ≡ 640) where
  put_by : (k i : ℕ) → k < 640 → i ≡ (257 + k) / 8 / 16 - 2 → PutBy frame k i
  put_by k i l e =
      let r = in_blocks i k l e in
      record {
        one = let z : i < 6 = omega arith in z;
        once = (carries frame b (row_puts (row_at i))).each k (omega arith) r.0 r.1;
        no_other = λ j beat v m x.
            let law = carries frame b (row_puts (row_at j)) in
            let inside = slice_get_within (puts_of frame (row_puts (row_at j))) beat _ x.put.is in
            let n : ℕ = (257 + k) / 8 in
            let same : j ≡ n / 16 - 2 = block_of j n beat m x.block (omega (arith, inside, law.count)) in
            omega (arith, same);
      }

  pub written_once : WrittenOnce frame
  written_once k l = ((257 + k) / 8 / 16 - 2, put_by k ((257 + k) / 8 / 16 - 2) l refl)
