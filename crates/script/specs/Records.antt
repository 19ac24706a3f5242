-- The fields of a record of 24 bytes.
use Rattle.std.specs.Prelude.{ℕ, if◌then◌else◌, List, ◌∷◌, ◌++◌, length, take, drop, Some, None, Option, ◌==◌, slice_index}
use Rattle.std.specs.Int.{w32, w64, from_le_bytes, to_le_bytes}
use Rattle.script.specs.declared.record.Record.{Record}

-- the fields in 24 bytes, numbers with their low byte first
abbrev pub record_of : List ℕ → Record
record_of bytes =
    record {
      code = slice_index bytes 0;
      master = slice_index bytes 1;
      id = slice_index bytes 2;
      qos = slice_index bytes 3;
      kind = slice_index bytes 4;
      size = slice_index bytes 5;
      further = slice_index bytes 6;
      last = slice_index bytes 7;
      address = from_le_bytes w32 (take 4 (drop 8 bytes));
      strobe = slice_index bytes 12;
      zeros = from_le_bytes w32 (take 3 (drop 13 bytes));
      word = from_le_bytes w64 (take 8 (drop 16 bytes));
    }

-- bytes of another length are no record
abbrev pub read_record : List ℕ → Option Record
read_record bytes = if length bytes == 24 then Some (record_of bytes) else None

-- the bytes of the fields
abbrev pub record_bytes : Record → List ℕ
record_bytes r = r.code ∷ r.master ∷ r.id ∷ r.qos ∷ r.kind ∷ r.size ∷ r.further ∷ r.last ∷ (to_le_bytes w32 r.address ++ (r.strobe ∷ (take 3 (to_le_bytes w32 r.zeros) ++ to_le_bytes w64 r.word)))
