-- What is read through a buffer, and its report.
use Rattle.std.proofs.Common.{◌≡◌, ℕ, eqb, List, [], Some, None, Option, IfSome, refl, ap, ◌∙◌, subst}
use Rattle.std.proofs.lemmas.Bool.{cond-false}
use Rattle.std.specs.Io.KnownBytes.{prepend_known}
use Rattle.std.specs.Io.Buffered.{reader_inner, reader_buffer, reader_capacity, reader_remaining}
use Rattle.std.specs.declared.io.buffered.BufReader.{BufReader}
use Rattle.script.specs.Reads.{Reads}
use Rattle.bench.specs.Runs.{report_of}
use Rattle.hembayog.specs.Program.{Reports}

-- an empty buffer in front of a reader changes nothing of what is known
none_before : (o : Option (List ℕ)) → prepend_known [] o ≡ o
none_before None = refl
none_before (Some xs) = refl

pub buffered : {T A : Type 0} (remaining : T → Option (List ℕ)) (r : BufReader T A) (input : T) → reader_inner r ≡ input → reader_buffer r ≡ [] → reader_capacity r ≡ 8192 → reader_remaining remaining r ≡ remaining input
buffered remaining r input i b c =
    cond-false (eqb (reader_capacity r) 0) None (prepend_known (reader_buffer r) (remaining r.inner)) (ap (λ (n : ℕ). eqb n 0) c)
    ∙ ap (λ (xs : List ℕ). prepend_known xs (remaining r.inner)) b
    ∙ none_before (remaining r.inner)
    ∙ ap remaining i

-- the report of the file that is read of an input is the input's
pub reports : (o known : Option (List ℕ)) (file report : List ℕ) → known ≡ o → IfSome known (Reads file) → report ≡ report_of file → IfSome o (Reports report)
reports None known file report same r e = tt
reports (Some xs) known file report same r e = record { file = file; read = subst (λ (k : Option (List ℕ)). IfSome k (Reads file)) same r; reported = e }
