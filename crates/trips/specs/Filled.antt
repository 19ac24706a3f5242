-- Memory of equal bytes.
use Rattle.std.specs.Prelude.{ℕ, List, replicate}

-- so many bytes b
unfoldable pub filled : ℕ → ℕ → List ℕ
filled n b = replicate n b
