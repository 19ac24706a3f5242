use Rattle.bench.proofs.Worked.{whole_case}
use Rattle.bench.proofs.laws.whole_case_stands.Goals as goal

pub returns : goal.returns
returns c = whole_case
