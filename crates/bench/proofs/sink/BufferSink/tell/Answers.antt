-- The line stands behind the text.
use Rattle.bench.proofs.Texts.{buffer_more}
use Rattle.bench.proofs.sink.BufferSink.tell.Goals as goal

pub returns-clause-takes : goal.returns-clause-takes
returns-clause-takes c = λ start text t.
    let x = c.in_ok-self in
    let m = buffer_more start.bytes.now text _ _ _ _ _ t.1 t.2 t.3 x.ensures.end.0 x.ensures.end.1 x.ensures.after in
    (m.1, (t.0, m.0, m.1, m.2))
