-- Every record goes on with the run, and its line goes behind the others or ends it.
use Rattle.std.proofs.Common.{arith}
use Rattle.std.proofs.lemmas.Result.{err_from_is_err_and}
use Rattle.bench.proofs.Sofar.{record_read, sofar_none, sofar_more, no_room, ran}
use Rattle.bench.proofs.records.perform.Goals as goal

pub loop-i-init : goal.loop-i-init
loop-i-init g c = sofar_none _ _ _ _ _ _ c.requires.run c.requires.start

pub returns-in_err-tell-clause-takes : goal.returns-in_err-tell-clause-takes
returns-in_err-tell-clause-takes g c =
    let last = c.loop-i-test.true in
    let count = c.records-record-items.ensures.count in
    let e = err_from_is_err_and c.from_residual.result c.from_residual.ensures.1 in
    let read = record_read _ _ c.loop-i.i _ c.read_act.ensures.answer (omega arith) c.records-record-items.ensures.each in
    let full = c.in_err-tell.ensures.takes _ _ c.loop-i.invariant.lines in
    let none = no_room _ _ c.loop-i.i _ _ _ _ _ _ _ _ _ (omega arith) read c.perform_act-outcome.ensures.run c.loop-i.invariant c.in_err-tell.ensures.most (omega arith) full in
    rw e.1 none.0

pub returns-in_err-tell-clause-roomy : goal.returns-in_err-tell-clause-roomy
returns-in_err-tell-clause-roomy g c =
    let last = c.loop-i-test.true in
    let count = c.records-record-items.ensures.count in
    let few = c.args.script.most_acts in
    let read = record_read _ _ c.loop-i.i _ c.read_act.ensures.answer (omega arith) c.records-record-items.ensures.each in
    let full = c.in_err-tell.ensures.takes _ _ c.loop-i.invariant.lines in
    let none = no_room _ _ c.loop-i.i _ _ _ _ _ _ _ _ _ (omega arith) read c.perform_act-outcome.ensures.run c.loop-i.invariant c.in_err-tell.ensures.most (omega arith) full in
    let short = none.1 in
    λ big. absurd (omega arith)

pub loop-i-preserved : goal.loop-i-preserved
loop-i-preserved g c =
    let read = record_read _ _ c.loop-i.i _ c.read_act.ensures.answer (omega arith) c.records-record-items.ensures.each in
    let taken = c.in_ok-tell.ensures.takes _ _ c.loop-i.invariant.lines in
    sofar_more _ _ c.loop-i.i _ _ _ _ _ _ _ _ _ _ (omega arith) read c.perform_act-outcome.ensures.run c.loop-i.invariant c.in_ok-tell.ensures.most taken

pub returns-clause-takes : goal.returns-clause-takes
returns-clause-takes g c =
    let left = c.loop-i-test.false in
    let end = c.loop-i.auto.i-end in
    let r = ran _ _ c.loop-i.i _ _ _ _ (omega (arith, c.records-record-items.ensures.count)) c.loop-i.invariant in (r.0, r.1)

pub returns-clause-run : goal.returns-clause-run
returns-clause-run g c =
    let left = c.loop-i-test.false in
    let end = c.loop-i.auto.i-end in
    let r = ran _ _ c.loop-i.i _ _ _ _ (omega (arith, c.records-record-items.ensures.count)) c.loop-i.invariant in r.2
