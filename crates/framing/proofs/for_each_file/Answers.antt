use Rattle.std.proofs.Common.{arith, of_calls}
use Rattle.framing.specs.Runs.{most_files}
use Rattle.framing.proofs.Taking.{cut_off_told, took_few, took_next, took_none, turned_down_told}
use Rattle.framing.proofs.for_each_file.Goals as goal

pub loop-init : goal.loop-init
loop-init g c = (c.requires, took_none g.F.FnMut c.args.take.now, omega arith)

pub returns-in_err-n-clause-stopped : goal.returns-in_err-n-clause-stopped
returns-in_err-n-clause-stopped g c =
    let o = c.loop.invariant in
    cut_off_told g.F.FnMut c.loop.counter most_files _ _ o.1 o.2 _ _ c.from_residual.result c.from_residual.ensures.1

pub returns-in_err-take-clause-stopped : goal.returns-in_err-take-clause-stopped
returns-in_err-take-clause-stopped g c =
    let o = c.loop.invariant in
    turned_down_told g.F.FnMut c.loop.counter most_files _ _ o.1 o.2 _ c.take.new.self _ _ _ c.take.result c.from_residual-in_err-take.result c.take.ensures
    c.in_err-take.was c.from_residual-in_err-take.ensures.1

pub loop-preserved : goal.loop-preserved
loop-preserved g c =
    let o = c.loop.invariant in
    (search (of_calls), took_next g.F.FnMut c.loop.counter _ _ c.take.new.self _ _ c.take.result _ o.1 c.take.ensures c.in_ok-take.was, omega arith)

pub returns-clause-ended : goal.returns-clause-ended
returns-clause-ended g c =
    let o = c.loop.invariant in
    took_few g.F.FnMut c.loop.counter most_files _ _ o.1 o.2
