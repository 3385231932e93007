use Rattle.account.proofs.KnownRows.{known, read_series_below}
use Rattle.lanes.proofs.LimiterLaws.{nearest_put}
use Rattle.lanes.specs.Limiters.{if_written, nearness}
use Rattle.rules.specs.File.{account_of}
use Rattle.rules.specs.declared.Position.{Position}
use mathlib.Core.Path.{◌∙◌, ap}
use native.Mathlib.Omega.{arith}
use Rattle.lanes.proofs.limiters.fill_nearest.Goals as goal

pub bounds-near-s : goal.bounds-near-s
bounds-near-s c = (omega (arith, (read_series_below c.args.file.now.bytes.now c.args.file.now.layout (known _ _ c.args.file.now.accepted) c.loop-r.r c.loop-r-test.true c.position_at-p.result c.position_at-p.ensures), (known _ _ c.args.file.now.accepted).placed.series_most, c.requires.0, c.loop-r.auto.near))

pub written_nearness-requires : goal.written_nearness-requires
written_nearness-requires c = (read_series_below c.args.file.now.bytes.now c.args.file.now.layout (known _ _ c.args.file.now.accepted) c.loop-r.r c.loop-r-test.true c.position_at-p.result c.position_at-p.ensures)

pub bounds-near-s-in-loop-r : goal.bounds-near-s-in-loop-r
bounds-near-s-in-loop-r c = (omega (arith, (read_series_below c.args.file.now.bytes.now c.args.file.now.layout (known _ _ c.args.file.now.accepted) c.loop-r.r c.loop-r-test.true c.position_at-p.result c.position_at-p.ensures), (known _ _ c.args.file.now.accepted).placed.series_most, c.requires.0, c.loop-r.auto.near))

pub loop-r-preserved : goal.loop-r-preserved
loop-r-preserved c = nearest_put (account_of c.args.file.now.bytes.now c.args.file.now.layout) c.loop-r.r c.loop-r.near c.loop-r.invariant c.position_at-p.result.series c.written_nearness.result c.larger.result (omega (arith, (read_series_below c.args.file.now.bytes.now c.args.file.now.layout (known _ _ c.args.file.now.accepted) c.loop-r.r c.loop-r-test.true c.position_at-p.result c.position_at-p.ensures), (known _ _ c.args.file.now.accepted).placed.series_most, c.requires.0, c.loop-r.auto.near)) (omega (arith, (read_series_below c.args.file.now.bytes.now c.args.file.now.layout (known _ _ c.args.file.now.accepted) c.loop-r.r c.loop-r-test.true c.position_at-p.result c.position_at-p.ensures), (known _ _ c.args.file.now.accepted).placed.series_most, c.requires.0, c.loop-r.auto.near)) (ap (λ (p : Position). p.series) c.position_at-p.ensures) (c.written_nearness.ensures ∙ (ap (λ (p : Position). if_written p.side (nearness ((account_of c.args.file.now.bytes.now c.args.file.now.layout).series_at p.series).option p.terms.limiter))) c.position_at-p.ensures) c.larger.ensures
