use Prim.Native.Nat.{◌%◌, ◌+◌, ◌/◌}
use Rattle.lanes.proofs.FileFacts.{ranged}
use Rattle.pairing.proofs.Turn.{round_asks, round_room, round_stops, round_turns, still_standing}
use Rattle.rules.specs.File.{account_of}
use mathlib.Core.Path.{◌∙◌}
use native.Mathlib.Omega.{arith}
use Rattle.pairing.proofs.pairs.pair_rounds.Goals as goal

pub returns-then-m-ge-NONE : goal.returns-then-m-ge-NONE
returns-then-m-ge-NONE c = round_stops c.args.file.now.bytes.now c.args.file.now.layout c.requires.rests.file c.loop-allowance.left c.loop-allowance.numbers c.args.table.now c.best_rank-m.new.tree c.best_rank-m.new.places c.loop-allowance.k c.loop-allowance.total c.loop-allowance.invariant.0 c.requires.lines c.best_rank-m.result c.best_rank-m.ensures c.if-m-ge-NONE.true (c.args.before.count + c.args.most) (omega (arith, c.loop-allowance.invariant.6))

pub make_pair-total-requires : goal.make_pair-total-requires
make_pair-total-requires c = round_asks c.args.file.now.bytes.now c.args.file.now.layout c.requires.rests.file c.loop-allowance.left c.loop-allowance.numbers c.args.table.now c.best_rank-m.new.tree c.best_rank-m.new.places c.loop-allowance.k c.loop-allowance.total c.loop-allowance.invariant.0 c.requires.lines c.best_rank-m.result c.best_rank-m.ensures c.if-m-ge-NONE.false (omega (arith, c.loop-allowance.invariant.1, c.requires.rests.lefts)) (omega (arith, c.loop-allowance.invariant.5, c.requires.room))

pub overflow_add-total : goal.overflow_add-total
overflow_add-total c = omega (arith, c.loop-allowance.invariant.0.total_most, c.make_pair-total.ensures.amount_most, (round_room c.args.file.now.bytes.now c.args.file.now.layout c.requires.rests.file c.loop-allowance.left c.loop-allowance.numbers c.args.table.now c.best_rank-m.new.tree c.best_rank-m.new.places c.loop-allowance.k c.loop-allowance.total c.loop-allowance.invariant.0 c.requires.lines c.best_rank-m.result c.best_rank-m.ensures c.if-m-ge-NONE.false), c.requires.rests.file.placed.positions_most)

pub loop-allowance-preserved : goal.loop-allowance-preserved
loop-allowance-preserved c = (round_turns c.args.file.now.bytes.now c.args.file.now.layout c.requires.rests.file c.loop-allowance.left c.loop-allowance.numbers c.args.table.now c.best_rank-m.new.tree c.best_rank-m.new.places c.loop-allowance.k c.loop-allowance.total c.loop-allowance.invariant.0 c.requires.lines c.best_rank-m.result c.best_rank-m.ensures c.if-m-ge-NONE.false c.make_pair-total.new.left c.make_pair-total.new.numbers c.make_pair-total.result c.make_pair-total.ensures, c.make_pair-total.ensures.left_length ∙ c.loop-allowance.invariant.1, still_standing (account_of c.args.file.now.bytes.now c.args.file.now.layout) (ranged c.args.file.now.bytes.now c.args.file.now.layout c.requires.rests.file) c.loop-allowance.left c.make_pair-total.new.left c.loop-allowance.numbers c.make_pair-total.new.numbers c.args.table.now c.best_rank-m.new.tree c.best_rank-m.new.places c.loop-allowance.k (c.best_rank-m.result / 256 % 256) (c.best_rank-m.result % 256) c.make_pair-total.result c.make_pair-total.ensures c.best_rank-m.ensures.standings, c.best_rank-m.auto.tree ∙ c.loop-allowance.invariant.3, c.best_rank-m.auto.places ∙ c.loop-allowance.invariant.4, c.make_pair-total.ensures.numbers_length ∙ c.loop-allowance.invariant.5, omega (arith, c.loop-allowance.invariant.6, c.loop-allowance-test.true))
