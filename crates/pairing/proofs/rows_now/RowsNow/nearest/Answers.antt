use Rattle.pairing.proofs.SearchLaws.{distance_asked, distance_marked, down_moves, found, nearer, nothing_near, top_marked, up_moves}
use mathlib.Core.Path.{◌∙◌, refl}
use native.Mathlib.Omega.{arith}
use Rattle.pairing.proofs.rows_now.RowsNow.nearest.Goals as goal

pub mark_top-requires : goal.mark_top-requires
mark_top-requires c = (distance_asked c.args.self.now c.args.w.row c.requires.row 256 c.loop-w.up c.loop-w.invariant.0.up).mark_most

pub skip_spent-up-requires : goal.skip_spent-up-requires
skip_spent-up-requires c = record { row = c.requires.row; room = omega (arith, c.args.self.now.rests.filled.room); links = c.args.self.now.rests.filled.up; cursor = c.loop-w.invariant.0.up; top_is = c.mark_top.ensures ∙ top_marked c.args.self.now c.args.w.row c.requires.row 256 }

pub mark_top-requires-in-loop-w : goal.mark_top-requires-in-loop-w
mark_top-requires-in-loop-w c = (distance_asked c.args.self.now c.args.w.row c.requires.row 256 c.loop-w.up c.loop-w.invariant.0.up).mark_most

pub skip_spent-down-requires : goal.skip_spent-down-requires
skip_spent-down-requires c = record { row = c.requires.row; room = omega (arith, c.args.self.now.rests.filled.room); links = c.args.self.now.rests.filled.down; cursor = c.loop-w.invariant.0.down; top_is = c.mark_top-in-loop-w.ensures ∙ top_marked c.args.self.now c.args.w.row c.requires.row 512 }

pub distance_in-x-requires : goal.distance_in-x-requires
distance_in-x-requires c = distance_asked c.args.self.now c.args.w.row c.requires.row 256 c.skip_spent-up.result c.skip_spent-up.ensures.cursor

pub distance_in-y-requires : goal.distance_in-y-requires
distance_in-y-requires c = distance_asked c.args.self.now c.args.w.row c.requires.row 512 c.skip_spent-down.result c.skip_spent-down.ensures.cursor

pub returns-then-m-ge-NONE : goal.returns-then-m-ge-NONE
returns-then-m-ge-NONE c = nothing_near c.args.self.now c.args.w.row c.requires.row c.requires.reading.written c.args.first c.args.second c.loop-w.up c.loop-w.down c.skip_spent-up.result c.skip_spent-down.result c.distance_in-x.result c.distance_in-y.result c.smaller-m.result c.skip_spent-up.ensures c.skip_spent-down.ensures c.loop-w.invariant.1 c.loop-w.invariant.2 (distance_marked c.args.self.now c.args.w.row c.requires.row 256 c.skip_spent-up.result c.distance_in-x.result c.distance_in-x.ensures) (distance_marked c.args.self.now c.args.w.row c.requires.row 512 c.skip_spent-down.result c.distance_in-y.result c.distance_in-y.ensures) c.smaller-m.ensures c.if-m-ge-NONE.true _ refl refl refl

pub charge_at-spread-requires : goal.charge_at-spread-requires
charge_at-spread-requires c = record { file = c.args.self.now.rests.file; held = (nearer c.args.self.now c.args.w.row c.requires.row c.requires.reading.written c.args.first c.args.second c.loop-w.up c.loop-w.down c.skip_spent-up.result c.skip_spent-down.result c.distance_in-x.result c.distance_in-y.result c.smaller-m.result c.skip_spent-up.ensures c.skip_spent-down.ensures c.loop-w.invariant.1 c.loop-w.invariant.2 (distance_marked c.args.self.now c.args.w.row c.requires.row 256 c.skip_spent-up.result c.distance_in-x.result c.distance_in-x.ensures) (distance_marked c.args.self.now c.args.w.row c.requires.row 512 c.skip_spent-down.result c.distance_in-y.result c.distance_in-y.ensures) c.smaller-m.ensures c.if-m-ge-NONE.false).row; reading = c.requires.reading; meets = (nearer c.args.self.now c.args.w.row c.requires.row c.requires.reading.written c.args.first c.args.second c.loop-w.up c.loop-w.down c.skip_spent-up.result c.skip_spent-down.result c.distance_in-x.result c.distance_in-y.result c.smaller-m.result c.skip_spent-up.ensures c.skip_spent-down.ensures c.loop-w.invariant.1 c.loop-w.invariant.2 (distance_marked c.args.self.now c.args.w.row c.requires.row 256 c.skip_spent-up.result c.distance_in-x.result c.distance_in-x.ensures) (distance_marked c.args.self.now c.args.w.row c.requires.row 512 c.skip_spent-down.result c.distance_in-y.result c.distance_in-y.ensures) c.smaller-m.ensures c.if-m-ge-NONE.false).meets }

pub rank_from-requires : goal.rank_from-requires
rank_from-requires c = (omega (arith, c.requires.row, c.args.self.now.rests.file.placed.positions_most), (nearer c.args.self.now c.args.w.row c.requires.row c.requires.reading.written c.args.first c.args.second c.loop-w.up c.loop-w.down c.skip_spent-up.result c.skip_spent-down.result c.distance_in-x.result c.distance_in-y.result c.smaller-m.result c.skip_spent-up.ensures c.skip_spent-down.ensures c.loop-w.invariant.1 c.loop-w.invariant.2 (distance_marked c.args.self.now c.args.w.row c.requires.row 256 c.skip_spent-up.result c.distance_in-x.result c.distance_in-x.ensures) (distance_marked c.args.self.now c.args.w.row c.requires.row 512 c.skip_spent-down.result c.distance_in-y.result c.distance_in-y.ensures) c.smaller-m.ensures c.if-m-ge-NONE.false).most)

pub returns-then-spread-w : goal.returns-then-spread-w
returns-then-spread-w c = found c.args.self.now c.args.w.row c.requires.row c.requires.reading.written c.args.first c.args.second c.loop-w.up c.loop-w.down c.skip_spent-up.result c.skip_spent-down.result c.distance_in-x.result c.distance_in-y.result c.smaller-m.result c.skip_spent-up.ensures c.skip_spent-down.ensures c.loop-w.invariant.1 c.loop-w.invariant.2 (distance_marked c.args.self.now c.args.w.row c.requires.row 256 c.skip_spent-up.result c.distance_in-x.result c.distance_in-x.ensures) (distance_marked c.args.self.now c.args.w.row c.requires.row 512 c.skip_spent-down.result c.distance_in-y.result c.distance_in-y.ensures) c.smaller-m.ensures c.if-m-ge-NONE.false c.charge_at-spread.result c.args.w.unit c.charge_at-spread.ensures c.if-spread-w.true _ c.rank_from.ensures refl refl refl

pub loop-w-smaller-then-x-y : goal.loop-w-smaller-then-x-y
loop-w-smaller-then-x-y c = let r = (up_moves c.args.self.now c.args.w.row c.requires.row c.requires.reading.written c.args.first c.args.second c.loop-w.up c.loop-w.down c.skip_spent-up.result c.skip_spent-down.result c.distance_in-x.result c.distance_in-y.result c.smaller-m.result c.skip_spent-up.ensures c.skip_spent-down.ensures c.loop-w.invariant.1 c.loop-w.invariant.2 (distance_marked c.args.self.now c.args.w.row c.requires.row 256 c.skip_spent-up.result c.distance_in-x.result c.distance_in-x.ensures) (distance_marked c.args.self.now c.args.w.row c.requires.row 512 c.skip_spent-down.result c.distance_in-y.result c.distance_in-y.ensures) c.smaller-m.ensures c.if-m-ge-NONE.false c.charge_at-spread.result c.args.w.unit c.charge_at-spread.ensures c.if-spread-w.false c.if-x-y.true) in omega (arith, r.1, r.2, c.skip_spent-up.ensures.later, c.skip_spent-down.ensures.later)

pub loop-w-preserved-then-x-y : goal.loop-w-preserved-then-x-y
loop-w-preserved-then-x-y c = let r = (up_moves c.args.self.now c.args.w.row c.requires.row c.requires.reading.written c.args.first c.args.second c.loop-w.up c.loop-w.down c.skip_spent-up.result c.skip_spent-down.result c.distance_in-x.result c.distance_in-y.result c.smaller-m.result c.skip_spent-up.ensures c.skip_spent-down.ensures c.loop-w.invariant.1 c.loop-w.invariant.2 (distance_marked c.args.self.now c.args.w.row c.requires.row 256 c.skip_spent-up.result c.distance_in-x.result c.distance_in-x.ensures) (distance_marked c.args.self.now c.args.w.row c.requires.row 512 c.skip_spent-down.result c.distance_in-y.result c.distance_in-y.ensures) c.smaller-m.ensures c.if-m-ge-NONE.false c.charge_at-spread.result c.args.w.unit c.charge_at-spread.ensures c.if-spread-w.false c.if-x-y.true) in (record { up = r.0; down = c.skip_spent-down.ensures.cursor; written = c.loop-w.invariant.0.written }, omega (arith, r.1, c.loop-w.invariant.1, c.skip_spent-up.ensures.later), omega (arith, c.loop-w.invariant.2, c.skip_spent-down.ensures.later))

pub loop-w-smaller : goal.loop-w-smaller
loop-w-smaller c = let r = (down_moves c.args.self.now c.args.w.row c.requires.row c.requires.reading.written c.args.first c.args.second c.loop-w.up c.loop-w.down c.skip_spent-up.result c.skip_spent-down.result c.distance_in-x.result c.distance_in-y.result c.smaller-m.result c.skip_spent-up.ensures c.skip_spent-down.ensures c.loop-w.invariant.1 c.loop-w.invariant.2 (distance_marked c.args.self.now c.args.w.row c.requires.row 256 c.skip_spent-up.result c.distance_in-x.result c.distance_in-x.ensures) (distance_marked c.args.self.now c.args.w.row c.requires.row 512 c.skip_spent-down.result c.distance_in-y.result c.distance_in-y.ensures) c.smaller-m.ensures c.if-m-ge-NONE.false c.charge_at-spread.result c.args.w.unit c.charge_at-spread.ensures c.if-spread-w.false c.if-x-y.false) in omega (arith, r.1, r.2, c.skip_spent-up.ensures.later, c.skip_spent-down.ensures.later)

pub loop-w-preserved : goal.loop-w-preserved
loop-w-preserved c = let r = (down_moves c.args.self.now c.args.w.row c.requires.row c.requires.reading.written c.args.first c.args.second c.loop-w.up c.loop-w.down c.skip_spent-up.result c.skip_spent-down.result c.distance_in-x.result c.distance_in-y.result c.smaller-m.result c.skip_spent-up.ensures c.skip_spent-down.ensures c.loop-w.invariant.1 c.loop-w.invariant.2 (distance_marked c.args.self.now c.args.w.row c.requires.row 256 c.skip_spent-up.result c.distance_in-x.result c.distance_in-x.ensures) (distance_marked c.args.self.now c.args.w.row c.requires.row 512 c.skip_spent-down.result c.distance_in-y.result c.distance_in-y.ensures) c.smaller-m.ensures c.if-m-ge-NONE.false c.charge_at-spread.result c.args.w.unit c.charge_at-spread.ensures c.if-spread-w.false c.if-x-y.false) in (record { up = c.skip_spent-up.ensures.cursor; down = r.0; written = c.loop-w.invariant.0.written }, omega (arith, c.loop-w.invariant.1, c.skip_spent-up.ensures.later), omega (arith, r.1, c.loop-w.invariant.2, c.skip_spent-down.ensures.later))
