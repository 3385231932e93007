use Prim.Native.Nat.{◌<◌}
use Rattle.lanes.specs.Keys.{none}
use Rattle.pairing.proofs.SearchLaws.{distance_asked, distance_marked, nothing_near, ranked_here, top_marked}
use mathlib.Core.Path.{◌∙◌, refl}
use native.Mathlib.Omega.{arith}
use Rattle.pairing.proofs.rows_now.RowsNow.lower_bound.Goals as goal

pub mark_top-requires : goal.mark_top-requires
mark_top-requires c = (distance_asked c.args.self.now c.args.w c.requires.0 256 c.args.first c.requires.1.up).mark_most

pub skip_spent-up-requires : goal.skip_spent-up-requires
skip_spent-up-requires c = record { row = c.requires.0; room = omega (arith, c.args.self.now.rests.filled.room); links = c.args.self.now.rests.filled.up; cursor = c.requires.1.up; top_is = c.mark_top.ensures ∙ top_marked c.args.self.now c.args.w c.requires.0 256 }

pub mark_top-requires-2 : goal.mark_top-requires-2
mark_top-requires-2 c = (distance_asked c.args.self.now c.args.w c.requires.0 256 c.args.first c.requires.1.up).mark_most

pub skip_spent-down-requires : goal.skip_spent-down-requires
skip_spent-down-requires c = record { row = c.requires.0; room = omega (arith, c.args.self.now.rests.filled.room); links = c.args.self.now.rests.filled.down; cursor = c.requires.1.down; top_is = c.mark_top-2.ensures ∙ top_marked c.args.self.now c.args.w c.requires.0 512 }

pub distance_in-x-requires : goal.distance_in-x-requires
distance_in-x-requires c = distance_asked c.args.self.now c.args.w c.requires.0 256 c.skip_spent-up.result c.skip_spent-up.ensures.cursor

pub distance_in-y-requires : goal.distance_in-y-requires
distance_in-y-requires c = distance_asked c.args.self.now c.args.w c.requires.0 512 c.skip_spent-down.result c.skip_spent-down.ensures.cursor

pub returns-then-m-ge-NONE : goal.returns-then-m-ge-NONE
returns-then-m-ge-NONE c = (nothing_near c.args.self.now c.args.w c.requires.0 c.requires.1.written c.args.first c.args.second c.args.first c.args.second c.skip_spent-up.result c.skip_spent-down.result c.distance_in-x.result c.distance_in-y.result c.smaller-m.result c.skip_spent-up.ensures c.skip_spent-down.ensures (omega arith) (omega arith) (distance_marked c.args.self.now c.args.w c.requires.0 256 c.skip_spent-up.result c.distance_in-x.result c.distance_in-x.ensures) (distance_marked c.args.self.now c.args.w c.requires.0 512 c.skip_spent-down.result c.distance_in-y.result c.distance_in-y.ensures) c.smaller-m.ensures c.if-m-ge-NONE.true _ refl refl refl).0

pub returns : goal.returns
returns c = ranked_here c.args.self.now c.args.w c.requires.0 c.requires.1.written c.args.first c.args.second c.args.first c.args.second c.skip_spent-up.result c.skip_spent-down.result c.distance_in-x.result c.distance_in-y.result c.smaller-m.result c.skip_spent-up.ensures c.skip_spent-down.ensures (omega arith) (omega arith) (distance_marked c.args.self.now c.args.w c.requires.0 256 c.skip_spent-up.result c.distance_in-x.result c.distance_in-x.ensures) (distance_marked c.args.self.now c.args.w c.requires.0 512 c.skip_spent-down.result c.distance_in-y.result c.distance_in-y.ensures) c.smaller-m.ensures c.if-m-ge-NONE.false _ c.rank_from.ensures refl refl (λ (q : none < none). absurd (omega arith))
