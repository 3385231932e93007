use Rattle.pairing.proofs.FileFacts.{spread_most}
use native.Mathlib.Omega.{arith}
use Rattle.pairing.proofs.make.make_pair.Goals as goal

pub pair_amount-money-requires : goal.pair_amount-money-requires
pair_amount-money-requires c = (c.requires.written, rw c.requires.spread_is (spread_most c.args.file.now.bytes.now c.args.file.now.layout c.requires.file c.args.w c.args.h c.requires.written c.requires.may_pair_lem), omega (arith, c.smaller-q.ensures, c.requires.written_most))
