-- The table's rule is one test over all its entries, which is computed.
use Rattle.std.proofs.Common.{arith}
use Rattle.roots.specs.declared.table.TheConstants.{ROOTS}
use Rattle.roots.proofs.Every.{at}
use Rattle.roots.proofs.Squares.{is_root, root_by}
use Rattle.roots.proofs.root.Goals as goal

pub returns : goal.returns
returns c = root_by c.args.n _ (at is_root ROOTS tt c.args.n (omega arith))
