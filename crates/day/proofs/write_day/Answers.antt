use Rattle.day.proofs.Loop.{day_by_stores}
use Rattle.day.proofs.write_day.Goals as goal

pub returns : goal.returns
returns c = day_by_stores c.args.file.now c.args.l c.args.d _ c.write_flags.new.file c.write_flags.ensures c.write_u32.ensures
