-- What a day for a series that the account does not have is answered, and that the bytes keep their content.
use Rattle.std.proofs.Common.{◌≡◌, ℕ, List, ◌≤◌, refl}
use Rattle.rules.proofs.DayPromises.{series_refused}
use Rattle.rules.specs.Day.{day_answer, file_after}
use Rattle.rules.specs.Refusals.{file_read, refused_at}
use Rattle.rules.specs.declared.Day.{Day}
use Rattle.rules.specs.declared.Layout.{Layout}
use Rattle.rules.specs.declared.Refusal.TheVariants.{SeriesAskedFor}
use borrow.Author.Tests.{le-leb}
use Rattle.std.specs.Prelude.{Ok}

module _ (b : List ℕ) (d : Day) (l : Layout) (e : file_read b ≡ Ok l) (absent : l.series ≤ d.series) where
  pub absent_answer : refused_at SeriesAskedFor 0 ≡ day_answer b d
  absent_answer = (series_refused b d l e b (le-leb l.series d.series absent) refl).0

  pub absent_bytes : b ≡ file_after b d
  absent_bytes = (series_refused b d l e b (le-leb l.series d.series absent) refl).1
