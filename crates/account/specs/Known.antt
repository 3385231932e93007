-- What is known of a file once it has been accepted with a layout: it is within document 01's limits, the layout is its
-- own, and its rows stand within the file. What functions
-- that work on an accepted file ask of its bytes and layout follows from this.
use Rattle.std.specs.Prelude.{List, ◌≡◌, ℕ}
use Rattle.rules.specs.File.{layout}
use Rattle.rules.specs.Limits.{FileWithin, Placed}
use Rattle.rules.specs.declared.Layout.{Layout}

pub record Known (b : List ℕ) (l : Layout) : Type 0 where
  pub within : FileWithin b
  pub layout_is : l ≡ layout b
  pub placed : Placed b l
