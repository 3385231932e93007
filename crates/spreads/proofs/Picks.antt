-- A value chosen by a test, by how the test came out.
-- Assumes nothing.
use mathlib.Core.Bool.{Bool, true, false, cond}
use mathlib.Core.Path.{◌≡◌}

pub pick_true : {A : Type 0} (t : Bool) (x y r : A) → t ≡ true → r ≡ x → r ≡ cond t x y
pick_true t x y r h e = rw h e

pub pick_false : {A : Type 0} (t : Bool) (x y r : A) → t ≡ false → r ≡ y → r ≡ cond t x y
pick_false t x y r h e = rw h e
