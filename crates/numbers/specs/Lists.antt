-- Lists of numbers, as the code keeps them.
use Rattle.std.specs.Prelude.{ℕ, List, get_or}

-- Element r of a list of numbers, 0 past its end.
abbrev pub nth : List ℕ → ℕ → ℕ
nth numbers r = get_or numbers r 0
