-- What a run over the files of an input does with the caller's closure, and how it ends.
use Rattle.std.specs.Prelude.{ℕ, ◌≤◌, List, length, Result, Ok, Err}
use Rattle.std.specs.Fn.{CalledAtMut, Mut}
use Rattle.std.specs.List.{FoldsTo}
use Rattle.framing.specs.declared.CutOff.{CutOff}
use denote.Ref.{MutBor}

-- The most files of a run.
abbrev pub most_files : ℕ
most_files = 1_000_000_000

module _ {F E : Type 0} (g : Mut F (MutBor (List ℕ) × Unit {0}) (Result (Unit {0}) E × (MutBor (List ℕ) × Unit {0}))) where
  -- The closure p took the file and became q.
  abbrev pub Takes : F → List ℕ → F → Type 0
  Takes p file q = (left : List ℕ) × CalledAtMut g p file (Ok tt) q left

  -- It took some files, one after the other, at most so many.
  abbrev pub TookAll : ℕ → F → F → Type 0
  TookAll most p q = (files : List (List ℕ)) × (length files ≤ most) × FoldsTo Takes p files q

  -- It took some, and turned the next one down with e.
  abbrev pub TurnedDown : ℕ → F → E → F → Type 0
  TurnedDown most p e q = (between : F) × TookAll most p between × ((file left : List ℕ) × CalledAtMut g between file (Err e) q left)

  -- It took some, then the input was cut off, and e is made of that.
  abbrev pub CutOffAfter : (CutOff → E → Type 0) → ℕ → F → E → F → Type 0
  CutOffAfter made most p e q = TookAll most p q × ((cut_off : CutOff) × made cut_off e)
