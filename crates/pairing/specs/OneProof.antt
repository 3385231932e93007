-- What the pairing rests on can be proved in one way only, so that a value may carry it.
-- Assumes nothing.
use Prim.Native.Nat.{ℕ, ◌%◌, ◌<◌}
use mathlib.Core.HLevel.{Π_prop, Σ_prop_path}
use mathlib.Core.List.{List}
use mathlib.Core.Path.{◌≡◌, sym, ap, ◌∙◌}
use Rattle.std.proofs.Math.Bridge.{le_prop}
use Rattle.std.proofs.Math.Nat.{ℕ_set}
use Rattle.account.specs.Known.{Known}
use Rattle.lanes.proofs.FileFacts.{Ranged, ranged}
use Rattle.lanes.proofs.KeyLaws.{key_row}
use Rattle.lanes.specs.Keys.{LeastKey, key, none}
use Rattle.lanes.specs.Marks.{Table}
use Rattle.pairing.specs.Resting.{Rests}
use Rattle.rules.specs.File.{Account, account_of}
use Rattle.rules.specs.declared.Layout.{Layout}

module _ (a : Account) (ok : Ranged a) where
  -- Row h is that of key y. A key below none has one row.
  abbrev RowOf : ℕ → ℕ → ℕ → Type 0
  RowOf o y h = (h < a.positions) × (key a o h ≡ y)

  one_row : (o y : ℕ) → y < none → IsProp ((h : ℕ) × (h < a.positions) × (key a o h ≡ y))
  one_row o y s u v =
      let row : (h : ℕ) → IsProp (RowOf o y h) = λ h. hlevel (le_prop, ℕ_set) in
      let same : u.0 ≡ v.0 = sym (key_row a ok o u.0 u.1 (rw u.2 s)) ∙ ap (λ x. x % 256) (u.2 ∙ sym v.2) ∙ key_row a ok o v.0 v.1 (rw v.2 s) in
      ap (λ (z : (h : ℕ) × (RowOf o y h)). (z.0, z.1.0, z.1.1)) (Σ_prop_path row {u = (u.0, (u.1, u.2))} {v = (v.0, (v.1, v.2))} same)

  -- So a link of a lane is proved in one way, and the table of all.
  one_key : (o y : ℕ) → IsProp (y < none → (h : ℕ) × (h < a.positions) × (key a o h ≡ y))
  one_key o y = Π_prop (one_row o y)

  one_least : (o lo y : ℕ) → IsProp (LeastKey (key a o) a.positions lo y)
  one_least o lo y = let k = one_key o y in hlevel (le_prop, k)

  one_table : (table : List ℕ) → IsProp (Table a table)
  one_table table = hlevel (le_prop, ℕ_set, one_least 256, one_least 512)

-- The ranges that this rests on are the accepted file's.
pub rests_once : (b : List ℕ) (l : Layout) (left table : List ℕ) → IsProp (Rests b l left table)
rests_once b l left table x y = by_file x.file x y
  where
    by_file : Known b l → IsProp (Rests b l left table)
    by_file k = let t = one_table (account_of b l) (ranged b l k) table in hlevel (le_prop, ℕ_set, t)
