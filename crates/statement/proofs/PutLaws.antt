-- A text put after another one is both put at once.
-- Assumes nothing.
use Prim.Native.Nat.{ℕ}
use mathlib.Core.List.{List, [], ◌++◌, append_assoc}
use mathlib.Core.Path.{◌≡◌, refl, sym, ap, ◌∙◌}
use native.Mathlib.Omega.{arith}
use lib.ListN.{length, length-append, take}
use Rattle.statement.specs.Puts.{Put}

pub put_then : {a b c : List ℕ} {p q r : ℕ} (s t : List ℕ) → Put a b p q s → Put b c q r t → Put a c p r (s ++ t)
put_then {a = a} {p = p} s t x y =
    record {
      end_is = omega (arith, x.end_is, y.end_is, length-append s t);
      text_is = y.text_is ∙ ap (λ (z : List ℕ). z ++ t) x.text_is ∙ append_assoc (take p a) s t;
    }

-- Nothing put yet.
pub put_none : (a : List ℕ) → Put a a 0 0 []
put_none a = record { end_is = refl; text_is = refl }

-- A text put at the start: its size, and that many bytes are there.
module _ {old new text : List ℕ} {end : ℕ} (x : Put old new 0 end text) where
  pub put_size : end ≡ length text
  put_size = omega (arith, x.end_is)

  pub put_there : end ≡ length (take end new)
  put_there = put_size ∙ sym (ap length x.text_is)
