-- A line written as three stores.
-- Assumes nothing.
use Prim.Native.Nat.{ℕ, ◌+◌, ◌*◌, ◌/◌, ◌%◌, ◌≤◌}
use mathlib.Core.List.{List}
use mathlib.Core.Path.{◌≡◌, ◌∙◌, ap}
use native.Mathlib.Omega.{arith}
use lib.ListN.{get_or, length, set, length-set}
use lib.Seq.{get_or-set_other, get_or-set_same}
use Rattle.lines.specs.LineNumbers.{LineWritten, Packable, head_of, numbers_per_line}
use Rattle.rules.specs.declared.Line.{Line}

module _ (l : List ℕ) (n a b c : ℕ) (long : n + numbers_per_line ≤ length l) where
  abbrev l₁ : List ℕ
  l₁ = set l n a

  abbrev l₂ : List ℕ
  l₂ = set l₁ (n + 1) b

  abbrev l₃ : List ℕ
  l₃ = set l₂ (n + 2) c

  at_2 : get_or l₃ (n + 2) 0 ≡ c
  at_2 = get_or-set_same l₂ (n + 2) c 0 (simp length-set (omega arith))

  at_1 : get_or l₃ (n + 1) 0 ≡ b
  at_1 =
      get_or-set_other l₂ (n + 2) (n + 1) c 0 (λ (q : n + 1 ≡ n + 2). omega arith)
      ∙ get_or-set_same l₁ (n + 1) b 0 (simp length-set (omega arith))

  at_0 : get_or l₃ n 0 ≡ a
  at_0 =
      get_or-set_other l₂ (n + 2) n c 0 (λ (q : n ≡ n + 2). omega arith)
      ∙ get_or-set_other l₁ (n + 1) n b 0 (λ (q : n ≡ n + 1). omega arith)
      ∙ get_or-set_same l n a 0 (omega arith)

  elsewhere : (i : ℕ) → (i ≡ n → ⊥) → (i ≡ n + 1 → ⊥) → (i ≡ n + 2 → ⊥) → get_or l₃ i 0 ≡ get_or l i 0
  elsewhere i p q r =
      get_or-set_other l₂ (n + 2) i c 0 r
      ∙ get_or-set_other l₁ (n + 1) i b 0 q
      ∙ get_or-set_other l n i a 0 p

-- The head has all three numbers.
module _ (line : Line) (h : Packable line) where
  head_kind : head_of line % 4 ≡ line.kind
  head_kind = omega (arith, h.kind_most, h.second_most, h.third_most)

  head_second : head_of line / 4 % 256 ≡ line.secondNumber
  head_second = omega (arith, h.kind_most, h.second_most, h.third_most)

  head_third : head_of line / 1_024 ≡ line.thirdNumber
  head_third = omega (arith, h.kind_most, h.second_most, h.third_most)

pub line_written : (numbers : List ℕ) (k : ℕ) (x : Line) → numbers_per_line * k + numbers_per_line ≤ length numbers → Packable x
    → LineWritten k x numbers (set (set (set numbers (numbers_per_line * k) (head_of x)) (numbers_per_line * k + 1) x.fourthNumber) (numbers_per_line * k + 2) x.fifthNumber)
line_written numbers k x long h =
    let n = numbers_per_line * k in
    let head = at_0 numbers n (head_of x) x.fourthNumber x.fifthNumber long in
    record {
      line_is = λ t. record {
        kind = (ap (λ (y : ℕ). y % 4) head ∙ head_kind x h) t;
        secondNumber = (ap (λ (y : ℕ). y / 4 % 256) head ∙ head_second x h) t;
        thirdNumber = (ap (λ (y : ℕ). y / 1_024) head ∙ head_third x h) t;
        fourthNumber = at_1 numbers n (head_of x) x.fourthNumber x.fifthNumber long t;
        fifthNumber = at_2 numbers n (head_of x) x.fourthNumber x.fifthNumber long t;
      };
      before = λ i l. elsewhere numbers n (head_of x) x.fourthNumber x.fifthNumber long i (λ (e : i ≡ n). omega arith) (λ (e : i ≡ n + 1). omega arith) (λ (e : i ≡ n + 2). omega arith);
      after = λ i l. elsewhere numbers n (head_of x) x.fourthNumber x.fifthNumber long i (λ (e : i ≡ n). omega arith) (λ (e : i ≡ n + 1). omega arith) (λ (e : i ≡ n + 2). omega arith);
    }
