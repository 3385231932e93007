-- Answers that are the same have the same parts.
-- Assumes nothing.
use Prim.Native.Nat.{ℕ}
use mathlib.Core.Path.{◌≡◌, ◌∙◌, ap}
use Rattle.std.proofs.lemmas.Result.{err_from_is_err_and}
use Rattle.std.specs.Prelude.{IsErrAnd, Result, Err}
use Rattle.rules.specs.Lines.{comes_to}
use Rattle.rules.specs.Refusals.{refused_at}
use Rattle.rules.specs.declared.Refusal.{Refusal}
use Rattle.rules.specs.declared.Refused.{Refused}
use Rattle.rules.specs.declared.Tally.{Tally}

pub same_refused : {A : Type 0} {v w : Refusal} {k i : ℕ} → ◌≡◌ {A = Result A Refused} (refused_at v k) (refused_at w i) → (v ≡ w) × (k ≡ i)
same_refused {A} {v} {w} {k} {i} e =
    let q : ◌≡◌ {A = Refused} (record { why = v; row = k }) (record { why = w; row = i }) = cc in
    (ap (λ (x : Refused). x.why) q, ap (λ (x : Refused). x.row) q)

pub same_total : {n m t s : ℕ} → comes_to n t ≡ comes_to m s → (n ≡ m) × (t ≡ s)
same_total {n} {m} {t} {s} e =
    let q : ◌≡◌ {A = Tally} (record { count = n; total = t }) (record { count = m; total = s }) = cc in
    (ap (λ (x : Tally). x.count) q, ap (λ (x : Tally). x.total) q)

-- What a `?` gives back: the error that it made.
pub given_back : {A E : Type 0} {y : E} (r : Result A E) → IsErrAnd r (λ e. e ≡ y) → r ≡ Err y
given_back r h = let p = err_from_is_err_and r h in p.1 ∙ ap Err p.2
