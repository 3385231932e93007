-- Laws of the reading: a file within the limits is accepted, an accepted file is within them, and a refused row is the
-- first faulty one.
-- Assumes nothing.
use Prim.Native.Nat.{ℕ}
use mathlib.Core.List.{List}
use mathlib.Core.Logic.{◌⊎◌, inl, inr}
use mathlib.Core.Path.{◌≡◌, refl, sym, ◌∙◌, ap, subst}
use native.Mathlib.Omega.{arith}
use Rattle.rules.specs.File.{Account, account_of, layout, position_count, position_row, series_count, series_row}
use Rattle.rules.specs.Limits.{FileWithin}
use Rattle.rules.specs.Refusals.{Fault, accepted, clean, file_read, meaning, meant, number, or_else, position_fault, position_rows, refused, refused_at, series_fault, series_rows, trailer_fault}
use Rattle.rules.specs.declared.Layout.{Layout}
use Rattle.rules.specs.declared.Refusal.{Refusal}
use Rattle.rules.proofs.PositionLimits.{position_clean, position_within}
use Rattle.rules.proofs.Scan.{CleanTo, FirstAt, rows_clean, rows_stop, scan}
use Rattle.rules.proofs.SeriesLimits.{series_clean, series_within}
use Rattle.rules.proofs.TrailerLimits.{trailer_clean, trailer_within}
use Rattle.std.specs.Prelude.{Result, Ok, Err}
use Rattle.rules.specs.declared.Refused.{Refused}
use Rattle.rules.proofs.SameAnswers.{same_refused}

-- The three ways a file is refused: by its trailer, with row 0; by the first faulty series row, the trailer being
-- clean; by the first faulty position row, the trailer and every series row being clean.
pub data FirstFault (b : List ℕ) (w : Refusal) (row : ℕ) : Type 0 where
  in_trailer : row ≡ 0 → trailer_fault b ≡ Err w → FirstFault b w row
  in_series : trailer_fault b ≡ clean → FirstAt (series_fault b (layout b)) (series_count b) row w → FirstFault b w row
  in_positions : trailer_fault b ≡ clean → CleanTo (series_fault b (layout b)) (series_count b) → FirstAt (position_fault b (layout b)) (position_count b) row w → FirstFault b w row

module _ (b : List ℕ) where
  -- No row has a fault, nor has the trailer.
  pub record Faultless : Type 0 where
    pub trailer : trailer_fault b ≡ clean
    pub series : CleanTo (series_fault b (layout b)) (series_count b)
    pub positions : CleanTo (position_fault b (layout b)) (position_count b)

  after_trailer : trailer_fault b ≡ clean → file_read b ≡ series_rows b (layout b)
  unfolding file_read
  after_trailer t = ap (λ (x : Fault). or_else x 0 (series_rows b (layout b))) t

  after_series : CleanTo (series_fault b (layout b)) (series_count b) → series_rows b (layout b) ≡ position_rows b (layout b)
  unfolding series_rows layout
  after_series c = rows_clean (series_fault b (layout b)) (series_count b) (position_rows b (layout b)) c

  faultless_read : Faultless → file_read b ≡ Ok (layout b)
  unfolding position_rows layout
  faultless_read h =
      after_trailer h.trailer
      ∙ after_series h.series
      ∙ rows_clean (position_fault b (layout b)) (position_count b) (Ok (layout b)) h.positions

  -- A file is refused for its first fault.
  pub fault_read : (w : Refusal) (row : ℕ) → FirstFault b w row → file_read b ≡ refused_at w row
  unfolding file_read series_rows position_rows layout
  fault_read w row (in_trailer z t) =
      ap (λ (x : Fault). or_else x 0 (series_rows b (layout b))) t ∙ ap (refused_at w) (sym z)
  fault_read w row (in_series t a) =
      after_trailer t ∙ rows_stop (series_fault b (layout b)) (series_count b) row w (position_rows b (layout b)) a
  fault_read w row (in_positions t c a) =
      after_trailer t
      ∙ after_series c
      ∙ rows_stop (position_fault b (layout b)) (position_count b) row w (Ok (layout b)) a

  -- Every file is one or the other.
  verdict : Faultless ⊎ ((w : Refusal) × (row : ℕ) × FirstFault b w row)
  verdict = trailer (trailer_fault b) refl
    where
      positions : trailer_fault b ≡ clean → CleanTo (series_fault b (layout b)) (series_count b) → CleanTo (position_fault b (layout b)) (position_count b) ⊎ ((i : ℕ) × (w : Refusal) × FirstAt (position_fault b (layout b)) (position_count b) i w) → Faultless ⊎ ((w : Refusal) × (row : ℕ) × FirstFault b w row)
      positions t c (inl d) = inl (record { trailer = t; series = c; positions = d })
      positions t c (inr (i, w, a)) = inr (w, i, in_positions t c a)

      series : trailer_fault b ≡ clean → CleanTo (series_fault b (layout b)) (series_count b) ⊎ ((i : ℕ) × (w : Refusal) × FirstAt (series_fault b (layout b)) (series_count b) i w) → Faultless ⊎ ((w : Refusal) × (row : ℕ) × FirstFault b w row)
      series t (inl c) = positions t c (scan (position_fault b (layout b)) (position_count b))
      series t (inr (i, w, a)) = inr (w, i, in_series t a)

      trailer : (x : Fault) → trailer_fault b ≡ x → Faultless ⊎ ((w : Refusal) × (row : ℕ) × FirstFault b w row)
      trailer (Ok u) t = series t (scan (series_fault b (layout b)) (series_count b))
      trailer (Err w) t = inr (w, 0, in_trailer refl t)

  within_faultless : FileWithin b → Faultless
  unfolding layout
  within_faultless h =
      record {
        trailer = trailer_clean b h.trailer;
        series = λ i l. series_clean (series_row b (layout b) i) (h.series_rows_lem i l);
        positions = λ i l.
            let r = position_row b (layout b) i in
            let k = series_row b (layout b) r.series in
            position_clean (series_count b) k r (h.series_rows_lem r.series (h.position_rows_lem i l).series_below).option_most (h.position_rows_lem i l);
      }

  faultless_within : Faultless → FileWithin b
  unfolding layout
  faultless_within h =
      record {
        trailer = trailer_within b h.trailer;
        series_rows_lem = λ i l. series_within (series_row b (layout b) i) (h.series i l);
        position_rows_lem = λ i l.
            position_within (series_count b) (series_row b (layout b) (position_row b (layout b) i).series) (position_row b (layout b) i) (h.positions i l);
      }

  -- A file that keeps the limits of document 01 is accepted, whatever its rows hold.
  pub within_read : FileWithin b → file_read b ≡ Ok (layout b)
  within_read h = faultless_read (within_faultless h)

  pub within_accepted : FileWithin b → meaning b ≡ accepted (account_of b (layout b))
  unfolding meaning
  within_accepted h = ap (meant b) (within_read h)

  -- An accepted file keeps the limits, and its account is the one that its bytes hold.
  pub read_within : (l : Layout) → file_read b ≡ Ok l → FileWithin b × (l ≡ layout b)
  read_within l e = go verdict
    where
      go : Faultless ⊎ ((w : Refusal) × (row : ℕ) × FirstFault b w row) → FileWithin b × (l ≡ layout b)
      go (inl h) = let r = faultless_read h in (faultless_within h, cc)
      go (inr (w, row, f)) =
          let r = fault_read w row f in
          let z : ◌≡◌ {A = ℕ} 0 1 = cc in
          absurd (omega arith)

  pub accepted_within : (a : Account) → meaning b ≡ accepted a → FileWithin b × (a ≡ account_of b (layout b))
  unfolding meaning
  accepted_within a e = go (file_read b) refl
    where
      go : (x : Result Layout Refused) → file_read b ≡ x → FileWithin b × (a ≡ account_of b (layout b))
      go (Ok l) q =
          let h = read_within l q in
          let m = sym (ap (meant b) q) ∙ e in
          let k : account_of b l ≡ a = cc in
          (h.0, sym k ∙ ap (account_of b) h.1)
      go (Err refusal) q =
          let m = sym (ap (meant b) q) ∙ e in
          let z : ◌≡◌ {A = ℕ} 0 1 = cc in
          absurd (omega arith)

  -- A refused row is the first faulty one, everything before it without fault.
  pub read_first : (w : Refusal) (row : ℕ) → file_read b ≡ refused_at w row → FirstFault b w row
  read_first w row e = go verdict
    where
      go : Faultless ⊎ ((w : Refusal) × (row : ℕ) × FirstFault b w row) → FirstFault b w row
      go (inl h) = let r = faultless_read h in let z : ◌≡◌ {A = ℕ} 0 1 = cc in absurd (omega arith)
      go (inr (v, i, f)) =
          let same = same_refused (sym (fault_read v i f) ∙ e) in
          subst (λ (x : ℕ). FirstFault b w x) same.1 (subst (λ (x : Refusal). FirstFault b x i) same.0 f)

  pub fault_refused : (w : Refusal) (row : ℕ) → FirstFault b w row → meaning b ≡ refused (number w) row
  unfolding meaning
  fault_refused w row f = ap (meant b) (fault_read w row f)

  pub refused_first : (n row : ℕ) → meaning b ≡ refused n row → (w : Refusal) × (number w ≡ n) × FirstFault b w row
  unfolding meaning
  refused_first n row e = go (file_read b) refl
    where
      go : (x : Result Layout Refused) → file_read b ≡ x → (w : Refusal) × (number w ≡ n) × FirstFault b w row
      go (Ok l) q =
          let m = sym (ap (meant b) q) ∙ e in
          let z : ◌≡◌ {A = ℕ} 0 1 = cc in
          absurd (omega arith)
      go (Err refusal) q =
          let m = sym (ap (meant b) q) ∙ e in
          let p : number refusal.why ≡ n = cc in
          let r : refusal.row ≡ row = cc in
          (refusal.why, p, read_first refusal.why row (q ∙ ap (refused_at refusal.why) r))
