-- Document 02 [10] of every seed, every p and every buffer: "Every file so made is accepted", and reads back as the rows drawn;
-- "Bytes of the lent buffer after the file stay"; refused, "nothing is written".
-- Assumes nothing.
use Prim.Native.Nat.{ℕ, ◌≤◌}
use mathlib.Core.List.{List}
use mathlib.Core.Logic.{◌⊎◌, inl, inr}
use mathlib.Core.Path.{◌≡◌, sym, ◌∙◌, ap, subst}
use native.Mathlib.Omega.{arith}
use lib.ListN.{drop, length, length-append, length-drop, take}
use lib.Seq.{drop_at, take_at}
use Rattle.load.proofs.DrawnLimits.{row_within, series_within}
use Rattle.load.proofs.LoadAnswers.{buffer_kept, buffer_made, load_or_not, made_within, refused_for}
use Rattle.load.proofs.LoadWriting.{load_length}
use Rattle.load.specs.Load.{AcceptedDemand, Drawn, LoadWithin, NoLoad, ReadsBack, StaysDemand, buffer_after, load_file, load_size, row_drawn, series_drawn}
use Rattle.rules.proofs.Reading.{within_accepted}
use Rattle.rules.proofs.WrittenFile.{file_within, layout_is, position_count_is, position_row_is, series_count_is, series_row_is}
use Rattle.rules.specs.File.{account_of, layout, position_of, series_of}
use Rattle.rules.specs.Limits.{FileWithin, most_positions}
use Rattle.rules.specs.Refusals.{accepted, meaning}
use Rattle.rules.specs.declared.Layout.{Layout}

-- ---- the file

module _ (seed p : ℕ) (most : p ≤ most_positions) where
  file_limits : FileWithin (load_file seed p)
  unfolding load_file
  file_limits =
      file_within 1 (λ i. series_drawn seed) p (row_drawn seed) (omega arith) (omega arith) most (λ i h. series_within seed) (λ r h. row_within seed r)

  reads_back : ReadsBack seed p (load_file seed p)
  unfolding load_file
  reads_back =
      record {
        one_series = series_count_is 1 (λ i. series_drawn seed) p (row_drawn seed) (omega arith) (omega arith) most;
        p_positions = position_count_is 1 (λ i. series_drawn seed) p (row_drawn seed) (omega arith) (omega arith) most;
        series_row_lem = series_row_is 1 (λ i. series_drawn seed) p (row_drawn seed) (omega arith) (omega arith) most (λ i h. series_within seed) 0 (omega arith);
        position_rows_lem = position_row_is 1 (λ i. series_drawn seed) p (row_drawn seed) (omega arith) (omega arith) most (λ i h. series_within seed) (λ r h. row_within seed r);
      }

  drawn : Drawn seed p (account_of (load_file seed p) (layout (load_file seed p)))
  unfolding load_file
  drawn =
      let stands = layout_is 1 (λ i. series_drawn seed) p (row_drawn seed) (omega arith) (omega arith) most in
      record {
        one_series = ap (λ (l : Layout). l.series) stands;
        series_is = ap series_of reads_back.series_row_lem;
        p_positions = ap (λ (l : Layout). l.positions) stands;
        positions_are = λ r h. ap position_of (reads_back.position_rows_lem r h);
      }

-- ---- the buffer, of which the file is the first part

module _ (seed p : ℕ) (b : List ℕ) where
  first_part : LoadWithin seed p (length b) → take (load_size p) (buffer_after seed p b) ≡ load_file seed p
  first_part w =
      ap (take (load_size p)) (buffer_made seed p b w) ∙ take_at (load_file seed p) (drop (load_size p) b) (load_size p) (load_length seed p)

  pub every_file_accepted : AcceptedDemand seed p b
  every_file_accepted e =
      let w = (made_within seed p (length b) (load_size p) e).0 in
      let most = w.p_most in
      let first = sym (first_part w) in
      let account = account_of (load_file seed p) (layout (load_file seed p)) in
      let means = within_accepted (load_file seed p) (file_limits seed p most) in (
        subst (ReadsBack seed p) first (reads_back seed p most),
        (account, subst (λ (f : List ℕ). meaning f ≡ accepted account) first means, drawn seed p most),
      )

  stays_made : LoadWithin seed p (length b) → StaysDemand seed p b
  stays_made w =
      let is = buffer_made seed p b w in
      let rest : List ℕ = drop (load_size p) b in
      record {
        same_length =
            ap length is
            ∙ length-append (load_file seed p) rest
            ∙ omega (arith, load_length seed p, length-drop (load_size p) b, w.room_least);
        after_stays = ap (drop (load_size p)) is ∙ drop_at (load_file seed p) rest (load_size p) (load_length seed p);
        refused_stays = λ e. buffer_kept seed p b (refused_for seed p (length b) _ 0 e).0;
      }

  stays_refused : NoLoad seed p (length b) → StaysDemand seed p b
  stays_refused n =
      let kept = buffer_kept seed p b n in
      record { same_length = ap length kept; after_stays = ap (drop (load_size p)) kept; refused_stays = λ e. kept }

  pub rest_stays : StaysDemand seed p b
  rest_stays = go (load_or_not seed p (length b))
    where
      go : LoadWithin seed p (length b) ⊎ NoLoad seed p (length b) → StaysDemand seed p b
      go (inl w) = stays_made w
      go (inr n) = stays_refused n
