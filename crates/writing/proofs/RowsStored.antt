-- Bytes copied over a part of a file are stored there; the parts of a row or of a trailer, stored one behind the other, are the row or the trailer stored at once.
-- Assumes nothing.
use Prim.Native.Nat.{ℕ, ◌+◌, ◌-◌, ◌≤◌}
use borrow.Rule.Slice.PartMut.{put_mid}
use lib.ListN.{drop, length, take}
use lib.Seq.{sets, sets-eq}
use mathlib.Core.List.{List, ◌++◌}
use mathlib.Core.Path.{◌≡◌, refl, sym, ◌∙◌, ap}
use native.Mathlib.Omega.{arith}
use Rattle.std.proofs.lemmas.List.{take_all}
use Rattle.std.proofs.lemmas.Slice.{put_mid-paste}
use Rattle.rules.proofs.Stores.{stored_behind}
use Rattle.rules.specs.File.{span}
use Rattle.rules.specs.Writing.{bytes1, bytes2, bytes3, bytes4, bytes_of_position, bytes_of_series, bytes_of_trailer}
use Rattle.rules.specs.declared.PositionRow.{PositionRow}
use Rattle.rules.specs.declared.SeriesRow.{SeriesRow}

-- The bytes vs, copied over the part of the file b from byte i on, leave ws there.
pub part_stored : (b vs ws : List ℕ) (i : ℕ) → i + length vs ≤ length b → ws ≡ vs → put_mid i (i + length vs - i) b ws ≡ sets b i vs
part_stored b vs ws i fits copied =
    put_mid-paste i (i + length vs - i) b ws vs (length vs) copied (omega arith) refl
    ∙ ap (λ (x : List ℕ). take i b ++ x ++ drop (i + length vs) b) (take_all (length vs) vs (omega arith))
    ∙ sym (sets-eq vs b i fits)

-- The file b, and after each store c1, c2 and so on.
module _ (b c1 c2 c3 c4 : List ℕ) (at : ℕ) where
  pub trailer_stored : (s p : ℕ) → c1 ≡ sets b at (bytes2 s) → c2 ≡ sets c1 (at + 2) (bytes2 p)
      → c3 ≡ sets c2 (at + 4) (bytes4 (span s p)) → c4 ≡ sets c3 (at + 8) (bytes4 0) → c4 ≡ sets b at (bytes_of_trailer s p)
  unfolding bytes_of_trailer
  trailer_stored s p e1 e2 e3 e4 =
      let v1 : List ℕ = bytes2 s in
      let v2 : List ℕ = v1 ++ bytes2 p in
      let v3 : List ℕ = v2 ++ bytes4 (span s p) in
      let s2 = stored_behind b c1 c2 v1 (bytes2 p) at e1 e2 in
      let s3 = stored_behind b c2 c3 v2 (bytes4 (span s p)) at s2 e3 in
      stored_behind b c3 c4 v3 (bytes4 0) at s3 e4

  module _ (c5 c6 c7 : List ℕ) where
    pub series_stored : (r : SeriesRow) → c1 ≡ sets b at (bytes4 r.pv) → c2 ≡ sets c1 (at + 4) (bytes4 r.fa)
        → c3 ≡ sets c2 (at + 8) (bytes4 r.fb) → c4 ≡ sets c3 (at + 12) (bytes4 r.f3) → c5 ≡ sets c4 (at + 16) (bytes4 r.m)
        → c6 ≡ sets c5 (at + 20) (bytes1 r.option) → c7 ≡ sets c6 (at + 21) (bytes3 r.spare) → c7 ≡ sets b at (bytes_of_series r)
    unfolding bytes_of_series
    series_stored r e1 e2 e3 e4 e5 e6 e7 =
        let v1 : List ℕ = bytes4 r.pv in
        let v2 : List ℕ = v1 ++ bytes4 r.fa in
        let v3 : List ℕ = v2 ++ bytes4 r.fb in
        let v4 : List ℕ = v3 ++ bytes4 r.f3 in
        let v5 : List ℕ = v4 ++ bytes4 r.m in
        let v6 : List ℕ = v5 ++ bytes1 r.option in
        let s2 = stored_behind b c1 c2 v1 (bytes4 r.fa) at e1 e2 in
        let s3 = stored_behind b c2 c3 v2 (bytes4 r.fb) at s2 e3 in
        let s4 = stored_behind b c3 c4 v3 (bytes4 r.f3) at s3 e4 in
        let s5 = stored_behind b c4 c5 v4 (bytes4 r.m) at s4 e5 in
        let s6 = stored_behind b c5 c6 v5 (bytes1 r.option) at s5 e6 in
        stored_behind b c6 c7 v6 (bytes3 r.spare) at s6 e7

    pub position_stored : (c8 c9 c10 c11 : List ℕ) (r : PositionRow) → c1 ≡ sets b at (bytes2 r.series)
        → c2 ≡ sets c1 (at + 2) (bytes1 r.side) → c3 ≡ sets c2 (at + 3) (bytes1 r.kind) → c4 ≡ sets c3 (at + 4) (bytes1 r.flags)
        → c5 ≡ sets c4 (at + 5) (bytes3 r.blocked) → c6 ≡ sets c5 (at + 8) (bytes4 r.q) → c7 ≡ sets c6 (at + 12) (bytes4 r.pe)
        → c8 ≡ sets c7 (at + 16) (bytes4 r.pb) → c9 ≡ sets c8 (at + 20) (bytes4 r.price)
        → c10 ≡ sets c9 (at + 24) (bytes4 r.reb) → c11 ≡ sets c10 (at + 28) (bytes4 r.premium)
        → c11 ≡ sets b at (bytes_of_position r)
    unfolding bytes_of_position
    position_stored c8 c9 c10 c11 r e1 e2 e3 e4 e5 e6 e7 e8 e9 e10 e11 =
        let v1 : List ℕ = bytes2 r.series in
        let v2 : List ℕ = v1 ++ bytes1 r.side in
        let v3 : List ℕ = v2 ++ bytes1 r.kind in
        let v4 : List ℕ = v3 ++ bytes1 r.flags in
        let v5 : List ℕ = v4 ++ bytes3 r.blocked in
        let v6 : List ℕ = v5 ++ bytes4 r.q in
        let v7 : List ℕ = v6 ++ bytes4 r.pe in
        let v8 : List ℕ = v7 ++ bytes4 r.pb in
        let v9 : List ℕ = v8 ++ bytes4 r.price in
        let v10 : List ℕ = v9 ++ bytes4 r.reb in
        let s2 = stored_behind b c1 c2 v1 (bytes1 r.side) at e1 e2 in
        let s3 = stored_behind b c2 c3 v2 (bytes1 r.kind) at s2 e3 in
        let s4 = stored_behind b c3 c4 v3 (bytes1 r.flags) at s3 e4 in
        let s5 = stored_behind b c4 c5 v4 (bytes3 r.blocked) at s4 e5 in
        let s6 = stored_behind b c5 c6 v5 (bytes4 r.q) at s5 e6 in
        let s7 = stored_behind b c6 c7 v6 (bytes4 r.pe) at s6 e7 in
        let s8 = stored_behind b c7 c8 v7 (bytes4 r.pb) at s7 e8 in
        let s9 = stored_behind b c8 c9 v8 (bytes4 r.price) at s8 e9 in
        let s10 = stored_behind b c9 c10 v9 (bytes4 r.reb) at s9 e10 in
        stored_behind b c10 c11 v10 (bytes4 r.premium) at s10 e11
