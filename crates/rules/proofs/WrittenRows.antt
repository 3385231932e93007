-- A file that holds the bytes of a number or of a row from some place on is read there as that number or row. Every number must
-- fit its bytes, as those of rows within their limits do.
-- Assumes nothing.
use Prim.Native.Nat.{ℕ, ◌+◌, ◌/◌, ◌%◌, ◌≤◌, ◌<◌}
use mathlib.Core.List.{List}
use mathlib.Core.Logic.{◌⊎◌, inl, inr}
use mathlib.Core.Path.{◌≡◌, refl, ◌∙◌}
use native.Mathlib.Omega.{arith}
use lib.ListN.{get_or, length}
use Rattle.rules.proofs.Fields.{four_bytes}
use Rattle.rules.proofs.Tests.{lt_or_ge}
use Rattle.rules.specs.File.{position_row_from, series_row_from, u16_at, u24_at, u32_at, u8_at}
use Rattle.rules.specs.Limits.{PositionWithin, SeriesWithin, most_series}
use Rattle.rules.specs.Writing.{bytes_of_position, bytes_of_series}
use Rattle.rules.specs.declared.PositionRow.{PositionRow}
use Rattle.rules.specs.declared.SeriesRow.{SeriesRow}

-- The file c holds the bytes vs from byte m on.
abbrev pub Holds : List ℕ → ℕ → List ℕ → Type 0
Holds c m vs = (j : ℕ) → j < length vs → get_or c (m + j) 0 ≡ get_or vs j 0

-- Numbers of which vs holds the bytes from its byte k on.
module _ (c vs : List ℕ) (m : ℕ) (h : Holds c m vs) (k v : ℕ) where
  -- Byte k + i of vs.
  held_byte : (i : ℕ) → k + i < length vs → get_or c (m + k + i) 0 ≡ get_or vs (k + i) 0
  held_byte i l =
      let place : m + k + i ≡ m + (k + i) = omega arith in
      rw place (h (k + i) l)

  first_byte : k < length vs → get_or c (m + k) 0 ≡ get_or vs k 0
  first_byte l = h k l

  u8_held : k < length vs → get_or vs k 0 ≡ v % 256 → v < 256 → u8_at c (m + k) ≡ v
  u8_held l e small = first_byte l ∙ e ∙ (omega arith)

  pub u16_held : k + 1 < length vs → get_or vs k 0 ≡ v % 256 → get_or vs (k + 1) 0 ≡ v / 256 % 256 → v < 65_536 → u16_at c (m + k) ≡ v
  u16_held l e0 e1 small =
      rw (first_byte (omega arith), held_byte 1 l, e0, e1) (omega arith)

  u24_held : k + 2 < length vs → get_or vs k 0 ≡ v % 256 → get_or vs (k + 1) 0 ≡ v / 256 % 256 → get_or vs (k + 2) 0 ≡ v / 65_536 % 256 → v < 16_777_216 → u24_at c (m + k) ≡ v
  u24_held l e0 e1 e2 small =
      let e : v / 65_536 ≡ v / 256 / 256 = omega arith in
      rw (first_byte (omega arith), held_byte 1 (omega arith), held_byte 2 l, e0, e1, e2) (omega arith)

  pub u32_held : k + 3 < length vs → get_or vs k 0 ≡ v % 256 → get_or vs (k + 1) 0 ≡ v / 256 % 256 → get_or vs (k + 2) 0 ≡ v / 65_536 % 256 → get_or vs (k + 3) 0 ≡ v / 16_777_216 % 256 → v < 4_294_967_296 → u32_at c (m + k) ≡ v
  u32_held l e0 e1 e2 e3 small =
      rw (first_byte (omega arith), held_byte 1 (omega arith), held_byte 2 (omega arith), held_byte 3 l, e0, e1, e2, e3) (four_bytes v small)

-- The numbers of a position row fit their bytes.
pub record Fits (r : PositionRow) : Type 0 where
  pub series_fits : r.series < 65_536
  pub side_fits : r.side < 256
  pub kind_fits : r.kind < 256
  pub flags_fits : r.flags < 256
  pub blocked_fits : r.blocked < 16_777_216
  pub q_fits : r.q < 4_294_967_296
  pub pe_fits : r.pe < 4_294_967_296
  pub pb_fits : r.pb < 4_294_967_296
  pub price_fits : r.price < 4_294_967_296
  pub reb_fits : r.reb < 4_294_967_296
  pub premium_fits : r.premium < 4_294_967_296

-- Those of a row within its limits do, in an account within its own.
pub position_fits : (s : ℕ) (k : SeriesRow) (r : PositionRow) → s ≤ most_series → SeriesWithin k → PositionWithin s k r → Fits r
position_fits s k r few v w =
    record {
      series_fits = omega (arith, w.series_below);
      side_fits = omega (arith, w.side_most);
      kind_fits = omega (arith, w.kind_most);
      flags_fits = omega (arith, w.flags_most);
      blocked_fits = omega (arith, w.blocked_most, w.q_most);
      q_fits = omega (arith, w.q_most);
      pe_fits = omega (arith, w.pe_most);
      pb_fits = limiter (lt_or_ge (r.flags / 2 % 2) 1) (lt_or_ge k.option 1);
      price_fits = price (lt_or_ge r.kind 1);
      reb_fits = omega (arith, w.reb_most);
      premium_fits = omega (arith, w.premium_most);
    }
  where
    limiter : (r.flags / 2 % 2 < 1) ⊎ (1 ≤ r.flags / 2 % 2) → (k.option < 1) ⊎ (1 ≤ k.option) → r.pb < 4_294_967_296
    limiter (inl none) z = omega (arith, w.pb_none (omega arith))
    limiter (inr some) (inl call) = omega (arith, (w.pb_call (omega arith) (omega arith)).1)
    limiter (inr some) (inr put) = omega (arith, w.pb_put (omega arith) (omega (arith, v.option_most)), w.pe_most)

    price : (r.kind < 1) ⊎ (1 ≤ r.kind) → r.price < 4_294_967_296
    price (inl none) = omega (arith, w.price_none (omega arith))
    price (inr some) = omega (arith, (w.price_some some).1)

module _ (c : List ℕ) (m : ℕ) where
  pub series_held : (r : SeriesRow) → SeriesWithin r → Holds c m (bytes_of_series r) → series_row_from c m ≡ r
  unfolding bytes_of_series
  series_held r w h =
      let here : m + 0 ≡ m = omega arith in
      let vs = bytes_of_series r in
      rw (
        rw here at (u32_held c vs m h 0 r.pv (omega arith) refl refl refl refl (omega (arith, w.pv_most))),
        u32_held c vs m h 4 r.fa (omega arith) refl refl refl refl (omega (arith, w.fa_most)),
        u32_held c vs m h 8 r.fb (omega arith) refl refl refl refl (omega (arith, w.fb_most, w.fa_most)),
        u32_held c vs m h 12 r.f3 (omega arith) refl refl refl refl (omega (arith, w.f3_most)),
        u32_held c vs m h 16 r.m (omega arith) refl refl refl refl (omega (arith, w.m_most)),
        u8_held c vs m h 20 r.option (omega arith) refl (omega (arith, w.option_most)),
        u24_held c vs m h 21 r.spare (omega arith) refl refl refl (omega (arith, w.spare_zero)),
      )

  pub position_held : (r : PositionRow) → Fits r → Holds c m (bytes_of_position r) → position_row_from c m ≡ r
  unfolding bytes_of_position
  position_held r f h =
      let here : m + 0 ≡ m = omega arith in
      let vs = bytes_of_position r in
      rw (
        rw here at (u16_held c vs m h 0 r.series (omega arith) refl refl f.series_fits),
        u8_held c vs m h 2 r.side (omega arith) refl f.side_fits,
        u8_held c vs m h 3 r.kind (omega arith) refl f.kind_fits,
        u8_held c vs m h 4 r.flags (omega arith) refl f.flags_fits,
        u24_held c vs m h 5 r.blocked (omega arith) refl refl refl f.blocked_fits,
        u32_held c vs m h 8 r.q (omega arith) refl refl refl refl f.q_fits,
        u32_held c vs m h 12 r.pe (omega arith) refl refl refl refl f.pe_fits,
        u32_held c vs m h 16 r.pb (omega arith) refl refl refl refl f.pb_fits,
        u32_held c vs m h 20 r.price (omega arith) refl refl refl refl f.price_fits,
        u32_held c vs m h 24 r.reb (omega arith) refl refl refl refl f.reb_fits,
        u32_held c vs m h 28 r.premium (omega arith) refl refl refl refl f.premium_fits,
      )
