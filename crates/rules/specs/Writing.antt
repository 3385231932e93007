-- Bytes written into a file: the bytes of numbers, rows and a trailer, a file made of them, what a store of several bytes
-- leaves, and a table of such stores.
use Rattle.std.specs.Prelude.{ℕ, zero, suc, ◌/◌, ◌%◌, List, [], ◌∷◌, ◌++◌}
use Rattle.std.proofs.lemmas.List.Edits.{sets}
use Rattle.rules.specs.File.{span}
use Rattle.rules.specs.declared.PositionRow.{PositionRow}
use Rattle.rules.specs.declared.SeriesRow.{SeriesRow}

-- Document 01, The account file, "little-endian": the bytes of a number below 2^8, 2^16, 2^24 and 2^32, the low byte first.
abbrev pub bytes1 : ℕ → List ℕ
bytes1 v = v % 256 ∷ []

abbrev pub bytes2 : ℕ → List ℕ
bytes2 v = v % 256 ∷ v / 256 % 256 ∷ []

abbrev pub bytes3 : ℕ → List ℕ
bytes3 v = v % 256 ∷ v / 256 % 256 ∷ v / 65_536 % 256 ∷ []

abbrev pub bytes4 : ℕ → List ℕ
bytes4 v = v % 256 ∷ v / 256 % 256 ∷ v / 65_536 % 256 ∷ v / 16_777_216 % 256 ∷ []

-- "Series row, 24 bytes: PV u32 .. fa u32 .. fb u32 .. f3 u32 .. M u32 .. type u8 .. three zero bytes."
unfoldable pub bytes_of_series : SeriesRow → List ℕ
bytes_of_series r =
    bytes4 r.pv
    ++ bytes4 r.fa
    ++ bytes4 r.fb
    ++ bytes4 r.f3
    ++ bytes4 r.m
    ++ (bytes1 r.option ++ bytes3 r.spare)

-- "Position row, 32 bytes: series u16 .. side u8 .. barrier kind u8; flags u8; three zero bytes; then u32 each: Q .. PE .. PB;
-- barrier price; REB .. unsettled premium". The three are the number blocked (document 02 [9]).
unfoldable pub bytes_of_position : PositionRow → List ℕ
bytes_of_position r =
    bytes2 r.series ++ bytes1 r.side ++ bytes1 r.kind
    ++ (bytes1 r.flags ++ bytes3 r.blocked)
    ++ bytes4 r.q
    ++ bytes4 r.pe
    ++ bytes4 r.pb
    ++ bytes4 r.price
    ++ bytes4 r.reb
    ++ bytes4 r.premium

-- "Trailer, 12 bytes: series count s, u16 .. position count p, u16 .. distance, u32 .. equal to 12 + 24 × s + 32 × p; four zero
-- bytes."
unfoldable pub bytes_of_trailer : ℕ → ℕ → List ℕ
bytes_of_trailer s p = (bytes2 s ++ bytes2 p) ++ bytes4 (span s p) ++ bytes4 0

-- The rows of a table one after the other: the bytes of rows 0 to n - 1.
unfoldable pub bytes_of_rows : (ℕ → List ℕ) → ℕ → List ℕ
bytes_of_rows row zero = []
bytes_of_rows row (suc n) = bytes_of_rows row n ++ row n

-- "series rows, position rows, and at the very end a trailer that points back": a file of s series and p positions, without a
-- cover sheet.
unfoldable pub bytes_of_file : ℕ → (ℕ → SeriesRow) → ℕ → (ℕ → PositionRow) → List ℕ
bytes_of_file s series p positions =
    bytes_of_rows (λ i. bytes_of_series (series i)) s ++ bytes_of_rows (λ r. bytes_of_position (positions r)) p ++ bytes_of_trailer s p

-- The file b after n stores: the bytes `values i` from byte `place i` on, for i from 0 to n - 1.
unfoldable pub stores : (ℕ → ℕ) → (ℕ → List ℕ) → ℕ → List ℕ → List ℕ
stores place values zero b = b
stores place values (suc n) b = sets (stores place values n b) (place n) (values n)
