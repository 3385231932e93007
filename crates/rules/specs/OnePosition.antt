-- Document 01, One position (annex sections 1 to 4).
use Rattle.std.specs.Prelude.{ℕ, ◌+◌, ◌*◌, ◌-◌, ◌/◌, min, max, Bool, true, false, cond, List, leb, ltb, ℤ, pos, neg_ℤ, Result, Ok, Err}
use Rattle.rules.specs.File.{Account, account_of, series_of_row}
use Rattle.rules.specs.Quantities.{fine, high, low, minimum}
use Rattle.rules.specs.Refusals.{file_read, number, refused_at}
use Rattle.rules.specs.declared.Barrier.{Barrier}
use Rattle.rules.specs.declared.Barrier.TheVariants.{NoBarrier, UpIn, DownIn, UpOut, DownOut}
use Rattle.rules.specs.declared.Limiter.{Limiter}
use Rattle.rules.specs.declared.Limiter.TheVariants.{NoLimiter, At}
use Rattle.rules.specs.declared.OptionType.{OptionType}
use Rattle.rules.specs.declared.OptionType.TheVariants.{Call, Put}
use Rattle.rules.specs.declared.Position.{Position}
use Rattle.rules.specs.declared.Refusal.TheVariants.{RowAskedFor}
use Rattle.rules.specs.declared.Series.{Series}
use Rattle.rules.specs.declared.Side.{Side}
use Rattle.rules.specs.declared.Side.TheVariants.{Held, Written}
use Rattle.rules.specs.declared.Terms.{Terms}
use Rattle.rules.specs.declared.Refused.{Refused}
use Rattle.rules.specs.declared.Layout.{Layout}

-- "Flag 1 makes the position one without barrier and with REB 0."
abbrev pub after_flag1 : Bool → Terms → Terms
after_flag1 false t = t
after_flag1 true t = record { pe = t.pe; limiter = t.limiter; barrier = NoBarrier; reb = 0 }

-- The normalised position: its terms after flag 1 is applied.
abbrev pub normal : Position → Terms
normal p = after_flag1 p.flags.knockedIn p.terms

-- REB in fine units.
abbrev pub rebate : Terms → ℕ
rebate t = fine t.reb

-- "No limiter: PB = H for a call, L for a put." PB in fine units, where x is that H or L.
abbrev pub limit_or : Limiter → ℕ → ℕ
limit_or NoLimiter x = x
limit_or (At pb) x = fine pb

abbrev pub call_limit : Series → Terms → ℕ
call_limit s t = limit_or t.limiter (high s)

abbrev pub put_limit : Series → Terms → ℕ
put_limit s t = limit_or t.limiter (low s)

-- "Call payoff C = min(PB; H) − PE", at the H in force.
abbrev pub call_payoff : Series → Terms → ℕ → ℕ
call_payoff s t h = min (call_limit s t) h - fine t.pe

-- "put payoff P = PE − max(PB; L)", at the L in force.
abbrev pub put_payoff : Series → Terms → ℕ → ℕ
put_payoff s t l = fine t.pe - max (put_limit s t) l

-- The unit margin of a written call, by its barrier.
abbrev pub call_unit : Barrier → Series → Terms → ℕ
-- "Up-and-in with H < IU .. max(MM; REB)", otherwise max(MM; REB; C)
call_unit (UpIn iu) s t =
    cond (ltb (high s) (fine iu)) (max (minimum s) (rebate t)) (max (minimum s) (max (rebate t) (call_payoff s t (high s))))
-- "down-and-in with L > ID: max(MM; REB)"; "Call, down-and-in, L ≤ ID: from here H is ID × fa"
call_unit (DownIn id) s t =
    cond (ltb (fine id) (low s)) (max (minimum s) (rebate t)) (max (minimum s) (max (rebate t) (call_payoff s t (id * s.fa))))
-- "Down-and-out call: L > OD gives max(MM; C), else max(MM; REB; C)"
call_unit (DownOut od) s t =
    cond (ltb (fine od) (low s)) (max (minimum s) (call_payoff s t (high s)))
    (max (minimum s) (max (rebate t) (call_payoff s t (high s))))
-- "Up-and-out call: H < OU gives max(MM; C), else max(MM; REB; min(PB; OU) − PE)"
call_unit (UpOut ou) s t =
    cond (ltb (high s) (fine ou)) (max (minimum s) (call_payoff s t (high s)))
    (max (minimum s) (max (rebate t) (call_payoff s t (fine ou))))
-- "Otherwise max(MM; REB; C)"
call_unit NoBarrier s t = max (minimum s) (max (rebate t) (call_payoff s t (high s)))

-- The unit margin of a written put, by its barrier.
abbrev pub put_unit : Barrier → Series → Terms → ℕ
-- "Up-and-in with H < IU .. max(MM; REB)"; "Put, up-and-in, H ≥ IU: from here L is IU × fb"
put_unit (UpIn iu) s t =
    cond (ltb (high s) (fine iu)) (max (minimum s) (rebate t)) (max (minimum s) (max (rebate t) (put_payoff s t (iu * s.fb))))
-- "down-and-in with L > ID: max(MM; REB)", otherwise max(MM; REB; P)
put_unit (DownIn id) s t =
    cond (ltb (fine id) (low s)) (max (minimum s) (rebate t)) (max (minimum s) (max (rebate t) (put_payoff s t (low s))))
-- "Up-and-out put: H < OU gives max(MM; P), else max(MM; REB; P)"
put_unit (UpOut ou) s t =
    cond (ltb (high s) (fine ou)) (max (minimum s) (put_payoff s t (low s)))
    (max (minimum s) (max (rebate t) (put_payoff s t (low s))))
-- "Down-and-out put: L > OD gives max(MM; P), else max(MM; REB; PE − max(PB; OD))"
put_unit (DownOut od) s t =
    cond (ltb (fine od) (low s)) (max (minimum s) (put_payoff s t (low s)))
    (max (minimum s) (max (rebate t) (put_payoff s t (fine od))))
-- "Otherwise .. max(MM; REB; P)"
put_unit NoBarrier s t = max (minimum s) (max (rebate t) (put_payoff s t (low s)))

-- The rules of the series' type.
abbrev pub unit_by : OptionType → Barrier → Series → Terms → ℕ
unit_by Call bar s t = call_unit bar s t
unit_by Put bar s t = put_unit bar s t

-- "A row with flag 16 has unit margin REB if written" (document 02 [5]), without MM; others have it by their barrier.
abbrev pub unit_by_flag16 : Bool → Series → Terms → ℕ
unit_by_flag16 true s t = rebate t
unit_by_flag16 false s t = unit_by s.option t.barrier s t

-- "Written, unit margin in fine units, first rule that applies", after flag 1.
unfoldable pub unit_margin : Series → Position → ℕ
unit_margin s p = unit_by_flag16 p.flags.knockedOut s (normal p)

-- The one rounding: "rounded up to a multiple of 100 centavos instead of to one centavo" (document 02 [6]). x is fine
-- units times M and contracts, of which a centavo has 1,000,000 and 100 centavos have 100,000,000.
abbrev pub rounded_up : ℕ → ℕ
rounded_up x = (x + 99_999_999) / 100_000_000 * 100

-- "unit × M × Q, divided by 1,000,000 and rounded up once"
abbrev pub amount_of : ℕ → ℕ → ℕ → ℕ
amount_of unit m q = rounded_up (unit * m * q)

-- "premium × M × Q, exact"
abbrev pub premium_of : Series → Position → ℕ
premium_of s p = p.premium * s.m * p.q

-- A position's amount: "Held: the amount is premium × M × Q"; written: by its unit margin.
abbrev pub amount_by_side : Side → Series → Position → ℕ
amount_by_side Held s p = premium_of s p
amount_by_side Written s p = amount_of (unit_margin s p) s.m p.q

-- The amount of position row r.
unfoldable pub position_amount : Account → ℕ → ℕ
position_amount a r = amount_by_side (a.position_at r).side (series_of_row a r) (a.position_at r)

-- "it hands over the file's bytes and a row and takes back that position's amount, or the refusal": the reading's
-- refusal first, then 13, "row p or above", with row 0.
abbrev pub amount_for_row : List ℕ → ℕ → Result Layout Refused → Result ℕ Refused
amount_for_row b row (Err refusal) = Err refusal
amount_for_row b row (Ok l) =
    cond (leb l.positions row) (refused_at RowAskedFor 0) (Ok (position_amount (account_of b l) row))

-- The answer of the call for one position.
unfoldable pub amount_answer : List ℕ → ℕ → Result ℕ Refused
amount_answer b row = amount_for_row b row (file_read b)

-- "or the refusal number with a minus sign"
abbrev pub signed_answer : Result ℕ Refused → ℤ
signed_answer (Ok n) = pos n
signed_answer (Err refusal) = neg_ℤ (pos (number refusal.why))
