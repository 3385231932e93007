-- Document 01, Pairs (annex section 5), with document 02 [3]: the unit spread margin. Subscripts h and w are the held and
-- the written row.
use Rattle.std.specs.Prelude.{ℕ, ◌-◌, min, max, Bool, true, false, cond, ◌&&◌, eqb, leb, ltb, Option, Some, None}
use Rattle.rules.specs.OnePosition.{normal, rebate}
use Rattle.rules.specs.Quantities.{fine, high, low, minimum}
use Rattle.rules.specs.declared.Barrier.{Barrier}
use Rattle.rules.specs.declared.Barrier.TheVariants.{NoBarrier, UpIn, DownIn, UpOut, DownOut}
use Rattle.rules.specs.declared.Limiter.{Limiter}
use Rattle.rules.specs.declared.Limiter.TheVariants.{NoLimiter, At}
use Rattle.rules.specs.declared.OptionType.{OptionType}
use Rattle.rules.specs.declared.OptionType.TheVariants.{Call, Put}
use Rattle.rules.specs.declared.Position.{Position}
use Rattle.rules.specs.declared.Series.{Series}
use Rattle.rules.specs.declared.Terms.{Terms}

-- A barrier's kind and price, the numbers of the position row.
abbrev pub kind_of : Barrier → ℕ
kind_of NoBarrier = 0
kind_of (UpIn price) = 1
kind_of (DownIn price) = 2
kind_of (UpOut price) = 3
kind_of (DownOut price) = 4

abbrev pub price_of : Barrier → ℕ
price_of NoBarrier = 0
price_of (UpIn price) = price
price_of (DownIn price) = price
price_of (UpOut price) = price
price_of (DownOut price) = price

-- The same kind of barrier at the same price.
abbrev pub same_barrier : Barrier → Barrier → Bool
same_barrier h w = eqb (kind_of h) (kind_of w) && eqb (price_of h) (price_of w)

-- A limiter at 0 is a limiter: it is not the same as none.
abbrev pub same_limiter : Limiter → Limiter → Bool
same_limiter NoLimiter NoLimiter = true
same_limiter NoLimiter (At pbw) = false
same_limiter (At pbh) NoLimiter = false
same_limiter (At pbh) (At pbw) = eqb pbh pbw

-- "Same PE, limiter, barrier and REB after flag 1 is applied" (annex section 5, a)
abbrev pub same : Terms → Terms → Bool
same h w =
    eqb h.pe w.pe
    && same_limiter h.limiter w.limiter
    && same_barrier h.barrier w.barrier
    && eqb h.reb w.reb

-- "the held one is not nearer: PBh ≥ PBw for calls, PBh ≤ PBw for puts" (document 02 [3]): nearer is where that fails.
abbrev pub held_nearer : OptionType → ℕ → ℕ → Bool
held_nearer Call pbh pbw = ltb pbh pbw
held_nearer Put pbh pbw = ltb pbw pbh

-- Document 02 [3], in place of document 01's "a limiter on either row bars the pair".
abbrev pub limiter_bars : OptionType → Limiter → Limiter → Bool
-- "A limiter no longer bars a pair when the held row has none"
limiter_bars option NoLimiter w = false
-- "A held limiter against an unlimited written row still bars it."
limiter_bars option (At pbh) NoLimiter = true
-- "or when both have one and the held one is not nearer"
limiter_bars option (At pbh) (At pbw) = held_nearer option pbh pbw

-- "No barriers: max(0; PEh − PEw) for calls, max(0; PEw − PEh) for puts." (annex section 5, b and c)
abbrev pub strike_loss : OptionType → Terms → Terms → ℕ
strike_loss Call h w = fine h.pe - fine w.pe
strike_loss Put h w = fine w.pe - fine h.pe

-- "Call with PEh ≤ PEw, put with PEh ≥ PEw"
abbrev pub strike_covers : OptionType → Terms → Terms → Bool
strike_covers Call h w = leb h.pe w.pe
strike_covers Put h w = leb w.pe h.pe

-- "R = REBw, or max(0; REBw − REBh) where the barriers are equal" (annex section 5, items d.1, e.1, f.1 and g.1)
abbrev pub R : Bool → Terms → Terms → ℕ
R barriers_equal h w = cond barriers_equal (rebate w - rebate h) (rebate w)

-- "for calls D = min(PEh; H) − PEw .. for puts D = PEw − max(PEh; L)", at the L and H in force, `low_price` and `high_price`
-- (items 4 and 5 of d, e, f and g).
abbrev pub D : OptionType → ℕ → ℕ → Terms → Terms → ℕ
D Call low_price high_price h w = min (fine h.pe) high_price - fine w.pe
D Put low_price high_price h w = fine w.pe - max (fine h.pe) low_price

-- "Call with PEh ≤ PEw, put with PEh ≥ PEw: R if reachable, else 0. The others: max(MM; D), with R in the maximum too
-- if reachable". The first test is the strikes' and the second whether the written barrier is reachable; r is R and d is
-- D. Annex items d.3, e.3, f.3 and g.3, R alone, "omit M × Q, and we read it in": a unit here, as in every other item,
-- is multiplied by M and the quantity in `Lines.spread_amount`.
abbrev pub out_spread : Bool → Bool → Series → ℕ → ℕ → ℕ
out_spread covers reachable s r d =
    cond covers (cond reachable r 0) (cond reachable (max (minimum s) (max r d)) (max (minimum s) d))

-- "The written barrier is reachable if L ≤ ODw or H ≥ OUw."
abbrev pub down_reached : Series → ℕ → Bool
down_reached s odw = leb (low s) (fine odw)

abbrev pub up_reached : Series → ℕ → Bool
up_reached s ouw = leb (fine ouw) (high s)

-- Both down-and-out (annex section 5, d for calls and f for puts): "L replaced by ODw where that is reachable".
abbrev pub down_out_spread : Series → ℕ → ℕ → Terms → Terms → ℕ
down_out_spread s odh odw h w =
    out_spread (strike_covers s.option h w) (down_reached s odw) s (R (eqb odh odw) h w)
    (D s.option (cond (down_reached s odw) (fine odw) (low s)) (high s) h w)

-- Both up-and-out (annex section 5, e for calls and g for puts): "H replaced by OUw where that is reachable".
abbrev pub up_out_spread : Series → ℕ → ℕ → Terms → Terms → ℕ
up_out_spread s ouh ouw h w =
    out_spread (strike_covers s.option h w) (up_reached s ouw) s (R (eqb ouh ouw) h w)
    (D s.option (low s) (cond (up_reached s ouw) (fine ouw) (high s)) h w)

-- Two rows whose barriers are of one kind: the written row's barrier and the held row's barrier price.
abbrev pub one_kind_spread : Barrier → ℕ → Series → Terms → Terms → Option ℕ
one_kind_spread NoBarrier held_price s h w = Some (strike_loss s.option h w)
one_kind_spread (UpIn iuw) held_price s h w = None
one_kind_spread (DownIn idw) held_price s h w = None
-- "both up-and-out with OUh ≥ OUw"
one_kind_spread (UpOut ouw) ouh s h w = cond (leb ouw ouh) (Some (up_out_spread s ouh ouw h w)) None
-- "Both down-and-out with ODh ≤ ODw"
one_kind_spread (DownOut odw) odh s h w = cond (leb odh odw) (Some (down_out_spread s odh odw h w)) None

-- The rules in document 01's order, of normalised positions; the second one is document 02 [3]'s. "Nothing else pairs."
abbrev pub spread_between : Series → Terms → Terms → Option ℕ
spread_between s h w =
    cond (same h w) (Some 0)
    (cond (limiter_bars s.option h.limiter w.limiter) None
    (cond (eqb (kind_of h.barrier) (kind_of w.barrier))
    (one_kind_spread w.barrier (price_of h.barrier) s h w)
    None))

-- The unit spread margin of held row h and written row w, "after flag 1 is applied".
unfoldable pub unit_spread : Series → Position → Position → Option ℕ
unit_spread s h w = spread_between s (normal h) (normal w)
