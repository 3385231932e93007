-- The unit margin is the least amount: every amount that covers a position and is at least MM is, with one fine unit
-- added, at least the unit margin. Of a row with flag 16 every amount that covers it is.
-- Assumes nothing.
use Prim.Native.Nat.{ℕ, ◌+◌, ◌*◌, ◌-◌, ◌≤◌, ◌<◌, max}
use mathlib.Core.Bool.{Bool, true, false, cond}
use mathlib.Core.List.{List, [], ◌∷◌}
use mathlib.Core.Path.{◌≡◌, refl, ◌∙◌, ap}
use borrow.Author.Tests.{le-leb, lt-leb}
use lib.Dec.{ltb}
use native.Mathlib.Nat.{le_of_lt, mul-le-mul_left, mul-le-mul_right}
use native.Mathlib.Omega.{arith}
use Rattle.rules.proofs.Cover.{covers}
use Rattle.rules.proofs.Flag16.{payment_with, payment_without, unit_with, unit_without}
use Rattle.rules.proofs.Mirror.{charge, mirror, rule, worst}
use Rattle.rules.proofs.Payoff.{charged_paid, worst_in}
use Rattle.rules.proofs.RowFacts.{Beside}
use Rattle.rules.proofs.Tests.{ltb_case}
use Rattle.rules.proofs.Touch.{In}
use Rattle.rules.specs.OnePosition.{normal, rebate, unit_margin}
use Rattle.rules.specs.Paths.{IsPath, at_or_above, at_or_below, in_payment, out_payment, payment_by_barrier, payoff_at}
use Rattle.rules.specs.Promises.{Covers, LeastFor, LeastWithFlag16}
use Rattle.rules.specs.Quantities.{fine, high, low, minimum}
use Rattle.rules.specs.declared.Barrier.{Barrier}
use Rattle.rules.specs.declared.Barrier.TheVariants.{NoBarrier, UpIn, DownIn, UpOut, DownOut}
use Rattle.rules.specs.declared.OptionType.{OptionType}
use Rattle.rules.specs.declared.Position.{Position}
use Rattle.rules.specs.declared.Series.{Series}
use Rattle.rules.specs.declared.Terms.{Terms}

-- The rule of an in barrier in numbers. i < j: it is out of reach; x is charged for the payoff; m is MM, r the rebate
-- and a an amount that covers.
in_least :
    (i j m r x a : ℕ) → m ≤ a → r ≤ a → (j ≤ i → x ≤ a) → cond (ltb i j) (max m r) (max m (max r x)) ≤ a + 1
in_least i j m r x a e f g =
    ltb_case (λ u. u ≤ a + 1) i j _ _ (omega arith) (λ (h : j ≤ i). omega (arith, g h))

-- The rule of an out barrier. x is charged where the barrier is out of reach, y where it is not.
out_least :
    (i j m r x y a : ℕ) → m ≤ a → (i < j → x ≤ a + 0) → (j ≤ i → r ≤ a) → (j ≤ i → y ≤ a + 1)
    → cond (ltb i j) (max m x) (max m (max r y)) ≤ a + 1
out_least i j m r x y a e f g h =
    ltb_case (λ u. u ≤ a + 1) i j _ _ (λ (t : i < j). omega (arith, f t)) (λ (t : j ≤ i). omega (arith, g t, h t))

-- An amount a that covers.
module _ (k : OptionType) (s : Series) (p : Terms) (a : ℕ) where
  -- It covers the charge over lo to hi but for n, if it covers the payoff at each price from lo' to hi' and those lack
  -- at most n prices of lo to hi.
  charged :
      (n lo hi lo' hi' : ℕ) → ((x : ℕ) → In lo' hi' x → payoff_at k p x ≤ a)
      → (lo' ≤ hi') × (lo' ≤ lo + n) × (hi ≤ hi' + n) → charge k s p (worst k lo hi) ≤ a + n
  charged n lo hi lo' hi' f b =
      omega (arith, charged_paid k s p n lo hi lo' hi' b.1 b.2, f (worst k lo' hi') (worst_in k lo' hi' b.0))

  -- An in barrier that f tests. Its rebate: a path of one price, off the barrier. Its payoff: the barrier, then a price
  -- from lo to hi.
  module _ (f : ℕ → Bool) (cover : (l : List ℕ) → IsPath s l → in_payment k f p l ≤ a) where
    in_rebate : (x : ℕ) → In (low s) (high s) x → f x ≡ false → rebate p ≤ a
    in_rebate x i e = rw e at (cover (x ∷ []) (omega arith))

    in_charge :
        (b lo hi : ℕ) → f (fine b) ≡ true → In (low s) (high s) (fine b)
        → (low s ≤ lo) × (lo ≤ hi) × (hi ≤ high s) × (b * s.fb ≤ lo) × (hi ≤ b * s.fa)
        → charge k s p (worst k lo hi) ≤ a
    in_charge b lo hi e i g =
        let c = charged 0 lo hi lo hi (λ x j. rw e at (cover (fine b ∷ x ∷ []) (omega arith))) (omega arith) in
        omega arith

  -- An out barrier that f tests, paths of one price. Its rebate: a price on the barrier. Its payoff: one off it.
  module _ (f : ℕ → Bool) (cover : (l : List ℕ) → IsPath s l → out_payment k f p l ≤ a) where
    out_rebate : (x : ℕ) → In (low s) (high s) x → f x ≡ true → rebate p ≤ a
    out_rebate x i e = rw e at (cover (x ∷ []) (omega arith))

    out_charge_lem :
        (n lo hi lo' hi' : ℕ) → ((x : ℕ) → In lo' hi' x → f x ≡ false)
        → (low s ≤ lo') × (lo' ≤ hi') × (hi' ≤ high s) × (lo' ≤ lo + n) × (hi ≤ hi' + n)
        → charge k s p (worst k lo hi) ≤ a + n
    out_charge_lem n lo hi lo' hi' e g =
        charged n lo hi lo' hi' (λ x i. rw (e x i) at (cover (x ∷ []) (omega arith))) (omega arith)

  module _ (rise : 1_000_000 ≤ s.fa) (fall : s.fb ≤ 1_000_000) where
    -- A price times fb and times fa.
    around : (b : ℕ) → (b * s.fb ≤ fine b) × (fine b ≤ b * s.fa)
    around b = (mul-le-mul_left b fall, mul-le-mul_left b rise)

    today : In (low s) (high s) (fine s.pv)
    today = around s.pv

    -- Both are higher for a higher price.
    below : (b c : ℕ) → b < c → (b * s.fb ≤ c * s.fb) × (b * s.fa ≤ c * s.fa)
    below b c h = (mul-le-mul_right s.fb (le_of_lt h), mul-le-mul_right s.fa (le_of_lt h))

    least_rule :
        (bar : Barrier) → Beside s.pv bar → (bar ≡ NoBarrier → p.reb ≡ 0)
        → ((l : List ℕ) → IsPath s l → payment_by_barrier k bar p l ≤ a) → minimum s ≤ a → rule k bar s p ≤ a + 1
    least_rule NoBarrier side none cover m =
        let full =
        charged 0 (low s) (high s) (low s) (high s) (λ x i. cover (x ∷ []) (omega arith)) (omega (arith, today)) in
        omega (arith, none refl)
    least_rule (UpIn b) side none cover m =
        in_least _ _ _ _ _ _ m
        (in_rebate (at_or_above b) cover (fine s.pv) today (lt-leb (fine b) (fine s.pv) (omega arith)))
        (λ (reach : fine b ≤ high s).
        in_charge (at_or_above b) cover b (b * s.fb) (high s) (le-leb (fine b) (fine b) (omega arith))
        (omega (arith, today)) (omega (arith, around b, below s.pv b side)))
    least_rule (DownIn b) side none cover m =
        in_least _ _ _ _ _ _ m
        (in_rebate (at_or_below b) cover (fine s.pv) today (lt-leb (fine s.pv) (fine b) (omega arith)))
        (λ (reach : low s ≤ fine b).
        in_charge (at_or_below b) cover b (low s) (b * s.fa) (le-leb (fine b) (fine b) (omega arith))
        (omega (arith, today)) (omega (arith, around b, below b s.pv side)))
    least_rule (UpOut b) side none cover m =
        out_least _ _ _ _ _ _ _ m
        (λ (h : high s < fine b).
        out_charge_lem (at_or_above b) cover 0 (low s) (high s) (low s) (high s)
        (λ x i. lt-leb (fine b) x (omega arith)) (omega (arith, today)))
        (λ (h : fine b ≤ high s).
        out_rebate (at_or_above b) cover (high s) (omega (arith, today)) (le-leb (fine b) (high s) h))
        (λ (h : fine b ≤ high s).
        out_charge_lem (at_or_above b) cover 1 (low s) (fine b) (low s) (fine b - 1)
        (λ x i. lt-leb (fine b) x (omega arith)) (omega (arith, today)))
    least_rule (DownOut b) side none cover m =
        out_least _ _ _ _ _ _ _ m
        (λ (h : fine b < low s).
        out_charge_lem (at_or_below b) cover 0 (low s) (high s) (low s) (high s)
        (λ x i. lt-leb x (fine b) (omega arith)) (omega (arith, today)))
        (λ (h : low s ≤ fine b).
        out_rebate (at_or_below b) cover (low s) (omega (arith, today)) (le-leb (low s) (fine b) h))
        (λ (h : low s ≤ fine b).
        out_charge_lem (at_or_below b) cover 1 (fine b) (high s) (fine b + 1) (high s)
        (λ x i. lt-leb x (fine b) (omega arith)) (omega (arith, today)))

-- Each rule is a maximum with MM.
max_over : (i j m x y : ℕ) → m ≤ cond (ltb i j) (max m x) (max m y)
max_over i j m x y = ltb_case (λ u. m ≤ u) i j _ _ (omega arith) (omega arith)

minimum_rule : (k : OptionType) (bar : Barrier) (s : Series) (p : Terms) → minimum s ≤ rule k bar s p
minimum_rule k NoBarrier s p = omega arith
minimum_rule k (UpIn b) s p = max_over (high s) (fine b) _ _ _
minimum_rule k (DownIn b) s p = max_over (fine b) (low s) _ _ _
minimum_rule k (UpOut b) s p = max_over (high s) (fine b) _ _ _
minimum_rule k (DownOut b) s p = max_over (fine b) (low s) _ _ _

-- The unit margin of a row without flag 16 is at least MM, so it is itself one of the amounts that
-- `least_without` speaks of.
pub above_minimum : (s : Series) (p : Position) → p.flags.knockedOut ≡ false → minimum s ≤ unit_margin s p
above_minimum s p stands =
    let c = minimum_rule s.option (normal p).barrier s (normal p) in
    omega (arith, unit_without s p stands, mirror s.option (normal p).barrier s (normal p))

-- A row with flag 16 that keeps its REB pays it on the path that is H alone, whatever fb is.
pub least_with : (s : Series) (p : Position) → low s ≤ high s → (p.flags.knockedOut ≡ true → (normal p).reb ≡ p.terms.reb) → LeastWithFlag16 s p
least_with s p room keeps out =
    let path : List ℕ = high s ∷ [] in
    (unit_with s p out ∙ ap fine (keeps out), λ a cover. omega (arith, unit_with s p out, payment_with s p out path, cover path (omega arith)))

module _ (s : Series) (p : Position) (rise : 1_000_000 ≤ s.fa) (fall : s.fb ≤ 1_000_000) where
  least_without :
      p.flags.knockedOut ≡ false → Beside s.pv (normal p).barrier
      → ((normal p).barrier ≡ NoBarrier → (normal p).reb ≡ 0)
      → (amount : ℕ) → Covers s p amount → minimum s ≤ amount → unit_margin s p ≤ amount + 1
  least_without stands side none a cover m =
      let c =
      least_rule s.option s (normal p) a rise fall (normal p).barrier side none
      (λ l i. omega (arith, cover l i, payment_without s p stands l)) m in
      omega (arith, unit_without s p stands, mirror s.option (normal p).barrier s (normal p))

  -- Of a row whose barrier, unless it has flag 16, stands on its side of PV; that has REB 0 where it has no barrier; and
  -- that keeps its REB where it has flag 16.
  pub least_for :
      (p.flags.knockedOut ≡ false → Beside s.pv (normal p).barrier)
      → ((normal p).barrier ≡ NoBarrier → (normal p).reb ≡ 0)
      → (p.flags.knockedOut ≡ true → (normal p).reb ≡ p.terms.reb)
      → LeastFor s p
  least_for side none keeps =
      (covers s p rise fall, by_flag p.flags.knockedOut refl, with_flag)
    where
      with_flag : LeastWithFlag16 s p
      with_flag = least_with s p (mul-le-mul_left s.pv (omega arith)) keeps

      by_flag : (t : Bool) → p.flags.knockedOut ≡ t → (amount : ℕ) → Covers s p amount → minimum s ≤ amount → unit_margin s p ≤ amount + 1
      by_flag true e a cover m = omega (arith, (with_flag e).1 a cover)
      by_flag false e a cover m = least_without e (side e) none a cover m
