-- What a pair asks of its legs as one number each, and the law of an estimate by them: no less than the two save. Assumes nothing.
use mathlib.Core.{Path.◌≡◌, Bool.Bool, Bool.cond, Bool.not, Bool.◌&&◌, Bool.◌||◌}
use Rattle.std.specs.Prelude.{ℕ, ◌+◌, ◌*◌, ◌/◌, ◌%◌, ◌≤◌, eqb}
use Rattle.article.specs.declared.pair.Leg.{Leg}
use Rattle.savings.specs.Savings.{saving_of}
use Rattle.article.specs.Pair.{is_participant, is_long, is_bond, is_canada, is_province, is_us, is_gb, is_corporate, in_cad, RateInRange}

-- a leg that paragraph 2 can have: in CAD, of Canada or a province
unfoldable pub is_domestic : Leg → Bool
is_domestic l = in_cad l && (is_canada l || is_province l)

-- a leg that paragraph 3 can have: a corporation's strip, or its bond rated single A or higher
unfoldable pub is_offered : Leg → Bool
is_offered l = is_corporate l && (not (is_bond l) || eqb l.rating 0)

-- a leg of an issuer that paragraph 4 can have
unfoldable pub is_government : Leg → Bool
is_government l = is_canada l || is_us l || is_gb l

-- a leg that is not domestic and may have a pair: a participant's alone
unfoldable pub has_partner : Leg → Bool
has_partner l = is_participant l && cond (in_cad l) (is_offered l) (is_government l)

-- the period, the issuer and the currency of a leg, as one number
unfoldable pub key_of : Leg → ℕ
key_of l = 4 * (l.period % 8) + 64 * (l.issuer % 512) + 1024 * (l.currency % 4)

-- what a pair asks of a leg beside its side and rate, as one number: its key with, of a domestic leg, its class, 0 for Canada and 1 for a province, and of any
-- other, 2 or 34, whether it is a bond; of one that no paragraph can have, its side
unfoldable pub mark_of : Bool → Leg → ℕ
mark_of bond l = key_of l + cond (is_domestic l) (cond (is_canada l) 0 1) (cond (cond (has_partner l) bond (is_long l)) 2 34)

-- the mark of any issuer: the period and the class alone
abbrev pub open_mark : ℕ → ℕ
open_mark mark = mark % 32

-- the mark of a short for a long strip, by its kind: a provincial strip's is that of any province
unfoldable pub across_mark : ℕ → ℕ → ℕ
across_mark kind mark = cond (not (eqb kind 0) && eqb (mark % 4) 1) (open_mark mark) mark

-- the mark that a short has for a long that is a bond, or is none, and the one that a long seeks: outside paragraph 2 just one of the two is a bond
unfoldable pub short_mark : Bool → Leg → ℕ
short_mark bond s = cond bond (mark_of (is_bond s) s) (across_mark s.kind (mark_of (is_bond s) s))

unfoldable pub sought_mark : Leg → ℕ
sought_mark l = mark_of (not (is_bond l)) l

-- the rate that a leg is scanned by: its own, but of a corporation's strip a third of it. A bond and a strip of one corporation then save twice the lesser of
-- the two, as two legs of one class do
unfoldable pub scan_rate : Leg → ℕ
scan_rate l = cond (is_bond l) l.rate (cond (is_corporate l) (l.rate / 3) l.rate)

abbrev pub scan_limit : ℕ
scan_limit = 21900

-- a mark, and that of any issuer of its period and the other class
pub record OtherClass (mark other : ℕ) : Type 0 where
  pub period : other / 2 ≡ open_mark mark / 2
  pub class : other % 2 + mark % 2 ≡ 1

-- a long that seeks this mark, a short that has it for a long that is a bond, or is none, scanned by this rate
pub record Seeks (l : Leg) (mark rate : ℕ) : Type 0 where
  pub marked : mark ≡ sought_mark l
  pub rated : rate ≡ scan_rate l
  pub in_range : RateInRange l

pub record Marked (bond : Bool) (s : Leg) (mark rate : ℕ) : Type 0 where
  pub marked : mark ≡ short_mark bond s
  pub rated : rate ≡ scan_rate s
  pub in_range : RateInRange s

-- at least what any long and short with these marks and rates save
pub record Asks (long a short b asked : ℕ) : Type 0 where
  pub enough : (l s : Leg) → Seeks l long a → Marked (is_bond l) s short b → saving_of l s ≤ asked
