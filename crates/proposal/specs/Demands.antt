-- THE PAGE TO READ FIRST: what document 01, with document 02 a), b), d) and e), demands of the check's answer, in its own words; proofs/Demands.antt proves it. Assumes nothing.
use mathlib.Core.{Path.◌≡◌, Bool.Bool, Bool.true, Bool.false, Logic.◌↔◌}
use Rattle.std.specs.Prelude.{ℕ, ◌-◌, ◌*◌, ◌≤◌, ◌<◌, length, get_or}
use Rattle.lists.specs.Tables.{Each}
use Rattle.holding.specs.Holding.{Ranges, row_of}
use Rattle.holding.specs.declared.AccountKind.{TheVariants.Participant, TheVariants.Client}
use Rattle.dates.specs.Calendar.{is_date}
use Rattle.rates.specs.Rate.{rate_of}
use Rattle.article.specs.{Answer.Answer, Answer.make_answer, Pair.leg_of, Pair.pair_rate_of, Article.MayPair, Article.Pairing}
use Rattle.pairing.specs.Pairing.{used, saving, Covers, priced_total, Least}
use Rattle.pairing.specs.declared.Line.{Line}
use Rattle.proposal.specs.Submission.{Submission, account_in, terms_of, priced, no_row, holding_at, margin, remainders_of}
use Rattle.proposal.specs.{Submission.RoundedUp, Outcome.outcome}

module _ (s : Submission) where
  -- the limits: none of 3 to 10 and 23 to 26 holds
  pub record Limits : Type 0 where
    pub valued : is_date s.head.date ≡ true
    pub lettered : s.head.letter ≤ 1
    pub holdings : length s.rows ≤ 256
    pub lines : length s.lines ≤ 512
    pub each_row : (k : ℕ) → k < length s.rows → Ranges (account_in s) (get_or s.rows k no_row)
    pub prices : (k : ℕ) → k < length s.rows → get_or s.prices k 0 ≤ 43800

  -- a line names a long of the book first and a short second, their pair is allowed, the amount is 1 cent or more
  pub record KeepsLine (l : Line) : Type 0 where
    pub long : l.long < length s.rows
    pub short : l.short < length s.rows
    pub pair : MayPair (account_in s) (holding_at s l.long) (holding_at s l.short)
    pub amount : 1 ≤ l.amount

  -- every line does, and no holding's amounts over all lines add up to more than its value
  pub record KeepsArticle : Type 0 where
    pub lines : Each KeepsLine s.lines
    pub within : (k : ℕ) → k < length s.rows → used s.lines k ≤ (get_or s.rows k no_row).value

  -- accepted: covered, and the totals equal, in a proposal that is within the limits and keeps the article
  pub record Acceptable : Type 0 where
    pub in_limits : Limits
    pub article : KeepsArticle
    pub covered : Covers (terms_of (priced s)) (priced s).price
    pub totals : priced_total (terms_of (priced s)) (priced s).price ≡ saving (terms_of (priced s)) s.lines

  -- the terms of two holdings of the book, and what the article says of them as a pair
  pub record PairTerms (i j : ℕ) : Type 0 where
    -- the account is valued on the date of the head, and by its letter, 0 or 1, it is a participant's or a client's
    pub date : (account_in s).date ≡ s.head.date
    pub participant : s.head.letter ≡ 0 → (account_in s).letter ≡ Participant
    pub client : s.head.letter ≡ 1 → (account_in s).letter ≡ Client
    -- the holding of a number has the numbers of its row, and its price stands at that number
    pub numbers : row_of (holding_at s i) ≡ get_or s.rows i no_row
    pub value : (terms_of (priced s)).value i ≡ (get_or s.rows i no_row).value
    pub price : (priced s).price i ≡ get_or s.prices i 0
    pub rate : (terms_of (priced s)).rate i ≡ rate_of (account_in s) (holding_at s i)
    pub allowed : ((terms_of (priced s)).allowed i j ≡ true) ↔ MayPair (account_in s) (holding_at s i) (holding_at s j)
    pub pair_rate_lem : (terms_of (priced s)).pair_rate i j ≡ pair_rate_of (leg_of (account_in s) (holding_at s i)) (leg_of (account_in s) (holding_at s j))
    -- the difference, the half sum, the capped rate and the saving of the two
    pub pair : Pairing (account_in s) (holding_at s i) (holding_at s j)

  -- a holding's remainder is its value less its amounts over all lines, and its margin the rate times that
  pub record RemainderOf (k : ℕ) : Type 0 where
    pub left : get_or (remainders_of (priced s) s.lines) k 0 ≡ (get_or s.rows k no_row).value - used s.lines k
    pub units : margin (priced s) s.lines k ≡ rate_of (account_in s) (holding_at s k) * get_or (remainders_of (priced s) s.lines) k 0

  -- what an answer keeps; `one` and `two` say whether refusals 1 and 2 hold of what is lent
  pub record Demands (one two : Bool) (a : Answer) : Type 0 where
    -- a proposal is accepted exactly when lengths, limits, article, cover and equal totals hold
    pub exactly : (a.number ≡ 0) ↔ (((one ≡ false) × (two ≡ false)) × Acceptable)
    -- accepted units are the least: the lines are a pairing at 1, its sum is those units, and no pairing at any N is cheaper
    pub cheapest : a.number ≡ 0 → Least (terms_of (priced s)) s.lines a.first
    -- accepted cents are the units rounded up once
    pub rounding : a.number ≡ 0 → RoundedUp a.first a.second
    -- where lengths and counts fit, an unreal valuation date is refused with 24 at place 0, whatever the holdings are
    pub undated : one ≡ false → two ≡ false → length s.rows ≤ 256 → length s.lines ≤ 512 → is_date s.head.date ≡ false → outcome one two s ≡ make_answer 24 0 0
    -- and on a date, a letter that is neither with 26
    pub unlettered : one ≡ false → two ≡ false → length s.rows ≤ 256 → length s.lines ≤ 512 → is_date s.head.date ≡ true → 1 < s.head.letter
        → outcome one two s ≡ make_answer 26 0 0
    -- the terms that all this speaks of are the book's own, by the article
    pub count : (terms_of (priced s)).count ≡ length s.rows
    pub terms : Limits → (i j : ℕ) → i < length s.rows → j < length s.rows → PairTerms i j
    -- there is a remainder for each holding
    pub remainders : length (remainders_of (priced s) s.lines) ≡ length s.rows
    pub each_remainder : (k : ℕ) → k < length s.rows → RemainderOf k
