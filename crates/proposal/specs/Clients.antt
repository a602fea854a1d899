-- THE PAGE OF CLIENT ACCOUNTS: document 02 e), "A client's least margin is the least over the pairs a client may have", beside a participant's of the same holdings;
-- proofs/Clients.antt proves it. Assumes nothing.
use mathlib.Core.{Path.◌≡◌, Bool.Bool, List.List}
use Rattle.std.specs.Prelude.{ℕ, ◌≤◌}
use Rattle.holding.specs.declared.{AccountKind.TheVariants.Client, AccountKind.TheVariants.Participant, Row.Row}
use Rattle.pairing.specs.Pairing.{IsPairing, sum_at}
use Rattle.pairing.specs.declared.Line.{Line}
use Rattle.proposal.specs.{Submission.Submission, Submission.account_in, Submission.terms_of, Submission.priced, Outcome.outcome, Demands.Limits}

-- the same holdings on the same date, each with a proposal of its own: a client's, whose letter is 1, and an approved participant's, whose letter is 0
module _ (date : ℕ) (rows : List Row) (prices prices' : List ℕ) (lines lines' : List Line) where
  abbrev pub client : Submission
  client = record { head = record { date = date; letter = 1 }; rows = rows; prices = prices; lines = lines }

  abbrev pub participant : Submission
  participant = record { head = record { date = date; letter = 0 }; rows = rows; prices = prices'; lines = lines' }

  pub record Clients : Type 0 where
    -- the two accounts are a client's and a participant's
    pub a_client : (account_in client).letter ≡ Client
    pub a_participant : (account_in participant).letter ≡ Participant
    -- whatever a client may pair, in whole cents or finer, a participant may pair, and it adds up to the same
    pub pairings : Limits client → Limits participant → (N : ℕ) (other : List Line) → IsPairing (terms_of (priced client)) N other
        → IsPairing (terms_of (priced participant)) N other × (sum_at (terms_of (priced participant)) N other ≡ sum_at (terms_of (priced client)) N other)
    -- so that where both are accepted, a client's units and cents are never below a participant's, whatever 1 and 2 are of what is lent for each
    pub units : (one two one' two' : Bool) → (outcome one two client).number ≡ 0 → (outcome one' two' participant).number ≡ 0
        → (outcome one' two' participant).first ≤ (outcome one two client).first
    pub cents : (one two one' two' : Bool) → (outcome one two client).number ≡ 0 → (outcome one' two' participant).number ≡ 0
        → (outcome one' two' participant).second ≤ (outcome one two client).second
