-- An answer in the paper's numbers. Assumes nothing.
use Rattle.std.specs.Prelude.{ℕ}

-- the refusal's number, 0 where nothing is refused, and two values
pub record Answer : Type 0 where
  pub number : ℕ
  pub first : ℕ
  pub second : ℕ

abbrev pub make_answer : ℕ → ℕ → ℕ → Answer
make_answer n a b = record { number = n; first = a; second = b }
