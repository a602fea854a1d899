-- What holds before each record of a file: those before it are passed, the head is that of the first D, the others are in their tables, and the LEIs of
-- the corporations in their list. Assumes nothing.
use mathlib.Core.Path.{◌≡◌, refl}
use mathlib.Core.Bool.{Bool, true, false, cond}
use mathlib.Core.List.{List, [], ◌∷◌, ◌++◌, map}
use Prim.Native.Nat.{ℕ, zero, suc, ◌-◌, ◌≤◌}
use native.Mathlib.Omega.{arith}
use lib.Dec.{eqb}
use lib.ListN.{length, get_or, take, drop}
use Rattle.lists.specs.Choice.{first_of}
use Rattle.lists.proofs.Passed.{Passed, passed_none}
use Rattle.holding.specs.Holding.{head_by}
use Rattle.holding.specs.declared.Head.{Head}
use Rattle.article.specs.Answer.{Answer}
use Rattle.std.specs.Prelude.{Option, None}
use Rattle.lei.specs.declared.Lei.{Lei}
use Rattle.rfc4180.specs.Reading.{field_count, records_at, records_of}
use Rattle.columns.specs.Columns.{Entered}
use Rattle.columns.proofs.Tables.{entered-none}
use Rattle.layout.specs.Layout.{Meaning, good, refused, parse}
use Rattle.reader.specs.File.{parsed_in, values_by, numbered_from, leis_from, holdings_of, leis_of, letter_before, at_record, file_faults}

-- the values of a letter, of records and of others after them
pub values-append : (k : ℕ) (xs ys : List Meaning) → values_by k (xs ++ ys) ≡ values_by k xs ++ values_by k ys
unfolding values_by
values-append k [] ys = refl
values-append k (good letter vs ∷ xs) ys = rw (values-append k xs ys) (by (eqb letter k))
  where
    by : (b : Bool) → cond b (vs ∷ (values_by k xs ++ values_by k ys)) (values_by k xs ++ values_by k ys) ≡ cond b (vs ∷ values_by k xs) (values_by k xs) ++ values_by k ys
    by true = refl
    by false = refl
values-append k (refused number ∷ xs) ys = values-append k xs ys

-- they are no more than the records
pub values-few : (k n : ℕ) (xs : List Meaning) → length (values_by k (take n xs)) ≤ n
unfolding values_by
values-few k zero xs = omega arith
values-few k (suc n) [] = omega arith
values-few k (suc n) (good letter vs ∷ xs) = by (eqb letter k) (values-few k n xs)
  where
    by : (b : Bool) → length (values_by k (take n xs)) ≤ n → length (cond b (vs ∷ values_by k (take n xs)) (values_by k (take n xs))) ≤ suc n
    by true h = omega arith
    by false h = omega arith
values-few k (suc n) (refused number ∷ xs) = omega (arith, values-few k n xs)

-- n records are passed, up to place i: none is refused, and this is the letter of the last, none only if there is none
pub record Passing (text : List ℕ) (before : Option ℕ) (n i : ℕ) : Type 0 where
  pub few : n ≤ i
  pub rest : map parse (records_at text i) ≡ drop n (parsed_in text)
  pub passed : Passed (length (parsed_in text)) (at_record (parsed_in text)) n
  pub last : before ≡ letter_before (parsed_in text) n
  pub started : before ≡ None → n ≡ 0

-- the records of letter k among the first n
abbrev pub count_by : List ℕ → ℕ → ℕ → ℕ
count_by text n k = length (values_by k (take n (parsed_in text)))

-- values in a table of so many columns, and not too many
pub record Tabled (values : List (List ℕ)) (most columns rows : ℕ) (old now : List ℕ) (put : ℕ) : Type 0 where
  pub counted : put ≡ length values
  pub few : put ≤ most
  pub entered : Entered columns rows values old now

-- the values of the H among the first n records, with the numbers of their issuers, and of the P
abbrev pub held_in : List ℕ → ℕ → List (List ℕ)
held_in text n = holdings_of (take n (parsed_in text))

abbrev pub lined_in : List ℕ → ℕ → List (List ℕ)
lined_in text n = values_by 2 (take n (parsed_in text))

-- the LEIs of their corporations at the front of a list, which has kept its length
pub record Listed (text : List ℕ) (n : ℕ) (known₀ known : List Lei) (count : ℕ) : Type 0 where
  pub listed : take count known ≡ leis_of (take n (parsed_in text))
  pub inside : count ≤ length known
  pub long : length known ≡ length known₀

-- the head of the first D among them
abbrev pub head_in : List ℕ → ℕ → Head
head_in text n = head_by (get_or (values_by 0 (take n (parsed_in text))) 0 [])

-- n records are read, up to place i: they are passed, their head is known, each H and each P is in its table, and each LEI in the list
pub record Reading (text : List ℕ) (rows : ℕ) (book₀ lines₀ : List ℕ) (known₀ : List Lei) (book lines : List ℕ) (known : List Lei) (before : Option ℕ) (head : Head)
    (holdings pairs corporations n i : ℕ) : Type 0 where
  pub passing : Passing text before n i
  pub headed : head ≡ head_in text n
  pub each_holding : Tabled (held_in text n) 256 (field_count - 1) rows book₀ book holdings
  pub each_line : Tabled (lined_in text n) 512 3 rows lines₀ lines pairs
  pub each_lei : Listed text n known₀ known corporations

-- what refuses a text, whatever follows its records
abbrev pub Refuses : List ℕ → Answer → Type 0
Refuses text a = (w : Answer) → first_of (file_faults text) w ≡ a

-- before the first record
tabled_none : (most columns rows : ℕ) (table : List ℕ) → Tabled [] most columns rows table table 0
tabled_none most columns rows table = record { counted = refl; few = omega arith; entered = entered-none columns rows table }

pub reading-none : (text : List ℕ) (rows : ℕ) (book lines : List ℕ) (known : List Lei)
    → Reading text rows book lines known book lines known None (head_by []) 0 0 0 0 0
unfolding parsed_in records_of values_by numbered_from leis_from holdings_of leis_of
reading-none text rows book lines known = record {
  passing = record { few = omega arith; rest = refl; passed = passed_none; last = refl; started = λ e. refl };
  headed = refl;
  each_holding = tabled_none _ _ rows book;
  each_line = tabled_none _ _ rows lines;
  each_lei = record { listed = refl; inside = omega arith; long = refl };
}
