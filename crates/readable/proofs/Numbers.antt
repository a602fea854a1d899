-- A file is not refused exactly when none of its refusals holds: each has a number from 1. Assumes nothing.
use mathlib.Core.Path.{◌≡◌, refl, ap}
use mathlib.Core.Logic.{◌↔◌}
use mathlib.Core.List.{List}
use Prim.Native.Nat.{ℕ, ◌<◌}
use native.Mathlib.Omega.{arith}
use lib.ListN.{length, get_or, take, length-map}
use Rattle.lists.proofs.Tables.{get_or-map_in}
use Rattle.lists.proofs.Firsts.{None, Numbered, each-in_turn, none_first, first_of-none}
use Rattle.article.specs.Answer.{make_answer}
use Rattle.proposal.proofs.Clear.{number}
use Rattle.std.specs.Prelude.{Option}
use Rattle.rfc4180.specs.Reading.{Read, broken, records_of}
use Rattle.layout.specs.Layout.{Meaning, good, refused, parse}
use Rattle.layout.proofs.Letters.{parse-refused}
use Rattle.reader.specs.File.{values_by, parsed_in, faults_of, at_record, file_faults, file_fault}

-- the refusals of a record: its own, or 22, 3 and 9
numbered_of : (n : ℕ) (before : Option ℕ) (count : ℕ → ℕ) (r : Read) (m : Meaning) → parse r ≡ m → Numbered number (faults_of n before count m)
numbered_of n before count r (good k vs) e = (omega arith, (omega arith, (omega arith, tt)))
numbered_of n before count r (refused k) e = (omega (arith, parse-refused r e), tt)

numbered : (text : List ℕ) → Numbered number (file_faults text)
unfolding file_faults at_record parsed_in
numbered text =
    let records = records_of text in (
      omega arith,
      (
        omega arith,
        each-in_turn _ (at_record (parsed_in text)) (length (parsed_in text)) (λ n q.
            let within : n < length records = omega (arith, length-map records parse) in
            rw (get_or-map_in parse records n broken (refused 0) within) (numbered_of n _ (λ k. length (values_by k (take n (parsed_in text)))) (get_or records n broken) _ refl)),
      ),
    )

pub none-exactly : (text : List ℕ) → ((file_fault text).number ≡ 0) ↔ None (file_faults text)
unfolding file_fault
none-exactly text =
    (λ e. (none_first number (file_faults text) (make_answer 0 0 0) (numbered text) e).0, λ c. ap number (first_of-none (file_faults text) (make_answer 0 0 0) c))
