-- The cases of the page: each holding passes a test or one is the first that does not, and a lent book has a first fault or none. Assumes nothing.
use mathlib.Core.Path.{◌≡◌, sym, ◌∙◌}
use mathlib.Core.Logic.{◌⊎◌, inl, inr}
use mathlib.Core.Bool.{Bool, true, false, not, false≢true}
use Prim.Native.Nat.{ℕ, zero, suc, ◌≤◌, ◌<◌}
use native.Mathlib.Omega.{arith}
use lib.Dec.{leb, ltb, eqb}
use lib.ListN.{length, take}
use borrow.Author.Tests.{leb-true, leb-false, ltb-true, ltb-false, eqb-true, eqb-false, not-true, not-false}
use Rattle.lists.proofs.Tests.{either_way, same_or_not}
use Rattle.lists.proofs.Entries.{one-or-not}
use Rattle.dates.specs.Calendar.{is_date}
use Rattle.holding.specs.Holding.{fault_of, Ranges}
use Rattle.holding.specs.declared.Row.{Row}
use Rattle.holding.proofs.Ranges.{fault-none, none_fault}
use Rattle.daybook.specs.Book.{alike, totals_of, Book}
use Rattle.daybook.specs.Bookings.{Equal, entry_at, book_account, EachInRange, TotalsRight, FirstEqual, NoneEqual, Fits, Headed, InOrder}
use Rattle.daybook.proofs.Descriptions.{equal-alike, alike-equal}
use Rattle.daybook.proofs.Totals.{totals_afresh, afresh_totals}

-- each number below n passes a test, or there is a first that does not
pub each-or-first : {P : Type 0} (test : ℕ → Bool) (n : ℕ) → (((k : ℕ) → k < n → test k ≡ true) → P)
    → ((k : ℕ) → k < n → ((j : ℕ) → j < k → test j ≡ true) → test k ≡ false → P) → P
each-or-first test zero each first = each (λ k h. absurd (omega arith))
each-or-first test (suc n) each first =
    each-or-first test n
    (λ before. either_way (test n)
    (λ e. each (λ k h. same_or_not k n (λ s. rw s e) (λ s. before k (omega arith))))
    (λ e. first n (omega arith) before e))
    (λ k h before e. first k (omega arith) before e)

-- none of a book's holdings is equal to a trade, or one is the first
pub none-or-first : {P : Type 0} (b : Book) (t : Row) → (NoneEqual b t → P) → ((k : ℕ) → FirstEqual b t k → P) → P
none-or-first b t none first =
    each-or-first (λ k. not (alike (entry_at b k) t)) b.day.count
    (λ h. none (λ k q. differ k (h k q)))
    (λ k q before e. first k (record { counted = q; matches = alike-equal (entry_at b k) t (not-false _ e); first = λ j p. differ j (before j p) }))
  where
    differ : (k : ℕ) → not (alike (entry_at b k) t) ≡ true → Equal (entry_at b k) t → ⊥
    differ k e q = false≢true (sym (not-true (alike (entry_at b k) t) e) ∙ equal-alike (entry_at b k) t q)

-- a lent book, by its first fault
module _ {P : Type 0} (short : Bool) (b : Book) where
  pub lent_cases : (256 < b.day.count → P) → (b.day.count ≤ 256 → (length b.list < b.day.count) ⊎ (short ≡ true) → P)
      → (Fits short b → is_date b.day.date ≡ false → P) → (Fits short b → is_date b.day.date ≡ true → 1 < b.day.letter → P)
      → (Headed short b → (k : ℕ) → k < b.day.count → ((j : ℕ) → j < k → Ranges (book_account b) (entry_at b j)) → (Ranges (book_account b) (entry_at b k) → ⊥) → P)
      → (Headed short b → EachInRange b → (TotalsRight b → ⊥) → P) → (InOrder short b → P) → P
  lent_cases many brief undated unlettered bad off in_order =
      either_way (ltb 256 b.day.count) (λ s. many (ltb-true 256 b.day.count s))
      (λ s. let few = ltb-false 256 b.day.count s in
      either_way (ltb (length b.list) b.day.count) (λ t. brief few (inl (ltb-true (length b.list) b.day.count t)))
      (λ t. either_way short (λ u. brief few (inr u))
      (λ u. fitting (record { holdings = few; entries = ltb-false (length b.list) b.day.count t; others = u }))))
    where
      in_range : Headed short b → EachInRange b → P
      in_range h each =
          one-or-not b.day.totals (totals_of (book_account b) (take b.day.count b.list))
          (λ s. in_order (record { head = h; each_holding = each; totals = rw s (totals_afresh _ _) }))
          (λ n. off h each (λ right. n (afresh_totals _ _ _ right)))

      headed : Headed short b → P
      headed h =
          let fault : ℕ → ℕ = λ k. fault_of (book_account b) (entry_at b k) in
          each-or-first (λ k. eqb (fault k) 0) b.day.count
          (λ each. in_range h (λ k q. fault-none (book_account b) (entry_at b k) (eqb-true _ _ (each k q))))
          (λ k q before s. bad h k q (λ j p. fault-none (book_account b) (entry_at b j) (eqb-true _ _ (before j p)))
          (λ r. eqb-false (fault k) 0 s (none_fault (book_account b) (entry_at b k) r)))

      fitting : Fits short b → P
      fitting f =
          either_way (is_date b.day.date)
          (λ dated. either_way (leb b.day.letter 1)
          (λ s. headed (record { sizes = f; dated = dated; lettered = leb-true b.day.letter 1 s }))
          (λ s. unlettered f dated (leb-false b.day.letter 1 s)))
          (undated f)
