-- An adding and a taking keep a list of entries at the balance of the trades. Assumes nothing.
use mathlib.Core.Path.{◌≡◌, refl}
use mathlib.Core.Bool.{Bool, true, false}
use mathlib.Core.List.{List, [], ◌∷◌}
use Prim.Native.Nat.{ℕ, suc, ◌+◌, ◌≤◌, ◌<◌}
use native.Mathlib.Nat.{le_refl}
use native.Mathlib.Omega.{arith}
use lib.ListN.{length}
use borrow.Author.Tests.{eq-eqb, ne_eqb}
use Rattle.lists.specs.Tables.{Each, sum_of}
use Rattle.lists.proofs.Entries.{each_so, each_map}
use Rattle.lists.proofs.Tests.{by-test, either_way}
use Rattle.ledger.specs.Trades.{Trade, adding, taking, Entry, listed, descriptions}
use Rattle.ledger.specs.Balance.{Ordered, adds, takes, added_of, taken_of, joins, joined, Balance}
use Rattle.ledger.proofs.Ordered.{each_all, each_both, ordered_so, ordered-last}
use Rattle.ledger.proofs.Holdings.{Equality, held, added, taken, differ, held_none, held-added, held-taken, positive-added, positive-taken}
use Rattle.ledger.proofs.Holdings.{descriptions-kept, added-last, descriptions-last, ordered-taken, unlisted, listed-held, each-held}

module _ {D : Type 0} (same : D → D → Bool) where
  -- the balance by what each description holds: added is taken and held together
  pub record Reckoned (trades : List (Trade D)) (es : List (Entry D)) : Type 0 where
    pub balance : (d : D) → taken_of same trades d + held same es d ≡ added_of same trades d
    pub positive : Each (λ e. 1 ≤ e.value) es
    pub once : Ordered (λ x y. same x y ≡ false) (descriptions es)
    pub order : Ordered (λ x y. joined same trades x < joined same trades y) (descriptions es)

module _ {D : Type 0} {same : D → D → Bool} (E : Equality same) where
  pub joined_below : (trades : List (Trade D)) (d : D) → joined same trades d ≤ length trades
  unfolding joined
  joined_below [] d = le_refl 0
  joined_below (x ∷ earlier) d =
      by-test (λ (n : ℕ). n ≤ suc (length earlier)) (joins same d x earlier)
      (λ s. omega (arith, joined_below earlier d))
      (λ s. omega (arith, joined_below earlier d))

  joined-kept : (x : Trade D) (trades : List (Trade D)) (d : D) → joins same d x trades ≡ false → joined same (x ∷ trades) d ≡ joined same trades d
  unfolding joined
  joined-kept x trades d h = rw h

  -- the order is kept where no description joins
  order-kept : (x : Trade D) (trades : List (Trade D)) (ds : List D) → Each (λ d. joins same d x trades ≡ false) ds
      → Ordered (λ x y. joined same trades x < joined same trades y) ds → Ordered (λ y z. joined same (x ∷ trades) y < joined same (x ∷ trades) z) ds
  order-kept x trades ds p o =
      ordered_so (λ d. joins same d x trades ≡ false) _ _ (λ y z j k h. omega (arith, joined-kept x trades y j, joined-kept x trades z k)) ds p o

  pub reckoned-none : Reckoned same [] []
  unfolding taken_of added_of held sum_of descriptions
  reckoned-none = record { balance = λ d. refl; positive = tt; once = tt; order = tt }

  -- a taking is no joining, nor is an adding of another description
  taking-joins : (d : D) (v : ℕ) (trades : List (Trade D)) (x : D) → joins same x (taking d v) trades ≡ false
  unfolding joins
  taking-joins d v trades x = refl

  other-joins : (d : D) (v : ℕ) (trades : List (Trade D)) (x : D) → same x d ≡ false → joins same x (adding d v) trades ≡ false
  unfolding joins
  other-joins d v trades x s = rw (differ E x d s)

  module _ (trades : List (Trade D)) (es : List (Entry D)) (d : D) (v : ℕ) (r : Reckoned same trades es) where
    -- an adding is a joining where its description is not listed, and none where it is
    joining : listed same es d ≡ false → joins same d (adding d v) trades ≡ true
    unfolding joins
    joining h = rw (E.itself d) (eq-eqb (added_of same trades d) (taken_of same trades d) (omega (arith, r.balance d, held_none E es d h)))

    no_joining : listed same es d ≡ true → (x : D) → joins same x (adding d v) trades ≡ false
    unfolding joins
    no_joining h x =
        either_way (same d x)
        (λ s.
        let some : 1 ≤ held same es x = rw (E.alike d x s) at (listed-held E es d r.positive h) in
        rw s (ne_eqb (added_of same trades x) (taken_of same trades x) (λ z. omega (arith, r.balance x))))
        (λ s. rw s)

    joined-last : listed same es d ≡ false → joined same (adding d v ∷ trades) d ≡ suc (length trades)
    unfolding joined
    joined-last h = rw (joining h)

    pub reckoned-taken : v ≤ held same es d → Reckoned same (taking d v ∷ trades) (taken same d v es)
    unfolding taken_of added_of takes adds sum_of
    reckoned-taken h = record {
      balance = λ x. omega (arith, r.balance x, held-taken E d v es r.once h x);
      positive = positive-taken E d v es h r.positive;
      once = ordered-taken E d v _ es r.once;
      order = ordered-taken E d v _ es (order-kept (taking d v) trades (descriptions es) (each_all _ (taking-joins d v trades) (descriptions es)) r.order);
    }

    added-balance : (x : D) → taken_of same (adding d v ∷ trades) x + held same (added same d v es) x ≡ added_of same (adding d v ∷ trades) x
    unfolding taken_of added_of takes adds sum_of
    added-balance x = omega (arith, r.balance x, held-added E d v es x)

    pub reckoned-added : 1 ≤ v → Reckoned same (adding d v ∷ trades) (added same d v es)
    reckoned-added g = either_way (listed same es d) found new
      where
        found : listed same es d ≡ true → Reckoned same (adding d v ∷ trades) (added same d v es)
        found s = record {
          balance = added-balance;
          positive = positive-added E d v es g r.positive;
          once = rw (descriptions-kept E d v es s) r.once;
          order = rw (descriptions-kept E d v es s) (order-kept (adding d v) trades (descriptions es) (each_all _ (no_joining s) (descriptions es)) r.order);
        }

        new : listed same es d ≡ false → Reckoned same (adding d v ∷ trades) (added same d v es)
        new s =
            let others = unlisted E es d s in
            record {
              balance = added-balance;
              positive = positive-added E d v es g r.positive;
              once = rw (added-last E d v es s, descriptions-last es d v) (ordered-last _ (descriptions es) d others r.once);
              order =
                  rw (added-last E d v es s, descriptions-last es d v)
                  (ordered-last _ (descriptions es) d
                  (each_so _ _
                  (λ x q. omega (arith, joined-kept (adding d v) trades x (other-joins d v trades x q), joined_below trades x, joined-last s))
                  (descriptions es) others)
                  (order-kept (adding d v) trades (descriptions es) (each_so _ _ (other-joins d v trades) (descriptions es) others) r.order));
            }

  -- what is reckoned so is the balance
  pub reckoned_balance : (trades : List (Trade D)) (es : List (Entry D)) → Reckoned same trades es → Balance same trades es
  unfolding descriptions
  reckoned_balance trades es r =
      let first = each-held E es r.once in
      record {
        just =
            each_map _ (λ e. e.description) es
            (each_so _ _ (λ e h. omega (arith, r.balance e.description, h.0, h.1)) es (each_both _ _ es first r.positive));
        all = all;
        once = r.once;
        difference = each_so _ _ (λ e h. omega (arith, r.balance e.description, h)) es first;
        order = r.order;
      }
    where
      all : (d : D) → taken_of same trades d < added_of same trades d → listed same es d ≡ true
      all d h = either_way (listed same es d) (λ s. s) (λ s. absurd (omega (arith, r.balance d, held_none E es d s)))
