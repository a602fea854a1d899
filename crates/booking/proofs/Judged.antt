-- An order judged on every list whose rows are given: stage by stage, and by what is seen of it, which is what settles the order. Assumes nothing.
use mathlib.Core.Path.{◌≡◌, refl, sym, subst}
use mathlib.Core.Bool.{Bool, true, false, not}
use mathlib.Core.List.{List}
use Prim.Native.Nat.{ℕ, ◌≤◌, ◌<◌}
use native.Mathlib.Omega.{arith}
use lib.ListN.{length, take}
use Rattle.std.specs.Prelude.{Result, Ok, Err, Option, Some, None, nat_eq}
use Rattle.std.specs.Cmp.Lexicographic.{pointwise, same_text, other_text}
use borrow.Author.Tests.{not-true, not-false}
use Rattle.refusals.specs.declared.Refusal.{Refusal, TheVariants.Booking}
use Rattle.dates.specs.Calendar.{is_date}
use Rattle.holding.specs.declared.{Account.Account, Row.Row}
use Rattle.daybook.specs.Orders.{whole}
use Rattle.daybook.specs.declared.{Day.Day, Refused.Refused}
use Rattle.daybook.specs.declared.Order.{Order, TheVariants.Add, TheVariants.Take, TheVariants.MoveTo}
use Rattle.booking.specs.Seeing.{trade_of, on_date, Opens, OpensLater, OpensAgain, Lists, Seen, Scans, KnownIn, Known, Concludes, Judges}
use Rattle.booking.specs.Settling.{outcome_by, Tradable, Adds, Takes}
use Rattle.booking.specs.declared.{Scan.Scan, Settled.Settled, Outcome.Outcome, Change.TheVariants.Stay}
use Rattle.booking.proofs.Changed.{fits_none}
use Rattle.booking.proofs.Concluded.{concluded-before, concluded-row, concluded-totals, concluded-adding, concluded-taking, concluded-undated, concluded-matured}
use Rattle.booking.proofs.Concluded.{concluded_moving, known-rows, known-trade}

module _ (short : Bool) (room : ℕ) (d : Day) (o : Order Row) (given : ℕ → Row → Type 0) where
  -- refused before its holdings
  pub judged-before : {x : Refusal} → Opens short room d (Err x) → Judges short room d o given (outcome_by d (Err (whole x)))
  judged-before {x} opens = record {
    fits = fits_none;
    concluded = λ list lists l. concluded-before short d list o (subst (λ (n : ℕ). Opens short n d (Err x)) (sym l) opens);
  }

  module _ {a : Account} (opens : Opens short room d (Ok a)) where
    at_list : (list : List Row) → length list ≡ room → Opens short (length list) d (Ok a)
    at_list list l = subst (λ (n : ℕ). Opens short n d (Ok a)) (sym l) opens

    within : (list : List Row) → length list ≡ room → d.count ≤ length list
    within list l = omega (arith, l, (opens.opened a refl).within)

    seen_in : {t : Row} → t ≡ trade_of o → {r : Result Scan Refused} → Scans a t d.count given r
        → (list : List Row) → Lists given d.count list → length list ≡ room → Seen a (trade_of o) (take d.count list) r
    seen_in trade {r} seen list lists l = subst (λ (x : Row). Seen a x (take d.count list) r) trade (seen list lists (within list l))

    -- a holding refused
    pub judged-row : {t : Row} {x : Refused} → t ≡ trade_of o → Scans a t d.count given (Err x) → Judges short room d o given (outcome_by d (Err x))
    judged-row trade seen = record { fits = fits_none; concluded = λ list lists l. concluded-row short d list o (at_list list l) (seen_in trade seen list lists l) }

    -- no holding refused
    module _ {t : Row} (trade : t ≡ trade_of o) {s : Scan} (seen : Scans a t d.count given (Ok s)) where
      pub judged-totals : true ≡ not (pointwise nat_eq d.totals s.totals) → Judges short room d o given (outcome_by d (Err (whole Booking)))
      judged-totals off = record {
        fits = fits_none;
        concluded = λ list lists l. concluded-totals short d list o (at_list list l) (seen_in trade seen list lists l) (other_text _ _ (sym (not-true _ (sym off))));
      }

      module _ (equal : false ≡ not (pointwise nat_eq d.totals s.totals)) where
        right : d.totals ≡ s.totals
        right = same_text _ _ (sym (not-false _ (sym equal)))

        pub tradable : (x : Row) → (list : List Row) × Lists given d.count list × (length list ≡ room) → trade_of o ≡ x → Tradable d s a x
        tradable x (list, lists, l) p = known-trade short d list o (at_list list l) (seen_in trade seen list lists l) p right

        pub judged-adding : {x : Row} {r : Result Settled Refused} → o ≡ Add x → Adds d room s a x r → Judges short room d o given (outcome_by d r)
        judged-adding {x} {r} p adds = record {
          fits = adds.fits (opens.opened a refl).within;
          concluded = λ list lists l.
              concluded-adding short d list o (at_list list l) (seen_in trade seen list lists l) right p (subst (λ (n : ℕ). Adds d n s a x r) (sym l) adds);
        }

        pub judged-taking : {x : Row} {r : Result Settled Refused} → o ≡ Take x → Takes d s a x r → Judges short room d o given (outcome_by d r)
        judged-taking p takes = record {
          fits = takes.fits room (opens.opened a refl).within;
          concluded = λ list lists l. concluded-taking short d list o (at_list list l) (seen_in trade seen list lists l) right p takes;
        }

        module _ {to : ℕ} (p : o ≡ MoveTo to) where
          pub judged-undated : {x : Refusal} → OpensLater d a to (Err x) → Judges short room d o given (outcome_by d (Err (whole x)))
          judged-undated later = record {
            fits = fits_none;
            concluded = λ list lists l. concluded-undated short d list o (at_list list l) (seen_in trade seen list lists l) right p later;
          }

          module _ {then : Account} (later : OpensLater d a to (Ok then)) where
            pub judged-matured : {w : Row} {x : Refused} → Scans then w d.count given (Err x) → Judges short room d o given (outcome_by d (Err x))
            judged-matured again = record {
              fits = fits_none;
              concluded = λ list lists l.
                  concluded-matured short d list o (at_list list l) (seen_in trade seen list lists l) right p later (again list lists (within list l));
            }

            pub judged-moved : {w : Row} {moved : Scan} → Scans then w d.count given (Ok moved)
                → Judges short room d o given (outcome_by d (Ok (record {
                  day = record { date = to; letter = d.letter; count = d.count; totals = moved.totals };
                  change = Stay;
                })))
            judged-moved again = record {
              fits = fits_none;
              concluded = λ list lists l.
                  concluded_moving short d list o (at_list list l) (seen_in trade seen list lists l) right p later (again list lists (within list l));
            }

    module _ {t : Row} (trade : t ≡ trade_of o) {scan : Result Scan Refused} (seen : Scans a t d.count given scan) where
      same_account : {x : Account} → ◌≡◌ {A = Result Account Refusal} (Ok a) (Ok x) → a ≡ x
      same_account e = cc

      -- what was seen is known
      pub judged-known : (list : List Row) × Lists given d.count list × (length list ≡ room) → Known d room o (Ok a) scan
      judged-known (list, lists, l) x e =
          subst (λ (y : Account). KnownIn d room o scan y) (same_account e)
          (subst (λ (n : ℕ). KnownIn d n o scan a) l (known-rows short d list o (at_list list l) (seen_in trade seen list lists l)))

      -- what it settles is judged
      judged-so : {moved : Result Scan Refused} {r : Outcome}
          → ((to : ℕ) → o ≡ MoveTo to → is_date to ≡ true → d.date < to → Scans (on_date to a) t d.count given moved)
          → Concludes d room o (Ok a) scan moved r → Judges short room d o given r
      judged-so {moved} {r} again concludes = record {
        fits = concludes.fits;
        concluded = λ list lists l. concludes.concluded short list l (record {
          opens = at_list list l;
          seen = λ x e. subst (λ (y : Account). Seen y (trade_of o) (take d.count list) scan) (same_account e) (seen_in trade seen list lists l);
          again = λ x e to p real less.
              subst (λ (y : Account). Seen (on_date to y) (trade_of o) (take d.count list) moved) (same_account e)
              (subst (λ (y : Row). Seen (on_date to a) y (take d.count list) moved) trade (again to p real less list lists (within list l)));
        });
      }

      module _ {r : Option (Result Account Refusal)} (again : OpensAgain o a r) {moved : Result Scan Refused} {out : Outcome} (concludes : Concludes d room o (Ok a) scan moved out) where
        -- seen once more
        pub judged-again : {then : Account} → r ≡ Some (Ok then) → Scans then t d.count given moved → Judges short room d o given out
        judged-again {then} e seen-again =
            judged-so
            (λ to p real less.
            let on : r ≡ Some (Ok (on_date to a)) = again.account to p real in
            let same : then ≡ on_date to a = cc in
            subst (λ (x : Account). Scans x t d.count given moved) same seen-again) concludes

        -- not to be seen once more
        once : ((x : Account) → r ≡ Some (Ok x) → ⊥) → Judges short room d o given out
        once other = judged-so (λ to p real less. absurd (other (on_date to a) (again.account to p real))) concludes

        pub judged-unreal : {x : Refusal} → r ≡ Some (Err x) → Judges short room d o given out
        judged-unreal {x} e = once (λ y f. absurd (cc))

        pub judged-once : r ≡ None → Judges short room d o given out
        judged-once e = once (λ y f. absurd (cc))
