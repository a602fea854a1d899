-- An order settled, stage by stage, by what was seen of a book. Assumes nothing.
use mathlib.Core.Path.{◌≡◌, refl, sym, subst}
use mathlib.Core.Bool.{Bool, true, false, not}
use mathlib.Core.List.{List}
use Prim.Native.Nat.{ℕ}
use lib.ListN.{length, take}
use Rattle.std.specs.Prelude.{Result, Ok, Err, nat_eq}
use Rattle.std.specs.Cmp.Lexicographic.{pointwise, same_text, other_text}
use borrow.Author.Tests.{not-true, not-false}
use Rattle.refusals.specs.declared.Refusal.{Refusal, TheVariants.Booking}
use Rattle.holding.specs.declared.{Account.Account, Row.Row}
use Rattle.daybook.specs.Book.{make_book}
use Rattle.daybook.specs.Orders.{whole}
use Rattle.daybook.specs.declared.{Day.Day, Refused.Refused}
use Rattle.daybook.specs.declared.Order.{Order, TheVariants.Add, TheVariants.Take, TheVariants.MoveTo}
use Rattle.booking.specs.Seeing.{trade_of, Opens, OpensLater, Seen, Examined, KnownIn, Known, Concludes}
use Rattle.booking.specs.Settling.{outcome_by, Tradable, Adds, Takes}
use Rattle.booking.specs.declared.{Scan.Scan, Settled.Settled, Change.TheVariants.Stay}
use Rattle.booking.proofs.Changed.{fits_none}
use Rattle.booking.proofs.Opened.{later_real, later_than}
use Rattle.booking.proofs.Concluded.{concluded-before, concluded-row, concluded-totals, concluded-adding, concluded-taking, concluded-undated, concluded-matured, concluded_moving, known_in-trade}

module _ (d : Day) (room : ℕ) (o : Order Row) (opening : Result Account Refusal) (scan moved : Result Scan Refused) where
  pub concludes-before : {x : Refusal} → opening ≡ Err x → Concludes d room o opening scan moved (outcome_by d (Err (whole x)))
  concludes-before e = record {
    fits = fits_none;
    concluded = λ short list l examined. concluded-before short d list o (subst (λ (r : Result Account Refusal). Opens short (length list) d r) e examined.opens);
  }

  module _ {a : Account} (opened : opening ≡ Ok a) where
    module _ {short : Bool} {list : List Row} (examined : Examined short (make_book d list) o opening scan moved) where
      opens : Opens short (length list) d (Ok a)
      opens = subst (λ (r : Result Account Refusal). Opens short (length list) d r) opened examined.opens

      seen_as : {r : Result Scan Refused} → scan ≡ r → Seen a (trade_of o) (take d.count list) r
      seen_as e = subst (λ (r : Result Scan Refused). Seen a (trade_of o) (take d.count list) r) e (examined.seen a opened)

    pub concludes-row : {x : Refused} → scan ≡ Err x → Concludes d room o opening scan moved (outcome_by d (Err x))
    concludes-row e = record {
      fits = fits_none;
      concluded = λ short list l examined. concluded-row short d list o (opens examined) (seen_as examined e);
    }

    module _ {s : Scan} (clear : scan ≡ Ok s) where
      pub concludes-totals : true ≡ not (pointwise nat_eq d.totals s.totals) → Concludes d room o opening scan moved (outcome_by d (Err (whole Booking)))
      concludes-totals off = record {
        fits = fits_none;
        concluded = λ short list l examined.
            concluded-totals short d list o (opens examined) (seen_as examined clear) (other_text _ _ (sym (not-true _ (sym off))));
      }

      module _ (equal : false ≡ not (pointwise nat_eq d.totals s.totals)) where
        right : d.totals ≡ s.totals
        right = same_text _ _ (sym (not-false _ (sym equal)))

        module _ (known : Known d room o opening scan) where
          known_in : KnownIn d room o (Ok s) a
          known_in = subst (λ (r : Result Scan Refused). KnownIn d room o r a) clear (known a opened)

          pub tradable : {x : Row} → trade_of o ≡ x → Tradable d s a x
          tradable p = known_in-trade known_in p right

          pub concludes-adding : {x : Row} {r : Result Settled Refused} → o ≡ Add x → Adds d room s a x r → Concludes d room o opening scan moved (outcome_by d r)
          concludes-adding {x} {r} p adds = record {
            fits = adds.fits known_in.within;
            concluded = λ short list l examined.
                concluded-adding short d list o (opens examined) (seen_as examined clear) right p (subst (λ (n : ℕ). Adds d n s a x r) (sym l) adds);
          }

          pub concludes-taking : {x : Row} {r : Result Settled Refused} → o ≡ Take x → Takes d s a x r → Concludes d room o opening scan moved (outcome_by d r)
          concludes-taking p takes = record {
            fits = takes.fits room known_in.within;
            concluded = λ short list l examined. concluded-taking short d list o (opens examined) (seen_as examined clear) right p takes;
          }

        module _ {to : ℕ} (p : o ≡ MoveTo to) where
          pub concludes-undated : {x : Refusal} → OpensLater d a to (Err x) → Concludes d room o opening scan moved (outcome_by d (Err (whole x)))
          concludes-undated later = record {
            fits = fits_none;
            concluded = λ short list l examined. concluded-undated short d list o (opens examined) (seen_as examined clear) right p later;
          }

          module _ {then : Account} (later : OpensLater d a to (Ok then)) where
            again_as : {short : Bool} {list : List Row} {r : Result Scan Refused} → Examined short (make_book d list) o opening scan moved → moved ≡ r
                → Seen then (trade_of o) (take d.count list) r
            again_as {short} {list} {r} examined e =
                subst (λ (x : Result Scan Refused). Seen then (trade_of o) (take d.count list) x) e
                (subst (λ (x : Account). Seen x (trade_of o) (take d.count list) moved) (sym (later.account then refl))
                (examined.again a opened to p (later_real later) (later_than later)))

            pub concludes-matured : {x : Refused} → moved ≡ Err x → Concludes d room o opening scan moved (outcome_by d (Err x))
            concludes-matured e = record {
              fits = fits_none;
              concluded = λ short list l examined.
                  concluded-matured short d list o (opens examined) (seen_as examined clear) right p later (again_as examined e);
            }

            pub concludes-moved : {m : Scan} → moved ≡ Ok m
                → Concludes d room o opening scan moved (outcome_by d (Ok (record {
                  day = record { date = to; letter = d.letter; count = d.count; totals = m.totals };
                  change = Stay;
                })))
            concludes-moved e = record {
              fits = fits_none;
              concluded = λ short list l examined.
                  concluded_moving short d list o (opens examined) (seen_as examined clear) right p later (again_as examined e);
            }
