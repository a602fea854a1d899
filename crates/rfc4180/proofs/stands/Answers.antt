-- `stands` decides whether a byte stands at a place. Assumes nothing.
use Rattle.std.proofs.Common.{◌≡◌, ℕ, ◌<◌, Option, Some, None, List, length, get_or, drop, sym, ap, ◌∙◌, arith, eqb, nat_lt, Bor}
use Rattle.std.specs.Option.{option_eq, is_some, IfSome}
use Rattle.std.proofs.lemmas.List.{get_or_read}
use Rattle.std.proofs.lemmas.Bool.Decides.{nat_tests}
use Rattle.rfc4180.specs.Reading.{begins}
use Rattle.rfc4180.proofs.Scan.{begins_at, begins_past}
use Rattle.rfc4180.proofs.stands.Goals as goal

at-byte : (text : List ℕ) (i : ℕ) (b : Bor ℕ) (o : Option (Bor ℕ)) → is_some o ≡ nat_lt i (length text) → IfSome o (λ x. x.now ≡ get_or text i x.now)
    → option_eq (λ (x y : Bor ℕ). eqb x.now y.now) o (Some b) ≡ begins b.now (drop i text)
at-byte text i b None e h = sym (begins_past text i b.now (grind (arith, nat_tests)))
at-byte text i b (Some x) e h =
    let l : i < length text = grind (arith, nat_tests) in
    ap (λ (n : ℕ). eqb n b.now) (get_or_read text i x.now l h 0) ∙ sym (begins_at text i b.now l)

pub returns-clause-there : goal.returns-clause-there
returns-clause-there c = c.eq.ensures ∙ at-byte _ _ _ _ c.get.ensures.lookup.0 c.get.ensures.lookup.1
