-- Lines that are computed from the definitions. Assumes nothing.
use mathlib.Core.Path.{◌≡◌, refl}
use mathlib.Core.List.{[], ◌∷◌, flat_map}
use Rattle.lists.specs.Tables.{list_to, ascii}
use Rattle.article.specs.Answer.{make_answer}
use Rattle.numerals.specs.Numerals.{lead, digits}
use Rattle.verdict.specs.declared.Verdict.TheVariants.{Accepted}
use Rattle.report.specs.Report.{after_comma, line_of, answer_numbers, refusal_line, margin_line, remainder_line, printed_lines, judged_line, report_of}

-- what the check finds of document 01's file
pub the_file :
    report_of (Accepted 3285000000 22500) 3 (100000 ∷ 0 ∷ 0 ∷ []) (438000000 ∷ 0 ∷ 0 ∷ []) (0 ∷ 1 ∷ 2 ∷ [])
    ≡ ascii "M,3285000000,22500\r\nR,0,100000,438000000\r\nR,1,0,0\r\nR,2,0,0\r\n"
unfolding report_of printed_lines margin_line judged_line remainder_line line_of after_comma digits lead flat_map list_to
the_file = refl

pub a-refusal : refusal_line (make_answer 16 0 2) ≡ ascii "X,16,0,2\r\n"
unfolding refusal_line answer_numbers line_of after_comma digits lead flat_map
a-refusal = refl

-- the empty book
pub no_holdings : report_of (Accepted 0 0) 0 [] [] [] ≡ ascii "M,0,0\r\n"
unfolding report_of printed_lines margin_line line_of after_comma digits lead flat_map
no_holdings = refl
