-- The worked cases of documents 01 and 02 in one table, and that each agrees: one test, computed from the definitions over each group. Assumes nothing.
use mathlib.Core.Path.{◌≡◌, refl, ap}
use mathlib.Core.Bool.{Bool, true, false, cond}
use mathlib.Core.List.{List, [], ◌∷◌, flat_map}
use Prim.Native.String.{String}
use native.Mathlib.Omega.{arith}
use lib.ListN.{length}
use Rattle.lists.specs.Choice.{within, first_of, some, count, same}
use Rattle.lists.specs.Tables.{Each, list_to, turns, in_turn, front, sum_to, sum_of, only}
use Rattle.lists.specs.Order.{insert, ordered}
use Rattle.lists.proofs.Entries.{each_so, same_true}
use Rattle.words.specs.Words.{number, little_endian, word_at, entries, decode, encode}
use Rattle.dates.specs.Calendar.{is_leap, leap_day, month_lengths, month_length, is_real, is_date, year_start, month_start, day_number, days_between, is_leap_day, anniversary}
use Rattle.dates.specs.Text.{digits_of, date_text, text_number, read_date}
use Rattle.holding.specs.Holding as row
use Rattle.holding.specs.Holding.{head_numbers, head_faults, head_fault, letter_of, account_of, out_of_term, identity_faults, term_faults, worth_faults, money_faults, row_faults, fault_of, holding_of}
use Rattle.holding.specs.Holding.{is_corporation, is_issuer, is_rated, side_of, kind_of, issuer_of, currency_of, rating_of, row_of}
use Rattle.rates.specs.Rate.{longer_than, at_least, period_of, percents, flat_rate, bond_rate, strip_rate, kind_rate, rate_at, rate_of}
use Rattle.article.specs.Pair.{leg_of, is_long, is_short, is_bond, is_strip, is_canada, is_province, is_us, is_gb, in_cad, in_usd, in_gbp, kinds_pair, same_class, mixed_class}
use Rattle.article.specs.Pair.{provinces_pair, class_rule}
use Rattle.article.specs.Pair.{is_participant, are_participants, is_corporate, bond_rating, same_corporation, corporate_rule, cad_rule}
use Rattle.article.specs.Pair.{domestic_rule, one_bond, same_government, foreign_rule, both_cad, same_foreign, rule_of, rule_rate, allowed, pair_rate_of, saving_rate_of, pair_of}
use Rattle.pairing.specs.Pairing as theory
use Rattle.pairing.specs.Pairing.{used, saving, pair_units, priced_total}
use Rattle.ranking.specs.Ranking.{ranks_before, ranking_of}
use Rattle.proposal.specs.Submission.{line_numbers, book_of, terms_of, priced, remainder, margin, units_of, remainders_of, ranked, cents_of}
use Rattle.proposal.specs.Outcome.{at_place, holding_faults, pair_faults, line_faults, at_holding, book_faults, at_line, lines_faults, uncovered, at_pair, at_long, uncovered_pairs}
use Rattle.proposal.specs.Outcome.{totals_differ, totals_faults, size_faults, faults, accepted, outcome}
use Rattle.numerals.specs.Numerals.{lead, digits, value_from, numeral_of}
use Rattle.codes.specs.Codes.{place_from, place_of}
use Rattle.rfc4180.specs.Grammar.{is_text, is_quotable}
use Rattle.rfc4180.specs.Reading.{part, text_from, text_end, close_from, close_at, followed_by, followed, begins, opens, enclosed}
use Rattle.rfc4180.specs.Reading.{field_at, fields_from, record_at, records_from, records_at, records_of}
use Rattle.lei.specs.Lei as lei
use Rattle.lei.specs.Lei.{is_digit, is_capital, is_character, in_form, half_of, lei_of, judged_of, character_of, characters, lei_text}
use Rattle.lei.specs.Numbering.{same_lei, first_place, enter}
use Rattle.layout.specs.Layout.{value_of, values_of, misrated, parsed_of, parse}
use Rattle.reader.specs.File.{parsed_in, values_by, issuer_number, known_after, numbered_from, leis_from, holdings_of, leis_of, submission_of}
use Rattle.reader.specs.File.{at_record, file_faults, file_fault, answer_to, read_answer}
use Rattle.columns.specs.Columns.{count_in, numbers_at, rows_in, lines_in, submission, holding_sizes, line_sizes, lists_of, column, filled_from, filled}
use Rattle.sizes.specs.Sizes.{entries_of, unequal, differ, too_short}
use Rattle.verdict.specs.Judges.{outcome_in}
use Rattle.lent.specs.Boundary.{answered, written_lists, two, outcome_of}
use Rattle.report.specs.Report.{after_comma, line_of, answer_numbers, refusal_line, margin_line, remainder_line, printed_lines, book_line, printed_of}
use Rattle.received.specs.Reading.{held_lists, reading_answer, filling, heading}
use Rattle.received.specs.Naming.{lei_texts as namedTexts, leis_too_short, naming_answer, naming}
use Rattle.printing.specs.Printed.{file_answer, printed}
use Rattle.edges.proofs.Cases.{Case, Agrees, failing, alone, together, judged, worked}
use Rattle.edges.proofs.Starred.{starred, starred_file}
use Rattle.edges.proofs.Others.{single, third_price, first_price, first_amount, too_long, accepted_files, ranked_file, files, record_places, holding_numerals, line_numerals, record_faults}
use Rattle.edges.proofs.Others.{lending, reading, reading_short, too_many, texts, file_proposals, shortcuts, proposals, line_refusals, refusals}
use Rattle.edges.proofs.Foreign.{governments, long_bonds, long_strips, not_paragraph4, two_currencies, foreign_provinces, foreign_debt, both_paragraphs, paragraph2_alone}
use Rattle.edges.proofs.Foreign.{foreign_books, foreign_file, sterling_file, unpaired_files, eighth_field, seven_fields}
use Rattle.edges.proofs.Dated.{actual_days, whole_years, anniversaries, twenty_years, period_ends, other_ends, maturities, valuations, date_texts, valuation_record, dated_files}
use Rattle.edges.proofs.Dated.{dated_figures, head_answers, head_list, head_kept}
use Rattle.edges.proofs.Corporate.{group_five, hedges, longer_hedges, capped, below_cap, hedge_ends, rated_lower, same_kinds, two_corporations, corporation_and_canada}
use Rattle.edges.proofs.Corporate.{corporation_and_province, corporation_abroad, corporation_in_usd, corporation_in_gbp, corporate_periods, rating_faults, rating_places}
use Rattle.edges.proofs.Corporate.{three_paragraphs, without_paragraph3, hedged_books, hedge_prices, corporate_unpaired, leis, lei_texts, record_values, misrated_records}
use Rattle.edges.proofs.Corporate.{first_appearance, most_corporations, numbered_file, alike_in_half, no_corporation, corporate_columns, small_corporate_file}
use Rattle.edges.proofs.Corporate.{two_issuers_file, rated_lower_file, corporate_file, ninth_field, before_order, small_letters, nine_fields, named_leis, named_longer}
use Rattle.edges.proofs.Corporate.{named_short, named_others}
use Rattle.edges.proofs.Clients.{account_letters, before_holdings, before_lines, after_sizes, client_rates, us_in_usd, us_in_gbp, canada_in_usd, canada_in_gbp, gb_in_usd}
use Rattle.edges.proofs.Clients.{gb_in_gbp, corporations, participant_bonds, client_bonds, participant_strips, client_strips, participant_mixed, client_mixed}
use Rattle.edges.proofs.Clients.{client_periods, participant_denied, client_denied, other_denied, books_in_usd, books_of_company, exported_books, books_in_cad}
use Rattle.edges.proofs.Clients.{client_least, client_not_least, dearer_prices, participant_least, at_client_prices, lowest_uncovered, account_texts, account_record}
use Rattle.edges.proofs.Clients.{account_order, head_two, head_two_kept, client_worked, client_file, client_line, participant_file, client_hedge, client_corporation}
use Rattle.edges.proofs.Provinces.{ontario, within_province, two_provinces, next_province, across_provinces, canada_and_province, client_provinces, provinces_apart}
use Rattle.edges.proofs.Provinces.{least_within, least_across, province_files, apart_file}

-- the table: document 01's cases, the starred first, then those of document 02 a), of b), of d), of e) and of g). Most groups are as small as the prover computes
-- when it names a case that fails; of the others it names the group
abbrev pub provinces : List (List Case)
provinces =
    ontario ∷ within_province ∷ two_provinces ∷ next_province ∷ across_provinces ∷ canada_and_province ∷ client_provinces ∷ provinces_apart ∷ least_within ∷ least_across
    ∷ province_files ∷ apart_file ∷ []

abbrev pub client_texts : List (List Case)
client_texts =
    account_texts ∷ account_record ∷ account_order ∷ head_two ∷ head_two_kept ∷ client_worked ∷ client_file ∷ client_line ∷ participant_file ∷ client_hedge
    ∷ client_corporation ∷ provinces

abbrev pub client_books : List (List Case)
client_books =
    books_in_usd ∷ books_of_company ∷ exported_books ∷ books_in_cad ∷ client_least ∷ client_not_least ∷ dearer_prices ∷ participant_least ∷ at_client_prices ∷ lowest_uncovered
    ∷ client_texts

abbrev pub paragraph2_pairs : List (List Case)
paragraph2_pairs =
    participant_bonds ∷ client_bonds ∷ participant_strips ∷ client_strips ∷ participant_mixed ∷ client_mixed ∷ client_periods ∷ participant_denied ∷ client_denied
    ∷ other_denied ∷ client_books

abbrev pub accounts : List (List Case)
accounts =
    account_letters ∷ before_holdings ∷ before_lines ∷ after_sizes ∷ client_rates ∷ us_in_usd ∷ us_in_gbp ∷ canada_in_usd ∷ canada_in_gbp ∷ gb_in_usd ∷ gb_in_gbp ∷ corporations
    ∷ paragraph2_pairs

abbrev pub corporate_texts : List (List Case)
corporate_texts =
    small_corporate_file ∷ two_issuers_file ∷ rated_lower_file ∷ corporate_file ∷ ninth_field ∷ before_order ∷ small_letters ∷ nine_fields ∷ named_leis
    ∷ named_longer ∷ named_short ∷ named_others ∷ accounts

abbrev pub identifiers : List (List Case)
identifiers =
    leis ∷ lei_texts ∷ record_values ∷ misrated_records ∷ first_appearance ∷ most_corporations ∷ numbered_file ∷ alike_in_half ∷ no_corporation
    ∷ corporate_columns ∷ corporate_texts

abbrev pub corporate_books : List (List Case)
corporate_books =
    rating_faults ∷ rating_places ∷ three_paragraphs ∷ without_paragraph3 ∷ hedged_books ∷ hedge_prices ∷ corporate_unpaired ∷ identifiers

abbrev pub corporate_pairs : List (List Case)
corporate_pairs =
    group_five ∷ hedges ∷ longer_hedges ∷ capped ∷ below_cap ∷ hedge_ends ∷ rated_lower ∷ same_kinds ∷ two_corporations ∷ corporation_and_canada
    ∷ corporation_and_province ∷ corporation_abroad ∷ corporation_in_usd ∷ corporation_in_gbp ∷ corporate_periods ∷ corporate_books

abbrev pub dates : List (List Case)
dates =
    actual_days ∷ whole_years ∷ anniversaries ∷ twenty_years ∷ period_ends ∷ other_ends ∷ maturities ∷ valuations ∷ date_texts ∷ valuation_record ∷ dated_files
    ∷ dated_figures ∷ head_answers ∷ head_list ∷ head_kept ∷ corporate_pairs

abbrev pub currencies : List (List Case)
currencies =
    governments ∷ long_bonds ∷ long_strips ∷ not_paragraph4 ∷ two_currencies ∷ foreign_provinces ∷ foreign_debt ∷ both_paragraphs ∷ paragraph2_alone
    ∷ foreign_books ∷ foreign_file ∷ sterling_file ∷ unpaired_files ∷ eighth_field ∷ seven_fields ∷ dates

abbrev pub table : List (List Case)
table =
    starred ∷ starred_file ∷ single ∷ third_price ∷ first_price ∷ first_amount ∷ too_long ∷ accepted_files ∷ ranked_file ∷ files ∷ record_places ∷ holding_numerals
    ∷ line_numerals ∷ record_faults ∷ lending ∷ reading ∷ reading_short ∷ too_many ∷ texts ∷ file_proposals ∷ shortcuts ∷ proposals ∷ line_refusals
    ∷ refusals ∷ currencies

-- no case of any group fails; where this is refused, the message names those that do
abbrev NoneFails : List (List Case) → Type 0
NoneFails groups = Each (λ cs. failing cs ≡ []) groups

none_fails : NoneFails table
unfolding
    starred starred_file single third_price first_price first_amount too_long accepted_files ranked_file files record_places holding_numerals line_numerals record_faults
    lending reading reading_short too_many texts file_proposals shortcuts proposals line_refusals refusals governments long_bonds long_strips not_paragraph4
    two_currencies foreign_provinces foreign_debt both_paragraphs paragraph2_alone foreign_books foreign_file sterling_file unpaired_files eighth_field seven_fields
    actual_days whole_years anniversaries twenty_years period_ends other_ends maturities valuations date_texts valuation_record dated_files dated_figures head_answers
    head_list head_kept failing alone together judged worked within first_of some count same insert ordered sum_to sum_of only list_to turns in_turn front holding_sizes
    line_sizes lists_of written_lists two entries_of unequal differ too_short outcome_in outcome_of count_in numbers_at rows_in lines_in submission column filled_from
    filled row.numbers_of line_numbers answered read_answer held_lists reading_answer filling heading is_leap leap_day month_lengths month_length is_real is_date year_start
    month_start day_number days_between is_leap_day anniversary digits_of date_text text_number read_date head_numbers head_faults head_fault letter_of account_of out_of_term
    identity_faults term_faults worth_faults money_faults row_faults fault_of holding_of side_of kind_of issuer_of currency_of row_of longer_than at_least period_of percents
    flat_rate bond_rate strip_rate kind_rate rate_at rate_of leg_of is_long is_short is_bond is_strip is_canada is_province is_us is_gb in_cad in_usd in_gbp kinds_pair same_class
    mixed_class class_rule domestic_rule one_bond same_government foreign_rule both_cad same_foreign rule_of rule_rate allowed pair_rate_of saving_rate_of pair_of used
    theory.saving_rate saving pair_units priced_total ranks_before ranking_of book_of terms_of priced remainder margin units_of remainders_of ranked cents_of at_place
    holding_faults pair_faults line_faults at_holding book_faults at_line lines_faults uncovered at_pair at_long uncovered_pairs totals_differ totals_faults size_faults
    faults accepted outcome lead digits value_from numeral_of place_from place_of is_text is_quotable part text_from text_end close_from close_at followed_by followed
    begins opens enclosed field_at fields_from record_at records_from records_at records_of value_of values_of parsed_of parse parsed_in values_by submission_of at_record
    file_faults file_fault after_comma line_of answer_numbers refusal_line margin_line remainder_line printed_lines book_line printed_of file_answer printed flat_map number
    little_endian word_at entries decode encode is_corporation is_issuer is_rated rating_of is_participant are_participants is_corporate bond_rating same_corporation
    corporate_rule cad_rule is_digit is_capital is_character in_form lei.value_of lei.digits_of lei.number lei.remainder half_of lei_of judged_of character_of characters
    lei_text same_lei first_place enter misrated issuer_number known_after numbered_from leis_from holdings_of leis_of answer_to namedTexts leis_too_short naming_answer
    naming group_five hedges longer_hedges capped below_cap hedge_ends rated_lower same_kinds two_corporations corporation_and_canada corporation_and_province
    corporation_abroad corporation_in_usd corporation_in_gbp corporate_periods rating_faults rating_places three_paragraphs without_paragraph3 hedged_books hedge_prices
    corporate_unpaired leis lei_texts record_values misrated_records first_appearance most_corporations numbered_file alike_in_half no_corporation corporate_columns
    small_corporate_file two_issuers_file rated_lower_file corporate_file ninth_field before_order small_letters nine_fields named_leis named_longer named_short named_others
    account_letters before_holdings before_lines after_sizes client_rates us_in_usd us_in_gbp canada_in_usd canada_in_gbp gb_in_usd gb_in_gbp corporations participant_bonds
    client_bonds participant_strips client_strips participant_mixed client_mixed client_periods participant_denied client_denied other_denied books_in_usd books_of_company
    exported_books books_in_cad client_least client_not_least dearer_prices participant_least at_client_prices lowest_uncovered account_texts account_record account_order
    head_two head_two_kept client_worked client_file client_line participant_file client_hedge client_corporation provinces_pair
    ontario within_province two_provinces next_province across_provinces canada_and_province client_provinces provinces_apart least_within least_across province_files
    apart_file
none_fails =
    let j : NoneFails provinces = (refl, (refl, (refl, (refl, (refl, (refl, (refl, (refl, (refl, (refl, (refl, (refl, tt)))))))))))) in
    let i : NoneFails client_texts = (refl, (refl, (refl, (refl, (refl, (refl, (refl, (refl, (refl, (refl, (refl, j))))))))))) in
    let h : NoneFails client_books = (refl, (refl, (refl, (refl, (refl, (refl, (refl, (refl, (refl, (refl, i)))))))))) in
    let g₂ : NoneFails paragraph2_pairs = (refl, (refl, (refl, (refl, (refl, (refl, (refl, (refl, (refl, (refl, h)))))))))) in
    let g : NoneFails accounts = (refl, (refl, (refl, (refl, (refl, (refl, (refl, (refl, (refl, (refl, (refl, (refl, g₂)))))))))))) in
    let f : NoneFails corporate_texts = (refl, (refl, (refl, (refl, (refl, (refl, (refl, (refl, (refl, (refl, (refl, (refl, g)))))))))))) in
    let e : NoneFails identifiers = (refl, (refl, (refl, (refl, (refl, (refl, (refl, (refl, (refl, (refl, f)))))))))) in
    let d : NoneFails corporate_books = (refl, (refl, (refl, (refl, (refl, (refl, (refl, e))))))) in
    let c : NoneFails corporate_pairs = (refl, (refl, (refl, (refl, (refl, (refl, (refl, (refl, (refl, (refl, (refl, (refl, (refl, (refl, (refl, d))))))))))))))) in
    let b : NoneFails dates = (refl, (refl, (refl, (refl, (refl, (refl, (refl, (refl, (refl, (refl, (refl, (refl, (refl, (refl, (refl, c))))))))))))))) in
    let a : NoneFails currencies = (refl, (refl, (refl, (refl, (refl, (refl, (refl, (refl, (refl, (refl, (refl, (refl, (refl, (refl, (refl, b))))))))))))))) in
    (refl, (refl, (refl, (refl, (refl, (refl, (refl, (refl, (refl, (refl, (refl, (refl, (refl, (refl, (refl, (refl, (refl, (refl, (refl, (refl, (refl, (refl, (refl, (refl, a))))))))))))))))))))))))

-- cases of which none fails agree
none_each : (cs : List Case) → failing cs ≡ [] → Each Agrees cs
unfolding failing
none_each [] e = tt
none_each (c ∷ cs) e = by (none_each cs) (same c.computed c.stated) refl e
  where
    by : (failing cs ≡ [] → Each Agrees cs) → (t : Bool) → same c.computed c.stated ≡ t → cond t (failing cs) (c.name ∷ failing cs) ≡ [] → Agrees c × Each Agrees cs
    by rest true h f = (same_true c.computed c.stated h, rest f)
    by rest false h f = absurd (omega (arith, ap (λ (l : List String). length l) f))

pub edges : Each (Each Agrees) table
edges = each_so (λ cs. failing cs ≡ []) (Each Agrees) none_each table none_fails
