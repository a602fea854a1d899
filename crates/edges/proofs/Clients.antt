-- Document 02 e), "Client accounts": the letter and its refusal 26, the pairs that a participant has and a client has not, a client's least margin, the third
-- field of a D, the head's list, and files. Assumes nothing.
use mathlib.Core.Bool.{true, false}
use mathlib.Core.List.{List, [], ◌∷◌, ◌++◌, map, flat_map}
use Prim.Native.Nat.{ℕ}
use lib.ListN.{replicate, set}
use Rattle.lists.specs.Tables.{ascii}
use Rattle.holding.specs.declared.Head.{Head}
use Rattle.holding.specs.declared.Row.{Row}
use Rattle.pairing.specs.declared.Line.{Line}
use Rattle.layout.specs.declared.Sort.TheVariants.{Account}
use Rattle.edges.proofs.Cases.{Case, rates_by, heads, pairs, pairs_by, no_pairs, no_pairs_by, proposal, proposal_by, proposals_by, lent_by, lengths_by, exported}
use Rattle.edges.proofs.Cases.{prints, code, refuses, meanings, records, received, answers, D_by, D, H, H_in, H_rated, P, unended}
use Rattle.edges.proofs.Cases.{head, participant, client, client_head, new_year, line, row, of, rated, L, S, B, C, R, CA, ON, QC, US, GB, CAD, USD, GBP, Y, N, none}
use Rattle.edges.proofs.Cases.{file, file_lines}
use Rattle.edges.proofs.Others.{two, bonds, most}
use Rattle.edges.proofs.Dated.{entered, untouched}
use Rattle.edges.proofs.Corporate.{K1, long, short}

-- a head that has neither letter
abbrev neither : Head
neither = head new_year 2

-- proposals with one fault of holding 1, of each number in the check's order; and with one fault of the lines or of the prices
abbrev faulty_holdings : List (List Row × List ℕ × List Line)
faulty_holdings =
    map
    (λ r. (row L B CA 20250102 1 ∷ r ∷ [], 0 ∷ 0 ∷ [], []))
    (row 2 B CA 20250102 1
    ∷ row L 3 CA 20250102 1
    ∷ row L B 13 20250102 1
    ∷ row L B CA 20250230 1
    ∷ row L B CA 20250101 1
    ∷ row L B CA 20250102 0
    ∷ of 3 (row L B CA 20250102 1)
    ∷ rated Y (row L B CA 20250102 1)
    ∷ [])
    ++ ((bonds, 0 ∷ 43801 ∷ [], []) ∷ [])

abbrev faulty_lines : List (List Row × List ℕ × List Line)
faulty_lines =
    (two 2 2, 8 ∷ 0 ∷ [], line 0 2 1 ∷ [])
    ∷ (two 2 2, 8 ∷ 0 ∷ [], line 1 0 1 ∷ [])
    ∷ (bonds, 0 ∷ 0 ∷ [], line 0 1 1 ∷ [])
    ∷ (two 2 2, 8 ∷ 0 ∷ [], line 0 1 0 ∷ [])
    ∷ (two 2 2, 8 ∷ 0 ∷ [], line 0 1 3 ∷ [])
    ∷ (two 2 2, 0 ∷ 0 ∷ [], [])
    ∷ (two 2 2, 8 ∷ 0 ∷ [], [])
    ∷ []

-- their refusals
abbrev refused_holdings : List ℕ
refused_holdings = flat_map (λ n. n ∷ 1 ∷ 0 ∷ []) (4 ∷ 5 ∷ 6 ∷ 24 ∷ 7 ∷ 8 ∷ 23 ∷ 25 ∷ 10 ∷ [])

abbrev refused_lines : List ℕ
refused_lines = flat_map (λ n. n ∷ 0 ∷ 0 ∷ []) (11 ∷ 12 ∷ 13 ∷ 14 ∷ 15 ∷ []) ++ (16 ∷ 0 ∷ 1 ∷ 17 ∷ 0 ∷ 0 ∷ [])

-- the check: 26 a number for neither letter, at place 0
unfoldable pub account_letters : List Case
account_letters =
    heads "P and C" (head new_year 0 ∷ head new_year 1 ∷ []) (0 ∷ 0 ∷ [])
    ∷ heads "numbers for neither" (map (head new_year) (2 ∷ 3 ∷ 80 ∷ 255 ∷ 256 ∷ 257 ∷ 65536 ∷ 4294967296 ∷ 4294967297 ∷ most ∷ [])) (replicate 10 26)
    ∷ heads "24 on the valuation date before 26" (head 20250230 2 ∷ head 0 most ∷ head 23000101 255 ∷ []) (24 ∷ 24 ∷ 24 ∷ [])
    ∷ heads "24 on the valuation date, for a client" (head 20250230 1 ∷ head 0 1 ∷ []) (24 ∷ 24 ∷ [])
    ∷ proposal_by neither "26 and nothing else" (two 2 2) (8 ∷ 0 ∷ []) (line 0 1 2 ∷ []) (26 ∷ 0 ∷ 0 ∷ [])
    ∷ proposal_by (head new_year most) "26 for the largest number" (two 2 2) (8 ∷ 0 ∷ []) (line 0 1 2 ∷ []) (26 ∷ 0 ∷ 0 ∷ [])
    ∷ proposal_by (head new_year 255) "26 on the empty book" [] [] [] (26 ∷ 0 ∷ 0 ∷ [])
    ∷ proposal_by (head 20250230 2) "24 on the valuation date before 26, from a book" (two 2 2) (8 ∷ 0 ∷ []) [] (24 ∷ 0 ∷ 0 ∷ [])
    ∷ []

-- before the holdings and the lines
unfoldable pub before_holdings : List Case
before_holdings =
    proposals_by participant "a fault of holding 1" faulty_holdings refused_holdings
    ∷ proposals_by client "a fault of holding 1, of a client" faulty_holdings refused_holdings
    ∷ proposals_by neither "26 before each" faulty_holdings (flat_map (λ _. 26 ∷ 0 ∷ 0 ∷ []) faulty_holdings)
    ∷ []

unfoldable pub before_lines : List Case
before_lines =
    proposals_by participant "a fault of the lines or the prices" faulty_lines refused_lines
    ∷ proposals_by client "a fault of the lines or the prices, of a client" faulty_lines refused_lines
    ∷ proposals_by neither "26 before each" faulty_lines (flat_map (λ _. 26 ∷ 0 ∷ 0 ∷ []) faulty_lines)
    ∷ []

-- after 1, 3, 9 and 2, of a book and of what a host lends
unfoldable pub after_sizes : List Case
after_sizes =
    lent_by neither "1 before 26" true true (two 2 2) [] (1 ∷ 0 ∷ 0 ∷ [])
    ∷ lent_by neither "3 before 26" false true (replicate 257 (row L B CA 20250102 1)) [] (3 ∷ 0 ∷ 0 ∷ [])
    ∷ lent_by neither "9 before 26" false true (two 2 2) (replicate 513 (line 0 0 1)) (9 ∷ 0 ∷ 0 ∷ [])
    ∷ lent_by neither "2 before 26" false true (two 2 2) [] (2 ∷ 0 ∷ 0 ∷ [])
    ∷ lengths_by neither "26 in the exported check" ((replicate 13 0 ++ (16 ∷ [])) ∷ (replicate 8 16 ++ replicate 3 8 ++ replicate 3 16) ∷ []) 26
    ∷ lengths_by neither "1 before 26 in the exported check" ((replicate 7 0 ++ (8 ∷ []) ++ replicate 5 0 ++ (16 ∷ [])) ∷ []) 1
    ∷ lengths_by neither "2 before 26 in the exported check" ((replicate 13 0 ++ (15 ∷ [])) ∷ []) 2
    ∷ lengths_by (head 20250230 2) "24 before 26 in the exported check" ((replicate 13 0 ++ (16 ∷ [])) ∷ []) 24
    ∷ lengths_by client "the exported check of a client's empty book" ((replicate 13 0 ++ (16 ∷ [])) ∷ []) 0
    ∷ []

-- a bond and a strip of one issuer, its currency and rating: each kind of strip, and each way round
abbrev bond_and_strip : ℕ → ℕ → ℕ → List (Row × Row)
bond_and_strip issuer currency rating =
    flat_map
    (λ (k : ℕ). (long B issuer currency rating, short k issuer currency rating) ∷ (long k issuer currency rating, short B issuer currency rating) ∷ [])
    (C ∷ R ∷ [])

-- a long and a short of two issuers in CAD, of each two kinds
abbrev pub domestic : ℕ → ℕ → List (ℕ × ℕ) → List (Row × Row)
domestic issuer other kinds = map (λ (k : ℕ × ℕ). (long k.0 issuer CAD none, short k.1 other CAD none)) kinds

-- a holding has the same rate in both accounts
unfoldable pub client_rates : List Case
client_rates =
    rates_by client "a client's bonds" (long B CA CAD none ∷ long B ON CAD none ∷ long B US USD none ∷ long B GB GBP none ∷ long B K1 CAD Y ∷ [])
    (2920 ∷ 5840 ∷ 2920 ∷ 2920 ∷ 10220 ∷ [])
    ∷ rates_by client "a client's strips" (short C CA CAD none ∷ short R ON CAD none ∷ short C US CAD none ∷ short R GB USD none ∷ short C K1 GBP N ∷ [])
    (4380 ∷ 8760 ∷ 4380 ∷ 4380 ∷ 15330 ∷ [])
    ∷ rates_by client "a client's strips of a day, and from 20 years"
    (row L C CA 20250102 100 ∷ row L C CA 20450101 100 ∷ row L R ON 21250101 100 ∷ rated N (row L C K1 20250102 100) ∷ rated Y (row L R K1 20450101 100) ∷ [])
    (6 ∷ 17520 ∷ 21900 ∷ 6570 ∷ 43800 ∷ [])
    ∷ rates_by (client_head 20240115) "a client's bonds by another valuation date" (row L B CA 20250115 100 ∷ row L B CA 20250116 100 ∷ []) (1464 ∷ 1460 ∷ [])
    ∷ []

-- paragraph 4 is a participant's, and not a client's
unfoldable pub us_in_usd : List Case
us_in_usd =
    pairs "a participant's, of US in USD" (bond_and_strip US USD none) 1460 5840
    ∷ no_pairs_by client "a client's, of US in USD" (bond_and_strip US USD none)
    ∷ []

unfoldable pub us_in_gbp : List Case
us_in_gbp =
    pairs "a participant's, of US in GBP" (bond_and_strip US GBP none) 1460 5840
    ∷ no_pairs_by client "a client's, of US in GBP" (bond_and_strip US GBP none)
    ∷ []

unfoldable pub canada_in_usd : List Case
canada_in_usd =
    pairs "a participant's, of Canada in USD" (bond_and_strip CA USD none) 1460 5840
    ∷ no_pairs_by client "a client's, of Canada in USD" (bond_and_strip CA USD none)
    ∷ []

unfoldable pub canada_in_gbp : List Case
canada_in_gbp =
    pairs "a participant's, of Canada in GBP" (bond_and_strip CA GBP none) 1460 5840
    ∷ no_pairs_by client "a client's, of Canada in GBP" (bond_and_strip CA GBP none)
    ∷ []

unfoldable pub gb_in_usd : List Case
gb_in_usd =
    pairs "a participant's, of GB in USD" (bond_and_strip GB USD none) 1460 5840
    ∷ no_pairs_by client "a client's, of GB in USD" (bond_and_strip GB USD none)
    ∷ []

unfoldable pub gb_in_gbp : List Case
gb_in_gbp =
    pairs "a participant's, of GB in GBP" (bond_and_strip GB GBP none) 1460 5840
    ∷ no_pairs_by client "a client's, of GB in GBP" (bond_and_strip GB GBP none)
    ∷ []

-- and so is paragraph 3
unfoldable pub corporations : List Case
corporations =
    pairs "a participant's, of a corporation" (bond_and_strip K1 CAD Y) 15330 10220
    ∷ no_pairs_by client "a client's, of a corporation" (bond_and_strip K1 CAD Y)
    ∷ pairs "a participant's, with a strip from 20 years" ((rated Y (row L B K1 20380910 100), rated N (row S C K1 20461127 100)) ∷ []) 29200 29200
    ∷ no_pairs_by client "a client's, with a strip from 20 years" ((rated Y (row L B K1 20380910 100), rated N (row S C K1 20461127 100)) ∷ [])
    ∷ []

-- paragraph 2 is a participant's and a client's, at one rate: a bond with a strip of one issuer, a strip with a strip, and Canada with a province
abbrev bond_with_strip : Head → List Case
bond_with_strip h =
    pairs_by h "bond with strip of Canada" (domestic CA CA ((B, C) ∷ (C, B) ∷ (B, R) ∷ (R, B) ∷ [])) 1460 5840
    ∷ pairs_by h "bond with strip of a province" (domestic ON ON ((B, C) ∷ (C, B) ∷ (B, R) ∷ (R, B) ∷ []) ++ domestic QC QC ((B, C) ∷ (R, B) ∷ [])) 2920 11680
    ∷ []

abbrev strip_with_strip : Head → List Case
strip_with_strip h =
    pairs_by h "strip with strip of Canada" (domestic CA CA ((C, C) ∷ (C, R) ∷ (R, C) ∷ (R, R) ∷ [])) 0 8760
    ∷ pairs_by h "strip with strip of provinces" (domestic ON QC ((C, C) ∷ (C, R) ∷ (R, C) ∷ (R, R) ∷ []) ++ domestic QC QC ((C, R) ∷ [])) 0 17520
    ∷ []

abbrev canada_with_province : Head → List Case
canada_with_province h =
    pairs_by h "Canada bond with strip of a province" (domestic CA ON ((B, C) ∷ (B, R) ∷ []) ++ domestic ON CA ((C, B) ∷ (R, B) ∷ [])) 5840 5840
    ∷ pairs_by h "Canada strip with bond of a province" (domestic CA ON ((C, B) ∷ (R, B) ∷ []) ++ domestic ON CA ((B, C) ∷ (B, R) ∷ [])) 5110 5110
    ∷ pairs_by h "Canada strip with strip of a province" (domestic CA ON ((C, R) ∷ (R, C) ∷ []) ++ domestic ON CA ((C, C) ∷ (R, R) ∷ [])) 6570 6570
    ∷ []

unfoldable pub participant_bonds : List Case
participant_bonds = bond_with_strip participant

unfoldable pub client_bonds : List Case
client_bonds = bond_with_strip client

unfoldable pub participant_strips : List Case
participant_strips = strip_with_strip participant

unfoldable pub client_strips : List Case
client_strips = strip_with_strip client

unfoldable pub participant_mixed : List Case
participant_mixed = canada_with_province participant

unfoldable pub client_mixed : List Case
client_mixed = canada_with_province client

-- in each period
unfoldable pub client_periods : List Case
client_periods =
    pairs_by client "a client's coupons of a day" ((row L C CA 20250102 100, row S C CA 20250102 100) ∷ []) 0 12
    ∷ pairs_by client "the first day and the last of period 2" ((row L C CA 20260102 100, row S R CA 20280101 100) ∷ []) 0 4380
    ∷ pairs_by client "the last day of period 4 and the first" ((row L R ON 20360101 100, row S C QC 20320102 100) ∷ []) 0 21900
    ∷ pairs_by client "below 20 years, and from 20 years" ((row L C CA 20380910 100, row S C CA 20461127 100) ∷ []) 8760 17520
    ∷ []

-- what it denies, it denies to both
abbrev bond_with_bond : List (Row × Row)
bond_with_bond = flat_map (λ (i : ℕ × ℕ). domestic i.0 i.1 ((B, B) ∷ [])) ((CA, CA) ∷ (ON, ON) ∷ (ON, QC) ∷ (CA, ON) ∷ (ON, CA) ∷ [])

unfoldable pub participant_denied : List Case
participant_denied =
    no_pairs "a participant's bond with bond" bond_with_bond
    ∷ []

unfoldable pub client_denied : List Case
client_denied =
    no_pairs_by client "a client's bond with bond" bond_with_bond
    ∷ []

unfoldable pub other_denied : List Case
other_denied =
    no_pairs_by client "a client's, on either side of 11 years" ((row L C CA 20360101 100, row S C CA 20360102 100) ∷ [])
    ∷ no_pairs_by client "a client's strips in USD, and debt of US in CAD" ((long C CA USD none, short R CA USD none) ∷ (long B US CAD none, short C US CAD none) ∷ [])
    ∷ no_pairs_by client "a client's Canada in CAD with Canada in USD" ((long B CA CAD none, short C CA USD none) ∷ (long C CA USD none, short B CA CAD none) ∷ [])
    ∷ []

-- a bond and a coupon of one issuer, by its currency and rating
abbrev bond_and_coupon : ℕ → ℕ → ℕ → List Row
bond_and_coupon issuer currency rating = long B issuer currency rating ∷ short C issuer currency rating ∷ []

-- one book in both accounts: a line in USD is a participant's alone, and a client's two holdings have their full margins; so is one of a corporation
unfoldable pub books_in_usd : List Case
books_in_usd =
    proposal "a participant's line in USD" (bond_and_coupon US USD none) (5840 ∷ 0 ∷ []) (line 0 1 100 ∷ []) (0 ∷ 146000 ∷ 1 ∷ 0 ∷ 0 ∷ 0 ∷ 1 ∷ [])
    ∷ proposal "a participant's unpaired, in USD" (bond_and_coupon US USD none) (0 ∷ 0 ∷ []) [] (16 ∷ 0 ∷ 1 ∷ [])
    ∷ proposal_by client "a client's line in USD" (bond_and_coupon US USD none) (5840 ∷ 0 ∷ []) (line 0 1 100 ∷ []) (13 ∷ 0 ∷ 0 ∷ [])
    ∷ proposal_by client "a client's unpaired, in USD" (bond_and_coupon US USD none) (0 ∷ 0 ∷ []) [] (0 ∷ 730000 ∷ 5 ∷ 100 ∷ 100 ∷ 1 ∷ 0 ∷ [])
    -- a client has nothing to save here, so that no price may stand
    ∷ proposal_by client "a client's unpaired, at a participant's prices" (bond_and_coupon US USD none) (5840 ∷ 0 ∷ []) [] (17 ∷ 0 ∷ 0 ∷ [])
    ∷ []

unfoldable pub books_of_company : List Case
books_of_company =
    proposal "a participant's line of a corporation" (bond_and_coupon K1 CAD Y) (10220 ∷ 0 ∷ []) (line 0 1 100 ∷ []) (0 ∷ 1533000 ∷ 11 ∷ 0 ∷ 0 ∷ 0 ∷ 1 ∷ [])
    ∷ proposal "a participant's unpaired, of a corporation" (bond_and_coupon K1 CAD Y) (0 ∷ 0 ∷ []) [] (16 ∷ 0 ∷ 1 ∷ [])
    ∷ proposal_by client "a client's line of a corporation" (bond_and_coupon K1 CAD Y) (10220 ∷ 0 ∷ []) (line 0 1 100 ∷ []) (13 ∷ 0 ∷ 0 ∷ [])
    ∷ proposal_by client "a client's unpaired, of a corporation" (bond_and_coupon K1 CAD Y) (0 ∷ 0 ∷ []) [] (0 ∷ 2555000 ∷ 18 ∷ 100 ∷ 100 ∷ 1 ∷ 0 ∷ [])
    ∷ []

-- and from the bytes that a host lends
unfoldable pub exported_books : List Case
exported_books =
    exported participant "a participant's columns, with a line in USD" (bond_and_coupon US USD none) (5840 ∷ 0 ∷ []) (line 0 1 100 ∷ []) (0 ∷ 146000 ∷ 1 ∷ [])
    ∷ exported client "a client's columns, with a line in USD" (bond_and_coupon US USD none) (5840 ∷ 0 ∷ []) (line 0 1 100 ∷ []) (13 ∷ 0 ∷ 0 ∷ [])
    ∷ exported client "a client's columns, unpaired" (bond_and_coupon US USD none) (0 ∷ 0 ∷ []) [] (0 ∷ 730000 ∷ 5 ∷ [])
    ∷ []

-- and by paragraph 2 they have one margin
unfoldable pub books_in_cad : List Case
books_in_cad =
    proposal "a participant's line in CAD" (bond_and_coupon CA CAD none) (5840 ∷ 0 ∷ []) (line 0 1 100 ∷ []) (0 ∷ 146000 ∷ 1 ∷ 0 ∷ 0 ∷ 0 ∷ 1 ∷ [])
    ∷ proposal_by client "a client's line in CAD" (bond_and_coupon CA CAD none) (5840 ∷ 0 ∷ []) (line 0 1 100 ∷ []) (0 ∷ 146000 ∷ 1 ∷ 0 ∷ 0 ∷ 0 ∷ 1 ∷ [])
    ∷ proposal_by client "a client's unpaired, in CAD" (bond_and_coupon CA CAD none) (0 ∷ 0 ∷ []) [] (16 ∷ 0 ∷ 1 ∷ [])
    ∷ []

-- the file's book with a US bond and coupon in USD and a bond and a coupon of a corporation; its lines with one on each of these pairs, and prices that cover all
abbrev desk : List Row
desk =
    file
    ++ (of USD (row L B US 20300624 500000)
    ∷ of USD (row S C US 20300624 800000)
    ∷ rated Y (row L B K1 20300624 500000)
    ∷ rated N (row S C K1 20300624 800000)
    ∷ [])

abbrev desk_lines : List Line
desk_lines = file_lines 600000 ++ (line 3 4 500000 ∷ line 5 6 500000 ∷ [])

abbrev desk_prices : List ℕ
desk_prices = 0 ∷ 5840 ∷ 6570 ∷ 5840 ∷ 0 ∷ 10220 ∷ 0 ∷ []

-- a client's least margin is the least over the pairs of paragraph 2, with prices that cover these
abbrev client_prices : List ℕ
client_prices = 0 ∷ 5840 ∷ 6570 ∷ 0 ∷ 0 ∷ 0 ∷ 0 ∷ []

unfoldable pub client_least : List Case
client_least =
    proposal_by client "a client's least, by paragraph 2" desk client_prices (file_lines 600000)
    (0 ∷ 25623000000 ∷ 175500 ∷ 100000 ∷ 0 ∷ 0 ∷ 500000 ∷ 800000 ∷ 500000 ∷ 800000 ∷ 6 ∷ 5 ∷ 4 ∷ 3 ∷ 0 ∷ 1 ∷ 2 ∷ [])
    ∷ []

unfoldable pub client_not_least : List Case
client_not_least =
    proposal_by client "a client's, with one pair of paragraph 2 left out" desk client_prices (line 0 1 600000 ∷ []) (17 ∷ 0 ∷ 0 ∷ [])
    ∷ proposal_by client "a client's, with a participant's lines" desk desk_prices desk_lines (13 ∷ 2 ∷ 0 ∷ [])
    ∷ []

unfoldable pub dearer_prices : List Case
dearer_prices =
    proposal_by client "a client's, at a participant's prices" desk desk_prices (file_lines 600000) (17 ∷ 0 ∷ 0 ∷ [])
    ∷ []

-- a participant's is the least over all three paragraphs
unfoldable pub participant_least : List Case
participant_least =
    proposal "a participant's least, by all three" desk desk_prices desk_lines
    (0 ∷ 17593000000 ∷ 120500 ∷ 100000 ∷ 0 ∷ 0 ∷ 0 ∷ 300000 ∷ 0 ∷ 300000 ∷ 6 ∷ 4 ∷ 0 ∷ 1 ∷ 2 ∷ 3 ∷ 5 ∷ [])
    ∷ []

unfoldable pub at_client_prices : List Case
at_client_prices =
    proposal "a participant's, at a client's prices" desk client_prices (file_lines 600000) (16 ∷ 3 ∷ 4 ∷ [])
    ∷ []

-- a pair of paragraph 4, of 3 and of 2
abbrev each_paragraph : List Row
each_paragraph = bond_and_coupon US USD none ++ bond_and_coupon K1 CAD Y ++ bond_and_coupon CA CAD none

-- of the uncovered pairs that of the lowest long, among those that the account may have
unfoldable pub lowest_uncovered : List Case
lowest_uncovered =
    proposal "a participant's, in USD" each_paragraph (replicate 6 0) [] (16 ∷ 0 ∷ 1 ∷ [])
    ∷ proposal "a participant's, of a corporation" each_paragraph (5840 ∷ replicate 5 0) [] (16 ∷ 2 ∷ 3 ∷ [])
    ∷ proposal_by client "a client's, in CAD" each_paragraph (replicate 6 0) [] (16 ∷ 4 ∷ 5 ∷ [])
    ∷ []

-- the third field of a D: `P` or `C`; any other text is 21
unfoldable pub account_texts : List Case
account_texts =
    code "the letters of an account" Account ("P" ∷ "C" ∷ []) (0 ∷ 1 ∷ [])
    ∷ refuses "texts that are none" Account
    ("" ∷ "p" ∷ "c" ∷ "PC" ∷ "CP" ∷ "PP" ∷ "X" ∷ "A" ∷ "D" ∷ "H" ∷ "R" ∷ "0" ∷ "1" ∷ "2" ∷ " " ∷ " P"
    ∷ "P " ∷ "C " ∷ " C" ∷ "CA" ∷ "\"P\"" ∷ "Participant" ∷ [])
    (replicate 22 21)
    ∷ meanings "a D of each letter" (map (λ letter. "D" ∷ "2025-01-01" ∷ letter ∷ replicate 6 "") ("P" ∷ "C" ∷ []))
    (flat_map (λ n. 0 ∷ 20250101 ∷ n ∷ replicate 8 0) (0 ∷ 1 ∷ []))
    ∷ records "a D of another letter" (map (λ letter. map ascii ("D" ∷ "2025-01-01" ∷ letter ∷ replicate 6 "")) ("" ∷ "c" ∷ "PC" ∷ "X" ∷ "1" ∷ "P " ∷ [])) 21
    ∷ records "a client's D with a further field filled"
    (map (λ j. set (map ascii ("D" ∷ "2025-01-01" ∷ "C" ∷ replicate 6 "")) j (ascii "C")) (3 ∷ 4 ∷ 5 ∷ 6 ∷ 7 ∷ 8 ∷ [])) 21
    ∷ records "a D whose letter is in another field" (map ascii ("D" ∷ "C" ∷ "2025-01-01" ∷ replicate 6 "") ∷ map ascii ("D" ∷ "2025-01-01" ∷ "" ∷ "C" ∷ replicate 5 "") ∷ []) 21
    ∷ []

-- a client's D
abbrev DC : List ℕ
DC = D_by "2025-01-01" "C"

-- from the bytes of a file to the bytes that are printed
unfoldable pub account_record : List Case
account_record =
    prints "a client's D alone" DC "M,0,0\r\n"
    ∷ prints "C in quotes, without CRLF" (unended (D_by "2025-01-01" "\"C\"")) "M,0,0\r\n"
    ∷ prints "P in quotes" (D_by "\"2025-01-01\"" "\"P\"") "M,0,0\r\n"
    ∷ prints "no letter" (D_by "2025-01-01" "") "X,21,0,0\r\n"
    ∷ prints "a letter in quotes that is empty" (D_by "2025-01-01" "\"\"") "X,21,0,0\r\n"
    ∷ prints "a small letter" (D_by "2025-01-01" "p") "X,21,0,0\r\n"
    ∷ prints "two letters" (D_by "2025-01-01" "PC") "X,21,0,0\r\n"
    ∷ prints "another letter" (D_by "2025-01-01" "X") "X,21,0,0\r\n"
    ∷ prints "a letter by its number" (D_by "2025-01-01" "0") "X,21,0,0\r\n"
    ∷ prints "a space before the letter" (D_by "2025-01-01" " P") "X,21,0,0\r\n"
    ∷ prints "a space after the letter" (D_by "2025-01-01" "P ") "X,21,0,0\r\n"
    ∷ prints "a fourth field of D that is filled" (ascii "D,2025-01-01,C,P,,,,,\r\n") "X,21,0,0\r\n"
    ∷ []

-- the order of a D's refusals: 19, 20, 21, 22
unfoldable pub account_order : List Case
account_order =
    prints "19 before a letter that is none" (unended (D_by "2025-01-01" "X") ++ ascii "\n") "X,19,0,0\r\n"
    ∷ prints "20 before a letter that is none" (ascii "D,2025-01-01,X,,,,,\r\n") "X,20,0,0\r\n"
    ∷ prints "a D of two fields" (ascii "D,2025-01-01\r\n") "X,20,0,0\r\n"
    ∷ prints "a second D, of the other letter" (D ++ DC) "X,22,1,0\r\n"
    ∷ prints "a letter that is none in a second D, before 22" (DC ++ D_by "2025-01-01" "X") "X,21,1,0\r\n"
    ∷ prints "a letter that is none before a record out of order" (D_by "2025-01-01" "" ++ D) "X,21,0,0\r\n"
    ∷ prints "24 on a client's valuation date" (D_by "2025-02-30" "C") "X,24,0,0\r\n"
    ∷ prints "no letter before 24 on the valuation date" (D_by "2025-02-30" "") "X,21,0,0\r\n"
    ∷ []

-- a client's file of one holding and one line
abbrev text : List ℕ
text = DC ++ H_in "USD" "S,R,MB,2025-01-02,5,6" ++ P "8,9,10"

-- the exported reader's head list: the date, and after it the letter; a longer list keeps the rest
unfoldable pub head_two : List Case
head_two =
    received "a client's letter in the second entry" text (replicate 16 9) 16 ((245 ∷ 253 ∷ 52 ∷ 1 ∷ 0 ∷ 0 ∷ 0 ∷ 0 ∷ 1 ∷ replicate 7 0) ++ entered)
    ∷ received "a client's D alone, into a longer list" DC (replicate 27 9) 16 ((245 ∷ 253 ∷ 52 ∷ 1 ∷ 0 ∷ 0 ∷ 0 ∷ 0 ∷ 1 ∷ replicate 7 0) ++ replicate 11 9 ++ untouched)
    ∷ []

-- a refusal leaves it as it was
unfoldable pub head_two_kept : List Case
head_two_kept =
    received "a list of 15 bytes" text (replicate 15 9) 16 (replicate 15 9 ++ untouched)
    ∷ received "a list of one entry" DC (replicate 8 9) 16 (replicate 8 9 ++ untouched)
    ∷ received "a letter that is none" (D_by "2025-01-01" "X") (replicate 16 9) 16 (replicate 16 9 ++ untouched)
    ∷ received "a letter that is none in a second D" (DC ++ D_by "2025-01-01" "") (replicate 16 9) 16 (replicate 16 9 ++ untouched)
    ∷ answers "a client's D alone, and a list of 15 bytes" ([] ∷ []) DC 15 16 (2 ∷ 0 ∷ 0 ∷ [])
    ∷ answers "a client's D alone, and a list of 16 bytes" ([] ∷ []) DC 16 16 (0 ∷ 0 ∷ 0 ∷ [])
    ∷ answers "a letter that is none before a list that is too short" ([] ∷ []) (D_by "2025-01-01" "X") 15 16 (21 ∷ 0 ∷ 0 ∷ [])
    ∷ []

-- files of a client, from their bytes to the bytes that are printed: that of document 01
unfoldable pub client_worked : List Case
client_worked =
    prints
    "document 01's file of a client"
    (DC ++ H "L,C,CA,2030-06-24,1000000,0" ++ H "S,B,CA,2030-06-24,600000,5840" ++ H "S,R,ON,2030-06-24,300000,6570" ++ P "0,1,600000" ++ P "0,2,300000")
    "M,3285000000,22500\r\nR,0,100000,438000000\r\nR,1,0,0\r\nR,2,0,0\r\n"
    ∷ []

-- a pair of paragraph 2 beside a bond and a coupon in USD, which stay unpaired
abbrev client_holdings : List ℕ
client_holdings = H "L,C,CA,2025-01-02,1,0" ++ H "S,B,CA,2025-01-02,1,8" ++ H_in "USD" "L,B,US,2025-01-02,1,0" ++ H_in "USD" "S,C,US,2025-01-02,2,0"

unfoldable pub client_file : List Case
client_file =
    prints "a client's file with a pair of paragraph 2" (DC ++ client_holdings ++ P "0,1,1") "M,18,1\r\nR,3,2,12\r\nR,2,1,4\r\nR,0,0,0\r\nR,1,0,0\r\n"
    ∷ []

unfoldable pub client_line : List Case
client_line =
    prints "a client's file with a line in USD, at line 1" (DC ++ client_holdings ++ P "0,1,1" ++ P "2,3,1") "X,13,1,0\r\n"
    ∷ []

unfoldable pub participant_file : List Case
participant_file =
    prints "a participant's file without it" (D ++ client_holdings ++ P "0,1,1") "X,16,2,3\r\n"
    ∷ []

unfoldable pub client_hedge : List Case
client_hedge =
    prints "a client's file with a line in USD" (DC ++ H_in "USD" "L,B,US,2025-01-02,1,8" ++ H_in "USD" "S,C,US,2025-01-02,1,0" ++ P "0,1,1") "X,13,0,0\r\n"
    ∷ []

unfoldable pub client_corporation : List Case
client_corporation =
    prints
    "a client's file with a line of a corporation"
    (DC ++ H_rated "Y" "L,B,5493001KJTIIGC8Y1R12,2025-01-02,1,4380" ++ H_rated "N" "S,C,5493001KJTIIGC8Y1R12,2025-01-02,1,0" ++ P "0,1,1")
    "X,13,0,0\r\n"
    ∷ []
