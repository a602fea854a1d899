-- Document 02 d), "Corporate strips": the rates of Group V, the pairs of paragraph 3 and what stays unpaired, ratings and issuers in the check, proposals,
-- LEIs and their numbers, and files. Assumes nothing.
use mathlib.Core.List.{List, [], ◌∷◌, ◌++◌, map, flat_map}
use Prim.Native.Nat.{ℕ, ◌+◌}
use Prim.Native.String.{String}
use lib.ListN.{replicate, set, take}
use Rattle.lists.specs.Tables.{ascii, list_to}
use Rattle.holding.specs.declared.Row.{Row}
use Rattle.pairing.specs.declared.Line.{Line}
use Rattle.layout.specs.Layout.{Meaning, good, refused}
use Rattle.layout.specs.declared.Sort.TheVariants.{Issuer, Rating}
use Rattle.edges.proofs.Cases.{Case, rates, rates_on, fault, faults, kept, pairs, no_pair, no_pairs, proposal, prints, record_case, code, refuses, records}
use Rattle.edges.proofs.Cases.{remainders, keys, writes, meanings, parsed_issuers, issued, holding_records, received, names, D, H, H_by, H_rated, P, unended, new_year}
use Rattle.edges.proofs.Cases.{line, row, of, rated, L, S, B, C, R, CA, ON, US, GB, CAD, USD, GBP, Y, N, none, file, file_lines}

-- three corporations by their numbers: the first, the second, the last
abbrev pub K1 : ℕ
K1 = 100

abbrev K2 : ℕ
K2 = 101

abbrev K256 : ℕ
K256 = 355

-- kind, corporation, currency and rating with the first and the last day of each period, and of 20 years and 100
abbrev terms : ℕ → ℕ → ℕ → ℕ → List Row
terms kind issuer currency rating =
    map
    (λ maturity. rated rating (of currency (row L kind issuer maturity 100)))
    (20250102 ∷ 20260101 ∷ 20260102 ∷ 20280101 ∷ 20280102 ∷ 20320101 ∷ 20320102 ∷ 20360101 ∷ 20360102 ∷ 20441231 ∷ 20450101 ∷ 21250101 ∷ [])

abbrev bond_rates : List ℕ
bond_rates = 4380 ∷ 4380 ∷ 8760 ∷ 8760 ∷ 10220 ∷ 10220 ∷ replicate 6 14600

abbrev strip_rates : List ℕ
strip_rates = 6570 ∷ 6570 ∷ 13140 ∷ 13140 ∷ 15330 ∷ 15330 ∷ 21900 ∷ 21900 ∷ 21900 ∷ 21900 ∷ 43800 ∷ 43800 ∷ []

-- Group V, with no days fraction: one rate for a day and for a year; the corporation, the currency and the rating change no rate
unfoldable pub group_five : List Case
group_five =
    rates "bonds of a corporation" (terms B K1 CAD Y) bond_rates
    ∷ rates "coupons of a corporation" (terms C K1 CAD Y) strip_rates
    ∷ rates "residuals of a corporation" (terms R K1 CAD N) strip_rates
    ∷ rates "bonds of the last corporation in USD, rated lower" (terms B K256 USD N) bond_rates
    ∷ rates "residuals of the last corporation in GBP" (terms R K256 GBP Y) strip_rates
    ∷ rates_on 20240115 "a year of 366 days, and the day after" (map (λ m. rated Y (row L B K1 m 100)) (20250115 ∷ 20250116 ∷ [])) (4380 ∷ 8760 ∷ [])
    ∷ rates_on 20240115 "a strip of 366 days, and of half a year" (map (λ m. rated N (row L C K1 m 100)) (20250115 ∷ 20240715 ∷ [])) (6570 ∷ 6570 ∷ [])
    ∷ []

-- a bond rated Y and a strip of either rating, of one corporation, by their maturities: the bond long and the strip short, and the other way round
abbrev hedge : ℕ → ℕ → ℕ → List (Row × Row)
hedge issuer bond strip =
    flat_map
    (λ (k : ℕ × ℕ).
    (rated Y (row L B issuer bond 100), rated k.1 (row S k.0 issuer strip 100))
    ∷ (rated k.1 (row L k.0 issuer strip 100), rated Y (row S B issuer bond 100))
    ∷ [])
    ((C, Y) ∷ (C, N) ∷ (R, Y) ∷ (R, N) ∷ [])

-- one bond with one strip of the same corporation in one period, the bond rated Y, at the greater rate
unfoldable pub hedges : List Case
hedges =
    pairs "bond and strip of a corporation, period 1" (hedge K1 20250102 20250102) 6570 4380
    ∷ pairs "period 2" (hedge K1 20270928 20270928) 13140 8760
    ∷ []

unfoldable pub longer_hedges : List Case
longer_hedges =
    pairs "period 3" (hedge K1 20300624 20300624) 15330 10220
    ∷ pairs "period 4" (hedge K1 20330320 20330320) 21900 14600
    ∷ []

-- or at 29,200, if that is less: for a strip from 20 years
unfoldable pub capped : List Case
capped =
    pairs "period 5, a strip from 20 years" (hedge K1 20441231 20450101) 29200 29200
    ∷ pairs "bond and strip from 20 years" (hedge K256 21250101 21250101) 29200 29200
    ∷ []

unfoldable pub below_cap : List Case
below_cap =
    pairs "period 5, below 20 years" (hedge K256 20441231 20441231) 21900 14600
    ∷ pairs "a bond from 20 years and a strip below" (hedge K1 20450101 20441231) 21900 14600
    ∷ []

-- two maturities of one period, at both of its ends
unfoldable pub hedge_ends : List Case
hedge_ends =
    pairs "a bond of a year and a strip of a day" (hedge K1 20260101 20250102) 6570 4380
    ∷ pairs "a bond of a day and a strip of a year" (hedge K1 20250102 20260101) 6570 4380
    ∷ []

-- a long and a short of 2,000 days: kind, issuer, currency, rating
abbrev pub long : ℕ → ℕ → ℕ → ℕ → Row
long kind issuer currency rating = rated rating (of currency (row L kind issuer 20300624 100))

abbrev pub short : ℕ → ℕ → ℕ → ℕ → Row
short kind issuer currency rating = rated rating (of currency (row S kind issuer 20300624 100))

-- a bond rated Y of one issuer and a strip of another in CAD, both ways round: the ratings are those of the issuers
abbrev across : ℕ → ℕ → ℕ → ℕ → List (Row × Row)
across issuer rating other its =
    (long B issuer CAD rating, short C other CAD its)
    ∷ (long C issuer CAD rating, short B other CAD its)
    ∷ (long B other CAD its, short R issuer CAD rating)
    ∷ (long R other CAD its, short B issuer CAD rating)
    ∷ []

-- the bond's rating counts, whatever the strip's is
unfoldable pub rated_lower : List Case
rated_lower =
    no_pairs "a bond rated N with a strip rated Y" ((long B K1 CAD N, short C K1 CAD Y) ∷ (long R K1 CAD Y, short B K1 CAD N) ∷ [])
    ∷ no_pairs "a bond rated N with a strip rated N" ((long B K1 CAD N, short R K1 CAD N) ∷ (long C K1 CAD N, short B K1 CAD N) ∷ [])
    ∷ []

-- two strips or two bonds
unfoldable pub same_kinds : List Case
same_kinds =
    no_pairs "strip with strip of a corporation"
    ((long C K1 CAD Y, short C K1 CAD Y) ∷ (long C K1 CAD Y, short R K1 CAD N) ∷ (long R K1 CAD Y, short C K1 CAD Y) ∷ (long R K1 CAD N, short R K1 CAD Y) ∷ [])
    ∷ no_pairs "bond with bond of a corporation" ((long B K1 CAD Y, short B K1 CAD Y) ∷ (long B K1 CAD Y, short B K1 CAD N) ∷ [])
    ∷ []

-- two corporations
unfoldable pub two_corporations : List Case
two_corporations =
    no_pairs "two corporations" (across K1 Y K2 Y)
    ∷ no_pairs "the first corporation and the last" (across K1 Y K256 Y)
    ∷ no_pairs "strip with strip, and bond with bond, of two corporations" ((long C K1 CAD Y, short R K2 CAD Y) ∷ (long B K1 CAD Y, short B K2 CAD Y) ∷ [])
    ∷ []

-- a corporation and a government, each way round
unfoldable pub corporation_and_canada : List Case
corporation_and_canada =
    no_pairs "a corporation and Canada, a bond and a strip" (across K1 Y CA none)
    ∷ no_pairs "a corporation and Canada, two strips" ((long C K1 CAD Y, short R CA CAD none) ∷ (long C CA CAD none, short R K1 CAD Y) ∷ [])
    ∷ []

unfoldable pub corporation_and_province : List Case
corporation_and_province =
    no_pairs "a corporation and a province, a bond and a strip" (across K1 Y ON none)
    ∷ no_pairs "a corporation and a province, two strips" ((long C K1 CAD Y, short R ON CAD none) ∷ (long C ON CAD none, short R K1 CAD Y) ∷ [])
    ∷ []

unfoldable pub corporation_abroad : List Case
corporation_abroad =
    no_pairs "a corporation and US" ((long B K1 CAD Y, short C US CAD none) ∷ (long C US CAD none, short B K1 CAD Y) ∷ (long B US CAD none, short R K1 CAD Y) ∷ [])
    ∷ no_pairs "a corporation and GB" ((long C K1 CAD Y, short B GB CAD none) ∷ (long C GB CAD none, short B K1 CAD Y) ∷ (long R K1 CAD Y, short B GB CAD none) ∷ [])
    ∷ []

-- a corporation in foreign currency, or in two
unfoldable pub corporation_in_usd : List Case
corporation_in_usd =
    no_pairs "a corporation in USD" ((long B K1 USD Y, short C K1 USD Y) ∷ (long R K1 USD Y, short B K1 USD Y) ∷ [])
    ∷ no_pairs "a corporation in GBP" ((long B K1 GBP Y, short R K1 GBP N) ∷ (long C K1 GBP Y, short B K1 GBP Y) ∷ [])
    ∷ no_pairs "a corporation in CAD and in USD" ((long B K1 CAD Y, short C K1 USD Y) ∷ (long B K1 USD Y, short C K1 CAD Y) ∷ [])
    ∷ []

unfoldable pub corporation_in_gbp : List Case
corporation_in_gbp =
    no_pairs "a corporation in CAD and in GBP" ((long C K1 CAD Y, short B K1 GBP Y) ∷ (long R K1 GBP Y, short B K1 CAD Y) ∷ [])
    ∷ no_pairs "a corporation and a government in USD" ((long B K1 USD Y, short C CA USD none) ∷ (long C US USD none, short B K1 USD Y) ∷ [])
    ∷ []

-- two periods, or the legs the wrong way round
unfoldable pub corporate_periods : List Case
corporate_periods =
    no_pairs "the last day of a period and the first of the next"
    ((rated Y (row L B K1 20260101 100), rated Y (row S C K1 20260102 100))
    ∷ (rated Y (row L R K1 20280102 100), rated Y (row S B K1 20280101 100))
    ∷ (rated Y (row L B K1 20320101 100), rated Y (row S R K1 20320102 100))
    ∷ (rated Y (row L C K1 20360102 100), rated Y (row S B K1 20360101 100))
    ∷ [])
    ∷ no_pair "a corporation's legs the wrong way round" (short B K1 CAD Y) (long C K1 CAD Y) 13
    ∷ no_pair "a strip without a rating" (long B K1 CAD Y) (short C K1 CAD none) 25
    ∷ []

-- the check: 6 an issuer that is none, and 25 a rating that is none, that a corporation lacks or that a government has; 25 after 23
unfoldable pub rating_faults : List Case
rating_faults =
    faults "issuers 12, 13, 99, 100, 355 and 356, without a rating" (map (λ i. row L B i 20300624 100) (12 ∷ 13 ∷ 99 ∷ 100 ∷ 355 ∷ 356 ∷ []))
    (0 ∷ 2920 ∷ 6 ∷ 6 ∷ 25 ∷ 25 ∷ 6 ∷ [])
    ∷ faults "and with one" (map (λ i. rated Y (row L B i 20300624 100)) (12 ∷ 13 ∷ 99 ∷ 100 ∷ 355 ∷ 356 ∷ [])) (25 ∷ 6 ∷ 6 ∷ 0 ∷ 10220 ∷ 0 ∷ 10220 ∷ 6 ∷ [])
    ∷ faults "issuers that are none" (map (λ i. row L B i 20300624 100) (50 ∷ 455 ∷ 612 ∷ 100000 ∷ 4294967396 ∷ 18446744073709551615 ∷ [])) (replicate 6 6)
    ∷ faults "ratings of a corporation" (map (λ k. rated k (row L C K1 20300624 100)) (0 ∷ 1 ∷ 2 ∷ 3 ∷ 4 ∷ 256 ∷ 18446744073709551615 ∷ []))
    (0 ∷ 15330 ∷ 0 ∷ 15330 ∷ 25 ∷ 25 ∷ 25 ∷ 25 ∷ 25 ∷ [])
    ∷ faults "ratings of Canada" (map (λ k. rated k (row L C CA 20300624 100)) (0 ∷ 1 ∷ 2 ∷ 3 ∷ 4 ∷ 18446744073709551615 ∷ [])) (25 ∷ 25 ∷ 0 ∷ 4380 ∷ 25 ∷ 25 ∷ 25 ∷ [])
    ∷ faults "a rating on each government" (map (λ i. rated Y (row L B i 20300624 100)) (list_to 13 (λ i. i))) (replicate 13 25)
    ∷ faults "a lower rating on each government" (map (λ i. rated N (row L B i 20300624 100)) (list_to 13 (λ i. i))) (replicate 13 25)
    ∷ faults "a rating on a government in USD and in GBP" (map (λ c. rated Y (of c (row L B US 20300624 100))) (1 ∷ 2 ∷ [])) (25 ∷ 25 ∷ [])
    ∷ kept "records of each issuer and each rating have their numbers"
    (rated Y (of USD (row S B K1 20300624 5)) ∷ rated N (of GBP (row L R K256 20300624 7)) ∷ rated Y (row S C K2 20300624 9) ∷ row L C ON 20300624 3 ∷ of USD (row L B US 20300624 4) ∷ [])
    ∷ fault "issuer before rating" (rated 3 (row L B 13 20300624 1)) 6
    ∷ fault "a maturity that is no date before rating" (rated 3 (row L B K1 20250230 1)) 24
    ∷ fault "a holding that has matured before rating" (row L B K1 20250101 1) 7
    ∷ fault "value before rating" (rated Y (row L B CA 20300624 0)) 8
    ∷ fault "currency before rating" (rated 3 (of 3 (row L B K1 20300624 1))) 23
    ∷ fault "currency before a rating on a government" (rated Y (of 3 (row L B CA 20300624 1))) 23
    ∷ []

-- with its place: before 10, the next holding, lines
unfoldable pub rating_places : List Case
rating_places =
    proposal "25 before 10, at holding 1, and before lines" (long B K1 CAD Y ∷ short C K1 CAD none ∷ []) (0 ∷ 43801 ∷ []) (line 0 2 1 ∷ []) (25 ∷ 1 ∷ 0 ∷ [])
    ∷ proposal "25 before 4 of the next holding" (long B CA CAD Y ∷ row 2 B CA 20300624 100 ∷ []) (0 ∷ 0 ∷ []) [] (25 ∷ 0 ∷ 0 ∷ [])
    ∷ proposal "10 before 25 of the next holding" (long B K1 CAD Y ∷ short C K1 CAD 3 ∷ []) (43801 ∷ 0 ∷ []) [] (10 ∷ 0 ∷ 0 ∷ [])
    ∷ proposal "23 before 25 at holding 2" (long B K1 CAD Y ∷ short C K1 CAD Y ∷ short C K1 3 3 ∷ []) (0 ∷ 0 ∷ 0 ∷ []) [] (23 ∷ 2 ∷ 0 ∷ [])
    ∷ proposal "13 on a line to another corporation, at line 1" (long B K1 CAD Y ∷ short C K1 CAD N ∷ short C K2 CAD Y ∷ []) (10220 ∷ 0 ∷ 0 ∷ []) (line 0 1 1 ∷ line 0 2 1 ∷ [])
    (13 ∷ 1 ∷ 0 ∷ [])
    ∷ proposal "15 on a line of a corporation" (long B K1 CAD Y ∷ short C K1 CAD N ∷ []) (10220 ∷ 0 ∷ []) (line 0 1 101 ∷ []) (15 ∷ 0 ∷ 0 ∷ [])
    ∷ []

-- the file's book with a bond and a coupon of one corporation and a residual and a bond of another, and its lines with one on each of these pairs
abbrev desk : List Row
desk =
    file
    ++ (rated Y (row L B K1 20300624 500000)
    ∷ rated N (row S C K1 20300624 800000)
    ∷ rated N (row L R K2 20461127 400000)
    ∷ rated Y (row S B K2 20380910 100000)
    ∷ [])

abbrev desk_lines : List Line
desk_lines = file_lines 600000 ++ (line 3 4 500000 ∷ line 5 6 100000 ∷ [])

-- a corporate pair enters the least margin like any other
unfoldable pub three_paragraphs : List Case
three_paragraphs =
    proposal "paragraphs 2 and 3 together" desk (0 ∷ 5840 ∷ 6570 ∷ 10220 ∷ 0 ∷ 0 ∷ 29200 ∷ []) desk_lines
    (0 ∷ 31609000000 ∷ 216500 ∷ 100000 ∷ 0 ∷ 0 ∷ 0 ∷ 300000 ∷ 300000 ∷ 0 ∷ 5 ∷ 4 ∷ 0 ∷ 1 ∷ 2 ∷ 3 ∷ 6 ∷ [])
    ∷ []

unfoldable pub without_paragraph3 : List Case
without_paragraph3 =
    proposal "pairs of paragraph 2 alone, a corporate pair not covered" desk (0 ∷ 5840 ∷ 6570 ∷ 0 ∷ 0 ∷ 0 ∷ 0 ∷ []) (file_lines 600000) (16 ∷ 3 ∷ 4 ∷ [])
    ∷ proposal "pairs of paragraph 2 alone, all pairs covered" desk (0 ∷ 5840 ∷ 6570 ∷ 10220 ∷ 0 ∷ 0 ∷ 29200 ∷ []) (file_lines 600000) (17 ∷ 0 ∷ 0 ∷ [])
    ∷ []

-- one bond and two strips, below 20 years and from 20 years
abbrev two_strips : ℕ → List Row
two_strips value = rated Y (row L B K1 20380910 1000) ∷ rated N (row S C K1 20380910 1000) ∷ rated N (row S R K1 20461127 value) ∷ []

unfoldable pub hedged_books : List Case
hedged_books =
    proposal "the bond with the strip from 20 years" (two_strips 1000) (29200 ∷ 0 ∷ 0 ∷ []) (line 0 2 1000 ∷ []) (0 ∷ 51100000 ∷ 350 ∷ 0 ∷ 1000 ∷ 0 ∷ 1 ∷ 0 ∷ 2 ∷ [])
    ∷ proposal "the bond with the strip below 20 years is not the least" (two_strips 1000) (29200 ∷ 0 ∷ 0 ∷ []) (line 0 1 1000 ∷ []) (17 ∷ 0 ∷ 0 ∷ [])
    ∷ proposal "the bond with both" (two_strips 400) (14600 ∷ 0 ∷ 14600 ∷ []) (line 0 1 600 ∷ line 0 2 400 ∷ []) (0 ∷ 33580000 ∷ 230 ∷ 0 ∷ 400 ∷ 0 ∷ 1 ∷ 0 ∷ 2 ∷ [])
    ∷ []

-- and at other prices
unfoldable pub hedge_prices : List Case
hedge_prices =
    proposal "a capped pair a unit short of cover" (two_strips 400) (14600 ∷ 0 ∷ 14599 ∷ []) (line 0 1 600 ∷ line 0 2 400 ∷ []) (16 ∷ 0 ∷ 2 ∷ [])
    ∷ proposal "a pair a unit short of cover" (two_strips 400) (14599 ∷ 0 ∷ 14601 ∷ []) (line 0 1 600 ∷ line 0 2 400 ∷ []) (16 ∷ 0 ∷ 1 ∷ [])
    ∷ proposal "a pair a unit above cover" (two_strips 400) (14600 ∷ 0 ∷ 14601 ∷ []) (line 0 1 600 ∷ line 0 2 400 ∷ []) (17 ∷ 0 ∷ 0 ∷ [])
    ∷ []

unfoldable pub corporate_unpaired : List Case
corporate_unpaired =
    -- of two bonds of the corporation the strip is the rated one's
    proposal "a bond rated N beside a bond rated Y" (long B K1 CAD N ∷ long B K1 CAD Y ∷ short C K1 CAD N ∷ []) (0 ∷ 10220 ∷ 0 ∷ []) (line 1 2 100 ∷ [])
    (0 ∷ 2555000 ∷ 18 ∷ 100 ∷ 0 ∷ 0 ∷ 0 ∷ 1 ∷ 2 ∷ [])
    ∷ proposal "holdings of corporations that stay unpaired, at prices of 0"
    (long B K1 CAD N ∷ short C K1 CAD Y ∷ long B K2 CAD Y ∷ short R CA CAD none ∷ long B K256 USD Y ∷ short C K256 USD Y ∷ []) (replicate 6 0) []
    (0 ∷ 6570000 ∷ 45 ∷ (replicate 6 100 ++ (1 ∷ 5 ∷ 0 ∷ 2 ∷ 4 ∷ 3 ∷ [])))
    ∷ []

-- ISO 17442 and ISO 7064: three LEIs that are in use, and others: their remainders and their numbers
unfoldable pub leis : List Case
leis =
    remainders "LEIs in use" ("5493001KJTIIGC8Y1R12" ∷ "7ZW8QJWVPR4P1J1KQY45" ∷ "HWUPKR0MPOU8FGXBT394" ∷ []) (1 ∷ 1 ∷ 1 ∷ [])
    ∷ remainders "damaged: a check digit, two exchanged, a character, two exchanged"
    ("5493001KJTIIGC8Y1R13" ∷ "5493001KJTIIGC8Y1R21" ∷ "5493001KJTIIGC8Y1S12" ∷ "5493001JKTIIGC8Y1R12" ∷ []) (2 ∷ 10 ∷ 4 ∷ 17 ∷ [])
    ∷ remainders "each digit and each capital by itself"
    ("0" ∷ "1" ∷ "2" ∷ "3" ∷ "4" ∷ "5" ∷ "6" ∷ "7" ∷ "8" ∷ "9" ∷ "A" ∷ "B" ∷ "C" ∷ "D" ∷ "E" ∷ "F" ∷ "G" ∷ "H" ∷ "I" ∷ "J" ∷ "K" ∷ "L" ∷ "M"
    ∷ "N" ∷ "O" ∷ "P" ∷ "Q" ∷ "R" ∷ "S" ∷ "T" ∷ "U" ∷ "V" ∷ "W" ∷ "X" ∷ "Y" ∷ "Z" ∷ []) (list_to 36 (λ k. k))
    ∷ remainders "a digit or a capital behind another" ("10" ∷ "99" ∷ "1A" ∷ "A1" ∷ "AA" ∷ "ZZ" ∷ "100" ∷ "" ∷ []) (10 ∷ 2 ∷ 13 ∷ 4 ∷ 40 ∷ 43 ∷ 3 ∷ 0 ∷ [])
    ∷ keys "an LEI as two numbers" ("5493001KJTIIGC8Y1R12" ∷ "00000000000000000001" ∷ "0000000001000000000Z" ∷ "A000000000ZZZZZZZZZZ" ∷ [])
    ((519796030869065, 1880139687297302) ∷ (0, 1) ∷ (1, 35) ∷ (1015599566684160, 3656158440062975) ∷ [])
    ∷ keys "each character" ("0123456789ABCDEFGHIJ" ∷ "KLMNOPQRSTUVWXYZ0000" ∷ []) ((2984619134745, 1047601316295595) ∷ (2092218013456445, 3136834708888320) ∷ [])
    ∷ writes "each character written" ((2984619134745, 1047601316295595) ∷ (2092218013456445, 3136834708888320) ∷ []) ("0123456789ABCDEFGHIJ" ∷ "KLMNOPQRSTUVWXYZ0000" ∷ [])
    ∷ keys "no LEI has 19 or 21 characters" ("5493001KJTIIGC8Y1R1" ∷ "5493001KJTIIGC8Y1R120" ∷ "" ∷ "CA" ∷ []) (replicate 4 (0, 0))
    ∷ writes "two numbers as a text" ((519796030869065, 1880139687297302) ∷ (0, 1) ∷ (1, 35) ∷ (36, 10) ∷ [])
    ("5493001KJTIIGC8Y1R12" ∷ "00000000000000000001" ∷ "0000000001000000000Z" ∷ "0000000010000000000A" ∷ [])
    ∷ []

-- the issuer field: an LEI is a corporation, before it is numbered; 25 another remainder, 21 another form
unfoldable pub lei_texts : List Case
lei_texts =
    code "LEIs in use" Issuer ("5493001KJTIIGC8Y1R12" ∷ "7ZW8QJWVPR4P1J1KQY45" ∷ "HWUPKR0MPOU8FGXBT394" ∷ []) (replicate 3 100)
    ∷ code "check digits 00, 01 and 99, and one that is all digits" Issuer
    ("5493001KJTIIGC8Y0Y00" ∷ "5493001KJTIIGC8Y2601" ∷ "5493001KJTIIGC8Y5899" ∷ "00000000000000000001" ∷ "ZZZZZZZZZZZZZZZZZZ40" ∷ []) (replicate 5 100)
    ∷ refuses "another remainder" Issuer
    ("5493001KJTIIGC8Y1R13" ∷ "5493001KJTIIGC8Y1R21" ∷ "5493001KJTIIGC8Y1S12" ∷ "5493001JKTIIGC8Y1R12" ∷ "00000000000000000000" ∷ "99999999999999999999" ∷ []) (replicate 6 25)
    ∷ refuses "19 and 21 characters" Issuer
    ("5493001KJTIIGC8Y1R1" ∷ "493001KJTIIGC8Y1R12" ∷ "5493001KJTIIGC8Y1R120" ∷ "05493001KJTIIGC8Y1R12" ∷ "5493001KJTIIGC8Y1R12 " ∷ " 5493001KJTIIGC8Y1R12" ∷ []) (replicate 6 21)
    ∷ refuses "small letters" Issuer ("5493001KJTIIGC8Y1r12" ∷ "5493001kjtiigc8y1r12" ∷ "a493001KJTIIGC8Y1R12" ∷ "z493001KJTIIGC8Y1R12" ∷ []) (replicate 4 21)
    ∷ refuses "a letter in the check digits" Issuer ("5493001KJTIIGC8Y1RA2" ∷ "5493001KJTIIGC8Y1R1A" ∷ "5493001KJTIIGC8Y1RZZ" ∷ []) (replicate 3 21)
    ∷ refuses "another character" Issuer
    ("5493001KJT-IGC8Y1R12" ∷ "5493 01KJTIIGC8Y1R12" ∷ "/493001KJTIIGC8Y1R12" ∷ ":493001KJTIIGC8Y1R12"
    ∷ "@493001KJTIIGC8Y1R12" ∷ "[493001KJTIIGC8Y1R12" ∷ "5493001KJTIIGC8Y1R1/" ∷ "5493001KJTIIGC8Y1R:2" ∷ []) (replicate 8 21)
    ∷ refuses "numbers of corporations, and no text" Issuer ("100" ∷ "355" ∷ "" ∷ "XX" ∷ []) (replicate 4 21)
    ∷ code "the ratings" Rating ("Y" ∷ "N" ∷ "" ∷ []) (0 ∷ 1 ∷ 2 ∷ [])
    ∷ refuses "no ratings" Rating ("y" ∷ "n" ∷ "A" ∷ "0" ∷ "1" ∷ "2" ∷ " " ∷ "YN" ∷ "Y " ∷ "YES" ∷ "NO" ∷ []) (replicate 11 21)
    ∷ []

-- the fields of an H after its letter, by its issuer and its rating; and an H of a corporation as parsed, by the two numbers of its LEI
abbrev bond : String → String → List String
bond issuer rating = "L" ∷ "B" ∷ issuer ∷ "2030-06-24" ∷ "100" ∷ "0" ∷ "CAD" ∷ rating ∷ []

abbrev corporate : ℕ → ℕ → Meaning
corporate high low = good 1 (L ∷ B ∷ 100 ∷ 20300624 ∷ 100 ∷ 0 ∷ CAD ∷ Y ∷ high ∷ low ∷ [])

abbrev government : ℕ → Meaning
government issuer = good 1 (L ∷ B ∷ issuer ∷ 20300624 ∷ 100 ∷ 0 ∷ CAD ∷ none ∷ 0 ∷ 0 ∷ [])

-- what records mean: the letter's number, a value for each field after it, and the two numbers of the issuer's LEI
unfoldable pub record_values : List Case
record_values =
    meanings "an H of a corporation, rated Y and N" (map (λ rating. "H" ∷ bond "5493001KJTIIGC8Y1R12" rating) ("Y" ∷ "N" ∷ []))
    (flat_map (λ k. 1 ∷ 0 ∷ 0 ∷ 100 ∷ 20300624 ∷ 100 ∷ 0 ∷ 0 ∷ k ∷ 519796030869065 ∷ 1880139687297302 ∷ []) (0 ∷ 1 ∷ []))
    ∷ meanings "an H of a corporation in USD" (("H" ∷ set (bond "00000000000000000001" "Y") 6 "USD") ∷ []) (1 ∷ 0 ∷ 0 ∷ 100 ∷ 20300624 ∷ 100 ∷ 0 ∷ 1 ∷ 0 ∷ 0 ∷ 1 ∷ [])
    ∷ meanings "an H of a government" (map (λ issuer. "H" ∷ bond issuer "") ("CA" ∷ "SK" ∷ "US" ∷ "GB" ∷ []))
    (flat_map (λ i. 1 ∷ 0 ∷ 0 ∷ i ∷ 20300624 ∷ 100 ∷ 0 ∷ 0 ∷ 2 ∷ 0 ∷ 0 ∷ []) (0 ∷ 10 ∷ 11 ∷ 12 ∷ []))
    ∷ meanings "a D, and a P whose amount is 100 cents"
    (("D" ∷ "2025-01-01" ∷ "P" ∷ replicate 6 "") ∷ ("P" ∷ "0" ∷ "1" ∷ "100" ∷ replicate 5 "") ∷ [])
    (0 ∷ 20250101 ∷ 0 ∷ 0 ∷ 0 ∷ 0 ∷ 0 ∷ 0 ∷ 0 ∷ 0 ∷ 0 ∷ 2 ∷ 0 ∷ 1 ∷ 100 ∷ 0 ∷ 0 ∷ 0 ∷ 0 ∷ 0 ∷ 0 ∷ 0 ∷ [])
    ∷ []

-- records H: 25 after 21, wherever in the record it stands
unfoldable pub misrated_records : List Case
misrated_records =
    holding_records "25: another remainder, with a rating or without" (map (bond "5493001KJTIIGC8Y1R13") ("Y" ∷ "N" ∷ "" ∷ [])) 25
    ∷ holding_records "25: a corporation without a rating" (bond "5493001KJTIIGC8Y1R12" "" ∷ bond "00000000000000000001" "" ∷ []) 25
    ∷ holding_records "25: its coupon, its residual or its short without a rating"
    (set (bond "5493001KJTIIGC8Y1R12" "") 1 "C" ∷ set (bond "5493001KJTIIGC8Y1R12" "") 1 "R" ∷ set (bond "5493001KJTIIGC8Y1R12" "") 0 "S" ∷ []) 25
    ∷ holding_records "25: a corporation in GBP without a rating" (set (bond "5493001KJTIIGC8Y1R12" "") 6 "GBP" ∷ []) 25
    ∷ holding_records "25: a rating on a government" (flat_map (λ issuer. bond issuer "Y" ∷ bond issuer "N" ∷ []) ("CA" ∷ "AB" ∷ "ON" ∷ "SK" ∷ "US" ∷ "GB" ∷ [])) 25
    ∷ holding_records "21 before 25 for another remainder: in each other field"
    (map (λ j. set (bond "5493001KJTIIGC8Y1R13" "Y") j "x") (0 ∷ 1 ∷ 3 ∷ 4 ∷ 5 ∷ 6 ∷ 7 ∷ [])) 21
    ∷ holding_records "21 before 25 for a missing rating: in each other field" (map (λ j. set (bond "5493001KJTIIGC8Y1R12" "") j "x") (0 ∷ 1 ∷ 2 ∷ 3 ∷ 4 ∷ 5 ∷ 6 ∷ [])) 21
    ∷ holding_records "21 before 25 for a government's rating: in each other field" (map (λ j. set (bond "CA" "Y") j "x") (0 ∷ 1 ∷ 2 ∷ 3 ∷ 4 ∷ 5 ∷ 6 ∷ [])) 21
    ∷ holding_records "20 before 25" ((bond "5493001KJTIIGC8Y1R13" "Y" ++ ("" ∷ [])) ∷ take 7 (bond "5493001KJTIIGC8Y1R13" "Y") ∷ []) 20
    ∷ records "a D or a P with its ninth field filled"
    (map (map ascii) (("D" ∷ "2025-01-01" ∷ "P" ∷ "" ∷ "" ∷ "" ∷ "" ∷ "" ∷ "Y" ∷ []) ∷ ("P" ∷ "0" ∷ "1" ∷ "1" ∷ "" ∷ "" ∷ "" ∷ "" ∷ "N" ∷ []) ∷ [])) 21
    ∷ []

-- numbers from 100 by first appearance
unfoldable pub first_appearance : List Case
first_appearance =
    parsed_issuers "corporations among governments"
    (government CA ∷ corporate 7 8 ∷ corporate 5 6 ∷ government GB ∷ corporate 7 8 ∷ corporate 3 4 ∷ corporate 5 6 ∷ corporate 3 4 ∷ [])
    (0 ∷ 2 ∷ 100 ∷ 0 ∷ 101 ∷ 0 ∷ 12 ∷ 2 ∷ 100 ∷ 0 ∷ 102 ∷ 0 ∷ 101 ∷ 0 ∷ 102 ∷ 0 ∷ [])
    ∷ parsed_issuers "LEIs alike in one half" (corporate 7 8 ∷ corporate 7 9 ∷ corporate 9 8 ∷ corporate 8 7 ∷ corporate 0 1 ∷ corporate 7 8 ∷ [])
    (100 ∷ 0 ∷ 101 ∷ 0 ∷ 102 ∷ 0 ∷ 103 ∷ 0 ∷ 104 ∷ 0 ∷ 100 ∷ 0 ∷ [])
    ∷ record_case "25 of a 257th holding" (good 0 (new_year ∷ 0 ∷ []) ∷ replicate 256 (corporate 7 8) ++ (refused 25 ∷ [])) 257 (25 ∷ 257 ∷ 0 ∷ [])
    ∷ record_case "a 257th holding of a corporation" (good 0 (new_year ∷ 0 ∷ []) ∷ replicate 257 (corporate 7 8)) 257 (3 ∷ 0 ∷ 0 ∷ [])
    ∷ []

unfoldable pub most_corporations : List Case
most_corporations =
    parsed_issuers "256 corporations" (list_to 256 (λ k. corporate k 1)) (flat_map (λ k. (100 + k) ∷ 0 ∷ []) (list_to 256 (λ k. k)))
    ∷ []

-- and from the bytes of a file, with the LEIs of the numbers in turn
unfoldable pub numbered_file : List Case
numbered_file =
    issued
    "two corporations, one of them in quotes too, and a government"
    (D ++ H_rated "Y" "L,B,7ZW8QJWVPR4P1J1KQY45,2025-01-02,1,0" ++ H "L,B,CA,2025-01-02,1,0" ++ H_rated "N" "L,C,5493001KJTIIGC8Y1R12,2025-01-02,1,0"
    ++ H_rated "\"N\"" "S,B,\"7ZW8QJWVPR4P1J1KQY45\",2025-01-02,1,0")
    (100 ∷ 0 ∷ 0 ∷ 2 ∷ 101 ∷ 1 ∷ 100 ∷ 1 ∷ [])
    ("7ZW8QJWVPR4P1J1KQY45" ∷ "5493001KJTIIGC8Y1R12" ∷ [])
    ∷ []

unfoldable pub alike_in_half : List Case
alike_in_half =
    issued
    "LEIs of the same first and of the same last ten characters"
    (D ++ H_rated "Y" "L,B,5493001KJTIIGC8Y1R12,2025-01-02,1,0" ++ H_rated "Y" "L,B,5493001KJTIIGC8Y1S09,2025-01-02,1,0"
    ++ H_rated "N" "L,C,5493001KMKIIGC8Y1R12,2025-01-02,1,0")
    (100 ∷ 0 ∷ 101 ∷ 0 ∷ 102 ∷ 1 ∷ [])
    ("5493001KJTIIGC8Y1R12" ∷ "5493001KJTIIGC8Y1S09" ∷ "5493001KMKIIGC8Y1R12" ∷ [])
    ∷ []

unfoldable pub no_corporation : List Case
no_corporation =
    issued "no corporation" (D ++ H "L,B,CA,2025-01-02,1,0") (0 ∷ 2 ∷ []) []
    ∷ []

-- what the exported reader leaves of a corporation in the columns
unfoldable pub corporate_columns : List Case
corporate_columns =
    received "a corporation's number and rating" (D ++ H_rated "N" "S,R,5493001KJTIIGC8Y1R12,2025-01-02,5,6" ++ P "8,9,10") (replicate 16 9) 16
    ((245 ∷ 253 ∷ 52 ∷ 1 ∷ replicate 12 0) ++ flat_map (λ n. n ∷ 11 ∷ []) (1 ∷ 2 ∷ 100 ∷ 20250102 ∷ 5 ∷ 0 ∷ 1 ∷ 6 ∷ 8 ∷ 9 ∷ 10 ∷ []))
    ∷ []

-- files, from their bytes to the bytes that are printed: a corporate pair, and a line that is none
unfoldable pub small_corporate_file : List Case
small_corporate_file =
    prints
    "a file with a corporate pair"
    (D ++ H_rated "Y" "L,B,5493001KJTIIGC8Y1R12,2025-01-02,1,4380" ++ H_rated "N" "S,C,\"5493001KJTIIGC8Y1R12\",2025-01-02,1,0" ++ P "0,1,1")
    "M,6570,1\r\nR,0,0,0\r\nR,1,0,0\r\n"
    ∷ []

unfoldable pub two_issuers_file : List Case
two_issuers_file =
    prints
    "a file with a line on two corporations"
    (D ++ H_rated "Y" "L,B,5493001KJTIIGC8Y1R12,2025-01-02,1,0" ++ H_rated "Y" "S,C,HWUPKR0MPOU8FGXBT394,2025-01-02,1,0" ++ P "0,1,1")
    "X,13,0,0\r\n"
    ∷ []

unfoldable pub rated_lower_file : List Case
rated_lower_file =
    prints
    "a file with a line on a bond rated N"
    (D ++ H_rated "N" "L,B,5493001KJTIIGC8Y1R12,2025-01-02,1,0" ++ H_rated "Y" "S,C,5493001KJTIIGC8Y1R12,2025-01-02,1,0" ++ P "0,1,1")
    "X,13,0,0\r\n"
    ∷ []

unfoldable pub corporate_file : List Case
corporate_file =
    prints
    "a file with two corporate pairs, from its bytes to the bytes that are printed"
    (D ++ H_rated "Y" "L,B,5493001KJTIIGC8Y1R12,2030-06-24,500000,10220" ++ H_rated "N" "S,C,5493001KJTIIGC8Y1R12,2030-06-24,800000,0"
    ++ H_rated "N" "L,R,7ZW8QJWVPR4P1J1KQY45,2046-11-27,400000,0" ++ H_rated "Y" "S,B,7ZW8QJWVPR4P1J1KQY45,2038-09-10,100000,29200" ++ P "0,1,500000" ++ P "2,3,100000")
    "M,28324000000,194000\r\nR,2,300000,13140000000\r\nR,1,300000,4599000000\r\nR,0,0,0\r\nR,3,0,0\r\n"
    ∷ []

-- each refusal at its record
unfoldable pub ninth_field : List Case
ninth_field =
    prints "another remainder, at record 2" (D ++ H "L,B,CA,2025-01-02,1,0" ++ H_rated "Y" "L,B,5493001KJTIIGC8Y1R13,2025-01-02,1,0") "X,25,2,0\r\n"
    ∷ prints "a rating missing" (D ++ H_rated "" "L,B,5493001KJTIIGC8Y1R12,2025-01-02,1,0") "X,25,1,0\r\n"
    ∷ prints "a rating on a government" (D ++ H_rated "N" "L,B,CA,2025-01-02,1,0") "X,25,1,0\r\n"
    ∷ prints "a rating on a government in USD" (D ++ H_by "USD" "Y" "L,B,US,2025-01-02,1,0") "X,25,1,0\r\n"
    ∷ prints "21 before 25" (D ++ H_rated "Y" "L,B,5493001KJTIIGC8Y1R13,2025-01-02,01,0") "X,21,1,0\r\n"
    ∷ []

-- 25 before 22, and before the next record
unfoldable pub before_order : List Case
before_order =
    prints "25 before 22, after a P" (D ++ P "0,0,1" ++ H_rated "Y" "L,B,CA,2025-01-02,1,0") "X,25,2,0\r\n"
    ∷ prints "25 before 22, without a D" (H_rated "Y" "L,B,5493001KJTIIGC8Y1R13,2025-01-02,1,0") "X,25,0,0\r\n"
    ∷ prints "25 before 19 of the next record" (D ++ H_rated "Y" "L,B,CA,2025-01-02,1,0" ++ unended (H "L,B,CA,2025-01-02,1,0") ++ ascii "\n") "X,25,1,0\r\n"
    ∷ []

-- texts in small letters
unfoldable pub small_letters : List Case
small_letters =
    prints "a rating in small letters" (D ++ H_rated "y" "L,B,5493001KJTIIGC8Y1R12,2025-01-02,1,0") "X,21,1,0\r\n"
    ∷ prints "an LEI in small letters" (D ++ H_rated "Y" "L,B,5493001kjtiigc8y1r12,2025-01-02,1,0") "X,21,1,0\r\n"
    ∷ []

-- records of other than nine fields, and with the ninth filled
unfoldable pub nine_fields : List Case
nine_fields =
    prints "an H of eight fields" (D ++ ascii "H,L,B,CA,2025-01-02,1,0,CAD\r\n") "X,20,1,0\r\n"
    ∷ prints "a P of eight fields" (D ++ ascii "P,0,0,1,,,,\r\n") "X,20,1,0\r\n"
    ∷ prints "an H of ten fields" (D ++ H_rated "Y," "L,B,5493001KJTIIGC8Y1R12,2025-01-02,1,0") "X,20,1,0\r\n"
    ∷ prints "a P with its ninth field filled" (D ++ unended (P "0,0,1") ++ ascii "Y\r\n") "X,21,1,0\r\n"
    ∷ prints "a D with its ninth field filled" (unended D ++ ascii "Y\r\n") "X,21,0,0\r\n"
    ∷ []

-- the LEIs of a file's corporations, in the order of their numbers, 20 bytes each; a longer list keeps the rest
abbrev two_leis : List ℕ
two_leis = D ++ H_rated "Y" "L,B,7ZW8QJWVPR4P1J1KQY45,2025-01-02,1,0" ++ H_rated "N" "L,C,5493001KJTIIGC8Y1R12,2025-01-02,1,0"

unfoldable pub named_leis : List Case
named_leis =
    names "two LEIs into a list of 40 bytes" two_leis 40 16 (0 ∷ 2 ∷ 0 ∷ []) (ascii "7ZW8QJWVPR4P1J1KQY455493001KJTIIGC8Y1R12")
    ∷ []

unfoldable pub named_longer : List Case
named_longer =
    names "two LEIs into a list of 43 bytes" two_leis 43 20 (0 ∷ 2 ∷ 0 ∷ []) (ascii "7ZW8QJWVPR4P1J1KQY455493001KJTIIGC8Y1R12" ++ replicate 3 9)
    ∷ []

-- 2 for a list or an answer slice that is too short, after all records; a refusal leaves the list as it was
unfoldable pub named_short : List Case
named_short =
    names "two LEIs into a list of 39 bytes" two_leis 39 16 (2 ∷ 0 ∷ 0 ∷ []) (replicate 39 9)
    ∷ []

unfoldable pub named_others : List Case
named_others =
    names "no corporation, and no list" (D ++ H "L,B,CA,2025-01-02,1,0") 0 16 (0 ∷ 0 ∷ 0 ∷ []) []
    ∷ names "an answer slice of 15 bytes" D 20 15 (2 ∷ 0 ∷ 0 ∷ []) (replicate 20 9)
    ∷ names "a refusal of the reader, before 2" (D ++ H_rated "Y" "L,B,5493001KJTIIGC8Y1R13,2025-01-02,1,0") 0 0 (25 ∷ 1 ∷ 0 ∷ []) []
    ∷ names "the empty file" [] 20 16 (22 ∷ 0 ∷ 0 ∷ []) (replicate 20 9)
    ∷ []
