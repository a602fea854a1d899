-- Document 02 b), "Dates in place of days": the calendar, anniversaries and actual days, the ends of the periods, what is no date, the valuation date, the
-- record D and the head's list. Assumes nothing.
use mathlib.Core.Bool.{true, false}
use mathlib.Core.List.{List, [], ◌∷◌, ◌++◌, map, flat_map}
use Prim.Native.Nat.{ℕ}
use lib.ListN.{set, replicate}
use Rattle.lists.specs.Tables.{ascii}
use Rattle.holding.specs.declared.Row.{Row}
use Rattle.layout.specs.Layout.{good}
use Rattle.layout.specs.declared.Sort.TheVariants.{Date}
use Rattle.edges.proofs.Cases.{Case, rates, rates_on, faults, faults_on, dates, days, pairs, pairs_on, no_pairs, no_pairs_on, proposal, proposal_on, lent, lent_on}
use Rattle.edges.proofs.Cases.{prints, submitted, code, records, lengths_on, received, answers, D_of, D, H, H_in, P, unended}
use Rattle.edges.proofs.Cases.{line, row, L, S, B, C, R, CA, ON}

-- Canada bonds of several maturities; a Canada bond and coupon and an ON bond and residual of one; two Canada coupons
abbrev bonds : List ℕ → List Row
bonds maturities = map (λ maturity. row L B CA maturity 100) maturities

abbrev each : ℕ → List Row
each maturity = row L B CA maturity 100 ∷ row L C CA maturity 100 ∷ row L B ON maturity 100 ∷ row L R ON maturity 100 ∷ []

abbrev coupons : ℕ → ℕ → Row × Row
coupons long short = (row L C CA long 100, row S C CA short 100)

-- their rates at 366 days, at 365, and in period 2
abbrev leap : List ℕ
leap = 1464 ∷ 2196 ∷ 2928 ∷ 4392 ∷ []

abbrev common : List ℕ
common = 1460 ∷ 2190 ∷ 2920 ∷ 4380 ∷ []

abbrev second : List ℕ
second = 1460 ∷ 2190 ∷ 4380 ∷ 6570 ∷ []

-- the actual days within a year
unfoldable pub actual_days : List Case
actual_days =
    days "from 1 January to the first of each month" (map (λ month. (20250101, month))
    (20250201 ∷ 20250301 ∷ 20250401 ∷ 20250501 ∷ 20250601 ∷ 20250701 ∷ 20250801 ∷ 20250901 ∷ 20251001 ∷ 20251101 ∷ 20251201 ∷ 20260101 ∷ []))
    (31 ∷ 59 ∷ 90 ∷ 120 ∷ 151 ∷ 181 ∷ 212 ∷ 243 ∷ 273 ∷ 304 ∷ 334 ∷ 365 ∷ [])
    ∷ days "and in a leap year" (map (λ month. (20240101, month))
    (20240201 ∷ 20240301 ∷ 20240401 ∷ 20240501 ∷ 20240601 ∷ 20240701 ∷ 20240801 ∷ 20240901 ∷ 20241001 ∷ 20241101 ∷ 20241201 ∷ 20250101 ∷ []))
    (31 ∷ 60 ∷ 91 ∷ 121 ∷ 152 ∷ 182 ∷ 213 ∷ 244 ∷ 274 ∷ 305 ∷ 335 ∷ 366 ∷ [])
    -- 1900, 2100 and 2200 are no leap years, 2000 and 2096 are
    ∷ days "the years 1900, 2000, 2096, 2100, 2200 and 2298"
    ((19000101, 19010101) ∷ (20000101, 20010101) ∷ (20960101, 20970101) ∷ (21000101, 21010101) ∷ (22000101, 22010101) ∷ (22980101, 22990101) ∷ [])
    (365 ∷ 366 ∷ 366 ∷ 365 ∷ 365 ∷ 365 ∷ [])
    ∷ days "28 February to 1 March of 1900, 2000, 2024, 2025 and 2100"
    ((19000228, 19000301) ∷ (20000228, 20000301) ∷ (20240228, 20240301) ∷ (20250228, 20250301) ∷ (21000228, 21000301) ∷ []) (1 ∷ 2 ∷ 2 ∷ 1 ∷ 1 ∷ [])
    ∷ days "one day, over the end of a year, of a century, at both ends of the years"
    ((20241231, 20250101) ∷ (20991231, 21000101) ∷ (19000101, 19000102) ∷ (22991230, 22991231) ∷ []) (1 ∷ 1 ∷ 1 ∷ 1 ∷ [])
    ∷ days "to 28 and 29 February and 1 March 2028, and to 29 February and 1 March 2000"
    ((20270301, 20280228) ∷ (20270301, 20280229) ∷ (20270301, 20280301) ∷ (19990301, 20000229) ∷ (19990301, 20000301) ∷ []) (364 ∷ 365 ∷ 366 ∷ 365 ∷ 366 ∷ [])
    ∷ []

-- a year to its anniversary, and the day after
unfoldable pub whole_years : List Case
whole_years =
    rates_on 20240115 "a year of 366 days: 1,464" (each 20250115 ++ each 20250116) (leap ++ second)
    ∷ rates_on 20250115 "a year of 365 days: 1,460" (each 20260115 ++ each 20260116) (common ++ second)
    ∷ rates_on 20240129 "from 29 January, 366 days and 367" (bonds (20250129 ∷ 20250130 ∷ [])) (1464 ∷ 1460 ∷ [])
    ∷ rates_on 20240210 "from 10 February, 366 days and 367" (bonds (20250210 ∷ 20250211 ∷ [])) (1464 ∷ 1460 ∷ [])
    ∷ []

-- 29 February falls on 28 February where there is none
unfoldable pub anniversaries : List Case
anniversaries =
    rates_on 20240229 "from 29 February, 365 days and 366" (each 20250228 ++ each 20250301) (common ++ second)
    ∷ rates_on 20240228 "from 28 February, 366 days and 367" (each 20250228 ++ each 20250301) (leap ++ second)
    ∷ rates_on 20240301 "from 1 March, 365 days and 366" (each 20250301 ++ each 20250302) (common ++ second)
    ∷ rates_on 20230228 "to 28 and 29 February, 365 days and 366" (each 20240228 ++ each 20240229) (common ++ second)
    ∷ rates_on 20230301 "to 1 March, 366 days and 367" (each 20240301 ++ each 20240302) (leap ++ second)
    ∷ []

-- twenty years, and a maturity of 29 February
unfoldable pub twenty_years : List Case
twenty_years =
    -- twenty years or more starts on the 20th anniversary
    rates_on 20240229 "20 years from 29 February, and a day less" (each 20440228 ++ each 20440229)
    (5840 ∷ 8760 ∷ 7300 ∷ 10950 ∷ 5840 ∷ 17520 ∷ 7300 ∷ 21900 ∷ [])
    ∷ rates_on 20800229 "20 years from 29 February, to 28 February 2100, and a day less" (each 21000227 ++ each 21000228)
    (5840 ∷ 8760 ∷ 7300 ∷ 10950 ∷ 5840 ∷ 17520 ∷ 7300 ∷ 21900 ∷ [])
    ∷ rates "a maturity of 29 February" (each 20280229) (2920 ∷ 4380 ∷ 5840 ∷ 8760 ∷ [])
    ∷ []

-- the periods end on the 1st, 3rd, 7th and 11th anniversary: two holdings on the two sides of an end do not pair
unfoldable pub period_ends : List Case
period_ends =
    no_pairs "the end of each period and the day after" (coupons 20260101 20260102 ∷ coupons 20280102 20280101 ∷ coupons 20320101 20320102 ∷ coupons 20360102 20360101 ∷ [])
    ∷ pairs "the first day and the last of period 2" (coupons 20260102 20280101 ∷ coupons 20280101 20260102 ∷ []) 0 4380
    ∷ pairs "the first day and the last of period 3" (coupons 20280102 20320101 ∷ coupons 20320101 20280102 ∷ []) 0 8760
    ∷ pairs "the first day and the last of period 4, and of period 5 below 20 years" (coupons 20320102 20360101 ∷ coupons 20441231 20360102 ∷ []) 0 17520
    ∷ pairs "20 years is no end of a period" (coupons 20441231 20450101 ∷ coupons 21250101 20360102 ∷ []) 8760 17520
    ∷ pairs "the first day and the last of period 1" (coupons 20250102 20260101 ∷ []) 2184 12
    ∷ []

-- and by other valuation dates
unfoldable pub other_ends : List Case
other_ends =
    no_pairs_on 20240229 "from 29 February, the end of each period and the day after"
    (coupons 20250228 20250301 ∷ coupons 20270228 20270301 ∷ coupons 20310228 20310301 ∷ coupons 20350228 20350301 ∷ [])
    ∷ pairs_on 20240229 "from 29 February, the first day and the last of period 4" (coupons 20310301 20350228 ∷ []) 0 17520
    ∷ no_pairs_on 20210228 "from 28 February, 3 years and a day later, on 29 February" (coupons 20240228 20240229 ∷ [])
    ∷ pairs_on 20210301 "from 1 March, 3 years and a day less, on 29 February" (coupons 20240229 20240301 ∷ []) 0 4380
    ∷ pairs_on 20250102 "coupons at 11 years less a day and 11 years" (coupons 20360101 20360102 ∷ []) 0 17520
    ∷ pairs_on 20240115 "Canada coupon with ON residual, 366 days: half the sum" ((row L C CA 20250115 100, row S R ON 20250115 100) ∷ []) 3294 3294
    ∷ []

-- 24 a maturity that is unreal or outside the years 1900 to 2299; 7 matured by the valuation date or past the 100th anniversary
unfoldable pub maturities : List Case
maturities =
    rates "the last day of each month"
    (bonds (20260131 ∷ 20260228 ∷ 20260331 ∷ 20260430 ∷ 20260531 ∷ 20260630 ∷ 20260731 ∷ 20260831 ∷ 20260930 ∷ 20261031 ∷ 20261130 ∷ 20261231 ∷ [])) (replicate 12 1460)
    ∷ faults "the day after it, by its number"
    (bonds (20260132 ∷ 20260229 ∷ 20260332 ∷ 20260431 ∷ 20260532 ∷ 20260631 ∷ 20260732 ∷ 20260832 ∷ 20260931 ∷ 20261032 ∷ 20261131 ∷ 20261232 ∷ [])) (replicate 12 24)
    ∷ faults "day 0, 99, month 0, 13, 99" (bonds (20260100 ∷ 20260199 ∷ 20260001 ∷ 20261301 ∷ 20269901 ∷ [])) (replicate 5 24)
    ∷ faults "29 February of 1900, 2026, 2027, 2100 and 2200" (bonds (19000229 ∷ 20260229 ∷ 20270229 ∷ 21000229 ∷ 22000229 ∷ [])) (replicate 5 24)
    ∷ rates_on 19991231 "29 February of 2000, 2004 and 2096" (bonds (20000229 ∷ 20040229 ∷ 20960229 ∷ [])) (240 ∷ 2920 ∷ 5840 ∷ [])
    ∷ faults "years before 1900 and after 2299" (bonds (18991231 ∷ 23000101 ∷ 0 ∷ 101 ∷ 250102 ∷ 99991231 ∷ 99999999 ∷ 202601010 ∷ [])) (replicate 8 24)
    ∷ faults "the first and the last of the years, the valuation date, the day before it" (bonds (19000101 ∷ 22991231 ∷ 20250101 ∷ 20241231 ∷ [])) (replicate 4 7)
    ∷ faults "the 100th anniversary, and the day after" (bonds (21250101 ∷ 21250102 ∷ [])) (0 ∷ 5840 ∷ 7 ∷ [])
    ∷ faults_on 20240229 "the 100th anniversary of 29 February, and the day after" (bonds (21240229 ∷ 21240301 ∷ [])) (0 ∷ 5840 ∷ 7 ∷ [])
    ∷ faults_on 20000229 "to 28 February 2100, and the day after" (bonds (21000228 ∷ 21000301 ∷ [])) (0 ∷ 5840 ∷ 7 ∷ [])
    ∷ faults_on 19000101 "the first valuation date" (bonds (19000101 ∷ 19000102 ∷ 20000101 ∷ 20000102 ∷ [])) (7 ∷ 0 ∷ 4 ∷ 0 ∷ 5840 ∷ 7 ∷ [])
    -- an anniversary past 2299 refuses nothing
    ∷ faults_on 22500601 "valued on 2250-06-01" (each 22991231 ++ bonds (23000101 ∷ [])) (0 ∷ 5840 ∷ 0 ∷ 17520 ∷ 0 ∷ 7300 ∷ 0 ∷ 21900 ∷ 24 ∷ [])
    ∷ faults_on 22991231 "the last valuation date" (bonds (22991231 ∷ 23000101 ∷ [])) (7 ∷ 24 ∷ [])
    -- 24 just before 7, after 6
    ∷ faults "an unreal date before the valuation date, and past the 100th anniversary" (bonds (20240230 ∷ 21260230 ∷ [])) (24 ∷ 24 ∷ [])
    ∷ faults "issuer before a holding that has matured" (row L B 13 20250101 100 ∷ []) (6 ∷ [])
    ∷ []

-- the valuation date: 24 at place 0 before all holdings, after 1, 3, 9 and 2
unfoldable pub valuations : List Case
valuations =
    dates "valuation dates" (19000101 ∷ 20000229 ∷ 20240229 ∷ 20250101 ∷ 22991231 ∷ []) (replicate 5 0)
    ∷ dates "no valuation dates"
    (18991231 ∷ 19000229 ∷ 20250229 ∷ 20250431 ∷ 20250001 ∷ 20251301 ∷ 20250100 ∷ 21000229 ∷ 23000101 ∷ 0 ∷ 20250230 ∷ 18446744073709551615 ∷ []) (replicate 12 24)
    ∷ proposal_on 20250230 "24 on the valuation date before 4" (row 2 B CA 20250302 1 ∷ []) (0 ∷ []) [] (24 ∷ 0 ∷ 0 ∷ [])
    ∷ proposal_on 20250230 "24 on the valuation date and nothing else" (row L B CA 20250302 1 ∷ []) (0 ∷ []) [] (24 ∷ 0 ∷ 0 ∷ [])
    ∷ proposal_on 20250230 "the empty book on no date" [] [] [] (24 ∷ 0 ∷ 0 ∷ [])
    ∷ proposal_on 20250230 "24 on the valuation date before 11" [] [] (line 0 0 1 ∷ []) (24 ∷ 0 ∷ 0 ∷ [])
    ∷ lent_on 0 "1 before 24 on the valuation date" true true (row L B CA 20250102 1 ∷ []) [] (1 ∷ 0 ∷ 0 ∷ [])
    ∷ lent_on 0 "3 before 24 on the valuation date" false true (replicate 257 (row L B CA 20250102 1)) [] (3 ∷ 0 ∷ 0 ∷ [])
    ∷ lent_on 0 "9 before 24 on the valuation date" false true [] (replicate 513 (line 0 0 1)) (9 ∷ 0 ∷ 0 ∷ [])
    ∷ lent_on 0 "2 before 24 on the valuation date" false true [] [] (2 ∷ 0 ∷ 0 ∷ [])
    ∷ lent "2 before 24 of a holding" false true (row L B CA 0 1 ∷ []) [] (2 ∷ 0 ∷ 0 ∷ [])
    ∷ lengths_on 20250230 "the exported check on no date" ((replicate 13 0 ++ (16 ∷ [])) ∷ []) 24
    ∷ lengths_on 20250230 "2 before 24 in the exported check" ((replicate 13 0 ++ (15 ∷ [])) ∷ []) 2
    -- a holding is finished before the next, its maturity before its price
    ∷ proposal "24 at holding 1, before 10 and before lines" (row L C CA 20250102 2 ∷ row S B CA 20250230 2 ∷ []) (8 ∷ 43801 ∷ []) (line 0 2 1 ∷ []) (24 ∷ 1 ∷ 0 ∷ [])
    ∷ proposal "7 at holding 1, before 10 and before lines" (row L C CA 20250102 2 ∷ row S B CA 20250101 2 ∷ []) (8 ∷ 43801 ∷ []) (line 0 2 1 ∷ []) (7 ∷ 1 ∷ 0 ∷ [])
    ∷ proposal "10 before 24 of the next holding" (row L C CA 20250102 2 ∷ row S B CA 20250230 2 ∷ []) (43801 ∷ 0 ∷ []) [] (10 ∷ 0 ∷ 0 ∷ [])
    -- a book by its valuation date
    ∷ proposal_on 20240115 "366 days of Canada bond" (row L B CA 20250115 100 ∷ []) (0 ∷ []) [] (0 ∷ 146400 ∷ 2 ∷ 100 ∷ 0 ∷ [])
    ∷ proposal_on 20250115 "the same term a year on, 365 days" (row L B CA 20260115 100 ∷ []) (0 ∷ []) [] (0 ∷ 146000 ∷ 1 ∷ 100 ∷ 0 ∷ [])
    ∷ proposal_on 20250102 "pairing across 11 years, a day later" (row L C CA 20360101 100 ∷ row S C CA 20360102 100 ∷ []) (8760 ∷ 8760 ∷ []) (line 0 1 100 ∷ [])
    (0 ∷ 0 ∷ 0 ∷ 0 ∷ 0 ∷ 0 ∷ 1 ∷ [])
    ∷ []

-- the text of a date: four digits, a hyphen, two, a hyphen, two, real or not; any other text is 21
unfoldable pub date_texts : List Case
date_texts =
    code "texts of the form" Date ("2025-01-02" ∷ "1900-12-31" ∷ "2025-02-30" ∷ "9999-99-99" ∷ "0000-00-00" ∷ "0007-08-09" ∷ [])
    (20250102 ∷ 19001231 ∷ 20250230 ∷ 99999999 ∷ 0 ∷ 70809 ∷ [])
    ∷ code "texts of no such form" Date
    ("2025-2-03" ∷ "25-02-03" ∷ "2025/02/03" ∷ "20250203" ∷ "" ∷ " 2025-02-03" ∷ "2025-02-03 " ∷ "2025-02-0a" ∷ "2O25-02-03" ∷ "2025-02-3" ∷ "2025-02-003" ∷ "2025-2-003"
    ∷ "12025-02-03" ∷ "2025-02-03-" ∷ "+025-02-03" ∷ "-025-02-03" ∷ "2025--2-03" ∷ "2025-02:03" ∷ "2025-0:-03" ∷ "2025-02-0/" ∷ "03-02-2025" ∷ "2025-02" ∷ "2000" ∷ [])
    []
    -- after D come a date and a letter, and nothing else
    ∷ records "a D with another field filled" (map (λ j. set (ascii "D" ∷ ascii "2025-01-01" ∷ ascii "P" ∷ replicate 6 []) j (ascii "0")) (3 ∷ 4 ∷ 5 ∷ 6 ∷ 7 ∷ 8 ∷ [])) 21
    ∷ records "a D with its date in the third field, or with an H's fields"
    ((ascii "D" ∷ ascii "P" ∷ ascii "2025-01-01" ∷ replicate 6 []) ∷ map ascii ("D" ∷ "L" ∷ "B" ∷ "CA" ∷ "2025-01-02" ∷ "1" ∷ "0" ∷ "CAD" ∷ "" ∷ []) ∷ []) 21
    ∷ records "an H whose maturity is a number of days, or empty"
    (map (λ maturity. map ascii ("H" ∷ "L" ∷ "B" ∷ "CA" ∷ maturity ∷ "1" ∷ "0" ∷ "CAD" ∷ "" ∷ [])) ("2000" ∷ "" ∷ [])) 21
    ∷ []

-- a file starts with one D: 22 a missing, second or later D, an empty file included; a bad first record has its own number
unfoldable pub valuation_record : List Case
valuation_record =
    prints "the empty file" [] "X,22,0,0\r\n"
    ∷ prints "H first" (H "L,B,CA,2025-01-02,1,0") "X,22,0,0\r\n"
    ∷ prints "H first, then D" (H "L,B,CA,2025-01-02,1,0" ++ D) "X,22,0,0\r\n"
    ∷ prints "P first" (P "0,0,1") "X,22,0,0\r\n"
    ∷ prints "a second D" (D ++ D) "X,22,1,0\r\n"
    ∷ prints "D after H" (D ++ H "L,B,CA,2025-01-02,1,0" ++ D) "X,22,2,0\r\n"
    ∷ prints "D after P" (D ++ P "0,0,1" ++ D) "X,22,2,0\r\n"
    ∷ prints "a first record outside the grammar" (unended D ++ ascii "\n") "X,19,0,0\r\n"
    ∷ prints "a first record of eight fields" (ascii "D,2025-01-01,P,,,,,\r\n") "X,20,0,0\r\n"
    ∷ prints "an H first with a bad field" (H "L,B,CA,2025-01-02,01,0") "X,21,0,0\r\n"
    ∷ prints "a date of another form" (D_of "2025-1-01") "X,21,0,0\r\n"
    ∷ prints "a date of another form in a second D" (D ++ D_of "2025-1-01") "X,21,1,0\r\n"
    ∷ prints "a seventh field of D that is filled" (ascii "D,2025-01-01,P,,,,0,,\r\n") "X,21,0,0\r\n"
    ∷ prints "D in quotes, without CRLF" (unended (D_of "\"2025-01-01\"")) "M,0,0\r\n"
    ∷ submitted "of two D the first" (good 0 (20240229 ∷ 1 ∷ []) ∷ good 0 (20260101 ∷ 0 ∷ []) ∷ []) 20240229 1
    ∷ []

-- files, from their bytes to the bytes that are printed: dates that are read, and judged by the check
unfoldable pub dated_files : List Case
dated_files =
    prints "an unreal valuation date" (D_of "2025-02-30" ++ H "L,B,CA,2025-03-02,1,0") "X,24,0,0\r\n"
    ∷ prints "D alone, on 9999-99-99" (D_of "9999-99-99") "X,24,0,0\r\n"
    ∷ prints "an unreal maturity, at holding 1" (D ++ H "L,B,CA,2025-01-02,1,0" ++ H "L,B,CA,2025-02-30,1,0") "X,24,1,0\r\n"
    ∷ prints "a maturity of another form" (D ++ H "L,B,CA,2025-01-2,1,0") "X,21,1,0\r\n"
    ∷ []

unfoldable pub dated_figures : List Case
dated_figures =
    prints "a file with 366 days" (D_of "2024-01-15" ++ H "L,B,CA,\"2025-01-15\",100,0") "M,146400,2\r\nR,0,100,146400\r\n"
    ∷ prints "a file valued on 29 February" (D_of "2024-02-29" ++ H "L,B,ON,2025-02-28,1,0" ++ H "L,B,ON,2025-03-01,1,0") "M,7300,1\r\nR,1,1,4380\r\nR,0,1,2920\r\n"
    ∷ []

-- a file of one holding and one line; the numbers of the columns with it, and as they were
abbrev text : List ℕ
text = D ++ H_in "USD" "S,R,MB,2025-01-02,5,6" ++ P "8,9,10"

abbrev pub entered : List ℕ
entered = flat_map (λ n. n ∷ 11 ∷ []) (1 ∷ 2 ∷ 3 ∷ 20250102 ∷ 5 ∷ 1 ∷ 2 ∷ 6 ∷ 8 ∷ 9 ∷ 10 ∷ [])

abbrev pub untouched : List ℕ
untouched = flat_map (λ n. n ∷ 11 ∷ []) (replicate 11 0)

-- the reader's head list: two entries, 2 where it has fewer, after all records
unfoldable pub head_answers : List Case
head_answers =
    answers "the empty file, and nothing is lent" ([] ∷ []) [] 0 0 (22 ∷ 0 ∷ 0 ∷ [])
    ∷ answers "a second D, and nothing is lent" ([] ∷ []) (D ++ D) 0 0 (22 ∷ 1 ∷ 0 ∷ [])
    ∷ answers "D alone, and no head's list" ([] ∷ []) D 0 16 (2 ∷ 0 ∷ 0 ∷ [])
    ∷ answers "D alone, and a head's list of 8 bytes" ([] ∷ []) D 8 16 (2 ∷ 0 ∷ 0 ∷ [])
    ∷ answers "D alone, and a head's list of 15 bytes" ([] ∷ []) D 15 16 (2 ∷ 0 ∷ 0 ∷ [])
    ∷ answers "D alone, and a head's list of 16 bytes" ([] ∷ []) D 16 16 (0 ∷ 0 ∷ 0 ∷ [])
    ∷ answers "D alone, and a head's list of 29 bytes" ([] ∷ []) D 29 16 (0 ∷ 0 ∷ 0 ∷ [])
    ∷ []

-- the valuation date goes into it, and after it the letter; a longer list keeps the rest
unfoldable pub head_list : List Case
head_list =
    received "two entries" text (replicate 16 9) 16 ((245 ∷ 253 ∷ 52 ∷ 1 ∷ replicate 12 0) ++ entered)
    ∷ received "a longer list keeps the rest" text (replicate 29 9) 16 ((245 ∷ 253 ∷ 52 ∷ 1 ∷ replicate 12 0) ++ replicate 13 9 ++ entered)
    ∷ received "an unreal date is read" (D_of "2025-02-30") (replicate 16 9) 16 ((118 ∷ 254 ∷ 52 ∷ 1 ∷ replicate 12 0) ++ untouched)
    ∷ []

-- and a refusal leaves it as it was
unfoldable pub head_kept : List Case
head_kept =
    received "a list too short is left" text (replicate 15 9) 16 (replicate 15 9 ++ untouched)
    ∷ received "an answer slice too short" text (replicate 16 9) 15 (replicate 16 9 ++ untouched)
    ∷ received "a refusal at the last record" (text ++ D) (replicate 16 9) 16 (replicate 16 9 ++ untouched)
    ∷ []
