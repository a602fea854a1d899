-- Document 02 a), "US and sterling strips": the rates of each government, the pairs of paragraph 4 and what stays unpaired, proposals and files of both
-- paragraphs together, the texts of a currency. Assumes nothing.
use mathlib.Core.List.{List, [], ◌∷◌, ◌++◌, map, flat_map}
use Prim.Native.Nat.{ℕ}
use lib.ListN.{replicate}
use Rattle.lists.specs.Tables.{ascii}
use Rattle.holding.specs.declared.Row.{Row}
use Rattle.pairing.specs.declared.Line.{Line}
use Rattle.edges.proofs.Cases.{Case, rates, pair, pairs, no_pair, no_pairs, proposal, prints, D, H, H_in, P}
use Rattle.edges.proofs.Cases.{line, row, of, L, S, B, C, R, CA, ON, QC, US, GB, CAD, USD, GBP, file, file_lines}

-- kind, issuer and currency with a term of each period, and of 20 years; and Group I rates for these, Canada's
abbrev terms : ℕ → ℕ → ℕ → List Row
terms kind issuer currency =
    map (λ maturity. of currency (row L kind issuer maturity 100)) (20250102 ∷ 20270928 ∷ 20300624 ∷ 20330320 ∷ 20441231 ∷ 20450101 ∷ [])

abbrev bond_rates : List ℕ
bond_rates = 4 ∷ 1460 ∷ 2920 ∷ 5840 ∷ 5840 ∷ 5840 ∷ []

abbrev strip_rates : List ℕ
strip_rates = 6 ∷ 2190 ∷ 4380 ∷ 8760 ∷ 8760 ∷ 17520 ∷ []

-- US and GB have Group I rates, in any currency; the currency changes no rate
unfoldable pub governments : List Case
governments =
    rates "US bonds in USD" (terms B US USD) bond_rates
    ∷ rates "US coupons in GBP" (terms C US GBP) strip_rates
    ∷ rates "US residuals in CAD" (terms R US CAD) strip_rates
    ∷ rates "GB bonds in GBP" (terms B GB GBP) bond_rates
    ∷ rates "GB coupons in CAD" (terms C GB CAD) strip_rates
    ∷ rates "GB residuals in USD" (terms R GB USD) strip_rates
    ∷ rates "Canada bonds in GBP" (terms B CA GBP) bond_rates
    ∷ rates "Canada coupons in USD" (terms C CA USD) strip_rates
    ∷ rates "ON bonds in USD" (terms B ON USD) (8 ∷ 4380 ∷ 5840 ∷ 7300 ∷ 7300 ∷ 7300 ∷ [])
    ∷ rates "ON residuals in GBP" (terms R ON GBP) (12 ∷ 6570 ∷ 8760 ∷ 10950 ∷ 10950 ∷ 21900 ∷ [])
    ∷ []

-- a long and a short of 2,000 days: kind, issuer, currency
abbrev long : ℕ → ℕ → ℕ → Row
long kind issuer currency = of currency (row L kind issuer 20300624 100)

abbrev short : ℕ → ℕ → ℕ → Row
short kind issuer currency = of currency (row S kind issuer 20300624 100)

-- two kinds, of the same government in the same foreign currency: each government in each currency
abbrev each_government : ℕ → ℕ → List (Row × Row)
each_government k m =
    map
    (λ (g : ℕ × ℕ). (long k g.0 g.1, short m g.0 g.1))
    ((CA, USD) ∷ (US, USD) ∷ (GB, USD) ∷ (CA, GBP) ∷ (US, GBP) ∷ (GB, GBP) ∷ [])

-- two kinds in one currency: each two issuers, both ways round
abbrev two-issuers : ℕ → ℕ → ℕ → List (ℕ × ℕ) → List (Row × Row)
two-issuers k m currency issuers =
    flat_map
    (λ (g : ℕ × ℕ). (long k g.0 currency, short m g.1 currency) ∷ (long k g.1 currency, short m g.0 currency) ∷ [])
    issuers

-- two kinds of one issuer: each two currencies, both ways round
abbrev two_currencies_rows : ℕ → ℕ → ℕ → List (Row × Row)
two_currencies_rows k m issuer =
    flat_map
    (λ (g : ℕ × ℕ). (long k issuer g.0, short m issuer g.1) ∷ (long k issuer g.1, short m issuer g.0) ∷ [])
    ((CAD, USD) ∷ (CAD, GBP) ∷ (USD, GBP) ∷ [])

-- two holdings in the same foreign currency and of the same government pair in one period if exactly one is a bond, at the difference: the long
unfoldable pub long_bonds : List Case
long_bonds =
    pairs "bond with coupon of one government, in USD and in GBP" (each_government B C) 1460 5840
    ∷ pairs "bond with residual of one government, in USD and in GBP" (each_government B R) 1460 5840
    ∷ pair "US bond 5,000 days with US coupon 8,000 days, in USD" (of USD (row L B US 20380910 100)) (of USD (row S C US 20461127 100)) 11680 11680
    ∷ pair "Canada bond 1 year with Canada coupon 1 day, in USD" (of USD (row L B CA 20260101 100)) (of USD (row S C CA 20250102 100)) 1454 12
    ∷ []

-- or the short
unfoldable pub long_strips : List Case
long_strips =
    pairs "coupon with bond of one government, in USD and in GBP" (each_government C B) 1460 5840
    ∷ pairs "residual with bond of one government, in USD and in GBP" (each_government R B) 1460 5840
    ∷ pair "GB residual 8,000 days with GB bond 5,000 days, in GBP" (of GBP (row L R GB 20461127 100)) (of GBP (row S B GB 20380910 100)) 11680 11680
    ∷ []

-- and else not: two strips or two bonds, two governments, two periods, a short with a long
unfoldable pub not_paragraph4 : List Case
not_paragraph4 =
    no_pairs "strip with strip in a foreign currency" (each_government C C ++ each_government C R ++ each_government R C ++ each_government R R)
    ∷ no_pairs "bond with bond in a foreign currency" (each_government B B)
    ∷ no_pairs "two governments in USD" (two-issuers B C USD ((CA, US) ∷ (CA, GB) ∷ (US, GB) ∷ []))
    ∷ no_pairs "two governments in GBP" (two-issuers C B GBP ((CA, US) ∷ (CA, GB) ∷ (US, GB) ∷ []))
    ∷ no_pairs "US bond 11 years with US coupon 11 years and a day, in USD" ((of USD (row L B US 20360101 100), of USD (row S C US 20360102 100)) ∷ [])
    ∷ no_pairs "GB coupon 1 year and a day with GB bond 1 year, in GBP" ((of GBP (row L C GB 20260102 100), of GBP (row S B GB 20260101 100)) ∷ [])
    ∷ no_pair "the legs the wrong way round, in USD" (short B US USD) (long C US USD) 13
    ∷ []

-- two currencies never pair
unfoldable pub two_currencies : List Case
two_currencies =
    no_pairs "Canada in two currencies" (two_currencies_rows B C CA ++ two_currencies_rows C R CA)
    ∷ no_pairs "a province in two currencies" (two_currencies_rows C B ON ++ two_currencies_rows C R ON)
    ∷ no_pairs "US in two currencies" (two_currencies_rows B C US)
    ∷ no_pairs "GB in two currencies" (two_currencies_rows C B GB)
    ∷ no_pairs "Canada in CAD with US in USD, GB in GBP with a province in CAD" ((long B CA CAD, short C US USD) ∷ (long C GB GBP, short B ON CAD) ∷ [])
    ∷ []

-- provincial debt in foreign currency stays unpaired
unfoldable pub foreign_provinces : List Case
foreign_provinces =
    no_pairs "bond with strip of provinces in USD" (two-issuers B C USD ((ON, ON) ∷ (ON, QC) ∷ []))
    ∷ no_pairs "strip with strip of provinces in GBP" (two-issuers C R GBP ((ON, ON) ∷ (ON, QC) ∷ []))
    ∷ no_pairs "a province with a government, in USD" (two-issuers C B USD ((ON, CA) ∷ (ON, US) ∷ (ON, GB) ∷ []))
    ∷ no_pairs "a province with a government, in GBP" (two-issuers B C GBP ((ON, CA) ∷ (ON, US) ∷ (ON, GB) ∷ []) ++ two-issuers C R GBP ((ON, CA) ∷ []))
    ∷ []

-- US or GB debt in CAD stays unpaired
unfoldable pub foreign_debt : List Case
foreign_debt =
    no_pairs "bond with strip of US or GB, in CAD" (two-issuers B C CAD ((US, US) ∷ (GB, GB) ∷ (US, GB) ∷ []))
    ∷ no_pairs "strip with strip of US or GB, in CAD" (two-issuers C R CAD ((US, US) ∷ (GB, GB) ∷ (US, GB) ∷ []))
    ∷ no_pairs "bond with strip, US or GB with Canada or a province, in CAD" (two-issuers B C CAD ((US, CA) ∷ (GB, CA) ∷ (US, ON) ∷ (GB, ON) ∷ []))
    ∷ no_pairs "strip with strip, US or GB with Canada or a province, in CAD" (two-issuers C R CAD ((US, CA) ∷ (GB, CA) ∷ (US, ON) ∷ (GB, ON) ∷ []))
    ∷ []

-- the file's book with a US bond and coupon in USD and a GB residual and bond in GBP, and its lines with one on each of these pairs
abbrev desk : List Row
desk = file ++ (of USD (row L B US 20300624 500000) ∷ of USD (row S C US 20300624 800000) ∷ of GBP (row L R GB 20461127 400000) ∷ of GBP (row S B GB 20380910 100000) ∷ [])

abbrev desk_lines : List Line
desk_lines = file_lines 600000 ++ (line 3 4 500000 ∷ line 5 6 100000 ∷ [])

-- least margin is over both paragraphs together
unfoldable pub both_paragraphs : List Case
both_paragraphs =
    proposal "both paragraphs together" desk (0 ∷ 5840 ∷ 6570 ∷ 5840 ∷ 0 ∷ 0 ∷ 11680 ∷ []) desk_lines
    (0 ∷ 11753000000 ∷ 80500 ∷ 100000 ∷ 0 ∷ 0 ∷ 0 ∷ 300000 ∷ 300000 ∷ 0 ∷ 5 ∷ 4 ∷ 0 ∷ 1 ∷ 2 ∷ 3 ∷ 6 ∷ [])
    ∷ []

-- and pairs of paragraph 2 alone are not the least
unfoldable pub paragraph2_alone : List Case
paragraph2_alone =
    proposal "pairs of paragraph 2 alone, a pair in USD not covered" desk (0 ∷ 5840 ∷ 6570 ∷ 0 ∷ 0 ∷ 0 ∷ 0 ∷ []) (file_lines 600000) (16 ∷ 3 ∷ 4 ∷ [])
    ∷ proposal "pairs of paragraph 2 alone, all pairs covered" desk (0 ∷ 5840 ∷ 6570 ∷ 5840 ∷ 0 ∷ 0 ∷ 11680 ∷ []) (file_lines 600000) (17 ∷ 0 ∷ 0 ∷ [])
    ∷ []

-- other books in foreign currency
unfoldable pub foreign_books : List Case
foreign_books =
    proposal "a pair in GBP a unit short of cover" (long R GB GBP ∷ short B GB GBP ∷ []) (0 ∷ 5839 ∷ []) (line 0 1 100 ∷ []) (16 ∷ 0 ∷ 1 ∷ [])
    -- of the uncovered pairs that of the lowest long, whichever paragraph it is of; the totals differ too
    ∷ proposal "16 in USD before 16 in CAD" (long B US USD ∷ short C US USD ∷ long C CA CAD ∷ short B CA CAD ∷ []) (0 ∷ 1 ∷ 0 ∷ 0 ∷ []) [] (16 ∷ 0 ∷ 1 ∷ [])
    ∷ proposal "16 in CAD before 16 in USD" (long C CA CAD ∷ short B CA CAD ∷ long B US USD ∷ short C US USD ∷ []) (0 ∷ 1 ∷ 0 ∷ 0 ∷ []) [] (16 ∷ 0 ∷ 1 ∷ [])
    ∷ proposal "14 on a line in USD" (long B US USD ∷ short C US USD ∷ []) (5840 ∷ 0 ∷ []) (line 0 1 0 ∷ []) (14 ∷ 0 ∷ 0 ∷ [])
    ∷ proposal "15 on a line in USD" (long B US USD ∷ short C US USD ∷ []) (5840 ∷ 0 ∷ []) (line 0 1 100 ∷ line 0 1 1 ∷ []) (15 ∷ 1 ∷ 0 ∷ [])
    ∷ proposal "a line from CAD to USD" (long B CA CAD ∷ short C CA USD ∷ []) (0 ∷ 0 ∷ []) (line 0 1 100 ∷ []) (13 ∷ 0 ∷ 0 ∷ [])
    -- the USD coupon is not the CAD bond's to pair with
    ∷ proposal "Canada in CAD beside Canada in USD"
    (row L B CA 20300624 1000 ∷ of USD (row S C CA 20300624 1000) ∷ of USD (row L B CA 20300624 400) ∷ []) (0 ∷ 0 ∷ 5840 ∷ []) (line 2 1 400 ∷ [])
    (0 ∷ 6132000 ∷ 42 ∷ 1000 ∷ 600 ∷ 0 ∷ 0 ∷ 1 ∷ 2 ∷ [])
    ∷ proposal "holdings that stay unpaired, at prices of 0"
    (long C US USD ∷ short R US USD ∷ long B GB CAD ∷ short C GB CAD ∷ long B ON USD ∷ short C ON USD ∷ []) (replicate 6 0) []
    (0 ∷ 3066000 ∷ 21 ∷ (replicate 6 100 ++ (5 ∷ 4 ∷ 0 ∷ 1 ∷ 3 ∷ 2 ∷ [])))
    ∷ []

-- files, from their bytes to the bytes that are printed: pairs of each paragraph; and debt that stays unpaired
unfoldable pub foreign_file : List Case
foreign_file =
    prints
    "a file with a pair of each paragraph"
    (D ++ H "L,C,CA,2025-01-02,1,0" ++ H "S,B,CA,2025-01-02,1,8" ++ H_in "USD" "L,B,US,2025-01-02,1,8" ++ H_in "\"USD\"" "S,C,US,2025-01-02,2,0" ++ P "0,1,1" ++ P "2,3,1")
    "M,10,1\r\nR,3,1,6\r\nR,0,0,0\r\nR,1,0,0\r\nR,2,0,0\r\n"
    ∷ []

unfoldable pub sterling_file : List Case
sterling_file =
    prints "a file with a pair in GBP" (D ++ H_in "GBP" "L,R,GB,2025-01-02,1,0" ++ H_in "GBP" "S,B,GB,2025-01-02,1,8" ++ P "0,1,1") "M,2,1\r\nR,0,0,0\r\nR,1,0,0\r\n"
    ∷ []

unfoldable pub unpaired_files : List Case
unpaired_files =
    prints "a file with a line on US debt in CAD" (D ++ H "L,B,US,2025-01-02,1,0" ++ H "S,C,US,2025-01-02,1,0" ++ P "0,1,1") "X,13,0,0\r\n"
    ∷ prints "a file with a line on provincial debt in USD" (D ++ H_in "USD" "L,B,ON,2025-01-02,1,0" ++ H_in "USD" "S,C,ON,2025-01-02,1,0" ++ P "0,1,1") "X,13,0,0\r\n"
    ∷ []

-- the eighth field
unfoldable pub eighth_field : List Case
eighth_field =
    prints "an unknown currency, at record 2" (D ++ H "L,B,CA,2025-01-02,1,0" ++ H_in "EUR" "L,B,CA,2025-01-02,1,0") "X,21,2,0\r\n"
    ∷ prints "a currency in small letters" (D ++ H_in "usd" "L,B,US,2025-01-02,1,0") "X,21,1,0\r\n"
    ∷ prints "no currency" (D ++ H_in "" "L,B,CA,2025-01-02,1,0") "X,21,1,0\r\n"
    ∷ prints "a currency by its number" (D ++ H_in "0" "L,B,CA,2025-01-02,1,0") "X,21,1,0\r\n"
    ∷ []

-- without it, or filled in a P; and in a record out of order
unfoldable pub seven_fields : List Case
seven_fields =
    prints "an H of seven fields" (D ++ ascii "H,L,B,CA,2025-01-02,1,0\r\n") "X,20,1,0\r\n"
    ∷ prints "a P of seven fields" (D ++ ascii "P,0,0,1,,,\r\n") "X,20,1,0\r\n"
    ∷ prints "a P with its eighth field filled" (D ++ ascii "P,0,0,1,,,,CAD,\r\n") "X,21,1,0\r\n"
    ∷ prints "an unknown currency before H after P" (D ++ P "0,0,1" ++ H_in "EUR" "L,B,CA,2025-01-02,1,0") "X,21,2,0\r\n"
    ∷ []
