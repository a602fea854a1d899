-- Document 01, "Edges" without a star, "Shortcuts that cost margin or hide it", each refusal with its place, and each letter, code and byte of
-- the file, with what document 02 a), b), d) and e) add to them. Assumes nothing.
use mathlib.Core.Bool.{true, false}
use mathlib.Core.List.{List, [], ◌∷◌, ◌++◌, map, flat_map}
use Prim.Native.Nat.{ℕ}
use lib.ListN.{take, drop, set, replicate}
use Rattle.lists.specs.Tables.{ascii}
use Rattle.holding.specs.declared.Row.{Row}
use Rattle.layout.specs.declared.Sort.TheVariants.{Side, Kind, Issuer, Currency}
use Rattle.layout.specs.Layout.{Meaning, good, letters, accounts, sides, kinds, issuers, currencies, ratings}
use Rattle.edges.proofs.Cases.{Case, rate, fault, faults, pair, no_pair, proposal, lent, figures, prints, record_case, code, lists, fields}
use Rattle.edges.proofs.Cases.{letter, byte, decodes, encodes, lengths, columns, slice, answers, empty_fields, D, H, P, unended}
use Rattle.edges.proofs.Cases.{new_year, line, row, of, rated, L, S, B, C, R, CA, ON, QC, CAD, file, file_lines}

-- the book of "Largest saving first", and prices that cover it
abbrev four : List Row
four = row L C ON 20300624 1000 ∷ row L B ON 20300624 1000 ∷ row S C ON 20300624 1000 ∷ row S B ON 20300624 1000 ∷ []

abbrev four_prices : List ℕ
four_prices = 8760 ∷ 2920 ∷ 8760 ∷ 2920 ∷ []

-- a coupon and a bond of 1 day, by their values
abbrev pub two : ℕ → ℕ → List Row
two a b = row L C CA 20250102 a ∷ row S B CA 20250102 b ∷ []

-- two bonds, which do not pair
abbrev pub bonds : List Row
bonds = row L B CA 20250102 2 ∷ row S B CA 20250102 2 ∷ []

-- a D, an H and a P as parsed
abbrev valuation : Meaning
valuation = good 0 (new_year ∷ 0 ∷ [])

abbrev holding : Meaning
holding = good 1 (L ∷ B ∷ CA ∷ 20250102 ∷ 1 ∷ 0 ∷ CAD ∷ 2 ∷ 0 ∷ 0 ∷ [])

abbrev pairing : Meaning
pairing = good 2 (0 ∷ 0 ∷ 1 ∷ [])

-- the byte lengths for two holdings and one line: each column of the holdings, the currency's sixth, the rating's seventh and the price's eighth, each of the
-- lines, the two lists and the answer
abbrev right : List ℕ
right = replicate 8 16 ++ replicate 3 8 ++ replicate 3 16

-- for one holding and two lines
abbrev more_lines : List ℕ
more_lines = replicate 8 8 ++ replicate 3 16 ++ (8 ∷ 8 ∷ 16 ∷ [])

-- the largest number, and rows that have it from one number on
abbrev pub most : ℕ
most = 18446744073709551615

abbrev largest : List Row
largest =
    map (of most)
    (row most most most most most ∷ row L most most most most ∷ row L B most most most ∷ row L B CA most most ∷ row L B CA 20250102 most ∷ row L B CA 20250102 1 ∷ [])

-- one holding, one pair
unfoldable pub single : List Case
single =
    -- 0 or 36,501 days: 7. Value 100,000,000,001: 8
    fault "0 days" (row L R ON 20250101 100) 7
    ∷ fault "100 years and a day" (row L R ON 21250102 100) 7
    ∷ fault "value 100,000,000,001" (row L B CA 20250102 100000000001) 8
    ∷ rate "value 100,000,000,000" (row L B CA 20250102 100000000000) 4
    -- each range by itself, at its ends, and the first of several
    ∷ fault "side 2" (row 2 B CA 20250102 1) 4
    ∷ fault "kind 3" (row L 3 CA 20250102 1) 5
    ∷ fault "issuer 13" (row L B 13 20250102 1) 6
    ∷ fault "value 0" (row L B CA 20250102 0) 8
    ∷ fault "currency 3" (of 3 (row L B CA 20250102 1)) 23
    ∷ faults "the largest number from the side, the kind, the issuer, the maturity, the value and the currency on" largest (4 ∷ 5 ∷ 6 ∷ 24 ∷ 8 ∷ 23 ∷ [])
    ∷ rate "side 1, kind 2, issuer 10" (row 1 2 10 20250102 1) 12
    ∷ rate "side 1, kind 2, issuer 12, currency 2" (of 2 (row 1 2 12 20250102 1)) 6
    ∷ fault "side before kind, issuer, maturity, value and currency" (of 3 (row 2 3 13 0 0)) 4
    ∷ fault "kind before issuer, maturity, value and currency" (of 3 (row L 3 13 0 0)) 5
    ∷ fault "issuer before maturity, value and currency" (of 3 (row L B 13 0 0)) 6
    ∷ fault "a maturity that is no date before value and currency" (of 3 (row L B CA 0 0)) 24
    ∷ fault "a holding that has matured before value and currency" (of 3 (row L B CA 20250101 0)) 7
    ∷ fault "value before currency" (of 3 (row L B CA 20250102 0)) 8
    -- the rates on both sides of 11 years agree, and do not pair
    ∷ rate "Canada coupon 11 years" (row L C CA 20360101 100) 8760
    ∷ rate "Canada coupon 11 years and a day" (row S C CA 20360102 100) 8760
    ∷ rate "Canada bond 1 day" (row L B CA 20250102 1) 4
    -- "Largest saving first": coupon with coupon pairs at 0, a coupon with the other side's bond at 2,920
    ∷ pair "largest saving first: coupon with coupon" (row L C ON 20300624 1000) (row S C ON 20300624 1000) 0 17520
    ∷ pair "largest saving first: long coupon with short bond" (row L C ON 20300624 1000) (row S B ON 20300624 1000) 2920 11680
    ∷ pair "largest saving first: long bond with short coupon" (row L B ON 20300624 1000) (row S C ON 20300624 1000) 2920 11680
    -- the saving rates of the file's two pairs, its prices, and the highest there is
    ∷ pair "the file's first pair" (row L C CA 20300624 1000000) (row S B CA 20300624 600000) 1460 5840
    ∷ pair "the file's second pair" (row L C CA 20300624 1000000) (row S R ON 20300624 300000) 6570 6570
    ∷ pair "the highest saving rate" (row L R ON 21250101 100) (row S R QC 20450101 100) 0 43800
    -- the first and the last province
    ∷ pair "AB coupon with SK residual" (row L C 1 20300624 100) (row S R 10 20300624 100) 0 17520
    -- the legs the wrong way round; a row with a fault is in no pair
    ∷ no_pair "the legs the wrong way round" (row S C ON 20300624 1000) (row L C ON 20300624 1000) 13
    ∷ no_pair "a pair with a row at fault" (row L C ON 20300624 1000) (row S C 13 20300624 1000) 6
    ∷ []

-- the file with its third price 6,569: 16 at 0, 2; from its bytes
unfoldable pub third_price : List Case
third_price =
    prints
    "third price 6,569"
    (D ++ H "L,C,CA,2030-06-24,1000000,0" ++ H "S,B,CA,2030-06-24,600000,5840" ++ H "S,R,ON,2030-06-24,300000,6569" ++ P "0,1,600000" ++ P "0,2,300000")
    "X,16,0,2\r\n"
    ∷ []

-- with its first price 1: 17
unfoldable pub first_price : List Case
first_price =
    prints
    "first price 1"
    (D ++ H "L,C,CA,2030-06-24,1000000,1" ++ H "S,B,CA,2030-06-24,600000,5840" ++ H "S,R,ON,2030-06-24,300000,6570" ++ P "0,1,600000" ++ P "0,2,300000")
    "X,17,0,0\r\n"
    ∷ []

-- with its first amount 600,001: 15
unfoldable pub first_amount : List Case
first_amount =
    prints
    "first amount 600,001"
    (D ++ H "L,C,CA,2030-06-24,1000000,0" ++ H "S,B,CA,2030-06-24,600000,5840" ++ H "S,R,ON,2030-06-24,300000,6570" ++ P "0,1,600001" ++ P "0,2,300000")
    "X,15,0,0\r\n"
    ∷ []

-- 18 longer than 65,536 bytes, whatever it holds
unfoldable pub too_long : List Case
too_long =
    prints "65,537 commas" (replicate 65537 0x2C) "X,18,0,0\r\n"
    ∷ []

-- from the bytes of a file to the bytes that are printed: files that are accepted
unfoldable pub accepted_files : List Case
accepted_files =
    -- the last CRLF is optional, and a quoted field is its text
    prints "quotes, and no CRLF at the end"
    (D ++ H "\"L\",C,CA,2025-01-02,1,0" ++ H "S,\"B\",CA,2025-01-02,1,8" ++ ascii "P,0,1,1,\"\"" ++ drop 1 empty_fields) "M,2,1\r\nR,0,0,0\r\nR,1,0,0\r\n"
    ∷ []

-- R goes by the ranking
unfoldable pub ranked_file : List Case
ranked_file =
    prints "R in ranking order" (D ++ H "L,B,CA,2025-01-02,1,0" ++ H "L,B,CA,2025-01-02,3,0") "M,16,1\r\nR,1,3,12\r\nR,0,1,4\r\n"
    ∷ []

-- and files that are refused by the check, the empty book, and a lone CRLF
unfoldable pub files : List Case
files =
    -- 0 or 36,501 days: 7. Value 100,000,000,001: 8
    prints "a file with 0 days" (D ++ H "L,R,ON,2025-01-01,100,0") "X,7,0,0\r\n"
    ∷ prints "a file with 100 years and a day" (D ++ H "L,R,ON,2125-01-02,100,0") "X,7,0,0\r\n"
    ∷ prints "a file with value 100,000,000,001" (D ++ H "L,B,CA,2025-01-02,100000000001,0") "X,8,0,0\r\n"
    -- D alone is the empty book, for which M,0,0 is printed alone; a lone CRLF is a record of one field
    ∷ prints "D alone, the empty book" D "M,0,0\r\n"
    ∷ prints "a lone CRLF" (ascii "\r\n") "X,20,0,0\r\n"
    ∷ []

-- each refusal of a record at its place
unfoldable pub record_places : List Case
record_places =
    -- 19 a bare line feed; 21 a leading zero; 22 H after P, each at its record
    prints "a bare line feed" (D ++ H "L,B,CA,2025-01-02,1,0" ++ unended (H "L,B,CA,2025-01-02,1,0") ++ ascii "\n") "X,19,2,0\r\n"
    ∷ prints "a leading zero" (D ++ H "L,B,CA,2025-01-02,1,0" ++ H "L,B,CA,2025-01-02,01,0") "X,21,2,0\r\n"
    ∷ prints "H after P" (D ++ H "L,B,CA,2025-01-02,1,0" ++ P "0,0,1" ++ H "L,B,CA,2025-01-02,1,0") "X,22,3,0\r\n"
    ∷ []

-- how long a numeral of an H may be
unfoldable pub holding_numerals : List Case
holding_numerals =
    prints "a value of 13 digits" (D ++ H "L,B,CA,2025-01-02,1000000000000,0") "X,21,1,0\r\n"
    ∷ prints "a value of 12 digits" (D ++ H "L,B,CA,2025-01-02,999999999999,0") "X,8,0,0\r\n"
    ∷ prints "a price of seven digits" (D ++ H "L,B,CA,2025-01-02,1,1000000") "X,21,1,0\r\n"
    ∷ prints "a price of six digits, at holding 1" (D ++ H "L,B,CA,2025-01-02,1,43800" ++ H "L,B,CA,2025-01-02,1,999999") "X,10,1,0\r\n"
    ∷ []

-- and one of a P
unfoldable pub line_numerals : List Case
line_numerals =
    prints "an amount of 13 digits" (D ++ P "0,0,1000000000000") "X,21,1,0\r\n"
    ∷ prints "an amount of 12 digits, with no H before" (D ++ P "0,0,999999999999") "X,11,0,0\r\n"
    ∷ prints "a long of seven digits" (D ++ P "1000000,0,1") "X,21,1,0\r\n"
    ∷ prints "a short of seven digits" (D ++ P "0,1000000,1") "X,21,1,0\r\n"
    ∷ prints "a long and a short of six digits" (D ++ P "999999,999999,1") "X,11,0,0\r\n"
    ∷ []

-- one record at fault: 19, 20, 21 each at its record and before the next
unfoldable pub record_faults : List Case
record_faults =
    prints "an unknown letter" (D ++ ascii "Q" ++ drop 1 (H "L,B,CA,2025-01-02,1,0")) "X,21,1,0\r\n"
    ∷ prints "ten fields, at record 2" (D ++ H "L,B,CA,2025-01-02,1,0" ++ H "L,B,CA,2025-01-02,1,0,") "X,20,2,0\r\n"
    ∷ prints "a fifth field that is filled" (D ++ ascii "P,0,0,1,0" ++ drop 1 empty_fields ++ ascii "\r\n") "X,21,1,0\r\n"
    ∷ prints "a sixth field that is filled" (D ++ ascii "P,0,0,1,,0" ++ drop 2 empty_fields ++ ascii "\r\n") "X,21,1,0\r\n"
    ∷ prints "a seventh field that is filled" (D ++ ascii "P,0,0,1,,,0" ++ drop 3 empty_fields ++ ascii "\r\n") "X,21,1,0\r\n"
    ∷ prints "a record is finished before the next" (D ++ H "L,B,CA,2025-01-02,01,0" ++ unended (H "L,B,CA,2025-01-02,1,0") ++ ascii "\n") "X,21,1,0\r\n"
    ∷ prints "19 before 20" (D ++ unended (H "L,B,CA,2025-01-02,1,0,,") ++ ascii "\n") "X,19,1,0\r\n"
    ∷ prints "20 before 21" (D ++ ascii "Q" ++ drop 1 (H "L,B,CA,2025-01-02,1")) "X,20,1,0\r\n"
    ∷ []

-- what a host lends: 1 for columns that differ or hold no whole numbers, 2 for lists that are too short, and else 24 for the zeros that the columns hold;
-- what columns hold; the answer slice
unfoldable pub lending : List Case
lending =
    lengths "all lengths right, lists of 21 bytes, or more lines than holdings" (right ∷ (take 11 right ++ replicate 3 21) ∷ more_lines ∷ []) 24
    ∷ lengths "nothing but the answer" ((replicate 13 0 ++ (16 ∷ [])) ∷ []) 0
    ∷ lengths "1 before 2" (set (set right 7 8) 13 15 ∷ []) 1
    ∷ lengths "one side, kind, issuer, maturity, value, currency, rating or price" (map (λ j. set right j 8) (0 ∷ 1 ∷ 2 ∷ 3 ∷ 4 ∷ 5 ∷ 6 ∷ 7 ∷ [])) 1
    ∷ lengths "three currencies, three ratings, three prices, two longs, no short, or two amounts"
    (set right 5 24 ∷ set right 6 24 ∷ set right 7 24 ∷ set right 8 16 ∷ set right 9 0 ∷ set right 10 16 ∷ []) 1
    ∷ lengths "one column of the holdings of 17 bytes, or of the lines of 9"
    (map (λ j. set right j 17) (0 ∷ 1 ∷ 2 ∷ 3 ∷ 4 ∷ 5 ∷ 6 ∷ 7 ∷ []) ++ map (λ j. set right j 9) (8 ∷ 9 ∷ 10 ∷ [])) 1
    ∷ lengths "holdings of 21 bytes, or lines of 13" ((replicate 8 21 ++ drop 8 right) ∷ (take 8 right ++ replicate 3 13 ++ drop 11 right) ∷ []) 1
    ∷ lengths "one remainder, one rank, or an answer of 15 bytes" (set right 11 15 ∷ set right 12 15 ∷ set right 13 15 ∷ []) 2
    ∷ columns "the columns, each number by its name" (rated 13 (of 6 (row 1 2 3 4 5)) ∷ []) (7 ∷ []) (line 8 9 10 ∷ [])
    (flat_map (λ n. n ∷ 11 ∷ []) (1 ∷ 2 ∷ 3 ∷ 4 ∷ 5 ∷ 6 ∷ 13 ∷ 7 ∷ 8 ∷ 9 ∷ 10 ∷ [])
    ++ (1 ∷ 2 ∷ 3 ∷ 4 ∷ 5 ∷ 6 ∷ 13 ∷ 11 ∷ 11 ∷ 11 ∷ 11 ∷ 11 ∷ 11 ∷ 11 ∷ 7 ∷ 11 ∷ 8 ∷ 9 ∷ 10 ∷ 11 ∷ 11 ∷ 11 ∷ 12 ∷ 14 ∷ []))
    ∷ slice "15 bytes stay as they were" (replicate 15 9) (replicate 15 9)
    ∷ slice "20 bytes keep the last four" (replicate 20 9) (1 ∷ 0 ∷ 0 ∷ 0 ∷ 0 ∷ 0 ∷ 0 ∷ 0 ∷ 2 ∷ 0 ∷ 0 ∷ 0 ∷ 0 ∷ 0 ∷ 0 ∷ 0 ∷ 9 ∷ 9 ∷ 9 ∷ 9 ∷ [])
    ∷ []

-- what the reader answers to a text and to what is lent: the counts
unfoldable pub reading : List Case
reading =
    answers "read: two holdings, one line" (right ∷ []) (D ++ H "L,B,CA,2025-01-02,1,0" ++ H "L,B,CA,2025-01-02,1,0" ++ P "0,0,1") 16 16 (0 ∷ 2 ∷ 1 ∷ [])
    ∷ answers "read: one holding, two lines" (more_lines ∷ []) (D ++ H "L,B,CA,2025-01-02,1,0" ++ P "0,0,1" ++ P "0,0,1") 16 16 (0 ∷ 1 ∷ 2 ∷ [])
    ∷ answers "read: D alone into empty columns" ([] ∷ []) D 16 16 (0 ∷ 0 ∷ 0 ∷ [])
    ∷ []

-- or 2 after all records
unfoldable pub reading_short : List Case
reading_short =
    answers "read, and one column too short" (map (λ j. set right j 15) (0 ∷ 1 ∷ 2 ∷ 3 ∷ 4 ∷ 5 ∷ 6 ∷ 7 ∷ []) ++ map (λ j. set right j 7) (8 ∷ 9 ∷ 10 ∷ []))
    (D ++ H "L,B,CA,2025-01-02,1,0" ++ H "L,B,CA,2025-01-02,1,0" ++ P "0,0,1") 16 16 (2 ∷ 0 ∷ 0 ∷ [])
    ∷ answers "read, and an answer of 15 bytes" (right ∷ []) (D ++ H "L,B,CA,2025-01-02,1,0") 16 15 (2 ∷ 0 ∷ 0 ∷ [])
    ∷ answers "a bad record before a list and an answer too short" ([] ∷ []) (D ++ H "L,B,CA,2025-01-02,1,0" ++ H "L,B,CA,2025-01-02,01,0") 0 15 (21 ∷ 2 ∷ 0 ∷ [])
    ∷ []

-- one record too many: the reader's 3 and 9 name no place, and 22 comes before 3
unfoldable pub too_many : List Case
too_many =
    record_case "a 257th holding in a file" (valuation ∷ replicate 257 holding) 257 (3 ∷ 0 ∷ 0 ∷ [])
    ∷ record_case "a 513th line in a file" (valuation ∷ holding ∷ replicate 513 pairing) 514 (9 ∷ 0 ∷ 0 ∷ [])
    ∷ record_case "a 257th holding after a line" (valuation ∷ replicate 256 holding ++ (pairing ∷ holding ∷ [])) 258 (22 ∷ 258 ∷ 0 ∷ [])
    ∷ record_case "a D after 256 holdings" (valuation ∷ replicate 256 holding ++ (valuation ∷ [])) 257 (22 ∷ 257 ∷ 0 ∷ [])
    ∷ record_case "the 256th holding" (valuation ∷ replicate 256 holding) 256 (0 ∷ 0 ∷ 0 ∷ [])
    ∷ record_case "the 512th line" (valuation ∷ replicate 512 pairing) 512 (0 ∷ 0 ∷ 0 ∷ [])
    ∷ []

-- the letters and codes of the file, each with its number, and texts that are none; TEXTDATA at its ends; numbers as bytes
unfoldable pub texts : List Case
texts =
    lists "how many letters, accounts, sides, kinds, issuers, currencies and ratings" (letters ∷ accounts ∷ sides ∷ kinds ∷ issuers ∷ currencies ∷ ratings ∷ [])
    (3 ∷ 2 ∷ 2 ∷ 3 ∷ 13 ∷ 3 ∷ 3 ∷ [])
    ∷ fields "a letter with other than eight fields after it" ("D" ∷ "H" ∷ "P" ∷ []) (0 ∷ 1 ∷ 2 ∷ 3 ∷ 4 ∷ 5 ∷ 6 ∷ 7 ∷ 9 ∷ 10 ∷ 20 ∷ []) 20
    ∷ fields "a letter with eight empty fields after it" ("D" ∷ "H" ∷ "P" ∷ []) (8 ∷ []) 21
    ∷ letter "the letters" ("D" ∷ "H" ∷ "P" ∷ []) (0 ∷ 1 ∷ 2 ∷ [])
    ∷ letter "no letters" ("d" ∷ "h" ∷ "p" ∷ "M" ∷ "" ∷ []) []
    ∷ code "the sides" Side ("L" ∷ "S" ∷ []) (0 ∷ 1 ∷ [])
    ∷ code "no sides" Side ("s" ∷ []) []
    ∷ code "the kinds" Kind ("B" ∷ "C" ∷ "R" ∷ []) (0 ∷ 1 ∷ 2 ∷ [])
    ∷ code "no kinds" Kind ("c" ∷ "M" ∷ []) []
    ∷ code "the issuers" Issuer ("CA" ∷ "AB" ∷ "BC" ∷ "MB" ∷ "NB" ∷ "NL" ∷ "NS" ∷ "ON" ∷ "PE" ∷ "QC" ∷ "SK" ∷ "US" ∷ "GB" ∷ [])
    (0 ∷ 1 ∷ 2 ∷ 3 ∷ 4 ∷ 5 ∷ 6 ∷ 7 ∷ 8 ∷ 9 ∷ 10 ∷ 11 ∷ 12 ∷ [])
    ∷ code "no issuers" Issuer ("YT" ∷ "NT" ∷ "NU" ∷ "UK" ∷ "ca" ∷ "C" ∷ "CAA" ∷ "" ∷ []) []
    ∷ code "the currencies" Currency ("CAD" ∷ "USD" ∷ "GBP" ∷ []) (0 ∷ 1 ∷ 2 ∷ [])
    ∷ code "no currencies" Currency ("EUR" ∷ "cad" ∷ "CA" ∷ "CADX" ∷ "" ∷ []) []
    ∷ byte "TEXTDATA, at its ends" 1 1 (0x20 ∷ 0x21 ∷ 0x23 ∷ 0x2B ∷ 0x2D ∷ 0x7E ∷ [])
    ∷ byte "LF, CR and the comma: in quotes alone" 0 1 (0x0A ∷ 0x0D ∷ 0x2C ∷ [])
    ∷ byte "a tab, the quote, DEL and what is not printed: neither" 0 0 (0x09 ∷ 0x1F ∷ 0x22 ∷ 0x7F ∷ 0x80 ∷ [])
    ∷ decodes "eight bytes, the lowest first, and five more" (1 ∷ 2 ∷ 0 ∷ 0 ∷ 0 ∷ 0 ∷ 0 ∷ 3 ∷ 9 ∷ 9 ∷ 9 ∷ 9 ∷ 9 ∷ []) (216172782113784321 ∷ [])
    ∷ encodes "a number in eight bytes" (216172782113784321 ∷ []) (1 ∷ 2 ∷ 0 ∷ 0 ∷ 0 ∷ 0 ∷ 0 ∷ 3 ∷ [])
    ∷ []

-- books and proposals from their numbers: the file's, and the empty book
unfoldable pub file_proposals : List Case
file_proposals =
    -- the file with another price or amount
    proposal "third price 6,569, from the numbers" file (0 ∷ 5840 ∷ 6569 ∷ []) (file_lines 600000) (16 ∷ 0 ∷ 2 ∷ [])
    ∷ proposal "first price 1, from the numbers" file (1 ∷ 5840 ∷ 6570 ∷ []) (file_lines 600000) (17 ∷ 0 ∷ 0 ∷ [])
    ∷ proposal "first amount 600,001, from the numbers" file (0 ∷ 5840 ∷ 6570 ∷ []) (file_lines 600001) (15 ∷ 0 ∷ 0 ∷ [])
    -- the empty book, and a line on it
    ∷ proposal "the empty book" [] [] [] (0 ∷ 0 ∷ 0 ∷ [])
    ∷ proposal "a line on the empty book" [] [] (line 0 0 1 ∷ []) (11 ∷ 0 ∷ 0 ∷ [])
    ∷ []

-- "Shortcuts that cost margin or hide it"
unfoldable pub shortcuts : List Case
shortcuts =
    -- "Largest saving first": each coupon with the other side's bond gives 40 cents; coupon with coupon, which gives 80, is refused
    proposal "largest saving first: each coupon with the other side's bond" four four_prices (line 0 3 1000 ∷ line 1 2 1000 ∷ [])
    (0 ∷ 5840000 ∷ 40 ∷ 0 ∷ 0 ∷ 0 ∷ 0 ∷ 0 ∷ 1 ∷ 2 ∷ 3 ∷ [])
    ∷ figures "largest saving first: coupon with coupon gives 80 cents" four (line 0 2 1000 ∷ []) (11680000 ∷ 80 ∷ 0 ∷ 0 ∷ [])
    ∷ proposal "largest saving first: coupon with coupon is refused" four four_prices (line 0 2 1000 ∷ []) (17 ∷ 0 ∷ 0 ∷ [])
    -- "Testing cover on the proposed lines only": the line is covered, the pairs of 0 and 3 and of 1 and 2 in no line are not; the lowest long comes first
    ∷ proposal "cover on the proposed lines only, and the lowest long first" four (8760 ∷ 0 ∷ 8760 ∷ 0 ∷ []) (line 0 2 1000 ∷ []) (16 ∷ 0 ∷ 3 ∷ [])
    -- "Pairing across 4,015 days because the rates agree": across 11 years
    ∷ proposal "pairing across 11 years" (row L C CA 20360101 100 ∷ row S C CA 20360102 100 ∷ []) (8760 ∷ 8760 ∷ []) (line 0 1 100 ∷ []) (13 ∷ 0 ∷ 0 ∷ [])
    -- "Rounding each line": two lines of 2 units are 4 units, 1 cent and not 2
    ∷ proposal "rounding each line" (two 2 2) (8 ∷ 0 ∷ []) (line 0 1 1 ∷ line 0 1 1 ∷ []) (0 ∷ 4 ∷ 1 ∷ 0 ∷ 0 ∷ 0 ∷ 1 ∷ [])
    ∷ []

-- prices, the lowest uncovered pair, and the ranking
unfoldable pub proposals : List Case
proposals =
    -- each holding has its own price: prices of 8 and 0 cover, 0 and 8 cover at another total
    proposal "the prices exchanged" (two 2 1) (0 ∷ 8 ∷ []) (line 0 1 1 ∷ []) (0 ∷ 8 ∷ 1 ∷ 1 ∷ 0 ∷ 0 ∷ 1 ∷ [])
    ∷ proposal "the price on the larger holding" (two 2 1) (8 ∷ 0 ∷ []) (line 0 1 1 ∷ []) (17 ∷ 0 ∷ 0 ∷ [])
    -- of a long's uncovered pairs that of the lowest short
    ∷ proposal "16 at the lowest short of a long"
    (row S C ON 20300624 1000 ∷ row L C ON 20300624 1000 ∷ row S C ON 20300624 1000 ∷ row L C ON 20300624 1000 ∷ []) (0 ∷ 0 ∷ 0 ∷ 0 ∷ []) [] (16 ∷ 1 ∷ 0 ∷ [])
    -- the ranking: larger margin first, a tie by lower number
    ∷ proposal "the ranking"
    (row L B CA 20250102 1 ∷ row L B CA 20250102 3 ∷ row L B CA 20250102 1 ∷ row L B CA 20250102 4 ∷ [])
    (0 ∷ 0 ∷ 0 ∷ 0 ∷ []) [] (0 ∷ 36 ∷ 1 ∷ 1 ∷ 3 ∷ 1 ∷ 4 ∷ 3 ∷ 1 ∷ 0 ∷ 2 ∷ [])
    ∷ proposal "the ranking by margin and not by value" (row L B CA 20250102 3 ∷ row L C ON 20250102 2 ∷ []) (0 ∷ 0 ∷ []) [] (0 ∷ 36 ∷ 1 ∷ 3 ∷ 2 ∷ 1 ∷ 0 ∷ [])
    ∷ []

-- the refusals of lines, each with its place
unfoldable pub line_refusals : List Case
line_refusals =
    -- each refusal of a line, and its place
    proposal "11 at line 1" (two 2 2) (8 ∷ 0 ∷ []) (line 0 1 1 ∷ line 0 2 1 ∷ []) (11 ∷ 1 ∷ 0 ∷ [])
    ∷ proposal "12 at line 1" (two 2 2) (8 ∷ 0 ∷ []) (line 0 1 1 ∷ line 1 0 1 ∷ []) (12 ∷ 1 ∷ 0 ∷ [])
    ∷ proposal "14 at line 1" (two 2 2) (8 ∷ 0 ∷ []) (line 0 1 1 ∷ line 0 1 0 ∷ []) (14 ∷ 1 ∷ 0 ∷ [])
    ∷ proposal "15 at line 1" (two 2 2) (8 ∷ 0 ∷ []) (line 0 1 1 ∷ line 0 1 2 ∷ []) (15 ∷ 1 ∷ 0 ∷ [])
    ∷ proposal "15 for the largest amount" (two 2 1) (8 ∷ 0 ∷ []) (line 0 1 18446744073709551615 ∷ []) (15 ∷ 0 ∷ 0 ∷ [])
    -- the first of several on one line: 11 before 12, 12 before 14, 13 before 14 and 15; 15 before 16, 16 before 17
    ∷ proposal "11 before 12" (two 2 2) (8 ∷ 0 ∷ []) (line 2 0 1 ∷ []) (11 ∷ 0 ∷ 0 ∷ [])
    ∷ proposal "12 before 14" (two 2 2) (8 ∷ 0 ∷ []) (line 1 0 0 ∷ []) (12 ∷ 0 ∷ 0 ∷ [])
    ∷ proposal "13 before 14" bonds (0 ∷ 0 ∷ []) (line 0 1 0 ∷ []) (13 ∷ 0 ∷ 0 ∷ [])
    ∷ proposal "13 before 15" bonds (0 ∷ 0 ∷ []) (line 0 1 5 ∷ []) (13 ∷ 0 ∷ 0 ∷ [])
    ∷ proposal "15 before 16" (two 2 2) (0 ∷ 0 ∷ []) (line 0 1 3 ∷ []) (15 ∷ 0 ∷ 0 ∷ [])
    ∷ proposal "16 before 17" (two 2 2) (0 ∷ 0 ∷ []) (line 0 1 1 ∷ []) (16 ∷ 0 ∷ 1 ∷ [])
    -- one leg alone at fault, and the line after
    ∷ proposal "12 by the second leg alone" (row L C CA 20250102 2 ∷ row L B CA 20250102 2 ∷ []) (0 ∷ 0 ∷ []) (line 0 1 1 ∷ []) (12 ∷ 0 ∷ 0 ∷ [])
    ∷ proposal "12 by the first leg alone" (row S C CA 20250102 2 ∷ row S B CA 20250102 2 ∷ []) (0 ∷ 0 ∷ []) (line 0 1 1 ∷ []) (12 ∷ 0 ∷ 0 ∷ [])
    ∷ proposal "15 by the long leg alone" (two 1 2) (8 ∷ 0 ∷ []) (line 0 1 2 ∷ []) (15 ∷ 0 ∷ 0 ∷ [])
    ∷ proposal "15 by the short leg alone" (two 2 1) (8 ∷ 0 ∷ []) (line 0 1 2 ∷ []) (15 ∷ 0 ∷ 0 ∷ [])
    ∷ proposal "13 at line 1" (row L C CA 20250102 2 ∷ row S B CA 20250102 2 ∷ row S C CA 20260102 2 ∷ []) (8 ∷ 0 ∷ 0 ∷ []) (line 0 1 1 ∷ line 0 2 1 ∷ []) (13 ∷ 1 ∷ 0 ∷ [])
    ∷ proposal "a line is finished before the next" (two 2 2) (8 ∷ 0 ∷ []) (line 0 1 3 ∷ line 0 2 1 ∷ []) (15 ∷ 0 ∷ 0 ∷ [])
    ∷ []

-- the refusals of holdings, each with its place, and the order of all refusals
unfoldable pub refusals : List Case
refusals =
    -- a holding is finished before the next, its value before its currency before its price; holdings come before lines
    proposal "8 before 10, and holdings before lines" (two 2 0) (8 ∷ 43801 ∷ []) (line 0 2 1 ∷ []) (8 ∷ 1 ∷ 0 ∷ [])
    ∷ proposal "23 before 10, at holding 1" (row L C CA 20250102 2 ∷ of 3 (row S B CA 20250102 2) ∷ []) (8 ∷ 43801 ∷ []) (line 0 2 1 ∷ []) (23 ∷ 1 ∷ 0 ∷ [])
    ∷ proposal "23 before the largest price, and before 4 of the next holding" (of 3 (row L C CA 20250102 2) ∷ row 2 B CA 20250102 2 ∷ []) (most ∷ 0 ∷ []) [] (23 ∷ 0 ∷ 0 ∷ [])
    ∷ proposal "10 before 23 of the next holding" (row L C CA 20250102 2 ∷ of 3 (row S B CA 20250102 2) ∷ []) (43801 ∷ 0 ∷ []) [] (10 ∷ 0 ∷ 0 ∷ [])
    ∷ proposal "10 at holding 1" (two 2 2) (43800 ∷ 43801 ∷ []) [] (10 ∷ 1 ∷ 0 ∷ [])
    ∷ proposal "a holding is finished before the next" (two 2 0) (43801 ∷ 0 ∷ []) (line 0 2 1 ∷ []) (10 ∷ 0 ∷ 0 ∷ [])
    -- 257 holdings: 3; 513 lines: 9; both: 3
    ∷ proposal "257 holdings" (replicate 257 (row L B CA 20250102 1)) [] [] (3 ∷ 0 ∷ 0 ∷ [])
    ∷ proposal "513 lines" [] [] (replicate 513 (line 0 0 1)) (9 ∷ 0 ∷ 0 ∷ [])
    ∷ proposal "257 holdings and 513 lines" (replicate 257 (row 2 B CA 20250102 1)) [] (replicate 513 (line 0 0 1)) (3 ∷ 0 ∷ 0 ∷ [])
    -- 1, 3, 9, 2, and then the holdings
    ∷ lent "1 before 3, 9, 2 and 4" true true (replicate 257 (row 2 B CA 20250102 1)) (replicate 513 (line 0 0 1)) (1 ∷ 0 ∷ 0 ∷ [])
    ∷ lent "3 before 9, 2 and 4" false true (replicate 257 (row 2 B CA 20250102 1)) (replicate 513 (line 0 0 1)) (3 ∷ 0 ∷ 0 ∷ [])
    ∷ lent "9 before 2 and 4" false true (row 2 B CA 20250102 1 ∷ []) (replicate 513 (line 0 0 1)) (9 ∷ 0 ∷ 0 ∷ [])
    ∷ lent "2 before 4" false true (row 2 B CA 20250102 1 ∷ []) (line 0 0 1 ∷ []) (2 ∷ 0 ∷ 0 ∷ [])
    ∷ lent "2 before 23" false true (of 3 (row L B CA 20250102 1) ∷ []) (line 0 0 1 ∷ []) (2 ∷ 0 ∷ 0 ∷ [])
    ∷ lent "4 before 11" false false (row 2 B CA 20250102 1 ∷ []) (line 0 0 1 ∷ []) (4 ∷ 0 ∷ 0 ∷ [])
    ∷ []
