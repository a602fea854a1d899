-- Document 01, "Edges": the sentences marked * for proof, valued on 2025-01-01 by document 02 b): a multiple of 365 days is that anniversary, a day beside
-- it the day beside that, and any other number of days is counted. Assumes nothing.
use mathlib.Core.List.{List, [], ◌∷◌, ◌++◌}
use Rattle.edges.proofs.Cases.{Case, rate, pair, no_pair, proposal, figures, prints, D, H, P, row, L, S, B, C, R, CA, ON, QC, file, file_lines}

-- from raw numbers on
unfoldable pub starred : List Case
starred =
    -- Canada bond 365 and 366 days: 1,460 both
    rate "* Canada bond 1 year" (row L B CA 20260101 100) 1460
    ∷ rate "* Canada bond 1 year and a day" (row L B CA 20260102 100) 1460
    -- Province bond: 2,920, 4,380
    ∷ rate "* province bond 1 year" (row L B ON 20260101 100) 2920
    ∷ rate "* province bond 1 year and a day" (row L B ON 20260102 100) 4380
    -- Canada bond 1,095: 1,460; 1,096: 2,920
    ∷ rate "* Canada bond 3 years" (row L B CA 20280101 100) 1460
    ∷ rate "* Canada bond 3 years and a day" (row L B CA 20280102 100) 2920
    -- Canada coupon 1 day: 6; 7,299: 8,760
    ∷ rate "* Canada coupon 1 day" (row L C CA 20250102 100) 6
    ∷ rate "* Canada coupon 20 years less a day" (row L C CA 20441231 100) 8760
    -- 7,300: 17,520
    ∷ rate "* Canada coupon 20 years" (row L C CA 20450101 100) 17520
    -- Province residual 36,500: 21,900
    ∷ rate "* province residual 100 years" (row L R ON 21250101 100) 21900
    -- Canada coupons at 4,015 and 4,016: 13
    ∷ no_pair "* Canada coupons at 11 years and a day later" (row L C CA 20360101 100) (row S C CA 20360102 100) 13
    -- At 5,000 and 8,000: pair rate 8,760
    ∷ pair "* Canada coupons at 5,000 and 8,000 days" (row L C CA 20380910 100) (row S C CA 20461127 100) 8760 17520
    -- Bond with bond: 13
    ∷ no_pair "* Canada bond with Canada bond" (row L B CA 20300624 100) (row S B CA 20300624 100) 13
    ∷ no_pair "* ON bond with Canada bond" (row L B ON 20300624 100) (row S B CA 20300624 100) 13
    -- ON coupon with QC residual, 2,000 days: pair rate 0
    ∷ pair "* ON coupon with QC residual, 2,000 days" (row L C ON 20300624 100) (row S R QC 20300624 100) 0 17520
    -- Canada coupon with ON residual, 2,000 days: 6,570
    ∷ pair "* Canada coupon with ON residual, 2,000 days" (row L C CA 20300624 100) (row S R ON 20300624 100) 6570 6570
    -- Canada bond, 1 day, 1 cent: 4 units, 1 cent
    ∷ proposal "* Canada bond, 1 day, 1 cent" (row L B CA 20250102 1 ∷ []) (0 ∷ []) [] (0 ∷ 4 ∷ 1 ∷ 1 ∷ 0 ∷ [])
    -- The file above: 3,285,000,000 units, 22,500 cents; remainders 100,000, 0, 0; ranking 0, 1, 2; its line R,0,100000,438000000
    ∷ proposal "* the file, from its numbers" file (0 ∷ 5840 ∷ 6570 ∷ []) (file_lines 600000) (0 ∷ 3285000000 ∷ 22500 ∷ 100000 ∷ 0 ∷ 0 ∷ 0 ∷ 1 ∷ 2 ∷ [])
    ∷ figures "* the file's figures" file (file_lines 600000) (3285000000 ∷ 22500 ∷ 100000 ∷ 438000000 ∷ [])
    ∷ []

-- The file above, from its bytes to the bytes that are printed
unfoldable pub starred_file : List Case
starred_file =
    prints
    "* the file, from its bytes to the bytes that are printed"
    (D ++ H "L,C,CA,2030-06-24,1000000,0" ++ H "S,B,CA,2030-06-24,600000,5840" ++ H "S,R,ON,2030-06-24,300000,6570" ++ P "0,1,600000" ++ P "0,2,300000")
    "M,3285000000,22500\r\nR,0,100000,438000000\r\nR,1,0,0\r\nR,2,0,0\r\n"
    ∷ []
