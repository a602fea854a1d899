-- Document 02 g), "Provincial bonds pair within their province": each province with itself, with the next one and with Canada, strips across provinces, clients,
-- the least margin among these pairs, and files. Assumes nothing.
use mathlib.Core.List.{List, [], ◌∷◌, ◌++◌, flat_map}
use Prim.Native.Nat.{ℕ, suc}
use Rattle.holding.specs.declared.Row.{Row}
use Rattle.edges.proofs.Cases.{Case, pair, pairs, pairs_by, no_pair, no_pairs, no_pairs_by, proposal, proposal_by, prints, D, D_by, H, P}
use Rattle.edges.proofs.Cases.{client, line, row, L, S, B, C, R, CA, ON, QC, CAD, none}
use Rattle.edges.proofs.Corporate.{long, short}
use Rattle.edges.proofs.Clients.{domestic}

-- a bond and a strip, each way round, and two strips
abbrev bond_kinds : List (ℕ × ℕ)
bond_kinds = (B, C) ∷ (C, B) ∷ (B, R) ∷ (R, B) ∷ []

abbrev strip_kinds : List (ℕ × ℕ)
strip_kinds = (C, C) ∷ (C, R) ∷ (R, C) ∷ (R, R) ∷ []

-- all but the last
abbrev earlier : List ℕ
earlier = 1 ∷ 2 ∷ 3 ∷ 4 ∷ 5 ∷ 6 ∷ 7 ∷ 8 ∷ 9 ∷ []

abbrev provinces : List ℕ
provinces = earlier ++ (10 ∷ [])

-- a provincial bond pairs with a provincial strip only if the province is the same; strips among themselves pair across provinces
unfoldable pub ontario : List Case
ontario =
    pair "ON bond with ON strip" (long B ON CAD none) (short C ON CAD none) 2920 11680
    ∷ no_pair "ON bond with QC strip" (long B ON CAD none) (short C QC CAD none) 13
    ∷ no_pair "QC strip with ON bond" (long R QC CAD none) (short B ON CAD none) 13
    ∷ pair "ON strip with QC strip" (long C ON CAD none) (short R QC CAD none) 0 17520
    ∷ []

unfoldable pub within_province : List Case
within_province =
    pairs "bond with strip of each province" (flat_map (λ p. domestic p p bond_kinds) provinces) 2920 11680
    ∷ pairs "ON bond 5,000 days with ON coupon 8,000 days" ((row L B ON 20380910 100, row S C ON 20461127 100) ∷ []) 14600 14600
    ∷ pairs "ON residual and bond of a day" ((row L R ON 20250102 100, row S B ON 20250102 100) ∷ []) 4 16
    ∷ []

unfoldable pub two_provinces : List Case
two_provinces =
    no_pairs "bond with strip of ON and QC" (domestic ON QC bond_kinds ++ domestic QC ON bond_kinds)
    ∷ no_pairs "bond with strip of the first and the last" (domestic 1 10 bond_kinds)
    ∷ []

unfoldable pub next_province : List Case
next_province =
    no_pairs "bond with strip of a province and the next" (flat_map (λ p. domestic p (suc p) ((B, C) ∷ (R, B) ∷ [])) earlier)
    ∷ []

unfoldable pub across_provinces : List Case
across_provinces =
    pairs "strip with strip of a province and the next" (flat_map (λ p. domestic p (suc p) strip_kinds) earlier) 0 17520
    ∷ pairs "strip with strip of each province" (flat_map (λ p. domestic p p strip_kinds) provinces) 0 17520
    ∷ []

-- Canada with a province is as before
unfoldable pub canada_and_province : List Case
canada_and_province =
    pairs "Canada strip with bond of each province" (flat_map (λ p. domestic CA p ((C, B) ∷ (R, B) ∷ []) ++ domestic p CA ((B, C) ∷ (B, R) ∷ [])) provinces) 5110 5110
    ∷ pairs "Canada bond with strip of each province" (flat_map (λ p. domestic CA p ((B, C) ∷ (B, R) ∷ []) ++ domestic p CA ((C, B) ∷ (R, B) ∷ [])) provinces) 5840 5840
    ∷ []

unfoldable pub client_provinces : List Case
client_provinces =
    pairs_by client "a client's bond with strip of ON" (domestic ON ON bond_kinds) 2920 11680
    ∷ no_pairs_by client "a client's bond with strip of ON and QC" (domestic ON QC bond_kinds)
    ∷ pairs_by client "a client's strips of ON and QC" (domestic ON QC strip_kinds) 0 17520
    ∷ []

-- an ON bond and a QC coupon, each of 100 cents
abbrev apart : List Row
apart = long B ON CAD none ∷ short C QC CAD none ∷ []

-- they are no line, and have no price between them
unfoldable pub provinces_apart : List Case
provinces_apart =
    proposal "a line of an ON bond and a QC coupon" apart (11680 ∷ 0 ∷ []) (line 0 1 100 ∷ []) (13 ∷ 0 ∷ 0 ∷ [])
    ∷ proposal "an ON bond and a QC coupon unpaired" apart (0 ∷ 0 ∷ []) [] (0 ∷ 1460000 ∷ 10 ∷ 100 ∷ 100 ∷ 1 ∷ 0 ∷ [])
    ∷ proposal "an ON bond and a QC coupon at the prices of a pair" apart (11680 ∷ 0 ∷ []) [] (17 ∷ 0 ∷ 0 ∷ [])
    ∷ proposal "an ON bond and an ON coupon not covered" (long B ON CAD none ∷ short C ON CAD none ∷ []) (0 ∷ 0 ∷ []) [] (16 ∷ 0 ∷ 1 ∷ [])
    ∷ proposal_by client "a client's line of an ON bond and a QC coupon" apart (11680 ∷ 0 ∷ []) (line 0 1 100 ∷ []) (13 ∷ 0 ∷ 0 ∷ [])
    ∷ []

-- the same with an ON coupon of 50 cents, and with a QC coupon that is long, which has both
abbrev with_ontario : List Row
with_ontario = apart ++ (row S C ON 20300624 50 ∷ [])

abbrev with_quebec : List Row
with_quebec = with_ontario ++ (long C QC CAD none ∷ [])

-- the lowest margin is counted among these fewer pairs
unfoldable pub least_within : List Case
least_within =
    proposal "the bond with the coupon of its province" with_ontario (0 ∷ 0 ∷ 11680 ∷ []) (line 0 2 50 ∷ []) (0 ∷ 1314000 ∷ 9 ∷ 50 ∷ 100 ∷ 0 ∷ 1 ∷ 0 ∷ 2 ∷ [])
    ∷ proposal "the bond with both coupons" with_ontario (0 ∷ 0 ∷ 11680 ∷ []) (line 0 2 50 ∷ line 0 1 50 ∷ []) (13 ∷ 1 ∷ 0 ∷ [])
    ∷ proposal "the bond with neither coupon" with_ontario (0 ∷ 0 ∷ 11680 ∷ []) [] (17 ∷ 0 ∷ 0 ∷ [])
    ∷ []

unfoldable pub least_across : List Case
least_across =
    proposal "the QC coupons with each other, the ON coupon with the bond" with_quebec (0 ∷ 5840 ∷ 11680 ∷ 11680 ∷ []) (line 0 2 50 ∷ line 3 1 100 ∷ [])
    (0 ∷ 438000 ∷ 3 ∷ 50 ∷ 0 ∷ 0 ∷ 0 ∷ 0 ∷ 1 ∷ 2 ∷ 3 ∷ [])
    ∷ proposal "the QC coupon with the ON coupon, across provinces, is not the least" with_quebec (0 ∷ 5840 ∷ 11680 ∷ 11680 ∷ []) (line 3 2 50 ∷ line 3 1 50 ∷ []) (17 ∷ 0 ∷ 0 ∷ [])
    ∷ []

-- files, from their bytes to the bytes that are printed
unfoldable pub province_files : List Case
province_files =
    prints "a file with a line of one province" (D ++ H "L,B,ON,2030-06-24,100,11680" ++ H "S,C,ON,2030-06-24,100,0" ++ P "0,1,100") "M,292000,2\r\nR,0,0,0\r\nR,1,0,0\r\n"
    ∷ prints "a file with a line of two provinces" (D ++ H "L,B,ON,2030-06-24,100,11680" ++ H "S,C,QC,2030-06-24,100,0" ++ P "0,1,100") "X,13,0,0\r\n"
    ∷ prints "a client's" (D_by "2025-01-01" "C" ++ H "L,B,ON,2030-06-24,100,11680" ++ H "S,C,QC,2030-06-24,100,0" ++ P "0,1,100") "X,13,0,0\r\n"
    ∷ []

unfoldable pub apart_file : List Case
apart_file =
    prints "a file of two provinces, unpaired" (D ++ H "L,B,ON,2030-06-24,100,0" ++ H "S,C,QC,2030-06-24,100,0") "M,1460000,10\r\nR,1,100,876000\r\nR,0,100,584000\r\n"
    ∷ []
