-- A number of a part's first bytes is one of the whole's. Assumes nothing.
use mathlib.Core.Path.{◌≡◌, sym}
use mathlib.Core.List.{List, ◌++◌}
use Prim.Native.Nat.{ℕ, ◌≤◌}
use native.Mathlib.Omega.{arith}
use lib.ListN.{length, take, length-append}
use lib.Seq.{length-take-le}

pub within-whole : (n : ℕ) (part rest : List ℕ) → n ≤ length part → (n ≤ length (part ++ rest)) × (n ≡ length (take n (part ++ rest)))
within-whole n part rest h =
    let few : n ≤ length (part ++ rest) = omega (arith, length-append part rest) in
    (few, sym (length-take-le n (part ++ rest) few))
