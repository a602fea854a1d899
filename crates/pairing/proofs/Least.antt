-- Prices that cover a book, and whose priced total is a pairing's saving, show that pairing to be the least: against every pairing at
-- every N. Assumes nothing.
use mathlib.Core.Path.{◌≡◌, refl, sym, ap, ◌∙◌}
use mathlib.Core.List.{List, [], ◌∷◌}
use Prim.Native.Nat.{ℕ, ◌+◌, ◌-◌, ◌*◌, ◌≤◌, ◌<◌}
use native.Mathlib.Nat.{le_refl, mul-add, mul-le-mul_left, mul-le-mul_right, not-le_of_lt}
use native.Mathlib.Omega.{arith}
use Rattle.lists.specs.Tables.{Each, sum_to, sum_of, only}
use Rattle.lists.proofs.Sums.{sum_to_le, sum_to_eq, sum_to-add, sum_to-times, sum_to-none, sum_to-only, sum_to_product_bound}
use Rattle.pairing.specs.Pairing.{Terms, used, in_parts, saving_rate, AllowedPair, IsPairing, pair_units, rest_units, sum_at, saving, Covers, priced_total, Fair, Least}
use Rattle.pairing.specs.declared.Line.{Line}
use Rattle.pairing.proofs.Parts.{saving-parts, pairing-parts}

-- what is left of v and what is used of it, each at the rate r, make v at the rate r
left-and-used : (r v u : ℕ) → u ≤ v → r * (v - u) + r * u ≡ r * v
left-and-used r v u h = sym (mul-add r (v - u) u) ∙ ap (λ (x : ℕ). r * x) (omega arith)

module _ (T : Terms) where
  -- a weight on each holding, times what is used of it, adds up to the two weights of each line times its amount
  pub weigh : (w : ℕ → ℕ) (lines : List Line) → Each (AllowedPair T) lines
      → sum_to T.count (λ k. w k * used lines k) ≡ sum_of lines (λ l. (w l.long + w l.short) * l.amount)
  unfolding used sum_of
  weigh w [] h = sum_to-none T.count _ (λ k q. omega arith)
  weigh w (l ∷ ls) h =
      let long : ℕ → ℕ = λ k. w k * only l.long l.amount k in
      let short : ℕ → ℕ = λ k. w k * only l.short l.amount k in
      let others : ℕ → ℕ = λ k. w k * used ls k in
      let apart : sum_to T.count (λ k. w k * used (l ∷ ls) k) ≡ sum_to T.count (λ k. long k + short k + others k) =
      sum_to_eq T.count _ _ (λ k q. omega arith) in
      omega (
        arith,
        apart,
        sum_to-add T.count (λ k. long k + short k) others,
        sum_to-add T.count long short,
        sum_to-only T.count w l.long l.amount h.0.long,
        sum_to-only T.count w l.short l.amount h.0.short,
        weigh w ls h.1,
      )

  -- pair rate and saving rate are together the two rates
  rate-and-saving : Fair T → (i j : ℕ) → T.pair_rate i j + saving_rate T i j ≡ T.rate i + T.rate j
  unfolding saving_rate
  rate-and-saving fair i j = omega (arith, fair i j)

  -- and so over all lines
  units-and-saving : (lines : List Line) → Fair T
      → pair_units T lines + saving T lines ≡ sum_of lines (λ l. (T.rate l.long + T.rate l.short) * l.amount)
  unfolding pair_units saving sum_of
  units-and-saving [] fair = refl
  units-and-saving (l ∷ ls) fair =
      omega (arith, units-and-saving ls fair, ap (λ (x : ℕ). x * l.amount) (rate-and-saving fair l.long l.short))

  -- lines save no more than their two prices
  saving-priced : (price : ℕ → ℕ) (lines : List Line) → Covers T price → Each (AllowedPair T) lines
      → saving T lines ≤ sum_of lines (λ l. (price l.long + price l.short) * l.amount)
  unfolding saving sum_of
  saving-priced price [] covers h = le_refl 0
  saving-priced price (l ∷ ls) covers h =
      omega (
        arith,
        saving-priced price ls covers h.1,
        mul-le-mul_right l.amount (covers l.long l.short h.0.long h.0.short h.0.pair),
      )

  -- a pairing's sum and its saving make the sum with nothing paired
  pub whole : (N : ℕ) (lines : List Line) → Fair T → IsPairing T N lines
      → sum_at T N lines + saving T lines ≡ N * sum_to T.count (λ k. T.rate k * T.value k)
  unfolding sum_at rest_units
  whole N lines fair p =
      let rest : ℕ → ℕ = λ k. T.rate k * (N * T.value k - used lines k) in
      let gone : ℕ → ℕ = λ k. T.rate k * used lines k in
      let all : sum_to T.count (λ k. rest k + gone k) ≡ sum_to T.count (λ k. N * (T.rate k * T.value k)) =
      sum_to_eq T.count _ _ (λ k q. left-and-used (T.rate k) (N * T.value k) (used lines k) (p.within k q) ∙ omega arith) in
      omega (
        arith,
        all,
        sum_to-add T.count rest gone,
        sum_to-times T.count N (λ k. T.rate k * T.value k),
        weigh T.rate lines p.pairs,
        units-and-saving lines fair,
      )

  -- no pairing at N saves more than N times the priced total
  pub bounded : (price : ℕ → ℕ) (N : ℕ) (lines : List Line) → Covers T price → IsPairing T N lines → saving T lines ≤ N * priced_total T price
  unfolding priced_total
  bounded price N lines covers p =
      omega (
        arith,
        saving-priced price lines covers p.pairs,
        weigh price lines p.pairs,
        sum_to_le T.count (λ k. price k * used lines k) (λ k. N * (price k * T.value k)) (λ k q. omega (arith, mul-le-mul_left (price k) (p.within k q))),
        sum_to-times T.count N (λ k. price k * T.value k),
      )

  pub least : (price : ℕ → ℕ) (lines : List Line) → Fair T → Covers T price → IsPairing T 1 lines → priced_total T price ≡ saving T lines
      → Least T lines (sum_at T 1 lines)
  least price lines fair covers p equal = record {
    pairing = p;
    sum = refl;
    every = λ N _ other q.
        omega (
          arith,
          ap (λ (x : ℕ). N * x) (whole 1 lines fair p),
          ap (λ (x : ℕ). N * x) equal,
          whole N other fair q,
          bounded price N other covers q,
        );
    in_parts_lem = λ N _.
        let q = pairing-parts T N lines p in
        (q, omega (arith, whole N (in_parts N lines) fair q, ap (λ (x : ℕ). N * x) (whole 1 lines fair p), saving-parts T N lines));
  }

  -- two pairings that are the least have the same units
  pub least_unique : (a b : List Line) (u v : ℕ) → Least T a u → Least T b v → u ≡ v
  least_unique a b u v f g =
      omega (arith, f.sum, g.sum, f.every 1 (omega arith) b g.pairing, g.every 1 (omega arith) a f.pairing)

  -- nothing is cheaper, however finely cut
  pub no_finer : (lines : List Line) (u : ℕ) → Least T lines u
      → (N : ℕ) → 1 ≤ N → (other : List Line) → IsPairing T N other → sum_at T N other < N * u → ⊥
  no_finer lines u f N h other p less = not-le_of_lt less (f.every N h other p)

  -- the units of a pairing at 1 are at most the highest rate times the highest value, once for each holding
  pub units-high : (lines : List Line) (r v : ℕ) → Fair T → IsPairing T 1 lines
      → ((k : ℕ) → k < T.count → T.rate k ≤ r) → ((k : ℕ) → k < T.count → T.value k ≤ v) → sum_at T 1 lines ≤ T.count * (r * v)
  units-high lines r v fair p h j =
      omega (arith, whole 1 lines fair p, sum_to_product_bound T.count r v T.rate T.value h j)

  pub priced-high : (price : ℕ → ℕ) (p v : ℕ)
      → ((k : ℕ) → k < T.count → price k ≤ p) → ((k : ℕ) → k < T.count → T.value k ≤ v) → priced_total T price ≤ T.count * (p * v)
  unfolding priced_total
  priced-high price p v h j = sum_to_product_bound T.count p v price T.value h j
