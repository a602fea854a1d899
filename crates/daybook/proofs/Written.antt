-- The list after an order: holdings written over the first entries of what was there, the others kept. Assumes nothing.
use mathlib.Core.Path.{◌≡◌, sym, ap, ◌∙◌}
use mathlib.Core.List.{List, [], ◌∷◌, ◌++◌, append_assoc}
use Prim.Native.Nat.{ℕ, suc, ◌+◌, ◌-◌, ◌≤◌, ◌<◌}
use native.Mathlib.Omega.{arith}
use lib.ListN.{length, get_or, take, drop, set, length-append, length-drop, length-set, take-append-drop, get_or-append}
use lib.Seq.{length-take-le, get_or-take, get_or-drop, get_or-append-add, set-append_left, set_split, take_at}
use Rattle.lists.specs.Tables.{front}

module _ {A : Type 0} where
  -- past the end of the first of two lists
  get_d_past : (xs ys : List A) (d : A) (j : ℕ) → length xs ≤ j → get_or (xs ++ ys) j d ≡ get_or ys (j - length xs) d
  get_d_past xs ys d j h =
      let here : j ≡ length xs + (j - length xs) = omega arith in
      ap (λ (i : ℕ). get_or (xs ++ ys) i d) here ∙ get_or-append-add xs ys (j - length xs) d

  -- what is written stands first
  pub take-front : (n : ℕ) (xs old : List A) → length xs ≡ n → take n (front xs old) ≡ xs
  unfolding front
  take-front n xs old e = take_at xs (drop (length xs) old) n e

  -- and what is past it is kept
  pub front_kept : (xs old : List A) (d : A) (j : ℕ) → length xs ≤ j → get_or (front xs old) j d ≡ get_or old j d
  unfolding front
  front_kept xs old d j h =
      let here : length xs + (j - length xs) ≡ j = omega arith in
      get_d_past xs (drop (length xs) old) d j h ∙ get_or-drop (length xs) old (j - length xs) d ∙ ap (λ (i : ℕ). get_or old i d) here

  module _ (n : ℕ) (l : List A) where
    -- the first n entries as they were
    pub front_same : n ≤ length l → front (take n l) l ≡ l
    unfolding front
    front_same h = rw (length-take-le n l h) (take-append-drop n l)

    -- one of them changed
    pub front-set : n ≤ length l → (k : ℕ) → k < n → (x : A) → front (set (take n l) k x) l ≡ set l k x
    unfolding front
    front-set h k q x =
        rw (length-set (take n l) k x, length-take-le n l h)
        (sym (set-append_left (take n l) (drop n l) k x (omega (arith, length-take-le n l h))) ∙ ap (λ (xs : List A). set xs k x) (take-append-drop n l))

    -- one more
    pub length_more : n ≤ length l → (x : A) → length (take n l ++ (x ∷ [])) ≡ suc n
    length_more h x = length-append (take n l) (x ∷ []) ∙ omega (arith, length-take-le n l h)

    pub front-joined : n < length l → (x : A) → front (take n l ++ (x ∷ [])) l ≡ set l n x
    unfolding front
    front-joined h x = rw (length_more (omega arith) x, append_assoc) (sym (set_split l n x h))

    -- one fewer
    module _ (h : n ≤ length l) (rest : ℕ) (e : rest + 1 ≡ n) (k : ℕ) (q : k < n) where
      abbrev fewer : List A
      fewer = take k (take n l) ++ drop (suc k) (take n l)

      long-before : length (take k (take n l)) ≡ k
      long-before = length-take-le k (take n l) (omega (arith, length-take-le n l h))

      pub length_fewer : length fewer ≡ rest
      length_fewer =
          length-append (take k (take n l)) (drop (suc k) (take n l)) ∙ omega (arith, long-before, length-drop (suc k) (take n l), length-take-le n l h)

      pub fewer_long : length (front fewer l) ≡ length l
      unfolding front
      fewer_long = length-append fewer (drop (length fewer) l) ∙ omega (arith, length_fewer, length-drop (length fewer) l)

      pub fewer_before : (d : A) (j : ℕ) → j < k → get_or (front fewer l) j d ≡ get_or l j d
      unfolding front
      fewer_before d j i =
          get_or-append fewer _ d j (omega (arith, length_fewer))
          ∙ get_or-append (take k (take n l)) _ d j (omega (arith, long-before))
          ∙ get_or-take k (take n l) j d i
          ∙ get_or-take n l j d (omega arith)

      pub fewer_moved : (d : A) (j : ℕ) → k ≤ j → j + 1 < n → get_or (front fewer l) j d ≡ get_or l (j + 1) d
      unfolding front
      fewer_moved d j i m =
          let here : suc k + (j - length (take k (take n l))) ≡ j + 1 = omega (arith, long-before) in
          get_or-append fewer _ d j (omega (arith, length_fewer))
          ∙ get_d_past (take k (take n l)) (drop (suc k) (take n l)) d j (omega (arith, long-before))
          ∙ get_or-drop (suc k) (take n l) _ d
          ∙ ap (λ (p : ℕ). get_or (take n l) p d) here
          ∙ get_or-take n l (j + 1) d m

      pub fewer_kept : (d : A) (j : ℕ) → n ≤ j + 1 → get_or (front fewer l) j d ≡ get_or l j d
      fewer_kept d j i = front_kept fewer l d j (omega (arith, length_fewer))
