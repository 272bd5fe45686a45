-- What tests over a range find.
use Rattle.std.proofs.Common.{◌≡◌, ℕ, zero, suc, ◌+◌, ◌-◌, ◌<◌, ◌≤◌, Bool, true, ◌&&◌, ◌||◌, ◌⊎◌, refl, ap₂, inl, inr, arith}
use Rattle.std.proofs.lemmas.Bool.{and_from, and_parts, or_cases, or_left, or_right, cases_eq, false≢true}
use Rattle.sva.specs.Ranges.{some_of, each_of, some_below, each_below}

-- a number of a range that passes the test
pub record Found (low end : ℕ) (p : ℕ → Bool) : Type 0 where
  pub at : ℕ
  pub above : low ≤ at
  pub below : at < end
  pub passes : p at ≡ true

module _ (p : ℕ → Bool) where
  pick : (n i : ℕ) → (some_of n (suc i) p ≡ true → Found (suc i) (suc i + n) p) → (p i ≡ true) ⊎ (some_of n (suc i) p ≡ true) → Found i (i + suc n) p
  pick n i rest (inl h) = record { at = i; above = omega arith; below = omega arith; passes = h }
  pick n i rest (inr h) = let f = rest h in record { at = f.at; above = omega arith; below = omega arith; passes = f.passes }

  found_of : (n i : ℕ) → some_of n i p ≡ true → Found i (i + n) p
  found_of zero i h = absurd (false≢true h)
  found_of (suc n) i h = pick n i (found_of n (suc i)) (or_cases (p i) (some_of n (suc i) p) h)

  pub found : (low end : ℕ) → some_below low end p ≡ true → Found low end p
  found low end h =
      let f = found_of (end - low) low h in
      record { at = f.at; above = f.above; below = omega arith; passes = f.passes }

  finds_of : (n i k : ℕ) → i ≤ k → k < i + n → p k ≡ true → some_of n i p ≡ true
  finds_of zero i k l u h = let z : ⊥ = omega arith in absurd z
  finds_of (suc n) i k l u h =
      elim (cases_eq i k) [
        | inl e ↦ or_left (p i) (some_of n (suc i) p) (rw e h)
        | inr ne ↦ or_right (p i) (some_of n (suc i) p) (finds_of n (suc i) k (omega arith) (omega arith) h)
      ]

  pub finds : (low end k : ℕ) → low ≤ k → k < end → p k ≡ true → some_below low end p ≡ true
  finds low end k l u h = finds_of (end - low) low k l (omega arith) h

  at_of : (n i k : ℕ) → i ≤ k → k < i + n → each_of n i p ≡ true → p k ≡ true
  at_of zero i k l u h = let z : ⊥ = omega arith in absurd z
  at_of (suc n) i k l u h =
      let w = and_parts (p i) (each_of n (suc i) p) h in
      elim (cases_eq i k) [
        | inl e ↦ rw e at w.0
        | inr ne ↦ at_of n (suc i) k (omega arith) (omega arith) w.1
      ]

  pub at_each : (low end k : ℕ) → low ≤ k → k < end → each_below low end p ≡ true → p k ≡ true
  at_each low end k l u h = at_of (end - low) low k l (omega arith) h

  every_of : (n i : ℕ) → ((k : ℕ) → i ≤ k → k < i + n → p k ≡ true) → each_of n i p ≡ true
  every_of zero i h = refl
  every_of (suc n) i h = and_from (p i) (each_of n (suc i) p) (h i (omega arith) (omega arith)) (every_of n (suc i) (λ k l u. h k (omega arith) (omega arith)))

  pub every : (low end : ℕ) → ((k : ℕ) → low ≤ k → k < end → p k ≡ true) → each_below low end p ≡ true
  every low end h = every_of (end - low) low (λ k l u. h k l (omega arith))

-- tests that agree in the range find the same
module _ (p q : ℕ → Bool) where
  some_of_same : (n i : ℕ) → ((k : ℕ) → i ≤ k → k < i + n → p k ≡ q k) → some_of n i p ≡ some_of n i q
  some_of_same zero i h = refl
  some_of_same (suc n) i h = ap₂ ◌||◌ (h i (omega arith) (omega arith)) (some_of_same n (suc i) (λ k l u. h k (omega arith) (omega arith)))

  pub some_same : (low end : ℕ) → ((k : ℕ) → low ≤ k → k < end → p k ≡ q k) → some_below low end p ≡ some_below low end q
  some_same low end h = some_of_same (end - low) low (λ k l u. h k l (omega arith))

  each_of_same : (n i : ℕ) → ((k : ℕ) → i ≤ k → k < i + n → p k ≡ q k) → each_of n i p ≡ each_of n i q
  each_of_same zero i h = refl
  each_of_same (suc n) i h = ap₂ ◌&&◌ (h i (omega arith) (omega arith)) (each_of_same n (suc i) (λ k l u. h k (omega arith) (omega arith)))

  pub each_same : (low end : ℕ) → ((k : ℕ) → low ≤ k → k < end → p k ≡ q k) → each_below low end p ≡ each_below low end q
  each_same low end h = each_of_same (end - low) low (λ k l u. h k l (omega arith))
