-- A match is as long as the lengths say.
use Rattle.std.proofs.Common.{◌≡◌, ℕ, zero, suc, ◌+◌, ◌-◌, ◌*◌, ◌≤◌, min, max, Bool, true, ◌&&◌, ◌⊎◌, inl, inr, mul-le-mul_right, suc-mul, zero-mul, arith}
use Rattle.std.proofs.lemmas.Bool.{or_cases, and_parts, eqb-true}
use Rattle.sva.specs.Formula.{Sequence}
use Rattle.sva.specs.Lengths.{lo, hi}
use Rattle.sva.specs.Laws.{Long}
use Rattle.sva.specs.Meaning.{matches, splits}
use Rattle.sva.specs.Ranges.{some}
use Rattle.sva.specs.Trace.{Trace}
use Rattle.sva.proofs.Ranges.{found}

chain : (least most : ℕ) (p : ℕ → ℕ → Bool) → ((s e : ℕ) → p s e ≡ true → Long least most s e)
    → (j s e : ℕ) → splits p j s e ≡ true → Long (j * least) (j * most) s e
chain least most p each zero s e h =
    let q = eqb-true s e h in
    record { least = omega (arith, zero-mul least); most = omega (arith, zero-mul most) }
chain least most p each (suc j) s e h =
    let k = found _ s (suc e) h in
    let w = and_parts (p s k.at) _ k.passes in
    let x = each s k.at w.0 in
    let y = chain least most p each j k.at e w.1 in
    record { least = omega (arith, suc-mul j least); most = omega (arith, suc-mul j most) }

either : (a b c d s e : ℕ) → Long a c s e ⊎ Long b d s e → Long (min a b) (max c d) s e
either a b c d s e (inl x) = record { least = omega arith; most = omega arith }
either a b c d s e (inr x) = record { least = omega arith; most = omega arith }

-- both match from s, the one to e and the other no further
later : (a c b d s e : ℕ) (p q : ℕ → Bool) → ((k : ℕ) → p k ≡ true → Long a c s k) → ((k : ℕ) → q k ≡ true → Long b d s k)
    → (p e && some s e q) ≡ true → Long (max a b) (max c d) s e
later a c b d s e p q x y h =
    let w = and_parts (p e) _ h in
    let k = found q s (suc e) w.1 in
    let u = x e w.0 in
    let v = y k.at k.passes in
    record { least = omega arith; most = omega arith }

turned : (a c b d s e : ℕ) → Long (max b a) (max d c) s e → Long (max a b) (max c d) s e
turned a c b d s e x = record { least = omega arith; most = omega arith }

pub bounds : (a : Sequence) (τ : Trace) (s e : ℕ) → matches a τ s e ≡ true → Long (lo a) (hi a) s e
bounds (Sequence.boolean x) τ s e h =
    let q = eqb-true e (suc s) (and_parts _ _ h).0 in
    record { least = omega arith; most = omega arith }
bounds (Sequence.delay m n a b) τ s e h =
    let k = found _ s (suc e) h in
    let w = and_parts (matches a τ s k.at) _ k.passes in
    let d = found _ m (suc n) w.1 in
    let x = bounds a τ s k.at w.0 in
    let y = bounds b τ (k.at + (d.at - 1)) e d.passes in
    record { least = omega arith; most = omega arith }
bounds (Sequence.fusion a b) τ s e h =
    let k = found _ s e h in
    let w = and_parts (matches a τ s (suc k.at)) _ k.passes in
    let x = bounds a τ s (suc k.at) w.0 in
    let y = bounds b τ k.at e w.1 in
    record { least = omega arith; most = omega arith }
bounds (Sequence.repeat m n a) τ s e h =
    let j = found _ m (suc n) h in
    let x = chain (lo a) (hi a) (matches a τ) (bounds a τ) j.at s e j.passes in
    let u : j.at ≤ n = omega arith in
    record { least = omega (arith, mul-le-mul_right (lo a) j.above); most = omega (arith, mul-le-mul_right (hi a) u) }
bounds (Sequence.or a b) τ s e h =
    either (lo a) (lo b) (hi a) (hi b) s e
    (elim (or_cases (matches a τ s e) (matches b τ s e) h) [ inl p ↦ inl (bounds a τ s e p) | inr p ↦ inr (bounds b τ s e p) ])
bounds (Sequence.intersect a b) τ s e h =
    let w = and_parts (matches a τ s e) _ h in
    let x = bounds a τ s e w.0 in
    let y = bounds b τ s e w.1 in
    record { least = omega arith; most = omega arith }
bounds (Sequence.and a b) τ s e h =
    elim (or_cases (matches a τ s e && some s e (λ k. matches b τ s k)) (matches b τ s e && some s e (λ k. matches a τ s k)) h) [
      | inl p ↦ later (lo a) (hi a) (lo b) (hi b) s e (matches a τ s) (matches b τ s) (bounds a τ s) (bounds b τ s) p
      | inr p ↦
          turned (lo a) (hi a) (lo b) (hi b) s e
          (later (lo b) (hi b) (lo a) (hi a) s e (matches b τ s) (matches a τ s) (bounds b τ s) (bounds a τ s) p)
    ]
bounds (Sequence.throughout x b) τ s e h = bounds b τ s e (and_parts (matches b τ s e) _ h).0
bounds (Sequence.within a b) τ s e h =
    let w = and_parts (matches b τ s e) _ h in
    let y = bounds b τ s e w.0 in
    let i = found _ s (suc e) w.1 in
    let j = found _ i.at (suc e) i.passes in
    let x = bounds a τ i.at j.at j.passes in
    record { least = omega arith; most = omega arith }
bounds (Sequence.first_match a) τ s e h = bounds a τ s e (and_parts (matches a τ s e) _ h).0
