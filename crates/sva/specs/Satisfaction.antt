-- The same meaning as a relation in the subject's words: what is said to exist may lie anywhere, and
-- what is said of all is said of all, without a bound. `Decides` is the law that the tests of
-- Meaning.antt find exactly this.
use Rattle.std.specs.Prelude.{◌≡◌, ℕ, zero, suc, ◌+◌, ◌-◌, ◌<◌, ◌≤◌, max, true, ◌↔◌}
use Rattle.std.proofs.Math.Logic.{◌∨₁◌}
use Rattle.sva.specs.declared.verdict.Verdict.{Verdict}
use Rattle.sva.specs.Formula.{Boolean, Sequence, Property}
use Rattle.sva.specs.Meaning.{value, matches, holds, live, verdict}
use Rattle.sva.specs.Trace.{Trace}

-- there is a number of which P is true
abbrev pub Exists : (ℕ → Type 0) → Type 0
Exists P = ∥ ((n : ℕ) × P n) ∥₁

-- a Boolean is true in cycle c
abbrev pub True : Boolean → Trace → (c : ℕ) → Type 0
True (Boolean.constant v) τ c = v ≡ true
True (Boolean.signal k) τ c = τ c k ≡ true
True (Boolean.not x) τ c = ¬ True x τ c
True (Boolean.and x y) τ c = True x τ c × True y τ c
True (Boolean.or x y) τ c = True x τ c ∨₁ True y τ c
True (Boolean.past m x) τ c = Exists (λ b. (b + m ≡ c) × True x τ b)

-- (s, e) splits into j matches in a row
abbrev pub Splits : (ℕ → ℕ → Type 0) → (j s e : ℕ) → Type 0
Splits M zero s e = s ≡ e
Splits M (suc j) s e = Exists (λ k. M s k × Splits M j k e)

-- a sequence matches the stretch (s, e)
abbrev pub Matches : Sequence → Trace → (s e : ℕ) → Type 0
Matches (Sequence.boolean x) τ s e = (e ≡ suc s) × True x τ s
Matches (Sequence.delay m n a b) τ s e =
    Exists (λ k. Exists (λ d. (m ≤ d) × (d ≤ n) × Matches a τ s k × Matches b τ (k + (d - 1)) e))
Matches (Sequence.fusion a b) τ s e = Exists (λ k. (s ≤ k) × (k < e) × Matches a τ s (suc k) × Matches b τ k e)
Matches (Sequence.repeat m n a) τ s e = Exists (λ j. (m ≤ j) × (j ≤ n) × Splits (Matches a τ) j s e)
Matches (Sequence.or a b) τ s e = Matches a τ s e ∨₁ Matches b τ s e
Matches (Sequence.intersect a b) τ s e = Matches a τ s e × Matches b τ s e
Matches (Sequence.and a b) τ s e = Exists (λ i. Exists (λ j. Matches a τ s i × Matches b τ s j × (e ≡ max i j)))
Matches (Sequence.throughout x b) τ s e = Matches b τ s e × ((c : ℕ) → s ≤ c → c < e → True x τ c)
Matches (Sequence.within a b) τ s e = Matches b τ s e × Exists (λ i. Exists (λ j. (s ≤ i) × (j ≤ e) × Matches a τ i j))
Matches (Sequence.first_match a) τ s e = Matches a τ s e × ((k : ℕ) → k < e → ¬ Matches a τ s k)

-- a property holds at cycle s
abbrev pub Holds : Property → Trace → (s : ℕ) → Type 0
Holds (Property.sequence a) τ s = Exists (λ e. (s < e) × Matches a τ s e)
Holds (Property.not p) τ s = ¬ Holds p τ s
Holds (Property.or p q) τ s = Holds p τ s ∨₁ Holds q τ s
Holds (Property.and p q) τ s = Holds p τ s × Holds q τ s
Holds (Property.implies a p) τ s = (e : ℕ) → s < e → Matches a τ s e → Holds p τ (e - 1)
Holds (Property.implies_next a p) τ s = (e : ℕ) → Matches a τ s e → Holds p τ e
Holds (Property.nexttime m p) τ s = Holds p τ (s + m)
Holds (Property.always m n p) τ s = (c : ℕ) → s + m ≤ c → c ≤ s + n → Holds p τ c
Holds (Property.eventually m n p) τ s = Exists (λ c. (s + m ≤ c) × (c ≤ s + n) × Holds p τ c)

-- a property is live at cycle s: something there puts it to the test
abbrev pub Live : Property → Trace → (s : ℕ) → Type 0
Live (Property.sequence a) τ s = Unit {0}
Live (Property.not p) τ s = Live p τ s
Live (Property.or p q) τ s = Live p τ s ∨₁ Live q τ s
Live (Property.and p q) τ s = Live p τ s ∨₁ Live q τ s
Live (Property.implies a p) τ s = Exists (λ e. (s < e) × Matches a τ s e × Live p τ (e - 1))
Live (Property.implies_next a p) τ s = Exists (λ e. Matches a τ s e × Live p τ e)
Live (Property.nexttime m p) τ s = Live p τ (s + m)
Live (Property.always m n p) τ s = Exists (λ c. (s + m ≤ c) × (c ≤ s + n) × Live p τ c)
Live (Property.eventually m n p) τ s = Exists (λ c. (s + m ≤ c) × (c ≤ s + n) × Live p τ c)

-- a start has the verdict
abbrev pub HasVerdict : Property → Trace → (start : ℕ) → Verdict → Type 0
HasVerdict p τ s Verdict.Failed = ¬ Holds p τ s
HasVerdict p τ s Verdict.Held = Holds p τ s × Live p τ s
HasVerdict p τ s Verdict.Vacuous = Holds p τ s × ¬ Live p τ s

-- the tests find exactly what the relation says
pub record Decides (τ : Trace) : Type 0 where
  pub values : (x : Boolean) (c : ℕ) → (value x τ c ≡ true) ↔ True x τ c
  pub stretches : (a : Sequence) (s e : ℕ) → (matches a τ s e ≡ true) ↔ Matches a τ s e
  pub holding : (p : Property) (s : ℕ) → (holds p τ s ≡ true) ↔ Holds p τ s
  pub living : (p : Property) (s : ℕ) → (live p τ s ≡ true) ↔ Live p τ s
  pub verdicts : (p : Property) (s : ℕ) (v : Verdict) → (verdict p τ s ≡ v) ↔ HasVerdict p τ s v
