-- What Booleans, sequences and properties mean on a trace, as tests that can be worked out.
-- docs/semantics.md says the same in words and in the same order, with examples.
--
-- Boundary i stands before cycle i. A stretch (s, e) lies between two boundaries: it covers the
-- cycles s to e - 1, and none if s is e.
use Rattle.std.specs.Prelude.{ℕ, zero, suc, ◌+◌, ◌-◌, Bool, true, false, not, ◌&&◌, ◌||◌, ◌==◌, nat_le}
use Rattle.sva.specs.declared.verdict.Verdict.{Verdict}
use Rattle.sva.specs.Formula.{Boolean, Sequence, Property}
use Rattle.sva.specs.Lengths.{hi}
use Rattle.sva.specs.Ranges.{some, some_below, each, each_below}
use Rattle.sva.specs.Trace.{Trace}

-- the value of a Boolean in cycle c
abbrev pub value : Boolean → Trace → (c : ℕ) → Bool
value (Boolean.constant v) τ c = v
value (Boolean.signal k) τ c = τ c k
value (Boolean.not x) τ c = not (value x τ c)
value (Boolean.and x y) τ c = value x τ c && value y τ c
value (Boolean.or x y) τ c = value x τ c || value y τ c
value (Boolean.past m x) τ c = nat_le m c && value x τ (c - m)

-- (s, e) splits into j matches in a row
abbrev pub splits : (ℕ → ℕ → Bool) → (j s e : ℕ) → Bool
splits a zero s e = s == e
splits a (suc j) s e = some s e (λ k. a s k && splits a j k e)

-- a sequence matches the stretch (s, e)
abbrev pub matches : Sequence → Trace → (s e : ℕ) → Bool
matches (Sequence.boolean x) τ s e = e == suc s && value x τ s
matches (Sequence.delay m n a b) τ s e = some s e (λ k. matches a τ s k && some m n (λ d. matches b τ (k + (d - 1)) e))
matches (Sequence.fusion a b) τ s e = some_below s e (λ k. matches a τ s (suc k) && matches b τ k e)
matches (Sequence.repeat m n a) τ s e = some m n (λ j. splits (matches a τ) j s e)
matches (Sequence.or a b) τ s e = matches a τ s e || matches b τ s e
matches (Sequence.intersect a b) τ s e = matches a τ s e && matches b τ s e
matches (Sequence.and a b) τ s e =
    (matches a τ s e && some s e (λ k. matches b τ s k))
    || (matches b τ s e && some s e (λ k. matches a τ s k))
matches (Sequence.throughout x b) τ s e = matches b τ s e && each_below s e (λ c. value x τ c)
matches (Sequence.within a b) τ s e = matches b τ s e && some s e (λ i. some i e (λ j. matches a τ i j))
matches (Sequence.first_match a) τ s e = matches a τ s e && not (some_below s e (λ k. matches a τ s k))

-- a property holds at cycle s
abbrev pub holds : Property → Trace → (s : ℕ) → Bool
holds (Property.sequence a) τ s = some (suc s) (s + hi a) (λ e. matches a τ s e)
holds (Property.not p) τ s = not (holds p τ s)
holds (Property.or p q) τ s = holds p τ s || holds q τ s
holds (Property.and p q) τ s = holds p τ s && holds q τ s
holds (Property.implies a p) τ s = each (suc s) (s + hi a) (λ e. not (matches a τ s e) || holds p τ (e - 1))
holds (Property.implies_next a p) τ s = each s (s + hi a) (λ e. not (matches a τ s e) || holds p τ e)
holds (Property.nexttime m p) τ s = holds p τ (s + m)
holds (Property.always m n p) τ s = each (s + m) (s + n) (λ c. holds p τ c)
holds (Property.eventually m n p) τ s = some (s + m) (s + n) (λ c. holds p τ c)

-- a property is live at cycle s: something there puts it to the test
abbrev pub live : Property → Trace → (s : ℕ) → Bool
live (Property.sequence a) τ s = true
live (Property.not p) τ s = live p τ s
live (Property.or p q) τ s = live p τ s || live q τ s
live (Property.and p q) τ s = live p τ s || live q τ s
live (Property.implies a p) τ s = some (suc s) (s + hi a) (λ e. matches a τ s e && live p τ (e - 1))
live (Property.implies_next a p) τ s = some s (s + hi a) (λ e. matches a τ s e && live p τ e)
live (Property.nexttime m p) τ s = live p τ (s + m)
live (Property.always m n p) τ s = some (s + m) (s + n) (λ c. live p τ c)
live (Property.eventually m n p) τ s = some (s + m) (s + n) (λ c. live p τ c)

-- failed where the property does not hold; else it depends on whether it is live
abbrev pub judge : (holds live : Bool) → Verdict
judge false l = Verdict.Failed
judge true true = Verdict.Held
judge true false = Verdict.Vacuous

-- the verdict of a start
abbrev pub verdict : Property → Trace → (start : ℕ) → Verdict
verdict p τ s = judge (holds p τ s) (live p τ s)
