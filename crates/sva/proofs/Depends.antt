-- What a value, a match and a verdict depend on.
use Rattle.std.proofs.Common.{◌≡◌, ℕ, zero, suc, ◌+◌, ◌-◌, ◌<◌, ◌≤◌, max, Bool, true, false, not, ◌&&◌, ◌||◌, eqb, leb, refl, ap, ap₂, arith}
use Rattle.std.proofs.lemmas.Bool.{eqb-true}
use Rattle.sva.specs.Formula.{Boolean, Sequence, Property}
use Rattle.sva.specs.Laws.{Same, Spans}
use Rattle.sva.specs.Lengths.{hi, horizon, boolean_lookback, sequence_lookback, lookback}
use Rattle.sva.specs.Meaning.{value, matches, splits, holds, live, judge}
use Rattle.sva.specs.Ranges.{some, each}
use Rattle.sva.specs.Trace.{Trace, Alike}
use Rattle.sva.proofs.Ranges.{some_same, each_same}

and_same : (b x y : Bool) → (b ≡ true → x ≡ y) → (b && x) ≡ (b && y)
and_same true x y h = h refl
and_same false x y h = refl

-- matches that agree inside (s, e) split it alike
splits_same : (p q : ℕ → ℕ → Bool) (j s e : ℕ) → ((i k : ℕ) → s ≤ i → k ≤ e → p i k ≡ q i k) → splits p j s e ≡ splits q j s e
splits_same p q zero s e h = refl
splits_same p q (suc j) s e h =
    some_same _ _ s (suc e) (λ k l u. ap₂ ◌&&◌ (h s k (omega arith) (omega arith)) (splits_same p q j k e (λ i n v w. h i n (omega arith) w)))

module _ (τ υ : Trace) where
  pub narrower : (f e g d : ℕ) → f ≤ g → d ≤ e → Alike f e τ υ → Alike g d τ υ
  narrower f e g d l u h c k a b = h c k (omega arith) (omega arith)

  value_same : (x : Boolean) (c : ℕ) → Alike (c - boolean_lookback x) (suc c) τ υ → value x τ c ≡ value x υ c
  value_same (Boolean.constant v) c h = refl
  value_same (Boolean.signal k) c h = h c k (omega arith) (omega arith)
  value_same (Boolean.not x) c h = ap not (value_same x c h)
  value_same (Boolean.and x y) c h =
      ap₂ ◌&&◌ (value_same x c (narrower _ _ _ _ (omega arith) (omega arith) h)) (value_same y c (narrower _ _ _ _ (omega arith) (omega arith) h))
  value_same (Boolean.or x y) c h =
      ap₂ ◌||◌ (value_same x c (narrower _ _ _ _ (omega arith) (omega arith) h)) (value_same y c (narrower _ _ _ _ (omega arith) (omega arith) h))
  value_same (Boolean.past m x) c h = ap (λ b. leb m c && b) (value_same x (c - m) (narrower _ _ _ _ (omega arith) (omega arith) h))

  -- a sequence matches alike wherever the traces are alike
  abbrev Even : Sequence → Type 0
  Even a = (s e : ℕ) → Alike (s - sequence_lookback a) e τ υ → matches a τ s e ≡ matches a υ s e

  -- two sequences inside a stretch
  module _ (a b : Sequence) (x : Even a) (y : Even b) (s e : ℕ) (h : Alike (s - max (sequence_lookback a) (sequence_lookback b)) e τ υ) where
    left : (i k : ℕ) → s ≤ i → k ≤ e → matches a τ i k ≡ matches a υ i k
    left i k l u = x i k (narrower _ _ _ _ (omega arith) u h)

    right : (i k : ℕ) → s ≤ i → k ≤ e → matches b τ i k ≡ matches b υ i k
    right i k l u = y i k (narrower _ _ _ _ (omega arith) u h)

    delay_same : (m n : ℕ) → matches (Sequence.delay m n a b) τ s e ≡ matches (Sequence.delay m n a b) υ s e
    delay_same m n =
        some_same _ _ s (suc e) (λ k l u.
        ap₂ ◌&&◌ (left s k (omega arith) (omega arith)) (some_same _ _ m (suc n) (λ d v w. right (k + (d - 1)) e (omega arith) (omega arith))))

    fusion_same : matches (Sequence.fusion a b) τ s e ≡ matches (Sequence.fusion a b) υ s e
    fusion_same = some_same _ _ s e (λ k l u. ap₂ ◌&&◌ (left s (suc k) (omega arith) u) (right k e l (omega arith)))

    left_here : matches a τ s e ≡ matches a υ s e
    left_here = left s e (omega arith) (omega arith)

    right_here : matches b τ s e ≡ matches b υ s e
    right_here = right s e (omega arith) (omega arith)

    and_seq_same : matches (Sequence.and a b) τ s e ≡ matches (Sequence.and a b) υ s e
    and_seq_same =
        ap₂ ◌||◌
        (ap₂ ◌&&◌ left_here (some_same _ _ s (suc e) (λ k l u. right s k (omega arith) (omega arith))))
        (ap₂ ◌&&◌ right_here (some_same _ _ s (suc e) (λ k l u. left s k (omega arith) (omega arith))))

    within_same : matches (Sequence.within a b) τ s e ≡ matches (Sequence.within a b) υ s e
    within_same = ap₂ ◌&&◌ right_here (some_same _ _ s (suc e) (λ i l u. some_same _ _ i (suc e) (λ j v w. left i j l (omega arith))))

  pub match_same : (a : Sequence) → Even a
  match_same (Sequence.boolean x) s e h =
      and_same (eqb e (suc s)) (value x τ s) (value x υ s) (λ q. let p = eqb-true e (suc s) q in value_same x s (narrower _ _ _ _ (omega arith) (omega arith) h))
  match_same (Sequence.delay m n a b) s e h = delay_same a b (match_same a) (match_same b) s e h m n
  match_same (Sequence.fusion a b) s e h = fusion_same a b (match_same a) (match_same b) s e h
  match_same (Sequence.repeat m n a) s e h =
      some_same _ _ m (suc n) (λ j v w. splits_same (matches a τ) (matches a υ) j s e (λ i k l u. match_same a i k (narrower _ _ _ _ (omega arith) u h)))
  match_same (Sequence.or a b) s e h = ap₂ ◌||◌ (left_here a b (match_same a) (match_same b) s e h) (right_here a b (match_same a) (match_same b) s e h)
  match_same (Sequence.intersect a b) s e h = ap₂ ◌&&◌ (left_here a b (match_same a) (match_same b) s e h) (right_here a b (match_same a) (match_same b) s e h)
  match_same (Sequence.and a b) s e h = and_seq_same a b (match_same a) (match_same b) s e h
  match_same (Sequence.throughout x b) s e h =
      ap₂ ◌&&◌ (match_same b s e (narrower _ _ _ _ (omega arith) (omega arith) h))
      (each_same _ _ s e (λ c l u. value_same x c (narrower _ _ _ _ (omega arith) u h)))
  match_same (Sequence.within a b) s e h = within_same a b (match_same a) (match_same b) s e h
  match_same (Sequence.first_match a) s e h =
      ap₂ (λ p q. p && not q) (match_same a s e h)
      (some_same _ _ s e (λ k l u. match_same a s k (narrower _ _ _ _ (omega arith) (omega arith) h)))

  -- a test for holding or for being live that looks l back and h ahead of a cycle
  module _ (t u : ℕ → Bool) (l h : ℕ) (same : (i : ℕ) → Alike (i - l) (suc (i + h)) τ υ → t i ≡ u i) where
    -- in the cycles that an implication comes to
    module _ (a : Sequence) (s : ℕ) where
      after_parts : Alike (s - max (sequence_lookback a) l) (suc (s + (hi a - 1 + h))) τ υ
          → (e : ℕ) → suc s ≤ e → e < suc (s + hi a) → (matches a τ s e ≡ matches a υ s e) × (t (e - 1) ≡ u (e - 1))
      after_parts w e v b =
          (match_same a s e (narrower _ _ _ _ (omega arith) (omega arith) w), same (e - 1) (narrower _ _ _ _ (omega arith) (omega arith) w))

      next_parts : Alike (s - max (sequence_lookback a) l) (suc (s + (hi a + h))) τ υ
          → (e : ℕ) → s ≤ e → e < suc (s + hi a) → (matches a τ s e ≡ matches a υ s e) × (t e ≡ u e)
      next_parts w e v b =
          (match_same a s e (narrower _ _ _ _ (omega arith) (omega arith) w), same e (narrower _ _ _ _ (omega arith) (omega arith) w))

      after_each : Alike (s - max (sequence_lookback a) l) (suc (s + (hi a - 1 + h))) τ υ
          → each (suc s) (s + hi a) (λ e. not (matches a τ s e) || t (e - 1)) ≡ each (suc s) (s + hi a) (λ e. not (matches a υ s e) || u (e - 1))
      after_each w = each_same _ _ (suc s) (suc (s + hi a)) (λ e v b. let p = after_parts w e v b in ap₂ (λ x y. not x || y) p.0 p.1)

      after_some : Alike (s - max (sequence_lookback a) l) (suc (s + (hi a - 1 + h))) τ υ
          → some (suc s) (s + hi a) (λ e. matches a τ s e && t (e - 1)) ≡ some (suc s) (s + hi a) (λ e. matches a υ s e && u (e - 1))
      after_some w = some_same _ _ (suc s) (suc (s + hi a)) (λ e v b. let p = after_parts w e v b in ap₂ ◌&&◌ p.0 p.1)

      next_each : Alike (s - max (sequence_lookback a) l) (suc (s + (hi a + h))) τ υ
          → each s (s + hi a) (λ e. not (matches a τ s e) || t e) ≡ each s (s + hi a) (λ e. not (matches a υ s e) || u e)
      next_each w = each_same _ _ s (suc (s + hi a)) (λ e v b. let p = next_parts w e v b in ap₂ (λ x y. not x || y) p.0 p.1)

      next_some : Alike (s - max (sequence_lookback a) l) (suc (s + (hi a + h))) τ υ
          → some s (s + hi a) (λ e. matches a τ s e && t e) ≡ some s (s + hi a) (λ e. matches a υ s e && u e)
      next_some w = some_same _ _ s (suc (s + hi a)) (λ e v b. let p = next_parts w e v b in ap₂ ◌&&◌ p.0 p.1)

    -- in the cycles from s + m to s + n
    module _ (m n s : ℕ) (w : Alike (s - l) (suc (s + (n + h))) τ υ) where
      some_cycle : some (s + m) (s + n) t ≡ some (s + m) (s + n) u
      some_cycle = some_same t u (s + m) (suc (s + n)) (λ c v b. same c (narrower _ _ _ _ (omega arith) (omega arith) w))

      each_cycle : each (s + m) (s + n) t ≡ each (s + m) (s + n) u
      each_cycle = each_same t u (s + m) (suc (s + n)) (λ c v b. same c (narrower _ _ _ _ (omega arith) (omega arith) w))

  abbrev Spanned : (Property → Trace → ℕ → Bool) → Property → Type 0
  Spanned f p = (s : ℕ) → Alike (s - lookback p) (suc (s + horizon p)) τ υ → f p τ s ≡ f p υ s

  holds_same : (p : Property) → Spanned holds p
  holds_same (Property.sequence a) s w = some_same _ _ (suc s) (suc (s + hi a)) (λ e v b. match_same a s e (narrower _ _ _ _ (omega arith) (omega arith) w))
  holds_same (Property.not p) s w = ap not (holds_same p s w)
  holds_same (Property.or p q) s w =
      ap₂ ◌||◌ (holds_same p s (narrower _ _ _ _ (omega arith) (omega arith) w)) (holds_same q s (narrower _ _ _ _ (omega arith) (omega arith) w))
  holds_same (Property.and p q) s w =
      ap₂ ◌&&◌ (holds_same p s (narrower _ _ _ _ (omega arith) (omega arith) w)) (holds_same q s (narrower _ _ _ _ (omega arith) (omega arith) w))
  holds_same (Property.implies a p) s w = after_each (holds p τ) (holds p υ) (lookback p) (horizon p) (holds_same p) a s w
  holds_same (Property.implies_next a p) s w = next_each (holds p τ) (holds p υ) (lookback p) (horizon p) (holds_same p) a s w
  holds_same (Property.nexttime m p) s w = holds_same p (s + m) (narrower _ _ _ _ (omega arith) (omega arith) w)
  holds_same (Property.always m n p) s w = each_cycle (holds p τ) (holds p υ) (lookback p) (horizon p) (holds_same p) m n s w
  holds_same (Property.eventually m n p) s w = some_cycle (holds p τ) (holds p υ) (lookback p) (horizon p) (holds_same p) m n s w

  live_same : (p : Property) → Spanned live p
  live_same (Property.sequence a) s w = refl
  live_same (Property.not p) s w = live_same p s w
  live_same (Property.or p q) s w =
      ap₂ ◌||◌ (live_same p s (narrower _ _ _ _ (omega arith) (omega arith) w)) (live_same q s (narrower _ _ _ _ (omega arith) (omega arith) w))
  live_same (Property.and p q) s w =
      ap₂ ◌||◌ (live_same p s (narrower _ _ _ _ (omega arith) (omega arith) w)) (live_same q s (narrower _ _ _ _ (omega arith) (omega arith) w))
  live_same (Property.implies a p) s w = after_some (live p τ) (live p υ) (lookback p) (horizon p) (live_same p) a s w
  live_same (Property.implies_next a p) s w = next_some (live p τ) (live p υ) (lookback p) (horizon p) (live_same p) a s w
  live_same (Property.nexttime m p) s w = live_same p (s + m) (narrower _ _ _ _ (omega arith) (omega arith) w)
  live_same (Property.always m n p) s w = some_cycle (live p τ) (live p υ) (lookback p) (horizon p) (live_same p) m n s w
  live_same (Property.eventually m n p) s w = some_cycle (live p τ) (live p υ) (lookback p) (horizon p) (live_same p) m n s w

  -- so all that is said of a start is the same
  pub same : (p : Property) (s : ℕ) → Alike (s - lookback p) (suc (s + horizon p)) τ υ → Same p s τ υ
  same p s w =
      let h = holds_same p s w in
      let l = live_same p s w in
      record { holding = h; living = l; judged = ap₂ judge h l }

-- and also with a span that is wider than it need be
pub spans : (h l : ℕ) (p : Property) → horizon p ≤ h → lookback p ≤ l → (s : ℕ) → Spans h l p s
spans h l p a b s τ υ w = same τ υ p s (narrower τ υ _ _ _ _ (omega arith) (omega arith) w)
