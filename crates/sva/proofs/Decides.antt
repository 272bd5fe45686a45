-- The tests of the meaning find exactly what the unbounded relation says.
use Rattle.std.proofs.Common.{◌≡◌, ℕ, zero, suc, ◌+◌, ◌-◌, ◌<◌, ◌≤◌, max, Bool, true, false, not, ◌&&◌, ◌||◌, eqb, leb, ◌↔◌, sym, refl, ap, ◌∙◌, inl, inr, arith}
use mathlib.Core.Logic.{∥∥₁_elim, ∥∥₁_map}
use mathlib.Core.HLevel.{⊥_prop}
use Rattle.std.proofs.lemmas.Bool.{and_from, and_parts, or_cases, or_left, or_right, cases_lt, true≢false, eqb-true, eq-eqb, leb-true, le-leb}
use Rattle.sva.specs.declared.verdict.Verdict.{Verdict}
use Rattle.sva.specs.Formula.{Boolean, Sequence, Property}
use Rattle.sva.specs.Lengths.{hi}
use Rattle.sva.specs.Meaning.{value, matches, splits, holds, live, judge}
use Rattle.sva.specs.Ranges.{some, some_below, each, each_below}
use Rattle.sva.specs.Satisfaction.{Exists, True, Splits, Matches, Holds, Live, HasVerdict, Decides}
use Rattle.sva.specs.Trace.{Trace}
use Rattle.sva.proofs.Bounds.{bounds}
use Rattle.sva.proofs.Tells.{Tells, for_some, tells_not, tells_and, tells_or, tells_if, tells_some, tells_each}
use Rattle.sva.proofs.Ranges.{found, finds}

is_failed : Verdict → Bool
is_failed Verdict.Failed = true
is_failed Verdict.Held = false
is_failed Verdict.Vacuous = false

is_held : Verdict → Bool
is_held Verdict.Failed = false
is_held Verdict.Held = true
is_held Verdict.Vacuous = false

failed≢held : Verdict.Failed ≡ Verdict.Held → ⊥
unfolding is_failed
failed≢held e = true≢false (ap is_failed e)

failed≢vacuous : Verdict.Failed ≡ Verdict.Vacuous → ⊥
unfolding is_failed
failed≢vacuous e = true≢false (ap is_failed e)

held≢vacuous : Verdict.Held ≡ Verdict.Vacuous → ⊥
unfolding is_held
held≢vacuous e = true≢false (ap is_held e)

tells_eqb : (a b : ℕ) → Tells (eqb a b) (a ≡ b)
tells_eqb a b = (eqb-true a b, eq-eqb a b)

module _ (τ : Trace) where
  -- m cycles before c there is a cycle, or not
  back : (m : ℕ) (x : Boolean) (c : ℕ) → ((b : ℕ) → Tells (value x τ b) (True x τ b)) → Tells (leb m c && value x τ (c - m)) (Exists (λ b. (b + m ≡ c) × True x τ b))
  back m x c t = (
    λ e.
        let w = and_parts (leb m c) (value x τ (c - m)) e in
        let l = leb-true m c w.0 in
        ∣ (c - m, (omega arith, (t (c - m)).0 w.1)) ∣₁,
    for_some (leb m c && value x τ (c - m)) (λ b y.
        let q = y.0 in
        let same : c - m ≡ b = omega arith in
        and_from (leb m c) (value x τ (c - m)) (le-leb m c (omega arith)) (rw same ((t b).1 y.1))),
  )

  values : (x : Boolean) (c : ℕ) → Tells (value x τ c) (True x τ c)
  values (Boolean.constant v) c = (λ e. e, λ e. e)
  values (Boolean.signal k) c = (λ e. e, λ e. e)
  values (Boolean.not x) c = tells_not (value x τ c) (True x τ c) (values x c)
  values (Boolean.and x y) c = tells_and (value x τ c) (value y τ c) (True x τ c) (True y τ c) (values x c) (values y c)
  values (Boolean.or x y) c = tells_or (value x τ c) (value y τ c) (True x τ c) (True y τ c) (values x c) (values y c)
  values (Boolean.past m x) c = back m x c (values x)

  abbrev Told : Sequence → Type 0
  Told a = (s e : ℕ) → Tells (matches a τ s e) (Matches a τ s e)

  -- a match does not end before it begins
  forth : (a : Sequence) (s e : ℕ) → matches a τ s e ≡ true → s ≤ e
  forth a s e h = let b = bounds a τ s e h in omega arith

  told_delay : (m n : ℕ) (a b : Sequence) → Told a → Told b → Told (Sequence.delay m n a b)
  told_delay m n a b x y s e = (
    λ h.
        let k = found _ s (suc e) h in
        let w = and_parts (matches a τ s k.at) _ k.passes in
        let d = found _ m (suc n) w.1 in
        ∣ (k.at, ∣ (d.at, (d.above, omega arith, (x s k.at).0 w.0, (y (k.at + (d.at - 1)) e).0 d.passes)) ∣₁) ∣₁,
    for_some (matches (Sequence.delay m n a b) τ s e) (λ k. for_some (matches (Sequence.delay m n a b) τ s e) (λ d z.
        let l = z.0 in
        let u = z.1 in
        let p = (x s k).1 z.2 in
        let q = (y (k + (d - 1)) e).1 z.3 in
        let f = forth a s k p in
        let g = forth b (k + (d - 1)) e q in
        finds _ s (suc e) k f (omega arith) (and_from (matches a τ s k) _ p (finds _ m (suc n) d l (omega arith) q)))),
  )

  told_fusion : (a b : Sequence) → Told a → Told b → Told (Sequence.fusion a b)
  told_fusion a b x y s e = (
    λ h.
        let k = found _ s e h in
        let w = and_parts (matches a τ s (suc k.at)) _ k.passes in
        ∣ (k.at, (k.above, k.below, (x s (suc k.at)).0 w.0, (y k.at e).0 w.1)) ∣₁,
    for_some (matches (Sequence.fusion a b) τ s e) (λ k z.
        finds _ s e k z.0 z.1 (and_from (matches a τ s (suc k)) _ ((x s (suc k)).1 z.2) ((y k e).1 z.3))),
  )

  in_order : (p : ℕ → ℕ → Bool) (j s e : ℕ) → splits p j s e ≡ true → s ≤ e
  in_order p zero s e h = let q = eqb-true s e h in omega arith
  in_order p (suc j) s e h = let k = found _ s (suc e) h in omega arith

  told_splits : (a : Sequence) → Told a → (j s e : ℕ) → Tells (splits (matches a τ) j s e) (Splits (Matches a τ) j s e)
  told_splits a x zero s e = tells_eqb s e
  told_splits a x (suc j) s e = (
    λ h.
        let k = found _ s (suc e) h in
        let w = and_parts (matches a τ s k.at) _ k.passes in
        ∣ (k.at, ((x s k.at).0 w.0, (told_splits a x j k.at e).0 w.1)) ∣₁,
    for_some (splits (matches a τ) (suc j) s e) (λ k z.
        let p = (x s k).1 z.0 in
        let q = (told_splits a x j k e).1 z.1 in
        let g = in_order (matches a τ) j k e q in
        finds _ s (suc e) k (forth a s k p) (omega arith) (and_from (matches a τ s k) _ p q)),
  )

  told_repeat : (m n : ℕ) (a : Sequence) → Told a → Told (Sequence.repeat m n a)
  told_repeat m n a x s e = (
    λ h.
        let j = found _ m (suc n) h in
        ∣ (j.at, (j.above, omega arith, (told_splits a x j.at s e).0 j.passes)) ∣₁,
    for_some (matches (Sequence.repeat m n a) τ s e) (λ j z.
        let u = z.1 in
        finds _ m (suc n) j z.0 (omega arith) ((told_splits a x j s e).1 z.2)),
  )

  told_and : (a b : Sequence) → Told a → Told b → Told (Sequence.and a b)
  told_and a b x y s e = (
    λ h. elim (or_cases (matches a τ s e && some s e (λ k. matches b τ s k)) (matches b τ s e && some s e (λ k. matches a τ s k)) h) [
      | inl p ↦
          let w = and_parts (matches a τ s e) _ p in
          let k = found (λ k. matches b τ s k) s (suc e) w.1 in
          ∣ (e, ∣ (k.at, ((x s e).0 w.0, (y s k.at).0 k.passes, omega arith)) ∣₁) ∣₁
      | inr p ↦
          let w = and_parts (matches b τ s e) _ p in
          let k = found (λ k. matches a τ s k) s (suc e) w.1 in
          ∣ (k.at, ∣ (e, ((x s k.at).0 k.passes, (y s e).0 w.0, omega arith)) ∣₁) ∣₁
    ],
    for_some (matches (Sequence.and a b) τ s e) (λ i. for_some (matches (Sequence.and a b) τ s e) (λ j z.
        let p = (x s i).1 z.0 in
        let q = (y s j).1 z.1 in
        let last : e ≡ max i j = z.2 in
        elim (cases_lt i j) [
          | inl l ↦
              let same : e ≡ j = omega arith in
              or_right (matches a τ s e && some s e (λ k. matches b τ s k)) _
              (and_from (matches b τ s e) _ (rw same q) (finds (λ k. matches a τ s k) s (suc e) i (forth a s i p) (omega arith) p))
          | inr l ↦
              let same : e ≡ i = omega arith in
              or_left _ (matches b τ s e && some s e (λ k. matches a τ s k))
              (and_from (matches a τ s e) _ (rw same p) (finds (λ k. matches b τ s k) s (suc e) j (forth b s j q) (omega arith) q))
        ])),
  )

  told_within : (a b : Sequence) → Told a → Told b → Told (Sequence.within a b)
  told_within a b x y s e = (
    λ h.
        let w = and_parts (matches b τ s e) _ h in
        let i = found _ s (suc e) w.1 in
        let j = found _ i.at (suc e) i.passes in
        ((y s e).0 w.0, ∣ (i.at, ∣ (j.at, (i.above, omega arith, (x i.at j.at).0 j.passes)) ∣₁) ∣₁),
    λ z. and_from (matches b τ s e) _ ((y s e).1 z.0)
        (for_some (some s e (λ i. some i e (λ j. matches a τ i j))) (λ i. for_some (some s e (λ i. some i e (λ j. matches a τ i j))) (λ j v.
        let p = (x i j).1 v.2 in
        let f = forth a i j p in
        let u : j ≤ e = v.1 in
        finds _ s (suc e) i v.0 (omega arith) (finds _ i (suc e) j f (omega arith) p))) z.1),
  )

  told_first : (a : Sequence) → Told a → Told (Sequence.first_match a)
  told_first a x s e =
      let t = tells_not (some_below s e (λ k. matches a τ s k)) _ (tells_some s e (λ k. matches a τ s k) (λ k. Matches a τ s k) (x s)) in
      let b = tells_and (matches a τ s e) (not (some_below s e (λ k. matches a τ s k))) (Matches a τ s e) _ (x s e) t in (
        λ h. let w = b.0 h in (w.0, λ k l m. w.1 ∣ (k, (forth a s k ((x s k).1 m), l, m)) ∣₁),
        λ z. b.1 (z.0, λ y. ∥∥₁_elim y ⊥_prop (λ v. z.1 v.0 v.1.1 v.1.2)),
      )

  stretches : (a : Sequence) → Told a
  stretches (Sequence.boolean x) s e = tells_and (eqb e (suc s)) (value x τ s) (e ≡ suc s) (True x τ s) (tells_eqb e (suc s)) (values x s)
  stretches (Sequence.delay m n a b) s e = told_delay m n a b (stretches a) (stretches b) s e
  stretches (Sequence.fusion a b) s e = told_fusion a b (stretches a) (stretches b) s e
  stretches (Sequence.repeat m n a) s e = told_repeat m n a (stretches a) s e
  stretches (Sequence.or a b) s e = tells_or (matches a τ s e) (matches b τ s e) (Matches a τ s e) (Matches b τ s e) (stretches a s e) (stretches b s e)
  stretches (Sequence.intersect a b) s e = tells_and (matches a τ s e) (matches b τ s e) (Matches a τ s e) (Matches b τ s e) (stretches a s e) (stretches b s e)
  stretches (Sequence.and a b) s e = told_and a b (stretches a) (stretches b) s e
  stretches (Sequence.throughout x b) s e =
      tells_and (matches b τ s e) (each_below s e (λ c. value x τ c)) (Matches b τ s e) _ (stretches b s e)
      (tells_each s e (λ c. value x τ c) (λ c. True x τ c) (values x))
  stretches (Sequence.within a b) s e = told_within a b (stretches a) (stretches b) s e
  stretches (Sequence.first_match a) s e = told_first a (stretches a) s e

  -- a property decided at every cycle, by a test for holding or for being live
  module _ (t : ℕ → Bool) (T : ℕ → Type 0) (told : (s : ℕ) → Tells (t s) (T s)) where
    after_each : (a : Sequence) (s : ℕ)
        → Tells (each (suc s) (s + hi a) (λ e. not (matches a τ s e) || t (e - 1))) ((e : ℕ) → s < e → Matches a τ s e → T (e - 1))
    after_each a s =
        let b = tells_each (suc s) (suc (s + hi a)) _ _ (λ e. tells_if (matches a τ s e) (t (e - 1)) (Matches a τ s e) (T (e - 1)) (stretches a s e) (told (e - 1))) in (
          λ h e l m. let w = bounds a τ s e ((stretches a s e).1 m) in b.0 h e l (omega arith) m,
          λ f. b.1 (λ e l u. f e l),
        )

    next_each : (a : Sequence) (s : ℕ)
        → Tells (each s (s + hi a) (λ e. not (matches a τ s e) || t e)) ((e : ℕ) → Matches a τ s e → T e)
    next_each a s =
        let b = tells_each s (suc (s + hi a)) _ _ (λ e. tells_if (matches a τ s e) (t e) (Matches a τ s e) (T e) (stretches a s e) (told e)) in (
          λ h e m. let w = bounds a τ s e ((stretches a s e).1 m) in b.0 h e (omega arith) (omega arith) m,
          λ f. b.1 (λ e l u. f e),
        )

    after_some : (a : Sequence) (s : ℕ)
        → Tells (some (suc s) (s + hi a) (λ e. matches a τ s e && t (e - 1))) (Exists (λ e. (s < e) × Matches a τ s e × T (e - 1)))
    after_some a s =
        let b = tells_some (suc s) (suc (s + hi a)) _ _ (λ e. tells_and (matches a τ s e) (t (e - 1)) (Matches a τ s e) (T (e - 1)) (stretches a s e) (told (e - 1))) in (
          λ h. ∥∥₁_map (b.0 h) (λ v. (v.0, (v.1.0, v.1.2.0, v.1.2.1))),
          λ z. b.1 (∥∥₁_map z (λ v. let w = bounds a τ s v.0 ((stretches a s v.0).1 v.1.1) in (v.0, (v.1.0, omega arith, (v.1.1, v.1.2))))),
        )

    next_some : (a : Sequence) (s : ℕ)
        → Tells (some s (s + hi a) (λ e. matches a τ s e && t e)) (Exists (λ e. Matches a τ s e × T e))
    next_some a s =
        let b = tells_some s (suc (s + hi a)) _ _ (λ e. tells_and (matches a τ s e) (t e) (Matches a τ s e) (T e) (stretches a s e) (told e)) in (
          λ h. ∥∥₁_map (b.0 h) (λ v. (v.0, v.1.2)),
          λ z. b.1 (∥∥₁_map z (λ v. let w = bounds a τ s v.0 ((stretches a s v.0).1 v.1.0) in (v.0, (omega arith, omega arith, v.1)))),
        )

    each_cycle : (first last : ℕ) → Tells (each first last t) ((c : ℕ) → first ≤ c → c ≤ last → T c)
    each_cycle first last =
        let b = tells_each first (suc last) t T told in
        (λ h c l u. b.0 h c l (omega arith), λ f. b.1 (λ c l u. f c l (omega arith)))

    some_cycle : (first last : ℕ) → Tells (some first last t) (Exists (λ c. (first ≤ c) × (c ≤ last) × T c))
    some_cycle first last =
        let b = tells_some first (suc last) t T told in (
          λ h. ∥∥₁_map (b.0 h) (λ v. let u = v.1.1 in (v.0, (v.1.0, omega arith, v.1.2))),
          λ z. b.1 (∥∥₁_map z (λ v. let u = v.1.1 in (v.0, (v.1.0, omega arith, v.1.2)))),
        )

  told_sequence : (a : Sequence) (s : ℕ) → Tells (holds (Property.sequence a) τ s) (Holds (Property.sequence a) τ s)
  told_sequence a s =
      let b = tells_some (suc s) (suc (s + hi a)) (λ e. matches a τ s e) (λ e. Matches a τ s e) (stretches a s) in (
        λ h. ∥∥₁_map (b.0 h) (λ v. (v.0, (v.1.0, v.1.2))),
        λ z. b.1 (∥∥₁_map z (λ v. let w = bounds a τ s v.0 ((stretches a s v.0).1 v.1.1) in (v.0, (v.1.0, omega arith, v.1.1)))),
      )

  holding : (p : Property) (s : ℕ) → Tells (holds p τ s) (Holds p τ s)
  holding (Property.sequence a) s = told_sequence a s
  holding (Property.not p) s = tells_not (holds p τ s) (Holds p τ s) (holding p s)
  holding (Property.or p q) s = tells_or (holds p τ s) (holds q τ s) (Holds p τ s) (Holds q τ s) (holding p s) (holding q s)
  holding (Property.and p q) s = tells_and (holds p τ s) (holds q τ s) (Holds p τ s) (Holds q τ s) (holding p s) (holding q s)
  holding (Property.implies a p) s = after_each (holds p τ) (Holds p τ) (holding p) a s
  holding (Property.implies_next a p) s = next_each (holds p τ) (Holds p τ) (holding p) a s
  holding (Property.nexttime m p) s = holding p (s + m)
  holding (Property.always m n p) s = each_cycle (holds p τ) (Holds p τ) (holding p) (s + m) (s + n)
  holding (Property.eventually m n p) s = some_cycle (holds p τ) (Holds p τ) (holding p) (s + m) (s + n)

  living : (p : Property) (s : ℕ) → Tells (live p τ s) (Live p τ s)
  living (Property.sequence a) s = (λ e. tt, λ u. refl)
  living (Property.not p) s = living p s
  living (Property.or p q) s = tells_or (live p τ s) (live q τ s) (Live p τ s) (Live q τ s) (living p s) (living q s)
  living (Property.and p q) s = tells_or (live p τ s) (live q τ s) (Live p τ s) (Live q τ s) (living p s) (living q s)
  living (Property.implies a p) s = after_some (live p τ) (Live p τ) (living p) a s
  living (Property.implies_next a p) s = next_some (live p τ) (Live p τ) (living p) a s
  living (Property.nexttime m p) s = living p (s + m)
  living (Property.always m n p) s = some_cycle (live p τ) (Live p τ) (living p) (s + m) (s + n)
  living (Property.eventually m n p) s = some_cycle (live p τ) (Live p τ) (living p) (s + m) (s + n)

  -- the verdict, from what the two tests find
  judged : (p : Property) (s : ℕ) (h l : Bool) → holds p τ s ≡ h → live p τ s ≡ l → (v : Verdict) → (judge h l ≡ v) ↔ HasVerdict p τ s v
  judged p s false l eh el Verdict.Failed = (λ _ x. true≢false (sym ((holding p s).1 x) ∙ eh), λ _. refl)
  judged p s false l eh el Verdict.Held = (λ e. absurd (failed≢held e), λ x. absurd (true≢false (sym ((holding p s).1 x.0) ∙ eh)))
  judged p s false l eh el Verdict.Vacuous = (λ e. absurd (failed≢vacuous e), λ x. absurd (true≢false (sym ((holding p s).1 x.0) ∙ eh)))
  judged p s true true eh el Verdict.Failed = (λ e. absurd (failed≢held (sym e)), λ n. absurd (n ((holding p s).0 eh)))
  judged p s true true eh el Verdict.Held = (λ _. ((holding p s).0 eh, (living p s).0 el), λ _. refl)
  judged p s true true eh el Verdict.Vacuous = (λ e. absurd (held≢vacuous e), λ x. absurd (x.1 ((living p s).0 el)))
  judged p s true false eh el Verdict.Failed = (λ e. absurd (failed≢vacuous (sym e)), λ n. absurd (n ((holding p s).0 eh)))
  judged p s true false eh el Verdict.Held = (λ e. absurd (held≢vacuous (sym e)), λ x. absurd (true≢false (sym ((living p s).1 x.1) ∙ el)))
  judged p s true false eh el Verdict.Vacuous = (λ _. ((holding p s).0 eh, λ x. true≢false (sym ((living p s).1 x) ∙ el)), λ _. refl)

  pub decides : Decides τ
  decides = record {
    values = values;
    stretches = stretches;
    holding = holding;
    living = living;
    verdicts = λ p s v. judged p s (holds p τ s) (live p τ s) refl refl v;
  }
