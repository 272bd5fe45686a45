-- Tests and the statements that they decide, put together.
use Rattle.std.proofs.Common.{◌≡◌, ℕ, ◌<◌, ◌≤◌, Bool, true, false, not, ◌&&◌, ◌||◌, ◌↔◌, refl, inl, inr}
use mathlib.Core.Logic.{◌∨₁◌, ∥∥₁_elim}
use mathlib.Core.Bool.{Bool-set}
use Rattle.std.proofs.lemmas.Bool.{and_from, and_parts, or_cases, or_left, or_right, false≢true}
use Rattle.sva.specs.Ranges.{some_below, each_below}
use Rattle.sva.specs.Satisfaction.{Exists}
use Rattle.sva.proofs.Ranges.{found, finds, at_each, every}

-- a test decides a statement
abbrev pub Tells : Bool → Type 0 → Type 0
Tells b P = (b ≡ true) ↔ P

-- what follows from a number follows from there being one
pub for_some : {P : ℕ → Type 0} (b : Bool) → ((n : ℕ) → P n → b ≡ true) → Exists P → b ≡ true
for_some b f x = ∥∥₁_elim x (Bool-set b true) (λ y. f y.0 y.1)

pub tells_not : (b : Bool) (P : Type 0) → Tells b P → Tells (not b) (¬ P)
tells_not true P t = (λ e. absurd (false≢true e), λ n. absurd (n (t.0 refl)))
tells_not false P t = (λ e p. false≢true (t.1 p), λ n. refl)

pub tells_and : (a b : Bool) (P Q : Type 0) → Tells a P → Tells b Q → Tells (a && b) (P × Q)
tells_and a b P Q t u =
    (λ e. let w = and_parts a b e in (t.0 w.0, u.0 w.1), λ p. and_from a b (t.1 p.0) (u.1 p.1))

pub tells_or : (a b : Bool) (P Q : Type 0) → Tells a P → Tells b Q → Tells (a || b) (P ∨₁ Q)
tells_or a b P Q t u = (
  λ e. elim (or_cases a b e) [ inl x ↦ ∣ inl (t.0 x) ∣₁ | inr y ↦ ∣ inr (u.0 y) ∣₁ ],
  λ p. ∥∥₁_elim p (Bool-set (a || b) true) (elim [ inl x ↦ or_left a b (t.1 x) | inr y ↦ or_right a b (u.1 y) ]),
)

-- not a or b, as an implication
pub tells_if : (a b : Bool) (P Q : Type 0) → Tells a P → Tells b Q → Tells (not a || b) (P → Q)
tells_if true b P Q t u = (λ e p. u.0 e, λ f. u.1 (f (t.0 refl)))
tells_if false b P Q t u = (λ e p. absurd (false≢true (t.1 p)), λ f. refl)

module _ (low end : ℕ) (p : ℕ → Bool) (P : ℕ → Type 0) (t : (n : ℕ) → Tells (p n) (P n)) where
  pub tells_some : Tells (some_below low end p) (Exists (λ n. (low ≤ n) × (n < end) × P n))
  tells_some = (
    λ e. let f = found p low end e in ∣ (f.at, (f.above, f.below, (t f.at).0 f.passes)) ∣₁,
    for_some (some_below low end p) (λ n x. finds p low end n x.0 x.1 ((t n).1 x.2)),
  )

  pub tells_each : Tells (each_below low end p) ((n : ℕ) → low ≤ n → n < end → P n)
  tells_each = (
    λ e n l u. (t n).0 (at_each p low end n l u e),
    λ f. every p low end (λ n l u. (t n).1 (f n l u)),
  )
