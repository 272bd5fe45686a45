-- Laws of the first refusal that applies.
use Rattle.std.proofs.Common.{◌≡◌, ℕ, Bool, true, false, cond, not, ◌&&◌, List, [], ◌∷◌, Some, None, Ok, Err, Option, Result, sym, refl, ap, ◌∙◌, arith}
use Rattle.std.proofs.lemmas.Bool.{and_parts, not-true}
use Rattle.fault.specs.declared.Refusal.{Refusal}
use Rattle.fault.specs.First.{Rule, first, allows, unless}

-- a result is good or it is a refusal
pub not_both : {A X : Type 0} (x : A) (r : Refusal) → ◌≡◌ {A = Result A Refusal} (Ok x) (Err r) → X
not_both x r e = let z : ◌≡◌ {A = ℕ} 0 1 = cc in let z' : ⊥ = omega arith in absurd z'

-- the first rule does not apply, and the others allow
pub allows_parts : (b others : Bool) → (not b && others) ≡ true → (b ≡ false) × (others ≡ true)
allows_parts b others e = let p = and_parts (not b) others e in (not-true b p.0, p.1)

-- an answer that is good: no refusal applies, and this is the answer
pub unless_ok : {A : Type 0} (rs : List Rule) (x y : A) → unless (first rs) x ≡ Ok y → (allows rs ≡ true) × (x ≡ y)
unless_ok [] x y e = (refl, cc)
unless_ok {A} (r ∷ rs) x y e = one r.applies e (unless_ok rs x y)
  where
    one : (b : Bool) → unless (cond b (Some r.refusal) (first rs)) x ≡ Ok y → (unless (first rs) x ≡ Ok y → (allows rs ≡ true) × (x ≡ y))
        → ((not b && allows rs) ≡ true) × (x ≡ y)
    one true e k = not_both y r.refusal (sym e)
    one false e k = k e

-- where no refusal applies the answer is good
pub allowed_ok : {A : Type 0} (rs : List Rule) (x : A) → allows rs ≡ true → unless (first rs) x ≡ Ok x
allowed_ok [] x e = refl
allowed_ok {A} (r ∷ rs) x e =
    let p = allows_parts r.applies (allows rs) e in
    ap (λ b. unless (cond b (Some r.refusal) (first rs)) x) p.0 ∙ allowed_ok rs x p.1

-- the refusals alone decide whether it is
pub unless_good : {A B : Type 0} (o : Option Refusal) (x y : A) (z : B) → unless o x ≡ Ok y → unless o z ≡ Ok z
unless_good None x y z e = refl
unless_good (Some r) x y z e = not_both y r (sym e)

pub unless_bad : {A B : Type 0} (o : Option Refusal) (x : A) (z : B) (r : Refusal) → unless o x ≡ Err r → unless o z ≡ Err r
unless_bad None x z r e = not_both x r e
unless_bad (Some q) x z r e = cc

-- where no refusal applies there is none to give
pub allowed_none : (rs : List Rule) → allows rs ≡ true → first rs ≡ None
allowed_none [] e = refl
allowed_none (r ∷ rs) e =
    let p = allows_parts r.applies (allows rs) e in
    ap (λ b. cond b (Some r.refusal) (first rs)) p.0 ∙ allowed_none rs p.1
