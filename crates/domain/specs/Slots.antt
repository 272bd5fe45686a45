-- Values of a domain that stand in a list.
use Rattle.std.specs.Prelude.{◌≡◌, ℕ, zero, suc, ◌+◌, ◌<◌, ◌≤◌, Bool, true, false, List, [], ◌∷◌, Ok, Err, Result}
use Rattle.fault.specs.declared.DomainFault.{DomainFault}
use Rattle.domain.specs.Meaning.{Meaning, Grown}
use Rattle.domain.specs.Outcomes.{Stopped}

module _ {V R : Type 0} where
  -- each value of the list is issued
  unfoldable pub Known : Meaning V R → List V → Type 0
  Known m [] = Unit {0}
  Known m (v ∷ vs) = (m.issued v ≡ true) × Known m vs

  -- the truth of the value at place i; past the end nothing is true
  unfoldable pub at : Meaning V R → List V → (i : ℕ) → R → Bool
  at m [] i ρ = false
  at m (v ∷ vs) zero ρ = m.truth v ρ
  at m (v ∷ vs) (suc i) ρ = at m vs i ρ

-- from m and xs to n and ys: the `count` places from `first` on have the truths F, the others those
-- that they had, and every value is issued
pub record Written {V R : Type 0} (m n : Meaning V R) (xs ys : List V) (k first count : ℕ) (F : ℕ → R → Bool) : Type 0 where
  pub grown : Grown m n k
  pub known : Known n ys
  pub before : (i : ℕ) (ρ : R) → i < first → n.frame.reading ρ ≡ true → at n ys i ρ ≡ at m xs i ρ
  pub after : (i : ℕ) (ρ : R) → first + count ≤ i → n.frame.reading ρ ≡ true → at n ys i ρ ≡ at m xs i ρ
  pub cells : (i : ℕ) (ρ : R) → i < count → n.frame.reading ρ ≡ true → at n ys (first + i) ρ ≡ F i ρ

-- a computation that writes a layer of places, or is refused a place
abbrev pub Layered : {V R : Type 0} → (m n : Meaning V R) → (xs ys : List V) → (k first count : ℕ) → (ℕ → R → Bool) → Result (Unit {0}) DomainFault → Type 0
Layered m n xs ys k first count F (Ok _) = Written m n xs ys k first count F
Layered m n xs ys k first count F (Err fault) = Stopped m n k fault
