-- Values in slots: reading one, writing one, writing layer by layer.
use Rattle.std.proofs.Common.{◌≡◌, ℕ, zero, suc, ◌+◌, ◌<◌, ◌≤◌, Bool, true, ◌≢◌, List, [], ◌∷◌, length, get_or, set, IsErrAnd, Err, Result, sym, refl, ap, ◌∙◌, subst, inl, inr, le_of_suc-le-suc, arith}
use Rattle.std.proofs.lemmas.Result.{err_from_is_err_and}
use Rattle.std.proofs.lemmas.Bool.{cases_eq}
use Rattle.fault.specs.declared.DomainFault.{DomainFault}
use Rattle.domain.specs.Meaning.{Meaning, Denotes, Grown}
use Rattle.domain.specs.Outcomes.{Reached, Stopped}
use Rattle.domain.specs.Slots.{Known, at, Written, Layered}
use Rattle.domain.proofs.Growth.{grown_same, grown_most, grown_then, reading_back}

module _ {V R : Type 0} where
  -- a value that is read from a slot denotes what the slot has
  pub known_read : {m : Meaning V R} (xs : List V) (i : ℕ) (v : V) → Known m xs → i < length xs → v ≡ get_or xs i v → Denotes m v (at m xs i)
  unfolding Known at
  known_read [] i v k l e = let z : ⊥ = omega arith in absurd z
  known_read {m} (x ∷ xs) zero v k l e = record { issued = ap m.issued e ∙ k.0; truth = λ ρ _. ap (λ y. m.truth y ρ) e }
  known_read (x ∷ xs) (suc i) v k l e = known_read xs i v k.1 (le_of_suc-le-suc l) e

  -- slots keep what they have while the domain goes on
  pub known_grown : {m n : Meaning V R} {j : ℕ} (xs : List V) → Grown m n j → Known m xs → Known n xs
  unfolding Known
  known_grown [] g k = tt
  known_grown (x ∷ xs) g k = ((g.kept x k.0).issued, known_grown xs g k.1)

  pub at_grown : {m n : Meaning V R} {j : ℕ} (xs : List V) (i : ℕ) (ρ : R) → Grown m n j → Known m xs → n.frame.reading ρ ≡ true → at n xs i ρ ≡ at m xs i ρ
  unfolding Known at
  at_grown [] i ρ g k r = refl
  at_grown (x ∷ xs) zero ρ g k r = (g.kept x k.0).truth ρ r
  at_grown (x ∷ xs) (suc i) ρ g k r = at_grown xs i ρ g k.1 r

  -- one slot written
  pub known_set : (m : Meaning V R) (xs : List V) (i : ℕ) (v : V) → m.issued v ≡ true → Known m xs → Known m (set xs i v)
  unfolding Known
  known_set m [] i v e k = tt
  known_set m (x ∷ xs) zero v e k = (e, k.1)
  known_set m (x ∷ xs) (suc i) v e k = (k.0, known_set m xs i v e k.1)

  pub at_set_same : (m : Meaning V R) (xs : List V) (i : ℕ) (v : V) (ρ : R) → i < length xs → at m (set xs i v) i ρ ≡ m.truth v ρ
  unfolding at
  at_set_same m [] i v ρ l = let z : ⊥ = omega arith in absurd z
  at_set_same m (x ∷ xs) zero v ρ l = refl
  at_set_same m (x ∷ xs) (suc i) v ρ l = at_set_same m xs i v ρ (le_of_suc-le-suc l)

  pub at_set_other : (m : Meaning V R) (xs : List V) (i j : ℕ) (v : V) (ρ : R) → j ≢ i → at m (set xs i v) j ρ ≡ at m xs j ρ
  unfolding at
  at_set_other m [] i j v ρ n = refl
  at_set_other m (x ∷ xs) zero zero v ρ n = absurd (n refl)
  at_set_other m (x ∷ xs) zero (suc j) v ρ n = refl
  at_set_other m (x ∷ xs) (suc i) zero v ρ n = refl
  at_set_other m (x ∷ xs) (suc i) (suc j) v ρ n = at_set_other m xs i j v ρ (λ e. n (ap suc e))

  -- no slot of a layer written yet
  pub written_none : {m : Meaning V R} (xs : List V) (first : ℕ) (F : ℕ → R → Bool) → Known m xs → Written m m xs xs 0 first 0 F
  written_none {m} xs first F k = record {
    grown = grown_same m;
    known = k;
    before = λ i ρ _ _. refl;
    after = λ i ρ _ _. refl;
    cells = λ i ρ l _. let z : ⊥ = omega arith in absurd z;
  }

  -- one more, by a computation that got its value
  pub written_more : {m n o : Meaning V R} {xs : List V} {j k : ℕ} {f : R → Bool} {v : V} {F : ℕ → R → Bool} (ys : List V) (first c most : ℕ) → k + j ≤ most → first + c < length ys → Written m n xs ys k first c F → Reached n o j f v → ((ρ : R) → n.frame.reading ρ ≡ true → f ρ ≡ F c ρ) → Written m o xs (set ys (first + c) v) most first (c + 1) F
  written_more {o = o} {v = v} {F = F} ys first c most less l w x e = record {
    grown = grown_most most less (grown_then w.grown x.grown);
    known = known_set o ys (first + c) v x.denotes.issued (known_grown ys x.grown w.known);
    before = λ i ρ h q. at_set_other o ys (first + c) i v ρ (omega arith) ∙ at_grown ys i ρ x.grown w.known q ∙ w.before i ρ h (reading_back x.grown q);
    after = λ i ρ h q. at_set_other o ys (first + c) i v ρ (omega arith) ∙ at_grown ys i ρ x.grown w.known q ∙ w.after i ρ (omega arith) (reading_back x.grown q);
    cells = λ i ρ h q. elim (cases_eq i c) [
      | inl same ↦ ap (λ k. at o (set ys (first + c) v) (first + k) ρ) same ∙ at_set_same o ys (first + c) v ρ l ∙ x.denotes.truth ρ q ∙ e ρ (reading_back x.grown q) ∙ ap (λ k. F k ρ) (sym same)
      | inr other ↦ at_set_other o ys (first + c) (first + i) v ρ (λ z. other (omega arith)) ∙ at_grown ys (first + i) ρ x.grown w.known q ∙ w.cells i ρ (omega (arith, other)) (reading_back x.grown q)
    ];
  }

  -- what a `?` hands on
  pub exit_layered : {m n : Meaning V R} {k : ℕ} {fault : DomainFault} (xs ys : List V) (first count : ℕ) (F : ℕ → R → Bool) (r : Result (Unit {0}) DomainFault) → IsErrAnd r (λ x. x ≡ fault) → Stopped m n k fault → Layered m n xs ys k first count F r
  exit_layered {m} {n} {k} xs ys first count F r b s =
      let p = err_from_is_err_and r b in
      subst (λ x. Layered m n xs ys k first count F x) (sym (p.1 ∙ ap Err p.2)) s
