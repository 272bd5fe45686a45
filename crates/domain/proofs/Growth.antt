-- How meanings grow, and what values go on denoting.
use Rattle.std.proofs.Common.{◌≡◌, ℕ, ◌+◌, ◌≤◌, Bool, true, sym, refl, ap, ◌∙◌, arith}
use Rattle.domain.specs.Meaning.{Meaning, Denotes, Grown}

module _ {V R : Type 0} where
  pub grown_same : (m : Meaning V R) → Grown m m 0
  grown_same m = record {
    frame = refl;
    kept = λ v i. record { issued = i; truth = λ ρ _. refl };
    taken = omega arith;
    none_added = omega arith;
  }

  pub grown_most : {m n : Meaning V R} {j : ℕ} (k : ℕ) → j ≤ k → Grown m n j → Grown m n k
  grown_most k l g = record { frame = g.frame; kept = g.kept; taken = omega arith; none_added = g.none_added }

  -- a reading afterwards was one before
  pub reading_back : {m n : Meaning V R} {k : ℕ} {ρ : R} → Grown m n k → n.frame.reading ρ ≡ true → m.frame.reading ρ ≡ true
  reading_back {ρ = ρ} g r = sym (ap (λ w. w.reading ρ) g.frame) ∙ r

  -- what denotes f goes on doing so
  pub denotes_grown : {m n : Meaning V R} {k : ℕ} {v : V} {f : R → Bool} → Grown m n k → Denotes m v f → Denotes n v f
  denotes_grown {v = v} g d =
      let kept = g.kept v d.issued in
      record { issued = kept.issued; truth = λ ρ r. kept.truth ρ r ∙ d.truth ρ (reading_back g r) }

  -- and denotes what is the same at every reading
  pub denotes_as : {m : Meaning V R} {v : V} {f h : R → Bool} → ((ρ : R) → m.frame.reading ρ ≡ true → f ρ ≡ h ρ) → Denotes m v f → Denotes m v h
  denotes_as e d = record { issued = d.issued; truth = λ ρ r. d.truth ρ r ∙ e ρ r }

  pub grown_then : {l m n : Meaning V R} {j k : ℕ} → Grown l m j → Grown m n k → Grown l n (j + k)
  grown_then g h = record {
    frame = h.frame ∙ g.frame;
    kept = λ v i. denotes_grown h (g.kept v i);
    taken = omega arith;
    none_added = omega arith;
  }
