-- What operations come to, alone and one after the other.
use Rattle.std.proofs.Common.{◌≡◌, ℕ, ◌+◌, ◌≤◌, Bool, true, not, ◌&&◌, ◌||◌, leb, List, IsErrAnd, Ok, Err, Result, sym, refl, ap, ◌∙◌, subst, ap₂, arith}
use mathlib.Core.Bool.{not-not}
use Rattle.std.proofs.lemmas.Result.{err_from_is_err_and}
use Rattle.std.proofs.lemmas.Bool.{and_from}
use Rattle.fault.proofs.First.{allowed_none}
use Rattle.fault.specs.First.{Rule, allows}
use Rattle.fault.specs.Refusals.{refuse, domain_refusal}
use Rattle.fault.specs.declared.DomainFault.{DomainFault}
use Rattle.fault.specs.declared.DomainFault.TheVariants.{Full, NotIssued, Atom as NotThere}
use Rattle.fault.specs.declared.Layer.TheVariants as In
use Rattle.domain.specs.Meaning.{Meaning, Denotes, Grown, held}
use Rattle.domain.specs.Operations.{Due, Refused, Answered, Atom, Not, And, Or}
use Rattle.domain.specs.Outcomes.{Reached, Stopped, Outcome}
use Rattle.domain.proofs.Growth.{grown_same, grown_most, grown_then, reading_back, denotes_grown, denotes_as}

-- only one fault has number 24
is_full : (fault : DomainFault) → domain_refusal fault ≡ refuse In.Domain 24 0 → fault ≡ Full
is_full Full e = refl
is_full NotIssued e = absurd (omega (arith, ap (λ r. r.number) e))
is_full NotThere e = absurd (omega (arith, ap (λ r. r.number) e))

-- a rule that asks for what is there allows
pub holds_allows : {there : Bool} → there ≡ true → (not (not there) && true) ≡ true
holds_allows {there} e = and_from (not (not there)) true (not-not there ∙ e) refl

module _ {V R : Type 0} where
  -- an operation that the rules allow is refused for want of a place alone
  pub stopped : {l m n : Meaning V R} {rules : List Rule} {j k : ℕ} {fault : DomainFault} → allows rules ≡ true → j ≤ k → Grown l m j → Refused m n rules fault → Stopped l n k fault
  stopped {l} {m} {n} {rules} {j} {k} {fault} a b g r =
      let due = subst (λ o. Due m o (domain_refusal fault)) (allowed_none rules a) r.due in
      record {
        refused = is_full fault due.0;
        full = ap (λ x. x.free) r.same ∙ due.1;
        grown = grown_most k b (subst (λ x. Grown l x j) (sym r.same) g);
      }

  -- an operation that the rules allow is a computation
  pub outcome_of : (m n : Meaning V R) (rules : List Rule) (f h : R → Bool) (k : ℕ) (r : Result V DomainFault) → allows rules ≡ true → 1 ≤ k → ((ρ : R) → m.frame.reading ρ ≡ true → f ρ ≡ h ρ) → Answered m n rules f r → Outcome m n k h r
  outcome_of m n rules f h k (Ok v) a l e t = record { denotes = denotes_as (λ ρ q. e ρ (reading_back t.grown q)) t.denotes; grown = grown_most k l t.grown }
  outcome_of m n rules f h k (Err fault) a l e t = stopped a (omega arith) (grown_same m) t

  pub atom_outcome : (m n : Meaning V R) (signal cycle : ℕ) (h : R → Bool) (k : ℕ) (r : Result V DomainFault) → (leb signal 63 && held m.frame cycle) ≡ true → 1 ≤ k → ((ρ : R) → m.frame.reading ρ ≡ true → m.frame.trace ρ cycle signal ≡ h ρ) → Atom m n signal cycle r → Outcome m n k h r
  atom_outcome m n signal cycle h k r there l e t = outcome_of m n _ _ h k r (holds_allows there) l e t

  pub not_outcome : (m n : Meaning V R) {a : V} {f : R → Bool} (h : R → Bool) (k : ℕ) (r : Result V DomainFault) → Denotes m a f → 1 ≤ k → ((ρ : R) → not (f ρ) ≡ h ρ) → Not m n a r → Outcome m n k h r
  not_outcome m n {a} {f} h k r da l e t =
      outcome_of m n _ _ h k r (holds_allows da.issued) l (λ ρ q. ap not (da.truth ρ q) ∙ e ρ) t

  pub and_outcome : (m n : Meaning V R) {a b : V} {f g : R → Bool} (h : R → Bool) (k : ℕ) (r : Result V DomainFault) → Denotes m a f → Denotes m b g → 1 ≤ k → ((ρ : R) → (f ρ && g ρ) ≡ h ρ) → And m n a b r → Outcome m n k h r
  and_outcome m n h k r da db l e t =
      outcome_of m n _ _ h k r (holds_allows (and_from _ _ da.issued db.issued)) l (λ ρ q. ap₂ ◌&&◌ (da.truth ρ q) (db.truth ρ q) ∙ e ρ) t

  pub or_outcome : (m n : Meaning V R) {a b : V} {f g : R → Bool} (h : R → Bool) (k : ℕ) (r : Result V DomainFault) → Denotes m a f → Denotes m b g → 1 ≤ k → ((ρ : R) → (f ρ || g ρ) ≡ h ρ) → Or m n a b r → Outcome m n k h r
  or_outcome m n h k r da db l e t =
      outcome_of m n _ _ h k r (holds_allows (and_from _ _ da.issued db.issued)) l (λ ρ q. ap₂ ◌||◌ (da.truth ρ q) (db.truth ρ q) ∙ e ρ) t

  -- an accepted operation on values that denote something
  pub not_denotes : {m n : Meaning V R} {a v : V} {f : R → Bool} → Denotes m a f → Not m n a (Ok v) → Denotes n v (λ ρ. not (f ρ))
  not_denotes da t = denotes_as (λ ρ r. ap not (da.truth ρ (reading_back t.grown r))) t.denotes

  pub and_denotes : {m n : Meaning V R} {a b v : V} {f g : R → Bool} → Denotes m a f → Denotes m b g → And m n a b (Ok v) → Denotes n v (λ ρ. f ρ && g ρ)
  and_denotes da db t = denotes_as (λ ρ r. let q = reading_back t.grown r in ap₂ ◌&&◌ (da.truth ρ q) (db.truth ρ q)) t.denotes

  pub or_denotes : {m n : Meaning V R} {a b v : V} {f g : R → Bool} → Denotes m a f → Denotes m b g → Or m n a b (Ok v) → Denotes n v (λ ρ. f ρ || g ρ)
  or_denotes da db t = denotes_as (λ ρ r. let q = reading_back t.grown r in ap₂ ◌||◌ (da.truth ρ q) (db.truth ρ q)) t.denotes

  -- a value at hand is a computation that takes no place
  pub reached_at_once : {m : Meaning V R} {v : V} {f : R → Bool} → Denotes m v f → Reached m m 0 f v
  reached_at_once {m} d = record { denotes = d; grown = grown_same m }

  -- two computed values, joined: a loop takes the `or` or the `and` of what it works out like this
  pub and_then : {l m n o : Meaning V R} {a b v : V} {f g : R → Bool} {i j : ℕ} (k : ℕ) → i + j + 1 ≤ k → Reached l m i f a → Reached m n j g b → And n o a b (Ok v) → Reached l o k (λ ρ. f ρ && g ρ) v
  and_then k less x y t = record {
    denotes = and_denotes (denotes_grown y.grown x.denotes) y.denotes t;
    grown = grown_most k less (grown_then (grown_then x.grown y.grown) t.grown);
  }

  pub or_then : {l m n o : Meaning V R} {a b v : V} {f g : R → Bool} {i j : ℕ} (k : ℕ) → i + j + 1 ≤ k → Reached l m i f a → Reached m n j g b → Or n o a b (Ok v) → Reached l o k (λ ρ. f ρ || g ρ) v
  or_then k less x y t = record {
    denotes = or_denotes (denotes_grown y.grown x.denotes) y.denotes t;
    grown = grown_most k less (grown_then (grown_then x.grown y.grown) t.grown);
  }

  -- the same computation in other words
  pub reached_as : {m n : Meaning V R} {f h : R → Bool} {v : V} {j : ℕ} (k : ℕ) → j ≤ k → ((ρ : R) → m.frame.reading ρ ≡ true → f ρ ≡ h ρ) → Reached m n j f v → Reached m n k h v
  reached_as k l e x = record { denotes = denotes_as (λ ρ q. e ρ (reading_back x.grown q)) x.denotes; grown = grown_most k l x.grown }

  pub stopped_then : {l m n : Meaning V R} {i j : ℕ} {fault : DomainFault} (k : ℕ) → i + j ≤ k → Grown l m i → Stopped m n j fault → Stopped l n k fault
  stopped_then k less g s = record { refused = s.refused; full = s.full; grown = grown_most k less (grown_then g s.grown) }

  pub outcome_as : (m n : Meaning V R) (f h : R → Bool) (j k : ℕ) (r : Result V DomainFault) → j ≤ k → ((ρ : R) → m.frame.reading ρ ≡ true → f ρ ≡ h ρ) → Outcome m n j f r → Outcome m n k h r
  outcome_as m n f h j k (Ok v) l e x = reached_as k l e x
  outcome_as m n f h j k (Err fault) l e x = stopped_then k (omega arith) (grown_same m) x

  -- where one computation is the end of another, after others that took i places
  pub outcome_then : (l m n : Meaning V R) (f : R → Bool) (i j k : ℕ) (r : Result V DomainFault) → i + j ≤ k → Grown l m i → Outcome m n j f r → Outcome l n k f r
  outcome_then l m n f i j k (Ok v) less g x = record { denotes = x.denotes; grown = grown_most k less (grown_then g x.grown) }
  outcome_then l m n f i j k (Err fault) less g x = stopped_then k less g x

  -- what a `?` hands on
  pub exit_outcome : {m n : Meaning V R} {k : ℕ} {fault : DomainFault} (f : R → Bool) (r : Result V DomainFault) → IsErrAnd r (λ x. x ≡ fault) → Stopped m n k fault → Outcome m n k f r
  exit_outcome {m} {n} {k} f r b s =
      let p = err_from_is_err_and r b in
      subst (λ x. Outcome m n k f x) (sym (p.1 ∙ ap Err p.2)) s

  -- where the ways of a `match` meet
  pub outcome_ok : {m n : Meaning V R} {k : ℕ} {f : R → Bool} {v : V} (r : Result V DomainFault) → r ≡ Ok v → Reached m n k f v → Outcome m n k f r
  outcome_ok {m} {n} {k} {f} r e x = subst (λ y. Outcome m n k f y) (sym e) x

  pub outcome_err : {m n : Meaning V R} {k : ℕ} {fault : DomainFault} (f : R → Bool) (r : Result V DomainFault) → r ≡ Err fault → Stopped m n k fault → Outcome m n k f r
  outcome_err {m} {n} {k} f r e x = subst (λ y. Outcome m n k f y) (sym e) x
