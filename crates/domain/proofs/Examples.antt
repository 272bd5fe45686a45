-- Every example of the contract stands.
use Rattle.std.proofs.Common.{ℕ, suc, ◌≤◌, true, false, ltb, leb, sym, refl, ap, arith}
use Rattle.std.proofs.Math.Bool.{or_self}
use Rattle.std.proofs.lemmas.Bool.{and_parts, false≢true, lt-ltb, ltb-true}
use Rattle.domain.specs.Meaning.{Grown}
use Rattle.domain.specs.Examples.{Examples, small}

-- the small domain, with more values issued and fewer places free
grown : (i j f g : ℕ) → i ≤ j → f ≤ suc g → g ≤ f → Grown (small i f) (small j g) 1
grown i j f g l m n = record {
  frame = refl;
  kept = λ v h. record { issued = lt-ltb v j (omega (arith, ltb-true v i h)); truth = λ ρ _. refl };
  taken = omega arith;
  none_added = omega arith;
}

pub examples : Examples
examples = record {
  accepted = (
    record { allowed = refl; denotes = record { issued = refl; truth = λ ρ _. refl }; grown = grown 3 3 4 3 (omega arith) (omega arith) (omega arith) },
    record { allowed = refl; denotes = record { issued = refl; truth = λ ρ _. refl }; grown = grown 3 3 4 4 (omega arith) (omega arith) (omega arith) },
    record { allowed = refl; denotes = record { issued = refl; truth = λ ρ _. sym (or_self ρ) }; grown = grown 3 4 4 3 (omega arith) (omega arith) (omega arith) },
    record { allowed = refl; denotes = record { issued = refl; truth = λ ρ _. refl }; grown = grown 3 3 0 0 (omega arith) (omega arith) (omega arith) },
    record { allowed = refl; denotes = record { issued = refl; truth = λ ρ _. refl }; grown = grown 3 3 1 0 (omega arith) (omega arith) (omega arith) },
    record { allowed = refl; denotes = record { issued = refl; truth = λ ρ _. refl }; grown = grown 3 3 4 4 (omega arith) (omega arith) (omega arith) },
  );
  places = (λ a. omega (arith, a.grown.taken), λ a. omega (arith, a.grown.none_added));
  truths = (
    λ a. false≢true (sym (a.denotes.truth false refl)),
    λ a. false≢true (a.denotes.truth true refl),
    λ a. false≢true (a.denotes.truth true refl),
    λ a. false≢true (sym (a.denotes.truth true refl)),
    λ a. false≢true (sym (a.denotes.truth false refl)),
    record {
      allowed = refl;
      denotes = record { issued = refl; truth = λ ρ r. sym r };
      grown = record {
        frame = refl;
        kept = λ v h. record { issued = h; truth = λ ρ _. refl };
        taken = omega arith;
        none_added = omega arith;
      };
    },
  );
  issued = (
    λ a. false≢true a.denotes.issued,
    λ a. false≢true a.allowed,
    λ a. false≢true a.allowed,
    λ a. false≢true a.allowed,
    λ a. false≢true a.allowed,
    λ a. false≢true a.allowed,
    λ a. false≢true a.allowed,
  );
  kept = (
    λ a. false≢true (a.grown.kept 2 refl).issued,
    λ a. false≢true (sym ((a.grown.kept 2 refl).truth false refl)),
    λ a. omega (arith, ap (λ g. g.count) a.grown.frame),
  );
  refused = (
    record { same = refl; due = refl },
    record { same = refl; due = refl },
    record { same = refl; due = refl },
    record { same = refl; due = (refl, refl) },
    record { same = refl; due = refl },
    record { same = refl; due = refl },
    record { same = refl; due = (refl, refl) },
  );
  not_refused = (
    λ a. omega (arith, ap (λ r. r.number) a.due.0),
    λ a. omega (arith, a.due.1),
    λ a. omega (arith, ap (λ r. r.number) a.due.0),
    λ a. omega (arith, ap (λ r. r.number) a.due),
    λ a. omega (arith, ap (λ r. r.number) a.due.0),
    λ a. omega (arith, ap (λ r. r.number) a.due),
    λ a. omega (arith, ap (λ r. r.number) a.due),
    λ a. omega (arith, a.due.1),
  );
  unchanged = (
    λ a. false≢true (sym (ap (λ m. m.issued 3) a.same)),
    λ a. omega (arith, ap (λ m. m.free) a.same),
    λ a. omega (arith, ap (λ m. m.frame.count) a.same),
  );
  ends = (
    λ c h. omega (arith, ltb-true c 7 (and_parts (leb 5 c) (ltb c 7) h).1),
    λ h. omega (arith, h 6 refl),
  );
}
