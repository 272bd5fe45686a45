-- Slots that are filled with one value.
use Rattle.std.proofs.Common.{◌≡◌, ℕ, zero, suc, ◌+◌, ◌<◌, ◌≤◌, true, List, [], ◌∷◌, ◌++◌, length, get_or, drop, set, replicate, sym, refl, ap, ◌∙◌, subst, ap₂, append-nil, le_of_suc-le-suc, add-one, arith, drop-cons}
use Rattle.std.specs.List.{FoldsTo}
use lib.ListN.{length-replicate}
use lib.Seq.{set_at}
use Rattle.domain.specs.Meaning.{Meaning}
use Rattle.domain.specs.Slots.{Known}

-- by a closure: what calls give of which each answers v and leaves the closure as it is
pub filled : {P A : Type 0} (R : P → A → P → Type 0) (v : A) (p q : P) (xs : List A) → ((x : A) (u : P) → R p x u → (x ≡ v) × (u ≡ p)) → FoldsTo R p xs q → xs ≡ replicate (length xs) v
filled R v p q [] e w = refl
filled R v p q (x ∷ xs) e w =
    let h = e x w.0 w.1 in
    ap₂ ◌∷◌ h.0 (filled R v p q xs e (subst (λ u. FoldsTo R u xs q) h.1 w.2))

-- by a loop that writes, from the first slot on: one slot more, and all of them
module _ {V : Type 0} where
  one_more : (n : ℕ) (v : V) (zs : List V) → replicate n v ++ (v ∷ zs) ≡ replicate (suc n) v ++ zs
  one_more zero v zs = refl
  one_more (suc n) v zs = ap (λ l. v ∷ l) (one_more n v zs)

  pub fill_more : (xs ys : List V) (i : ℕ) (v : V) → i < length xs → ys ≡ replicate i v ++ drop i xs → set ys i v ≡ replicate (i + 1) v ++ drop (i + 1) xs
  fill_more xs ys i v l e =
      ap (λ z. set z i v) (e ∙ ap (λ z. replicate i v ++ z) (drop-cons xs i v l))
      ∙ set_at (replicate i v) (get_or xs i v) (drop (suc i) xs) v i (length-replicate i v)
      ∙ one_more i v (drop (suc i) xs)
      ∙ ap (λ n. replicate n v ++ drop n xs) (sym (add-one i))

  drop_all : (xs : List V) (n : ℕ) → length xs ≤ n → drop n xs ≡ []
  drop_all [] zero l = refl
  drop_all [] (suc n) l = refl
  drop_all (x ∷ xs) zero l = let z : ⊥ = omega arith in absurd z
  drop_all (x ∷ xs) (suc n) l = drop_all xs n (le_of_suc-le-suc l)

  pub fill_all : (xs ys : List V) (i : ℕ) (v : V) → i ≡ length xs → ys ≡ replicate i v ++ drop i xs → ys ≡ replicate (length xs) v
  fill_all xs ys i v l e =
      e ∙ ap (λ z. replicate i v ++ z) (drop_all xs i (omega arith)) ∙ append-nil (replicate i v) ∙ ap (λ n. replicate n v) l

known_replicate : {V R : Type 0} (m : Meaning V R) (n : ℕ) (v : V) → m.issued v ≡ true → Known m (replicate n v)
unfolding Known
known_replicate m zero v e = tt
known_replicate m (suc n) v e = (e, known_replicate m n v e)

pub known_filled : {V R : Type 0} (m : Meaning V R) (xs : List V) (n : ℕ) (v : V) → m.issued v ≡ true → xs ≡ replicate n v → Known m xs
known_filled m xs n v e f = subst (Known m) (sym f) (known_replicate m n v e)
