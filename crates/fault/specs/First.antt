-- An ordered list of refusals: the first that applies is the answer.
use Rattle.std.specs.Prelude.{Bool, true, cond, not, ◌&&◌, List, [], ◌∷◌, Some, None, Ok, Err, Option, Result}
use Rattle.fault.specs.declared.Refusal.{Refusal}

-- a condition, and what is refused where it holds
pub record Rule : Type 0 where
  pub applies : Bool
  pub refusal : Refusal

abbrev pub rule : Bool → Refusal → Rule
rule b r = record { applies = b; refusal = r }

abbrev pub first : List Rule → Option Refusal
first [] = None
first (r ∷ rs) = cond r.applies (Some r.refusal) (first rs)

-- no refusal applies
abbrev pub allows : List Rule → Bool
allows [] = true
allows (r ∷ rs) = not r.applies && allows rs

-- an answer, with the refusal that its fault tells
abbrev pub told : {A F : Type 0} → (F → Refusal) → Result A F → Result A Refusal
told refusal (Ok x) = Ok x
told refusal (Err f) = Err (refusal f)

-- an answer, unless a refusal applies
abbrev pub unless : {A : Type 0} → Option Refusal → A → Result A Refusal
unless None x = Ok x
unless (Some r) x = Err r
