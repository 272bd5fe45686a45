-- The verdicts of a list of rows.
use Rattle.std.specs.Prelude.{ℕ, zero, suc, ◌-◌, List, [], ◌∷◌, ◌++◌, length}
use Rattle.sva.specs.declared.verdict.Verdict.{Verdict}
use Rattle.sva.specs.Formula.{Property}
use Rattle.sva.specs.Lengths.{horizon}
use Rattle.sva.specs.Meaning.{verdict}
use Rattle.sva.specs.Trace.{Trace, recorded}

-- how many starts are decided: a start is decided once the row is there that lies a horizon behind it
abbrev pub decided : Property → List ℕ → ℕ
decided p rows = length rows - horizon p

-- how many are still open
abbrev pub open_starts : Property → List ℕ → ℕ
open_starts p rows = length rows - decided p rows

-- the verdicts of the first n starts
abbrev pub first_verdicts : Property → Trace → (n : ℕ) → List Verdict
first_verdicts p τ zero = []
first_verdicts p τ (suc n) = first_verdicts p τ n ++ verdict p τ n ∷ []

-- the verdicts of all decided starts, in order
abbrev pub verdicts : Property → List ℕ → List Verdict
verdicts p rows = first_verdicts p (recorded rows) (decided p rows)
