-- How bytes spell numbers.
use Rattle.std.specs.Prelude.{ℕ, zero, suc, ◌+◌, ◌*◌, Bool, true, ◌&&◌, List, [], ◌∷◌, ◌==◌, slice_index}

-- byte k, or 0 past the end
abbrev pub byte : List ℕ → ℕ → ℕ
byte bs k = slice_index bs k

-- the number of so many bytes from a place on, least byte first
abbrev pub number : List ℕ → (place count : ℕ) → ℕ
number bs i zero = 0
number bs i (suc k) = byte bs i + 256 * number bs (suc i) k

-- so many bytes from a place on are zero
abbrev pub zeros : List ℕ → (place count : ℕ) → Bool
zeros bs i zero = true
zeros bs i (suc k) = byte bs i == 0 && zeros bs (suc i) k

-- so many bytes from a place on
abbrev pub part : List ℕ → (place count : ℕ) → List ℕ
part bs i zero = []
part bs i (suc k) = byte bs i ∷ part bs (suc i) k
