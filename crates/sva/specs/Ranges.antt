-- Tests over a range of numbers.
use Rattle.std.specs.Prelude.{ℕ, zero, suc, ◌-◌, Bool, true, false, ◌&&◌, ◌||◌}

-- some of so many numbers, from the first on, passes the test
abbrev pub some_of : (count first : ℕ) → (ℕ → Bool) → Bool
some_of zero i p = false
some_of (suc n) i p = p i || some_of n (suc i) p

-- and each of them
abbrev pub each_of : (count first : ℕ) → (ℕ → Bool) → Bool
each_of zero i p = true
each_of (suc n) i p = p i && each_of n (suc i) p

-- from low up to, but not including, end
abbrev pub some_below : (low end : ℕ) → (ℕ → Bool) → Bool
some_below low end p = some_of (end - low) low p

abbrev pub each_below : (low end : ℕ) → (ℕ → Bool) → Bool
each_below low end p = each_of (end - low) low p

-- from low to high, both included
abbrev pub some : (low high : ℕ) → (ℕ → Bool) → Bool
some low high p = some_below low (suc high) p

abbrev pub each : (low high : ℕ) → (ℕ → Bool) → Bool
each low high p = each_below low (suc high) p
