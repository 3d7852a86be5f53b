-- Bytes that hold fields, one after another.
use Rattle.std.specs.Prelude.{List, [], ◌∷◌, ◌≡◌, ℕ, ◌+◌, ◌<◌, ◌≤◌, ◌^◌, length, get_or, Some}
use Rattle.bits.specs.Bits.{Part, field_at, widest}

-- every byte is one: every slice of bytes has this
abbrev pub Bytes : List ℕ → Type 0
Bytes s = (i : ℕ) → i < length s → get_or s i 0 < 256

-- how many bits the fields take
unfoldable pub width_of_all : List Part → ℕ
width_of_all [] = 0
width_of_all (p ∷ ps) = p.wide + width_of_all ps

-- every number fits its field, and no field is wider than the widest
unfoldable pub Fitting : List Part → Type 0
Fitting [] = Unit
Fitting (p ∷ ps) = (p.wide ≤ widest) × ((p.is < 2 ^ p.wide) × Fitting ps)

-- no field is wider than the widest
unfoldable pub Narrow : List Part → Type 0
Narrow [] = Unit
Narrow (p ∷ ps) = (p.wide ≤ widest) × Narrow ps

-- numbers that fit stand in fields that are no wider
pub fitting_narrow : (ps : List Part) → Fitting ps → Narrow ps
unfolding Fitting Narrow
fitting_narrow [] fits = tt
fitting_narrow (p ∷ ps) fits = (fits.0, fitting_narrow ps fits.1.1)

-- the fields stand one after another from bit `at` on
unfoldable pub Holds : List ℕ → ℕ → List Part → Type 0
Holds s at [] = Unit
Holds s at (p ∷ ps) = (field_at s at p.wide ≡ Some p.is) × Holds s (at + p.wide) ps
