-- When a field is there, and when it isn't.
use Rattle.std.specs.Prelude.{Bool, true, false, cond, ◌&&◌, List, ◌≡◌, refl, ℕ, ◌+◌, ◌*◌, ◌^◌, ◌<◌, ◌≤◌, leb, length, Some, None}
use Rattle.std.proofs.Common.{subst, arith, le-leb, leb-true}
use Rattle.std.proofs.lemmas.Bool.{lt-leb}
use Rattle.bits.specs.Bits.{number_from, bit_at, bits_at, wholly, widest, field_at}
use Rattle.bits.specs.Digits.{bit_lt, number_lt}

-- what isn't wholly there is missing
missing_if : (narrow whole : Bool) (n : ℕ) → whole ≡ false → cond (narrow && whole) (Some n) None ≡ None
missing_if true whole n e = rw e
missing_if false whole n e = refl

-- a field that would end past the bytes isn't there
pub field_past : (s : List ℕ) (at w : ℕ) → 8 * length s < at + w → field_at s at w ≡ None
unfolding field_at
field_past s at w h = missing_if (leb w widest) (wholly s at w) (bits_at s at w) (lt-leb (at + w) (8 * length s) h)

-- every other field is
pub field_there : (s : List ℕ) (at w : ℕ) → w ≤ widest → at + w ≤ 8 * length s → field_at s at w ≡ Some (bits_at s at w)
unfolding field_at
field_there s at w narrow room = rw (le-leb w widest narrow, le-leb (at + w) (8 * length s) room)

-- what is known of a field that is there
abbrev Found : List ℕ → ℕ → ℕ → ℕ → Type 0
Found s at w v = (w ≤ widest) × ((at + w ≤ 8 * length s) × (bits_at s at w ≡ v))

-- the two tests, and the number
found_if : (narrow whole : Bool) (n v : ℕ) → cond (narrow && whole) (Some n) None ≡ Some v
    → (narrow ≡ true) × ((whole ≡ true) × (n ≡ v))
found_if true true n v e = (refl, (refl, cc))
found_if true false n v e = let z : ◌≡◌ {A = ℕ} 0 1 = cc in absurd (omega arith)
found_if false whole n v e = let z : ◌≡◌ {A = ℕ} 0 1 = cc in absurd (omega arith)

-- read off its answer
found : (s : List ℕ) (at w v : ℕ) → field_at s at w ≡ Some v → Found s at w v
unfolding field_at
found s at w v e =
    let told = found_if (leb w widest) (wholly s at w) (bits_at s at w) v e in
    (leb-true w widest told.0, (leb-true (at + w) (8 * length s) told.1.0, told.1.1))

-- a field's number is below 2^w
pub there_lt : (s : List ℕ) (at w v : ℕ) → field_at s at w ≡ Some v → v < 2 ^ w
unfolding bits_at
there_lt s at w v e = subst (λ (n : ℕ). n < 2 ^ w) (found s at w v e).1.1 (number_lt (bit_at s) at w (bit_lt s))

-- it ends within the bytes
pub there_ends : (s : List ℕ) (at w v : ℕ) → field_at s at w ≡ Some v → at + w ≤ 8 * length s
there_ends s at w v e = (found s at w v e).1.0

-- it is no wider than the widest
pub there_fits : (s : List ℕ) (at w v : ℕ) → field_at s at w ≡ Some v → w ≤ widest
there_fits s at w v e = (found s at w v e).0

-- it is the number that its bits make
pub there_is : (s : List ℕ) (at w v : ℕ) → field_at s at w ≡ Some v → number_from (bit_at s) at w ≡ v
unfolding bits_at
there_is s at w v e = (found s at w v e).1.1

-- and a field that ends within the bytes, and is no wider than the widest, is there
pub there_if : (s : List ℕ) (at w : ℕ) → w ≤ widest → at + w ≤ 8 * length s → field_at s at w ≡ Some (number_from (bit_at s) at w)
unfolding bits_at
there_if s at w narrow ends = field_there s at w narrow ends
