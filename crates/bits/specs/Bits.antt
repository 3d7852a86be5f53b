-- "Fields are packed without gaps, most significant bit first": fields out of bytes, and bytes made of fields.
use Rattle.std.specs.Prelude.{Bool, ◌&&◌, cond, List, [], ◌∷◌, ◌++◌, ℕ, zero, suc, ◌+◌, ◌-◌, ◌*◌, ◌/◌, ◌%◌, ◌^◌, leb, length, get_or, Some, None, Option}

-- the number that `w` bits make from bit `at` on, the first of them the most significant
unfoldable pub number_from : (ℕ → ℕ) → ℕ → ℕ → ℕ
number_from bit at zero = 0
number_from bit at (suc w) = number_from bit at w * 2 + bit (at + w)

-- bit `i` of the bytes: the most significant bit of a byte comes first
unfoldable pub bit_at : List ℕ → ℕ → ℕ
bit_at s i = get_or s (i / 8) 0 / 2 ^ (7 - i % 8) % 2

-- the field of `w` bits from bit `at` on
unfoldable pub bits_at : List ℕ → ℕ → ℕ → ℕ
bits_at s at w = number_from (bit_at s) at w

-- the field ends within the bytes
abbrev pub wholly : List ℕ → ℕ → ℕ → Bool
wholly s at w = leb (at + w) (8 * length s)

-- the widest field
abbrev pub widest : ℕ
widest = 48

-- "a field that isn't wholly there" is an answer of its own; no field is wider than the widest
unfoldable pub field_at : List ℕ → ℕ → ℕ → Option ℕ
field_at s at w = cond (leb w widest && wholly s at w) (Some (bits_at s at w)) None

-- a field to be packed: how many bits wide, and the number that it holds
pub record Part : Type 0 where
  pub wide : ℕ
  pub is : ℕ

-- `w` bits of a number, the most significant first
unfoldable pub bits_of : ℕ → ℕ → List ℕ
bits_of zero v = []
bits_of (suc w) v = bits_of w (v / 2) ++ (v % 2 ∷ [])

-- "packed without gaps": the bits of one field after those of another
unfoldable pub bits_of_all : List Part → List ℕ
bits_of_all [] = []
bits_of_all (p ∷ ps) = bits_of p.wide p.is ++ bits_of_all ps

-- the list of f 0, f 1, ..., f (n - 1)
unfoldable pub list_to {ℓ} : {A : Type ℓ} → ℕ → (ℕ → A) → List A
list_to zero f = []
list_to (suc n) f = list_to n f ++ (f n ∷ [])

-- as many bytes, whose bits are these
unfoldable pub bytes_from : ℕ → (ℕ → ℕ) → List ℕ
bytes_from n bit = list_to n (λ i. number_from bit (8 * i) 8)

-- bytes from bits; "zero bits up to a whole byte"
unfoldable pub bytes_of : List ℕ → List ℕ
bytes_of bits = bytes_from ((length bits + 7) / 8) (λ j. get_or bits j 0)

-- how many zero bits bring a position to a whole byte
abbrev pub padding_at : ℕ → ℕ
padding_at at = (8 - at % 8) % 8

-- names all that fields are computed with: an example says `unfolding the_bits`
unfoldable pub the_bits : Unit {0}
unfolding number_from bit_at bits_at field_at bits_of bits_of_all list_to bytes_from bytes_of
the_bits = tt
