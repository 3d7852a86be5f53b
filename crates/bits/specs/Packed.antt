-- Fields in and out at an example: the head of document 01's recorded script.
use Rattle.std.specs.Prelude.{List, [], ◌∷◌, map, ◌≡◌, refl, ℕ, ◌^◌, ◌-◌, pos, negsuc, Some, None}
use Rattle.bits.specs.Bits.{Part, field_at, bits_of_all, bytes_of, the_bits}
use Rattle.bits.specs.Twos.{signed, unsigned, the_twos}

-- "01 04 04 00": format 1, n = 4, q = 1, v = 0, four zero bits
abbrev head_bytes : List ℕ
head_bytes = 0x01 ∷ 0x04 ∷ 0x04 ∷ 0x00 ∷ []

-- the same as fields
abbrev head_parts : List Part
head_parts =
    record { wide = 8; is = 1 }
    ∷ record { wide = 8; is = 4 }
    ∷ record { wide = 6; is = 1 }
    ∷ record { wide = 6; is = 0 }
    ∷ record { wide = 4; is = 0 }
    ∷ []

-- "packed without gaps, most significant bit first"
pub head_packed : bytes_of (bits_of_all head_parts) ≡ head_bytes
unfolding the_bits
head_packed = refl

-- the same fields, taken again; and one that isn't wholly there
pub head_taken : field_at head_bytes 0 8 ∷ field_at head_bytes 8 8 ∷ field_at head_bytes 16 6 ∷ field_at head_bytes 22 6 ∷ field_at head_bytes 28 5 ∷ []
    ≡ Some 1 ∷ Some 4 ∷ Some 1 ∷ Some 0 ∷ None ∷ []
unfolding the_bits
head_taken = refl

-- two's complement at the ends of the range
pub ends_signed : map signed (0 ∷ (2 ^ 47 - 1) ∷ (2 ^ 47) ∷ (2 ^ 48 - 1) ∷ []) ≡ pos 0 ∷ pos (2 ^ 47 - 1) ∷ negsuc (2 ^ 47 - 1) ∷ negsuc 0 ∷ []
unfolding the_twos
ends_signed = refl

-- and back
pub ends_unsigned : map unsigned (pos 0 ∷ pos (2 ^ 47 - 1) ∷ negsuc (2 ^ 47 - 1) ∷ negsuc 0 ∷ []) ≡ 0 ∷ (2 ^ 47 - 1) ∷ (2 ^ 47) ∷ (2 ^ 48 - 1) ∷ []
unfolding the_twos
ends_unsigned = refl
