-- Fields packed without gaps and taken again: what is packed is held, and what is held was packed.
use Rattle.std.specs.Prelude.{List, [], ◌∷◌, ◌++◌, ◌≡◌, ℕ, suc, ◌+◌, ◌-◌, ◌*◌, ◌/◌, ◌%◌, ◌^◌, ◌<◌, ◌≤◌, length, get_or, take, Some}
use Rattle.std.proofs.Common.{sym, ◌∙◌, ap, ap₂, add_assoc, zero-add, add-zero, mod-eq_of_lt, arith, length-append, ext_get_or, length-take-le, get_or-take, pow_pos}
use Rattle.std.proofs.Math.ListN.{get_or-append, get_or-eq_default}
use Rattle.bits.specs.Bits.{Part, number_from, bit_at, field_at, bits_of_all, bytes_from, bytes_of, padding_at}
use Rattle.bits.specs.Digits.{Bitwise, bit_lt, number_lt, number_same, number_bit, number_of_bits}
use Rattle.bits.specs.Fields.{there_ends, there_is, there_if}
use Rattle.bits.specs.Holding.{Bytes, width_of_all, Fitting, Narrow, Holds}
use Rattle.bits.specs.Lists.{length_list, get_d_list, length_all, get_d_first, get_d_later, all_lt, zeros, get_d_zeros, by_places}

-- fields of two lists, one after the other: how wide they are
pub width_append : (ps qs : List Part) → width_of_all (ps ++ qs) ≡ width_of_all ps + width_of_all qs
unfolding width_of_all
width_append [] qs = omega arith
width_append (p ∷ ps) qs = omega (arith, width_append ps qs)

-- that they fit
pub fitting_append : (ps qs : List Part) → Fitting ps → Fitting qs → Fitting (ps ++ qs)
unfolding Fitting
fitting_append [] qs first second = second
fitting_append (p ∷ ps) qs first second = (first.0, (first.1.0, fitting_append ps qs first.1.1 second))

-- that none is wider than the widest
pub narrow_append : (ps qs : List Part) → Narrow ps → Narrow qs → Narrow (ps ++ qs)
unfolding Narrow
narrow_append [] qs first second = second
narrow_append (p ∷ ps) qs first second = (first.0, narrow_append ps qs first.1 second)

-- that they are held
pub holds_append : (s : List ℕ) (at : ℕ) (ps qs : List Part) → Holds s at ps → Holds s (at + width_of_all ps) qs → Holds s at (ps ++ qs)
unfolding Holds width_of_all
holds_append s at [] qs first second = rw (add-zero at) at second
holds_append s at (p ∷ ps) qs first second =
    (first.0, holds_append s (at + p.wide) ps qs first.1 (rw (add_assoc at p.wide (width_of_all ps)) second))

-- and that the first of them is
pub holds_first : (s : List ℕ) (at : ℕ) (ps qs : List Part) → Holds s at (ps ++ qs) → Holds s at ps
unfolding Holds
holds_first s at [] qs held = tt
holds_first s at (p ∷ ps) qs held = (held.0, holds_first s (at + p.wide) ps qs held.1)

-- or the second, from where the first ends
pub holds_second : (s : List ℕ) (at : ℕ) (ps qs : List Part) → Holds s at (ps ++ qs) → Holds s (at + width_of_all ps) qs
unfolding Holds width_of_all
holds_second s at [] qs held = rw (add-zero at) held
holds_second s at (p ∷ ps) qs held = rw (← add_assoc at p.wide (width_of_all ps)) (holds_second s (at + p.wide) ps qs held.1)

-- and they end within the bytes
pub holds_end : (s : List ℕ) (at : ℕ) (ps : List Part) → at ≤ 8 * length s → Holds s at ps → at + width_of_all ps ≤ 8 * length s
unfolding Holds width_of_all
holds_end s at [] within held = omega arith
holds_end s at (p ∷ ps) within held = omega (arith, holds_end s (at + p.wide) ps (there_ends s at p.wide p.is held.0) held.1)

-- bytes that are made from bits: how many
pub length_from : (n : ℕ) (bit : ℕ → ℕ) → length (bytes_from n bit) ≡ n
unfolding bytes_from
length_from n bit = length_list n (λ i. number_from bit (8 * i) 8)

-- which
pub byte_from : (n : ℕ) (bit : ℕ → ℕ) (i : ℕ) → i < n → get_or (bytes_from n bit) i 0 ≡ number_from bit (8 * i) 8
unfolding bytes_from
byte_from n bit i h = get_d_list n (λ i. number_from bit (8 * i) 8) i 0 h

-- that they are bytes
pub from_bytes : (n : ℕ) (bit : ℕ → ℕ) → Bitwise bit → Bytes (bytes_from n bit)
from_bytes n bit two i h = rw (byte_from n bit i (rw (length_from n bit) at h)) (number_lt bit (8 * i) 8 two)

-- a bit of bytes that were made from bits
pub bit_of_bytes : (n : ℕ) (bit : ℕ → ℕ) (j : ℕ) → Bitwise bit → j < 8 * n → bit_at (bytes_from n bit) j ≡ bit j
unfolding bit_at
bit_of_bytes n bit j two h =
    ap (λ (b : ℕ). b / 2 ^ (7 - j % 8) % 2) (byte_from n bit (j / 8) (omega arith))
    ∙ ap (λ (k : ℕ). number_from bit (8 * (j / 8)) 8 / 2 ^ k % 2) {x = 7 - j % 8} {y = 8 - suc (j % 8)} (omega arith)
    ∙ number_bit bit (8 * (j / 8)) 8 (j % 8) two (omega arith)
    ∙ ap bit (omega arith)

-- a byte is the number that its bits make
pub byte_again : (s : List ℕ) (i : ℕ) → Bytes s → i < length s → number_from (bit_at s) (8 * i) 8 ≡ get_or s i 0
unfolding bit_at
byte_again s i bytes h = number_of_bits (bit_at s) (8 * i) 8 (get_or s i 0) bit ∙ mod-eq_of_lt (bytes i h)
  where
    bit : (k : ℕ) → k < 8 → bit_at s (8 * i + k) ≡ get_or s i 0 / 2 ^ (8 - suc k) % 2
    bit k l =
        ap₂ (λ (n m : ℕ). get_or s n 0 / 2 ^ m % 2) {x = (8 * i + k) / 8} {y = i} {u = 7 - (8 * i + k) % 8} {v = 8 - suc k} (omega arith) (omega arith)

-- bytes are made from their own bits
pub bytes_again : (s : List ℕ) → Bytes s → bytes_from (length s) (bit_at s) ≡ s
bytes_again s bytes =
    let long = length_from (length s) (bit_at s) in
    ext_get_or 0 (bytes_from (length s) (bit_at s)) s long
    (λ i h. byte_from (length s) (bit_at s) i (rw long at h) ∙ byte_again s i bytes (rw long at h))

-- what follows changes no bit
pub bit_first : (s rest : List ℕ) (j : ℕ) → j < 8 * length s → bit_at (s ++ rest) j ≡ bit_at s j
unfolding bit_at
bit_first s rest j h = ap (λ (b : ℕ). b / 2 ^ (7 - j % 8) % 2) (get_or-append s rest 0 (j / 8) (omega arith))

-- how many bytes packed fields take
pub length_packed : (ps : List Part) → length (bytes_of (bits_of_all ps)) ≡ (width_of_all ps + 7) / 8
unfolding bytes_of
length_packed ps =
    length_from ((length (bits_of_all ps) + 7) / 8) (λ j. get_or (bits_of_all ps) j 0) ∙ ap (λ (n : ℕ). (n + 7) / 8) (length_all ps)

-- packed fields are bytes
pub packed_bytes : (ps : List Part) → Bytes (bytes_of (bits_of_all ps))
unfolding bytes_of
packed_bytes ps = from_bytes ((length (bits_of_all ps) + 7) / 8) (λ j. get_or (bits_of_all ps) j 0) (all_lt ps)

-- their bits, whatever follows
pub packed_bit : (ps : List Part) (rest : List ℕ) (j : ℕ) → j < 8 * ((width_of_all ps + 7) / 8)
    → bit_at (bytes_of (bits_of_all ps) ++ rest) j ≡ get_or (bits_of_all ps) j 0
unfolding bytes_of
packed_bit ps rest j h =
    bit_first (bytes_of (bits_of_all ps)) rest j (rw (length_packed ps) h)
    ∙ bit_of_bytes ((length (bits_of_all ps) + 7) / 8) (λ j. get_or (bits_of_all ps) j 0) j (all_lt ps) (rw (length_all ps) h)

-- fields whose bits stand in the bytes are held
pub holds_bits : (s : List ℕ) (at : ℕ) (ps : List Part) → Fitting ps → at + width_of_all ps ≤ 8 * length s
    → ((j : ℕ) → j < width_of_all ps → bit_at s (at + j) ≡ get_or (bits_of_all ps) j 0) → Holds s at ps
unfolding Fitting Holds width_of_all
holds_bits s at [] fits room bits = tt
holds_bits s at (p ∷ ps) fits room bits = (
  there_if s at p.wide fits.0 (omega arith) ∙ ap Some number,
  holds_bits s (at + p.wide) ps fits.1.1 (omega arith) later,
)
  where
    number : number_from (bit_at s) at p.wide ≡ p.is
    number = number_of_bits (bit_at s) at p.wide p.is (λ i h. bits i (omega arith) ∙ get_d_first p ps i h) ∙ mod-eq_of_lt fits.1.0

    later : (j : ℕ) → j < width_of_all ps → bit_at s (at + p.wide + j) ≡ get_or (bits_of_all ps) j 0
    later j h = ap (bit_at s) (add_assoc at p.wide j) ∙ bits (p.wide + j) (omega arith) ∙ get_d_later p ps j

-- what is packed can be taken again, whatever follows
pub packed_holds : (ps : List Part) (rest : List ℕ) → Fitting ps → Holds (bytes_of (bits_of_all ps) ++ rest) 0 ps
packed_holds ps rest fits =
    holds_bits (bytes_of (bits_of_all ps) ++ rest) 0 ps fits
    (omega (arith, length-append (bytes_of (bits_of_all ps)) rest, length_packed ps))
    (λ j h. ap (bit_at (bytes_of (bits_of_all ps) ++ rest)) (zero-add j) ∙ packed_bit ps rest j (omega arith))

-- and its padding is zero
pub packed_padding : (ps : List Part) (rest : List ℕ)
    → field_at (bytes_of (bits_of_all ps) ++ rest) (width_of_all ps) (padding_at (width_of_all ps)) ≡ Some 0
unfolding Fitting Holds width_of_all bits_of_all
packed_padding ps rest =
    (holds_bits (bytes_of (bits_of_all ps) ++ rest) n (zeros (padding_at n) ∷ [])
    (omega arith, (pow_pos (padding_at n), tt))
    (omega (arith, length-append (bytes_of (bits_of_all ps)) rest, length_packed ps))
    bit
    ).0
  where
    n : ℕ
    n = width_of_all ps

    bit : (j : ℕ) → j < padding_at n + 0 → bit_at (bytes_of (bits_of_all ps) ++ rest) (n + j) ≡ get_or (bits_of_all (zeros (padding_at n) ∷ [])) j 0
    bit j h =
        packed_bit ps rest (n + j) (omega arith)
        ∙ get_or-eq_default (bits_of_all ps) 0 (omega (arith, length_all ps))
        ∙ sym (get_d_zeros [] (padding_at n) j)

-- bits that are held are those of the fields
pub held_bit : (s : List ℕ) (at : ℕ) (ps : List Part) → Holds s at ps → (j : ℕ) → j < width_of_all ps → bit_at s (at + j) ≡ get_or (bits_of_all ps) j 0
unfolding Holds width_of_all
held_bit s at [] held = λ j h. absurd (omega arith)
held_bit s at (p ∷ ps) held =
    by_places
    (λ j. j < width_of_all (p ∷ ps) → bit_at s (at + j) ≡ get_or (bits_of_all (p ∷ ps)) j 0)
    p.wide
    (λ j h l. first j h)
    (λ j l. ap (bit_at s) (sym (add_assoc at p.wide j)) ∙ held_bit s (at + p.wide) ps held.1 j (omega arith) ∙ sym (get_d_later p ps j))
  where
    first : (j : ℕ) → j < p.wide → bit_at s (at + j) ≡ get_or (bits_of_all (p ∷ ps)) j 0
    first j h =
        sym (number_bit (bit_at s) at p.wide j (bit_lt s) h)
        ∙ ap (λ (v : ℕ). v / 2 ^ (p.wide - suc j) % 2) (there_is s at p.wide p.is held.0)
        ∙ sym (get_d_first p ps j h)

-- the fields, and zero bits up to a whole byte
abbrev pub padded : List Part → List Part
padded ps = ps ++ (zeros (padding_at (width_of_all ps)) ∷ [])

-- they fill whole bytes
pub width_padded : (ps : List Part) → width_of_all (padded ps) ≡ 8 * ((width_of_all ps + 7) / 8)
unfolding width_of_all
width_padded ps = width_append ps (zeros (padding_at (width_of_all ps)) ∷ []) ∙ omega arith

-- a byte of packed fields
pub packed_byte : (ps : List Part) (i : ℕ) → i < (width_of_all ps + 7) / 8
    → get_or (bytes_of (bits_of_all ps)) i 0 ≡ number_from (λ j. get_or (bits_of_all ps) j 0) (8 * i) 8
unfolding bytes_of
packed_byte ps i h = byte_from ((length (bits_of_all ps) + 7) / 8) (λ j. get_or (bits_of_all ps) j 0) i (rw (length_all ps) h)

-- bytes whose bits are those of the fields and then zero begin with the packed fields
pub begins_packed : (s : List ℕ) (ps : List Part) → Bytes s → (width_of_all ps + 7) / 8 ≤ length s
    → ((j : ℕ) → j < 8 * ((width_of_all ps + 7) / 8) → bit_at s j ≡ get_or (bits_of_all ps) j 0)
    → take ((width_of_all ps + 7) / 8) s ≡ bytes_of (bits_of_all ps)
begins_packed s ps bytes room bits = ext_get_or 0 (take n s) (bytes_of (bits_of_all ps)) (long ∙ sym (length_packed ps)) (λ i h. byte i (rw long at h))
  where
    n : ℕ
    n = (width_of_all ps + 7) / 8

    long : length (take n s) ≡ n
    long = length-take-le n s room

    byte : (i : ℕ) → i < n → get_or (take n s) i 0 ≡ get_or (bytes_of (bits_of_all ps)) i 0
    byte i h =
        get_or-take n s i 0 h
        ∙ sym (byte_again s i bytes (omega arith))
        ∙ number_same (bit_at s) (λ j. get_or (bits_of_all ps) j 0) (8 * i) 8 (λ j l u. bits j (omega arith))
        ∙ sym (packed_byte ps i h)

-- bytes that hold the fields and zero padding begin with the packed fields
pub held_packed : (s : List ℕ) (ps : List Part) → Bytes s → Holds s 0 ps → field_at s (width_of_all ps) (padding_at (width_of_all ps)) ≡ Some 0
    → take ((width_of_all ps + 7) / 8) s ≡ bytes_of (bits_of_all ps)
unfolding Holds
held_packed s ps bytes held padding =
    begins_packed s ps bytes (omega (arith, there_ends s (width_of_all ps) (padding_at (width_of_all ps)) 0 padding)) bit
  where
    whole : Holds s 0 (padded ps)
    whole = holds_append s 0 ps (zeros (padding_at (width_of_all ps)) ∷ []) held (rw (zero-add (width_of_all ps)) (padding, tt))

    bit : (j : ℕ) → j < 8 * ((width_of_all ps + 7) / 8) → bit_at s j ≡ get_or (bits_of_all ps) j 0
    bit j h =
        ap (bit_at s) (sym (zero-add j)) ∙ held_bit s 0 (padded ps) whole j (rw (width_padded ps) h) ∙ get_d_zeros ps (padding_at (width_of_all ps)) j
