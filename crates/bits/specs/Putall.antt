-- Fields put into bytes one after another: what every bit is then, and that the bytes begin with the packed fields.
use Rattle.std.specs.Prelude.{Bool, true, false, ◌&&◌, cond, List, [], ◌∷◌, ◌++◌, ◌≡◌, refl, ℕ, suc, ◌+◌, ◌-◌, ◌*◌, ◌/◌, ◌%◌, ◌^◌, ◌<◌, ◌≤◌, leb, ltb, length, get_or, take, drop}
use Rattle.std.proofs.Common.{sym, ◌∙◌, ap, ap₂, add_assoc, add-zero, zero-add, mod-lt, arith, le-leb, lt-ltb, le-ltb, length-drop, take-append-drop, ext_get_or, get_or-drop}
use Rattle.std.proofs.Math.Decide.{dec_le}
use Rattle.std.proofs.lemmas.Bool.{lt-leb}
use Rattle.bits.specs.Bits.{Part, bit_at, wholly, widest, bits_of_all, bytes_from, bytes_of, padding_at}
use Rattle.bits.specs.Digits.{Bitwise, bit_lt, number_same}
use Rattle.bits.specs.Putting.{bit_put, put_at, put_all}
use Rattle.bits.specs.Holding.{Bytes, width_of_all, Narrow}
use Rattle.bits.specs.Lists.{by_places, get_d_first, get_d_later, zeros, get_d_zeros}
use Rattle.bits.specs.Packing.{narrow_append, length_from, from_bytes, bit_of_bytes, byte_again, padded, width_padded, begins_packed}

-- what holds of both holds of either
by_cond : {A : Type 0} (P : A → Type 0) (t : Bool) (a b : A) → P a → P b → P (cond t a b)
by_cond P true a b first second = first
by_cond P false a b first second = second

-- a field is put, or the bytes stay as they are
by_put : (P : List ℕ → Type 0) (s : List ℕ) (at w v : ℕ) → P (bytes_from (length s) (bit_put s at w v)) → P s → P (put_at s at w v)
unfolding put_at
by_put P s at w v put same = by_cond P (leb w widest && wholly s at w) (bytes_from (length s) (bit_put s at w v)) s put same

-- every bit is 0 or 1 then
pub put_lt : (s : List ℕ) (at w v : ℕ) → Bitwise (bit_put s at w v)
unfolding bit_put
put_lt s at w v j =
    by_cond (λ b. b < 2) (leb at j && ltb j (at + w)) (v / 2 ^ (at + w - suc j) % 2) (bit_at s j)
    (mod-lt (v / 2 ^ (at + w - suc j)) (omega arith))
    (bit_lt s j)

-- putting keeps the length
pub length_put : (s : List ℕ) (at w v : ℕ) → length (put_at s at w v) ≡ length s
length_put s at w v = by_put (λ t. length t ≡ length s) s at w v (length_from (length s) (bit_put s at w v)) refl

-- and bytes stay bytes
pub put_bytes : (s : List ℕ) (at w v : ℕ) → Bytes s → Bytes (put_at s at w v)
put_bytes s at w v bytes = by_put Bytes s at w v (from_bytes (length s) (bit_put s at w v) (put_lt s at w v)) bytes

-- a bit of the field: one of the number's
pub put_bit : (s : List ℕ) (at w v j : ℕ) → w ≤ widest → at + w ≤ 8 * length s → j < w → bit_at (put_at s at w v) (at + j) ≡ v / 2 ^ (w - suc j) % 2
unfolding put_at bit_put
put_bit s at w v j narrow room h =
    rw (le-leb w widest narrow, le-leb (at + w) (8 * length s) room)
    (bit_of_bytes (length s) (bit_put s at w v) (at + j) (put_lt s at w v) (omega arith) ∙ bit)
  where
    bit : bit_put s at w v (at + j) ≡ v / 2 ^ (w - suc j) % 2
    bit = rw (le-leb at (at + j) (omega arith), lt-ltb (at + j) (at + w) (omega arith)) (ap (λ (k : ℕ). v / 2 ^ k % 2) (omega arith))

-- a bit outside the field stays: it comes before it, or after its end
pub put_kept : (s : List ℕ) (at w v j : ℕ) → j < 8 * length s → (at ≤ j → at + w ≤ j) → bit_at (put_at s at w v) j ≡ bit_at s j
unfolding bit_put
put_kept s at w v j h outside =
    by_put (λ t. bit_at t j ≡ bit_at s j) s at w v (bit_of_bytes (length s) (bit_put s at w v) j (put_lt s at w v) h ∙ kept) refl
  where
    kept : bit_put s at w v j ≡ bit_at s j
    kept = elim (dec_le at j) [ yes l ↦ rw (le-leb at j l, le-ltb j (at + w) (outside l)) | no l ↦ rw (lt-leb at j (omega arith)) ]

-- putting fields one list after another
pub put_append : (s : List ℕ) (at : ℕ) (ps qs : List Part) → put_all s at (ps ++ qs) ≡ put_all (put_all s at ps) (at + width_of_all ps) qs
unfolding put_all width_of_all
put_append s at [] qs = rw (add-zero at)
put_append s at (p ∷ ps) qs =
    put_append (put_at s at p.wide p.is) (at + p.wide) ps qs
    ∙ ap (λ (n : ℕ). put_all (put_all (put_at s at p.wide p.is) (at + p.wide) ps) n qs) (add_assoc at p.wide (width_of_all ps))

-- the same of all the fields: the length
pub length_put_all : (s : List ℕ) (at : ℕ) (ps : List Part) → length (put_all s at ps) ≡ length s
unfolding put_all
length_put_all s at [] = refl
length_put_all s at (p ∷ ps) = length_put_all (put_at s at p.wide p.is) (at + p.wide) ps ∙ length_put s at p.wide p.is

-- the bytes
pub put_all_bytes : (s : List ℕ) (at : ℕ) (ps : List Part) → Bytes s → Bytes (put_all s at ps)
unfolding put_all
put_all_bytes s at [] bytes = bytes
put_all_bytes s at (p ∷ ps) bytes = put_all_bytes (put_at s at p.wide p.is) (at + p.wide) ps (put_bytes s at p.wide p.is bytes)

-- a bit outside the fields
pub put_all_kept : (s : List ℕ) (at : ℕ) (ps : List Part) (j : ℕ) → j < 8 * length s → (at ≤ j → at + width_of_all ps ≤ j)
    → bit_at (put_all s at ps) j ≡ bit_at s j
unfolding put_all width_of_all
put_all_kept s at [] j h outside = refl
put_all_kept s at (p ∷ ps) j h outside =
    put_all_kept (put_at s at p.wide p.is) (at + p.wide) ps j (rw (length_put s at p.wide p.is) h) (λ l. omega (arith, outside (omega arith)))
    ∙ put_kept s at p.wide p.is j h (λ l. omega (arith, outside l))

-- a bit of the fields
pub put_all_bit : (s : List ℕ) (at : ℕ) (ps : List Part) → Narrow ps → at + width_of_all ps ≤ 8 * length s
    → (j : ℕ) → j < width_of_all ps → bit_at (put_all s at ps) (at + j) ≡ get_or (bits_of_all ps) j 0
unfolding put_all width_of_all Narrow
put_all_bit s at [] narrow room = λ j h. absurd (omega arith)
put_all_bit s at (p ∷ ps) narrow room =
    by_places
    (λ j. j < width_of_all (p ∷ ps) → bit_at (put_all s at (p ∷ ps)) (at + j) ≡ get_or (bits_of_all (p ∷ ps)) j 0)
    p.wide
    (λ j h l. first j h)
    (λ j l. after j ∙ put_all_bit put (at + p.wide) ps narrow.1 (rw long (omega arith)) j (omega arith) ∙ sym (get_d_later p ps j))
  where
    put : List ℕ
    put = put_at s at p.wide p.is

    long : length put ≡ length s
    long = length_put s at p.wide p.is

    first : (j : ℕ) → j < p.wide → bit_at (put_all s at (p ∷ ps)) (at + j) ≡ get_or (bits_of_all (p ∷ ps)) j 0
    first j h =
        put_all_kept put (at + p.wide) ps (at + j) (rw long (omega arith)) (λ u. omega arith)
        ∙ put_bit s at p.wide p.is j narrow.0 (omega arith) h
        ∙ sym (get_d_first p ps j h)

    after : (j : ℕ) → bit_at (put_all s at (p ∷ ps)) (at + (p.wide + j)) ≡ bit_at (put_all s at (p ∷ ps)) (at + p.wide + j)
    after j = ap (bit_at (put_all s at (p ∷ ps))) (sym (add_assoc at p.wide j))

-- bytes with the same bits from byte n on are the same from there on
same_after : (s t : List ℕ) (n : ℕ) → Bytes s → Bytes t → length s ≡ length t → ((j : ℕ) → 8 * n ≤ j → j < 8 * length s → bit_at s j ≡ bit_at t j)
    → drop n s ≡ drop n t
same_after s t n bytes bytes' long bits =
    ext_get_or 0 (drop n s) (drop n t) (length-drop n s ∙ ap (λ (k : ℕ). k - n) long ∙ sym (length-drop n t))
    (λ i h. byte i (omega (arith, length-drop n s)))
  where
    byte : (i : ℕ) → n + i < length s → get_or (drop n s) i 0 ≡ get_or (drop n t) i 0
    byte i h =
        get_or-drop n s i 0
        ∙ sym (byte_again s (n + i) bytes h)
        ∙ number_same (bit_at s) (bit_at t) (8 * (n + i)) 8 (λ j l u. bits j (omega arith) (omega arith))
        ∙ byte_again t (n + i) bytes' (omega arith)
        ∙ sym (get_or-drop n t i 0)

-- fields and zero padding, put one after another into bytes that have room for them
pub put_packed : (s : List ℕ) (ps : List Part) → Bytes s → Narrow ps → (width_of_all ps + 7) / 8 ≤ length s
    → put_all s 0 (ps ++ (record { wide = padding_at (width_of_all ps); is = 0 } ∷ [])) ≡ bytes_of (bits_of_all ps) ++ drop ((width_of_all ps + 7) / 8) s
unfolding Narrow
put_packed s ps bytes narrow room = sym (take-append-drop n put) ∙ ap₂ ◌++◌ front back
  where
    n : ℕ
    n = (width_of_all ps + 7) / 8

    put : List ℕ
    put = put_all s 0 (padded ps)

    long : length put ≡ length s
    long = length_put_all s 0 (padded ps)

    wide : width_of_all (padded ps) ≡ 8 * n
    wide = width_padded ps

    narrow' : Narrow (padded ps)
    narrow' = narrow_append ps (zeros (padding_at (width_of_all ps)) ∷ []) narrow (omega arith, tt)

    bytes' : Bytes put
    bytes' = put_all_bytes s 0 (padded ps) bytes

    bit : (j : ℕ) → j < 8 * n → bit_at put j ≡ get_or (bits_of_all ps) j 0
    bit j h =
        ap (bit_at put) (sym (zero-add j)) ∙ put_all_bit s 0 (padded ps) narrow' (omega (arith, wide)) j (rw wide h)
        ∙ get_d_zeros ps (padding_at (width_of_all ps)) j

    front : take n put ≡ bytes_of (bits_of_all ps)
    front = begins_packed put ps bytes' (rw long room) bit

    back : drop n put ≡ drop n s
    back = same_after put s n bytes' bytes long (λ j l h. put_all_kept s 0 (padded ps) j (rw long at h) (λ u. omega (arith, wide)))
