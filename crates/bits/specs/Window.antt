-- A field put by its window: the bytes that it touches are taken as one number, the field is replaced in it, and its bytes are stored again.
use Rattle.std.specs.Prelude.{false, ◌&&◌, List, ◌++◌, ◌≢◌, ◌≡◌, leb, length, get_or, set, take, drop}
use Rattle.std.specs.Int.{w64, to_be_bytes}
use Rattle.std.proofs.lemmas.List.{length-append, length-drop, length-take-le, get_or-take, get_or-drop, get_or_append_left, get_or-append_right}
use Rattle.std.proofs.Math.Logic.{⊎_elim}
use Rattle.std.proofs.Math.Path.{refl}
use Rattle.std.proofs.Common.{sym, ap, ◌∙◌, add_assoc, eq-or-lt_of_le, mod-eq_of_lt, arith, get_or-set_same, ext_get_or}
use Prim.Native.Nat.{ℕ, zero, suc, ◌+◌, ◌-◌, ◌*◌, ◌/◌, ◌%◌, ◌^◌, ◌<◌, ◌≤◌}
use Rattle.std.proofs.Math.Decide.{dec_lt}
use borrow.Author.Tests.{lt-ltb, le-ltb, le-leb, lt-leb}
use Rattle.std.proofs.Math.ListN.{length-set}
use Rattle.std.proofs.Math.Pow.{high, low, split}
use Rattle.std.proofs.Math.Seq.{get_or-set_other}
use Rattle.bits.specs.Bits.{number_from, bit_at, bits_at, bytes_from, wholly, widest}
use Rattle.bits.specs.Digits.{bit_lt, number_lt, number_same, number_split, number_part, number_of_bits}
use Rattle.bits.specs.Holding.{Bytes}
use Rattle.bits.specs.Packing.{length_from, byte_from, byte_again}
use Rattle.bits.specs.Putall.{put_lt}
use Rattle.bits.specs.Putting.{bit_put, put_at}

-- a number with v's low w bits in the place of the w bits before its last t
unfoldable pub replaced : ℕ → ℕ → ℕ → ℕ → ℕ
replaced x w t v = (x / 2 ^ (w + t) * 2 ^ w + v % 2 ^ w) * 2 ^ t + x % 2 ^ t

-- byte i of the n bytes of a number, the most significant first
abbrev pub byte_of : ℕ → ℕ → ℕ → ℕ
byte_of x n i = x / 2 ^ (8 * (n - 1 - i)) % 256

-- the bytes once byte 0, byte 1, ..., byte (n - 1) are stored from `first` on
unfoldable pub stored : List ℕ → ℕ → (ℕ → ℕ) → ℕ → List ℕ
stored s first byte zero = s
stored s first byte (suc n) = set (stored s first byte n) (first + n) (byte n)

-- ---- the field replaced

-- the bits before the field, its own, and those after it
module _ (s : List ℕ) (at w v : ℕ) where
  put_before : (j : ℕ) → j < at → bit_put s at w v j ≡ bit_at s j
  unfolding bit_put
  put_before j h = rw (lt-leb at j h)

  put_inside : (i : ℕ) → i < w → bit_put s at w v (at + i) ≡ v / 2 ^ (w - suc i) % 2
  unfolding bit_put
  put_inside i h =
      rw (le-leb at (at + i) (omega arith), lt-ltb (at + i) (at + w) (omega arith)) (ap (λ (k : ℕ). v / 2 ^ k % 2) (omega arith))

  put_after : (j : ℕ) → at + w ≤ j → bit_put s at w v j ≡ bit_at s j
  unfolding bit_put
  put_after j h = rw (le-leb at j (omega arith), le-ltb j (at + w) h)

-- the window with the field replaced is the number that the new bits make
replaced_number : (s : List ℕ) (from u w t v : ℕ)
    → replaced (number_from (bit_at s) from (u + w + t)) w t v ≡ number_from (bit_put s (from + u) w v) from (u + w + t)
unfolding replaced
replaced_number s from u w t v =
    rw (before, after, number_split new from (u + w) t, number_split new from u w, same_before, field, same_after)
  where
    new : ℕ → ℕ
    new = bit_put s (from + u) w v

    before : number_from (bit_at s) from (u + w + t) / 2 ^ (w + t) ≡ number_from (bit_at s) from u
    before =
        rw (add_assoc u w t, number_split (bit_at s) from u (w + t))
        (high (number_from (bit_at s) from u) (w + t) (number_lt (bit_at s) (from + u) (w + t) (bit_lt s)))

    after : number_from (bit_at s) from (u + w + t) % 2 ^ t ≡ number_from (bit_at s) (from + (u + w)) t
    after =
        rw (number_split (bit_at s) from (u + w) t)
        (low (number_from (bit_at s) from (u + w)) t (number_lt (bit_at s) (from + (u + w)) t (bit_lt s)))

    same_before : number_from new from u ≡ number_from (bit_at s) from u
    same_before = number_same new (bit_at s) from u (λ i l h. put_before s (from + u) w v i h)

    field : number_from new (from + u) w ≡ v % 2 ^ w
    field = number_of_bits new (from + u) w v (put_inside s (from + u) w v)

    same_after : number_from new (from + (u + w)) t ≡ number_from (bit_at s) (from + (u + w)) t
    same_after = number_same new (bit_at s) (from + (u + w)) t (λ i l h. put_after s (from + u) w v i (omega arith))

-- a field of no bits changes none, wherever it stands
none_replaced : (x t v : ℕ) → replaced x 0 t v ≡ x
unfolding replaced
none_replaced x t v =
    ap (λ (n : ℕ). (x / 2 ^ n * 1 + v % 1) * 2 ^ t + x % 2 ^ t) {x = 0 + t} {y = t} (omega arith)
    ∙ ap (λ (y : ℕ). y * 2 ^ t + x % 2 ^ t) {x = x / 2 ^ t * 1 + v % 1} {y = x / 2 ^ t} (omega arith)
    ∙ split x t

-- n bits after the field count as none: only a field of no bits has so many after it
pub replaced_shifted : (x n w t v : ℕ) → w + t ≤ n → replaced x w (t % n) v ≡ replaced x w t v
replaced_shifted x n zero t v h = none_replaced x (t % n) v ∙ sym (none_replaced x t v)
replaced_shifted x n (suc w) t v h = ap (λ (k : ℕ). replaced x (suc w) k v) (mod-eq_of_lt (omega arith))

-- ---- bytes stored

module _ (s : List ℕ) (first : ℕ) (byte : ℕ → ℕ) where
  -- they stay as many
  pub length_stored : (n : ℕ) → length (stored s first byte n) ≡ length s
  unfolding stored
  length_stored zero = refl
  length_stored (suc n) = length-set (stored s first byte n) (first + n) (byte n) ∙ length_stored n

  -- those that are stored
  stored_there : (n i : ℕ) → first + n ≤ length s → i < n → get_or (stored s first byte n) (first + i) 0 ≡ byte i
  unfolding stored
  stored_there zero i fits h = absurd (omega arith)
  stored_there (suc n) i fits h =
      ⊎_elim
      (λ e. rw e (get_or-set_same (stored s first byte n) (first + n) (byte n) 0 (rw (length_stored n) (omega arith))))
      (λ l. get_or-set_other (stored s first byte n) (first + n) (first + i) (byte n) 0 (λ e. omega arith) ∙ stored_there n i (omega arith) l)
      (eq-or-lt_of_le {n = i} {m = n} (omega arith))

  -- and the others
  stored_other : (n j : ℕ) → ((i : ℕ) → i < n → j ≢ first + i) → get_or (stored s first byte n) j 0 ≡ get_or s j 0
  unfolding stored
  stored_other zero j out = refl
  stored_other (suc n) j out =
      get_or-set_other (stored s first byte n) (first + n) j (byte n) 0 (out n (omega arith)) ∙ stored_other n j (λ i h. out i (omega arith))

  -- the bytes before, as many others, and the bytes after
  pub stored_between : (n : ℕ) (l : List ℕ) → first + n ≤ length s → length l ≡ n → ((i : ℕ) → i < n → get_or l i 0 ≡ byte i)
      → take first s ++ (l ++ drop n (drop first s)) ≡ stored s first byte n
  stored_between n l fits long each =
      ext_get_or 0 _ _
      (simp (length-append, length-drop, length_stored n) (omega (arith, length-take-le first s (omega arith))))
      (λ j h. by j (dec_lt j first) (dec_lt j (first + n)))
    where
      front : length (take first s) ≡ first
      front = length-take-le first s (omega arith)

      by : (j : ℕ) → Dec (j < first) → Dec (j < first + n) → get_or (take first s ++ (l ++ drop n (drop first s))) j 0 ≡ get_or (stored s first byte n) j 0
      by j (yes b) d =
          get_or_append_left (take first s) _ 0 j (omega (arith, front)) ∙ get_or-take first s j 0 b ∙ sym (stored_other n j (λ i h e. omega arith))
      by j (no b) (yes d) =
          get_or-append_right (take first s) _ first j 0 front (omega arith)
          ∙ get_or_append_left l _ 0 (j - first) (omega arith)
          ∙ each (j - first) (omega arith)
          ∙ sym (stored_there n (j - first) fits (omega arith))
          ∙ ap (λ (k : ℕ). get_or (stored s first byte n) k 0) {x = first + (j - first)} {y = j} (omega arith)
      by j (no b) (no d) =
          get_or-append_right (take first s) _ first j 0 front (omega arith)
          ∙ get_or-append_right l _ n (j - first) 0 long (omega arith)
          ∙ get_or-drop n (drop first s) (j - first - n) 0
          ∙ get_or-drop first s (n + (j - first - n)) 0
          ∙ ap (λ (k : ℕ). get_or s k 0) {x = first + (n + (j - first - n))} {y = j} (omega arith)
          ∙ sym (stored_other n j (λ i h e. omega arith))

-- the bytes of a number of 64 bits
pub eight_of : (x i : ℕ) → i < 8 → get_or (to_be_bytes w64 x) i 0 ≡ byte_of x 8 i
eight_of x zero h = refl
eight_of x (suc zero) h = refl
eight_of x (suc (suc zero)) h = refl
eight_of x (suc (suc (suc zero))) h = refl
eight_of x (suc (suc (suc (suc zero)))) h = refl
eight_of x (suc (suc (suc (suc (suc zero))))) h = refl
eight_of x (suc (suc (suc (suc (suc (suc zero)))))) h = refl
eight_of x (suc (suc (suc (suc (suc (suc (suc zero))))))) h = omega arith
eight_of x (suc (suc (suc (suc (suc (suc (suc (suc i)))))))) h = absurd (omega arith)

-- ---- the window's bytes stored again

module _ (s : List ℕ) (bytes : Bytes s) (first u count w t v : ℕ) (parts : 8 * count ≡ u + w + t) (fits : first + count ≤ length s) where
  -- the bits once the field is put, and the bytes of the window that holds it
  abbrev new : ℕ → ℕ
  new = bit_put s (8 * first + u) w v

  abbrev byte : ℕ → ℕ
  byte = byte_of (replaced (number_from (bit_at s) (8 * first) (8 * count)) w t v) count

  -- a byte of the window
  byte_there : (i : ℕ) → i < count → byte i ≡ number_from new (8 * (first + i)) 8
  byte_there i h =
      ap (λ (n : ℕ). byte_of (replaced (number_from (bit_at s) (8 * first) n) w t v) count i) parts
      ∙ ap (λ (x : ℕ). byte_of x count i) (replaced_number s (8 * first) u w t v)
      ∙ ap (λ (n : ℕ). byte_of (number_from new (8 * first) n) count i) {x = u + w + t} {y = 8 * i + 8 + 8 * (count - 1 - i)} (omega arith)
      ∙ number_part new (8 * first) (8 * i) 8 (8 * (count - 1 - i)) (put_lt s (8 * first + u) w v)
      ∙ ap (λ (n : ℕ). number_from new n 8) {x = 8 * first + 8 * i} {y = 8 * (first + i)} (omega arith)

  -- a byte before it or after it
  byte_other : (j : ℕ) → j < length s → ((k : ℕ) → 8 * j ≤ k → k < 8 * j + 8 → new k ≡ bit_at s k) → get_or s j 0 ≡ number_from new (8 * j) 8
  byte_other j h same = sym (byte_again s j bytes h) ∙ number_same (bit_at s) new (8 * j) 8 (λ k low high. sym (same k low high))

  byte_is : (j : ℕ) → j < length s → get_or (stored s first byte count) j 0 ≡ number_from new (8 * j) 8
  byte_is j h = by (dec_lt j first) (dec_lt j (first + count))
    where
      by : Dec (j < first) → Dec (j < first + count) → get_or (stored s first byte count) j 0 ≡ number_from new (8 * j) 8
      by (yes l) d =
          stored_other s first byte count j (λ i k e. omega arith)
          ∙ byte_other j h (λ k low high. put_before s (8 * first + u) w v k (omega arith))
      by (no l) (no m) =
          stored_other s first byte count j (λ i k e. omega arith)
          ∙ byte_other j h (λ k low high. put_after s (8 * first + u) w v k (omega arith))
      by (no l) (yes m) =
          let e : j ≡ first + (j - first) = omega arith in
          ap (λ (n : ℕ). get_or (stored s first byte count) n 0) e
          ∙ stored_there s first byte count (j - first) fits (omega arith)
          ∙ byte_there (j - first) (omega arith)
          ∙ ap (λ (n : ℕ). number_from new (8 * n) 8) (sym e)

  put_stored : stored s first byte count ≡ bytes_from (length s) new
  put_stored =
      let long : length (stored s first byte count) ≡ length s = length_stored s first byte count in
      ext_get_or 0 _ _ (long ∙ sym (length_from (length s) new))
      (λ j h. let k : j < length s = rw long at h in byte_is j k ∙ sym (byte_from (length s) new j k))

-- a field that has room is put by a window that holds it, t bits of it after the field: taken, the field replaced in it, and stored
pub window_put : (s : List ℕ) (at w v first count t : ℕ) → Bytes s → w ≤ widest → at + w ≤ 8 * length s
    → 8 * first ≤ at → at + w + t ≡ 8 * first + 8 * count → first + count ≤ length s → {x y : ℕ} {l : List ℕ}
    → x ≡ bits_at s (8 * first) (8 * count)
    → y ≡ replaced x w t v
    → l ≡ stored s first (byte_of y count) count
    → l ≡ put_at s at w v
unfolding put_at bits_at
window_put s at w v first count t bytes narrow ends from to inside taken new put =
    put
    ∙ ap (λ (y : ℕ). stored s first (byte_of y count) count) (new ∙ ap (λ (x : ℕ). replaced x w t v) taken)
    ∙ put_stored s bytes first (at - 8 * first) count w t v (omega arith) inside
    ∙ ap (λ (n : ℕ). bytes_from (length s) (bit_put s n w v)) {x = 8 * first + (at - 8 * first)} {y = at} (omega arith)
    ∙ rw (le-leb w widest narrow, le-leb (at + w) (8 * length s) ends)

-- one that has none is not put
pub not_put : (s : List ℕ) (at w v : ℕ) → (leb w widest && wholly s at w) ≡ false → s ≡ put_at s at w v
unfolding put_at
not_put s at w v e = rw e
