-- Lists that are made by counting up, and the lists of a number's bits: how long they are, and what stands at each place.
use Rattle.std.specs.Prelude.{List, [], ◌∷◌, ◌++◌, ◌≡◌, refl, ℕ, zero, suc, ◌+◌, ◌-◌, ◌/◌, ◌%◌, ◌^◌, ◌<◌, length, get_or}
use Rattle.std.proofs.Common.{⊎_elim, sym, ◌∙◌, ap, subst, mod-lt, not-suc-le-zero, eq-or-lt_of_le, le_of_suc-le-suc, arith, length-append, shr-shr, get_or-append-add}
use Rattle.std.proofs.Math.Nat.{zero-div}
use Rattle.std.proofs.Math.Decide.{dec_lt}
use Rattle.std.proofs.Math.ListN.{get_or-append}
use Rattle.std.proofs.lemmas.List.{get_or_at}
use Rattle.bits.specs.Bits.{Part, list_to, bits_of, bits_of_all}
use Rattle.bits.specs.Holding.{width_of_all}

-- what holds of the first `w` places, and of those after them, holds of every place
pub by_places : (P : ℕ → Type 0) (w : ℕ) → ((i : ℕ) → i < w → P i) → ((i : ℕ) → P (w + i)) → (i : ℕ) → P i
by_places P w first later i =
    elim (dec_lt i w) [ yes h ↦ first i h | no h ↦ subst P {x = w + (i - w)} {y = i} (omega arith) (later (i - w)) ]

-- one element more
pub length_snoc {ℓ} : {A : Type ℓ} (l : List A) (a : A) → length (l ++ (a ∷ [])) ≡ suc (length l)
length_snoc l a = length-append l (a ∷ []) ∙ omega arith

-- f 0, f 1, ..., f (n - 1) are n
pub length_list {ℓ} : {A : Type ℓ} (n : ℕ) (f : ℕ → A) → length (list_to n f) ≡ n
unfolding list_to
length_list zero f = refl
length_list (suc n) f = length_snoc (list_to n f) (f n) ∙ ap suc (length_list n f)

-- and f i stands at i
pub get_d_list {ℓ} : {A : Type ℓ} (n : ℕ) (f : ℕ → A) (i : ℕ) (d : A) → i < n → get_or (list_to n f) i d ≡ f i
unfolding list_to
get_d_list zero f i d h = absurd (not-suc-le-zero h)
get_d_list (suc n) f i d h =
    ⊎_elim
    (λ (e : i ≡ n). get_or_at (list_to n f) (f n) [] d i (length_list n f ∙ sym e) ∙ ap f (sym e))
    (λ (l : i < n). get_or-append (list_to n f) (f n ∷ []) d i (rw (length_list n f) l) ∙ get_d_list n f i d l)
    (eq-or-lt_of_le (le_of_suc-le-suc h))

-- `w` bits are w
pub length_bits : (w v : ℕ) → length (bits_of w v) ≡ w
unfolding bits_of
length_bits zero v = refl
length_bits (suc w) v = length_snoc (bits_of w (v / 2)) (v % 2) ∙ ap suc (length_bits w (v / 2))

-- the most significant of them first
pub get_d_bits : (w v i : ℕ) → i < w → get_or (bits_of w v) i 0 ≡ v / 2 ^ (w - suc i) % 2
unfolding bits_of
get_d_bits zero v i h = absurd (not-suc-le-zero h)
get_d_bits (suc w) v i h =
    ⊎_elim
    (λ (e : i ≡ w). get_or_at (bits_of w (v / 2)) (v % 2) [] 0 i (length_bits w (v / 2) ∙ sym e) ∙ sym (least e))
    (λ (l : i < w). get_or-append (bits_of w (v / 2)) (v % 2 ∷ []) 0 i (rw (length_bits w (v / 2)) l) ∙ get_d_bits w (v / 2) i l ∙ higher l)
    (eq-or-lt_of_le (le_of_suc-le-suc h))
  where
    least : i ≡ w → v / 2 ^ (suc w - suc i) % 2 ≡ v % 2
    least e = ap (λ (k : ℕ). v / 2 ^ k % 2) {x = suc w - suc i} {y = 0} (omega arith) ∙ omega arith

    higher : i < w → v / 2 / 2 ^ (w - suc i) % 2 ≡ v / 2 ^ (suc w - suc i) % 2
    higher l = ap (λ (x : ℕ). x % 2) (shr-shr v 1 (w - suc i)) ∙ ap (λ (k : ℕ). v / 2 ^ k % 2) (omega arith)

-- the bits of fields are as many as the fields are wide
pub length_all : (ps : List Part) → length (bits_of_all ps) ≡ width_of_all ps
unfolding bits_of_all width_of_all
length_all [] = refl
length_all (p ∷ ps) = omega (arith, length-append (bits_of p.wide p.is) (bits_of_all ps), length_bits p.wide p.is, length_all ps)

-- the bits of the first field come first
pub get_d_first : (p : Part) (ps : List Part) (i : ℕ) → i < p.wide → get_or (bits_of_all (p ∷ ps)) i 0 ≡ p.is / 2 ^ (p.wide - suc i) % 2
unfolding bits_of_all
get_d_first p ps i h =
    get_or-append (bits_of p.wide p.is) (bits_of_all ps) 0 i (rw (length_bits p.wide p.is) h) ∙ get_d_bits p.wide p.is i h

-- and after them those of the others
pub get_d_later : (p : Part) (ps : List Part) (i : ℕ) → get_or (bits_of_all (p ∷ ps)) (p.wide + i) 0 ≡ get_or (bits_of_all ps) i 0
unfolding bits_of_all
get_d_later p ps i =
    ap (λ (n : ℕ). get_or (bits_of_all (p ∷ ps)) (n + i) 0) (sym (length_bits p.wide p.is))
    ∙ get_or-append-add (bits_of p.wide p.is) (bits_of_all ps) i 0

-- every one is 0 or 1
pub all_lt : (ps : List Part) (i : ℕ) → get_or (bits_of_all ps) i 0 < 2
unfolding bits_of_all
all_lt [] = λ i. omega arith
all_lt (p ∷ ps) =
    by_places
    (λ i. get_or (bits_of_all (p ∷ ps)) i 0 < 2)
    p.wide
    (λ i h. rw (get_d_first p ps i h) (mod-lt (p.is / 2 ^ (p.wide - suc i)) (omega arith)))
    (λ i. rw (get_d_later p ps i) (all_lt ps i))

-- a field of zero bits
abbrev pub zeros : ℕ → Part
zeros w = record { wide = w; is = 0 }

-- zero bits after the others are not seen
pub get_d_zeros : (ps : List Part) (w i : ℕ) → get_or (bits_of_all (ps ++ (zeros w ∷ []))) i 0 ≡ get_or (bits_of_all ps) i 0
unfolding bits_of_all
get_d_zeros [] w =
    by_places
    (λ i. get_or (bits_of_all (zeros w ∷ [])) i 0 ≡ 0)
    w
    (λ i h. get_d_first (zeros w) [] i h ∙ ap (λ (b : ℕ). b % 2) (zero-div (2 ^ (w - suc i))))
    (λ i. get_d_later (zeros w) [] i)
get_d_zeros (p ∷ ps) w =
    by_places
    (λ i. get_or (bits_of_all (p ∷ ps ++ (zeros w ∷ []))) i 0 ≡ get_or (bits_of_all (p ∷ ps)) i 0)
    p.wide
    (λ i h. get_d_first p (ps ++ (zeros w ∷ [])) i h ∙ sym (get_d_first p ps i h))
    (λ i. get_d_later p (ps ++ (zeros w ∷ [])) i ∙ get_d_zeros ps w i ∙ sym (get_d_later p ps i))
