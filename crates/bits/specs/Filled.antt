-- Lists that are made by counting up, known by what stands at each place.
use Rattle.std.specs.Prelude.{List, [], ◌∷◌, ◌++◌, ◌≡◌, refl, ℕ, zero, suc, ◌<◌, length, get_or, set, replicate}
use Rattle.std.proofs.Common.{sym, ◌∙◌, arith, length-set, ext_get_or, get_or-set_same, get_or-set_other}
use Rattle.std.proofs.Math.Decide.{ℕ_discrete}
use Rattle.std.proofs.lemmas.List.{length-replicate, get_or-replicate}
use Rattle.bits.specs.Bits.{list_to}
use Rattle.bits.specs.Lists.{length_list, get_d_list}

-- a list as long as that, with f i at each i, is the list of f
pub list_is {ℓ} : {A : Type ℓ} (n : ℕ) (f : ℕ → A) (d : A) (l : List A) → length l ≡ n → ((i : ℕ) → i < n → get_or l i d ≡ f i) → l ≡ list_to n f
list_is n f d l long each =
    ext_get_or d l (list_to n f) (long ∙ sym (length_list n f)) (λ i h. each i (omega arith) ∙ sym (get_d_list n f i d (omega arith)))

-- what is the same at each place makes the same list
pub list_same {ℓ} : {A : Type ℓ} (n : ℕ) (f g : ℕ → A) → ((i : ℕ) → i < n → f i ≡ g i) → list_to n f ≡ list_to n g
list_same n f g each = list_is n g (f 0) (list_to n f) (length_list n f) (λ i h. get_d_list n f i (f 0) h ∙ each i h)

-- the same thing so many times is the list of it
pub list_all {ℓ} : {A : Type ℓ} (n : ℕ) (f : ℕ → A) (a : A) → ((i : ℕ) → i < n → a ≡ f i) → replicate n a ≡ list_to n f
list_all n f a each = list_is n f a (replicate n a) (length-replicate n a) (λ i h. get_or-replicate n i a a h ∙ each i h)

-- one place is filled anew, and the others stay
pub list_set {ℓ} : {A : Type ℓ} (n : ℕ) (f g : ℕ → A) (k : ℕ) (a : A) → (k < n → a ≡ g k) → ((i : ℕ) → i < n → (i ≡ k → ⊥) → f i ≡ g i)
    → set (list_to n f) k a ≡ list_to n g
list_set n f g k a here others =
    list_is n g a (set (list_to n f) k a) (length-set (list_to n f) k a ∙ length_list n f) (λ i h.
    elim (ℕ_discrete i k) [
      | yes e ↦ rw e (get_or-set_same (list_to n f) k a a (omega (arith, length_list n f)) ∙ here (omega arith))
      | no e ↦ get_or-set_other (list_to n f) k i a a e ∙ get_d_list n f i a h ∙ others i h e
    ])

-- what stands past the end is not seen where the list is made longer with it
pub get_d_padded {ℓ} : {A : Type ℓ} (l : List A) (n i : ℕ) (d : A) → get_or (l ++ replicate n d) i d ≡ get_or l i d
get_d_padded [] zero i d = refl
get_d_padded [] (suc n) zero d = refl
get_d_padded [] (suc n) (suc i) d = get_d_padded [] n i d
get_d_padded (x ∷ l) n zero d = refl
get_d_padded (x ∷ l) n (suc i) d = get_d_padded l n i d
