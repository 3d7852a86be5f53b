-- What reading gives where nothing is refused: a law about each way to put a reading together.
use Rattle.std.specs.Prelude.{List, ◌≡◌, refl, ℕ, ◌+◌, ◌*◌, eqb, length, Ok, Err, Some, None, Option}
use Rattle.std.proofs.Common.{subst₂, arith, eqb-true}
use Rattle.refusals.specs.declared.Refusal.{Refusal}
use Rattle.refusals.specs.Answers.{Answer}
use Rattle.refusals.specs.Numbering.{unless}
use Rattle.refusals.specs.Accepting.{unless_accepted}
use Rattle.bits.specs.Bits.{field_at}
use Rattle.bits.specs.Reading.{Got, got, refused, onward, judged, taken, field, ended}

-- what is given, if anything is, has the property
pub record Gives {A : Type 0} (m : Got A) (P : A → ℕ → Type 0) : Type 0 where
  pub told : (a : A) (next : ℕ) → m ≡ got a next → P a next

-- a value at hand
pub gives_value : {A : Type 0} {a : A} {next : ℕ} {P : A → ℕ → Type 0} → P a next → Gives (got a next) P
gives_value {A} {a} {next} {P} p = record { told = λ b end e. subst₂ P (cc) (cc) p }

-- and what follows from it
pub gives_also : {A : Type 0} {m : Got A} {P Q : A → ℕ → Type 0} → Gives m P → ((a : A) (next : ℕ) → P a next → Q a next) → Gives m Q
gives_also h also = record { told = λ a next e. also a next (h.told a next e) }

-- nothing at all
pub gives_refused : {A : Type 0} {r : Refusal} {P : A → ℕ → Type 0} → Gives {A = A} (refused r) P
gives_refused {A} {r} {P} = record { told = λ a next e. let z : ◌≡◌ {A = ℕ} 0 1 = cc in absurd (omega arith) }

-- one reading and then another
pub gives_onward : {A B : Type 0} {m : Got A} {f : A → ℕ → Got B} {P : B → ℕ → Type 0}
    → ((a : A) (next : ℕ) → m ≡ got a next → Gives (f a next) P) → Gives (onward m f) P
gives_onward {m = got a next} h = h a next refl
gives_onward {m = refused r} h = gives_refused

-- a value that is judged, and then another reading
gives_judged : {A B : Type 0} (answer : Answer) (a : A) (next : ℕ) (f : A → ℕ → Got B) {P : B → ℕ → Type 0}
    → (answer ≡ Ok tt → Gives (f a next) P) → Gives (onward (judged answer a next) f) P
gives_judged (Ok _) a next f h = h refl
gives_judged (Err r) a next f h = gives_refused

-- what a field's answer leads to, and then another reading
gives_taken : {B : Type 0} (cut : Refusal) (judge : ℕ → Answer) (next : ℕ) (there : Option ℕ) (f : ℕ → ℕ → Got B) {P : B → ℕ → Type 0}
    → ((v : ℕ) → there ≡ Some v → judge v ≡ Ok tt → Gives (f v next) P)
    → Gives (onward (taken cut judge next there) f) P
gives_taken cut judge next None f h = gives_refused
gives_taken cut judge next (Some v) f h = gives_judged (judge v) v next f (h v refl)

-- a field and then another reading: the field was there and was judged good, and reading goes on after it
pub gives_field : {B : Type 0} (s : List ℕ) (at w : ℕ) (cut : Refusal) (judge : ℕ → Answer) (f : ℕ → ℕ → Got B) {P : B → ℕ → Type 0}
    → ((v : ℕ) → field_at s at w ≡ Some v → judge v ≡ Ok tt → Gives (f v (at + w)) P)
    → Gives (onward (field cut w judge s at) f) P
gives_field s at w cut judge f h = gives_taken cut judge (at + w) (field_at s at w) f h

-- "Nothing follows", and then another reading: the end of the bytes was there
pub gives_ended : {B : Type 0} (s : List ℕ) (at : ℕ) (leftOver : Refusal) (f : ℕ → ℕ → Got B) {P : B → ℕ → Type 0}
    → (at ≡ 8 * length s → Gives (f 0 at) P) → Gives (onward (ended leftOver s at) f) P
gives_ended s at leftOver f h =
    gives_judged (unless (eqb at (8 * length s)) leftOver) 0 at f
    (λ good. h (eqb-true at (8 * length s) (unless_accepted (eqb at (8 * length s)) leftOver good)))
