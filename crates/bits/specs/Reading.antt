-- "Reading goes from front to back and the first fault decides": one field after another, each judged before the next is taken.
use Rattle.std.specs.Prelude.{Bool, true, false, List, ◌≡◌, refl, ℕ, ◌+◌, ◌*◌, eqb, length, Ok, Err, Some, None, Option}
use Rattle.std.proofs.Common.{sym}
use Rattle.replies.specs.Plain.{never}
use Rattle.refusals.specs.declared.Refusal.{Refusal}
use Rattle.refusals.specs.Answers.{Answer}
use Rattle.refusals.specs.Numbering.{unless}
use Rattle.bits.specs.Bits.{field_at, padding_at}

infixl 20 ◌>>=◌
-- what reading gives: a value and the bit at which the next field begins, or the refusal
pub data Got (A : Type 0) : Type 0 where
  got : A → ℕ → Got A
  refused : Refusal → Got A

-- reading looks at the bytes from a bit on
abbrev pub Reading : Type 0 → Type 0
Reading A = List ℕ → ℕ → Got A

-- nothing is read
abbrev pub give : {A : Type 0} → A → Reading A
give a s at = got a at

-- the first fault decides
abbrev pub onward : {A B : Type 0} → Got A → (A → ℕ → Got B) → Got B
onward (got a next) f = f a next
onward (refused r) f = refused r

-- three readings may be taken together either way
pub onward_onward : {A B C : Type 0} (m : Got A) (f : A → ℕ → Got B) (g : B → ℕ → Got C) → onward (onward m f) g ≡ onward m (λ a next. onward (f a next) g)
onward_onward (got a next) f g = refl
onward_onward (refused r) f g = refl

-- one reading, and then another that knows what the first gave
abbrev pub ◌>>=◌ : {A B : Type 0} → Reading A → (A → Reading B) → Reading B
◌>>=◌ m f = λ s at. onward (m s at) (λ a next. f a s next)

-- a value that was read is kept unless it is refused
abbrev pub judged : {A : Type 0} → Answer → A → ℕ → Got A
judged (Ok _) a next = got a next
judged (Err r) a next = refused r

-- a number that is refused stops all that follows
pub stops : {B : Type 0} (b : Bool) (r : Refusal) (v next : ℕ) (f : ℕ → ℕ → Got B) → b ≡ false → onward (judged (unless b r) v next) f ≡ refused r
stops false r v next f e = refl
stops true r v next f e = never (sym e)

-- whether reading went through
abbrev pub answered : {A : Type 0} → Got A → Answer
answered (got a next) = Ok tt
answered (refused r) = Err r

-- what a field's answer leads to: `cut` where it isn't wholly there, else what is thought of its number
abbrev pub taken : Refusal → (ℕ → Answer) → ℕ → Option ℕ → Got ℕ
taken cut judge next None = refused cut
taken cut judge next (Some v) = judged (judge v) v next

-- a field of `w` bits: `cut` where it isn't wholly there, then judged
abbrev pub field : Refusal → ℕ → (ℕ → Answer) → Reading ℕ
field cut w judge = λ s at. taken cut judge (at + w) (field_at s at w)

-- any number will do
abbrev pub whatever : ℕ → Answer
whatever v = Ok tt

-- "Zero bits up to a whole byte."
abbrev pub padding : Refusal → Refusal → Reading ℕ
padding cut nonzero = λ s at. field cut (padding_at at) (λ v. unless (eqb v 0) nonzero) s at

-- "Nothing follows."
abbrev pub ended : Refusal → Reading ℕ
ended leftOver = λ s at. judged (unless (eqb at (8 * length s)) leftOver) 0 at
