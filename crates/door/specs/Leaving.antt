-- What a call leaves: its reply, and what the lent buffer holds.
use Rattle.std.specs.Prelude.{Bool, true, false, cond, ◌&&◌, List, ◌≡◌, ℕ, ◌<◌, eqb}
use Rattle.std.proofs.Common.{sym, ap, ap₂, ◌∙◌, arith, eq-eqb, ne_eqb}
use Rattle.refusals.specs.declared.Refusal.{Refusal}
use Rattle.refusals.specs.Numbering.{number_of}

-- the reply, 0 or a refusal's number or 90, and the buffer
pub record Left : Type 0 where
  pub reply : ℕ
  pub buffer : List ℕ

-- the reply where a lent buffer has not its size: above every refusal's number
abbrev pub wrong_size : ℕ
wrong_size = 90

-- so a reply says which it was
pub number_apart : (r : Refusal) → number_of r < wrong_size
number_apart Refusal.TooLong = omega arith
number_apart Refusal.Cut = omega arith
number_apart Refusal.Format = omega arith
number_apart Refusal.EntryCount = omega arith
number_apart Refusal.ImportCount = omega arith
number_apart Refusal.VariableCount = omega arith
number_apart Refusal.HeaderBits = omega arith
number_apart Refusal.TableLimits = omega arith
number_apart Refusal.Initial = omega arith
number_apart Refusal.Kind = omega arith
number_apart Refusal.Operand = omega arith
number_apart Refusal.Sort = omega arith
number_apart Refusal.Padding = omega arith
number_apart Refusal.Label = omega arith
number_apart Refusal.LeftOver = omega arith
number_apart Refusal.NoRoom = omega arith
number_apart Refusal.Range = omega arith
number_apart Refusal.StepCut = omega arith
number_apart Refusal.Time = omega arith
number_apart Refusal.StepImport = omega arith
number_apart Refusal.ImportOrder = omega arith
number_apart Refusal.ConditionReport = omega arith
number_apart Refusal.StepPadding = omega arith
number_apart Refusal.StepLeftOver = omega arith
number_apart Refusal.Unsound = omega arith
number_apart Refusal.NoEntry = omega arith

-- where the sizes are right, this is left; else 90 and the buffer as it was
abbrev pub if_size : Bool → List ℕ → Left → Left
if_size right buffer left = cond right left (record { reply = wrong_size; buffer = buffer })

-- a call that replied n, with l in the buffer at its end, left this
pub record Leaves (left : Left) (n : ℕ) (l : List ℕ) : Type 0 where
  pub reply : n ≡ left.reply
  pub buffer : l ≡ left.buffer

-- what was left is said by another name
pub leaves_same : {left other : Left} {n : ℕ} {l : List ℕ} → Leaves left n l → left ≡ other → Leaves other n l
leaves_same so same = record { reply = so.reply ∙ ap (λ (x : Left). x.reply) same; buffer = so.buffer ∙ ap (λ (x : Left). x.buffer) same }

-- the sizes are right
pub right_size : {right : Bool} (buffer : List ℕ) {left : Left} {n : ℕ} {l : List ℕ} → right ≡ true → Leaves left n l → Leaves (if_size right buffer left) n l
right_size buffer {left = left} right so = leaves_same so (sym (ap (λ (t : Bool). if_size t buffer left) right))

-- they are not
pub wrong_size_lem : {right : Bool} (buffer : List ℕ) (left : Left) → right ≡ false → Leaves (if_size right buffer left) 90 buffer
wrong_size_lem buffer left wrong =
    let same = sym (ap (λ (t : Bool). if_size t buffer left) wrong) in
    record { reply = ap (λ (x : Left). x.reply) same; buffer = ap (λ (x : Left). x.buffer) same }

-- the same contract allows one thing only
pub leaves_one : {left : Left} {n₁ n₂ : ℕ} {l₁ l₂ : List ℕ} → Leaves left n₁ l₁ → Leaves left n₂ l₂ → (n₁ ≡ n₂) × (l₁ ≡ l₂)
leaves_one a b = (a.reply ∙ sym b.reply, a.buffer ∙ sym b.buffer)

module _ (a n b m : ℕ) where
  -- two sizes that are both right
  pub sizes_right : a ≡ n → b ≡ m → (eqb a n && eqb b m) ≡ true
  sizes_right first second = ap₂ ◌&&◌ (eq-eqb a n first) (eq-eqb b m second)

  -- the first is not
  pub first_wrong : (a ≡ n → ⊥) → (eqb a n && eqb b m) ≡ false
  first_wrong other = ap (λ (t : Bool). t && eqb b m) (ne_eqb a n other)

  -- the second is not
  pub second_wrong : a ≡ n → (b ≡ m → ⊥) → (eqb a n && eqb b m) ≡ false
  second_wrong first other = ap₂ ◌&&◌ (eq-eqb a n first) (ne_eqb b m other)
