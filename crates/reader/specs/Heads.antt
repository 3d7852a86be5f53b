-- The head of a script, a stage at a time: what is left to read from a field on.
use Rattle.std.specs.Prelude.{true, false, ◌||◌, List, ◌≡◌, ℕ, suc, ◌+◌, ◌-◌, ◌≤◌, ◌<◌, leb, eqb, Some, None}
use Rattle.std.proofs.Common.{sub-eq-zero_of_le, arith}
use Rattle.std.proofs.Math.Numerals.{add-one}
use Rattle.refusals.specs.declared.Refusal.{Refusal}
use Rattle.refusals.specs.Numbering.{unless}
use Rattle.bits.specs.Bits.{field_at}
use Rattle.bits.specs.Reading.{got, refused, Reading, give, ◌>>=◌, field}
use Rattle.table.specs.declared.Table.{Table}
use Rattle.table.specs.Limits.{limits}
use Rattle.script.specs.Reader.{counted, with_event, with_variable, imports, variables, starting}

-- the header from its import count on
abbrev pub counts : ℕ → Reading Table
counts n = do
  q ← field Refusal.Cut 6 (λ q. unless (leb q limits.imports) Refusal.ImportCount)
  v ← field Refusal.Cut 6 (λ v. unless (leb v limits.variables) Refusal.VariableCount)
  zeros ← field Refusal.Cut 4 (λ z. unless (eqb z 0) Refusal.HeaderBits)
  give (counted n q v)

-- one more of those that are left
left_one : (i n : ℕ) → i < n → n - i ≡ suc (n - (i + 1))
left_one i n more = omega arith

module _ (q i : ℕ) (more : i < q) (t : Table) (s : List ℕ) (at : ℕ) where
  -- an import whose bit isn't there
  pub import_cut : field_at s at 1 ≡ None → imports (q - i) i t s at ≡ refused Refusal.Cut
  unfolding imports
  import_cut cut = rw (left_one i q more, cut)

  -- an import, and then those that are left
  pub import_next : (bit : ℕ) → field_at s at 1 ≡ Some bit
      → imports (q - i) i t s at ≡ imports (q - (i + 1)) (i + 1) (with_event t i (eqb bit 1)) s (at + 1)
  unfolding imports
  import_next bit there = rw (left_one i q more, there, add-one i)

-- no import is left
pub imports_done : (q i : ℕ) → q ≤ i → (t : Table) (s : List ℕ) (at : ℕ) → imports (q - i) i t s at ≡ got t at
unfolding imports
imports_done q i all t s at = rw (sub-eq-zero_of_le all)

module _ (v x : ℕ) (more : x < v) (t : Table) (s : List ℕ) (at : ℕ) where
  -- a variable whose first bit isn't there
  pub variable_cut : field_at s at 1 ≡ None → variables (v - x) x t s at ≡ refused Refusal.Cut
  unfolding variables
  variable_cut cut = rw (left_one x v more, cut)

  module _ (bit : ℕ) (there : field_at s at 1 ≡ Some bit) where
    -- a variable whose number isn't wholly there
    pub number_cut : field_at s (at + 1) 48 ≡ None → variables (v - x) x t s at ≡ refused Refusal.Cut
    unfolding variables
    number_cut cut = rw (left_one x v more, there, cut)

    module _ (number : ℕ) (found : field_at s (at + 1) 48 ≡ Some number) where
      -- a variable that starts undefined with a nonzero number
      pub variable_refused : (eqb bit 1 || eqb number 0) ≡ false → variables (v - x) x t s at ≡ refused Refusal.Initial
      unfolding variables
      variable_refused bad = rw (left_one x v more, there, found, bad)

      -- a variable, and then those that are left
      pub variable_next : (eqb bit 1 || eqb number 0) ≡ true
          → variables (v - x) x t s at ≡ variables (v - (x + 1)) (x + 1) (with_variable t x (starting bit number)) s (at + 1 + 48)
      unfolding variables
      variable_next good = rw (left_one x v more, there, found, good, add-one x)

-- no variable is left
pub variables_done : (v x : ℕ) → v ≤ x → (t : Table) (s : List ℕ) (at : ℕ) → variables (v - x) x t s at ≡ got t at
unfolding variables
variables_done v x all t s at = rw (sub-eq-zero_of_le all)
