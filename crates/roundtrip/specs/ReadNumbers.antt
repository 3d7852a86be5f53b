-- Bits and numbers of 48 bits, read: they are in range, and are packed as the same fields.
use Rattle.std.specs.Prelude.{Bool, true, false, cond, ◌≡◌, refl, ℕ, zero, suc, ◌-◌, ◌^◌, ◌<◌, ltb, eqb, pos, negsuc, Ok}
use Rattle.std.proofs.Common.{arith, lt-ltb, ltb-false}
use Rattle.values.specs.Numbers.{in_range}
use Rattle.values.specs.declared.Number.{Number}
use Rattle.bits.specs.Twos.{signed, unsigned}
use Rattle.table.specs.Faults.{number_fault}
use Rattle.script.specs.Reader.{starting}

-- the number in the field again
pub unsigned_signed : (v : ℕ) → v < 2 ^ 48 → unsigned (signed v) ≡ v
unfolding signed unsigned
unsigned_signed v h = by_test (ltb v (2 ^ 47))
  where
    by_test : (b : Bool) → unsigned (cond b (pos v) (negsuc (2 ^ 48 - suc v))) ≡ v
    by_test true = refl
    by_test false = omega arith

-- 48 bits always hold a number in range
pub signed_in_range : (v : ℕ) → v < 2 ^ 48 → in_range (signed v) ≡ true
unfolding signed
signed_in_range v h = by_test (ltb v (2 ^ 47)) refl
  where
    by_test : (b : Bool) → ltb v (2 ^ 47) ≡ b → in_range (cond b (pos v) (negsuc (2 ^ 48 - suc v))) ≡ true
    by_test true e = e
    by_test false e = lt-ltb (2 ^ 48 - suc v) (2 ^ 47) (omega (arith, ltb-false v (2 ^ 47) e))

-- a bit that says yes or no
pub bit_again : (bit : ℕ) → bit < 2 → cond (eqb bit 1) 1 0 ≡ bit
bit_again zero h = refl
bit_again (suc zero) h = refl
bit_again (suc (suc b)) h = absurd (omega arith)

-- a variable's start is no fault
pub starting_sound : (bit v : ℕ) → v < 2 ^ 48 → number_fault (starting bit v) ≡ Ok tt
unfolding number_fault
starting_sound bit v h = by_test (eqb bit 1)
  where
    by_test : (b : Bool) → number_fault (cond b (Number.Whole (signed v)) Number.Undefined) ≡ Ok tt
    by_test true = rw (signed_in_range v h)
    by_test false = refl
