-- What a report tells, as a word.
use Rattle.std.specs.Prelude.{◌≡◌, ℕ, suc, ◌+◌, ◌-◌, ◌<◌, ◌≤◌, ◌^◌}
use Rattle.std.proofs.Common.{arith, lt-ltb, le-ltb}
use Rattle.values.specs.declared.Number.{Number}
use Rattle.bits.specs.Twos.{signed}
use Rattle.step.specs.declared.Told.{Told}
use Rattle.words.specs.Words.{zero_word, number_word, told_word}
use Rattle.hearing.specs.declared.Word.{Word}

-- the word of what is told
abbrev pub as_word : Told → Word
as_word told = record { word = told_word told }

-- 48 bits below 2^47 stand for themselves
pub value_low : (v word : ℕ) → word ≡ zero_word + v → v < 2 ^ 47 → word ≡ number_word (Number.Whole (signed v))
unfolding signed
value_low v word is low = rw (lt-ltb v (2 ^ 47) low, lt-ltb v (2 ^ 47) low) is

-- the others for the number less 2^48
pub value_high : (v word : ℕ) → word + 2 ^ 48 ≡ zero_word + v → 2 ^ 47 ≤ v → v < 2 ^ 48 → word ≡ number_word (Number.Whole (signed v))
unfolding signed
value_high v word is high few = rw (le-ltb v (2 ^ 47) high, lt-ltb (2 ^ 48 - suc v) (2 ^ 47) (omega arith)) (omega arith)
