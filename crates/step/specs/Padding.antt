-- The bits that are left of a byte, as a field of the step.
use Rattle.std.specs.Prelude.{List, ◌≡◌, ℕ, ◌*◌, ◌/◌, ◌%◌, ◌^◌, ◌<◌, ◌≤◌, length, Some, None}
use Rattle.std.proofs.Math.Path.{sym, ap}
use Rattle.std.proofs.Common.{◌∙◌, arith}
use Rattle.std.proofs.Math.Decide.{dec_lt}
use Rattle.bits.specs.Bits.{bits_at, field_at, padding_at}
use Rattle.bits.specs.Fields.{field_past, field_there, there_ends, there_is}
use Rattle.bits.specs.Octets.{window_field}

-- a byte that is not there is past the end
byte_past : (s : List ℕ) (i : ℕ) → field_at s (8 * i) 8 ≡ None → length s ≤ i
byte_past s i none =
    elim (dec_lt i (length s)) [
      | yes inside ↦
          let other = sym none ∙ field_there s (8 * i) 8 (omega arith) (omega arith) in
          absurd (let z : ◌≡◌ {A = ℕ} 0 1 = cc other in omega arith)
      | no past ↦ omega arith
    ]

module _ (s : List ℕ) (at w : ℕ) (pads : w ≡ padding_at at) (some : 0 < w) where
  -- where the byte is not there they are not
  pub rest_missing : field_at s (8 * (at / 8)) 8 ≡ None → None ≡ field_at s at w
  rest_missing none = sym (field_past s at w (omega (arith, byte_past s (at / 8) none)))

  -- where it is they are its last ones
  pub rest_there : (byte : ℕ) → field_at s (8 * (at / 8)) 8 ≡ Some byte → Some (byte % 2 ^ w) ≡ field_at s at w
  unfolding bits_at
  rest_there byte there =
      let is : bits_at s (8 * (at / 8)) 8 ≡ byte = there_is s (8 * (at / 8)) 8 byte there in
      let last : bits_at s (8 * (at / 8)) 8 / 2 ^ 0 % 2 ^ w ≡ bits_at s at w = window_field s (8 * (at / 8)) 8 at w 0 (omega arith) (omega arith) in
      ap Some (ap (λ (b : ℕ). b % 2 ^ w) (sym is ∙ omega arith) ∙ last)
      ∙ sym (field_there s at w (omega arith) (omega (arith, there_ends s (8 * (at / 8)) 8 byte there)))
