-- -1 less a number of 64 bits is one of 64 bits.
use mathlib.Core.Path.{◌≡◌, refl, ap, ◌∙◌}
use Prim.Native.Nat.{zero, suc}
use lib.IntN.{ℤ, pos, negsuc, neg_ℤ, pred_ℤ, ◌-ℤ◌, +ℤ_comm, +ℤ_idr, +ℤ-pred_ℤ}
use lib.Signed.{mag}
use mir.Syntax.{w64}
use mir.Val.{SFits, to_z, of_z}
use mir.ValLaws.{to_z-of_z}

less_one : (z : ℤ) → negsuc 0 -ℤ z ≡ pred_ℤ (neg_ℤ z)
less_one z = +ℤ_comm (negsuc 0) (neg_ℤ z) ∙ +ℤ-pred_ℤ (neg_ℤ z) (pos 0) ∙ ap pred_ℤ (+ℤ_idr (neg_ℤ z))

mirror : (z : ℤ) → mag (pred_ℤ (neg_ℤ z)) ≡ mag z
mirror (pos zero) = refl
mirror (pos (suc n)) = refl
mirror (negsuc n) = refl

pub mirrored_fits : {z : ℤ} → SFits w64 z → SFits w64 (negsuc 0 -ℤ to_z w64 (of_z w64 z))
mirrored_fits {z} f = record { sfits = rw (to_z-of_z w64 z f, less_one z, mirror z) f.sfits }
