-- "The team proves that two replies allowed by the statement are equal": a contract fixes the place that is returned and what the destination holds then.
use Rattle.replies.specs.Replies.{DeterminedWith}
use Rattle.lines.specs.Laying.{lays_same}
use Rattle.lines.proofs.put_byte.Reads as put_byte
use Rattle.lines.proofs.put.Reads as put
use Rattle.lines.proofs.put_decimal.Reads as put-decimal
use Rattle.lines.proofs.fields.put_word.Reads as put_word
use Rattle.lines.proofs.fields.put_number.Reads as put-number
use Rattle.lines.proofs.heading.put_script.Reads as put-script
use Rattle.lines.proofs.heading.put_script_refused.Reads as put-script-refused

pub bytes : DeterminedWith put_byte.Post (λ κs s. s.0.now)
bytes = record { same = λ κs a r₁ r₂ s₁ s₂ p q. lays_same p q }

pub texts : DeterminedWith put.Post (λ κs s. s.0.now)
texts = record { same = λ κs a r₁ r₂ s₁ s₂ p q. lays_same p q }

pub numbers : DeterminedWith put-decimal.Post (λ κs s. s.0.now)
numbers = record { same = λ κs a r₁ r₂ s₁ s₂ p q. lays_same p q }

pub words : DeterminedWith put_word.Post (λ κs s. s.0.now)
words = record { same = λ κs a r₁ r₂ s₁ s₂ p q. lays_same p q }

pub fields : DeterminedWith put-number.Post (λ κs s. s.0.now)
fields = record { same = λ κs a r₁ r₂ s₁ s₂ p q. lays_same p q }

pub scripts : DeterminedWith put-script.Post (λ κs s. s.0.now)
scripts = record { same = λ κs a r₁ r₂ s₁ s₂ p q. lays_same p q }

pub refused_scripts : DeterminedWith put-script-refused.Post (λ κs s. s.0.now)
refused_scripts = record { same = λ κs a r₁ r₂ s₁ s₂ p q. lays_same p q }
