-- nimbra_write: the table in words and a block of labels, written as a script again.
use Rattle.std.specs.Prelude.{Bool, false, ◌&&◌, List, [], ◌∷◌, ◌≡◌, ℕ, eqb, length, set, Ok, Err}
use Rattle.std.proofs.Math.Bool.{cond}
use Rattle.std.proofs.Math.Path.{refl, sym, ap}
use Rattle.std.proofs.Common.{◌∙◌, arith}
use Rattle.refusals.specs.declared.Refusal.{Refusal}
use Rattle.refusals.specs.Answers.{Answer}
use Rattle.refusals.specs.Numbering.{number_of}
use Rattle.table.specs.declared.Table.{Table}
use Rattle.script.specs.declared.Written.{Written}
use Rattle.script.specs.Writer.{write_script, write_bytes}
use Rattle.monitor.specs.declared.Monitor.{Monitor}
use Rattle.words.specs.Layout.{state_words}
use Rattle.words.specs.Unpacking.{monitor_in, state_fault}
use Rattle.door.specs.Leaving.{Left, wrong_size, Leaves, leaves_same, sizes_right, first_wrong, second_wrong}

-- the reply, the destination, and the word for how many bytes were written
pub record WriteLeft : Type 0 where
  pub reply : ℕ
  pub out : List ℕ
  pub size : List ℕ

-- 0 and how many bytes were written, or a number and the word as it was
abbrev pub size_left : Answer → ℕ → List ℕ → Left
size_left (Ok _) n size = record { reply = 0; buffer = n ∷ [] }
size_left (Err r) n size = record { reply = number_of r; buffer = size }

-- what the writer answers to a table
unfoldable pub table_left : Table → List ℕ → List ℕ → List ℕ → WriteLeft
table_left t labels out size =
    let written = write_script t labels out in
    let left = size_left written.answer written.size size in
    record { reply = left.reply; out = write_bytes t labels out; size = left.buffer }

-- what it answers to sound words, or 29
abbrev pub words_left : Answer → List ℕ → List ℕ → List ℕ → List ℕ → WriteLeft
words_left (Ok _) state labels out size = table_left (monitor_in state).table labels out size
words_left (Err r) state labels out size = record { reply = number_of r; out = out; size = size }

-- what nimbra_write answers, and what it leaves in both buffers
unfoldable pub write_door : List ℕ → List ℕ → List ℕ → List ℕ → WriteLeft
write_door state labels out size =
    cond (eqb (length state) state_words && eqb (length size) 1) (words_left (state_fault state) state labels out size)
    (record { reply = wrong_size; out = out; size = size })

-- a call that replied n, with these in its buffers at its end, left this
pub record WriteLeaves (left : WriteLeft) (n : ℕ) (later after : List ℕ) : Type 0 where
  pub reply : n ≡ left.reply
  pub out : later ≡ left.out
  pub size : after ≡ left.size

-- one word stored
pub one_stored : (size : List ℕ) (n : ℕ) → length size ≡ 1 → set size 0 n ≡ n ∷ []
one_stored [] n one = absurd (omega arith)
one_stored (x ∷ []) n one = refl
one_stored (x ∷ y ∷ rest) n one = absurd (omega arith)

module _ (answer : Answer) (n : ℕ) (size : List ℕ) where
  -- a write that is refused
  pub size_refused : {r : Refusal} {number : ℕ} → answer ≡ Err r → number ≡ number_of r → Leaves (size_left answer n size) number size
  size_refused bad is = leaves_same (record { reply = is; buffer = refl }) (ap (λ (a : Answer). size_left a n size) (sym bad))

  -- one that is done
  pub size_shown : length size ≡ 1 → answer ≡ Ok tt → Leaves (size_left answer n size) 0 (set size 0 n)
  size_shown one good =
      leaves_same {left = size_left (Ok tt) n size} (record { reply = refl; buffer = one_stored size n one }) (ap (λ (a : Answer). size_left a n size) (sym good))

-- what was left is said by another name
written_same : {left other : WriteLeft} {n : ℕ} {out size : List ℕ} → WriteLeaves left n out size → left ≡ other → WriteLeaves other n out size
written_same so same =
    record {
      reply = so.reply ∙ ap (λ (x : WriteLeft). x.reply) same;
      out = so.out ∙ ap (λ (x : WriteLeft). x.out) same;
      size = so.size ∙ ap (λ (x : WriteLeft). x.size) same;
    }

-- the same contract allows one thing only
pub written_one : {left : WriteLeft} {n₁ n₂ : ℕ} {out₁ out₂ size₁ size₂ : List ℕ} → WriteLeaves left n₁ out₁ size₁ → WriteLeaves left n₂ out₂ size₂
    → (n₁ ≡ n₂) × ((out₁ ≡ out₂) × (size₁ ≡ size₂))
written_one a b = (a.reply ∙ sym b.reply, (a.out ∙ sym b.out, a.size ∙ sym b.size))

module _ (state labels out size : List ℕ) where
  -- nothing is touched
  abbrev untouched : WriteLeft
  untouched = record { reply = wrong_size; out = out; size = size }

  -- the sizes are not right
  write_wrong : (eqb (length state) state_words && eqb (length size) 1) ≡ false → WriteLeaves (write_door state labels out size) 90 out size
  unfolding write_door
  write_wrong wrong =
      written_same {left = untouched} (record { reply = refl; out = refl; size = refl })
      (sym (ap (λ (t : Bool). cond t (words_left (state_fault state) state labels out size) untouched) wrong))

  -- the words are not 452
  pub write_words : (length state ≡ state_words → ⊥) → WriteLeaves (write_door state labels out size) 90 out size
  write_words other = write_wrong (first_wrong (length state) state_words (length size) 1 other)

  module _ (long : length state ≡ state_words) where
    -- or there is not one word for the size
    pub write_size : (length size ≡ 1 → ⊥) → WriteLeaves (write_door state labels out size) 90 out size
    write_size other = write_wrong (second_wrong (length state) state_words (length size) 1 long other)

    module _ (one : length size ≡ 1) {fault : Answer} (is : fault ≡ state_fault state) where
      -- what is left goes by 29
      by_fault : {answer : Answer} {n : ℕ} {later after : List ℕ} → fault ≡ answer → WriteLeaves (words_left answer state labels out size) n later after
          → WriteLeaves (write_door state labels out size) n later after
      unfolding write_door
      by_fault said so =
          written_same so
          (ap (λ (a : Answer). words_left a state labels out size) (sym said ∙ is)
          ∙ sym
          (ap (λ (t : Bool). cond t (words_left (state_fault state) state labels out size) untouched) (sizes_right (length state) state_words (length size) 1 long one)))

      -- 29
      pub write_unsound : {r : Refusal} {n : ℕ} → fault ≡ Err r → n ≡ number_of r → WriteLeaves (write_door state labels out size) n out size
      write_unsound bad number = by_fault bad (record { reply = number; out = refl; size = refl })

      -- what the writer answers
      pub write_done : {m : Monitor} {written : Written} {n : ℕ} {later after : List ℕ} → fault ≡ Ok tt → m ≡ monitor_in state
          → written ≡ write_script m.table labels out → later ≡ write_bytes m.table labels out
          → Leaves (size_left written.answer written.size size) n after
          → WriteLeaves (write_door state labels out size) n later after
      unfolding table_left
      write_done {m} good monitor reply bytes so =
          let shown = leaves_same so (ap (λ (w : Written). size_left w.answer w.size size) (reply ∙ ap (λ (o : Monitor). write_script o.table labels out) monitor)) in
          by_fault good (record { reply = shown.reply; out = bytes ∙ ap (λ (o : Monitor). write_bytes o.table labels out) monitor; size = shown.buffer })
