-- A line in pieces: its first field, each later one with a space before it, and the line feed.
use Rattle.std.specs.Prelude.{List, [], ◌∷◌, ◌++◌, ◌≡◌, refl, ℕ, ◌+◌, length}
use Rattle.std.proofs.Common.{append_assoc, append-nil, sym, ◌∙◌, ap, subst, arith, length-append}
use Rattle.refusals.specs.declared.Refusal.{Refusal}
use Rattle.refusals.specs.Numbering.{number_of}
use Rattle.lines.specs.Text.{decimal, script_word, refused_word, line, script_refused_line}
use Rattle.lines.specs.Laying.{Lays, lays_then}

-- fields with a space before each
unfoldable pub spaced : List (List ℕ) → List ℕ
spaced [] = []
spaced (f ∷ fs) = 32 ∷ f ++ spaced fs

-- a line is its first field, the others with a space before each, and a line feed
pub line_spaced : (f : List ℕ) (fs : List (List ℕ)) → line (f ∷ fs) ≡ f ++ (spaced fs ++ (10 ∷ []))
unfolding line spaced
line_spaced f [] = refl
line_spaced f (g ∷ fs) = ap (λ (l : List ℕ). f ++ (32 ∷ l)) (line_spaced g fs ∙ sym (append_assoc g (spaced fs) (10 ∷ [])))

-- so a line is as long as those
pub line_length : (f : List ℕ) (fs : List (List ℕ)) → length (line (f ∷ fs)) ≡ length f + length (spaced fs) + 1
line_length f fs = ap length (line_spaced f fs) ∙ simp length-append (omega arith)

-- some fields, and then some more
pub spaced_more : (fs gs : List (List ℕ)) → spaced (fs ++ gs) ≡ spaced fs ++ spaced gs
unfolding spaced
spaced_more [] gs = refl
spaced_more (f ∷ fs) gs = ap (λ (l : List ℕ). 32 ∷ f ++ l) (spaced_more fs gs) ∙ sym (append_assoc (32 ∷ f) (spaced fs) (spaced gs))

module _ {dst mid after : List ℕ} {at next end : ℕ} where
  -- one field laid, and then the others
  pub lays_field : (f : List ℕ) (fs : List (List ℕ)) → Lays dst at (32 ∷ f) mid next → Lays mid next (spaced fs) after end → Lays dst at (spaced (f ∷ fs)) after end
  unfolding spaced
  lays_field f fs first others = lays_then first others

  -- some fields laid, and then some more
  pub lays_fields : (fs gs : List (List ℕ)) → Lays dst at (spaced fs) mid next → Lays mid next (spaced gs) after end → Lays dst at (spaced (fs ++ gs)) after end
  lays_fields fs gs some more = rw (spaced_more fs gs) (lays_then some more)

  -- a line laid: its first field, the others, the line feed
  pub lays_line : {rest : List ℕ} {place : ℕ} (f : List ℕ) (fs : List (List ℕ)) → Lays dst at f rest place → Lays rest place (spaced fs) mid next
      → Lays mid next (10 ∷ []) after end → Lays dst at (line (f ∷ fs)) after end
  lays_line f fs first others feed = rw (line_spaced f fs) (lays_then first (lays_then others feed))

-- the last field laid
pub lays_last : {dst after : List ℕ} {at next : ℕ} (f : List ℕ) → Lays dst at (32 ∷ f) after next → Lays dst at (spaced (f ∷ [])) after next
unfolding spaced
lays_last f lays = rw (append-nil f) lays

-- the line of a refused script, by the refusal's number
pub lays_refused : {dst after : List ℕ} {at next n : ℕ} (r : Refusal) → n ≡ number_of r
    → Lays dst at (line (script_word ∷ refused_word ∷ decimal n ∷ [])) after next → Lays dst at (script_refused_line r) after next
unfolding script_refused_line
lays_refused {dst} {after} {at} {next} r is lays = subst (λ (m : ℕ). Lays dst at (line (script_word ∷ refused_word ∷ decimal m ∷ [])) after next) is lays
