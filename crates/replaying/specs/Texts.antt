-- The texts of labels, kept 32 bytes to an entry.
use Rattle.std.specs.Prelude.{List, [], ◌≡◌, ℕ, zero, suc, ◌+◌, ◌-◌, ◌/◌, ◌%◌, ◌<◌, ◌≤◌, min, length, get_or, set, take, drop, replicate}
use Rattle.std.proofs.Common.{sym, ◌∙◌, ap, subst, add-one, arith, length-set, length-take, length-drop, ext_get_or, get_or-set_same, get_or-set_other, get_or-take, get_or-drop}
use Rattle.std.proofs.Math.Decide.{ℕ_discrete, dec_lt}
use Rattle.std.proofs.Math.Seq.{paste}
use Rattle.std.proofs.lemmas.List.{length-replicate}
use Rattle.std.proofs.lemmas.List.Edits.{paste_none, paste_more}
use Rattle.std.proofs.Math.ListN.{get_or-eq_default}
use Rattle.bits.specs.Bits.{list_to}
use Rattle.bits.specs.Lists.{length_list, get_d_list}
use Rattle.bits.specs.Filled.{list_is, get_d_padded}
use Rattle.table.specs.Limits.{limits}
use Rattle.parts.specs.Within.{label_text_short}
use Rattle.stream.specs.Replay.{label_text}
use Rattle.replaying.specs.Moving.{text_at, text_kept, texts_of, sizes_of}

-- n places, of which the first m hold f and the others zeros
pub record FilledTo (n : ℕ) (f : ℕ → ℕ) (m : ℕ) (l : List ℕ) : Type 0 where
  pub long : length l ≡ n
  pub filled : (i : ℕ) → i < m → get_or l i 0 ≡ f i
  pub zeros : (i : ℕ) → m ≤ i → get_or l i 0 ≡ 0

-- zeros alone
pub filled_none : (n : ℕ) (f : ℕ → ℕ) → FilledTo n f 0 (replicate n 0)
filled_none n f = record { long = length-replicate n 0; filled = λ i h. omega arith; zeros = λ i h. get_d_padded [] n i 0 }

-- the same number of places
filled_at : {n m : ℕ} (next : ℕ) {f : ℕ → ℕ} {l : List ℕ} → FilledTo n f m l → m ≡ next → FilledTo n f next l
filled_at next so same = rw same at so

-- one place more
pub filled_next : {n m a : ℕ} {f : ℕ → ℕ} {l : List ℕ} → FilledTo n f m l → m < n → a ≡ f m → FilledTo n f (m + 1) (set l m a)
filled_next {n} {m} {a} {f} {l} so there is =
    record {
      long = length-set l m a ∙ so.long;
      filled = λ i h. elim (ℕ_discrete i m) [
        | yes e ↦ rw e (get_or-set_same l m a 0 (omega arith) ∙ is)
        | no e ↦ get_or-set_other l m i a 0 e ∙ so.filled i (omega arith)
      ];
      zeros = λ i h. get_or-set_other l m i a 0 (λ e. omega arith) ∙ so.zeros i (omega arith);
    }

-- places where f is zero need no filling
pub filled_zeros : {n m : ℕ} (next : ℕ) {f : ℕ → ℕ} {l : List ℕ} → FilledTo n f m l → m ≤ next → ((i : ℕ) → m ≤ i → i < next → f i ≡ 0) → FilledTo n f next l
filled_zeros {n} {m} next so later none =
    record {
      long = so.long;
      filled = λ i h. elim (dec_lt i m) [ yes below ↦ so.filled i below | no past ↦ so.zeros i (omega arith) ∙ sym (none i (omega arith) h) ];
      zeros = λ i h. so.zeros i (omega arith);
    }

-- all of them
pub filled_all : {n : ℕ} {f : ℕ → ℕ} {l : List ℕ} → FilledTo n f n l → l ≡ list_to n f
filled_all {n} {f} {l} so = list_is n f 0 l so.long so.filled

-- what stands at a byte of the texts
abbrev pub text_byte : List ℕ → ℕ → ℕ
text_byte script i = get_or (label_text script (i / limits.label)) (i % limits.label) 0

-- the texts are filled as far as that
abbrev pub TextsTo : List ℕ → ℕ → List ℕ → Type 0
TextsTo script = FilledTo 4096 (text_byte script)

-- byte i of entry k's text
text_byte_lem : (script : List ℕ) (k i : ℕ) → i < limits.label → get_or (label_text script k) i 0 ≡ text_byte script (text_at k + i)
text_byte_lem script k i there =
    let entry : k ≡ (text_at k + i) / limits.label = omega arith in
    let place : i ≡ (text_at k + i) % limits.label = omega arith in
    λ t. get_or (label_text script (entry t)) (place t) 0

-- the first i bytes of a text, which is entry k's, are put where they are kept
pub record Putting (script : List ℕ) (k : ℕ) (text texts : List ℕ) (i : ℕ) : Type 0 where
  pub slot : k < limits.slots
  pub is : text ≡ label_text script k
  pub short : length text ≤ limits.label
  pub within : i ≤ length text
  pub put : TextsTo script (text_at k + i) texts

-- none yet
pub putting_none : {script text texts : List ℕ} {k : ℕ} → k < limits.slots → TextsTo script (text_at k) texts → text ≡ label_text script k → Putting script k text texts 0
putting_none {script} {text} {texts} {k} slot so is =
    record { slot = slot; is = is; short = omega (arith, ap length is, label_text_short script k); within = omega arith; put = filled_at (text_at k + 0) so (omega arith) }

-- one more
pub putting_next : {script text texts : List ℕ} {k i : ℕ} → Putting script k text texts i → i < length text
    → Putting script k text (set texts (text_at k + i) (get_or text i 0)) (i + 1)
putting_next {script} {text} {texts} {k} {i} so there =
    record {
      slot = so.slot;
      is = so.is;
      short = so.short;
      within = omega arith;
      put =
          filled_at (text_at k + (i + 1))
          (filled_next so.put (omega arith) (ap (λ (t : List ℕ). get_or t i 0) so.is ∙ text_byte_lem script k i (omega arith)))
          (omega arith);
    }

-- as many as are copied at once
putting_to : {script text texts : List ℕ} {k : ℕ} (i : ℕ) → Putting script k text texts 0 → i ≤ length text → Putting script k text (paste texts (text_at k) text i) i
putting_to {script} {text} {texts} {k} zero none within = subst (λ (l : List ℕ). Putting script k text l 0) (paste_none texts (text_at k) text) none
putting_to {script} {text} {texts} {k} (suc i) none within =
    let more = paste_more texts (text_at k) text i 0 (omega (arith, none.slot, none.short, none.put.long)) (omega arith) in
    rw (sym (add-one i)) (subst (λ (l : List ℕ). Putting script k text l (i + 1)) more (putting_next (putting_to i none (omega arith)) (omega arith)))

-- all of them: what is behind them is zeros
pub putting_all : {script text texts : List ℕ} {k i : ℕ} → Putting script k text texts i → length text ≤ i → TextsTo script (text_at (k + 1)) texts
putting_all {script} {text} {texts} {k} {i} so all =
    filled_zeros (text_at (k + 1)) so.put (omega arith) (λ j h₁ h₂.
    ap (λ (entry : ℕ). get_or (label_text script entry) (j % limits.label) 0) {x = j / limits.label} {y = k} (omega arith)
    ∙ get_or-eq_default (label_text script k) 0 {n = j % limits.label} (omega (arith, ap length so.is)))

-- a text copied to where it is kept
pub text_put : {text texts after : List ℕ} {k : ℕ} (script : List ℕ) → k < limits.slots → TextsTo script (text_at k) texts → text ≡ label_text script k
    → after ≡ paste texts (text_at k) text (length text) → TextsTo script (text_at (k + 1)) after
text_put {text} {texts} {after} {k} script slot so is put =
    subst (TextsTo script (text_at (k + 1))) (sym put) (putting_all (putting_to (length text) (putting_none slot so is) (omega arith)) (omega arith))

-- the texts and sizes of the first k entries are there
pub record KeptTo (script texts sizes : List ℕ) (k : ℕ) : Type 0 where
  pub within : k ≤ limits.slots
  pub put : TextsTo script (text_at k) texts
  pub sized : FilledTo limits.slots (λ j. length (label_text script j)) k sizes

-- of none yet
pub kept_none : (script : List ℕ) → KeptTo script (replicate 4096 0) (replicate limits.slots 0) 0
kept_none script = record { within = omega arith; put = filled_none _ _; sized = filled_none _ _ }

-- of one more
pub kept_next : {script texts sizes : List ℕ} {k size : ℕ} (after : List ℕ) → KeptTo script texts sizes k → k < limits.slots
    → TextsTo script (text_at (k + 1)) after × (size ≡ length (label_text script k)) → KeptTo script after (set sizes k size) (k + 1)
kept_next after so slot more = record { within = omega arith; put = more.0; sized = filled_next so.sized slot more.1 }

-- of all
pub kept_all : {script texts sizes : List ℕ} {k : ℕ} → KeptTo script texts sizes k → limits.slots ≤ k → (texts ≡ texts_of script) × (sizes ≡ sizes_of script)
kept_all so all = (filled_all (filled_at 4096 so.put (omega arith)), filled_all (filled_at limits.slots so.sized (omega arith)))

-- a text that is kept is the label's
pub text_kept_lem : (script : List ℕ) (k : ℕ) → k < limits.slots → text_kept (texts_of script) (sizes_of script) k ≡ label_text script k
text_kept_lem script k slot =
    let short = label_text_short script k in
    let size = get_or (sizes_of script) k 0 in
    let from = drop (text_at k) (texts_of script) in
    let sized : size ≡ length (label_text script k) = get_d_list limits.slots _ k 0 slot in
    let long = length_list 4096 (text_byte script) in
    ext_get_or 0 (take size from) (label_text script k) (omega (arith, length-take size from, length-drop (text_at k) (texts_of script))) (λ i h.
    get_or-take size from i 0 (omega (arith, length-take size from))
    ∙ get_or-drop (text_at k) (texts_of script) i 0
    ∙ get_d_list 4096 (text_byte script) (text_at k + i) 0 (omega (arith, length-take size from))
    ∙ sym (text_byte_lem script k i (omega (arith, length-take size from))))

-- and none is longer than 32 bytes
pub sizes_short : (script : List ℕ) (k : ℕ) → get_or (sizes_of script) k 0 ≤ limits.label
sizes_short script k =
    let sizes : ℕ → ℕ = λ i. length (label_text script i) in
    elim (dec_lt k limits.slots) [
      | yes slot ↦ rw (get_d_list limits.slots sizes k 0 slot) (label_text_short script k)
      | no past ↦ omega (arith, get_or-eq_default (sizes_of script) 0 {n = k} (omega (arith, length_list limits.slots sizes)))
    ]

-- a part is the same where as many bytes of it are there
pub same_part : (texts : List ℕ) (from n size : ℕ) → min n (length texts - from) ≡ min size (length texts - from) → take n (drop from texts) ≡ take size (drop from texts)
same_part texts from n size same =
    let left = drop from texts in
    let there = length-drop from texts in
    let taken = length-take n left in
    ext_get_or 0 (take n left) (take size left) (omega (arith, length-take size left)) (λ i h.
    get_or-take n left i 0 (omega arith) ∙ sym (get_or-take size left i 0 (omega arith)))
