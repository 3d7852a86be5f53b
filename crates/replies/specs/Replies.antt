-- "each public function's statement determines its reply": what that says of a contract, and that it holds where the contract gives the reply.
use Rattle.std.specs.Prelude.{◌≡◌, refl}
use Rattle.std.proofs.Common.{sym, ◌∙◌}

-- two replies that a contract allows, at the same arguments, are equal
pub record Determined {ℓ} {K : Type ℓ} {A R S : K → Type 0} (Post : (κs : K) → A κs → R κs → S κs → Type 0) : Type ℓ where
  pub same : (κs : K) (a : A κs) (r₁ r₂ : R κs) (s₁ s₂ : S κs) → Post κs a r₁ s₁ → Post κs a r₂ s₂ → r₁ ≡ r₂

-- the contract `r ≡ f args`
pub by_value {ℓ} : {K : Type ℓ} {A R S : K → Type 0} {f : (κs : K) → A κs → R κs} → Determined {R = R} {S = S} (λ κs a r s. r ≡ f κs a)
by_value = record { same = λ κs a r₁ r₂ s₁ s₂ p q. p ∙ sym q }

-- the same where a buffer is lent: the replies are equal, and so is what the buffer holds at the end
pub record DeterminedWith {ℓ} {K : Type ℓ} {A R S : K → Type 0} {F : Type 0} (Post : (κs : K) → A κs → R κs → S κs → Type 0)
    (final : (κs : K) → S κs → F) : Type ℓ where
  pub same : (κs : K) (a : A κs) (r₁ r₂ : R κs) (s₁ s₂ : S κs) → Post κs a r₁ s₁ → Post κs a r₂ s₂ → (r₁ ≡ r₂) × (final κs s₁ ≡ final κs s₂)

-- the contract `r ≡ f args`, and of the buffer `final ≡ g args`
pub by_both {ℓ} : {K : Type ℓ} {A R S : K → Type 0} {F : Type 0} {f : (κs : K) → A κs → R κs} {final : (κs : K) → S κs → F} {g : (κs : K) → A κs → F}
    → DeterminedWith {R = R} {S = S} (λ κs a r s. (r ≡ f κs a) × (final κs s ≡ g κs a)) final
by_both = record { same = λ κs a r₁ r₂ s₁ s₂ p q. (p.0 ∙ sym q.0, p.1 ∙ sym q.1) }

-- the same where there is no reply but the buffer
pub by_final {ℓ} : {K : Type ℓ} {A S : K → Type 0} {F : Type 0} {final : (κs : K) → S κs → F} {g : (κs : K) → A κs → F}
    → DeterminedWith {R = λ κs. Unit {0}} {S = S} (λ κs a r s. final κs s ≡ g κs a) final
by_final = record { same = λ κs a r₁ r₂ s₁ s₂ p q. (refl, p ∙ sym q) }

-- the same where the reply is a part of a lent slice: both parts hold the same text and stand at the same place, and so is what the buffer holds at the end
pub record DeterminedPart {ℓ} {K : Type ℓ} {A R S : K → Type 0} {T B F : Type 0} (Post : (κs : K) → A κs → R κs → S κs → Type 0)
    (text : (κs : K) → R κs → T) (block offset : (κs : K) → R κs → B) (final : (κs : K) → S κs → F) : Type ℓ where
  pub same : (κs : K) (a : A κs) (r₁ r₂ : R κs) (s₁ s₂ : S κs) → Post κs a r₁ s₁ → Post κs a r₂ s₂
      → (text κs r₁ ≡ text κs r₂) × (((block κs r₁ ≡ block κs r₂) × (offset κs r₁ ≡ offset κs r₂)) × (final κs s₁ ≡ final κs s₂))

-- the contract that says what the part holds and where it stands
pub by_place {ℓ} : {K : Type ℓ} {A R S : K → Type 0} {T B F : Type 0} {text : (κs : K) → R κs → T} {block offset : (κs : K) → R κs → B} {final : (κs : K) → S κs → F}
    {f : (κs : K) → A κs → T} {g h : (κs : K) → A κs → B} {l : (κs : K) → A κs → F}
    → DeterminedPart {R = R} {S = S} (λ κs a r s. (text κs r ≡ f κs a) × (((block κs r ≡ g κs a) × (offset κs r ≡ h κs a)) × (final κs s ≡ l κs a))) text block offset final
by_place =
    record {
      same = λ κs a r₁ r₂ s₁ s₂ p q.
          (p.0 ∙ sym q.0, ((p.1.0.0 ∙ sym q.1.0.0, p.1.0.1 ∙ sym q.1.0.1), p.1.1 ∙ sym q.1.1));
    }

-- every reply that a contract allows, seen so, is this one
pub record Answers {ℓ} {K : Type ℓ} {A R S : K → Type 0} {T : Type 0} (Post : (κs : K) → A κs → R κs → S κs → Type 0)
    (seen : (κs : K) → R κs → S κs → T) (answer : (κs : K) → A κs → T) : Type ℓ where
  pub is : (κs : K) (a : A κs) (r : R κs) (s : S κs) → Post κs a r s → seen κs r s ≡ answer κs a
