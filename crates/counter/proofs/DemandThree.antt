-- Demand 3: one drawing, one answer. The set reported lies inside every other set that holds the ends and has the greatest density;
-- renumbering, reordering, exchanging ends and joining, in any sequence, made or undone, change nothing but the names. Said of the results
-- of calls and of the bytes of the lent buffers. Assumes nothing.
use mathlib.Core.Path.{◌≡◌, refl, sym, ◌∙◌, ap}
use mathlib.Core.Logic.{◌↔◌, ◌⊎◌, inl}
use mathlib.Core.List.{List}
use Prim.Native.Nat.{ℕ, ◌<◌, ◌≤◌}
use lib.IntN.{ℤ}
use lib.ListN.{length}
use Rattle.density.specs.Net.{Set, Inside, Alike}
use Rattle.density.specs.Density.{HasDense}
use Rattle.density.specs.Listing.{Listings, image}
use Rattle.density.specs.Top.{NoSetAbove, Reaches}
use Rattle.density.proofs.Listing.{answer_carries, dense_both}
use Rattle.density.proofs.OneAnswer.{answers_agree, no_set_none_dense}
use Rattle.drawing.specs.Entry.{Drawing}
use Rattle.records.specs.Read.{Reading, accepted, read}
use Rattle.net.specs.Weighed.{weighed, Within}
use Rattle.net.specs.Change.{Changes, Becomes, was}
use Rattle.counter.specs.Block.{block_size, density_in, set_in}
use Rattle.counter.specs.Outcome.{Answers}
use Rattle.counter.specs.Fault.{room_fault}
use Rattle.counter.specs.Question.{one_constraint, any_dense}
use Rattle.net.proofs.Within.{accepted_within}
use Rattle.net.proofs.Changes.{changes_listings, becomes_corresponds, was_matched}
use Rattle.counter.proofs.Faults.{number_names, number_low}
use Rattle.counter.proofs.Outcomes.{unrefused}
use Rattle.counter.proofs.DemandTwo.{one_constraint_says, none_exactly}

-- the set lies inside every other set that holds the constraint and is as dense
pub set_is_least : (s : List ℕ) (d : Drawing) → read s ≡ accepted d → (c : ℕ) {before after : List ℕ}
    → Answers (one_constraint c (length before)) (read s) 0 before after
    → (S : Set) → Reaches (weighed d) c (density_in after) S → Inside (weighed d) (set_in after) S
set_is_least s d is c a = (one_constraint_says s d is c a).1.least

-- where one constraint is answered, there is one of that number
asked_there : (d : Drawing) (c : ℕ) {x : Reading} {before after : List ℕ} → Answers (one_constraint c (length before)) x 0 before after
    → x ≡ accepted d → c < length d.constraints
asked_there d c {before = before} a is =
    number_names (length d.constraints) c (room_fault (length before) block_size)
    (unrefused (one_constraint c (length before)) a d is (inl refl) (number_low (length d.constraints) c (length before) block_size)).0

-- two accepted drawings that are a sequence of changes apart
module _ (s₁ s₂ : List ℕ) (d b : Drawing) (is₁ : read s₁ ≡ accepted d) (is₂ : read s₂ ≡ accepted b) (changes : Changes d b) where
  within₁ : Within d
  within₁ = accepted_within s₁ d is₁

  within₂ : Within b
  within₂ = accepted_within s₂ b is₂

  listings : Listings (weighed d) (weighed b)
  listings = changes_listings changes

  -- a constraint and what it becomes get the same density, and the same objects, renumbered
  pub same_answer : (c f : ℕ) → Becomes changes c f → {before₁ after₁ before₂ after₂ : List ℕ}
      → Answers (one_constraint c (length before₁)) (read s₁) 0 before₁ after₁
      → Answers (one_constraint f (length before₂)) (read s₂) 0 before₂ after₂
      → (density_in after₁ ≡ density_in after₂) × Alike (length b.objects) (λ v. set_in after₁ (was changes v)) (set_in after₂)
  unfolding weighed listings
  same_answer c f becomes {after₁ = after₁} {after₂ = after₂} a₁ a₂ =
      (both.0, λ v h. ap (set_in after₁) (sym (was_matched changes v)) ∙ both.1 v h)
    where
      both : (density_in after₁ ≡ density_in after₂) × Alike (length b.objects) (image listings (set_in after₁)) (set_in after₂)
      both =
          let there = asked_there d c a₁ is₁ in
          answers_agree (weighed b) f (density_in after₁) (density_in after₂) (image listings (set_in after₁)) (set_in after₂)
          (answer_carries (weighed d) (weighed b) within₁.proper within₂.proper listings c f there (asked_there b f a₂ is₂)
          (becomes_corresponds changes c f there becomes) (density_in after₁) (set_in after₁)
          (one_constraint_says s₁ d is₁ c a₁).1)
          (one_constraint_says s₂ b is₂ f a₂).1

  -- at each K both say none, or neither does
  pub none_both : (k : ℤ) {r₁ r₂ : ℕ} {before₁ after₁ before₂ after₂ : List ℕ}
      → Answers (any_dense k (length before₁)) (read s₁) r₁ before₁ after₁ → (r₁ ≡ 0) ⊎ (32 ≤ r₁)
      → Answers (any_dense k (length before₂)) (read s₂) r₂ before₂ after₂ → (r₂ ≡ 0) ⊎ (32 ≤ r₂) → (r₁ ≡ 32) ↔ (r₂ ≡ 32)
  none_both k {r₁} {r₂} a₁ u₁ a₂ u₂ = (
    λ e. there.1 ((no_set_none_dense (weighed b) within₂.proper k).1 (λ h. (no_set_none_dense (weighed d) within₁.proper k).0 (here.0 e) (dense.1 h))),
    λ e. here.1 ((no_set_none_dense (weighed d) within₁.proper k).1 (λ h. (no_set_none_dense (weighed b) within₂.proper k).0 (there.0 e) (dense.0 h))),
  )
    where
      here : (r₁ ≡ 32) ↔ NoSetAbove (weighed d) k
      here = none_exactly s₁ d is₁ k a₁ u₁

      there : (r₂ ≡ 32) ↔ NoSetAbove (weighed b) k
      there = none_exactly s₂ b is₂ k a₂ u₂

      dense : HasDense (weighed d) k ↔ HasDense (weighed b) k
      dense = dense_both (weighed d) (weighed b) within₁.proper within₂.proper within₁.heavy within₂.heavy listings k
