-- Demand 2: the density reported is the greatest of any set that holds the constraint, and the set reported has it; none is said exactly when
-- no set that holds a constraint has density above K; a sheet that is accepted bounds every set that holds the constraint. Said of the result
-- of a call and of the bytes of the lent buffer before and after it. Assumes nothing.
use mathlib.Core.Path.{◌≡◌, sym, ◌∙◌, subst, refl}
use mathlib.Core.Logic.{◌↔◌, ◌⊎◌, inl, inr}
use mathlib.Core.List.{List, ◌++◌}
use Prim.Native.Nat.{ℕ, ◌<◌, ◌≤◌}
use native.Mathlib.Omega.{arith}
use lib.IntN.{ℤ}
use lib.ListN.{length, drop, length-append}
use lib.Signed.{clash_ℤ}
use Rattle.density.specs.Net.{Side}
use Rattle.density.specs.Top.{Bound, Top, AnswerSet, NoSetAbove, LowestAbove}
use Rattle.density.specs.Sheet.{claim}
use Rattle.density.proofs.Shares.{sheet_bounds, sound_same, claim_same}
use Rattle.density.proofs.OneAnswer.{tops_agree, none_no_set}
use Rattle.drawing.specs.Entry.{Drawing}
use Rattle.records.specs.Read.{accepted, read}
use Rattle.net.specs.Weighed.{weighed, Within}
use Rattle.counter.specs.Block.{block_size, number_in, density_in, set_in}
use Rattle.checker.specs.Sheet.{sheet_size, sheet_in}
use Rattle.counter.specs.Fault.{room_fault, number_fault}
use Rattle.counter.specs.Outcome.{says, Answers, Replies, asked_fault}
use Rattle.counter.specs.Question.{one_constraint, any_dense, sheet_for, check, LowestBlock, NoBlock, SheetOf, Shows}
use Rattle.net.proofs.Within.{accepted_within}
use Rattle.counter.proofs.Faults.{room_there, number_there, number_names, number_low, range_low}
use Rattle.counter.proofs.Outcomes.{unrefused, faultless_answered, code_is, buffer_is}
use Rattle.counter.proofs.ReadBack.{sheet_front, block_says}

-- no fault where c names a constraint and there is room
no_fault : (m c room need : ℕ) → c < m → need ≤ room → number_fault m c (room_fault room need) ≡ 0
no_fault m c room need l h = number_there m c (room_fault room need) l ∙ room_there room need h

module _ (s : List ℕ) (d : Drawing) (is : read s ≡ accepted d) where
  within : Within d
  within = accepted_within s d is

  abbrev m : ℕ
  m = length d.constraints

  -- one constraint: the block says c, its top density and its answer set
  pub one_constraint_says : (c : ℕ) {before after : List ℕ} → Answers (one_constraint c (length before)) (read s) 0 before after
      → (number_in after ≡ c) × AnswerSet (weighed d) c (density_in after) (set_in after)
  one_constraint_says c {before} {after} a =
      let x = unrefused (one_constraint c (length before)) a d is (inl refl) (number_low m c (length before) block_size) in
      block_says d within c (number_names m c (room_fault (length before) block_size) x.0) a.outcome x.1 before after a.after_is

  -- any dense: where it is answered, the block is that of the lowest-numbered constraint whose top density is above K
  pub any_dense_says : (k : ℤ) {before after : List ℕ} → Answers (any_dense k (length before)) (read s) 0 before after
      → LowestAbove (weighed d) k (number_in after) × AnswerSet (weighed d) (number_in after) (density_in after) (set_in after)
  unfolding weighed
  any_dense_says k {before} {after} a = go (unrefused (any_dense k (length before)) a d is (inl refl) (range_low k (length before) block_size)).1
    where
      Says : ℕ → Type 0
      Says c = LowestAbove (weighed d) k c × AnswerSet (weighed d) c (density_in after) (set_in after)

      go : LowestBlock d k a.outcome ⊎ NoBlock d k a.outcome → Says (number_in after)
      go (inl b) =
          let x = block_says d within b.constraint b.lowest.is a.outcome b.block_of before after a.after_is in
          subst Says (sym x.0) (b.lowest, x.1)
      go (inr b) = absurd (omega (arith, a.result_is, code_is b.is))

  -- any dense: none exactly when no set that holds a constraint has density above K
  pub none_exactly : (k : ℤ) {r : ℕ} {before after : List ℕ} → Answers (any_dense k (length before)) (read s) r before after → (r ≡ 0) ⊎ (32 ≤ r)
      → (r ≡ 32) ↔ NoSetAbove (weighed d) k
  none_exactly k {r} {before} a unref = go (unrefused (any_dense k (length before)) a d is unref (range_low k (length before) block_size)).1
    where
      go : LowestBlock d k a.outcome ⊎ NoBlock d k a.outcome → (r ≡ 32) ↔ NoSetAbove (weighed d) k
      go (inl b) = (
        λ e. absurd (omega (arith, a.result_is, code_is b.block_of.is)),
        λ h.
            clash_ℤ b.lowest.above
            ((none_no_set (weighed d) within.proper k).1 h b.constraint b.lowest.top b.lowest.is b.lowest.top_is),
      )
      go (inr b) =
          (λ _. (none_no_set (weighed d) within.proper k).0 b.none, λ _. a.result_is ∙ code_is b.is)

  -- check: a sheet that is accepted for a claim bounds every set that holds the constraint
  pub accepted_bounds : (c : ℕ) (b : List ℕ) (z : ℤ) → Replies (check c b z) (read s) 0 → Bound (weighed d) c z
  unfolding weighed
  accepted_bounds c b z a = go x.1
    where
      x : (asked_fault (check c b z) d ≡ 0) × ((Shows d c b z × (a.outcome ≡ says 0)) ⊎ ((Shows d c b z → ⊥) × (a.outcome ≡ says 33)))
      x = unrefused (check c b z) a d is (inl refl) (number_low m c (length b) (sheet_size m))

      go : (Shows d c b z × (a.outcome ≡ says 0)) ⊎ ((Shows d c b z → ⊥) × (a.outcome ≡ says 33)) → Bound (weighed d) c z
      go (inl (y, e)) =
          subst (λ (t : ℤ). Bound (weighed d) c t) y.claims
          (sheet_bounds (weighed d) within.proper c (number_names m c (room_fault (length b) (sheet_size m)) x.0) (sheet_in b) y.sound)
      go (inr (y, e)) = absurd (omega (arith, a.result_is, code_is e))

  -- the sheet question's own sheet, in the buffer as it is left, is accepted by the check with the top density as its claim
  pub own_sheet_accepted : (c : ℕ) {before after : List ℕ} → Answers (sheet_for c (length before)) (read s) 0 before after
      → (z : ℤ) → Top (weighed d) c z → {r : ℕ} → Replies (check c after z) (read s) r → r ≡ 0
  unfolding weighed
  own_sheet_accepted c {before} {after} a z top {r} checked = go (faultless_answered (check c after z) checked d is fine)
    where
      x : (asked_fault (sheet_for c (length before)) d ≡ 0) × SheetOf d c a.outcome
      x = unrefused (sheet_for c (length before)) a d is (inl refl) (number_low m c (length before) (sheet_size m))

      own : List ℕ
      own = x.1.bytes

      behind : List ℕ
      behind = drop (length own) before

      after_is : after ≡ own ++ behind
      after_is = a.after_is ∙ buffer_is before x.1.is

      long : sheet_size m ≤ length after
      long = subst (λ (l : List ℕ). sheet_size m ≤ length l) (sym after_is) (omega (arith, length-append own behind, x.1.long))

      fine : asked_fault (check c after z) d ≡ 0
      fine = no_fault m c (length after) (sheet_size m) (number_names m c (room_fault (length before) (sheet_size m)) x.0) long

      same : (i : Side) (e : ℕ) → e < m → sheet_in own i e ≡ sheet_in after i e
      same i e l = subst (λ (b : List ℕ). sheet_in own i e ≡ sheet_in b i e) (sym after_is) (sheet_front m own behind x.1.long i e l)

      shows : Shows d c after z
      shows =
          record {
            sound = sound_same (weighed d) (sheet_in own) (sheet_in after) same c x.1.sound;
            claims =
                sym (claim_same (weighed d) (sheet_in own) (sheet_in after) same c)
                ∙ tops_agree (weighed d) c (claim (weighed d) c (sheet_in own)) z x.1.top top;
          }

      go : (Shows d c after z × (checked.outcome ≡ says 0)) ⊎ ((Shows d c after z → ⊥) × (checked.outcome ≡ says 33)) → r ≡ 0
      go (inl (y, e)) = checked.result_is ∙ code_is e
      go (inr (y, e)) = absurd (y shows)
