-- The ends of the constraints, stored one constraint after another. Assumes nothing.
use Rattle.std.proofs.Common.{◌≡◌, ℕ, ◌+◌, ◌*◌, ◌<◌, List, set, replicate, ap, refl, ◌≢◌, arith, ◌∙◌}
use Rattle.std.proofs.lemmas.List.{length-replicate}
use Rattle.std.proofs.Math.ListN.{length-set}
use borrow.Author.Count.{below_more}
use Rattle.limits.specs.Limits.{most_constraints, most_ends}
use Rattle.density.specs.Net.{Side, first, second}
use Rattle.drawing.specs.declared.Constraint.{Constraint}
use Rattle.drawing.specs.Entry.{Drawing, constraint_at}
use Rattle.arrays.specs.At.{at}
use Rattle.arrays.specs.Arrays.{place}
use Rattle.arrays.proofs.Stores.{at_set_here, at_set_off, at_zeros}
use Rattle.net.specs.Weighed.{end_of}
use Rattle.net.specs.NetFor.{EndsUpTo}

-- the array with both ends of constraint e
abbrev pub with_ends : List ℕ → ℕ → Constraint → List ℕ
with_ends ends e c = set (set ends (2 * e) c.first) (2 * e + 1) c.second

-- none yet
pub ends_none : (d : Drawing) → EndsUpTo d 0 (replicate most_ends 0)
ends_none d = record {
  long = length-replicate {A = ℕ} most_ends 0;
  are = λ i e h. absurd (omega arith);
  past = λ k h. at_zeros most_ends k;
}

-- one constraint more
pub ends_more : (d : Drawing) (e : ℕ) (ends : List ℕ) (c : Constraint) → EndsUpTo d e ends → e < most_constraints → c ≡ constraint_at d e
    → EndsUpTo d (e + 1) (with_ends ends e c)
ends_more d e ends c so limit is =
    record {
      long = length-set (set ends (2 * e) c.first) (2 * e + 1) c.second ∙ length-set ends (2 * e) c.first ∙ so.long;
      are = λ i. below_more (λ f. at (with_ends ends e c) (place i f) ≡ end_of d i f) e (λ f h. before i f h) (here i);
      past = λ k h. others k (λ q. omega arith) (λ q. omega arith) ∙ so.past k (omega arith);
    }
  where
    others : (k : ℕ) → k ≢ 2 * e → k ≢ 2 * e + 1 → at (with_ends ends e c) k ≡ at ends k
    others k p q = grind (arith, at_set_off)

    before : (i : Side) (f : ℕ) → f < e → at (with_ends ends e c) (place i f) ≡ end_of d i f
    before first f h = others (2 * f) (λ q. omega arith) (λ q. omega arith) ∙ so.are first f h
    before second f h = others (2 * f + 1) (λ q. omega arith) (λ q. omega arith) ∙ so.are second f h

    here : (i : Side) → at (with_ends ends e c) (place i e) ≡ end_of d i e
    here first =
        at_set_off (set ends (2 * e) c.first) (2 * e + 1) c.second (2 * e) (λ q. omega arith)
        ∙ at_set_here ends (2 * e) c.first (2 * e) (omega (arith, so.long)) refl
        ∙ ap (λ (x : Constraint). x.first) is
    here second =
        at_set_here (set ends (2 * e) c.first) (2 * e + 1) c.second (2 * e + 1) (omega (arith, length-set ends (2 * e) c.first, so.long)) refl
        ∙ ap (λ (x : Constraint). x.second) is
