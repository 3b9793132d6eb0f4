-- The arrays made of an accepted drawing hold its net, which is within the limits. Assumes nothing.
use mathlib.Core.Path.{◌≡◌, sym, ◌∙◌, ap, subst}
use mathlib.Core.Logic.{⊎_elim}
use mathlib.Core.List.{List}
use Prim.Native.Nat.{ℕ, ◌+◌, ◌*◌, ◌/◌, ◌%◌, ◌≤◌, ◌<◌}
use native.Mathlib.Omega.{arith}
use borrow.Author.Tests.{le-ltb}
use lib.ListN.{length, get_or-eq_default}
use Rattle.density.specs.Net.{Proper, Side, first, second}
use Rattle.drawing.specs.Choice.{pick}
use Rattle.drawing.specs.Entry.{Drawing, constraint_at, no_constraint}
use Rattle.drawing.specs.Weight.{object_weight, constraint_weight}
use Rattle.drawing.specs.WeightArrays.{WeightsIn}
use Rattle.std.proofs.lemmas.Bool.{cases_lt, cases_eq}
use Rattle.drawing.proofs.WeightRange.{none_weighs_nothing}
use Rattle.records.specs.Read.{accepted, read}
use Rattle.arrays.specs.At.{at}
use Rattle.arrays.specs.declared.NetArrays.{NetArrays}
use Rattle.arrays.specs.Arrays.{net_in, place, Fair}
use Rattle.net.specs.Weighed.{end_of, weight_of, weighed, Within}
use Rattle.net.specs.NetFor.{EndsOf, HeldFor}
use Rattle.net.proofs.Within.{weight_there, accepted_within}

module _ (d : Drawing) {ends os cs : List ℕ} (e : EndsOf d ends) (w : WeightsIn d os cs) where
  -- the weights, the ends and what constraints take, also where there is nothing
  weights_are : (v : ℕ) → weight_of d v ≡ at os v
  unfolding pick
  weights_are v =
      ⊎_elim
      (λ l. weight_there d v l ∙ sym (w.object_weights.values v l))
      (λ g. ap (λ b. pick b (object_weight d v) 0) (le-ltb v (length d.objects) g) ∙ sym (w.object_weights.zeros v g))
      (cases_lt v (length d.objects))

  none_past : (c : ℕ) → length d.constraints ≤ c → constraint_at d c ≡ no_constraint
  none_past c g = get_or-eq_default d.constraints no_constraint {n = c} g

  ends_are : (i : Side) (c : ℕ) → end_of d i c ≡ at ends (place i c)
  ends_are i c = ⊎_elim (λ l. sym (e.are i c l)) (past i) (cases_lt c (length d.constraints))
    where
      past : (i : Side) → length d.constraints ≤ c → end_of d i c ≡ at ends (place i c)
      past first g = ap (λ x. x.first) (none_past c g) ∙ sym (e.past (2 * c) (omega arith))
      past second g = ap (λ x. x.second) (none_past c g) ∙ sym (e.past (2 * c + 1) (omega arith))

  takes_are : (c : ℕ) → constraint_weight d c ≡ at cs c
  takes_are c =
      ⊎_elim
      (λ l. sym (w.constraint_weights.values c l))
      (λ g. none_weighs_nothing d c (none_past c g) ∙ sym (w.constraint_weights.zeros c g))
      (cases_lt c (length d.constraints))

  weighed_is : weighed d ≡ net_in (length d.objects) (length d.constraints) ends os cs
  unfolding weighed
  weighed_is = λ i.
      record {
        objects = length d.objects;
        constraints = length d.constraints;
        weight = λ v. weights_are v i;
        end = λ s c. ends_are s c i;
        takes = λ c. takes_are c i;
      }

-- what was read of the bytes: the net can be counted, and is fair
module _ (s : List ℕ) (d : Drawing) (is : accepted d ≡ read s) {ends os cs : List ℕ} (e : EndsOf d ends) (w : WeightsIn d os cs) where
  within : Within d
  within = accepted_within s d (sym is)

  proper : Proper (net_in (length d.objects) (length d.constraints) ends os cs)
  proper = subst Proper (weighed_is d e w) within.proper

  -- a place is the first or the second of its constraint
  named : (i : ℕ) → i < 2 * length d.constraints → at ends i < length d.objects
  named i h = ⊎_elim (λ q. there first (omega arith)) (λ q. there second (omega arith)) (cases_eq (i % 2) 0)
    where
      there : (t : Side) → place t (i / 2) ≡ i → at ends i < length d.objects
      there t q = subst (λ (k : ℕ). at ends k < length d.objects) q (proper.named t (i / 2) (omega arith))

  fair_so : Fair (length d.objects) (length d.constraints) ends os cs
  fair_so = record {
    few_objects = within.few_objects;
    few_constraints = within.few_constraints;
    named = named;
    apart = proper.apart;
    light_objects = λ v h. rw (sym (weights_are d e w v)) (within.light_objects v h);
    light_constraints = λ c h. rw (sym (takes_are d e w c)) (within.light_constraints c h);
  }

  module _ {n m : ℕ} (objects : n ≡ length d.objects) (constraints : m ≡ length d.constraints) where
    pub fair : Fair n m ends os cs
    fair = rw (objects, constraints) fair_so

    -- the arrays stand for it
    pub held : {a : NetArrays} → a.objects ≡ n → a.constraints ≡ m → a.ends ≡ ends → a.weights ≡ os → a.takes ≡ cs → HeldFor (read s) a
    unfolding weighed
    held {a} ns ms by_place weights takes =
        record {
          drawing = d;
          reading = sym is;
          net_is = weighed_is d e w ∙ cc;
          countable = record { heavy = λ c h. rw (takes, sym (takes_are d e w c)) (within.heavy.some_weight c (omega arith)) };
        }
