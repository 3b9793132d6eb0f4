-- What the shares claim for a constraint, as 32 bits compute it. Assumes nothing.
use mathlib.Core.Path.{◌≡◌, refl, sym, ap, subst, ◌∙◌}
use mathlib.Core.List.{List}
use Prim.Native.Nat.{ℕ, ◌+◌, ◌*◌, ◌<◌, ◌≤◌}
use native.Mathlib.Omega.{arith}
use mir.Syntax.{w32}
use mir.Val.{to_z, of_z}
use lib.IntN.{ℤ, pos, sub_ℕ, ◌-ℤ◌}
use lib.Signed.{◌≤ℤ◌}
use Rattle.std.proofs.lemmas.Int.{ints}
use Rattle.density.specs.Sheet as theory
use Rattle.density.specs.Sheet.{claim}
use Rattle.density.proofs.Integers.{eq_of_cross, le_of_cross, sub_up, sub_less}
use Rattle.density.proofs.Shares.{claim_is}
use Rattle.limits.specs.Limits.{most_weight, most_constraints}
use Rattle.arrays.specs.declared.NetArrays.{NetArrays}
use Rattle.arrays.specs.At.{at}
use Rattle.arrays.specs.Arrays.{net_in, shares_in, Fair}
use Rattle.arrays.specs.Held.{net_held}
use Rattle.settling.specs.Answer.{Remainder, Claimed}

-- a difference of small numbers, in 32 bits
difference_is : (above below : ℕ) → above < 65536 → below < 65536
    → to_z w32 (of_z w32 (to_z w32 above -ℤ to_z w32 below)) ≡ sub_ℕ above below
difference_is above below few light =
    let exact : to_z w32 (of_z w32 (to_z w32 above -ℤ to_z w32 below)) ≡ pos above -ℤ pos below = omega (arith, ints) in
    exact ∙ ap (λ (z : ℤ). z -ℤ pos below) (sym (sub_up above 0 above (omega arith))) ∙ sub_less above 0 below ∙ ap (sub_ℕ above) (omega arith)

-- one and two are the ends of c, above is the weight left, below that of the two ends
module _ {n m : ℕ} (c : ℕ) {ends weights takes : List ℕ} (fair : Fair n m ends weights takes) (shares : List ℕ) (is : c < m) {one two : ℕ}
    (both : (one ≡ at ends (2 * c)) × (two ≡ at ends (2 * c + 1))) {above : ℕ} (remains : Remainder m takes shares above)
    {below : ℕ} (weigh : below ≡ at weights one + at weights two) where
  one_light : at weights one ≤ most_weight
  one_light = fair.light_objects one (omega (arith, both.0, fair.named (2 * c) (omega (arith, is))))

  two_light : at weights two ≤ most_weight
  two_light = fair.light_objects two (omega (arith, both.1, fair.named (2 * c + 1) (omega (arith, is))))

  pub claim_above : claim (net_in n m ends weights takes) c (shares_in shares) ≡ sub_ℕ above below
  unfolding theory.total theory.given
  claim_above =
      let d = net_in n m ends weights takes in
      claim_is d c (shares_in shares)
      ∙ eq_of_cross (theory.total d) (theory.given d (shares_in shares) + theory.ends_weigh d c) above below
      (omega (arith, remains.is, weigh, ap (λ (x : ℕ). at weights x) both.0, ap (λ (x : ℕ). at weights x) both.1))

  pub not_below : sub_ℕ 0 (most_weight + most_weight) ≤ℤ sub_ℕ above below
  not_below = le_of_cross 0 (most_weight + most_weight) above below (omega (arith, weigh, one_light, two_light))

  pub not_above : sub_ℕ above below ≤ℤ pos (most_weight * most_constraints)
  not_above = le_of_cross above below (most_weight * most_constraints) 0 (omega (arith, remains.small, fair.few_constraints))

-- the same of a net, as the code has it
pub claimed_is : (c : ℕ) (net : NetArrays) (shares : List ℕ) → c < net.constraints → {above : ℕ} → Remainder net.constraints net.takes shares above
    → {below : ℕ} → below ≡ theory.ends_weigh (net_held net) c → Claimed c net shares (to_z w32 (of_z w32 (to_z w32 above -ℤ to_z w32 below)))
claimed_is c net shares is {above} remains {below} weigh =
    subst (λ (z : ℤ). Claimed c net shares z)
    (sym
    (difference_is above below (omega (arith, remains.small, net.fair.few_constraints))
    (omega (arith, weigh, one_light c net.fair shares is (refl, refl) remains weigh, two_light c net.fair shares is (refl, refl) remains weigh))))
    (record {
      is = claim_above c net.fair shares is (refl, refl) remains weigh;
      low = not_below c net.fair shares is (refl, refl) remains weigh;
      high = not_above c net.fair shares is (refl, refl) remains weigh;
    })
