-- Laws of the check of a sheet: what its tests come to. Assumes nothing.
use mathlib.Core.Path.{◌≡◌, sym, ◌∙◌, ap, ap₂, subst}
use mathlib.Core.Logic.{◌↔◌}
use mathlib.Core.Bool.{Bool, true, false, false≢true}
use mathlib.Core.List.{List}
use Prim.Native.Nat.{ℕ, ◌+◌, ◌*◌, ◌≤◌, ◌<◌}
use native.Mathlib.Omega.{arith}
use lib.IntN.{ℤ, sub_ℕ}
use Rattle.density.specs.Net.{Side, first, second}
use Rattle.density.specs.Sheet.{received, Sound, total, given, claim, ends_weigh}
use Rattle.density.proofs.Shares.{claim_is}
use Rattle.arrays.specs.At.{at}
use Rattle.arrays.specs.declared.NetArrays.{NetArrays}
use Rattle.arrays.specs.Held.{net_held}
use Rattle.checker.specs.declared.Tally.{Tally}
use Rattle.checker.specs.Sheet.{sheet_in}
use Rattle.checker.specs.Checked.{AddedUp, HasRoom, Bare, Checked}

module _ {a : NetArrays} {c : ℕ} {sheet : List ℕ} where
  refuted : {claimed : ℤ} → (Sound (net_held a) c (sheet_in sheet) → ⊥) → Checked a c sheet claimed false
  refuted un = record { sound = λ e. absurd (false≢true e); claims = λ e. absurd (false≢true e); else = λ _ s _. un s }

  -- every constraint fits, and they add up so
  module _ (is : c < a.constraints) {t : Tally} (added : AddedUp a sheet a.constraints t) where
    received_is : (v : ℕ) → v < a.objects → received (net_held a) (sheet_in sheet) v ≡ at t.load v
    unfolding received
    received_is v l = sym (added.load_is v (omega (arith, a.fair.few_objects)))

    first_is : received (net_held a) (sheet_in sheet) (at a.ends (2 * c)) ≡ at t.load (at a.ends (2 * c))
    first_is = received_is (at a.ends (2 * c)) (a.fair.named (2 * c) (omega arith))

    second_is : received (net_held a) (sheet_in sheet) (at a.ends (2 * c + 1)) ≡ at t.load (at a.ends (2 * c + 1))
    second_is = received_is (at a.ends (2 * c + 1)) (a.fair.named (2 * c + 1) (omega arith))

    pub crowded : {claimed : ℤ} {r : Bool} → r ≡ true ↔ HasRoom a t.load → r ≡ false → Checked a c sheet claimed false
    crowded h e = refuted (λ s. false≢true (sym e ∙ h.1 (λ v l. subst (λ (x : ℕ). x ≤ at a.weights v) (received_is v l) (s.room v l))))

    pub receiving : {claimed : ℤ} {r : Bool} → r ≡ true ↔ Bare a c t.load → r ≡ false → Checked a c sheet claimed false
    receiving h e = refuted (λ s. false≢true (sym e ∙ h.1 (record { first = sym first_is ∙ s.bare first; second = sym second_is ∙ s.bare second })))

    sound : HasRoom a t.load → Bare a c t.load → Sound (net_held a) c (sheet_in sheet)
    sound room nothing =
        record {
          fits = added.fits;
          room = λ v l. subst (λ (x : ℕ). x ≤ at a.weights v) (sym (received_is v l)) (room v l);
          bare = bare;
        }
      where
        bare : (i : Side) → received (net_held a) (sheet_in sheet) ((net_held a).end i c) ≡ 0
        bare first = first_is ∙ nothing.first
        bare second = second_is ∙ nothing.second

    claim_shown : {weigh : ℕ} → weigh ≡ ends_weigh (net_held a) c → claim (net_held a) c (sheet_in sheet) ≡ sub_ℕ t.total (t.given + weigh)
    unfolding total given
    claim_shown e =
        claim_is (net_held a) c (sheet_in sheet)
        ∙ ap₂ (λ (x y : ℕ). sub_ℕ x (y + ends_weigh (net_held a) c)) (sym added.total_is) (sym added.given_is)
        ∙ ap (λ (x : ℕ). sub_ℕ t.total (t.given + x)) (sym e)

    pub decided : {claimed z : ℤ} {weigh : ℕ} {r s u : Bool} → r ≡ true ↔ HasRoom a t.load → r ≡ true → s ≡ true ↔ Bare a c t.load → s ≡ true
        → weigh ≡ ends_weigh (net_held a) c → u ≡ true ↔ (sub_ℕ t.total (t.given + weigh) ≡ z) → z ≡ claimed → Checked a c sheet claimed u
    decided room r_is bare s_is weighs equals z_is =
        record {
          sound = λ _. sound (room.0 r_is) (bare.0 s_is);
          claims = λ e. claim_shown weighs ∙ equals.0 e ∙ z_is;
          else = λ e _ shown. false≢true (sym e ∙ equals.1 (sym (claim_shown weighs) ∙ shown ∙ sym z_is));
        }
