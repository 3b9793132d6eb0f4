-- The list of a function's values: how long it is, and what stands at each number. Assumes nothing.
use mathlib.Core.Path.{◌≡◌, refl, sym, ap, ap₂, ◌∙◌}
use mathlib.Core.List.{List, [], ◌∷◌, ◌++◌, map}
use Prim.Native.Nat.{ℕ, zero, suc, ◌<◌}
use native.Mathlib.Numerals.{add-one}
use native.Mathlib.Omega.{arith}
use lib.ListN.{length, get_or}
use Rattle.std.specs.List.{range_with_len}
use Rattle.std.proofs.lemmas.List.FromFn.{length-map-range_with_len, get_or-map-range_with_len, map-range_with_len_more}
use Rattle.drawing.specs.Tabulated.{tabulated}

module _ {A : Type 0} where
  as_map : (k : ℕ) (f : ℕ → A) → tabulated k f ≡ map f (range_with_len 0 k)
  unfolding tabulated
  as_map zero f = refl
  as_map (suc k) f = ap (λ l. l ++ (f k ∷ [])) (as_map k f) ∙ sym (map-range_with_len_more f 0 k k (omega arith)) ∙ ap (λ n. map f (range_with_len 0 n)) (add-one k)

  pub length_tabulated : (k : ℕ) (f : ℕ → A) → length (tabulated k f) ≡ k
  length_tabulated k f = rw (as_map k f) (length-map-range_with_len f 0 k)

  pub get_or_tabulated : (k : ℕ) (f : ℕ → A) (d : A) (i : ℕ) → i < k → get_or (tabulated k f) i d ≡ f i
  get_or_tabulated k f d i h = rw (as_map k f) (get_or-map-range_with_len f 0 k i i d h (omega arith))

  pub tabulated_same : (k : ℕ) (f g : ℕ → A) → ((i : ℕ) → i < k → f i ≡ g i) → tabulated k f ≡ tabulated k g
  unfolding tabulated
  tabulated_same zero f g h = refl
  tabulated_same (suc k) f g h =
      ap₂ (λ (l : List A) (x : A). l ++ (x ∷ [])) (tabulated_same k f g (λ i l. h i (omega arith))) (h k (omega arith))
