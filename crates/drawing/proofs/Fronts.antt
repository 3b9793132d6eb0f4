-- The front of an array: how long it is, and the blanks behind it. Assumes nothing.
use mathlib.Core.Path.{◌≡◌, sym, ◌∙◌, ap, ap₂}
use mathlib.Core.Logic.{⊎_elim}
use mathlib.Core.List.{List, [], ◌∷◌, ◌++◌}
use Prim.Native.Nat.{ℕ, suc, ◌+◌, ◌-◌, ◌≤◌, ◌<◌}
use native.Mathlib.Omega.{arith}
use lib.ListN.{length, take, set, replicate, get_or, get_or-append, get_or-replicate, get_or-eq_default}
use lib.Seq.{set-append_seam, get_or-append_right}
use Rattle.drawing.specs.Padded.{padded}
use Rattle.std.proofs.lemmas.List.{length-take-le, length-replicate, length-append, take_more_set, append_assoc, length-set}
use Rattle.std.proofs.lemmas.Bool.{cases_lt}

pub length_padded : {T : Type 0} (blank : T) (n : ℕ) (l : List T) → length l ≤ n → length (padded blank n l) ≡ n
length_padded blank n l few = omega (arith, few, length-append l (replicate (n - length l) blank), length-replicate (n - length l) blank)

-- one item more takes the place of the first blank
pub padded_more : {T : Type 0} (blank x : T) (n : ℕ) (l : List T) → length l < n
    → set (padded blank n l) (length l) x ≡ padded blank n (l ++ x ∷ [])
padded_more blank x n l few =
    let k : ℕ = n - (length l + 1) in
    let one : n - length l ≡ suc k = omega (arith, few) in
    let rest : n - length (l ++ x ∷ []) ≡ k = ap (λ m. n - m) (length-append l (x ∷ [])) in
    ap (λ m. set (l ++ replicate m blank) (length l) x) one
    ∙ set-append_seam l blank (replicate k blank) x
    ∙ sym (append_assoc l (x ∷ []) (replicate k blank))
    ∙ ap (λ m. (l ++ x ∷ []) ++ replicate m blank) (sym rest)

-- what stands anywhere among blanks, and past them
pub blank_there : {T : Type 0} (blank : T) (n i : ℕ) → get_or (replicate n blank) i blank ≡ blank
blank_there blank n i =
    ⊎_elim
    (λ (h : i < n). get_or-replicate n i blank blank h)
    (λ (h : n ≤ i). get_or-eq_default (replicate n blank) blank {n = i} (omega (arith, length-replicate n blank)))
    (cases_lt i n)

-- what stands at a number is the same with the blanks and without them
pub padded_get : {T : Type 0} (blank : T) (n : ℕ) (l : List T) (i : ℕ) → get_or (padded blank n l) i blank ≡ get_or l i blank
padded_get blank n l i =
    ⊎_elim
    (λ (h : i < length l). get_or-append l (replicate (n - length l) blank) blank i h)
    (λ (h : length l ≤ i).
    get_or-append_right l (replicate (n - length l) blank) i blank h
    ∙ blank_there blank (n - length l) (i - length l)
    ∙ sym (get_or-eq_default l blank {n = i} h))
    (cases_lt i (length l))

-- an array of blanks has nothing at its front
pub front_of_blanks : {T : Type 0} (blank given : T) (n : ℕ) → given ≡ blank
    → (0 ≤ n) × (length (replicate n given) ≡ n) × (padded blank n [] ≡ replicate n given)
front_of_blanks blank given n is = (omega arith, length-replicate n given, ap₂ replicate (omega arith) (sym is))

-- an item is pushed behind those at the front
pub front_pushed : {T : Type 0} (blank x : T) (n c : ℕ) (l : List T) → (c ≤ n) × (length l ≡ n) × (padded blank n (take c l) ≡ l)
    → length (take c l) < n → (c + 1 ≤ n) × (length (set l c x) ≡ n) × (padded blank n (take (c + 1) (set l c x)) ≡ set l c x)
front_pushed blank x n c l (most, long, is) few =
    let short : length (take c l) ≡ c = length-take-le c l (omega (arith, most, long)) in (
      omega (arith, few, short),
      length-set l c x ∙ long,
      ap (padded blank n) (take_more_set l c x (omega (arith, few, short, long)))
          ∙ sym (padded_more blank x n (take c l) few)
          ∙ ap₂ (λ (m : List _) (i : ℕ). set m i x) is short,
    )

-- for the code that keeps entries at the front of an array
pub ruleset fronts = (length-take-le, front_of_blanks, tt)
