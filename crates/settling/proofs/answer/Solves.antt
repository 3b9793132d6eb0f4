-- From the arrays to the net: after both ends of c are released and all is settled, the marked objects are c's answer set.
-- Assumes nothing.
use mathlib.Core.Path.{◌≡◌, refl, sym, subst, ◌∙◌}
use mathlib.Core.Logic.{◌≢◌}
use mathlib.Core.List.{List}
use Prim.Native.Nat.{ℕ, ◌+◌, ◌*◌, ◌/◌, ◌<◌, ◌≤◌}
use native.Mathlib.Omega.{arith}
use lib.IntN.{ℤ, pos, sub_ℕ}
use lib.Signed.{◌≤ℤ◌}
use lib.Dec.{T, ltb, lt→ltb, ltb→lt}
use Rattle.density.specs.Net.{Net, Set, Side, first, second, holds, Inside}
use Rattle.density.specs.Sheet as theory
use Rattle.density.specs.Sheet.{Sound, claim}
use Rattle.density.specs.Closed.{Closed, AllFull}
use Rattle.density.specs.Top.{AnswerSet}
use Rattle.density.proofs.Shares.{least_closed_answers}
use Rattle.limits.specs.Limits.{most_weight, most_constraints}
use Rattle.arrays.specs.At.{at}
use Rattle.arrays.specs.Arrays.{place, net_in, shares_in, Fair}
use Rattle.routes.specs.declared.search.Marks.{Marks}
use Rattle.routes.specs.declared.search.Sharing.{Sharing}
use Rattle.routes.specs.State.{State, seen_state, BothIn, both_shares, load}
use Rattle.settling.specs.Settle.{Settled}
use Rattle.settling.specs.Release.{Released}
use Rattle.routes.specs.Marked.{Marked, members}
use Rattle.settling.specs.Solved.{Solved}
use Rattle.settling.specs.Answer.{Spread, Remainder}
use Rattle.settling.proofs.answer.Claiming.{claim_above, not_below, not_above}
use Rattle.routes.proofs.Places.{by_place, share_le_load}
use Rattle.settling.proofs.answer.AsNet.{place_below, place_half, holds_both, both_holds, member, member_marked, received_is, proper}
use Rattle.settling.proofs.answer.AfterRelease.{load_gone, load_stays}

-- c takes something away, the start has every room open, and the ends of c, one and two, are released, one after the other
module _ {n m c : ℕ} {ends weights takes : List ℕ} (fair : Fair n m ends weights takes) (is : c < m) (some : 0 < at takes c)
    {marks : Marks} {s : Sharing} (spread : Spread m ends weights takes (seen_state marks s))
    {one two : ℕ} {s₁ s₂ : Sharing} (released₁ : Released m one ends s s₁) (released₂ : Released m two ends s₁ s₂)
    (both : (one ≡ at ends (2 * c)) × (two ≡ at ends (2 * c + 1))) where
  abbrev d : Net
  d = net_in n m ends weights takes

  apart : one ≢ two
  apart e = fair.apart c is (sym both.0 ∙ e ∙ both.1)

  bare_two : load m ends s₂.shares two + at s₂.room two ≡ 0
  bare_two = omega (arith, load_gone released₂, released₂.no_room)

  bare_one : load m ends s₂.shares one + at s₂.room one ≡ 0
  bare_one = omega (arith, load_stays released₂ one apart, released₂.rooms one apart, load_gone released₁, released₁.no_room)

  bare_other : (v : ℕ) → v ≢ one → v ≢ two → load m ends s₂.shares v + at s₂.room v ≡ at weights v
  bare_other v p q = omega (
    arith,
    load_stays released₂ v q,
    released₂.rooms v q,
    load_stays released₁ v p,
    released₁.rooms v p,
    spread.open_rooms v,
  )

  module _ {t : State} (settled : Settled m ends takes (seen_state marks s₂) t) where
    abbrev M : Set
    M = members t.objects

    load_one : load m ends t.shares one ≡ 0
    load_one = omega (arith, settled.onward.loads one, bare_one)

    load_two : load m ends t.shares two ≡ 0
    load_two = omega (arith, settled.onward.loads two, bare_two)

    load_other : (v : ℕ) → v ≢ one → v ≢ two → load m ends t.shares v + at t.room v ≡ at weights v
    load_other v p q = settled.onward.loads v ∙ bare_other v p q

    load_le : (v : ℕ) → load m ends t.shares v ≤ at weights v
    load_le v = grind (arith, load_one, load_two, load_other v)

    load_ends : (i : Side) → load m ends t.shares (at ends (place i c)) ≡ 0
    load_ends first = subst (λ (x : ℕ). load m ends t.shares x ≡ 0) both.0 load_one
    load_ends second = subst (λ (x : ℕ). load m ends t.shares x ≡ 0) both.1 load_two

    received_of : (v : ℕ) → theory.received d (shares_in t.shares) v ≡ load m ends t.shares v
    received_of v = received_is n m ends weights takes t.shares v

    sound : Sound d c (shares_in t.shares)
    sound = record {
      fits = settled.kept.fits;
      room = λ v b. omega (arith, received_of v, load_le v);
      bare = λ i. received_of (at ends (place i c)) ∙ load_ends i;
    }

    -- c gives nothing, so it has weight left and is marked
    c_marked : Marked t.constraints c
    c_marked = settled.all c is
        (omega (
          arith,
          some,
          share_le_load m ends t.shares (2 * c) (omega (arith, is)),
          load_ends first,
          share_le_load m ends t.shares (2 * c + 1) (omega (arith, is)),
          load_ends second,
        ))

    held_marked : (e : ℕ) → e < m → Marked t.constraints e → T (holds d M e)
    held_marked e b h = both_holds n m ends weights takes M e (λ i q. member t.objects (at ends i) (settled.kept.closed e b h i q))

    closed : Closed d (shares_in t.shares) M
    closed = record {
      starts = λ e b l. held_marked e b (settled.all e b l);
      goes_on = λ i e b inside p. held_marked e b
          (subst (λ (x : ℕ). Marked t.constraints x) (place_half i e)
          (settled.kept.goes_on (place i e) (place_below m i e b) (member_marked t.objects (at ends (place i e)) inside) p));
    }

    full : AllFull d c (shares_in t.shares) M
    full v b inside p q = omega (
      arith,
      received_of v,
      load_other v (λ e. p (e ∙ both.0)) (λ e. q (e ∙ both.1)),
      settled.kept.full v (member_marked t.objects v inside),
    )

    least : (S : Set) → T (holds d S c) → Closed d (shares_in t.shares) S → Inside d M S
    least S h closed_S v b inside = settled.kept.least S
        (λ e l y left. holds_both n m ends weights takes S e (closed_S.starts e l left))
        (λ k l y. by_place (λ x. T (S (at ends x)) → 0 < at t.shares x → BothIn ends S (k / 2)) (k / 2) refl
        (λ in_S p. holds_both n m ends weights takes S (k / 2) (closed_S.goes_on first (k / 2) (omega arith) in_S p))
        (λ in_S p. holds_both n m ends weights takes S (k / 2) (closed_S.goes_on second (k / 2) (omega arith) in_S p)))
        v (member_marked t.objects v inside)

    -- every marked object is one of the net's
    inside_n : (v : ℕ) → Marked t.objects v → v < n
    inside_n v h = ltb→lt v n (settled.kept.least (λ x. ltb x n)
        (λ e b y l i q. lt→ltb (at ends i) n (fair.named i (omega arith)))
        (λ k b y x p i q. lt→ltb (at ends i) n (fair.named i (omega arith))) v h)

    outside_clear : (v : ℕ) → n ≤ v → at t.objects v ≡ 0
    outside_clear v b = grind (arith, inside_n v)

    share_light : (k : ℕ) → k < 2 * m → at t.shares k ≤ most_weight
    share_light k b =
        let both_light : both_shares t.shares (k / 2) ≤ most_weight = omega (arith, settled.kept.fits (k / 2) (omega arith), fair.light_constraints (k / 2) (omega arith)) in
        by_place (λ x. at t.shares x ≤ most_weight) (k / 2) refl (omega arith) (omega arith)

    -- t is what the shares claim for c
    module _ {density : ℤ} (claims : claim d c (shares_in t.shares) ≡ density) (low : sub_ℕ 0 (most_weight + most_weight) ≤ℤ density)
        (high : density ≤ℤ pos (most_weight * most_constraints)) where
      pub claim_solves : Solved n m c ends weights takes t.objects t.shares density
      claim_solves = record {
        answer = subst (λ (z : ℤ). AnswerSet d c z M) claims
            (least_closed_answers d (proper n m ends weights takes fair) c is (shares_in t.shares) sound M
            (held_marked c is c_marked) closed full least);
        sound = sound;
        claims = claims;
        outside = outside_clear;
        low = low;
        high = high;
        shares_small = share_light;
      }

    -- above is the weight left, below that of c's two ends
    module _ {above below : ℕ} (remains : Remainder m takes t.shares above) (weigh : below ≡ at weights one + at weights two) where
      pub settled_solves : Solved n m c ends weights takes t.objects t.shares (sub_ℕ above below)
      settled_solves = claim_solves (claim_above c fair t.shares is both remains weigh) (not_below c fair t.shares is both remains weigh)
          (not_above c fair t.shares is both remains weigh)
