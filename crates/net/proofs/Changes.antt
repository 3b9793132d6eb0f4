-- Renumbering, reordering and exchanging ends keep every weight in force, and joining keeps their sums; so the nets before and after are
-- listings of one drawing, also by any sequence of changes, and what a constraint becomes corresponds to it. Assumes nothing.
use mathlib.Core.Path.{◌≡◌, refl, sym, ◌∙◌, ap, subst}
use mathlib.Core.Logic.{inl, inr}
use mathlib.Core.List.{List}
use Prim.Native.Nat.{ℕ, ◌<◌}
use lib.ListN.{length, get_or}
use Rattle.density.specs.Net.{Proper, Side, first, second}
use Rattle.density.specs.Listing.{Matching, Listings, Corresponds}
use Rattle.density.specs.Change as nets
use Rattle.density.proofs.Matching.{matching_same}
use Rattle.density.proofs.Listing.{listings_back, listings_then, corresponds_back, corresponds_then}
use Rattle.density.proofs.Changes.{renumbered_listings, renumbered_corresponds, gathered_listings, gathered_corresponds, one_into_each}
use Rattle.drawing.specs.declared.Object.{Object}
use Rattle.drawing.specs.declared.Constraint.{Constraint}
use Rattle.drawing.specs.Entry.{Drawing, no_object, object_at, constraint_at, kind_of}
use Rattle.drawing.specs.Weight.{constraint_weight}
use Rattle.drawing.proofs.WeightKept.{object_kept, constraint_kept, constraint_turned}
use Rattle.net.specs.Weighed.{end_of, weight_of, weighed}
use Rattle.net.specs.Change.{Renumbered, Reordered, EitherWay, Exchanged, SamePair, Joined}
use Rattle.net.specs.Change.{Change, renumbered, reordered, exchanged, joined, turns_into, new_number, old_number}
use Rattle.net.specs.Change.{Changes, unchanged, made, undone, Becomes, was}
use Rattle.net.proofs.Within.{weight_there}

-- ---- renumbering

-- an object of d and an object of b with the same entry weigh the same
object_same : (d b : Drawing) (v w : ℕ) → v < length d.objects → w < length b.objects → object_at b w ≡ object_at d v → weight_of b w ≡ weight_of d v
object_same d b v w lv lw same = weight_there b w lw ∙ object_kept d b v w same ∙ sym (weight_there d v lv)

net_renumbered : (d b : Drawing) → Proper (weighed d) → Renumbered d b → nets.Renumbered (weighed d) (weighed b)
unfolding weighed
net_renumbered d b ok r =
    record {
      to = r.to;
      from = r.from;
      matched = r.matched;
      same_weight = λ v h. object_same d b v (r.to v) h (r.matched.to_below v h) (r.same_object v h);
      as_many = r.as_many;
      same_takes = takes;
      renamed = ends;
    }
  where
    ends : (i : Side) (e : ℕ) → e < length d.constraints → end_of b i e ≡ r.to (end_of d i e)
    ends first e le = ap (λ (c : Constraint). c.first) (r.same_constraint e le)
    ends second e le = ap (λ (c : Constraint). c.second) (r.same_constraint e le)

    kinds : (i : Side) (e : ℕ) → e < length d.constraints → kind_of b (end_of b i e) ≡ kind_of d (end_of d i e)
    kinds i e le =
        ap (kind_of b) (ends i e le) ∙ ap (λ (o : Object). o.kind) (r.same_object (end_of d i e) (ok.named i e le))

    takes : (e : ℕ) → e < length d.constraints → constraint_weight b e ≡ constraint_weight d e
    takes e le =
        constraint_kept d b e e (ap (λ (c : Constraint). c.kind) (r.same_constraint e le))
        (ap (λ (c : Constraint). c.stated) (r.same_constraint e le)) (kinds first e le) (kinds second e le)

-- ---- the others leave the objects as they are

module _ (d b : Drawing) (objects : b.objects ≡ d.objects) where
  same_kind : (v : ℕ) → kind_of b v ≡ kind_of d v
  same_kind v = ap (λ (l : List Object). (get_or l v no_object).kind) objects

  same_weight : (v : ℕ) → v < length d.objects → weight_of b v ≡ weight_of d v
  same_weight v h =
      object_same d b v v h (subst (λ (l : List Object). v < length l) (sym objects) h) (ap (λ (l : List Object). get_or l v no_object) objects)

  -- ends that are named alike are of the same kind
  end_kind : (end : Constraint → ℕ) {x y : Constraint} → x ≡ y → kind_of b (end x) ≡ kind_of d (end y)
  end_kind end {x} p = same_kind (end x) ∙ ap (λ (c : Constraint). kind_of d (end c)) p

  -- a constraint as it was, or with its ends exchanged, keeps its weight in force and is on the same pair
  takes_kept : (e f : ℕ) → EitherWay (constraint_at b f) (constraint_at d e) → constraint_weight b f ≡ constraint_weight d e
  takes_kept e f (inl p) =
      constraint_kept d b e f (ap (λ (c : Constraint). c.kind) p) (ap (λ (c : Constraint). c.stated) p)
      (end_kind (λ c. c.first) p) (end_kind (λ c. c.second) p)
  takes_kept e f (inr p) =
      constraint_turned d b e f (ap (λ (c : Constraint). c.kind) p) (ap (λ (c : Constraint). c.stated) p)
      (end_kind (λ c. c.first) p) (end_kind (λ c. c.second) p)

  pair_kept : (e f : ℕ) → EitherWay (constraint_at b f) (constraint_at d e) → SamePair (constraint_at b f) (constraint_at d e)
  pair_kept e f (inl p) = inl (ap (λ (c : Constraint). c.first) p, ap (λ (c : Constraint). c.second) p)
  pair_kept e f (inr p) = inr (ap (λ (c : Constraint). c.first) p, ap (λ (c : Constraint). c.second) p)

  -- each constraint of b is one of d, as it was or with its ends exchanged
  one_for_one : (to from : ℕ → ℕ) → Matching (length d.constraints) (length b.constraints) to from
      → ((e : ℕ) → e < length d.constraints → EitherWay (constraint_at b (to e)) (constraint_at d e)) → nets.Gathered (weighed d) (weighed b)
  unfolding weighed
  one_for_one to from matched same =
      record {
        as_many = ap length objects;
        same_weight = same_weight;
        into = to;
        into_below = matched.to_below;
        same_pair = λ e le. pair_kept e (to e) (same e le);
        summed = one_into_each (weighed d) (weighed b) to from matched (λ e le. takes_kept e (to e) (same e le));
      }

net_reordered : (d b : Drawing) → Reordered d b → nets.Gathered (weighed d) (weighed b)
net_reordered d b r = one_for_one d b r.same_objects r.to r.from r.matched (λ e le. inl (r.same_constraint e le))

net_exchanged : (d b : Drawing) → Exchanged d b → nets.Gathered (weighed d) (weighed b)
net_exchanged d b r = one_for_one d b r.same_objects (λ e. e) (λ e. e) (matching_same r.as_many) r.either_way

net_joined : (d b : Drawing) → Joined d b → nets.Gathered (weighed d) (weighed b)
unfolding weighed
net_joined d b r =
    record {
      as_many = ap length r.same_objects;
      same_weight = same_weight d b r.same_objects;
      into = r.into;
      into_below = r.into_below;
      same_pair = r.same_pair;
      summed = r.summed;
    }

-- ---- one change

pub change_listings : {d b : Drawing} → Proper (weighed d) → Change d b → Listings (weighed d) (weighed b)
change_listings {d} {b} ok (renumbered r) = renumbered_listings ok (net_renumbered d b ok r)
change_listings {d} {b} ok (reordered r) = gathered_listings (net_reordered d b r)
change_listings {d} {b} ok (exchanged r) = gathered_listings (net_exchanged d b r)
change_listings {d} {b} ok (joined r) = gathered_listings (net_joined d b r)

-- what constraint e turns into is there, and corresponds to it
turned_below : {d b : Drawing} (c : Change d b) (e : ℕ) → e < length d.constraints → turns_into c e < length b.constraints
turned_below (renumbered r) e le = subst (λ (k : ℕ). e < k) (sym r.as_many) le
turned_below (reordered r) e le = r.matched.to_below e le
turned_below (exchanged r) e le = subst (λ (k : ℕ). e < k) (sym r.as_many) le
turned_below (joined r) e le = r.into_below e le

-- and every constraint of b comes from one
turned_from : {d b : Drawing} (c : Change d b) (f : ℕ) → f < length b.constraints
    → (e : ℕ) × (e < length d.constraints) × (turns_into c e ≡ f)
turned_from (renumbered r) f lf = (f, subst (λ (k : ℕ). f < k) r.as_many lf, refl)
turned_from (reordered r) f lf = (r.from f, r.matched.from_below f lf, r.matched.to_from f lf)
turned_from (exchanged r) f lf = (f, subst (λ (k : ℕ). f < k) r.as_many lf, refl)
turned_from (joined r) f lf = r.one_at_least f lf

turned_corresponds : {d b : Drawing} (ok : Proper (weighed d)) (c : Change d b) (e : ℕ) → e < length d.constraints
    → Corresponds (change_listings ok c) e (turns_into c e)
unfolding weighed change_listings net_reordered net_exchanged net_joined one_for_one
turned_corresponds {d} {b} ok (renumbered r) e le = renumbered_corresponds ok (net_renumbered d b ok r) e le
turned_corresponds {d} {b} ok (reordered r) e le = gathered_corresponds (net_reordered d b r) e le
turned_corresponds {d} {b} ok (exchanged r) e le = gathered_corresponds (net_exchanged d b r) e le
turned_corresponds {d} {b} ok (joined r) e le = gathered_corresponds (net_joined d b r) e le

-- ---- any sequence of changes

pub changes_listings : {d a : Drawing} → Changes d a → Listings (weighed d) (weighed a)
unfolding weighed
changes_listings unchanged =
    record {
      to = λ v. v;
      from = λ v. v;
      matched = matching_same refl;
      same_weight = λ v _. refl;
      same_pairs = λ u v _ _. refl;
    }
changes_listings (made ok c rest) = listings_then (change_listings ok c) (changes_listings rest)
changes_listings (undone ok c rest) = listings_then (listings_back (change_listings ok c)) (changes_listings rest)

pub becomes_corresponds : {d a : Drawing} (cs : Changes d a) (e f : ℕ) → e < length d.constraints → Becomes cs e f
    → Corresponds (changes_listings cs) e f
unfolding weighed changes_listings
becomes_corresponds (unchanged {d = d}) e f le same = inl (ap (end_of d first) (sym same), ap (end_of d second) (sym same))
becomes_corresponds (made ok c rest) e f le b =
    corresponds_then (change_listings ok c) (changes_listings rest) e (turns_into c e) f (turned_corresponds ok c e le)
    (becomes_corresponds rest (turns_into c e) f (turned_below c e le) b)
becomes_corresponds (undone ok c rest) e f le (g, lg, into, b) =
    corresponds_then (listings_back (change_listings ok c)) (changes_listings rest) e g f
    (corresponds_back ok (change_listings ok c) g e lg (subst (λ (x : ℕ). Corresponds (change_listings ok c) g x) into (turned_corresponds ok c g lg)))
    (becomes_corresponds rest g f lg b)

-- every constraint becomes one
pub becomes_some : {d a : Drawing} (cs : Changes d a) (e : ℕ) → e < length d.constraints
    → (f : ℕ) × (f < length a.constraints) × Becomes cs e f
becomes_some unchanged e le = (e, le, refl)
becomes_some (made ok c rest) e le = becomes_some rest (turns_into c e) (turned_below c e le)
becomes_some (undone ok c rest) e le =
    let (g, lg, into) = turned_from c e le in
    let (f, lf, b) = becomes_some rest g lg in
    (f, lf, (g, lg, into, b))

-- and is what one becomes
pub becomes_from : {d a : Drawing} (cs : Changes d a) (f : ℕ) → f < length a.constraints
    → (e : ℕ) × (e < length d.constraints) × Becomes cs e f
becomes_from unchanged f lf = (f, lf, refl)
becomes_from (made ok c rest) f lf =
    let (g, lg, b) = becomes_from rest f lf in
    let (e, le, into) = turned_from c g lg in
    (e, le, subst (λ (x : ℕ). Becomes rest x f) (sym into) b)
becomes_from (undone ok c rest) f lf =
    let (g, lg, b) = becomes_from rest f lf in
    (turns_into c g, turned_below c g lg, (g, lg, refl, b))

-- the objects of the listings are matched as the changes number them
module _ {d b : Drawing} (ok : Proper (weighed d)) where
  number_back : (c : Change d b) (v : ℕ) → (change_listings ok c).from v ≡ old_number c v
  unfolding change_listings renumbered_listings gathered_listings net_renumbered
  number_back (renumbered r) v = refl
  number_back (reordered r) v = refl
  number_back (exchanged r) v = refl
  number_back (joined r) v = refl

  number_forth : (c : Change d b) (v : ℕ) → (change_listings ok c).to v ≡ new_number c v
  unfolding change_listings renumbered_listings gathered_listings net_renumbered
  number_forth (renumbered r) v = refl
  number_forth (reordered r) v = refl
  number_forth (exchanged r) v = refl
  number_forth (joined r) v = refl

pub was_matched : {d a : Drawing} (cs : Changes d a) (v : ℕ) → (changes_listings cs).from v ≡ was cs v
unfolding changes_listings listings_then listings_back
was_matched unchanged v = refl
was_matched (made ok c rest) v = number_back ok c _ ∙ ap (old_number c) (was_matched rest v)
was_matched (undone ok c rest) v = number_forth ok c _ ∙ ap (new_number c) (was_matched rest v)
