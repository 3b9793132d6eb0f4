-- `checker::shows` meets its contract. Assumes nothing.
use mathlib.Core.Path.{sym, ◌∙◌}
use native.Mathlib.Omega.{arith}
use mir.Facts.{to_z-of_z}
use Rattle.checker.proofs.AddingUp.{given_small, total_small}
use Rattle.checker.proofs.Deciding.{crowded, receiving, decided}
use borrow.Author.Rules.{rules}
use Rattle.checker.proofs.shows.Goals as goal
use Rattle.checker.proofs.shows.Goals.{then-has_room, else-has_room}

pub overflow_add-tally : goal.overflow_add-tally
overflow_add-tally c =
    record { fits = omega (arith, total_small c.in-Some.ensures, given_small c.in-Some.ensures) }

pub equals-requires : goal.equals-requires
equals-requires c = (
  omega (arith, total_small c.in-Some.ensures),
  omega (arith, total_small c.in-Some.ensures, given_small c.in-Some.ensures),
)

pub returns-then-bare : goal.returns-then-bare
returns-then-bare c =
    elim c.if-has_room.branch [
      | then-has_room w ↦
          decided c.requires.is c.in-Some.ensures c.has_room.ensures w.if-has_room.true w.bare.ensures (sym w.value-is ∙ c.if-bare.true)
          c.ends_weigh.ensures.is c.equals.ensures (to_z-of_z c.ranges.claimed)
      | else-has_room w ↦ cc
    ]

pub returns-else-bare : goal.returns-else-bare
returns-else-bare c =
    elim c.if-has_room.branch [ then-has_room w ↦ search (receiving, rules) | else-has_room w ↦ search (crowded, rules) ]
