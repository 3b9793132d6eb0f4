-- The questions. 01, 'The questions' and 'What is turned away, in order'; `room` is the length of the buffer lent. Assumes nothing.
use Rattle.std.specs.Prelude.{◌≡◌, ◌⊎◌, List, ◌++◌, ℕ, ℤ, length}
use Rattle.density.specs.Net.{Set}
use Rattle.density.specs.Top.{Top, AnswerSet, NoneAt, LowestAbove}
use Rattle.density.specs.Sheet.{Sound, claim}
use Rattle.drawing.specs.Entry.{Drawing}
use Rattle.net.specs.Weighed.{weighed}
use Rattle.counter.specs.Block.{two, numbers_size, block, block_size}
use Rattle.checker.specs.Sheet.{sheet_size, sheet_in}
use Rattle.counter.specs.Fault.{room_fault, number_fault, range_fault}
use Rattle.counter.specs.Outcome.{Outcome, says, answered, Question}

-- ---- look over: "number of objects and of constraints, 2 bytes each"

abbrev pub counts : Drawing → List ℕ
counts d = two (length d.objects) ++ two (length d.constraints)

abbrev pub look_over : ℕ → Question
look_over room = record { fault = λ n m. room_fault room numbers_size; answer = λ d o. o ≡ answered (counts d) }

-- ---- one constraint: "block with top density and answer set"

pub record BlockOf (d : Drawing) (c : ℕ) (o : Outcome) : Type 0 where
  pub top : ℤ
  pub set : Set
  pub answer : AnswerSet (weighed d) c top set
  pub is : o ≡ answered (block (length d.objects) c top set)

abbrev pub one_constraint : ℕ → ℕ → Question
one_constraint c room =
    record {
      fault = λ n m. number_fault m c (room_fault room block_size);
      answer = λ d o. BlockOf d c o;
    }

-- ---- any dense: "block of the lowest-numbered constraint whose top density is above K; or code 32, none, and no byte written"

pub record LowestBlock (d : Drawing) (k : ℤ) (o : Outcome) : Type 0 where
  pub constraint : ℕ
  pub lowest : LowestAbove (weighed d) k constraint
  pub block_of : BlockOf d constraint o

pub record NoBlock (d : Drawing) (k : ℤ) (o : Outcome) : Type 0 where
  pub none : NoneAt (weighed d) k
  pub is : o ≡ says 32

abbrev pub any_dense : ℤ → ℕ → Question
any_dense k room = record { fault = λ n m. range_fault k (room_fault room block_size); answer = λ d o. LowestBlock d k o ⊎ NoBlock d k o }

-- ---- sheet: "a sound sheet whose claim is the top density"

pub record SheetOf (d : Drawing) (c : ℕ) (o : Outcome) : Type 0 where
  pub bytes : List ℕ
  pub long : length bytes ≡ sheet_size (length d.constraints)
  pub sound : Sound (weighed d) c (sheet_in bytes)
  pub top : Top (weighed d) c (claim (weighed d) c (sheet_in bytes))
  pub is : o ≡ answered bytes

abbrev pub sheet_for : ℕ → ℕ → Question
sheet_for c room =
    record {
      fault = λ n m. number_fault m c (room_fault room (sheet_size m));
      answer = λ d o. SheetOf d c o;
    }

-- ---- check: "code 0 exactly if the sheet is sound and its claim is that number, else code 33"

pub record Shows (d : Drawing) (c : ℕ) (b : List ℕ) (z : ℤ) : Type 0 where
  pub sound : Sound (weighed d) c (sheet_in b)
  pub claims : claim (weighed d) c (sheet_in b) ≡ z

abbrev pub check : ℕ → List ℕ → ℤ → Question
check c b z =
    record {
      fault = λ n m. number_fault m c (room_fault (length b) (sheet_size m));
      answer = λ d o. (Shows d c b z × (o ≡ says 0)) ⊎ ((Shows d c b z → ⊥) × (o ≡ says 33));
    }
