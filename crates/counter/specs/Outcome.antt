-- The one shape of every question: what a call comes to is its code and the bytes that it writes over the front of the lent buffer; a
-- refused drawing is said, then the first fault of what is asked, and where there is none the answer holds. Assumes nothing.
use Rattle.std.specs.Prelude.{◌≡◌, List, [], ◌++◌, ℕ, zero, suc, length, drop}
use Rattle.drawing.specs.Entry.{Drawing}
use Rattle.records.specs.Read.{Reading, refused, accepted}

pub record Outcome : Type 0 where
  pub code : ℕ
  pub bytes : List ℕ

-- a code, and no byte written. 01: "A refused call gives its number and writes nothing."
abbrev pub says : ℕ → Outcome
says n = record { code = n; bytes = [] }

-- 01: "Answered is code 0. Only the bytes named are written"
abbrev pub answered : List ℕ → Outcome
answered b = record { code = 0; bytes = b }

-- a question about a drawing: the first fault of what is asked, by how many objects and constraints there are, 0 for none; and what it
-- comes to where there is none
pub record Question : Type 1 where
  pub fault : ℕ → ℕ → ℕ
  pub answer : Drawing → Outcome → Type 0

-- the first fault of what is asked about a drawing
abbrev pub asked_fault : Question → Drawing → ℕ
asked_fault q d = q.fault (length d.objects) (length d.constraints)

-- the first fault of the call: that of the drawing's bytes, then that of what is asked; 0 for none
abbrev pub first_fault : Question → Reading → ℕ
first_fault q (refused n) = n
first_fault q (accepted d) = asked_fault q d

-- a fault is said, and where there is none the rest holds
abbrev pub Unless : ℕ → Outcome → Type 0 → Type 0
Unless zero o rest = rest
Unless (suc n) o rest = o ≡ says (suc n)

-- o is what question q comes to, by what was read
abbrev pub Fits : Question → Reading → Outcome → Type 0
Fits q (refused n) o = o ≡ says n
Fits q (accepted d) o = Unless (asked_fault q d) o (q.answer d o)

-- bytes written over the front of a buffer; "the rest of a longer buffer stays"
abbrev pub over : List ℕ → List ℕ → List ℕ
over b before = b ++ drop (length b) before

-- the statement of an entry: its result is the code, and the buffer is as it was but for the bytes written over it
pub record Answers (q : Question) (x : Reading) (result : ℕ) (before after : List ℕ) : Type 0 where
  pub outcome : Outcome
  pub fits : Fits q x outcome
  pub result_is : result ≡ outcome.code
  pub after_is : after ≡ over outcome.bytes before

-- the same of an entry that is lent no buffer
abbrev pub Replies : Question → Reading → ℕ → Type 0
Replies q x result = Answers q x result [] []
