-- How long a drawing and a record may be. 01, 'The bytes of a drawing': "A drawing has at most 5,892 bytes." Assumes nothing.
use Rattle.std.specs.Prelude.{◌≡◌, refl, ℕ, ◌+◌, ◌*◌}
use Rattle.limits.specs.Limits.{most_objects, most_constraints}
use Rattle.records.specs.Format.{head_size, object_body_size, constraint_body_size}

-- the bytes of an object's record, and of a constraint's, which is the longest; an end record is a head alone
abbrev pub object_record : ℕ
object_record = head_size + object_body_size

abbrev pub longest_record : ℕ
longest_record = head_size + constraint_body_size

-- as many records as the limits let pass, and an end record
abbrev pub longest_drawing : ℕ
longest_drawing = most_objects * object_record + most_constraints * longest_record + head_size

pub longest_is : longest_drawing ≡ 5892
longest_is = refl
