-- The last that is said of a block decides its bit.
use Rattle.std.proofs.Common.{◌≡◌, Bool, [], ◌∷◌, Option, Some, None, refl, ◌∙◌}
use Rattle.jfs_records.specs.Marks.{mark_of, mark_or, mark_else, last_mark, LastMarkDecides}

behind : (later earlier : Option Bool) (was : Bool) → mark_or later (mark_or earlier was) ≡ mark_or (mark_else later earlier) was
behind (Some mark) earlier was = refl
behind None earlier was = refl

pub last_decides : LastMarkDecides
last_decides b was [] = refl
last_decides b was (e ∷ es) = last_decides b (mark_or (mark_of b e) was) es ∙ behind (last_mark b es) (mark_of b e) was
