-- Which entries of a history are told durable, by the marks that each client has of its own.
use Rattle.std.specs.Prelude.{◌≡◌, ◌&&◌, ◌+◌, ◌==◌, nat_le, if◌then◌else◌, [], ◌∷◌, ℕ, suc, Bool, false, List, length, drop}
use Rattle.std.specs.Global.{Vec}
use Rattle.jfs_plain.specs.declared.call.Entry.{Entry}
use Rattle.jfs_plain.specs.declared.call.Line.{Line}

-- of marks of one client: the first, if there is one, and the others
abbrev pub first_of : List Bool → Bool
first_of [] = false
first_of (mark ∷ marks) = mark

abbrev pub rest_of : List Bool → List Bool
rest_of [] = []
rest_of (mark ∷ marks) = marks

-- The marks that are left of each client's, the first ones those of client k: the next one of a client, and what is left without it.
abbrev pub mark_of : ℕ → ℕ → List (List Bool) → Bool
mark_of k client [] = false
mark_of k client (marks ∷ more) = if client == k then first_of marks else mark_of (suc k) client more

abbrev pub left_by : ℕ → ℕ → List (List Bool) → List (List Bool)
left_by k client [] = []
left_by k client (marks ∷ more) = if client == k then rest_of marks ∷ more else marks ∷ left_by (suc k) client more

-- the mark of each entry, which is the next one of its client
abbrev pub marks_of : List (List Bool) → List Entry → List Bool
marks_of left [] = []
marks_of left (e ∷ es) = mark_of 1 e.client left ∷ marks_of (left_by 1 e.client left) es

-- the numbers of the marked entries among the first so many, where the first entry has this number
abbrev pub told_from : ℕ → ℕ → List Bool → List ℕ
told_from n durable [] = []
told_from n durable (mark ∷ marks) = if mark && nat_le n durable then n ∷ told_from (suc n) durable marks else told_from (suc n) durable marks

-- ---- as they are read

abbrev pub marks_in : List (Vec Bool) → List (List Bool)
marks_in [] = []
marks_in (marks ∷ more) = marks.items ∷ marks_in more

-- what is left where so many of each client's are read
abbrev pub left_at : List ℕ → List (Vec Bool) → List (List Bool)
left_at next [] = []
left_at [] (marks ∷ more) = marks.items ∷ left_at [] more
left_at (n ∷ next) (marks ∷ more) = drop n marks.items ∷ left_at next more

-- how many there are
abbrev pub marks_left : List (List Bool) → ℕ
marks_left [] = 0
marks_left (marks ∷ more) = length marks + marks_left more

-- there is a mark for each line
abbrev pub AreAsMany : List (Vec Line) → List (Vec Bool) → Type 0
AreAsMany [] [] = Unit {0}
AreAsMany (script ∷ scripts) (marks ∷ more) = (length marks.items ≡ length script.items) × AreAsMany scripts more
AreAsMany _ _ = ⊥
