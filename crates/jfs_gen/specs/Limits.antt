-- What lines may ask for.
use Rattle.std.specs.Prelude.{List}
use Rattle.std.specs.List.{AllByRecursion}
use Rattle.jfs_plain.specs.declared.call.Line.{Line}
use Rattle.jfs_plain.specs.Limits.{FitsRequest}

-- all calls are within the limits of calls
abbrev pub AllFit : List Line → Type 0
AllFit lines = AllByRecursion (λ line. FitsRequest line.request) lines
