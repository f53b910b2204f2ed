-- What inode numbers stand for.
use Rattle.std.specs.Prelude.{◌≡◌, ◌≢◌, ◌<◌, ◌*◌, ◌^◌, ℕ, Bool, true, false, not, ◌&&◌, if◌then◌else◌, List, length, get_or, replicate, Option, Some, None}
use Rattle.jfs_inode.specs.declared.fields.Dinode.{Dinode}
use Rattle.jfs_object_check.specs.objects.specs.Objects.{has_names}
use Rattle.jfs_object_check.specs.meaning.specs.Node.{parent_in}
use Rattle.jfs_object_check.specs.meaning.specs.Consistent.{is_reserved}
use Rattle.jfs_each.specs.Each.{Found, found_at}
use Rattle.jfs_link_check.specs.declared.uses.Use.{Use}
use Rattle.jfs_link_check.specs.declared.uses.Use.TheVariants.{Free, Directory, Other}

abbrev pub use_of : Dinode → Use
use_of d = if has_names d then Directory (parent_in d) else Other d.nlink

abbrev pub use_in : Option Found → Use
use_in None = Free
use_in (Some f) = use_of f.inode

-- past the last number none is in use
abbrev pub use_at : List Use → ℕ → Use
use_at uses n = get_or uses n Free

abbrev pub is_used : Use → Bool
is_used Free = false
is_used (Directory parent) = true
is_used (Other links) = true

abbrev pub is_directory : Use → Bool
is_directory Free = false
is_directory (Directory parent) = true
is_directory (Other links) = false

-- inode `n` is in use, and may have a name
abbrev pub may_be_named : List Use → ℕ → Bool
may_be_named uses n = is_used (use_at uses n) && not (is_reserved n)

-- each inode number by what is found there, where inode extents begin at these places; page numbers have 32 bits
pub record AreUses (page : ℕ → List ℕ) (places : List (Option ℕ)) (uses : List Use) : Type 0 where
  pub size : length uses ≡ 32 * length places
  pub each : (n : ℕ) → use_at uses n ≡ use_in (found_at page places n)
  pub pages : (n : ℕ) (f : Found) → found_at page places n ≡ Some f → f.page < 2 ^ 32

-- ---- for the prover alone

-- before any inode was seen
abbrev pub none_used : ℕ → List Use
none_used most = replicate most Free

-- one number has another use now
pub record SetsUse (n : ℕ) (is : Use) (old new : List Use) : Type 0 where
  pub size : length new ≡ length old
  pub here : n < length old → use_at new n ≡ is
  pub others : (k : ℕ) → k ≢ n → use_at new k ≡ use_at old k
