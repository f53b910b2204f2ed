-- What makes a control page a function of its leaves.
use Rattle.std.specs.Prelude.{◌≡◌, ℕ, List}
use Rattle.jfs_buddy.specs.Laws.{AreBytes}
use Rattle.jfs_dmapctl.specs.Control.{IsControl}

-- two canonical pages of one level over the same own ranks hold the same bytes
abbrev pub ControlsAgree : Type 0
ControlsAgree = (level : ℕ) (own : ℕ → ℕ) (one other : List ℕ) → AreBytes one → AreBytes other → IsControl level own one → IsControl level own other → one ≡ other
