-- What whoever has both turns makes of a volume and its log, so that a call finds room.
use Rattle.std.specs.Prelude.{◌≡◌, ◌≤◌, ℕ, List, length}
use Rattle.jfs_turns.specs.Lists.{Base, IsPrefix}
use Rattle.jfs_turns.specs.Standing.{Standing}

-- what both stand for: one base, the volume's list and the log's, how many entries are taken, acknowledged and durable, the syncpoints, and how many the volume knows to be stable and are stable
pub record Seen (E : Type 0) : Type 0 where
  pub base : Base
  pub list : List E
  pub log_list : List E
  pub taken : ℕ
  pub told : ℕ
  pub durable : ℕ
  pub points : List ℕ
  pub known : ℕ
  pub stable : ℕ

module _ {V L E : Type 0} (of_volume : Standing V E) (of_log : Standing L E) where
  -- The log's list is a front of the volume's; told ≤ durable ≤ all, and known ≤ stable ≤ all.
  pub record AreOf (n : Seen E) (x : V) (y : L) : Type 0 where
    pub volume : of_volume x n.base n.list n.taken n.told n.points n.known
    pub log : of_log y n.base n.log_list n.taken n.durable n.points n.stable
    pub front : IsPrefix n.log_list n.list
    pub told_within : n.told ≤ n.durable
    pub durable_within : n.durable ≤ length n.list
    pub known_within : n.known ≤ n.stable
    pub stable_within : n.stable ≤ length n.points

  abbrev pub AreTogether : V → L → Type 0
  AreTogether x y = (n : Seen E) × AreOf n x y

  module _ (count : V → ℕ) where
    -- All entries are taken, in both. More of them may be durable and acknowledged, and there may be more syncpoints, and more of them stable; none less.
    pub record HasRoom (n : Seen E) (points : List ℕ) (x : V) (y : L) : Type 0 where
      pub told : ℕ
      pub durable : ℕ
      pub known : ℕ
      pub stable : ℕ
      pub volume : of_volume x n.base n.list (length n.list) told points known
      pub log : of_log y n.base n.list (length n.list) durable points stable
      pub counted : count x ≡ length points
      pub told_within : told ≤ durable
      pub durable_grows : n.durable ≤ durable
      pub durable_within : durable ≤ length n.list
      pub points_grow : IsPrefix n.points points
      pub known_within : known ≤ stable
      pub stable_grows : n.stable ≤ stable
      pub stable_within : stable ≤ length points

    abbrev pub MakesRoom : V → L → V → L → Type 0
    MakesRoom x y x' y' = (n : Seen E) → AreOf n x y → (points : List ℕ) × HasRoom n points x' y'
