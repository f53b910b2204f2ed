-- What stays where pages go home, one call after another.
use Rattle.std.proofs.Common.{ap, ◌∙◌}
use Rattle.jfs_halves.specs.Parts.{Parts}
use Rattle.jfs_volume.specs.Settles.{HomesAlone}

pub alone_then : (tells : Type 0) (old mid new : Parts) → HomesAlone tells old mid → HomesAlone tells mid new → HomesAlone tells old new
alone_then tells old mid new a b = record {
  parts = b.parts ∙ ap (λ (p : Parts). record p { view = new.view; dirty = new.dirty; disk = new.disk; past = new.past; faults = new.faults; halted = new.halted }) a.parts;
  view = λ t. b.view t ∙ a.view t;
}
