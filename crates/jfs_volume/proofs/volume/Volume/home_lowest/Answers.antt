use Rattle.std.proofs.Common.{inl, sym, ◌∙◌}
use Rattle.jfs_pages.specs.Kept.{dirty_in}
use Rattle.jfs_volume.proofs.Rising.{none_first, not_some, lowest_gone}
use Rattle.jfs_volume.proofs.volume.Volume.home_lowest.Goals as goal

pub returns-in-None-clause-lowest : goal.returns-in-None-clause-lowest
returns-in-None-clause-lowest g c = rw (← c.self.view_is) (λ n low q some. absurd (not_some _ (none_first (dirty_in c.self.inside.cache.kept) q (sym c.dirty_at.ensures.page ∙ c.in-None.is)) some))

pub returns-in-Ok-clause-home : goal.returns-in-Ok-clause-home
returns-in-Ok-clause-home g c seen asked told crashes half s = inl (c.in-Some.dirty.page, c.in-Ok.ensures.home seen asked told crashes half s)

pub returns-in-Ok-clause-lowest : goal.returns-in-Ok-clause-lowest
returns-in-Ok-clause-lowest g c = rw (← c.self.view_is) (λ n low q some.
    lowest_gone (dirty_in c.self.inside.cache.kept) c.home_one.new.self.dirty c.in-Some.dirty n q c.dirty_at.ensures.rising (sym c.dirty_at.ensures.page ∙ c.in-Some.is) c.in-Some.ensures.found (rw (← c.self.view_is) at (c.in-Ok.ensures.dirty q)) low some)

pub returns-in-Err-WriteFault-clause-home : goal.returns-in-Err-WriteFault-clause-home
returns-in-Err-WriteFault-clause-home g c seen asked told crashes half s =
    (c.in-Some.dirty.page, (rw c.in-Err-WriteFault.field-0-is at c.in-Err-WriteFault.ensures).home seen asked told crashes half s)
