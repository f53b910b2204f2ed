-- A page that is kept in memory with its pending writes.
use Rattle.jfs_disk.specs.Crash.{PageHistory}
use Rattle.jfs_disk.specs.Pages.{boxed_contents, content_in}
use Rattle.jfs_disk.specs.declared.slot.PageSlot.{PageSlot}

-- what a slot keeps of its page
abbrev pub history_in : PageSlot → PageHistory
history_in slot = record {
  seen = content_in slot.stable slot.writes.items slot.shown;
  stable = slot.stable.value.0;
  writes = boxed_contents slot.writes.items;
}
