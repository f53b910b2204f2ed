use Rattle.jfs_write_pages.proofs.Held.{held}
use Rattle.jfs_write_pages.proofs.law.written_file_holds_the_bytes.Goals as goal

pub returns : goal.returns
returns c blocks pages size offset bytes es later first n news ds w =
    held blocks pages w.whole size offset bytes w.some es later w.low w.high w.bound w.rises w.long w.rises_later w.long_later w.to_later w.once first n w.first_is w.last_is news w.number w.each ds w.is_told w.inside
