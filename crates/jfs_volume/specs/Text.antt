-- A waiting text, as plain data.
use Rattle.jfs_halves.specs.Parts.{Text}
use Rattle.jfs_volume.specs.declared.waiting.WaitingText.{WaitingText}

abbrev pub text_in : WaitingText → Text
text_in w = record { ring = w.ring; place = w.place; sync = w.sync; bytes = w.text.bytes.items; ends = w.text.ends.items; last = w.text.last }
