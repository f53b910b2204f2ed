-- How many slots entries take. (JFS Layout, dtree: a name's units stand in its first slot, and in as many further ones as they need.)
use Rattle.std.specs.Prelude.{ℕ, suc, List, length, sum_by}
use Rattle.jfs_dtpage.specs.Form.{more_slots}
use Rattle.jfs_dtpage.specs.Page.{Entry, name_in}
use Rattle.jfs_dtpage.specs.Given.{is_named}

abbrev pub slots_of_entry : Entry → ℕ
slots_of_entry e = suc (more_slots (is_named e) (length (name_in e)))

abbrev pub slots_in : List Entry → ℕ
slots_in es = sum_by slots_of_entry es
