-- Numbers known from elsewhere.
use Rattle.std.proofs.Common.{◌≡◌, ◌+◌, ◌*◌, false, [], ◌∷◌, replicate, length, refl}
use Rattle.jfs_bits.specs.declared.rule.PageKind.TheVariants as kinds
use Rattle.jfs_ranges.specs.declared.edit.Edit.{Edit}
use Rattle.jfs_ranges.specs.declared.edit.Edit.TheVariants.{Lines, NoRedo, Free}
use Rattle.jfs_bits.specs.Descriptor.{pxd_bytes}
use Rattle.jfs_logpages.specs.Back.{address_at}
use Rattle.jfs_records.specs.Records.{Noted, records_of}
use Rattle.jfs_records.specs.Entries.{entry, item_size}

abbrev one : Edit → Noted
one e = record { edit = e; note = record { fileset = 16; inode = 2; kind = kinds.Xtree; new_page = false } }

-- a chmod: one line of an inode, and COMMIT; one that changes nothing
chmod_size : item_size (entry 1 (one (Lines 20 kinds.Inode 8 (replicate 128 7)) ∷ [])) ≡ 204
chmod_size = refl

same_size : item_size (entry 2 []) ≡ 36
same_size = refl

-- two of the first, and then 101 of the second, on a ring of 1,022 pages: the body's end, and the next one's
end_103 : address_at 1022 0 (4080 * 1021 + 36 + (2 * 204 + 36 * 101)) ≡ 4194296
end_103 = refl

end_104 : address_at 1022 0 (4080 * 1021 + 36 + (2 * 204 + 36 * 102)) ≡ 8236
end_104 = refl

-- two pages that go: by turns four records, with both NoRedos first three
by_turns : length (records_of (one (NoRedo 20) ∷ one (Free (record { len = 1; addr = 20 })) ∷ one (NoRedo 21) ∷ one (Free (record { len = 1; addr = 21 })) ∷ [])) ≡ 4
unfolding pxd_bytes
by_turns = refl

in_order : length (records_of (one (NoRedo 20) ∷ one (NoRedo 21) ∷ one (Free (record { len = 1; addr = 20 })) ∷ one (Free (record { len = 1; addr = 21 })) ∷ [])) ≡ 3
unfolding pxd_bytes
in_order = refl

-- two ranges of one page are one record
one_page : length (records_of (one (Lines 20 kinds.Dtree 0 (replicate 32 1)) ∷ one (Lines 20 kinds.Dtree 9 (replicate 64 2)) ∷ [])) ≡ 1
one_page = refl
