-- An object as it was read.
use Rattle.std.proofs.Common.{◌≡◌, refl, sym, ap, ◌∙◌, ℕ, ◌/◌, ◌%◌, ◌&&◌, nat_lt, Bool, true, false, if◌then◌else◌, List, [], get_or, Option, Some, None, Result, Ok}
use Rattle.std.specs.Prelude.{is_none}
use Rattle.jfs_bits.specs.declared.extent.Xad.{Xad}
use Rattle.jfs_bits.specs.declared.rule.Rule.{Rule}
use Rattle.jfs_bits.specs.Broken.{first_broken}
use Rattle.jfs_bits.specs.Field.{range_of}
use Rattle.jfs_disk.specs.Image.{Image, page_of}
use Rattle.jfs_inode.specs.Rules.{rows}
use Rattle.jfs_inode.specs.declared.fields.Dinode.{Dinode}
use Rattle.jfs_inode.specs.declared.read.BadInode.{BadInode}
use Rattle.jfs_name.specs.declared.name.NameEntry.{NameEntry}
use Rattle.jfs_plain.specs.Step.{bytes_from}
use Rattle.jfs_plain.specs.declared.node.Node.{Node}
use Rattle.jfs_reader.specs.objects.specs.Readers.{Readers}
use Rattle.jfs_reader.specs.objects.specs.Objects.{spelled, names_of, listed}
use Rattle.jfs_reader.specs.objects.specs.Owners.{entries}
use Rattle.jfs_reader.specs.objects.specs.Contents.{block_of, bytes_at}
use Rattle.jfs_reader.specs.meaning.specs.Contents.{byte_of, is_regular}
use Rattle.jfs_reader.specs.meaning.specs.Node.{is_symbolic, node_from, node_with}
use Rattle.jfs_image.specs.Held.{byte_in_file, target_in, IsHeld, Breaks, NamesMay, ExtentsMay}
use Rattle.jfs_image.proofs.Bytes.{byte_at}

not_some : (o : Option BadInode) → false ≡ is_none o → o ≡ None → ⊥
not_some o f e = cc (f ∙ ap is_none e)

-- the inode breaks a rule, or the tree of names or of extents does
pub broken_inode : (r : Readers) (page : ℕ → List ℕ) (n : ℕ) (d : Dinode) (keeps : Bool) → keeps ≡ is_none (first_broken (rows d n)) → keeps ≡ false → Breaks r n (spelled r page d)
unfolding spelled
broken_inode r page n d keeps is isnt = λ holds whole. not_some (first_broken (rows d n)) (sym isnt ∙ is) holds

pub broken_names : (r : Readers) (page : ℕ → List ℕ) (n : ℕ) (d : Dinode) → NamesMay r page d None → Breaks r n (spelled r page d)
unfolding spelled
broken_names r page n d may = λ holds whole. may whole.names whole.names_are

pub broken_extents : (r : Readers) (page : ℕ → List ℕ) (n : ℕ) (d : Dinode) → ExtentsMay r page d None → Breaks r n (spelled r page d)
unfolding spelled
broken_extents r page n d may = λ holds whole. may whole.extents whole.extents_are

pub none_is : (o : Option BadInode) → true ≡ is_none o → o ≡ None
none_is None e = refl
none_is (Some bad) e = absurd cc

-- what a file with these extents holds, as its tree spells them
abbrev stored_by : Image → Result (List Xad) (ℕ × Rule) → ℕ → ℕ
stored_by image es i = byte_of (bytes_at (page_of image) (block_of (entries es) (i / 4096))) (i % 4096)

bytes_match : (f : ℕ → ℕ) (regular : Bool) (n i : ℕ) (bytes : List ℕ) → bytes ≡ (if regular then bytes_from f 0 n else []) → (if regular && nat_lt i n then f i else 0) ≡ get_or bytes i 0
bytes_match f true n i bytes e = byte_at f n i ∙ ap (λ (xs : List ℕ). get_or xs i 0) (sym e)
bytes_match f false n i bytes e = ap (λ (xs : List ℕ). get_or xs i 0) (sym e)

pub is_held : (r : Readers) (image : Image) (n : ℕ) (d : Dinode) (keeps : Bool) (names : List NameEntry) (extents : List Xad) (target bytes : List ℕ) (node : Node)
    → keeps ≡ is_none (first_broken (rows d n)) → keeps ≡ true → NamesMay r (page_of image) d (Some names) → ExtentsMay r (page_of image) d (Some extents)
    → target ≡ target_in image extents d → bytes ≡ (if is_regular d then bytes_from (byte_in_file image extents) 0 d.size else []) → node ≡ node_with d target names
    → IsHeld r (page_of image) n (spelled r (page_of image) d) node bytes
unfolding spelled
is_held r image n d keeps names extents target bytes node is it named spread to held made = record {
  inode = none_is (first_broken (rows d n)) (sym it ∙ is);
  whole = record { names = names; extents = extents; names_are = named; extents_are = spread };
  node_is =
      ap (λ (es : Result (List Xad) (ℕ × Rule)). node_from d (if is_symbolic d then (if nat_lt d.size 256 then range_of d.rest 128 d.size else bytes_from (stored_by image es) 0 d.size) else []) (listed r.names_order (names_of r (page_of image) d)) es) spread
      ∙ ap (λ (ns : Result (List NameEntry) (ℕ × Rule)). node_from d (target_in image extents d) ns (Ok extents)) named
      ∙ ap (λ (t : List ℕ). Some (node_with d t names)) (sym to)
      ∙ ap Some (sym made);
  bytes_are = λ i.
      ap (λ (es : Result (List Xad) (ℕ × Rule)). if is_regular d && nat_lt i d.size then stored_by image es i else 0) spread
      ∙ bytes_match (byte_in_file image extents) (is_regular d) d.size i bytes held;
}
