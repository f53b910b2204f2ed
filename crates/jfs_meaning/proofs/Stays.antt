-- Nodes and contents of objects whose blocks stay.
use Rattle.std.proofs.Common.{◌≡◌, refl, sym, ap, ap₂, ◌∙◌, ℕ, zero, suc, ◌/◌, ◌%◌, ◌&&◌, Bool, false, nat_lt, if◌then◌else◌, List, [], ◌∷◌, Option, Some, None}
use Rattle.jfs_bits.specs.Field.{range_of}
use Rattle.jfs_plain.specs.Step.{bytes_from}
use Rattle.jfs_objects.specs.Readers.{Readers}
use Rattle.jfs_objects.specs.Objects.{Object, listed}
use Rattle.jfs_objects.specs.Contents.{contents_of}
use Rattle.jfs_meaning.specs.Contents.{byte_of, stored, byte_in, is_regular}
use Rattle.jfs_meaning.specs.Node.{is_symbolic, target_in, node_from, node_in}

pub same_from : (f g : ℕ → ℕ) → ((i : ℕ) → f i ≡ g i) → (at n : ℕ) → bytes_from f at n ≡ bytes_from g at n
unfolding bytes_from
same_from f g h at zero = refl
same_from f g h at (suc n) = ap₂ (λ (b : ℕ) (bs : List ℕ). b ∷ bs) (h at) (same_from f g h (suc at) n)

-- the same blocks of an object on other pages
abbrev pub SameBlocks : Readers → (ℕ → List ℕ) → (ℕ → List ℕ) → Option Object → Type 0
SameBlocks r old new o = (k : ℕ) → contents_of r new o k ≡ contents_of r old o k

pub same_stored : (r : Readers) (old new : ℕ → List ℕ) (o : Option Object) → SameBlocks r old new o → (i : ℕ) → stored r new o i ≡ stored r old o i
same_stored r old new o h i = ap (λ (x : Option (List ℕ)). byte_of x (i % 4096)) (h (i / 4096))

pub same_byte : (r : Readers) (old new : ℕ → List ℕ) (o : Option Object) → SameBlocks r old new o → (i : ℕ) → byte_in r new o i ≡ byte_in r old o i
same_byte r old new None h i = refl
same_byte r old new (Some o) h i = ap (λ (b : ℕ). if is_regular o.inode && nat_lt i o.inode.size then b else 0) (same_stored r old new (Some o) h i)

same_target : (r : Readers) (old new : ℕ → List ℕ) (o : Object) → SameBlocks r old new (Some o) → target_in r new o ≡ target_in r old o
same_target r old new o h = ap (λ (long : List ℕ). if is_symbolic o.inode then (if nat_lt o.inode.size 256 then range_of o.inode.rest 128 o.inode.size else long) else [])
    (same_from (stored r new (Some o)) (stored r old (Some o)) (same_stored r old new (Some o) h) 0 o.inode.size)

-- one with another target, and no symbolic link
with_target : (r : Readers) (old new : ℕ → List ℕ) (o : Object) → target_in r new o ≡ target_in r old o → node_in r new (Some o) ≡ node_in r old (Some o)
with_target r old new o h = ap (λ (target : List ℕ). node_from o.inode target (listed r.names_order o.names) (listed r.extents_order o.extents)) h

pub same_node : (r : Readers) (old new : ℕ → List ℕ) (o : Option Object) → SameBlocks r old new o → node_in r new o ≡ node_in r old o
same_node r old new None h = refl
same_node r old new (Some o) h = with_target r old new o (same_target r old new o h)

no_target : (r : Readers) (page : ℕ → List ℕ) (o : Object) → is_symbolic o.inode ≡ false → target_in r page o ≡ []
no_target r page o h = ap (λ (x : Bool). if x then (if nat_lt o.inode.size 256 then range_of o.inode.rest 128 o.inode.size else bytes_from (stored r page (Some o)) 0 o.inode.size) else []) h

pub no_link : (r : Readers) (old new : ℕ → List ℕ) (o : Object) → is_symbolic o.inode ≡ false → node_in r new (Some o) ≡ node_in r old (Some o)
no_link r old new o h = with_target r old new o (no_target r new o h ∙ sym (no_target r old o h))
