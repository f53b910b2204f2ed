use Rattle.std.proofs.Common.{sym, ap, ◌∙◌, ℕ, List, [], Option}
use Rattle.std.specs.Option.{unwrap_or}
use Rattle.jfs_bits.specs.Field.{field_of}
use Rattle.jfs_bits.specs.declared.extent.Xad.{Xad}
use Rattle.jfs_disk.specs.Image.{page_of}
use Rattle.jfs_reader.specs.objects.specs.Contents.{block_of, bytes_at}
use Rattle.jfs_mount.specs.Subject.{subject_of}
use Rattle.jfs_reader.proofs.Parts.{no_field}
use Rattle.jfs_mount.proofs.Rows.{mapsize_is}
use Rattle.jfs_mount.proofs.numbers.bad_mapsize.Goals as goal

pub returns-in_default-clause-finds : goal.returns-in_default-clause-finds
returns-in_default-clause-finds g c tells s is =
    let image = g.V.PageView.image c.args.view.now in
    let none = sym (c.in_default.ensures.page ∙ ap (λ (es : List Xad). block_of es 0) c.as_slice.ensures) in
    mapsize_is (subject_of s (page_of image)) c.args.maps.now is 0 0 c.bad_size.result
    (ap (λ (o : Option ℕ). unwrap_or o 0) none) (ap (λ (o : Option ℕ). field_of (unwrap_or (bytes_at (page_of image) o) []) 0 8) none ∙ no_field 0 8) c.bad_size.ensures

pub returns-in-Ok-clause-finds : goal.returns-in-Ok-clause-finds
returns-in-Ok-clause-finds g c tells s is =
    let image = g.V.PageView.image c.args.view.now in
    let some = sym (c.in-Some.ensures.page ∙ ap (λ (es : List Xad). block_of es 0) c.as_slice.ensures) in
    mapsize_is (subject_of s (page_of image)) c.args.maps.now is c.in-Some.n c.get_u64.result c.bad_size-in-Ok.result
    (ap (λ (o : Option ℕ). unwrap_or o 0) some)
    (ap (λ (o : Option ℕ). field_of (unwrap_or (bytes_at (page_of image) o) []) 0 8) some
    ∙ sym (ap (λ (p : List ℕ). field_of p 0 8) (c.bytes.ensures.value ∙ c.in-Ok.ensures.bytes tells)) ∙ sym c.get_u64.ensures.value)
    c.bad_size-in-Ok.ensures
